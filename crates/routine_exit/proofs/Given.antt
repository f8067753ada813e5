-- What is given to a routine, as its prologue asks for it.
use Rattle.std.specs.Prelude.{slice_range, slice_get}
use Rattle.std.proofs.Common.{Bool, ◌≤◌, ℕ, ◌+◌, arith, pos, true, length, refl, inl, inr, ◌≡◌, ◌<◌, ◌⊎◌, zero, suc, ◌-◌, false, List, [], ◌∷◌, ◌++◌, Option, Some, None, sym, ap, ◌∙◌, subst}
use Rattle.mem_layout.specs.store_bytes.Place.{size}
use Rattle.memory_access.proofs.Worded.{large_word}
use Rattle.shown_memory.specs.Passing.{LargeGiven, value_given, Keeps, IsPassed, slot_word, ArePassed}
use Rattle.shown_memory.specs.Shown.{kept_number, Open, Layout, Located, located, FramesShown, Small, path_word, value_word, word_at}
use Rattle.st_meaning.proofs.st_frame.Unfolded.{within_bound}
use Rattle.routine_entry.proofs.Entry.{LargeIn, SlotGiven, NumberWord, AllGiven, front_get, ForOne, one_local, one_variable, HeldGiven, NumberGiven, HeldWord}
use Rattle.memory_access.proofs.NumberKinds.{KindIs, word_sort, kind_shape, kind_value, no_instance}
use Rattle.st_meaning.proofs.st_frame.OfTypes.{of_place, OfKind}
use Rattle.st_values.specs.ShapeLaws.{Unfolds}
use Rattle.st_meaning.specs.st_frame.Promise.Types.{IsNoInstance, IsHeld}
use Rattle.code_rules.specs.Places.{is_large, of_parameter}
use Rattle.st_types.specs.declared.elem.Elem.{Elem}
use Rattle.st_types.specs.declared.st_type.StType.{StType}
use Rattle.st_types.specs.declared.elem.Elem.TheVariants as elem
use Rattle.st_types.specs.declared.st_type.StType.TheVariants as type
use Rattle.plc_num.specs.Wrapping.{wrapped}
use Rattle.st_tree.specs.declared.path.Path.{Path}
use Rattle.st_values.specs.Program.{Variable, Routine, Program}
use Rattle.st_values.specs.Value.{Value, number, reference}
use Rattle.st_values.specs.Shape.{Shape, shape_of, Reference, Interface, Instance, Fields, path_shape}
use Rattle.st_meaning.specs.State.{Spot, Slot, holds, bound, unbound, Frame}
use Rattle.st_meaning.specs.Call.{is_in_out, Given, for_local, for_variable}
use Rattle.st_meaning.specs.st_frame.Promise.Programs.{ProgramIs}
use Rattle.st_meaning.specs.st_frame.Promise.Declarations.{RoutineIs, ParameterIs, Each}
use Rattle.st_meaning.specs.st_frame.Promise.Calls.{own_variable, recipient_variable}
use Rattle.st_meaning.specs.st_frame.Good.{Fit, Held}
use Rattle.st_meaning.specs.st_frame.Promise.Names.{Scope}
use Rattle.st_meaning.proofs.st_frame.Spots.{SpotIs, SlotIs, GivenIs, GivenAre, VariableGiven, exactly}
use Rattle.stack_code.specs.declared.memory.Address.{Address}
use Rattle.stack_code.specs.Memory.{kept}
use Rattle.stack_code.specs.Steps.{Goes}
use Rattle.stack_code.specs.declared.memory.Word.TheVariants as word
use Rattle.mem_layout.specs.store_bytes.Spells.{Holds}
use Rattle.mem_layout.specs.store_bytes.StoreLaws.{IsAddress}
use Rattle.shown_memory.proofs.Geometry as geometry
use Rattle.shown_memory.proofs.Locals.{some_once}
use Rattle.memory_access.proofs.KeptAddresses.{KeptAddress, held_there}

goes_once : {A : Type 0} {a b : A} → Goes a ≡ Goes b → a ≡ b
goes_once e = cc

false_true : false ≡ true → ⊥
false_true e = cc

none_some : (q : Path) → None ≡ Some q → ⊥
none_some q e = cc

pub each_at : {A : Type 0} (P : A → Type 0) (xs : List A) (i : ℕ) (a : A) → Each P xs → slice_get xs i ≡ Some a → P a
each_at P [] i a h e = cc
each_at P (x ∷ xs) zero a h e = let d : x ≡ a = cc in subst P d h.0
each_at P (x ∷ xs) (suc i) a h e = each_at P xs i a h.1 e

front_same : {A : Type 0} (xs ys : List A) (i : ℕ) → i < length xs → slice_get (xs ++ ys) i ≡ slice_get xs i
front_same [] ys i l = absurd (omega (arith, l))
front_same (x ∷ xs) ys zero l = refl
front_same (x ∷ xs) ys (suc i) l = front_same xs ys i (omega (arith, l))

module _ (p : Program) (base : ℕ) where
  module _ (small : Small p) (fine : ProgramIs p) (F : ℕ → Type 0) (W : ℕ → Type 0) (gs : List Scope) (x : Routine) (ls : List Layout) (start : Address) (low : ℕ) (bs : List ℕ) (starts_at : (far : ℕ) → far ≤ length bs → KeptAddress p base (record start { offset = start.offset + far })) (addresses : (spot : Spot) (t : StType) → SpotIs p fine F W gs spot t → (l : Located) × (located p base ls spot ≡ Some l) × KeptAddress p base l.address) where
    -- what is held is NULL or an instance
    held_path : (sh : Shape) (w : Value) → IsAddress sh → Fit p sh w → (o : Option Path) × (w ≡ reference o) × ((q : Path) → o ≡ Some q → (class : ℕ) × (name : List ℕ) × (fs : Fields) × (path_shape p q ≡ Some (Instance class name fs)))
    held_path (Reference c name) (reference None) h f = (None, refl, λ q e. absurd (none_some q e))
    held_path (Reference c name) (reference (Some r)) h f = (Some r, refl, λ q e. (f.class, f.name, f.fields, ap (path_shape p) (sym (some_once e)) ∙ f.there))
    held_path (Interface i name) (reference None) h f = (None, refl, λ q e. absurd (none_some q e))
    held_path (Interface i name) (reference (Some r)) h f = (Some r, refl, λ q e. (f.class, f.name, f.fields, ap (path_shape p) (sym (some_once e)) ∙ f.there))
    held_path (Reference c name) w h f = absurd f
    held_path (Interface i name) w h f = absurd f
    held_path sh w h f = absurd h

    held_given : (at : ℕ) (a : Address) (v : Variable) (w : Value) (sh : Shape) → IsHeld v.kind → shape_of p v.kind ≡ Some sh → Fit p sh w → Keeps (value_word p base a w) bs at → HeldGiven p base x ls start bs at v w
    held_given at a v w sh held has_shape fit kept_word =
        let address = geometry.held_shape p fine sh v.kind held (exactly sh (within_bound p v.kind sh has_shape) refl) in
        let h = held_path sh w address fit in
        by h.0 h.1 h.2 address (subst (λ y. Keeps (value_word p base a y) bs at) h.1 kept_word)
      where
        by : (o : Option Path) → w ≡ reference o → ((q : Path) → o ≡ Some q → (class : ℕ) × (name : List ℕ) × (fs : Fields) × (path_shape p q ≡ Some (Instance class name fs))) → IsAddress sh → Keeps (path_word p base o) bs at → HeldGiven p base x ls start bs at v w
        by None e g address k =
            let same : k.z ≡ pos 0 = goes_once (sym k.is) in
            record { shape = sh; path = None; word_is = 0; held = held; has_shape = has_shape; address = address; is = e; refers = refl; decodes = refl; keeps = refl; stands = subst (λ y. Holds elem.Ulint y bs at) same k.holds_it }
        by (Some q) e g address k =
            let n = g q refl in
            let l = held_there p base small q n.0 n.1 n.2 n.3 in
            let word : path_word p base (Some q) ≡ word.Address l.0.address = ap (word_at p base) l.1 in
            let keeps = ap kept word ∙ l.2.keeps in
            let same : k.z ≡ pos (kept_number p base l.0.address) = goes_once (sym k.is ∙ keeps) in
            record { shape = sh; path = Some q; word_is = kept_number p base l.0.address; held = held; has_shape = has_shape; address = address; is = e; refers = l.3; decodes = l.2.decodes ∙ sym word; keeps = keeps; stands = subst (λ y. Holds elem.Ulint y bs at) same k.holds_it }

    -- a large value stands where its word says
    large_in : (at : ℕ) (a : Address) (v : Variable) (w : Value) → is_large v.kind ≡ true → LargeGiven p base start low bs a v.kind w → Keeps (value_word p base a w) bs at → LargeIn p base x ls start bs at v w
    large_in at a v w large h k =
        let word_is : value_word p base a w ≡ word.Address (record start { offset = start.offset + h.at }) = large_word p fine base a v.kind h.shape w (slice_range bs h.at (h.at + size h.shape)) 0 large (within_bound p v.kind h.shape h.has_shape) h.spells ∙ ap (λ b. word.Address b) h.address_is in
        let inside = h.inside in
        let ka = starts_at h.at (omega (arith, inside)) in
        let same : k.z ≡ pos (kept_number p base (record start { offset = start.offset + h.at })) = goes_once (sym k.is ∙ (ap kept word_is ∙ ka.keeps)) in
        record { far = h.at; shape = h.shape; large = large; has_shape = h.has_shape; inside = h.inside; spells = h.spells; decodes = ka.decodes; stands = subst (λ y. Holds elem.Ulint y bs at) same k.holds_it }

    slot_given : (at : ℕ) (a : Address) (v : Variable) (slot : Slot) → ((w : Value) → slot ≡ holds w → is_large v.kind ≡ true → LargeGiven p base start low bs a v.kind w) → SlotIs p fine F W gs v slot → Keeps (slot_word p base ls a slot) bs at → SlotGiven p base x ls start bs at v slot
    slot_given at a v (holds w) large is kept_word = (is.0, sized (is_large v.kind) refl)
      where
        u : Unfolds p v.kind is.1.0
        u = within_bound p v.kind is.1.0 is.1.1

        not_one : IsNoInstance v.kind
        not_one = no_instance p v.kind is.1.0 u is.1.2

        by : ((e : Elem) × KindIs v.kind e) ⊎ IsHeld v.kind → NumberGiven p base x ls start bs at v w ⊎ (HeldGiven p base x ls start bs at v w ⊎ LargeIn p base x ls start bs at v w)
        by (inl e) =
            let z = kind_value p F small v.kind e.0 w e.1 (of_place p F v.kind is.1.0 w not_one u is.1.3) in
            let k : Keeps (word.Number z.0) bs at = subst (λ y. Keeps (value_word p base a y) bs at) z.1 kept_word in
            let same : k.z ≡ wrapped elem.Ulint z.0 = goes_once (sym k.is) in
            inl (e.0, z.0, e.1, (is.1.0, is.1.1, kind_shape p v.kind e.0 is.1.0 e.1 u), z.1, z.2, subst (λ y. Holds elem.Ulint y bs at) same k.holds_it)
        by (inr held) = inr (inl (held_given at a v w is.1.0 held is.1.1 is.1.3 kept_word))

        sized : (b : Bool) → is_large v.kind ≡ b → NumberGiven p base x ls start bs at v w ⊎ (HeldGiven p base x ls start bs at v w ⊎ LargeIn p base x ls start bs at v w)
        sized true e = inr (inr (large_in at a v w e (large w refl e) kept_word))
        sized false e = by (word_sort v.kind e not_one)
    slot_given at a v (bound spot) large is kept_word =
        let l = addresses spot v.kind is.1 in
        let k : Keeps (word.Address l.0.address) bs at = subst (λ (y : Option Located). Keeps (word_at p base y) bs at) l.1 kept_word in
        let same : k.z ≡ pos (kept_number p base l.0.address) = goes_once (sym k.is ∙ l.2.keeps) in
        (is.0, (l.0, l.1, l.2, subst (λ y. Holds elem.Ulint y bs at) same k.holds_it))
    slot_given at a v unbound large is kept_word =
        let same : kept_word.z ≡ pos 0 = goes_once (sym kept_word.is) in
        (is, subst (λ y. Holds elem.Ulint y bs at) same kept_word.holds_it)

    -- what is given to a variable of the instance
    given_variable : (c : Option ℕ) (k : ℕ) (w : Value) → VariableGiven p fine F W c k w → (v : Variable) × (own_variable p c k ≡ Some v) × IsNoInstance v.kind × OfKind p F v.kind w
    given_variable None k w h = absurd h
    given_variable (Some c) k w h = (h.0, h.1, h.2, h.3)

    -- what is held by a variable is NULL or an instance
    path_held : (t : StType) (w : Value) → IsHeld t → OfKind p F t w → (o : Option Path) × (w ≡ reference o) × ((q : Path) → o ≡ Some q → (class : ℕ) × (name : List ℕ) × (fs : Fields) × (path_shape p q ≡ Some (Instance class name fs)))
    path_held (type.Reference c) w i h = (h.0, h.1, names_in (type.Reference c) h.0 h.2)
      where
        names_in : (t : StType) (o : Option Path) → Held p t o → (q : Path) → o ≡ Some q → (class : ℕ) × (name : List ℕ) × (fs : Fields) × (path_shape p q ≡ Some (Instance class name fs))
        names_in t None h q e = absurd (none_some q e)
        names_in t (Some r) h q e = (h.class, h.name, h.fields, ap (path_shape p) (sym (some_once e)) ∙ h.there)
    path_held (type.Interface c) w i h = (h.0, h.1, names_in (type.Interface c) h.0 h.2)
      where
        names_in : (t : StType) (o : Option Path) → Held p t o → (q : Path) → o ≡ Some q → (class : ℕ) × (name : List ℕ) × (fs : Fields) × (path_shape p q ≡ Some (Instance class name fs))
        names_in t None h q e = absurd (none_some q e)
        names_in t (Some r) h q e = (h.class, h.name, h.fields, ap (path_shape p) (sym (some_once e)) ∙ h.there)
    path_held t w i h = absurd i

    variable_word : (at : ℕ) (a : Address) (v : Variable) (w : Value) → ((e : Elem) × KindIs v.kind e) ⊎ IsHeld v.kind → OfKind p F v.kind w → Keeps (value_word p base a w) bs at → NumberWord p base x ls start bs at v w ⊎ (HeldWord p base x ls start bs at v w ⊎ LargeIn p base x ls start bs at v w)
    variable_word at a v w (inl e) h kept_word =
        let z = kind_value p F small v.kind e.0 w e.1 h in
        let kw : Keeps (word.Number z.0) bs at = subst (λ y. Keeps (value_word p base a y) bs at) z.1 kept_word in
        let same : kw.z ≡ wrapped elem.Ulint z.0 = goes_once (sym kw.is) in
        inl (e.0, z.0, e.1, z.1, z.2, subst (λ y. Holds elem.Ulint y bs at) same kw.holds_it)
    variable_word at a v w (inr held) h kept_word =
        let o = path_held v.kind w held h in
        inr (inl (by o.0 o.1 o.2 (subst (λ y. Keeps (value_word p base a y) bs at) o.1 kept_word)))
      where
        by : (o : Option Path) → w ≡ reference o → ((q : Path) → o ≡ Some q → (class : ℕ) × (name : List ℕ) × (fs : Fields) × (path_shape p q ≡ Some (Instance class name fs))) → Keeps (path_word p base o) bs at → HeldWord p base x ls start bs at v w
        by None e g k =
            let same : k.z ≡ pos 0 = goes_once (sym k.is) in
            record { path = None; word_is = 0; held = held; is = e; refers = refl; decodes = refl; keeps = refl; stands = subst (λ y. Holds elem.Ulint y bs at) same k.holds_it }
        by (Some q) e g k =
            let n = g q refl in
            let l = held_there p base small q n.0 n.1 n.2 n.3 in
            let word : path_word p base (Some q) ≡ word.Address l.0.address = ap (word_at p base) l.1 in
            let keeps = ap kept word ∙ l.2.keeps in
            let same : k.z ≡ pos (kept_number p base l.0.address) = goes_once (sym k.is ∙ keeps) in
            record { path = Some q; word_is = kept_number p base l.0.address; held = held; is = e; refers = l.3; decodes = l.2.decodes ∙ sym word; keeps = keeps; stands = subst (λ y. Holds elem.Ulint y bs at) same k.holds_it }

    any_word : (at : ℕ) (a : Address) (v : Variable) (w : Value) → (is_large v.kind ≡ true → LargeGiven p base start low bs a v.kind w) → IsNoInstance v.kind → OfKind p F v.kind w → Keeps (value_word p base a w) bs at → NumberWord p base x ls start bs at v w ⊎ (HeldWord p base x ls start bs at v w ⊎ LargeIn p base x ls start bs at v w)
    any_word at a v w large plain h kept_word = by (is_large v.kind) refl
      where
        by : (b : Bool) → is_large v.kind ≡ b → NumberWord p base x ls start bs at v w ⊎ (HeldWord p base x ls start bs at v w ⊎ LargeIn p base x ls start bs at v w)
        by true e = inr (inr (large_in at a v w e (large e) kept_word))
        by false e = variable_word at a v w (word_sort v.kind e plain) h kept_word

    -- the value of what is given to a local
    abbrev value_in : Slot → Option Value
    value_in slot = value_given (for_local 0 slot)

    for_one_is : (g : Given) → RoutineIs p x → IsPassed p base ls x start low x.parameters bs g → GivenIs p fine F W gs x.class x.locals g → ForOne p base x ls start bs g
    for_one_is (for_variable k w) ok passed is =
        let v = given_variable x.class k w is in
        let at = of_parameter passed.number in
        one_variable (record {
          index = passed.number;
          parameter = passed.parameter;
          there = passed.there;
          number_is = k;
          to = passed.to;
          variable = v.0;
          in_instance = v.1;
          value = w;
          is = refl;
          inside = passed.inside;
          word = any_word at passed.large_at v.0 w (λ e. passed.large w v.0 refl v.1 e) v.2 v.3 passed.word_kept;
        })
    for_one_is (for_local n slot) ok passed is =
        let i = passed.number in
        let q = passed.parameter in
        let v = is.0 in
        let qs = each_at (ParameterIs p x) x.parameters i q ok.parameters passed.there in
        let same : qs.0 ≡ v = some_once (sym qs.1 ∙ (ap (recipient_variable p x) passed.to ∙ is.1)) in
        one_local (record {
          index = i;
          parameter = q;
          there = passed.there;
          local = n;
          to = passed.to;
          variable = v;
          in_locals = is.1;
          sorted = ap is_in_out (sym qs.2 ∙ ap (λ (y : Variable). y.sort) same);
          slot = slot;
          is = refl;
          inside = passed.inside;
          word = slot_given (of_parameter i) passed.large_at v slot (λ w e large. passed.large w v (ap value_in e) is.1 large) is.2 passed.word_kept;
        })

    pub for_ones : (given : List Given) → RoutineIs p x → ArePassed p base ls x start low x.parameters bs given → GivenAre p fine F W gs x.class x.locals given → AllGiven (ForOne p base x ls start bs) given
    for_ones [] ok passed is = tt
    for_ones (g ∷ gs) ok passed is = (for_one_is g ok passed.0 is.0, for_ones gs ok passed.1 is.1)

  -- one more call
  pub frames_more : (ks : List Open) (fs : List Frame) (images : List (List ℕ)) (image : List ℕ) → FramesShown p base ks fs images → FramesShown p base ks fs (images ++ image ∷ [])
  frames_more [] [] images image h = tt
  frames_more [] (f ∷ fs) images image h = absurd h
  frames_more (k ∷ ks) [] images image h = absurd h
  frames_more (k ∷ ks) (f ∷ fs) images image h =
      let o = h.0 in
      (record { image = o.image; there = front_get images (image ∷ []) (base + length ks) o.image o.there; long = o.long; own = o.own; block = o.block; slots = o.slots; low = o.low; room = o.room; short = o.short; kept = o.kept }, frames_more ks fs images image h.1)

  -- and one call less
  pub frames_less : (ks : List Open) (fs : List Frame) (images : List (List ℕ)) (image : List ℕ) → base + length ks ≤ length images → FramesShown p base ks fs (images ++ image ∷ []) → FramesShown p base ks fs images
  frames_less [] [] images image l h = tt
  frames_less [] (f ∷ fs) images image l h = absurd h
  frames_less (k ∷ ks) [] images image l h = absurd h
  frames_less (k ∷ ks) (f ∷ fs) images image l h =
      let o = h.0 in
      (record { image = o.image; there = sym (front_same images (image ∷ []) (base + length ks) (omega (arith, l))) ∙ o.there; long = o.long; own = o.own; block = o.block; slots = o.slots; low = o.low; room = o.room; short = o.short; kept = o.kept }, frames_less ks fs images image (omega (arith, l)) h.1)
