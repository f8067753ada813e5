-- What types tell of values and of the words that stand for them.
use Rattle.std.proofs.Common.{◌≡◌, ◌⊎◌, ◌<◌, ℕ, zero, suc, ℤ, pos, Bool, true, false, List, [], ◌∷◌, length, Option, Some, None, refl, sym, ap, ◌∙◌, subst, arith, inl, inr, ⊎_elim}
use Rattle.std.specs.Prelude.{if◌then◌else◌, ◌||◌, slice_get, nat_eq, nat_lt}
use Rattle.std.proofs.lemmas.Int.{ints}
use Rattle.st_types.specs.Range.{Fits}
use Rattle.st_types.specs.declared.st_type.StType.{StType, out-StType, roll-StType, roll-out-StType}
use Rattle.st_types.specs.declared.st_type.StType.TheOpen.{StType-F}
use Rattle.st_types.specs.declared.elem.Elem.TheVariants as elem
use Rattle.st_types.specs.declared.st_type.StType.TheVariants as type
use Rattle.st_tree.specs.declared.expression.Operator.{Operator}
use Rattle.st_tree.specs.declared.path.Step.{Step}
use Rattle.st_tree.specs.declared.path.Path.{Path}
use Rattle.st_tree.specs.declared.expression.Operator.TheVariants as operator
use Rattle.st_tree.specs.declared.path.Step.TheVariants as step
use Rattle.st_values.specs.Program.{Variable, TypeEntry, Program}
use Rattle.st_values.specs.Value.{Value, number, reference, array, structure, instance, place_of_index}
use Rattle.st_values.specs.Shape.{Shape, Elementary, Enumeration, Reference, Interface, Array, Structure, Instance, Fields, no_fields, field_then, values_of, simple_shape, shape_by, shape_within, shape_of, shape_part, shape_at, field, element_shape, has_instance, a_field_has_instance, region_shape}
use Rattle.st_values.specs.ShapeLaws.{Unfolds}
use Rattle.st_values.proofs.ValueLaws.{then_some, one_some}
use Rattle.st_values.proofs.ShapeLaws.{one_deeper}
use Rattle.st_meaning.specs.State.{in_frame, Slot, holds, bound, unbound, Frame}
use Rattle.st_meaning.specs.st_frame.Good.{Held, Fit}
use Rattle.st_meaning.specs.st_frame.Promise.Names.{Scope}
use Rattle.st_meaning.specs.st_frame.Promise.Programs.{ProgramIs}
use Rattle.st_meaning.specs.st_frame.Promise.Types.{NumberIs, IsNumeric, IsHeld, IsPath, IsNoInstance, Widens, same_type, wider_number, wider_path}
use Rattle.st_meaning.specs.st_frame.Promise.Operators.{Comparable, OperationIs}
use Rattle.st_meaning.proofs.st_frame.OfTypes.{OfKind}
use Rattle.st_meaning.proofs.st_frame.Spots.{scope_at, variable_shape, local_shape, spot_shape, Meets, as_plain, as_instance, SlotsAre, FramesAre}
use Rattle.st_meaning.proofs.st_frame.Unfolded.{opened, Opened, within_bound}
use Rattle.stack_code.specs.declared.memory.Address.{Address}
use Rattle.stack_code.specs.declared.memory.Word.{Word}
use Rattle.stack_code.specs.declared.memory.Word.TheVariants as word
use Rattle.mem_layout.specs.store_bytes.Spells.{Spells}
use Rattle.mem_layout.specs.store_bytes.StoreLaws.{IsNumber}
use Rattle.code_rules.specs.Code.{is_held}
use Rattle.code_rules.specs.Places.{is_large}
use Rattle.shown_memory.specs.Passing.{IsWord}
use Rattle.shown_memory.specs.Shown.{value_word, path_word, word_at, Small}
use Rattle.memory_access.proofs.Likes.{InstanceAt, instance_at}

abbrev pub NoNumber : Word → Type 0
NoNumber (word.Number z) = ⊥
NoNumber w = Unit {0}

abbrev pub by_size : Bool → Type 0 → Type 0 → Type 0
by_size true a b = a
by_size false a b = b

clash : false ≡ true → ⊥
clash e = cc

-- an array or a structure
abbrev pub IsRow : Shape → Type 0
IsRow (Array low n sh) = Unit {0}
IsRow (Structure name fs) = Unit {0}
IsRow sh = ⊥

pub large_plain : (t : StType) → is_large t ≡ true → IsNoInstance t
large_plain (type.Instance c) e = absurd (clash e)
large_plain t e = tt

pub held_path : (t : StType) → IsHeld t → IsPath t
held_path (type.Reference c) h = tt
held_path (type.Interface i) h = tt
held_path t h = absurd h

pub held_small : (t : StType) → IsHeld t → is_large t ≡ false
held_small (type.Reference c) h = refl
held_small (type.Interface i) h = refl
held_small t h = absurd h

pub path_small : (t : StType) → IsPath t → is_large t ≡ false
path_small (type.Instance c) h = refl
path_small (type.Reference c) h = refl
path_small (type.Interface i) h = refl
path_small t h = absurd h

pub numeric_small : (t : StType) → IsNumeric t → is_large t ≡ false
numeric_small (type.Elementary e) h = refl
numeric_small (type.Enumeration n) h = refl
numeric_small t h = absurd h

pub held_no_number : (t : StType) → IsHeld t → is_held t ≡ false → ⊥
held_no_number (type.Reference c) h e = clash (sym e)
held_no_number (type.Interface i) h e = clash (sym e)
held_no_number t h e = absurd h

pub number_not_held : (t : StType) → IsNumeric t → is_held t ≡ true → ⊥
number_not_held (type.Elementary k) h e = clash e
number_not_held (type.Enumeration n) h e = clash e
number_not_held t h e = absurd h

-- numbers are compared, or references
pub compared_sort : (p : Program) (t u : StType) → Comparable p t u → (IsNumeric t × IsNumeric u) ⊎ (IsHeld t × IsHeld u)
compared_sort p (type.Elementary a) (type.Elementary b) h = inl (tt, tt)
compared_sort p (type.Elementary a) u h = absurd h.0
compared_sort p (type.Enumeration n) (type.Enumeration m) h = inl (tt, tt)
compared_sort p (type.Enumeration n) u h = absurd h.0
compared_sort p t u h = inr h

pair_small : (p : Program) (t u : StType) → Comparable p t u → (is_large t ≡ false) × (is_large u ≡ false)
pair_small p t u h = ⊎_elim (λ k. (numeric_small t k.0, numeric_small u k.1)) (λ k. (held_small t k.0, held_small u k.1)) (compared_sort p t u h)

-- what serves where a word is asked is one
pub widens_small : (p : Program) (t u : StType) → Widens p t u → is_large u ≡ false → is_large t ≡ false
widens_small p t u same_type e = e
widens_small p t u (wider_number h) e = refl
widens_small p t u (wider_path i h n) e = path_small t i

pub widens_large : (p : Program) (t u : StType) → Widens p t u → is_large u ≡ true → t ≡ u
widens_large p t u same_type e = refl
widens_large p t u (wider_number h) e = absurd (clash e)
widens_large p t u (wider_path i h n) e = absurd (clash (sym (held_small u h) ∙ e))

-- operands and results are words
pub operation_small : (p : Program) (o : Operator) (t u w : StType) → OperationIs p o t u w → (is_large t ≡ false) × (is_large u ≡ false) × (is_large w ≡ false)
operation_small p operator.AndThen t u w h = (ap is_large h.0, ap is_large h.1, ap is_large h.2)
operation_small p operator.OrElse t u w h = (ap is_large h.0, ap is_large h.1, ap is_large h.2)
operation_small p operator.Equal t u w h = let s = pair_small p t u h.0 in (s.0, s.1, ap is_large h.1)
operation_small p operator.Differs t u w h = let s = pair_small p t u h.0 in (s.0, s.1, ap is_large h.1)
operation_small p operator.Less t u w h = (ap is_large h.0.1, ap is_large h.1.1, ap is_large h.2)
operation_small p operator.Greater t u w h = (ap is_large h.0.1, ap is_large h.1.1, ap is_large h.2)
operation_small p operator.AtMost t u w h = (ap is_large h.0.1, ap is_large h.1.1, ap is_large h.2)
operation_small p operator.AtLeast t u w h = (ap is_large h.0.1, ap is_large h.1.1, ap is_large h.2)
operation_small p operator.Plus t u w h = (ap is_large h.3, ap is_large h.4, ap is_large h.5)
operation_small p operator.Minus t u w h = (ap is_large h.3, ap is_large h.4, ap is_large h.5)
operation_small p operator.Times t u w h = (ap is_large h.3, ap is_large h.4, ap is_large h.5)
operation_small p operator.Divide t u w h = (ap is_large h.3, ap is_large h.4, ap is_large h.5)
operation_small p operator.Modulo t u w h = (ap is_large h.3, ap is_large h.4, ap is_large h.5)
operation_small p operator.And t u w h = (ap is_large h.3, ap is_large h.4, ap is_large h.5)
operation_small p operator.Or t u w h = (ap is_large h.3, ap is_large h.4, ap is_large h.5)
operation_small p operator.Xor t u w h = (ap is_large h.3, ap is_large h.4, ap is_large h.5)

module _ (p : Program) where
  pub outside : (t : StType) (o : StType-F StType) → out-StType t ≡ o → t ≡ roll-StType o
  outside t o q = sym (roll-out-StType t) ∙ ap roll-StType q

  pub large_row : (t : StType) (sh : Shape) → is_large t ≡ true → Unfolds p t sh → IsRow sh
  large_row t sh large u = by (out-StType t) refl (opened p t (out-StType t) sh refl u)
    where
      no : (w : StType) → t ≡ w → is_large w ≡ false → IsRow sh
      no w q e = absurd (clash (sym e ∙ (ap is_large (sym q) ∙ large)))

      by : (o : StType-F StType) → out-StType t ≡ o → Opened p o sh → IsRow sh
      by (StType-F.Elementary e) q h = no (type.Elementary e) (outside t (StType-F.Elementary e) q ∙ type.rolls-Elementary e) refl
      by (StType-F.Enumeration n) q h = no (type.Enumeration n) (outside t (StType-F.Enumeration n) q ∙ type.rolls-Enumeration n) refl
      by (StType-F.Reference c) q h = no (type.Reference c) (outside t (StType-F.Reference c) q ∙ type.rolls-Reference c) refl
      by (StType-F.Interface i) q h = no (type.Interface i) (outside t (StType-F.Interface i) q ∙ type.rolls-Interface i) refl
      by (StType-F.Instance c) q h = no (type.Instance c) (outside t (StType-F.Instance c) q ∙ type.rolls-Instance c) refl
      by (StType-F.Structure n) q h = subst IsRow (sym h.5) tt
      by (StType-F.Array low high of) q h = subst IsRow (sym h.1) tt

  row_no_number : (sh : Shape) (z : ℤ) → IsRow sh → Fit p sh (number z) → ⊥
  row_no_number (Array low n sh) z r f = f
  row_no_number (Structure name fs) z r f = f
  row_no_number sh z r f = absurd r

  -- a constant or an enumerator is a word
  pub number_small : (t : StType) (z : ℤ) → NumberIs p t z → is_large t ≡ false
  number_small t z h = by (is_large t) refl
    where
      by : (b : Bool) → is_large t ≡ b → is_large t ≡ false
      by true e = absurd (row_no_number h.0 z (large_row t h.0 e (within_bound p t h.0 h.1)) h.2)
      by false e = e

  -- ---- numbers

  pub enumeration_is : (n : ℕ) (sh : Shape) → Unfolds p (type.Enumeration n) sh → (x : TypeEntry) × (values : List (List ℕ)) × (slice_get p.types n ≡ Some x) × (values_of x.body ≡ Some values) × (sh ≡ Enumeration x.name values)
  enumeration_is n sh u =
      let e : simple_shape p (StType-F.Enumeration n) ≡ Some sh = subst (λ o. shape_by p (shape_within p u.depth) o ≡ Some sh) (type.outs-Enumeration n) ((one_deeper p u.depth).by (type.Enumeration n) sh u.by) in
      let a = then_some (slice_get p.types n) _ sh e in
      let b = then_some (values_of a.0.body) _ sh a.2 in
      let d : Enumeration a.0.name b.0 ≡ sh = let x = b.2 in cc in
      (a.0, b.0, a.1, b.1, sym d)

  pub enumeration_shape : (fine : ProgramIs p) (n : ℕ) (sh : Shape) → Meets p (Some sh) (type.Enumeration n) → IsNumber sh elem.Udint
  enumeration_shape fine n sh m =
      let a = as_plain p fine (Some sh) (type.Enumeration n) tt m in
      let same : sh ≡ a.0 = let e = a.2 in cc in
      let o = enumeration_is n a.0 a.1 in
      subst (λ x. IsNumber x elem.Udint) (sym (same ∙ o.4)) refl

  module _ (F : ℕ → Type 0) where
    pub numeric_value : (t : StType) (v : Value) → IsNumeric t → OfKind p F t v → (z : ℤ) × (v ≡ number z)
    numeric_value (type.Elementary e) v i h = by v (subst (λ x. Fit p x v) (opened p (type.Elementary e) (StType-F.Elementary e) h.0 (type.outs-Elementary e) h.1) h.2)
      where
        by : (x : Value) → Fit p (Elementary e) x → (z : ℤ) × (x ≡ number z)
        by (number z) h = (z, refl)
        by (reference o) h = absurd h
        by (array l vs) h = absurd h
        by (structure m ms) h = absurd h
        by (instance m ms) h = absurd h
    numeric_value (type.Enumeration n) v i h = let o = enumeration_is n h.0 h.1 in by o.0.name o.1 v (subst (λ x. Fit p x v) o.4 h.2)
      where
        by : (name : List ℕ) (values : List (List ℕ)) (x : Value) → Fit p (Enumeration name values) x → (z : ℤ) × (x ≡ number z)
        by name values (number z) h = (z, refl)
        by name values (reference o) h = absurd h
        by name values (array l vs) h = absurd h
        by name values (structure m ms) h = absurd h
        by name values (instance m ms) h = absurd h
    numeric_value t v i h = absurd i

    -- an enumerator's number has 32 bits
    pub enumerator_fits : Small p → (n : ℕ) (z : ℤ) → OfKind p F (type.Enumeration n) (number z) → Fits elem.Udint z
    enumerator_fits small n z h =
        let o = enumeration_is n h.0 h.1 in
        let f : (k : ℕ) × (z ≡ pos k) × (k < length o.1) = subst (λ x. Fit p x (number z)) o.4 h.2 in
        let few = small.values n o.0 o.1 o.2 o.3 in
        let below = f.2 in
        subst (Fits elem.Udint) (sym f.1) (omega (arith, ints), omega (arith, ints, below, few))

  -- ---- words

  pub large_word : (fine : ProgramIs p) (base : ℕ) (a : Address) (t : StType) (sh : Shape) (v : Value) (bytes : List ℕ) (i : ℕ) → is_large t ≡ true → Unfolds p t sh → Spells (region_shape p) sh v bytes i → value_word p base a v ≡ word.Address a
  large_word fine base a t sh v bytes i large u s = by sh (large_row t sh large u) s
    where
      by : (x : Shape) → IsRow x → Spells (region_shape p) x v bytes i → value_word p base a v ≡ word.Address a
      by (Array low n x) r s = ap (value_word p base a) s.1
      by (Structure name fs) r s = ap (value_word p base a) s.1
      by x r s = absurd r

  pub large_no_word : (t : StType) (sh : Shape) (v : Value) (bytes : List ℕ) (i : ℕ) → is_large t ≡ true → Unfolds p t sh → Spells (region_shape p) sh v bytes i → IsWord v → ⊥
  large_no_word t sh v bytes i large u s = by sh (large_row t sh large u) s
    where
      by : (x : Shape) → IsRow x → Spells (region_shape p) x v bytes i → IsWord v → ⊥
      by (Array low n x) r s h = subst IsWord s.1 h
      by (Structure name fs) r s h = subst IsWord s.1 h
      by x r s h = absurd r

  module _ (base : ℕ) (is_there : ℕ → Bool) (now : ℕ) where
    -- what is held leads to an instance
    pub instances : (t : StType) (o : Option Path) → Held p t o → (q : Path) → o ≡ Some q → InstanceAt p base is_there now q
    instances t None h q e = absurd (none e)
      where
        none : {q : Path} → None ≡ Some q → ⊥
        none e = cc
    instances t (Some r) h q e = let d : r ≡ q = cc in subst (InstanceAt p base is_there now) d (instance_at p base is_there now r h.class h.name h.fields h.there)

    pub no_number : (o : Option Path) → ((q : Path) → o ≡ Some q → InstanceAt p base is_there now q) → NoNumber (path_word p base o)
    no_number None k = tt
    no_number (Some q) k = subst NoNumber (sym (ap (word_at p base) (k q refl).is)) tt

-- ---- no local holds an instance

neither : (a b : Bool) → (a || b) ≡ false → (a ≡ false) × (b ≡ false)
neither false false e = (refl, refl)
neither false true e = absurd (clash (sym e))
neither true b e = absurd (clash (sym e))

field_none : (fs : Fields) (k : ℕ) (part : Shape) → a_field_has_instance fs ≡ false → field fs k ≡ Some part → has_instance part ≡ false
field_none no_fields k part h e = cc
field_none (field_then v sh fs) zero part h e = let d : sh ≡ part = cc in subst (λ x. has_instance x ≡ false) d (neither (has_instance sh) (a_field_has_instance fs) h).0
field_none (field_then v sh fs) (suc k) part h e = field_none fs k part (neither (has_instance sh) (a_field_has_instance fs) h).1 e

element_none : (n : ℕ) (sh part : Shape) (o : Option ℕ) → has_instance sh ≡ false → element_shape n sh o ≡ Some part → has_instance part ≡ false
element_none n sh part None h e = cc
element_none n sh part (Some k) h e = by (nat_lt k n) e
  where
    by : (b : Bool) → (if b then Some sh else None) ≡ Some part → has_instance part ≡ false
    by true q = let d : sh ≡ part = cc in subst (λ x. has_instance x ≡ false) d h
    by false q = cc

part_none : (sh : Shape) (s : Step) (part : Shape) → has_instance sh ≡ false → shape_part sh s ≡ Some part → has_instance part ≡ false
part_none (Array low n sh) (step.Element i) part h e = element_none n sh part (place_of_index low i) h e
part_none (Structure name fs) (step.Field k) part h e = field_none fs k part h e
part_none (Instance c name fs) s part h e = absurd (clash (sym h))
part_none (Elementary x) s part h e = cc
part_none (Enumeration name values) s part h e = cc
part_none (Reference c name) s part h e = cc
part_none (Interface k name) s part h e = cc
part_none (Array low n sh) (step.Field k) part h e = cc
part_none (Structure name fs) (step.Element i) part h e = cc

parts_none : (ss : List Step) (sh part : Shape) → has_instance sh ≡ false → shape_at sh ss ≡ Some part → has_instance part ≡ false
parts_none [] sh part h e = let d : sh ≡ part = cc in subst (λ x. has_instance x ≡ false) d h
parts_none (s ∷ ss) sh part h e = let a = then_some (shape_part sh s) _ part e in parts_none ss a.0 part (part_none sh s a.0 h a.1) a.2

module _ (p : Program) (fine : ProgramIs p) (F W : ℕ → Type 0) where
  slot_none : (gs : List Scope) (vs : List Variable) (ss : List Slot) (n : ℕ) (sh : Shape) → SlotsAre p fine F W gs vs ss → variable_shape p (slice_get vs n) ≡ Some sh → has_instance sh ≡ false
  slot_none gs [] ss n sh h e = cc
  slot_none gs (v ∷ vs) [] n sh h e = absurd h
  slot_none gs (v ∷ vs) (s ∷ ss) (suc n) sh h e = slot_none gs vs ss n sh h.1 e
  slot_none gs (v ∷ vs) (holds w ∷ ss) zero sh h e =
      let f : shape_of p v.kind ≡ Some sh = sym (ap (λ b. if b then None else shape_of p v.kind) h.0.0) ∙ e in
      let d : h.0.1.0 ≡ sh = one_some (shape_of p v.kind) h.0.1.0 sh h.0.1.1 f in
      subst (λ x. has_instance x ≡ false) d h.0.1.2
  slot_none gs (v ∷ vs) (bound q ∷ ss) zero sh h e =
      let f : None ≡ Some sh = sym (ap (λ b. if b then None else shape_of p v.kind) h.0.0) ∙ e in
      absurd (no_shape sh f)
    where
      no_shape : (sh : Shape) → None ≡ Some sh → ⊥
      no_shape sh f = cc
  slot_none gs (v ∷ vs) (unbound ∷ ss) zero sh h e =
      let f : None ≡ Some sh = sym (ap (λ b. if b then None else shape_of p v.kind) h.0) ∙ e in
      absurd (no_shape sh f)
    where
      no_shape : (sh : Shape) → None ≡ Some sh → ⊥
      no_shape sh f = cc

  local_none : (gs : List Scope) (fs : List Frame) (d n : ℕ) (sh : Shape) → FramesAre p fine F W gs fs → local_shape p (scope_at gs d) n ≡ Some sh → has_instance sh ≡ false
  local_none [] fs d n sh h e = cc
  local_none (g ∷ gs) [] d n sh h e = absurd h
  local_none (g ∷ gs) (f ∷ fs) d n sh h e = by (nat_eq d (length gs)) (local_none gs fs d n sh h.1) e
    where
      by : (b : Bool) → (local_shape p (scope_at gs d) n ≡ Some sh → has_instance sh ≡ false) → local_shape p (if b then Some g else scope_at gs d) n ≡ Some sh → has_instance sh ≡ false
      by true k q = slot_none gs g.locals f.locals n sh h.0.slots q
      by false k q = k q

  pub none_in_frame : (gs : List Scope) (fs : List Frame) (d n : ℕ) (ss : List Step) (c : ℕ) → FramesAre p fine F W gs fs → Meets p (spot_shape p gs (in_frame d n ss)) (type.Instance c) → ⊥
  none_in_frame gs fs d n ss c h m =
      let a = as_instance p fine (spot_shape p gs (in_frame d n ss)) c m in
      let b = then_some (local_shape p (scope_at gs d) n) _ (Instance a.0 a.1 a.2) a.3 in
      clash (sym (parts_none ss b.0 (Instance a.0 a.1 a.2) (local_none gs fs d n b.0 h b.1) b.2))
