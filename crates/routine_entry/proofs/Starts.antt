-- The initial values of locals are those with which code can begin.
use Rattle.std.proofs.Common.{◌≡◌, ℕ, zero, suc, Bool, true, false, List, [], ◌∷◌, Option, Some, None, refl, sym, ap, subst, inl, inr, ◌≤◌, ℤ, length, ◌∙◌, arith}
use Rattle.std.specs.Prelude.{◌||◌}
use Rattle.std.proofs.lemmas.Int.{ints}
use Rattle.st_tree.specs.declared.program.Note.{Note}
use Rattle.st_tree.specs.Initial.{Initial, FieldInits}
use Rattle.st_rules.specs.Chains.{◌or_else◌}
use Rattle.st_values.specs.Program.{Variable, Program}
use Rattle.st_values.specs.Value.{Value}
use Rattle.st_values.specs.Shape.{Shape, Elementary, Enumeration, Reference, Interface, Array, Structure, Instance, Fields, no_fields, field_then, shape_of, has_instance, a_field_has_instance}
use Rattle.st_values.specs.Initial.{number_given, list_given, fields_given, given_for, elements, init, inits, init_of}
use Rattle.st_meaning.specs.Call.{is_in_out}
use Rattle.mem_layout.specs.store_bytes.Spells.{count}
use Rattle.mem_layout.specs.store_bytes.InitialLaws.{EachGiven, IsInRange, AreInRange}
use Rattle.st_types.specs.Range.{Fits}
use Rattle.st_types.specs.declared.elem.Elem.TheVariants as elem
use Rattle.st_types.specs.declared.st_type.StType.{StType, out-StType}
use Rattle.st_types.specs.declared.st_type.StType.TheOpen.{StType-F}
use Rattle.st_types.specs.declared.st_type.StType.TheVariants as type
use Rattle.st_values.specs.ShapeLaws.{Unfolds, EachUnfolds}
use Rattle.st_meaning.specs.st_frame.Promise.Declarations.{Each, LocalIs, StartsRight, StartRight}
use Rattle.st_meaning.proofs.st_frame.Unfolded.{Opened, opened, within_bound}
use Rattle.shown_memory.specs.Shown.{Small}
use Rattle.memory_access.proofs.Worded.{outside, enumeration_is}
use Rattle.routine_entry.proofs.Entry.{Starts, FieldsStart, EachStarts, StartsAt, AllStart}

count-elements : (f : Option (Initial Note) → Value) (n : ℕ) (is : List (Initial Note)) → count (elements f n is) ≡ n
count-elements f zero is = refl
count-elements f (suc n) [] = ap suc (count-elements f n [])
count-elements f (suc n) (i ∷ is) = ap suc (count-elements f n is)

each_starts : (p : Program) (f : Option (Initial Note) → Value) (P : Option (Initial Note) → Type 0) (Q : Value → Type 0) → ((i : Option (Initial Note)) → P i → Q (f i)) → P None → (n : ℕ) (is : List (Initial Note)) → EachGiven P is → EachStarts p Q (elements f n is)
each_starts p f P Q g h zero is e = tt
each_starts p f P Q g h (suc n) [] e = (g None h, each_starts p f P Q g h n [] tt)
each_starts p f P Q g h (suc n) (i ∷ is) e = (g (Some i) e.0, each_starts p f P Q g h n is e.1)

no_first : (a b : Bool) → (a || b) ≡ false → a ≡ false
no_first true b e = e
no_first false b e = refl

no_second : (a b : Bool) → (a || b) ≡ false → b ≡ false
no_second true b e = cc
no_second false b e = e

module _ (p : Program) where
  mutual
    starts : (sh : Shape) (i : Option (Initial Note)) → IsInRange sh i → has_instance sh ≡ false → Starts p sh (init sh i)
    starts (Elementary e) i h free_of = (number_given i, refl, h)
    starts (Enumeration name values) i h free_of = (number_given i, refl, h)
    starts (Reference c name) i h free_of = refl
    starts (Interface k name) i h free_of = refl
    starts (Array low n sh) i h free_of = (elements (init sh) n (list_given i), refl, count-elements (init sh) n (list_given i), each_starts p (init sh) (IsInRange sh) (Starts p sh) (λ j q. starts sh j q free_of) h.0 n (list_given i) h.1)
    starts (Structure name fs) i h free_of = (inits fs (fields_given i), refl, fields_start fs (fields_given i) h free_of)
    starts (Instance c name fs) i h free_of = cc

    fields_start : (fs : Fields) (gs : FieldInits Note) → AreInRange fs gs → a_field_has_instance fs ≡ false → FieldsStart p fs (inits fs gs)
    fields_start no_fields gs h free_of = refl
    fields_start (field_then v sh fs) gs h free_of =
        (init sh (given_for v.name gs or_else v.initial), inits fs gs, refl, starts sh (given_for v.name gs or_else v.initial) h.0 (no_first (has_instance sh) (a_field_has_instance fs) free_of), fields_start fs gs h.1 (no_second (has_instance sh) (a_field_has_instance fs) free_of))

  -- a local whose initial value is in range; of an in-out nothing is asked
  abbrev pub LocalInRange : Variable → Type 0
  LocalInRange v = is_in_out v.sort ≡ false → (sh : Shape) × (shape_of p v.kind ≡ Some sh) × IsInRange sh v.initial × (has_instance sh ≡ false)

  abbrev pub LocalsInRange : List Variable → Type 0
  LocalsInRange [] = Unit {0}
  LocalsInRange (v ∷ vs) = LocalInRange v × LocalsInRange vs

  pub all_start : (vs : List Variable) → LocalsInRange vs → AllStart p vs
  all_start [] h = tt
  all_start (v ∷ vs) h = (by (is_in_out v.sort) refl, all_start vs h.1)
    where
      by : (b : Bool) → is_in_out v.sort ≡ b → StartsAt p v
      by true e = inl e
      by false e =
          let l = h.0 e in
          inr (e, (l.0, l.1, subst (Starts p l.0) (sym (ap (λ o. init_of o v.initial) l.1)) (starts l.0 v.initial l.2 l.3)))

  -- ---- what is promised of locals

  module _ (small : Small p) where
    enumerators_few : (t : StType) (name : List ℕ) (values : List (List ℕ)) → Unfolds p t (Enumeration name values) → length values ≤ 4294967296
    enumerators_few t name values u = by (out-StType t) refl (opened p t (out-StType t) (Enumeration name values) refl u)
      where
        by : (o : StType-F StType) → out-StType t ≡ o → Opened p o (Enumeration name values) → length values ≤ 4294967296
        by (StType-F.Enumeration n) q h =
            let t_is : t ≡ type.Enumeration n = outside p t (StType-F.Enumeration n) q ∙ type.rolls-Enumeration n in
            let a = enumeration_is p n (Enumeration name values) (subst (λ y. Unfolds p y (Enumeration name values)) t_is u) in
            let same : values ≡ a.1 = let e = a.4 in cc in
            let few = small.values n a.0 a.1 a.2 a.3 in
            subst (λ l. length l ≤ 4294967296) (sym same) few
        by (StType-F.Elementary e) q h = cc
        by (StType-F.Reference c) q h = let e = h.1 in cc
        by (StType-F.Interface i) q h = let e = h.1 in cc
        by (StType-F.Instance c) q h = let e = h.3 in cc
        by (StType-F.Structure n) q h = let e = h.5 in cc
        by (StType-F.Array low high of) q h = let e = h.1 in cc

    -- what an array and a structure are made of
    array_part : (t : StType) (low : ℤ) (n : ℕ) (sh : Shape) → Unfolds p t (Array low n sh) → (of : StType) × Unfolds p of sh
    array_part t low n sh u = by (out-StType t) (opened p t (out-StType t) (Array low n sh) refl u)
      where
        by : (o : StType-F StType) → Opened p o (Array low n sh) → (of : StType) × Unfolds p of sh
        by (StType-F.Array lo high of) h = let same : h.0 ≡ sh = let e = h.1 in cc in (of, subst (Unfolds p of) same h.2)
        by (StType-F.Elementary e) h = cc
        by (StType-F.Enumeration k) h = let e = h.2 in cc
        by (StType-F.Reference c) h = let e = h.1 in cc
        by (StType-F.Interface i) h = let e = h.1 in cc
        by (StType-F.Instance c) h = let e = h.3 in cc
        by (StType-F.Structure k) h = let e = h.5 in cc

    structure_parts : (t : StType) (name : List ℕ) (fs : Fields) → Unfolds p t (Structure name fs) → (vs : List Variable) × EachUnfolds p vs fs
    structure_parts t name fs u = by (out-StType t) (opened p t (out-StType t) (Structure name fs) refl u)
      where
        by : (o : StType-F StType) → Opened p o (Structure name fs) → (vs : List Variable) × EachUnfolds p vs fs
        by (StType-F.Structure k) h = let same : h.2 ≡ fs = let e = h.5 in cc in (h.1, subst (EachUnfolds p h.1) same h.6)
        by (StType-F.Elementary e) h = cc
        by (StType-F.Enumeration k) h = let e = h.2 in cc
        by (StType-F.Reference c) h = let e = h.1 in cc
        by (StType-F.Interface i) h = let e = h.1 in cc
        by (StType-F.Instance c) h = let e = h.3 in cc
        by (StType-F.Array low high of) h = let e = h.1 in cc

    each_range : (P Q : Option (Initial Note) → Type 0) → ((i : Option (Initial Note)) → P i → Q i) → (is : List (Initial Note)) → Each (λ j. P (Some j)) is → EachGiven Q is
    each_range P Q f [] h = tt
    each_range P Q f (i ∷ is) h = (f (Some i) h.0, each_range P Q f is h.1)

    -- an initial value that has the shape is in range
    mutual
      in_range : (sh : Shape) (t : StType) (i : Option (Initial Note)) → Unfolds p t sh → has_instance sh ≡ false → StartsRight sh i → IsInRange sh i
      in_range (Elementary e) t i u free_of h = h
      in_range (Enumeration name values) t i u free_of h =
          let few = enumerators_few t name values u in
          let below = h.2 in
          subst (Fits elem.Udint) (sym h.1) (omega (arith, ints), omega (arith, ints, below, few))
      in_range (Reference c name) t i u free_of h = tt
      in_range (Interface k name) t i u free_of h = tt
      in_range (Array low n sh) t i u free_of h = let a = array_part t low n sh u in (in_range sh a.0 None a.1 free_of h.0, each_range (StartsRight sh) (IsInRange sh) (λ j q. in_range sh a.0 j a.1 free_of q) (list_given i) h.1)
      in_range (Structure name fs) t i u free_of h = let a = structure_parts t name fs u in fields_in_range fs a.0 (fields_given i) a.1 free_of h
      in_range (Instance c name fs) t i u free_of h = cc

      fields_in_range : (fs : Fields) (vs : List Variable) (gs : FieldInits Note) → EachUnfolds p vs fs → a_field_has_instance fs ≡ false → StartRight fs gs → AreInRange fs gs
      fields_in_range no_fields vs gs u free_of h = tt
      fields_in_range (field_then v sh fs) [] gs u free_of h = absurd u
      fields_in_range (field_then v sh fs) (w ∷ vs) gs u free_of h =
          (in_range sh w.kind (given_for v.name gs or_else v.initial) u.1 (no_first (has_instance sh) (a_field_has_instance fs) free_of) h.0, fields_in_range fs vs gs u.2 (no_second (has_instance sh) (a_field_has_instance fs) free_of) h.1)

    -- the locals of a routine begin as code can begin them
    pub locals_start : (vs : List Variable) → Each (LocalIs p) vs → AllStart p vs
    locals_start vs h = all_start vs (by vs h)
      where
        by : (vs : List Variable) → Each (LocalIs p) vs → LocalsInRange vs
        by [] h = tt
        by (v ∷ vs) h = (λ e. (let a = h.0 e in (a.0, a.1, in_range a.0 v.kind v.initial (within_bound p v.kind a.0 a.1) a.3 a.2, a.3)), by vs h.1)
