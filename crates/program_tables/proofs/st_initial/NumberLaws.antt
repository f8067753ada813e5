-- The numbers of a type are those of its initial value.
use Rattle.std.proofs.Common.{◌≡◌, ◌<◌, ℕ, zero, suc, ◌+◌, ℤ, pos, List, [], ◌∷◌, ◌++◌, take, Option, Some, None, refl, sym, ap, ap₂, ◌∙◌, arith}
use Rattle.std.specs.Prelude.{slice_get, option_and_then, ◌+ℤ◌}
use Rattle.std.proofs.lemmas.Int.{ints}
use Rattle.st_types.specs.declared.st_type.StType.{StType, out-StType}
use Rattle.st_types.specs.declared.st_type.StType.TheOpen.{StType-F}
use Rattle.st_tree.specs.declared.path.Step.TheVariants as step
use Rattle.st_tree.specs.declared.program.Note.{Note}
use Rattle.st_tree.specs.Initial.{Initial, FieldInits}
use Rattle.st_rules.specs.Chains.{◌or_else◌}
use Rattle.st_values.specs.Initial.{list_given, fields_given, given_for, elements, init, inits}
use Rattle.st_values.specs.Program.{Variable, Program, class_at, class_variables}
use Rattle.st_values.specs.Shape.{Shape, Elementary, Enumeration, Reference, Interface, Array, Structure, Instance, Fields, no_fields, field_then, extent, values_of, fields_of, fields_by, simple_shape, shape_by, shape_within}
use Rattle.st_values.specs.Value.{Path}
use Rattle.st_values.proofs.ValueLaws.{then_some}
use Rattle.st_values.proofs.ShapeLaws.{mapped_some}
use Rattle.program_tables.specs.st_initial.RegionNumbers.{further, numbers_in, elements_in, members_in}
use Rattle.program_tables.specs.st_initial.Variables.{or_none, fields_at}
use Rattle.program_tables.specs.st_initial.Private.Numbers.{Numbers, variable_numbers, element_numbers, level_numbers, simple_numbers, type_numbers}

module _ (p : Program) where
  -- what gives the numbers of a type at a depth
  pub record Gives (f : Numbers) (shapes : StType → Option Shape) : Type 0 where
    pub by : (q : Path) (t : StType) (sh : Shape) (i : Option (Initial Note)) → shapes t ≡ Some sh → f q t i ≡ numbers_in q (init sh i)

  variables_agree : (f : Numbers) (shapes : StType → Option Shape) → Gives f shapes → (vs : List Variable) (fs : Fields) (q : Path) (k : ℕ) (gs : FieldInits Note) → fields_by shapes vs ≡ Some fs → variable_numbers f q k vs gs ≡ members_in q k (inits fs gs)
  variables_agree f shapes g [] fs q k gs e = let d : no_fields ≡ fs = cc in ap (λ x. members_in q k (inits x gs)) d
  variables_agree f shapes g (v ∷ vs) fs q k gs e =
      let a = then_some (shapes v.kind) _ fs e in
      let b = then_some (fields_by shapes vs) _ fs a.2 in
      let d : field_then v a.0 b.0 ≡ fs = let x = b.2 in cc in
      ap₂ (λ m n. m ++ n) (g.by (further q (step.Field k)) v.kind a.0 (given_for v.name gs or_else v.initial) a.1) (variables_agree f shapes g vs b.0 q (suc k) gs b.1)
      ∙ ap (λ x. members_in q k (inits x gs)) d

  -- these are the values from number k on
  record Rest (is rest : List (Initial Note)) (k m : ℕ) : Type 0 where
    by : (j : ℕ) → j < m → slice_get rest j ≡ slice_get is (k + j)

  next_rest : (is : List (Initial Note)) (i : Initial Note) (rest : List (Initial Note)) (k m : ℕ) → Rest is (i ∷ rest) k (suc m) → Rest is rest (suc k) m
  next_rest is i rest k m h = record { by = λ j l. let e : k + suc j ≡ suc k + j = omega arith in h.by (suc j) (omega arith) ∙ ap (slice_get is) e }

  next_none : (is : List (Initial Note)) (k m : ℕ) → Rest is [] k (suc m) → Rest is [] (suc k) m
  next_none is k m h = record { by = λ j l. let e : k + suc j ≡ suc k + j = omega arith in h.by (suc j) (omega arith) ∙ ap (slice_get is) e }

  first_of_rest : (is rest : List (Initial Note)) (k m : ℕ) → Rest is rest k (suc m) → slice_get rest 0 ≡ slice_get is k
  first_of_rest is rest k m h = let e : k + 0 ≡ k = omega arith in h.by 0 (omega arith) ∙ ap (slice_get is) e

  elements_agree : (f : Numbers) (shapes : StType → Option Shape) → Gives f shapes → (t : StType) (sh : Shape) → shapes t ≡ Some sh → (q : Path) (low : ℤ) (is rest : List (Initial Note)) (k m : ℕ) → Rest is rest k m
      → element_numbers f q low t is k m ≡ elements_in q (low +ℤ pos k) (elements (init sh) m rest)
  elements_agree f shapes g t sh e q low is rest k zero h = refl
  elements_agree f shapes g t sh e q low is [] k (suc m) h =
      let n : low +ℤ pos (suc k) ≡ (low +ℤ pos k) +ℤ pos 1 = omega (arith, ints) in
      ap₂ (λ a b. a ++ b) (ap (f (further q (step.Element (low +ℤ pos k))) t) (sym (first_of_rest is [] k m h)) ∙ g.by (further q (step.Element (low +ℤ pos k))) t sh None e)
      (elements_agree f shapes g t sh e q low is [] (suc k) m (next_none is k m h) ∙ ap (λ z. elements_in q z (elements (init sh) m [])) n)
  elements_agree f shapes g t sh e q low is (i ∷ rest) k (suc m) h =
      let n : low +ℤ pos (suc k) ≡ (low +ℤ pos k) +ℤ pos 1 = omega (arith, ints) in
      ap₂ (λ a b. a ++ b) (ap (f (further q (step.Element (low +ℤ pos k))) t) (sym (first_of_rest is (i ∷ rest) k m h)) ∙ g.by (further q (step.Element (low +ℤ pos k))) t sh (Some i) e)
      (elements_agree f shapes g t sh e q low is rest (suc k) m (next_rest is i rest k m h) ∙ ap (λ z. elements_in q z (elements (init sh) m rest)) n)

  take_get : (n : ℕ) (is : List (Initial Note)) (j : ℕ) → j < n → slice_get is j ≡ slice_get (take n is) j
  take_get zero is j h = absurd (omega arith)
  take_get (suc n) [] j h = refl
  take_get (suc n) (i ∷ is) zero h = refl
  take_get (suc n) (i ∷ is) (suc j) h = take_get n is j (omega arith)

  all_rest : (n : ℕ) (is : List (Initial Note)) → Rest (take n is) is 0 n
  all_rest n is = record { by = λ j h. let e : j ≡ 0 + j = omega arith in take_get n is j h ∙ ap (slice_get (take n is)) e }

  level_agrees : (f : Numbers) (shapes : StType → Option Shape) → Gives f shapes → (q : Path) (o : StType-F StType) (sh : Shape) (i : Option (Initial Note)) → shape_by p shapes o ≡ Some sh → level_numbers p f q o i ≡ numbers_in q (init sh i)
  level_agrees f shapes g q (StType-F.Elementary e) sh i h = let d : Elementary e ≡ sh = cc in ap (λ x. numbers_in q (init x i)) d
  level_agrees f shapes g q (StType-F.Enumeration n) sh i h =
      let a = then_some (slice_get p.types n) _ sh h in
      let b = then_some (values_of a.0.body) _ sh a.2 in
      let d : Enumeration a.0.name b.0 ≡ sh = let x = b.2 in cc in
      ap (λ x. numbers_in q (init x i)) d
  level_agrees f shapes g q (StType-F.Reference c) sh i h = let a = mapped_some (λ k. Reference c k.name) (class_at p c) sh h in ap (λ x. numbers_in q (init x i)) a.2
  level_agrees f shapes g q (StType-F.Interface k) sh i h = let a = mapped_some (λ y. Interface k y.name) (slice_get p.interfaces k) sh h in ap (λ x. numbers_in q (init x i)) a.2
  level_agrees f shapes g q (StType-F.Array low high of) sh i h =
      let a = mapped_some (Array low (extent low high)) (shapes of) sh h in
      let z : low +ℤ pos 0 ≡ low = omega (arith, ints) in
      elements_agree f shapes g of a.0 a.1 q low (take (extent low high) (list_given i)) (list_given i) 0 (extent low high) (all_rest (extent low high) (list_given i))
      ∙ ap (λ y. elements_in q y (elements (init a.0) (extent low high) (list_given i))) z ∙ ap (λ x. numbers_in q (init x i)) a.2
  level_agrees f shapes g q (StType-F.Structure n) sh i h =
      let a = then_some (slice_get p.types n) _ sh h in
      let b = then_some (fields_of a.0.body) _ sh a.2 in
      let c = then_some (fields_by shapes b.0) _ sh b.2 in
      let d : Structure a.0.name c.0 ≡ sh = let x = c.2 in cc in
      let v : fields_at p n ≡ b.0 = ap (λ o. or_none (option_and_then (λ t. fields_of t.body) o)) a.1 ∙ ap or_none b.1 in
      ap (λ vs. variable_numbers f q 0 vs (fields_given i)) v ∙ variables_agree f shapes g b.0 c.0 q 0 (fields_given i) c.1 ∙ ap (λ x. numbers_in q (init x i)) d
  level_agrees f shapes g q (StType-F.Instance c) sh i h =
      let a = then_some (class_at p c) _ sh h in
      let b = then_some (fields_by shapes (class_variables p c)) _ sh a.2 in
      let d : Instance c a.0.name b.0 ≡ sh = let x = b.2 in cc in
      variables_agree f shapes g (class_variables p c) b.0 q 0 (fields_given i) b.1 ∙ ap (λ x. numbers_in q (init x i)) d

  simple_agrees : (q : Path) (o : StType-F StType) (sh : Shape) (i : Option (Initial Note)) → simple_shape p o ≡ Some sh → simple_numbers q o i ≡ numbers_in q (init sh i)
  simple_agrees q (StType-F.Elementary e) sh i h = let d : Elementary e ≡ sh = cc in ap (λ x. numbers_in q (init x i)) d
  simple_agrees q (StType-F.Enumeration n) sh i h =
      let a = then_some (slice_get p.types n) _ sh h in
      let b = then_some (values_of a.0.body) _ sh a.2 in
      let d : Enumeration a.0.name b.0 ≡ sh = let x = b.2 in cc in
      ap (λ x. numbers_in q (init x i)) d
  simple_agrees q (StType-F.Reference c) sh i h = let a = mapped_some (λ k. Reference c k.name) (class_at p c) sh h in ap (λ x. numbers_in q (init x i)) a.2
  simple_agrees q (StType-F.Interface k) sh i h = let a = mapped_some (λ y. Interface k y.name) (slice_get p.interfaces k) sh h in ap (λ x. numbers_in q (init x i)) a.2
  simple_agrees q (StType-F.Array low high of) sh i h = cc
  simple_agrees q (StType-F.Structure n) sh i h = cc
  simple_agrees q (StType-F.Instance c) sh i h = cc

  pub types_agree : (n : ℕ) → Gives (type_numbers p n) (shape_within p n)
  types_agree zero = record { by = λ q t sh i h. simple_agrees q (out-StType t) sh i h }
  types_agree (suc n) = record { by = λ q t sh i h. level_agrees (type_numbers p n) (shape_within p n) (types_agree n) q (out-StType t) sh i h }
