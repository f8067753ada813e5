-- The walks list instances, by their paths.
use Rattle.std.proofs.Common.{◌≡◌, ◌<◌, ℕ, zero, suc, ◌+◌, ℤ, pos, Bool, true, false, List, [], ◌∷◌, ◌++◌, Option, Some, None, refl, ap, ◌∙◌, subst, arith}
use Rattle.std.specs.Prelude.{if◌then◌else◌, ◌+ℤ◌, ◌-ℤ◌}
use Rattle.std.proofs.lemmas.Bool.{lt-ltb}
use Rattle.std.proofs.lemmas.Int.{ints}
use Rattle.st_tree.specs.declared.path.Step.TheVariants as step
use Rattle.st_values.specs.Program.{Region, Program}
use Rattle.st_values.specs.Value.{Path, ◌>>=◌, natural, place_of_index}
use Rattle.st_values.specs.Shape.{Shape, Elementary, Enumeration, Reference, Interface, Array, Structure, Instance, Fields, no_fields, field_then, field, element_shape, shape_part, region_shape, path_shape}
use Rattle.st_meaning.specs.st_frame.Promise.Declarations.{Each}
use Rattle.st_meaning.proofs.st_frame.Values.{path_further}
use Rattle.st_change.specs.Instances.{Member, further, along_elements, members_first, fields_first, owner_first, owner_fields, walk_region, of_regions}

pub each_both : {A : Type 0} (P : A → Type 0) (xs ys : List A) → Each P xs → Each P ys → Each P (xs ++ ys)
each_both P [] ys h k = k
each_both P (x ∷ xs) ys h k = (h.0, each_both P xs ys h.1 k)

pub each_if : {A : Type 0} (P : A → Type 0) (b : Bool) (xs : List A) → Each P xs → Each P (if b then xs else [])
each_if P true xs h = h
each_if P false xs h = tt

module _ (p : Program) where
  -- an instance of the class is at the path
  abbrev pub IsMember : Member → Type 0
  IsMember m = (fs : Fields) × (path_shape p m.path ≡ Some (Instance m.class m.name fs))

  -- what lists the instances behind a path of this shape
  pub record Lists (sh : Shape) (walk : Path → List Member) : Type 0 where
    pub by : (q : Path) → path_shape p q ≡ Some sh → Each IsMember (walk q)

  elements_are : (walk : Path → List Member) (low : ℤ) (n : ℕ) (sh : Shape) → Lists sh walk → (q : Path) → path_shape p q ≡ Some (Array low n sh) → (k j : ℕ) (i : ℤ) → j + k ≡ n → i ≡ low +ℤ pos j → Each IsMember (along_elements walk q i k)
  elements_are walk low n sh h q e zero j i a b = tt
  elements_are walk low n sh h q e (suc k) j i a b =
      let c : i -ℤ low ≡ pos j = omega (arith, ints) in
      let d : j < n = omega arith in
      let there : element_shape n sh (place_of_index low i) ≡ Some sh = ap (λ z. element_shape n sh (natural z)) c ∙ ap (λ t. if t then Some sh else None) (lt-ltb j n d) in
      let next : i +ℤ pos 1 ≡ low +ℤ pos (suc j) = omega (arith, ints) in
      each_both IsMember (walk (further q (step.Element i))) (along_elements walk q (i +ℤ pos 1) k)
      (h.by (further q (step.Element i)) (path_further p q (Array low n sh) (step.Element i) sh e there))
      (elements_are walk low n sh h q e k (suc j) (i +ℤ pos 1) (omega arith) next)

  array_lists : (walk : Path → List Member) (low : ℤ) (n : ℕ) (sh : Shape) → Lists sh walk → Lists (Array low n sh) (λ q. along_elements walk q low n)
  array_lists walk low n sh h = record { by = λ q e. elements_are walk low n sh h q e n 0 low (omega arith) (omega (arith, ints)) }

  -- fields from this number on, with their shapes
  abbrev FieldsAt : Fields → Path → ℕ → Type 0
  FieldsAt no_fields q k = Unit {0}
  FieldsAt (field_then v sh fs) q k = (path_shape p (further q (step.Field k)) ≡ Some sh) × FieldsAt fs q (suc k)

  fields_at : (sh : Shape) (q : Path) → path_shape p q ≡ Some sh → (fs all : Fields) (k : ℕ) → ((i : ℕ) (x : Shape) → field fs i ≡ Some x → field all (k + i) ≡ Some x) → ((i : ℕ) (x : Shape) → field all i ≡ Some x → shape_part sh (step.Field i) ≡ Some x) → FieldsAt fs q k
  fields_at sh q e no_fields all k h g = tt
  fields_at sh q e (field_then v x fs) all k h g =
      let a : field all (k + 0) ≡ Some x = h 0 x refl in
      let b : k + 0 ≡ k = omega arith in (
        path_further p q sh (step.Field k) x e (g k x (subst (λ i. field all i ≡ Some x) b a)),
        fields_at sh q e fs all (suc k) (λ i y f. let c : k + suc i ≡ suc k + i = omega arith in subst (λ j. field all j ≡ Some y) c (h (suc i) y f)) g,
      )

  start_at : (sh : Shape) (q : Path) (fs : Fields) → path_shape p q ≡ Some sh → ((i : ℕ) (x : Shape) → field fs i ≡ Some x → shape_part sh (step.Field i) ≡ Some x) → FieldsAt fs q 0
  start_at sh q fs e g = fields_at sh q e fs fs 0 (λ i x f. let c : i ≡ 0 + i = omega arith in subst (λ j. field fs j ≡ Some x) c f) g

  mutual
    pub members_are : (sh : Shape) → Lists sh (members_first sh)
    members_are (Elementary e) = record { by = λ q e. tt }
    members_are (Enumeration name values) = record { by = λ q e. tt }
    members_are (Reference c name) = record { by = λ q e. tt }
    members_are (Interface i name) = record { by = λ q e. tt }
    members_are (Array low n sh) = array_lists (members_first sh) low n sh (members_are sh)
    members_are (Structure name fs) = record { by = λ q e. fields_are fs q 0 (start_at (Structure name fs) q fs e (λ i x f. f)) }
    members_are (Instance c name fs) =
        record { by = λ q e. each_both IsMember (fields_first fs q 0) _ (fields_are fs q 0 (start_at (Instance c name fs) q fs e (λ i x f. f))) ((fs, e), tt) }

    fields_are : (fs : Fields) (q : Path) (k : ℕ) → FieldsAt fs q k → Each IsMember (fields_first fs q k)
    fields_are no_fields q k h = tt
    fields_are (field_then v sh fs) q k h =
        each_both IsMember (members_first sh (further q (step.Field k))) (fields_first fs q (suc k)) ((members_are sh).by (further q (step.Field k)) h.0) (fields_are fs q (suc k) h.1)

  mutual
    pub owners_are : (sh : Shape) → Lists sh (owner_first sh)
    owners_are (Elementary e) = record { by = λ q e. tt }
    owners_are (Enumeration name values) = record { by = λ q e. tt }
    owners_are (Reference c name) = record { by = λ q e. tt }
    owners_are (Interface i name) = record { by = λ q e. tt }
    owners_are (Array low n sh) = array_lists (owner_first sh) low n sh (owners_are sh)
    owners_are (Structure name fs) = record { by = λ q e. owner_fields_are fs q 0 (start_at (Structure name fs) q fs e (λ i x f. f)) }
    owners_are (Instance c name fs) = record { by = λ q e. ((fs, e), owner_fields_are fs q 0 (start_at (Instance c name fs) q fs e (λ i x f. f))) }

    owner_fields_are : (fs : Fields) (q : Path) (k : ℕ) → FieldsAt fs q k → Each IsMember (owner_fields fs q k)
    owner_fields_are no_fields q k h = tt
    owner_fields_are (field_then v sh fs) q k h =
        each_both IsMember (owner_first sh (further q (step.Field k))) (owner_fields fs q (suc k)) ((owners_are sh).by (further q (step.Field k)) h.0) (owner_fields_are fs q (suc k) h.1)

  region_are : (walk : Shape → Path → List Member) → ((sh : Shape) → Lists sh (walk sh)) → (o : Option Shape) (r : ℕ) → region_shape p r ≡ o → Each IsMember (walk_region walk o r)
  region_are walk h None r e = tt
  region_are walk h (Some sh) r e = (h sh).by (record { region = r; steps = [] }) (ap (λ o. o >>= λ x. Some x) e)

  pub regions_are : (test : ℕ → Bool) (walk : Shape → Path → List Member) → ((sh : Shape) → Lists sh (walk sh)) → (xs : List Region) (r : ℕ) → Each IsMember (of_regions p test walk r xs)
  regions_are test walk h [] r = tt
  regions_are test walk h (x ∷ xs) r =
      each_both IsMember _ (of_regions p test walk (suc r) xs) (each_if IsMember (test r) (walk_region walk (region_shape p r) r) (region_are walk h (region_shape p r) r refl)) (regions_are test walk h xs (suc r))
