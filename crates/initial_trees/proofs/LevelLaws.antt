-- The value of a type, level by level.
use Rattle.std.proofs.Common.{◌≡◌, ◌<◌, ℕ, zero, suc, ◌+◌, ◌-◌, ℤ, pos, if◌then◌else◌, List, [], ◌∷◌, Option, Some, None, refl, sym, ap, ◌∙◌, arith}
use Rattle.std.specs.Prelude.{is_some, slice_get, option_and_then, option_map}
use Rattle.st_types.specs.declared.elem.Elem.{Elem}
use Rattle.st_types.specs.declared.st_type.StType.{StType, out-StType}
use Rattle.st_types.specs.declared.st_type.StType.TheVariants as type
use Rattle.st_types.specs.declared.st_type.StType.TheOpen.{StType-F}
use Rattle.st_tree.specs.declared.program.Note.{Note}
use Rattle.st_tree.specs.Initial.{Initial, FieldInits}
use Rattle.st_values.specs.Initial.{number_given, list_given, fields_given, elements, init, inits, init_of}
use Rattle.st_values.specs.Program.{Variable, TypeBody, an_alias, an_enumeration, a_structure, TypeEntry, Class, Program, class_at, class_variables}
use Rattle.st_values.specs.Shape.{Shape, Enumeration, Reference, Interface, Array, Structure, Instance, Fields, field_then, extent, values_of, fields_of, fields_by, simple_shape, shape_by, shape_within, shape_of}
use Rattle.st_values.specs.Value.{Value, number, reference, array, structure, instance, Values, value_then, member_then, ◌>>=◌}
use Rattle.program_tables.specs.st_initial.Variables.{or_none}
use Rattle.initial_trees.specs.Private.Kinds.{is_enumeration, enumerates, is_enumeration_at, of_structure, structure_name}
use Rattle.initial_trees.specs.Private.Trees.{given_to, value_within, members_within, elements_within, array_within, structure_within, instance_within}

-- the values of variables are those of their shapes
pub joined : (v : Variable) (gs : FieldInits Note) (a : Option Shape) (b : Option Fields)
    → (option_map (λ sh. init sh (given_to v gs)) a >>= λ x. option_map (λ fs. inits fs gs) b >>= λ rest. Some (member_then v.name x rest)) ≡ option_map (λ fs. inits fs gs) (a >>= λ sh. b >>= λ rest. Some (field_then v sh rest))
joined v gs None b = refl
joined v gs (Some sh) None = refl
joined v gs (Some sh) (Some fs) = refl

pub members_are : (p : Program) (n : ℕ) (vs : List Variable) (gs : FieldInits Note) → members_within p n vs gs ≡ option_map (λ fs. inits fs gs) (fields_by (shape_within p n) vs)
members_are p n [] gs = refl
members_are p n (v ∷ vs) gs = ap (λ o. value_within p n v.kind (given_to v gs) >>= λ x. o >>= λ rest. Some (member_then v.name x rest)) (members_are p n vs gs) ∙ joined v gs (shape_within p n v.kind) (fields_by (shape_within p n) vs)

-- the values from number k on
pub record Rest (is rest : List (Initial Note)) (k m : ℕ) : Type 0 where
  pub by : (j : ℕ) → j < m → slice_get rest j ≡ slice_get is (k + j)

next_rest : (is : List (Initial Note)) (i : Initial Note) (rest : List (Initial Note)) (k m : ℕ) → Rest is (i ∷ rest) k (suc m) → Rest is rest (suc k) m
next_rest is i rest k m h = record { by = λ j l. let e : k + suc j ≡ suc k + j = omega arith in h.by (suc j) (omega arith) ∙ ap (slice_get is) e }

next_none : (is : List (Initial Note)) (k m : ℕ) → Rest is [] k (suc m) → Rest is [] (suc k) m
next_none is k m h = record { by = λ j l. let e : k + suc j ≡ suc k + j = omega arith in h.by (suc j) (omega arith) ∙ ap (slice_get is) e }

first_of_rest : (is rest : List (Initial Note)) (k m : ℕ) → Rest is rest k (suc m) → slice_get rest 0 ≡ slice_get is k
first_of_rest is rest k m h = let e : k + 0 ≡ k = omega arith in h.by 0 (omega arith) ∙ ap (slice_get is) e

module _ (p : Program) (n : ℕ) (t : StType) where
  -- an element more
  one_more : (sh : Shape) (is : List (Initial Note)) (i : Option (Initial Note)) (k m : ℕ) (vs : Values) → shape_within p n t ≡ Some sh → i ≡ slice_get is k → elements_within p n t is (suc k) m ≡ Some vs
      → elements_within p n t is k (suc m) ≡ Some (value_then (init sh i) vs)
  one_more sh is i k m vs e g r =
      ap (λ o. option_map (λ sh. init sh (slice_get is k)) o >>= λ x. elements_within p n t is (suc k) m >>= λ rest. Some (value_then x rest)) e
      ∙ ap (λ o. o >>= λ rest. Some (value_then (init sh (slice_get is k)) rest)) r
      ∙ ap (λ j. Some (value_then (init sh j) vs)) (sym g)

  pub elements_are : (sh : Shape) → shape_within p n t ≡ Some sh → (is rest : List (Initial Note)) (k m : ℕ) → Rest is rest k m → elements_within p n t is k m ≡ Some (elements (init sh) m rest)
  elements_are sh e is rest k zero h = refl
  elements_are sh e is [] k (suc m) h = one_more sh is None k m (elements (init sh) m []) e (first_of_rest is [] k m h) (elements_are sh e is [] (suc k) m (next_none is k m h))
  elements_are sh e is (i ∷ rest) k (suc m) h = one_more sh is (Some i) k m (elements (init sh) m rest) e (first_of_rest is (i ∷ rest) k m h) (elements_are sh e is rest (suc k) m (next_rest is i rest k m h))

  all_rest : (is : List (Initial Note)) (m : ℕ) → Rest is is 0 m
  all_rest is m = record { by = λ j l. let e : j ≡ 0 + j = omega arith in ap (slice_get is) e }

  array_by : (low : ℤ) (count : ℕ) (i : Option (Initial Note)) (o : Option Shape) → shape_within p n t ≡ o → option_map (λ vs. array low vs) (array_within p n t count i) ≡ option_map (λ sh. init sh i) (option_map (Array low count) o)
  array_by low count i None e = ap (λ o. option_map (λ vs. array low vs) (option_map (λ sh. init sh None) o >>= λ x. elements_within p n t (list_given i) 0 count)) e
  array_by low count i (Some sh) e =
      ap (λ o. option_map (λ vs. array low vs) (option_map (λ sh. init sh None) o >>= λ x. elements_within p n t (list_given i) 0 count)) e
      ∙ ap (option_map (λ vs. array low vs)) (elements_are sh e (list_given i) (list_given i) 0 count (all_rest (list_given i) count))

  pub array_is : (low : ℤ) (count : ℕ) (i : Option (Initial Note)) → option_map (λ vs. array low vs) (array_within p n t count i) ≡ option_map (λ sh. init sh i) (option_map (Array low count) (shape_within p n t))
  array_is low count i = array_by low count i (shape_within p n t) refl

module _ (p : Program) (n : ℕ) (i : Option (Initial Note)) where
  structure_by : (o : Option Fields) (name : List ℕ) → (option_map (λ fs. inits fs (fields_given i)) o >>= λ ms. Some (structure name ms)) ≡ option_map (λ sh. init sh i) (o >>= λ fields. Some (Structure name fields))
  structure_by None name = refl
  structure_by (Some fs) name = refl

  structure_of : (name : List ℕ) (b : TypeBody)
      → (of_structure name b >>= λ name. members_within p n (or_none (fields_of b)) (fields_given i) >>= λ ms. Some (structure name ms)) ≡ option_map (λ sh. init sh i) (fields_of b >>= λ vs. fields_by (shape_within p n) vs >>= λ fields. Some (Structure name fields))
  structure_of name an_alias = refl
  structure_of name (an_enumeration values) = refl
  structure_of name (a_structure vs) = ap (λ o. o >>= λ ms. Some (structure name ms)) (members_are p n vs (fields_given i)) ∙ structure_by (fields_by (shape_within p n) vs) name

  structure_at : (o : Option TypeEntry)
      → (structure_name o >>= λ name. members_within p n (or_none (option_and_then (λ t. fields_of t.body) o)) (fields_given i) >>= λ ms. Some (structure name ms)) ≡ option_map (λ sh. init sh i) (o >>= λ t. fields_of t.body >>= λ vs. fields_by (shape_within p n) vs >>= λ fields. Some (Structure t.name fields))
  structure_at None = refl
  structure_at (Some t) = structure_of t.name t.body

  pub structure_is : (k : ℕ) → structure_within p n k i ≡ option_map (λ sh. init sh i) (shape_by p (shape_within p n) (StType-F.Structure k))
  structure_is k = structure_at (slice_get p.types k)

  instance_by : (o : Option Fields) (c : ℕ) (name : List ℕ) → (option_map (λ fs. inits fs (fields_given i)) o >>= λ ms. Some (instance name ms)) ≡ option_map (λ sh. init sh i) (o >>= λ fields. Some (Instance c name fields))
  instance_by None c name = refl
  instance_by (Some fs) c name = refl

  instance_at : (c : ℕ) (o : Option Class)
      → (o >>= λ k. members_within p n (class_variables p c) (fields_given i) >>= λ ms. Some (instance k.name ms)) ≡ option_map (λ sh. init sh i) (o >>= λ k. fields_by (shape_within p n) (class_variables p c) >>= λ fields. Some (Instance c k.name fields))
  instance_at c None = refl
  instance_at c (Some k) = ap (λ o. o >>= λ ms. Some (instance k.name ms)) (members_are p n (class_variables p c) (fields_given i)) ∙ instance_by (fields_by (shape_within p n) (class_variables p c)) c k.name

  pub instance_is : (c : ℕ) → instance_within p n c i ≡ option_map (λ sh. init sh i) (shape_by p (shape_within p n) (StType-F.Instance c))
  instance_is c = instance_at c (class_at p c)

-- ---- by the sort of a type

abbrev pub level : Program → ℕ → StType-F StType → Option (Initial Note) → Option Value
level p zero o i = option_map (λ sh. init sh i) (simple_shape p o)
level p (suc n) o i = option_map (λ sh. init sh i) (shape_by p (shape_within p n) o)

enumeration_by : (i : Option (Initial Note)) (name : List ℕ) (b : TypeBody) → option_map (λ sh. init sh i) (values_of b >>= λ values. Some (Enumeration name values)) ≡ (if is_enumeration b then Some (number (number_given i)) else None)
enumeration_by i name an_alias = refl
enumeration_by i name (an_enumeration values) = refl
enumeration_by i name (a_structure fields) = refl

enumeration_at : (i : Option (Initial Note)) (o : Option TypeEntry) → option_map (λ sh. init sh i) (o >>= λ t. values_of t.body >>= λ values. Some (Enumeration t.name values)) ≡ (if enumerates o then Some (number (number_given i)) else None)
enumeration_at i None = refl
enumeration_at i (Some t) = enumeration_by i t.name t.body

module _ (p : Program) (t : StType) (i : Option (Initial Note)) where
  at_level : (n : ℕ) (o : StType-F StType) → out-StType t ≡ o → value_within p n t i ≡ level p n o i
  at_level zero o h = ap (λ o. level p zero o i) h
  at_level (suc n) o h = ap (λ o. level p (suc n) o i) h

  one_less : (n : ℕ) (o : StType-F StType) → 0 < n → out-StType t ≡ o → value_within p n t i ≡ option_map (λ sh. init sh i) (shape_by p (shape_within p (n - 1)) o)
  one_less zero o l h = absurd (omega arith)
  one_less (suc n) o l h = let e : n ≡ suc n - 1 = omega arith in at_level (suc n) o h ∙ ap (λ m. option_map (λ sh. init sh i) (shape_by p (shape_within p m) o)) e

  no_less : (n : ℕ) (o : StType-F StType) → n ≡ 0 → out-StType t ≡ o → value_within p n t i ≡ option_map (λ sh. init sh i) (simple_shape p o)
  no_less zero o l h = at_level zero o h
  no_less (suc n) o l h = absurd cc

  pub elementary_value : (n : ℕ) (e : Elem) → t ≡ type.Elementary e → value_within p n t i ≡ Some (number (number_given i))
  elementary_value zero e h = at_level zero (StType-F.Elementary e) (ap out-StType h ∙ type.outs-Elementary e)
  elementary_value (suc n) e h = at_level (suc n) (StType-F.Elementary e) (ap out-StType h ∙ type.outs-Elementary e)

  pub enumeration_value : (n k : ℕ) → t ≡ type.Enumeration k → value_within p n t i ≡ (if is_enumeration_at p k then Some (number (number_given i)) else None)
  enumeration_value zero k h = at_level zero (StType-F.Enumeration k) (ap out-StType h ∙ type.outs-Enumeration k) ∙ enumeration_at i (slice_get p.types k)
  enumeration_value (suc n) k h = at_level (suc n) (StType-F.Enumeration k) (ap out-StType h ∙ type.outs-Enumeration k) ∙ enumeration_at i (slice_get p.types k)

  null_by : {A : Type 0} (f : A → Shape) (o : Option A) → ((a : A) → init (f a) i ≡ reference None) → option_map (λ sh. init sh i) (option_map f o) ≡ (if is_some o then Some (reference None) else None)
  null_by f None h = refl
  null_by f (Some a) h = ap Some (h a)

  pub reference_value : (n c : ℕ) → t ≡ type.Reference c → value_within p n t i ≡ (if is_some (class_at p c) then Some (reference None) else None)
  reference_value zero c h = at_level zero (StType-F.Reference c) (ap out-StType h ∙ type.outs-Reference c) ∙ null_by (λ k. Reference c k.name) (class_at p c) (λ a. refl)
  reference_value (suc n) c h = at_level (suc n) (StType-F.Reference c) (ap out-StType h ∙ type.outs-Reference c) ∙ null_by (λ k. Reference c k.name) (class_at p c) (λ a. refl)

  pub interface_value : (n k : ℕ) → t ≡ type.Interface k → value_within p n t i ≡ (if is_some (slice_get p.interfaces k) then Some (reference None) else None)
  interface_value zero k h = at_level zero (StType-F.Interface k) (ap out-StType h ∙ type.outs-Interface k) ∙ null_by (λ y. Interface k y.name) (slice_get p.interfaces k) (λ a. refl)
  interface_value (suc n) k h = at_level (suc n) (StType-F.Interface k) (ap out-StType h ∙ type.outs-Interface k) ∙ null_by (λ y. Interface k y.name) (slice_get p.interfaces k) (λ a. refl)

  pub no_array : (n : ℕ) (low high : ℤ) (of : StType) → n ≡ 0 → t ≡ type.Array low high of → value_within p n t i ≡ None
  no_array n low high of z h = no_less n (StType-F.Array low high of) z (ap out-StType h ∙ type.outs-Array low high of)

  pub no_structure : (n k : ℕ) → n ≡ 0 → t ≡ type.Structure k → value_within p n t i ≡ None
  no_structure n k z h = no_less n (StType-F.Structure k) z (ap out-StType h ∙ type.outs-Structure k)

  pub no_instance : (n c : ℕ) → n ≡ 0 → t ≡ type.Instance c → value_within p n t i ≡ None
  no_instance n c z h = no_less n (StType-F.Instance c) z (ap out-StType h ∙ type.outs-Instance c)

  pub array_value : (n : ℕ) (low high : ℤ) (of : StType) → 0 < n → t ≡ type.Array low high of → value_within p n t i ≡ option_map (λ vs. array low vs) (array_within p (n - 1) of (extent low high) i)
  array_value n low high of l h = one_less n (StType-F.Array low high of) l (ap out-StType h ∙ type.outs-Array low high of) ∙ sym (array_is p (n - 1) of low (extent low high) i)

  pub structure_value : (n k : ℕ) → 0 < n → t ≡ type.Structure k → value_within p n t i ≡ structure_within p (n - 1) k i
  structure_value n k l h = one_less n (StType-F.Structure k) l (ap out-StType h ∙ type.outs-Structure k) ∙ sym (structure_is p (n - 1) i k)

  pub instance_value : (n c : ℕ) → 0 < n → t ≡ type.Instance c → value_within p n t i ≡ instance_within p (n - 1) c i
  instance_value n c l h = one_less n (StType-F.Instance c) l (ap out-StType h ∙ type.outs-Instance c) ∙ sym (instance_is p (n - 1) i c)

-- the value of a variable of a type that unfolds, and of one that does not
whole : (i : Option (Initial Note)) (o : Option Shape) (v : Value) → option_map (λ sh. init sh i) o ≡ Some v → v ≡ init_of o i
whole i None v e = cc
whole i (Some sh) v e = cc

none : (i : Option (Initial Note)) (o : Option Shape) → option_map (λ sh. init sh i) o ≡ None → init_of o i ≡ number (pos 0)
none i None e = refl
none i (Some sh) e = absurd cc

pub whole_value : (p : Program) (t : StType) (i : Option (Initial Note)) (v : Value) → value_within p 65 t i ≡ Some v → v ≡ init_of (shape_of p t) i
whole_value p t i v e = whole i (shape_of p t) v e

pub no_value : (p : Program) (t : StType) (i : Option (Initial Note)) → value_within p 65 t i ≡ None → init_of (shape_of p t) i ≡ number (pos 0)
no_value p t i e = none i (shape_of p t) e
