-- Fields and elements of shapes, in lists.
use Rattle.std.proofs.Common.{◌≡◌, ◌<◌, ℕ, zero, suc, ◌+◌, true, false, List, [], ◌∷◌, length, drop, get_or, Option, Some, None, refl, sym, ap, ◌∙◌}
use Rattle.std.specs.Prelude.{◌||◌, option_map, slice_get, if◌then◌else◌}
use Rattle.st_rules.proofs.ListLaws.{drop-at}
use Rattle.st_values.specs.Shape.{Shape, field, element_shape, has_instance, a_field_has_instance}
use Rattle.shape_trees.specs.declared.shape.Field.{Field as CodeField}
use Rattle.shape_trees.specs.Shape.{shape_of, fields_of, field-is}
use Rattle.shape_trees.specs.Private.Places.{has_place}

pub fields_get : (fs : List CodeField) (k : ℕ) → field (fields_of fs) k ≡ option_map (λ f. shape_of f.shape) (slice_get fs k)
fields_get [] k = refl
fields_get (f ∷ fs) zero = ap (λ x. Some x.1) (field-is f)
fields_get (f ∷ fs) (suc k) = fields_get fs k

pub element_there : (n : ℕ) (sh : Shape) (o : Option ℕ) → has_place o n ≡ true → element_shape n sh o ≡ Some sh
element_there n sh None h = absurd cc
element_there n sh (Some k) h = ap (λ b. if b then Some sh else None) h

pub no_element : (n : ℕ) (sh : Shape) (o : Option ℕ) → has_place o n ≡ false → element_shape n sh o ≡ None
no_element n sh None h = refl
no_element n sh (Some k) h = ap (λ b. if b then Some sh else None) h

-- ---- instances in fields

first_field : (x : CodeField) (xs : List CodeField) → a_field_has_instance (fields_of (x ∷ xs)) ≡ (has_instance (shape_of x.shape) || a_field_has_instance (fields_of xs))
first_field x xs = ap (λ sh. has_instance sh || a_field_has_instance (fields_of xs)) (ap (λ y. y.1) (field-is x))

module _ (xs : List CodeField) (k : ℕ) (x : CodeField) (l : k < length xs) (is : x ≡ get_or xs k x) (left : a_field_has_instance (fields_of (drop k xs)) ≡ a_field_has_instance (fields_of xs)) where
  now_first : (has_instance (shape_of x.shape) || a_field_has_instance (fields_of (drop (k + 1) xs))) ≡ a_field_has_instance (fields_of xs)
  now_first = sym (ap (λ ys. a_field_has_instance (fields_of ys)) (drop-at xs k x l is) ∙ first_field x (drop (k + 1) xs)) ∙ left

  pub instance_found : has_instance (shape_of x.shape) ≡ true → true ≡ a_field_has_instance (fields_of xs)
  instance_found h = sym (ap (λ b. b || a_field_has_instance (fields_of (drop (k + 1) xs))) h) ∙ now_first

  pub instance_next : has_instance (shape_of x.shape) ≡ false → a_field_has_instance (fields_of (drop (k + 1) xs)) ≡ a_field_has_instance (fields_of xs)
  instance_next h = sym (ap (λ b. b || a_field_has_instance (fields_of (drop (k + 1) xs))) h) ∙ now_first
