-- Fields that are made anew, and marked ones, in lists.
use Rattle.std.proofs.Common.{◌≡◌, ◌<◌, ℕ, zero, suc, ◌+◌, Bool, true, false, List, [], ◌∷◌, length, drop, get_or, Option, Some, None, refl, sym, ap, ap₂, ◌∙◌}
use Rattle.std.specs.Prelude.{◌&&◌, ◌||◌, slice_get}
use Rattle.st_rules.proofs.ListLaws.{drop-at}
use Rattle.st_values.specs.Shape.{has_instance}
use Rattle.program_tables.specs.st_initial.Variables.{variable_of}
use Rattle.st_change.specs.Counterpart.{has_fresh, a_field_is_fresh, is_unmarked, unmarked_field}
use Rattle.shape_trees.specs.declared.shape.Field.{Field as CodeField}
use Rattle.shape_trees.specs.Shape.{shape_of, fields_of, field-is}

-- ---- made anew

abbrev is_anew : CodeField → Bool
is_anew x = x.variable.init_on_change && has_instance (shape_of x.shape)

first_fresh : (x : CodeField) (xs : List CodeField) → a_field_is_fresh (fields_of (x ∷ xs)) ≡ ((is_anew x || has_fresh (shape_of x.shape)) || a_field_is_fresh (fields_of xs))
first_fresh x xs = ap (λ y. ((y.0.marks.init_on_change && has_instance y.1) || has_fresh y.1) || a_field_is_fresh (fields_of xs)) (field-is x)

or_true : (b : Bool) → (b || true) ≡ true
or_true true = refl
or_true false = refl

module _ (xs : List CodeField) (k : ℕ) (x : CodeField) (l : k < length xs) (is : x ≡ get_or xs k x) (left : a_field_is_fresh (fields_of (drop k xs)) ≡ a_field_is_fresh (fields_of xs)) where
  now_first : ((is_anew x || has_fresh (shape_of x.shape)) || a_field_is_fresh (fields_of (drop (k + 1) xs))) ≡ a_field_is_fresh (fields_of xs)
  now_first = sym (ap (λ ys. a_field_is_fresh (fields_of ys)) (drop-at xs k x l is) ∙ first_fresh x (drop (k + 1) xs)) ∙ left

  pub anew_found : (x.variable.init_on_change && has_instance (shape_of x.shape)) ≡ true → true ≡ a_field_is_fresh (fields_of xs)
  anew_found h = sym (ap (λ b. (b || has_fresh (shape_of x.shape)) || a_field_is_fresh (fields_of (drop (k + 1) xs))) h) ∙ now_first

  pub fresh_found : has_fresh (shape_of x.shape) ≡ true → true ≡ a_field_is_fresh (fields_of xs)
  fresh_found h =
      sym (ap (λ b. b || a_field_is_fresh (fields_of (drop (k + 1) xs))) (or_true (is_anew x)))
      ∙ sym (ap (λ b. (is_anew x || b) || a_field_is_fresh (fields_of (drop (k + 1) xs))) h) ∙ now_first

  pub fresh_next : (x.variable.init_on_change && has_instance (shape_of x.shape)) ≡ false → has_fresh (shape_of x.shape) ≡ false → a_field_is_fresh (fields_of (drop (k + 1) xs)) ≡ a_field_is_fresh (fields_of xs)
  fresh_next h e = sym (ap₂ (λ b c. (b || c) || a_field_is_fresh (fields_of (drop (k + 1) xs))) h e) ∙ now_first

-- ---- unmarked

abbrev pub unmarked_at : Option CodeField → Bool
unmarked_at None = false
unmarked_at (Some f) = is_unmarked (variable_of f.variable)

pub unmarked_get : (fs : List CodeField) (k : ℕ) → unmarked_field (fields_of fs) k ≡ unmarked_at (slice_get fs k)
unmarked_get [] k = refl
unmarked_get (f ∷ fs) zero = ap (λ y. is_unmarked y.0) (field-is f)
unmarked_get (f ∷ fs) (suc k) = unmarked_get fs k
