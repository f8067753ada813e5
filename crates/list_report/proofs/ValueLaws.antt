-- How many values fields have, one after another.
use Rattle.std.proofs.Common.{◌≡◌, ◌+◌, ◌<◌, ◌≤◌, ℕ, List, ◌∷◌, length, drop, get_or, ap, ◌∙◌, arith}
use Rattle.st_rules.proofs.ListLaws.{drop-at, drop-end}
use Rattle.mem_layout.specs.loaded_meaning.Sized.{values_of, all_values_of}
use Rattle.shape_trees.specs.declared.shape.Field.{Field as CodeField}
use Rattle.shape_trees.specs.Shape.{shape_of, fields_of, field-is}

first_values : (x : CodeField) (xs : List CodeField) → all_values_of (fields_of (x ∷ xs)) ≡ values_of (shape_of x.shape) + all_values_of (fields_of xs)
first_values x xs = ap (λ sh. values_of sh + all_values_of (fields_of xs)) (ap (λ y. y.1) (field-is x))

pub values_next : (xs : List CodeField) (k : ℕ) (x : CodeField) (all one more whole : ℕ) → k < length xs → x ≡ get_or xs k x → all + all_values_of (fields_of (drop k xs)) ≡ whole → one ≡ values_of (shape_of x.shape) → more ≡ all + one
    → more + all_values_of (fields_of (drop (k + 1) xs)) ≡ whole
values_next xs k x all one more whole l is e n m =
    let here : all_values_of (fields_of (drop k xs)) ≡ values_of (shape_of x.shape) + all_values_of (fields_of (drop (k + 1) xs)) = ap (λ ys. all_values_of (fields_of ys)) (drop-at xs k x l is) ∙ first_values x (drop (k + 1) xs) in
    omega arith

pub values_end : (xs : List CodeField) (k all whole : ℕ) → length xs ≤ k → all + all_values_of (fields_of (drop k xs)) ≡ whole → all ≡ whole
values_end xs k all whole l e =
    let none : all_values_of (fields_of (drop k xs)) ≡ 0 = ap (λ ys. all_values_of (fields_of ys)) (drop-end xs k l) in
    omega arith
