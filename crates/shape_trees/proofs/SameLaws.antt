-- Equal lists of fields, so far.
use Rattle.std.proofs.Common.{◌≡◌, ◌≢◌, ◌≤◌, ◌<◌, ℕ, suc, ◌+◌, Bool, true, false, List, [], ◌∷◌, length, drop, get_or, refl, sym, ap, ap₂, ◌∙◌, arith, Bor}
use Rattle.std.specs.Prelude.{◌&&◌}
use Rattle.plc_text.specs.Words.{same}
use Rattle.st_rules.proofs.ListLaws.{drop-at, drop-end}
use Rattle.st_values.specs.Shape.{Shape, Structure, Instance, same_shape, same_fields}
use Rattle.shape_trees.specs.declared.shape.Shape.{Shape as CodeShape}
use Rattle.shape_trees.specs.declared.shape.Shape.TheVariants as code
use Rattle.shape_trees.specs.declared.shape.Field.{Field as CodeField}
use Rattle.shape_trees.specs.Shape.{shape_of, field_of, fields_of, field-is, shape-Structure, shape-Instance}

abbrev pub one_same : CodeField → CodeField → Bool
one_same x y = same x.variable.name.now y.variable.name.now && same_shape (shape_of x.shape) (shape_of y.shape)

first_same : (x y : CodeField) (xs ys : List CodeField) → same_fields (fields_of (x ∷ xs)) (fields_of (y ∷ ys)) ≡ (one_same x y && same_fields (fields_of xs) (fields_of ys))
first_same x y xs ys =
    ap₂ (λ (a b : List ℕ). same a b && (same_shape (field_of x).1 (field_of y).1 && same_fields (fields_of xs) (fields_of ys))) (ap (λ z. z.0.name) (field-is x)) (ap (λ z. z.0.name) (field-is y))
    ∙ ap₂ (λ a b. same x.variable.name.now y.variable.name.now && (same_shape a b && same_fields (fields_of xs) (fields_of ys))) (ap (λ z. z.1) (field-is x)) (ap (λ z. z.1) (field-is y))
    ∙ together (same x.variable.name.now y.variable.name.now) (same_shape (shape_of x.shape) (shape_of y.shape)) (same_fields (fields_of xs) (fields_of ys))
  where
    together : (a b c : Bool) → (a && (b && c)) ≡ ((a && b) && c)
    together true b c = refl
    together false b c = refl

pub unequal : (xs ys : List CodeField) → length xs ≢ length ys → false ≡ same_fields (fields_of xs) (fields_of ys)
unequal [] [] h = absurd (h refl)
unequal [] (y ∷ ys) h = refl
unequal (x ∷ xs) [] h = refl
unequal (x ∷ xs) (y ∷ ys) h = by (one_same x y) (unequal xs ys (λ e. h (ap suc e))) ∙ sym (first_same x y xs ys)
  where
    by : (b : Bool) → false ≡ same_fields (fields_of xs) (fields_of ys) → false ≡ (b && same_fields (fields_of xs) (fields_of ys))
    by true e = e
    by false e = refl

pub record SameSoFar (xs ys : List CodeField) (k : ℕ) : Type 0 where
  pub long : length xs ≡ length ys
  pub is : same_fields (fields_of (drop k xs)) (fields_of (drop k ys)) ≡ same_fields (fields_of xs) (fields_of ys)

module _ (xs ys : List CodeField) where
  pub same_begun : length xs ≡ length ys → SameSoFar xs ys 0
  same_begun h = record { long = h; is = refl }

  now_first : (k : ℕ) (x y : CodeField) → k < length xs → x ≡ get_or xs k x → y ≡ get_or ys k y → SameSoFar xs ys k → (one_same x y && same_fields (fields_of (drop (k + 1) xs)) (fields_of (drop (k + 1) ys))) ≡ same_fields (fields_of xs) (fields_of ys)
  now_first k x y l e f so_far =
      let g = so_far.long in
      let m : k < length ys = omega (arith, l, g) in
      sym (ap₂ (λ (us ws : List CodeField). same_fields (fields_of us) (fields_of ws)) (drop-at xs k x l e) (drop-at ys k y m f) ∙ first_same x y (drop (k + 1) xs) (drop (k + 1) ys)) ∙ so_far.is

  pub same_next : (k : ℕ) (x y : CodeField) → k < length xs → x ≡ get_or xs k x → y ≡ get_or ys k y → SameSoFar xs ys k → one_same x y ≡ true → SameSoFar xs ys (k + 1)
  same_next k x y l e f so_far h = record {
    long = so_far.long;
    is = sym (ap (λ b. b && same_fields (fields_of (drop (k + 1) xs)) (fields_of (drop (k + 1) ys))) h) ∙ now_first k x y l e f so_far;
  }

  pub same_stopped : (k : ℕ) (x y : CodeField) → k < length xs → x ≡ get_or xs k x → y ≡ get_or ys k y → SameSoFar xs ys k → one_same x y ≡ false → false ≡ same_fields (fields_of xs) (fields_of ys)
  same_stopped k x y l e f so_far h = sym (ap (λ b. b && same_fields (fields_of (drop (k + 1) xs)) (fields_of (drop (k + 1) ys))) h) ∙ now_first k x y l e f so_far

  pub same_ended : (k : ℕ) → length xs ≤ k → SameSoFar xs ys k → true ≡ same_fields (fields_of xs) (fields_of ys)
  same_ended k l so_far =
      let g = so_far.long in
      let m : length ys ≤ k = omega (arith, l, g) in
      sym (ap₂ (λ (us ws : List CodeField). same_fields (fields_of us) (fields_of ws)) (drop-end xs k l) (drop-end ys k m)) ∙ so_far.is

-- what holds of the fields of a structure or an instance, holds of it
pub structure_same : (sh : CodeShape) (n : ℕ) (name : Bor (List ℕ)) (fs gs : List CodeField) (other : Shape) (r : Bool) → sh ≡ code.Structure n name fs → gs ≡ fs → r ≡ same_shape (Structure name.now (fields_of gs)) other → r ≡ same_shape (shape_of sh) other
structure_same sh n name fs gs other r e f h =
    h ∙ ap (λ (us : List CodeField). same_shape (Structure name.now (fields_of us)) other) f ∙ sym (ap (λ x. same_shape x other) (ap shape_of e ∙ shape-Structure n name fs))

pub instance_same : (sh : CodeShape) (c : ℕ) (name : Bor (List ℕ)) (fs gs : List CodeField) (other : Shape) (r : Bool) → sh ≡ code.Instance c name fs → gs ≡ fs → r ≡ same_shape (Instance c name.now (fields_of gs)) other → r ≡ same_shape (shape_of sh) other
instance_same sh c name fs gs other r e f h =
    h ∙ ap (λ (us : List CodeField). same_shape (Instance c name.now (fields_of us)) other) f ∙ sym (ap (λ x. same_shape x other) (ap shape_of e ∙ shape-Instance c name fs))
