-- Arrays in one another, dimension by dimension.
use Rattle.std.proofs.Common.{◌≡◌, ℕ, ℤ, List, [], ◌∷◌, ◌++◌, Option, Some, None, refl, sym, ap, ◌∙◌}
use Rattle.st_types.specs.declared.st_type.StType.{StType}
use Rattle.st_tree.specs.declared.type_spec.ArraySpec.{ArraySpec}
use Rattle.st_tree.specs.declared.type_spec.Bounds.{Bounds}
use Rattle.st_tree.specs.Expression.{expression_of}
use Rattle.st_rules.specs.Scope.{Scope}
use Rattle.st_unit_rules.specs.declared_names.WrittenTypes.{array_of, arrays_of, bound_value}
use Rattle.type_resolution.specs.written_types.Private.Values.{bounds_of}

-- ---- one dimension

pub of-untold : (low high : Option ℤ) → None ≡ array_of low high None
of-untold None high = refl
of-untold (Some a) None = refl
of-untold (Some a) (Some b) = refl

-- ---- dimensions one by one, the innermost first

module _ (s : Scope) where
  arrays-append : (xs ys : List (Bounds ℕ)) (t : Option StType) → arrays_of s (xs ++ ys) t ≡ arrays_of s xs (arrays_of s ys t)
  arrays-append [] ys t = refl
  arrays-append (x ∷ xs) ys t = ap (λ o. array_of (bound_value s (expression_of x.low)) (bound_value s (expression_of x.high)) o) (arrays-append xs ys t)

  pub record DimensionsTo (all : List (Bounds ℕ)) (of : Option StType) (left : List (Bounds ℕ)) (kind : Option StType) : Type 0 where
    pub rest : arrays_of s left kind ≡ arrays_of s all of

  pub dimensions_begun : (all left : List (Bounds ℕ)) (of : Option StType) → left ≡ all → DimensionsTo all of left of
  dimensions_begun all left of e = record { rest = ap (λ xs. arrays_of s xs of) e }

  pub dimensions_next : (all : List (Bounds ℕ)) (of kind more : Option StType) (left before : List (Bounds ℕ)) (b : Bounds ℕ) → left ≡ before ++ b ∷ []
      → more ≡ array_of (bound_value s (expression_of b.low)) (bound_value s (expression_of b.high)) kind → DimensionsTo all of left kind → DimensionsTo all of before more
  dimensions_next all of kind more left before b e f d = record {
    rest = ap (arrays_of s before) f ∙ sym (arrays-append before (b ∷ []) kind) ∙ ap (λ xs. arrays_of s xs kind) (sym e) ∙ d.rest;
  }

  pub dimensions_ended : (all : List (Bounds ℕ)) (of kind : Option StType) (left : List (Bounds ℕ)) → left ≡ [] → DimensionsTo all of left kind → kind ≡ arrays_of s all of
  dimensions_ended all of kind left e d = ap (λ xs. arrays_of s xs kind) (sym e) ∙ d.rest

  bounds-append : (xs ys : List (ArraySpec ℕ)) → bounds_of (xs ++ ys) ≡ bounds_of xs ++ bounds_of ys
  bounds-append [] ys = refl
  bounds-append (x ∷ xs) ys = ap (λ zs. x.bounds ++ zs) (bounds-append xs ys) ∙ sym (again x.bounds (bounds_of xs) (bounds_of ys))
    where
      again : (a b c : List (Bounds ℕ)) → (a ++ b) ++ c ≡ a ++ (b ++ c)
      again [] b c = refl
      again (x ∷ a) b c = ap (λ zs. x ∷ zs) (again a b c)

  bounds-one : (a : ArraySpec ℕ) → bounds_of (a ∷ []) ≡ a.bounds
  bounds-one a = empty a.bounds
    where
      empty : (xs : List (Bounds ℕ)) → xs ++ [] ≡ xs
      empty [] = refl
      empty (x ∷ xs) = ap (λ zs. x ∷ zs) (empty xs)

  pub record ArraysTo (all : List (ArraySpec ℕ)) (of : Option StType) (left : List (ArraySpec ℕ)) (kind : Option StType) : Type 0 where
    pub rest : arrays_of s (bounds_of left) kind ≡ arrays_of s (bounds_of all) of

  pub arrays_begun : (all left : List (ArraySpec ℕ)) (of : Option StType) → left ≡ all → ArraysTo all of left of
  arrays_begun all left of e = record { rest = ap (λ xs. arrays_of s (bounds_of xs) of) e }

  pub arrays_next : (all : List (ArraySpec ℕ)) (of kind more : Option StType) (left before : List (ArraySpec ℕ)) (a : ArraySpec ℕ) (bs : List (Bounds ℕ)) → left ≡ before ++ a ∷ [] → bs ≡ a.bounds
      → more ≡ arrays_of s bs kind → ArraysTo all of left kind → ArraysTo all of before more
  arrays_next all of kind more left before a bs e g f d = record {
    rest =
        ap (arrays_of s (bounds_of before)) (f ∙ ap (λ xs. arrays_of s xs kind) (g ∙ sym (bounds-one a)))
        ∙ sym (arrays-append (bounds_of before) (bounds_of (a ∷ [])) kind)
        ∙ ap (λ xs. arrays_of s xs kind) (sym (bounds-append before (a ∷ [])) ∙ ap bounds_of (sym e))
        ∙ d.rest;
  }

  pub arrays_ended : (all : List (ArraySpec ℕ)) (of kind : Option StType) (left : List (ArraySpec ℕ)) → left ≡ [] → ArraysTo all of left kind → kind ≡ arrays_of s (bounds_of all) of
  arrays_ended all of kind left e d = ap (λ xs. arrays_of s (bounds_of xs) kind) (sym e) ∙ d.rest
