-- One array more around what is told of a type.
use Rattle.std.proofs.Common.{◌≡◌, ℕ, ◌+◌, ◌<◌, ◌≤◌, List, [], ◌∷◌, ◌++◌, Option, refl, sym, ap, ◌∙◌, arith, subst, length, get_or, drop, reverse, append_assoc}
use Rattle.std.specs.Prelude.{flat_map}
use Rattle.st_types.specs.declared.st_type.StType.{StType}
use Rattle.st_tree.specs.declared.program.Note.{Note}
use Rattle.st_tree.specs.declared.program.Target.TheVariants as target
use Rattle.st_tree.specs.declared.type_spec.ArraySpec.{ArraySpec}
use Rattle.st_tree.specs.declared.type_spec.Bounds.{Bounds}
use Rattle.st_tree.specs.Expression.{expression_of}
use Rattle.st_rules.specs.Faults.{least, earlier}
use Rattle.st_rules.specs.Scope.{Scope}
use Rattle.st_rules.specs.Expressions.{note}
use Rattle.st_rules.proofs.ListLaws.{drop-at, drop-end}
use Rattle.st_unit_rules.specs.declared_names.WrittenTypes.{array_of, arrays_of, bound_value, dimension_faults}
use Rattle.st_unit_rules.specs.Checked.{Each, TypedBounds}
use Rattle.check_declared_variables.specs.declared.type_rules.arrays.Arrays.{Arrays}
use Rattle.check_declared_variables.specs.declared.type_rules.arrays.Around.{Around}
use Rattle.check_declared_variables.specs.declared.type_rules.dimensions.Told.{Told}
use Rattle.check_declared_variables.specs.declared.type_rules.dimensions.Dimensions.{Dimensions}
use Rattle.check_declared_variables.specs.type_rules.Private.Dimensions.{DimensionsFind}
use Rattle.check_declared_variables.specs.type_rules.Private.Arrays.{bounds_of, TypedAround, IsAround, AddsArray, ArraysFind}
use Rattle.check_declared_variables.proofs.type_rules.DimensionLaws.{turned, around}

-- ---- dimensions of several arrays

module _ (s : Scope) where
  pub arrays-append : (xs ys : List (Bounds ℕ)) (t : Option StType) → arrays_of s (xs ++ ys) t ≡ arrays_of s xs (arrays_of s ys t)
  arrays-append [] ys t = refl
  arrays-append (x ∷ xs) ys t = ap (λ o. array_of (bound_value s (expression_of x.low)) (bound_value s (expression_of x.high)) o) (arrays-append xs ys t)

  faults-append : (xs ys : List (Bounds ℕ)) → flat_map (dimension_faults s) (xs ++ ys) ≡ flat_map (dimension_faults s) xs ++ flat_map (dimension_faults s) ys
  faults-append [] ys = refl
  faults-append (x ∷ xs) ys = ap (λ fs. dimension_faults s x ++ fs) (faults-append xs ys) ∙ sym (append_assoc (dimension_faults s x) (flat_map (dimension_faults s) xs) (flat_map (dimension_faults s) ys))

  -- ---- one array

  pub array_around : (x : Around) (a : ArraySpec ℕ) (inner : Told) (bs : List (Bounds ℕ)) (d : Dimensions) → bs ≡ a.bounds → DimensionsFind d s bs inner → x.told ≡ d.told → x.array.note ≡ note a.note d.told.kind target.Nothing
      → x.array.bounds ≡ reverse d.bounds.items → IsAround x s a inner
  array_around x a inner bs d q f t n b =
      let g : DimensionsFind d s a.bounds inner = subst (λ (cs : List (Bounds ℕ)). DimensionsFind d s cs inner) q f in
      record {
        kind = ap (λ y. y.kind) t ∙ g.kind;
        least = ap (λ y. y.least) t ∙ g.least;
        note = n ∙ ap (λ y. note a.note y.kind target.Nothing) (sym t);
        bounds = subst (λ (ys : List (Bounds Note)). Each (TypedBounds s) a.bounds ys) (sym b) g.bounds;
      }

  -- ---- arrays, the innermost first

  -- what was found of the arrays from this place on
  pub record ArraysFrom (x : Arrays) (arrays : List (ArraySpec ℕ)) (inner : Told) (i : ℕ) : Type 0 where
    pub within : i ≤ length arrays
    pub finds : ArraysFind x s (drop i arrays) inner

  pub arrays_begun : (x : Arrays) (arrays : List (ArraySpec ℕ)) (inner : Told) (i : ℕ) → i ≡ length arrays → x.told ≡ inner → x.arrays.items ≡ [] → ArraysFrom x arrays inner i
  arrays_begun x arrays inner i n t b =
      let none : drop i arrays ≡ [] = drop-end arrays i (omega (arith, n)) in
      record {
        within = omega (arith, n);
        finds = subst (λ (cs : List (ArraySpec ℕ)). ArraysFind x s cs inner) (sym none) (record {
          kind = ap (λ y. y.kind) t;
          least = ap (λ y. y.least) t;
          arrays = subst (λ (ys : List (ArraySpec Note)). TypedAround s inner.kind [] (reverse ys)) (sym b) tt;
        });
      }

  array_more : (x before : Arrays) (w : Around) (a : ArraySpec ℕ) (rest : List (ArraySpec ℕ)) (inner : Told) → IsAround w s a before.told → AddsArray x before.arrays.items w → ArraysFind before s rest inner → ArraysFind x s (a ∷ rest) inner
  array_more x before w a rest inner f k g =
      let bs = bounds_of rest in
      let kind : w.told.kind ≡ arrays_of s (a.bounds ++ bs) inner.kind = f.kind ∙ ap (arrays_of s a.bounds) g.kind ∙ sym (arrays-append a.bounds bs inner.kind) in
      record {
        kind = ap (λ y. y.kind) k.told ∙ kind;
        least = ap (λ y. y.least) k.told
            ∙ around w.told.least (least (flat_map (dimension_faults s) a.bounds)) before.told.least inner.least (flat_map (dimension_faults s) a.bounds) (flat_map (dimension_faults s) bs) f.least refl g.least
            ∙ ap (λ fs. earlier (least fs) inner.least) (sym (faults-append a.bounds bs));
        arrays = subst (λ (ys : List (ArraySpec Note)). TypedAround s inner.kind (a ∷ rest) ys) (sym (ap reverse k.arrays ∙ turned before.arrays.items w.array))
            ((f.note ∙ ap (λ t. note a.note t target.Nothing) kind), f.bounds, g.arrays);
      }

  pub arrays_next : (x before : Arrays) (w : Around) (arrays : List (ArraySpec ℕ)) (inner : Told) (i j : ℕ) (a : ArraySpec ℕ) → j ≡ i + 1 → i < length arrays → a ≡ get_or arrays i a → IsAround w s a before.told → AddsArray x before.arrays.items w
      → ArraysFrom before arrays inner j → ArraysFrom x arrays inner i
  arrays_next x before w arrays inner i j a n l at f k g = record {
    within = omega (arith, l);
    finds = subst (λ (cs : List (ArraySpec ℕ)). ArraysFind x s cs inner) (sym (drop-at arrays i a l at ∙ ap (λ m. a ∷ drop m arrays) (sym n))) (array_more x before w a (drop j arrays) inner f k g.finds);
  }

  pub arrays_ended : (x : Arrays) (arrays : List (ArraySpec ℕ)) (inner : Told) (i : ℕ) → i ≤ 0 → ArraysFrom x arrays inner i → ArraysFind x s arrays inner
  arrays_ended x arrays inner i n k = let zero_is : i ≡ 0 = omega (arith, n) in subst (λ (m : ℕ). ArraysFind x s (drop m arrays) inner) zero_is k.finds
