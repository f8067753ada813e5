-- One dimension more around what is told of a type.
use Rattle.std.proofs.Common.{◌≡◌, ℕ, ◌+◌, ◌<◌, ◌≤◌, List, [], ◌∷◌, ◌++◌, Option, sym, ap, ◌∙◌, arith, subst, length, get_or, drop, reverse}
use Rattle.std.specs.Prelude.{flat_map}
use Rattle.std.proofs.lemmas.List.{reverse-append}
use Rattle.plc_text.specs.declared.code.Code.{Code}
use Rattle.st_tree.specs.declared.program.Note.{Note}
use Rattle.st_tree.specs.declared.type_spec.Bounds.{Bounds}
use Rattle.st_tree.specs.Expression.{expression_of}
use Rattle.st_rules.specs.Faults.{Faults, least, earlier}
use Rattle.st_rules.specs.Scope.{Scope}
use Rattle.st_rules.proofs.FaultLaws.{earlier-assoc, least-append}
use Rattle.st_rules.proofs.ListLaws.{drop-at, drop-end}
use Rattle.st_unit_rules.specs.declared_names.WrittenTypes.{array_of, bound_value, dimension_faults}
use Rattle.st_unit_rules.specs.Checked.{Each, TypedBounds}
use Rattle.check_declared_variables.specs.declared.type_rules.bounds.CheckedDimension.{CheckedDimension}
use Rattle.check_declared_variables.specs.declared.type_rules.dimensions.Told.{Told}
use Rattle.check_declared_variables.specs.declared.type_rules.dimensions.Dimensions.{Dimensions}
use Rattle.check_declared_variables.specs.type_rules.Private.Bounds.{DimensionChecks}
use Rattle.check_declared_variables.specs.type_rules.Private.Dimensions.{Surrounds, DimensionsFind}

-- a list the other way round has what was added last first
pub turned : {X : Type 0} (xs : List X) (x : X) → reverse (xs ++ x ∷ []) ≡ x ∷ reverse xs
turned xs x = reverse-append xs (x ∷ [])

-- the least of one part, and of what is told behind it
pub around : (r own rest inner : Option (Code × ℕ)) (fs gs : Faults) → r ≡ earlier own rest → own ≡ least fs → rest ≡ earlier (least gs) inner → r ≡ earlier (least (fs ++ gs)) inner
around r own rest inner fs gs e f g = e ∙ ap (λ x. earlier x rest) f ∙ ap (earlier (least fs)) g ∙ earlier-assoc (least fs) (least gs) inner ∙ ap (λ x. earlier x inner) (sym (least-append fs gs))

module _ (s : Scope) where
  -- what was found of the dimensions from this place on
  pub record DimensionsFrom (x : Dimensions) (bs : List (Bounds ℕ)) (inner : Told) (i : ℕ) : Type 0 where
    pub within : i ≤ length bs
    pub finds : DimensionsFind x s (drop i bs) inner

  pub dimensions_begun : (x : Dimensions) (bs : List (Bounds ℕ)) (inner : Told) (i : ℕ) → i ≡ length bs → x.told ≡ inner → x.bounds.items ≡ [] → DimensionsFrom x bs inner i
  dimensions_begun x bs inner i n t b =
      let none : drop i bs ≡ [] = drop-end bs i (omega (arith, n)) in
      record {
        within = omega (arith, n);
        finds = subst (λ (cs : List (Bounds ℕ)). DimensionsFind x s cs inner) (sym none) (record {
          kind = ap (λ y. y.kind) t;
          least = ap (λ y. y.least) t;
          bounds = subst (λ (ys : List (Bounds Note)). Each (TypedBounds s) [] (reverse ys)) (sym b) tt;
        });
      }

  dimension_more : (x before : Dimensions) (d : CheckedDimension) (b : Bounds ℕ) (bs : List (Bounds ℕ)) (inner : Told) → DimensionChecks d s b → Surrounds x before d → DimensionsFind before s bs inner → DimensionsFind x s (b ∷ bs) inner
  dimension_more x before d b bs inner f w k =
      let low = bound_value s (expression_of b.low) in
      let high = bound_value s (expression_of b.high) in
      record {
        kind = w.kind ∙ ap (λ y. array_of y d.high before.told.kind) f.low ∙ ap (λ y. array_of low y before.told.kind) f.high ∙ ap (array_of low high) k.kind;
        least = around x.told.least d.least before.told.least inner.least (dimension_faults s b) (flat_map (dimension_faults s) bs) w.least f.least k.least;
        bounds = subst (λ (ys : List (Bounds Note)). Each (TypedBounds s) (b ∷ bs) ys) (sym (ap reverse w.bounds ∙ turned before.bounds.items d.bounds)) (f.bounds, k.bounds);
      }

  pub dimensions_next : (x before : Dimensions) (d : CheckedDimension) (bs : List (Bounds ℕ)) (inner : Told) (i j : ℕ) (b : Bounds ℕ) → j ≡ i + 1 → i < length bs → b ≡ get_or bs i b → DimensionChecks d s b → Surrounds x before d
      → DimensionsFrom before bs inner j → DimensionsFrom x bs inner i
  dimensions_next x before d bs inner i j b n l at f w k = record {
    within = omega (arith, l);
    finds = subst (λ (cs : List (Bounds ℕ)). DimensionsFind x s cs inner) (sym (drop-at bs i b l at ∙ ap (λ m. b ∷ drop m bs) (sym n))) (dimension_more x before d b (drop j bs) inner f w k.finds);
  }

  pub dimensions_ended : (x : Dimensions) (bs : List (Bounds ℕ)) (inner : Told) (i : ℕ) → i ≤ 0 → DimensionsFrom x bs inner i → DimensionsFind x s bs inner
  dimensions_ended x bs inner i n k = let zero_is : i ≡ 0 = omega (arith, n) in subst (λ (m : ℕ). DimensionsFind x s (drop m bs) inner) zero_is k.finds
