-- A written type from its element and its arrays.
use Rattle.std.proofs.Common.{◌≡◌, ℕ, List, [], ◌∷◌, Option, refl, sym, ap, ◌∙◌, subst, reverse}
use Rattle.std.specs.Prelude.{flat_map}
use Rattle.st_types.specs.declared.st_type.StType.{StType}
use Rattle.st_tree.specs.declared.program.Note.{Note}
use Rattle.st_tree.specs.declared.type_spec.ArraySpec.{ArraySpec}
use Rattle.st_tree.specs.declared.type_spec.SimpleSpec.{SimpleSpec}
use Rattle.st_tree.specs.declared.type_spec.TypeSpec.{TypeSpec}
use Rattle.st_rules.specs.Faults.{least}
use Rattle.st_rules.specs.Scope.{Scope}
use Rattle.st_unit_rules.specs.declared_names.WrittenTypes.{type_written, type_faults, dimensions, dimension_faults, element_faults, element_written, arrays_of}
use Rattle.st_unit_rules.specs.Checked.{TypedArrays, TypedElement}
use Rattle.check_initial_values.proofs.Parts.{joined}
use Rattle.check_declared_variables.specs.declared.type_rules.arrays.Arrays.{Arrays}
use Rattle.check_declared_variables.specs.declared.type_rules.dimensions.Told.{Told}
use Rattle.check_declared_variables.specs.declared.type_rules.elements.CheckedElement.{CheckedElement}
use Rattle.check_declared_variables.specs.declared.type_rules.types.CheckedType.{CheckedType}
use Rattle.check_declared_variables.specs.type_rules.Types.{ChecksType}
use Rattle.check_declared_variables.specs.type_rules.Private.Arrays.{TypedAround, ArraysFind}
use Rattle.check_declared_variables.specs.type_rules.Private.Elements.{ElementChecks}

module _ (s : Scope) where
  arrays_typed : (element : SimpleSpec ℕ) (xs : List (ArraySpec ℕ)) (ys : List (ArraySpec Note)) → TypedAround s (element_written s element) xs ys → TypedArrays s element xs ys
  arrays_typed element [] [] h = tt
  arrays_typed element (x ∷ xs) (y ∷ ys) h = (h.0, h.1, (arrays_typed element xs ys h.2))
  arrays_typed element [] (y ∷ ys) h = absurd h
  arrays_typed element (x ∷ xs) [] h = absurd h

  pub type_checks : (c : CheckedType) (t : TypeSpec ℕ) (e : CheckedElement) (inner : Told) (arrays : List (ArraySpec ℕ)) (x : Arrays) → ElementChecks e s t.element → inner.kind ≡ e.kind → inner.least ≡ e.least
      → arrays ≡ t.arrays → ArraysFind x s arrays inner → c.kind ≡ x.told.kind → c.least ≡ x.told.least → c.tree.arrays ≡ reverse x.arrays.items → c.tree.element ≡ e.element → ChecksType c s t
  unfolding type_written type_faults
  type_checks c t e inner arrays x f ik il q g k l ta te =
      let h : ArraysFind x s t.arrays inner = subst (λ (as' : List (ArraySpec ℕ)). ArraysFind x s as' inner) q g in
      let element : inner.kind ≡ element_written s t.element = ik ∙ f.kind in
      record {
        kind = k ∙ h.kind ∙ ap (arrays_of s (dimensions t)) element;
        least = joined c.least (least (flat_map (dimension_faults s) (dimensions t))) inner.least (flat_map (dimension_faults s) (dimensions t)) (element_faults s t.element) (l ∙ h.least) refl (il ∙ f.least);
        tree = record {
          arrays = subst (λ (ys : List (ArraySpec Note)). TypedArrays s t.element t.arrays ys) (sym ta)
              (arrays_typed t.element t.arrays (reverse x.arrays.items) (subst (λ (o : Option StType). TypedAround s o t.arrays (reverse x.arrays.items)) element h.arrays));
          element = subst (λ (y : SimpleSpec Note). TypedElement s t.element y) (sym te) f.element;
        };
      }
