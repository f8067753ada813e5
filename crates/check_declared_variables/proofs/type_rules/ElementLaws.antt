-- What the innermost array of a type is of, by its sort.
use Rattle.std.proofs.Common.{◌≡◌, ℕ, List, Option, Some, None, refl, sym, ap, subst}
use Rattle.std.specs.Prelude.{◌&&◌, not}
use Rattle.std.specs.Option.{is_some}
use Rattle.plc_text.specs.declared.code.Code.TheVariants.{E07}
use Rattle.st_types.specs.declared.elem.Elem.{Elem}
use Rattle.st_types.specs.declared.st_type.StType.{StType}
use Rattle.st_tree.specs.declared.type_spec.SimpleSpec.{SimpleSpec}
use Rattle.st_tree.specs.declared.type_spec.SimpleSpec.TheVariants as spec
use Rattle.st_rules.specs.Faults.{least, when}
use Rattle.st_rules.specs.Scope.{Scope}
use Rattle.st_unit_rules.specs.declared_names.WrittenTypes.{type_declared, named_type, type_not_found, is_instance_told, reference_to_another_type}
use Rattle.check_declared_variables.specs.declared.type_rules.elements.CheckedElement.{CheckedElement}
use Rattle.check_declared_variables.specs.type_rules.Private.Elements as own
use Rattle.check_declared_variables.specs.type_rules.Private.Elements.{IsElementary, IsNamed, IsReference, ElementChecks}
use Rattle.check_initial_values.proofs.Parts.{joined}

instance_is : (s : Scope) (t : Option StType) → own.is_instance_told t ≡ is_instance_told s t
instance_is s None = refl
instance_is s (Some t) = refl

seen : (c : CheckedElement) (s : Scope) (x y : SimpleSpec ℕ) → x ≡ y → ElementChecks c s y → ElementChecks c s x
seen c s x y h f = subst (λ (z : SimpleSpec ℕ). ElementChecks c s z) (sym h) f

module _ (c : CheckedElement) (s : Scope) (x : SimpleSpec ℕ) where
  pub elementary_arm : (line : ℕ) (e : Elem) → x ≡ spec.Elementary line e → IsElementary c line e → ElementChecks c s x
  elementary_arm line e h w = seen c s x (spec.Elementary line e) h (record { kind = w.kind; least = w.least; element = w.element })

  pub named_arm : (line : ℕ) (name : List ℕ) → x ≡ spec.Named line name → IsNamed c s line name → ElementChecks c s x
  named_arm line name h w = seen c s x (spec.Named line name) h (record { kind = w.kind; least = w.least; element = w.element })

  pub reference_arm : (line name_line : ℕ) (name : List ℕ) → x ≡ spec.Reference line name_line name → IsReference c s line name_line name → ElementChecks c s x
  reference_arm line name_line name h w = seen c s x (spec.Reference line name_line name) h (record {
    kind = w.kind;
    least = joined c.least (least (type_not_found s name_line name)) (least (when (is_some (type_declared s name) && not (own.is_instance_told (named_type s name))) E07 name_line)) (type_not_found s name_line name) (reference_to_another_type s name_line name) w.least refl
        (ap (λ b. least (when (is_some (type_declared s name) && not b) E07 name_line)) (instance_is s (named_type s name)));
    element = w.element;
  })
