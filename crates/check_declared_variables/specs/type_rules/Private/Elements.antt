-- What the innermost array of a type is of.
use Rattle.std.specs.Prelude.{◌≡◌, ℕ, Bool, false, not, ◌&&◌, List, Option, Some, None, option_and_then}
use Rattle.std.specs.Option.{is_some}
use Rattle.plc_text.specs.declared.code.Code.TheVariants.{E07}
use Rattle.st_types.specs.declared.elem.Elem.{Elem}
use Rattle.st_types.specs.declared.st_type.StType.{StType}
use Rattle.st_types.specs.declared.st_type.StType.TheVariants as type
use Rattle.st_tree.specs.declared.program.Target.TheVariants as target
use Rattle.st_tree.specs.declared.type_spec.SimpleSpec.{SimpleSpec}
use Rattle.st_tree.specs.declared.type_spec.SimpleSpec.TheVariants as spec
use Rattle.st_rules.specs.Faults.{least, earlier, when}
use Rattle.st_rules.specs.Kinds.{is_instance}
use Rattle.st_rules.specs.Scope.{Scope}
use Rattle.st_rules.specs.Expressions.{note, reference_to}
use Rattle.st_unit_rules.specs.declared_names.WrittenTypes.{type_declared, named_type, element_written, type_not_found, element_faults}
use Rattle.st_unit_rules.specs.Checked.{TypedElement}
use Rattle.check_declared_variables.specs.declared.type_rules.elements.CheckedElement.{CheckedElement}

abbrev pub is_instance_told : Option StType → Bool
is_instance_told None = false
is_instance_told (Some t) = is_instance t

pub record IsElementary (c : CheckedElement) (line : ℕ) (e : Elem) : Type 0 where
  pub kind : c.kind ≡ Some (type.Elementary e)
  pub least : c.least ≡ None
  pub element : c.element ≡ spec.Elementary (note line (Some (type.Elementary e)) target.Nothing) e

pub record IsNamed (c : CheckedElement) (s : Scope) (line : ℕ) (name : List ℕ) : Type 0 where
  pub kind : c.kind ≡ named_type s name
  pub least : c.least ≡ least (type_not_found s line name)
  pub element : c.element ≡ spec.Named (note line (named_type s name) target.Nothing) name

pub record IsReference (c : CheckedElement) (s : Scope) (line name_line : ℕ) (name : List ℕ) : Type 0 where
  pub kind : c.kind ≡ option_and_then reference_to (named_type s name)
  pub least : c.least ≡ earlier (least (type_not_found s name_line name)) (least (when (is_some (type_declared s name) && not (is_instance_told (named_type s name))) E07 name_line))
  pub element : c.element ≡ spec.Reference (note line (option_and_then reference_to (named_type s name)) target.Nothing) (note name_line (named_type s name) target.Nothing) name

pub record ElementChecks (c : CheckedElement) (s : Scope) (e : SimpleSpec ℕ) : Type 0 where
  pub kind : c.kind ≡ element_written s e
  pub least : c.least ≡ least (element_faults s e)
  pub element : TypedElement s e c.element
