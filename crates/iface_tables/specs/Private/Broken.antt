-- The rules of interfaces that classes and interfaces break, by the names of the interfaces' methods.
use Rattle.std.specs.Prelude.{ℕ, Bool, not, ◌&&◌, List, [], ◌++◌, Option, Some, None, option_map, option_and_then, slice_get, if◌then◌else◌}
use Rattle.plc_text.specs.declared.code.Code.TheVariants.{E06, E11}
use Rattle.st_types.specs.declared.st_type.StType.TheVariants.{Interface}
use Rattle.st_tree.specs.declared.unit.Unit.{Unit}
use Rattle.st_rules.specs.declared.ids.MethodId.{MethodId}
use Rattle.st_rules.specs.declared.ids.PrototypeId.{PrototypeId}
use Rattle.st_rules.specs.declared.signature.Signatures.{Signatures}
use Rattle.st_rules.specs.Faults.{Faults, when}
use Rattle.st_rules.specs.Numbered.{passes_if_there, any_numbered}
use Rattle.st_rules.specs.Modifiers.{is_abstract}
use Rattle.st_rules.specs.Classes.{classes_in}
use Rattle.st_rules.specs.Interfaces.{interfaces_in, conforms, prototype_id}
use Rattle.st_rules.specs.Signatures.{differ, signature_of, prototype_signature}
use Rattle.st_rules.specs.InterfaceRules.{has_abstract_method, lies_on_interface_cycle}
use Rattle.iface_tables.specs.Private.Targets.{target}

abbrev pub has_signature : {V : Type 0} → (V → V → Bool) → Signatures V → MethodId → PrototypeId → Bool
has_signature same_value signatures id p = not (differ same_value (signature_of signatures id) (prototype_signature signatures p))

module _ {V : Type 0} (same_value : V → V → Bool) (unit : Unit) (prototypes : List (List (List ℕ))) (signatures : Signatures V) where
  abbrev pub is_met : ℕ → ℕ → ℕ → Bool
  is_met c i m = passes_if_there (λ id. has_signature same_value signatures id (prototype_id i m)) (target unit prototypes c i m)

  abbrev pub leaves_one : ℕ → ℕ → List (List ℕ) → Bool
  leaves_one c i names = any_numbered (λ m name. not (is_met c i m)) 0 names

  abbrev pub leaves_interface : ℕ → ℕ → List (List ℕ) → Bool
  leaves_interface c i names = conforms (classes_in unit.decls) (interfaces_in unit.decls) c (Interface i) && leaves_one c i names

  abbrev pub leaves_any : ℕ → Bool
  leaves_any c = any_numbered (leaves_interface c) 0 prototypes

  abbrev pub faults_at : ℕ → Option ℕ → Faults
  faults_at c None = []
  faults_at c (Some line) = when (has_abstract_method (classes_in unit.decls) c) E11 line ++ when (leaves_any c) E11 line

  abbrev pub class_faults : ℕ → Faults
  class_faults c = faults_at c (option_and_then (λ class. if is_abstract class.modifiers then None else Some class.line) (slice_get (classes_in unit.decls) c))

abbrev pub cycle_at : Unit → ℕ → Option ℕ → Faults
cycle_at unit i None = []
cycle_at unit i (Some line) = when (lies_on_interface_cycle (interfaces_in unit.decls) i) E06 line

abbrev pub interface_faults : Unit → ℕ → Faults
interface_faults unit i = cycle_at unit i (option_map (λ interface. interface.line) (slice_get (interfaces_in unit.decls) i))
