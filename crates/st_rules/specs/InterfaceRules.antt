-- The rules of interfaces: E06 of an interface, and E11 of a class or a function block (IEC 61131-3:2013, 6.6.6).
use Rattle.std.specs.Prelude.{ℕ, Bool, not, ◌&&◌, List, [], ◌++◌, Option, Some, None, option_and_then, slice_get, if◌then◌else◌}
use Rattle.std.specs.List.{list_any}
use Rattle.plc_text.specs.declared.code.Code.TheVariants.{E06, E11}
use Rattle.st_types.specs.declared.st_type.StType.TheVariants.{Interface}
use Rattle.st_tree.specs.declared.declaration.ClassDecl.{ClassDecl}
use Rattle.st_tree.specs.declared.declaration.InterfaceDecl.{InterfaceDecl}
use Rattle.st_rules.specs.declared.modifiers.Access.TheVariants.{Public}
use Rattle.st_rules.specs.declared.ids.MethodId.{MethodId}
use Rattle.st_rules.specs.declared.signature.Signatures.{Signatures}
use Rattle.st_rules.specs.Faults.{Faults, when}
use Rattle.st_rules.specs.Modifiers.{is_abstract, method_access, same_access}
use Rattle.st_rules.specs.Numbered.{passes_if_there, any_numbered}
use Rattle.st_rules.specs.Classes.{chain, lookup, methods_in, method_at}
use Rattle.st_rules.specs.Interfaces.{extended, extends, conforms, prototype_id, prototype_at}
use Rattle.st_rules.specs.Signatures.{differ, signature_of, prototype_signature}

-- ---- interfaces

-- an interface that the interface extends, extends it
abbrev pub lies_on_interface_cycle : {A : Type 0} → List (InterfaceDecl A) → ℕ → Bool
lies_on_interface_cycle interfaces i = list_any (λ j. extends interfaces j i) (extended interfaces i)

abbrev pub cycle_of_interfaces : {A : Type 0} → List (InterfaceDecl A) → ℕ → InterfaceDecl A → Faults
cycle_of_interfaces interfaces i interface = when (lies_on_interface_cycle interfaces i) E06 interface.line

abbrev pub interface_faults_of : {A : Type 0} → List (InterfaceDecl A) → ℕ → Option (InterfaceDecl A) → Faults
interface_faults_of interfaces i None = []
interface_faults_of interfaces i (Some interface) = cycle_of_interfaces interfaces i interface

-- the rules that interface number i breaks
abbrev pub interface_faults : {A : Type 0} → List (InterfaceDecl A) → ℕ → Faults
interface_faults interfaces i = interface_faults_of interfaces i (slice_get interfaces i)

-- ---- classes that are not abstract

module _ {A : Type 0} (classes : List (ClassDecl A)) where
  -- the method that the name means in the class is abstract
  abbrev pub means_abstract : ℕ → List ℕ → Bool
  means_abstract c name = passes_if_there (λ m. is_abstract m.modifiers) (option_and_then (method_at classes) (lookup classes c name))

  abbrev pub declares_one : (List ℕ → Bool) → ℕ → Bool
  declares_one test d = passes_if_there (λ class. list_any (λ m. test m.name.text) (methods_in class.members)) (slice_get classes d)

  -- the class declares or inherits an abstract method
  abbrev pub has_abstract_method : ℕ → Bool
  has_abstract_method c = list_any (declares_one (means_abstract c)) (chain classes c)

  abbrev pub abstract_method_left : ℕ → ClassDecl A → Faults
  abstract_method_left c class = when (not (is_abstract class.modifiers) && has_abstract_method c) E11 class.line

  abbrev pub is_public : MethodId → Bool
  is_public id = passes_if_there (λ m. same_access (method_access m.modifiers) Public) (method_at classes id)

  abbrev pub if_public : MethodId → Option MethodId
  if_public id = if is_public id then Some id else None

  module _ (interfaces : List (InterfaceDecl A)) where
    -- the method that a class runs for a method of an interface: none where it does not conform to it, or has no PUBLIC method of
    -- that name
    unfoldable pub target : ℕ → ℕ → ℕ → Option MethodId
    target c i m =
        if conforms classes interfaces c (Interface i)
        then option_and_then if_public (option_and_then (λ p. lookup classes c p.name.text) (prototype_at interfaces (prototype_id i m)))
        else None

    module _ {V : Type 0} (same_value : V → V → Bool) (signatures : Signatures V) where
      -- the class has a PUBLIC method of equal signature for the method of the interface
      abbrev pub is_met : ℕ → ℕ → ℕ → Bool
      is_met c i m = passes_if_there (λ id. not (differ same_value (signature_of signatures id) (prototype_signature signatures (prototype_id i m)))) (target c i m)

      -- a method of an interface to which the class conforms is not met
      abbrev pub leaves_method : ℕ → ℕ → InterfaceDecl A → Bool
      leaves_method c i interface = conforms classes interfaces c (Interface i) && any_numbered (λ m p. not (is_met c i m)) 0 interface.methods

      abbrev pub interface_not_met : ℕ → ClassDecl A → Faults
      interface_not_met c class = when (not (is_abstract class.modifiers) && any_numbered (leaves_method c) 0 interfaces) E11 class.line

      abbrev pub concrete_class_faults_of : ℕ → Option (ClassDecl A) → Faults
      concrete_class_faults_of c None = []
      concrete_class_faults_of c (Some class) = abstract_method_left c class ++ interface_not_met c class

      -- the rules of interfaces and abstract methods that class number c breaks
      abbrev pub concrete_class_faults : ℕ → Faults
      concrete_class_faults c = concrete_class_faults_of c (slice_get classes c)
