-- What the agreement of names rests on beside the rules: what constants come to, and that classes meet their interfaces.
use Rattle.std.specs.Prelude.{◌≡◌, ℕ, pos, Bool, true, false, List, Option, Some}
use Rattle.st_types.specs.declared.st_type.StType.{StType}
use Rattle.st_types.specs.declared.st_type.StType.TheVariants as type
use Rattle.st_tree.specs.declared.program.Program.{Program as Checked}
use Rattle.st_tree.specs.declared.unit.Decl.{Decl}
use Rattle.st_rules.specs.declared.ids.MethodId.{MethodId}
use Rattle.st_rules.specs.declared.ids.PrototypeId.{PrototypeId}
use Rattle.st_rules.specs.declared.names.DeclaredVariable.{DeclaredVariable}
use Rattle.st_rules.specs.Classes.{classes_in, lookup}
use Rattle.st_rules.specs.Interfaces.{interfaces_in, interface_lookup}
use Rattle.st_rules.specs.Scope.{Scope, a_variable, an_enumerator, sought, value_of}
use Rattle.st_rules.specs.Signatures.{differ, signature_of, prototype_signature}
use Rattle.st_unit_rules.specs.declared_names.Constants.{is_told}
use Rattle.st_unit_rules.specs.DeclarationRules.{signatures}
use Rattle.st_unit_rules.specs.Worth.{same_worth}
use Rattle.st_values.specs.Program.{Program, conforms}
use Rattle.st_values.specs.View.{program_of}
use Rattle.st_meaning.specs.st_frame.Promise.Types.{NumberIs}
use Rattle.st_meaning.specs.st_frame.Promise.Calls.{HasInstance}
use Rattle.place_laws.specs.Agrees.{ConstantIs}

-- what constants and enumerators come to in a scope
pub record HasNumbers (p : Program) (s : Scope) : Type 0 where
  pub constant : (called : Bool) (name : List ℕ) (c : Option ℕ) (v : DeclaredVariable) → sought s called name ≡ Some (a_variable c v) → v.constant ≡ true → is_told v.target ≡ true → (t : StType) → v.kind ≡ Some t → ConstantIs p v.target t
  pub enumerator : (called : Bool) (name : List ℕ) (n k : ℕ) → sought s called name ≡ Some (an_enumerator n k) → NumberIs p (type.Enumeration n) (pos k)
  pub value : (n : ℕ) (name : List ℕ) (k : ℕ) → value_of s n name ≡ Some k → NumberIs p (type.Enumeration n) (pos k)

-- a class that has an instance has a method of equal signature for each of an interface to which it conforms
pub record MeetsInterfaces (decls : List (Decl ℕ)) (p : Checked) : Type 0 where
  pub by : (c i : ℕ) (name : List ℕ) (id : PrototypeId) → HasInstance (program_of p) c → conforms (program_of p) c (type.Interface i) ≡ true → interface_lookup (interfaces_in decls) i name ≡ Some id
      → (k : MethodId) × (lookup (classes_in decls) c name ≡ Some k) × (differ same_worth (signature_of (signatures decls) k) (prototype_signature (signatures decls) id) ≡ false)
