-- What is promised of the declarations of the checked program of a good unit that is formed.
use Rattle.std.specs.Prelude.{◌≡◌, ℕ, Bool, true, false, List, Option, Some, slice_get}
use Rattle.st_types.specs.declared.st_type.StType.{StType}
use Rattle.st_types.specs.declared.st_type.StType.TheVariants as type
use Rattle.st_tree.specs.declared.declaration.ClassDecl.{ClassDecl}
use Rattle.st_tree.specs.declared.declaration.Section.{Section}
use Rattle.st_tree.specs.declared.program.Program.{Program as Checked}
use Rattle.st_tree.specs.declared.type_spec.TypeSpec.{TypeSpec}
use Rattle.st_tree.specs.declared.unit.Decl.{Decl}
use Rattle.st_rules.specs.declared.ids.MethodId.{MethodId}
use Rattle.st_rules.specs.declared.ids.PrototypeId.{PrototypeId}
use Rattle.st_rules.specs.declared.names.DeclaredVariable.{DeclaredVariable}
use Rattle.st_rules.specs.Classes.{classes_in, lookup}
use Rattle.st_rules.specs.ClassRules.{lies_on_cycle}
use Rattle.st_rules.specs.Interfaces.{interfaces_in, interface_lookup}
use Rattle.st_rules.specs.Modifiers.{is_abstract}
use Rattle.st_rules.specs.Scope.{Scope, a_variable, sought}
use Rattle.st_rules.specs.Signatures.{differ, signature_of, prototype_signature}
use Rattle.st_unit_rules.specs.Checked.{IsChecked}
use Rattle.st_unit_rules.specs.DeclarationRules.{signatures}
use Rattle.st_unit_rules.specs.RefusalLaws.{IsGood}
use Rattle.st_unit_rules.specs.Worth.{same_worth}
use Rattle.st_values.specs.Program.{conforms}
use Rattle.st_values.specs.View.{program_of}
use Rattle.st_meaning.specs.st_frame.Promise.Calls.{HasInstance}
use Rattle.accepted_texts.specs.formed_units.Formed.{IsFormed}
use Rattle.accepted_texts.specs.told_units.Told.{WrittenIn}
use Rattle.place_laws.specs.Agrees.{ConstantIs}
use Rattle.declaration_laws.specs.DeclarationsAre.{DeclarationsAre}

-- of one unit with its program
pub record AreRight (decls : List (Decl ℕ)) (p : Checked) : Type 0 where
  -- regions, classes and the declarations of routines
  pub declarations : DeclarationsAre (program_of p)
  -- a constant has its type, and is a number of it
  pub constants : (s : Scope) (o : Option (TypeSpec ℕ)) (ss : List (Section ℕ)) → WrittenIn decls s o ss → (called : Bool) (name : List ℕ) (c : Option ℕ) (v : DeclaredVariable) → sought s called name ≡ Some (a_variable c v) → v.constant ≡ true
      → (t : StType) × (v.kind ≡ Some t) × ConstantIs (program_of p) v.target t
  -- no class is its own base
  pub no_cycle : (c : ℕ) → lies_on_cycle p.classes c ≡ false
  -- no class with an instance is abstract
  pub living : (c : ℕ) → HasInstance (program_of p) c → (d : ClassDecl ℕ) → slice_get (classes_in decls) c ≡ Some d → is_abstract d.modifiers ≡ false
  -- and it has a method of equal signature for each method of an interface to which it conforms
  pub met : (c i : ℕ) (name : List ℕ) (id : PrototypeId) → HasInstance (program_of p) c → conforms (program_of p) c (type.Interface i) ≡ true → interface_lookup (interfaces_in decls) i name ≡ Some id
      → (k : MethodId) × (lookup (classes_in decls) c name ≡ Some k) × (differ same_worth (signature_of (signatures decls) k) (prototype_signature (signatures decls) id) ≡ false)

pub record DeclarationLaws : Type 0 where
  pub right : (most : ℕ) (decls : List (Decl ℕ)) (p : Checked) → IsFormed most decls → IsGood decls → IsChecked decls p → AreRight decls p
