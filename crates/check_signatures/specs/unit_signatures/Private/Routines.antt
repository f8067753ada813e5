-- Signatures of methods with numbers for what initial values are worth.
use Rattle.std.specs.Prelude.{◌≡◌, ℕ, ◌+◌, Bool, true, false, List, [], ◌∷◌, map, length, Option, Some, None}
use Rattle.st_tree.specs.declared.declaration.ClassDecl.{ClassDecl}
use Rattle.st_tree.specs.declared.declaration.InterfaceDecl.{InterfaceDecl}
use Rattle.st_tree.specs.declared.declaration.Method.{Method}
use Rattle.st_tree.specs.declared.declaration.Prototype.{Prototype}
use Rattle.st_tree.specs.declared.declaration.Section.{Section}
use Rattle.st_tree.specs.declared.name.Name.{Name}
use Rattle.st_tree.specs.declared.type_spec.TypeSpec.{TypeSpec}
use Rattle.st_tree.specs.declared.unit.Decl.{Decl}
use Rattle.st_rules.specs.declared.signature.Signature.{Signature}
use Rattle.st_rules.specs.Classes.{classes_in, methods_in}
use Rattle.st_rules.specs.Numbered.{each_numbered}
use Rattle.st_rules.specs.Scope.{Scope}
use Rattle.st_rules.specs.Signatures as signatures
use Rattle.st_unit_rules.specs.declared_names.UnitNames.{locals_of}
use Rattle.st_unit_rules.specs.declared_names.WrittenTypes.{type_written}
use Rattle.st_unit_rules.specs.Worth.{Worth}
use Rattle.default_values.specs.declared.worth_numbers.node.Node.{Node}
use Rattle.default_values.specs.worth_numbers.Numbers.{Grows, HasWorth}
use Rattle.default_values.specs.numbered_signatures.Alike.{AreAlike, IsAlike}
use Rattle.symbol_table.specs.unit_tables.Scopes.{scope_in}
use Rattle.check_signatures.specs.declared.unit_signatures.weighed.Weighed.{Weighed}
use Rattle.check_signatures.specs.unit_signatures.Private.Adds.{Adds}
use Rattle.check_signatures.specs.unit_signatures.Private.Parameters.{AreWeighed, value_in}

abbrev pub signature_tells : List Node → Signature ℕ → Signature Worth → Type 0
signature_tells nodes a b = IsAlike (HasWorth nodes) a b

abbrev pub list_tells : List Node → List (Signature ℕ) → List (Signature Worth) → Type 0
list_tells nodes xs ys = AreAlike (IsAlike (HasWorth nodes)) xs ys

-- ---- one signature

abbrev pub signature_of : Weighed → Scope → Option (TypeSpec ℕ) → List (Section ℕ) → Signature Worth
signature_of w s result sections = signatures.signature (type_written s) (value_in w s) result sections

pub record TellsSignature (w : Weighed) (old new : List Node) (s : Scope) (result : Option (TypeSpec ℕ)) (sections : List (Section ℕ)) (x : Signature ℕ) : Type 0 where
  pub grows : Grows old new
  pub told : AreWeighed w old → signature_tells new x (signature_of w s result sections)

-- the scope of a routine with its locals
abbrev pub routine_scope : List (Decl ℕ) → Option ℕ → Bool → Name → Option (TypeSpec ℕ) → List (Section ℕ) → Scope
routine_scope decls c m name result sections = scope_in decls c m (locals_of (scope_in decls c m []) name.text result sections)

pub record TellsRoutine (w : Weighed) (old new : List Node) (c : Option ℕ) (m : Bool) (name : Name) (result : Option (TypeSpec ℕ)) (sections : List (Section ℕ)) (x : Signature ℕ) : Type 0 where
  pub grows : Grows old new
  pub told : AreWeighed w old → signature_tells new x (signature_of w (routine_scope w.tables.now.decls c m name result sections) result sections)

-- ---- all signatures, as the rules of the unit have them

abbrev pub method_signature : Weighed → ℕ → Method ℕ → Signature Worth
method_signature w c m = signature_of w (routine_scope w.tables.now.decls (Some c) true m.name m.result m.sections) m.result m.sections

abbrev pub prototype_signature : Weighed → Prototype ℕ → Signature Worth
prototype_signature w m = signature_of w (routine_scope w.tables.now.decls None false m.name m.result m.sections) m.result m.sections

abbrev pub class_signatures : Weighed → ℕ → ClassDecl ℕ → List (Signature Worth)
class_signatures w c d = map (method_signature w c) (methods_in d.members)

abbrev pub interface_signatures : Weighed → InterfaceDecl ℕ → List (Signature Worth)
interface_signatures w d = map (prototype_signature w) d.methods

abbrev pub classes_from : Weighed → ℕ → List (ClassDecl ℕ) → List (List (Signature Worth))
classes_from w n ds = each_numbered (λ c d. class_signatures w c d ∷ []) n ds

-- the methods of the class that the declaration is were added, where it is one; the next class has the number behind it
pub record AddsClass (w : Weighed) (old new : List Node) (xs ys : List (List (Signature ℕ))) (first after : ℕ) (d : Decl ℕ) : Type 0 where
  pub adds : Adds list_tells (AreWeighed w) old new xs ys (classes_from w first (classes_in (d ∷ [])))
  pub number : after ≡ first + length (classes_in (d ∷ []))
