-- In each scope of a checked unit what is told of a constant is a number of its type.
use Rattle.std.proofs.Common.{◌≡◌, ℕ, Bool, true, List, Option, Some, subst}
use Rattle.st_types.specs.declared.st_type.StType.{StType}
use Rattle.st_tree.specs.declared.declaration.Section.{Section}
use Rattle.st_tree.specs.declared.program.Program.{Program as Checked}
use Rattle.st_tree.specs.declared.program.Target.{Target}
use Rattle.st_tree.specs.declared.program.Target.TheVariants as target
use Rattle.st_tree.specs.declared.type_spec.TypeSpec.{TypeSpec}
use Rattle.st_tree.specs.declared.unit.Decl.{Decl}
use Rattle.st_rules.specs.declared.names.DeclaredVariable.{DeclaredVariable}
use Rattle.st_rules.specs.Scope.{Scope, a_variable, sought}
use Rattle.st_rules.proofs.Booleans.{false≢true}
use Rattle.st_unit_rules.specs.Checked.{IsChecked}
use Rattle.st_unit_rules.specs.declared_names.Constants.{is_told}
use Rattle.st_values.specs.Program.{Program}
use Rattle.st_values.specs.View.{program_of}
use Rattle.accepted_texts.specs.told_units.Told.{WrittenIn}
use Rattle.place_laws.specs.Agrees.{ConstantIs}
use Rattle.constant_laws.specs.ConstantLaws.{ConstantLaws}
use Rattle.constant_laws.proofs.Constants.{ConstantFits, MeantFits}
use Rattle.constant_laws.proofs.Scopes.{scope_fits}
use Rattle.constant_laws.proofs.Steps.{entry_values, written_sound}

pub told_one : (p : Program) (t : StType) (x : Target) → is_told x ≡ true → ConstantFits p t x → ConstantIs p x t
told_one p t (target.Constant z) h f = f
told_one p t (target.Enumerator k) h f = absurd f
told_one p t target.Nothing h f = absurd (false≢true h)
told_one p t _ h f = absurd (false≢true h)

told : (decls : List (Decl ℕ)) (p : Checked) → IsChecked decls p → (s : Scope) (o : Option (TypeSpec ℕ)) (ss : List (Section ℕ)) → WrittenIn decls s o ss → (called : Bool) (name : List ℕ) (c : Option ℕ) (v : DeclaredVariable) → sought s called name ≡ Some (a_variable c v)
    → v.constant ≡ true → is_told v.target ≡ true → (t : StType) → v.kind ≡ Some t → ConstantIs (program_of p) v.target t
told decls p checked s o ss w called name c v e k h t q =
    let sound = written_sound (program_of p) decls (entry_values decls p checked) s o ss w in
    let fits : MeantFits (program_of p) (Some (a_variable c v)) = subst (MeantFits (program_of p)) e ((scope_fits (program_of p) s sound).each called name) in
    told_one (program_of p) t v.target h (fits k t q)

pub constant_laws : ConstantLaws
constant_laws = record { told = told }
