-- What was checked of the declarations that were passed, and what is said of one that is bad.
use Rattle.std.specs.Prelude.{◌≡◌, ℕ, List, filter, length, Option, Some}
use Rattle.plc_text.specs.declared.code.Code.{Code}
use Rattle.st_tree.specs.declared.name.Name.{Name}
use Rattle.st_tree.specs.declared.unit.Decl.{Decl}
use Rattle.st_rules.specs.Faults.{least}
use Rattle.st_unit_rules.specs.declared_names.Declarations.{Declaration, is_class, name_of}
use Rattle.check_names.specs.declarations_before.Before.{StandsBefore}
use Rattle.st_unit_rules.specs.passing_laws.Passing.{At, faults_here}
use Rattle.st_unit_rules.specs.Checked.{Each, EachFrom, TypedClass, TypedEntry, TypedFunction, TypedInterface, TypedProgram}
use Rattle.st_check_decl.specs.declared.checked_declarations.so_far.Bad.{Bad}
use Rattle.st_check_decl.specs.declared.checked_declarations.so_far.Bad.TheVariants as bad
use Rattle.st_check_decl.specs.declared.checked_declarations.so_far.CheckedSoFar.{CheckedSoFar}

-- of this name, and of all that is broken this; want of memory says nothing
abbrev pub Says : Bad → Name → Option (Code × ℕ) → Type 0
Says (bad.Rule declaration code line) name fault = (declaration ≡ name.text) × (fault ≡ Some (code, line))
Says bad.NoMemory name fault = Unit {0}

abbrev pub Breaks : Bad → List (Decl ℕ) → At → Declaration → Type 0
Breaks b decls a d = Says b (name_of d) (least (faults_here decls a d))

pub record Passed (x : CheckedSoFar) (decls : List (Decl ℕ)) (a : At) : Type 0 where
  pub before : StandsBefore x.before a.earlier a.names
  pub class_count : length (filter is_class a.earlier) ≡ length a.classes
  pub types : Each (TypedEntry decls) a.types x.trees.types
  pub classes : EachFrom (TypedClass decls) 0 a.classes x.trees.classes
  pub interfaces : Each (TypedInterface decls) a.interfaces x.trees.interfaces
  pub functions : Each (TypedFunction decls) a.functions x.trees.functions
  pub programs : Each (TypedProgram decls) a.programs x.trees.programs
