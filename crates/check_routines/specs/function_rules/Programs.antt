-- What is found out about a program.
use Rattle.std.specs.Prelude.{◌≡◌, ℕ, List, None}
use Rattle.st_tree.specs.declared.declaration.ProgramDecl.{ProgramDecl}
use Rattle.st_tree.specs.declared.unit.Decl.{Decl}
use Rattle.st_rules.specs.Faults.{least}
use Rattle.st_unit_rules.specs.Checked.{TypedProgram}
use Rattle.st_unit_rules.specs.DeclarationRules.{program_faults}
use Rattle.check_routines.specs.declared.function_rules.programs.CheckedProgram.{CheckedProgram}

pub record ChecksProgram (c : CheckedProgram) (decls : List (Decl ℕ)) (p : ProgramDecl ℕ) : Type 0 where
  pub least : c.least ≡ least (program_faults decls p)
  pub tree : c.least ≡ None → TypedProgram decls p c.program
