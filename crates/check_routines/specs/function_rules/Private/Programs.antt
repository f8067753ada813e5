-- A program in its scope.
use Rattle.std.specs.Prelude.{◌≡◌, ℕ, List, ◌++◌, Option, None}
use Rattle.plc_text.specs.declared.code.Code.{Code}
use Rattle.st_tree.specs.declared.declaration.ProgramDecl.{ProgramDecl}
use Rattle.st_tree.specs.declared.name.Name.{Name}
use Rattle.st_tree.specs.declared.unit.Decl.{Decl}
use Rattle.st_tree.specs.Statement.{statements_of}
use Rattle.st_rules.specs.Faults.{Faults, least, earlier}
use Rattle.st_rules.specs.Scope.{Scope}
use Rattle.st_rules.specs.Statements.{body_faults}
use Rattle.st_unit_rules.specs.declared_names.Variables.{sections_written}
use Rattle.st_unit_rules.specs.Checked.{Each, TypedBody, TypedSection}
use Rattle.st_unit_rules.specs.Cycles.{inner_cycles}
use Rattle.st_unit_rules.specs.DeclarationRules.{program_limits}
use Rattle.st_unit_rules.specs.NameRules.{space_faults, section_names}
use Rattle.st_unit_rules.specs.VariableRules.{of_program, sections_faults}
use Rattle.check_routines.specs.declared.routine_rules.bodies.FoundBody.{FoundBody}
use Rattle.check_declared_variables.specs.declared.variable_rules.sections.CheckedSections.{CheckedSections}
use Rattle.check_routines.specs.declared.function_rules.programs.CheckedProgram.{CheckedProgram}

abbrev pub cycles_and_limits : List (Decl ℕ) → Scope → ProgramDecl ℕ → Faults
cycles_and_limits decls s p = inner_cycles (sections_written p.sections) ++ program_limits decls s p

pub record IsProgram (c : CheckedProgram) (heading : ℕ) (own : Name) (names : Option (Code × ℕ)) (found : CheckedSections) (limits : Option (Code × ℕ)) (text : FoundBody) : Type 0 where
  pub least : c.least ≡ earlier (earlier (earlier names found.least) limits) text.least
  pub line : c.program.line ≡ heading
  pub name : c.program.name ≡ own
  pub sections : c.program.sections ≡ found.sections
  pub body : c.program.body ≡ text.body

-- all rules of a program in the scope with its variables
abbrev pub program_faults_in : List (Decl ℕ) → Scope → ProgramDecl ℕ → Faults
program_faults_in decls s p =
    space_faults (section_names p.sections)
    ++ sections_faults s of_program p.sections
    ++ inner_cycles (sections_written p.sections)
    ++ program_limits decls s p
    ++ body_faults s (statements_of p.body)

pub record ProgramIn (c : CheckedProgram) (decls : List (Decl ℕ)) (s : Scope) (p : ProgramDecl ℕ) : Type 0 where
  pub least : c.least ≡ least (program_faults_in decls s p)
  pub line : c.program.line ≡ p.line
  pub name : c.program.name ≡ p.name
  pub sections : Each (TypedSection s) p.sections c.program.sections
  pub body : c.least ≡ None → TypedBody s p.body c.program.body
