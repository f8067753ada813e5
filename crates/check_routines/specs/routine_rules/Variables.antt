-- What is found out about the sections and the result of a routine.
use Rattle.std.specs.Prelude.{◌≡◌, ℕ, List, ◌++◌, Option}
use Rattle.st_tree.specs.declared.declaration.Section.{Section}
use Rattle.st_tree.specs.declared.type_spec.TypeSpec.{TypeSpec}
use Rattle.st_tree.specs.declared.unit.Decl.{Decl}
use Rattle.st_rules.specs.Faults.{Faults, least}
use Rattle.st_rules.specs.Scope.{Scope}
use Rattle.st_unit_rules.specs.declared_names.Variables.{sections_written}
use Rattle.st_unit_rules.specs.Checked.{Each, IfThere, TypedSection, TypedSpec}
use Rattle.st_unit_rules.specs.Cycles.{inner_cycles}
use Rattle.st_unit_rules.specs.DeclarationRules.{parameter_limits}
use Rattle.st_unit_rules.specs.VariableRules.{Home, sections_faults, result_faults}
use Rattle.check_routines.specs.declared.routine_rules.variables.CheckedVariables.{CheckedVariables}

-- all rules of a method of an interface, but those of its names
abbrev pub variables_faults : List (Decl ℕ) → Scope → Home → ℕ → Option (TypeSpec ℕ) → List (Section ℕ) → Faults
variables_faults decls s home line result sections =
    sections_faults s home sections
    ++ result_faults s line result
    ++ inner_cycles (sections_written sections)
    ++ parameter_limits decls s line result sections

pub record ChecksVariables (c : CheckedVariables) (decls : List (Decl ℕ)) (s : Scope) (home : Home) (line : ℕ) (spec : Option (TypeSpec ℕ)) (sections : List (Section ℕ)) : Type 0 where
  pub least : c.least ≡ least (variables_faults decls s home line spec sections)
  pub result : IfThere (TypedSpec s) spec c.result
  pub trees : Each (TypedSection s) sections c.sections
