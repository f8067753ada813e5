-- Constants that need themselves, and limits of parameters.
use Rattle.std.specs.Prelude.{ℕ, List, ◌++◌, Option}
use Rattle.st_tree.specs.declared.declaration.Section.{Section}
use Rattle.st_tree.specs.declared.type_spec.TypeSpec.{TypeSpec}
use Rattle.st_tree.specs.declared.unit.Decl.{Decl}
use Rattle.st_rules.specs.Faults.{Faults}
use Rattle.st_rules.specs.Scope.{Scope}
use Rattle.st_unit_rules.specs.declared_names.Variables.{sections_written}
use Rattle.st_unit_rules.specs.Cycles.{inner_cycles}
use Rattle.st_unit_rules.specs.DeclarationRules.{parameter_limits}

abbrev pub cycles_and_limits : List (Decl ℕ) → Scope → ℕ → Option (TypeSpec ℕ) → List (Section ℕ) → Faults
cycles_and_limits decls s line result sections = inner_cycles (sections_written sections) ++ parameter_limits decls s line result sections
