-- The globals that externals mean, by all that a unit declares.
use Rattle.std.specs.Prelude.{ℕ, List, flat_map, Option, Some, None}
use Rattle.plc_text.specs.declared.code.Code.TheVariants.{E05, E07}
use Rattle.st_types.specs.declared.st_type.StType.{StType}
use Rattle.st_tree.specs.declared.name.Name.{Name}
use Rattle.st_rules.specs.declared.names.DeclaredNames.{DeclaredNames}
use Rattle.st_rules.specs.declared.names.DeclaredVariable.{DeclaredVariable}
use Rattle.st_rules.specs.Faults.{Faults, at, when}
use Rattle.st_rules.specs.Scope.{first_named, global_name}
use Rattle.st_unit_rules.specs.VariableRules.{global_variable, is_another_type}

abbrev pub global_in : DeclaredNames → List ℕ → Option DeclaredVariable
global_in names name = global_variable (first_named global_name name names.globals)

abbrev pub meant_faults : ℕ → Option StType → Name → Option DeclaredVariable → Faults
meant_faults line t n None = at E05 n.line
meant_faults line t n (Some v) = when (is_another_type t v.kind) E07 line

abbrev pub name_faults : DeclaredNames → ℕ → Option StType → Name → Faults
name_faults names line t n = meant_faults line t n (global_in names n.text)

abbrev pub external_faults : DeclaredNames → ℕ → Option StType → List Name → Faults
external_faults names line t ns = flat_map (name_faults names line t) ns
