-- How many steps of containment may lead from a type, by where it is written.
use Rattle.std.specs.Prelude.{ℕ, ◌-◌, List}
use Rattle.st_tree.specs.declared.type_spec.TypeSpec.{TypeSpec}
use Rattle.st_rules.specs.Faults.{Faults}
use Rattle.st_rules.specs.Scope.{Scope}
use Rattle.st_unit_rules.specs.declared_names.Declarations.{Declaration}
use Rattle.st_unit_rules.specs.Limits.{most_steps, too_deep, variable_too_deep}
use Rattle.check_limits.specs.declared.limit_rules.depths.Within.{Within}
use Rattle.check_limits.specs.declared.limit_rules.depths.Within.TheVariants as within

-- a program instance is one step from what its variables hold
abbrev pub depth_faults : Within → Scope → List Declaration → ℕ → TypeSpec ℕ → Faults
depth_faults within.Entry s ds line t = too_deep s ds most_steps line t
depth_faults within.Variable s ds line t = variable_too_deep s ds most_steps line t
depth_faults within.Program s ds line t = too_deep s ds (most_steps - 1) line t
