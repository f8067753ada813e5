-- What the texts of a unit are checked by is what a scope sees.
use Rattle.std.specs.Prelude.{◌≡◌}
use Rattle.st_rules.specs.Scope.{Scope}
use Rattle.section_rules.specs.Variables.{classes_of}
use Rattle.check_limits.specs.type_sizes.Sizes.{Measures}
use Rattle.check_routines.specs.declared.routine_rules.parts.UnitParts.{UnitParts}

pub record Serves (p : UnitParts) (s : Scope) : Type 0 where
  pub names : p.names.now.names ≡ s.names
  pub classes : classes_of p.classes.now ≡ s.classes
  pub sizes : Measures p.sizes.now s
