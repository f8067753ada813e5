-- What a unit is checked by is of that unit.
use Rattle.std.specs.Prelude.{◌≡◌}
use Rattle.st_rules.specs.Classes.{classes_in}
use Rattle.check_names.specs.member_names.Known.{Knows}
use Rattle.default_values.specs.numbered_signatures.Signatures.{Tells}
use Rattle.check_configurations.specs.program_instances.Programs.{HasPrograms}
use Rattle.st_unit_rules.specs.DeclarationRules.{unit, signatures}
use Rattle.st_check_decl.specs.declared.unit_check.side.CheckSide.{CheckSide}

pub record ServesUnit (x : CheckSide) : Type 0 where
  pub scope : x.scope.now ≡ unit x.tables.now.decls
  pub programs : HasPrograms x.programs.now x.tables.now.decls
  pub names : Knows x.classes.names.now (classes_in x.tables.now.decls)
  pub signatures-are : Tells x.classes.signatures.now.worths x.classes.signatures.now.signatures (signatures x.tables.now.decls)
  pub heights : x.heights.now ≡ x.tables.now
