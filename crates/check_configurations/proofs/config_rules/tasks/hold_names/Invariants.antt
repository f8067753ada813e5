use Rattle.std.proofs.Common.{take}
use Rattle.check_names.specs.name_spaces.Held.{Holds}
use Rattle.st_unit_rules.specs.NameRules.{texts}
use Rattle.check_names.specs.name_spaces.NamesIn.{names_of}
use Rattle.check_configurations.proofs.config_rules.tasks.hold_names.Given as goal

abbrev pub invariant-loop-name : goal.invariant-loop-name
invariant-loop-name l = Holds l.held (texts (names_of (take l.name-index l.names)))
