use Rattle.std.proofs.Common.{◌≡◌, drop}
use Rattle.std.specs.Prelude.{flat_map}
use Rattle.st_rules.specs.Faults.{earlier, least}
use Rattle.st_unit_rules.specs.NameRules.{local_named_as_routine}
use Rattle.check_names.specs.name_spaces.NamesIn.{names_of}
use Rattle.check_names.proofs.name_spaces.twice.named_fault.Given as goal

abbrev pub invariant-loop-name : goal.invariant-loop-name
invariant-loop-name l = earlier l.found (least (flat_map (local_named_as_routine l.routine) (names_of (drop l.name-index l.names)))) ≡ least (flat_map (local_named_as_routine l.routine) (names_of l.names))
