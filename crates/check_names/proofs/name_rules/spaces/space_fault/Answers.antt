use Rattle.std.proofs.Common.{[]}
use Rattle.std.specs.Prelude.{flat_map}
use Rattle.st_unit_rules.specs.NameRules.{declared_twice, name_of_conversion, space_faults}
use Rattle.check_names.specs.name_spaces.NamesIn.{names_of}
use Rattle.check_names.proofs.name_rules.FaultLists.{two_joined}
use Rattle.check_names.proofs.name_rules.spaces.space_fault.Goals as goal

pub returns : goal.returns
unfolding space_faults
returns c =
    two_joined c.in_ok-twice.twice c.conversions_fault-conversion.result c.earlier.result (declared_twice [] (names_of c.args.names.now)) (flat_map name_of_conversion (names_of c.args.names.now)) c.in_ok-twice.ensures c.conversions_fault-conversion.ensures c.earlier.ensures
