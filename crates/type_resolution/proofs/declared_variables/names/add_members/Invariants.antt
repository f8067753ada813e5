use Rattle.std.proofs.Common.{◌≡◌, ◌++◌, map, drop}
use Rattle.std.specs.Prelude.{flat_map}
use Rattle.st_unit_rules.specs.declared_names.Variables.{sections_in}
use Rattle.type_resolution.specs.declared_variables.Private.Told.{told_as, names_of_section}
use Rattle.type_resolution.proofs.declared_variables.names.add_members.Given as goal

abbrev pub invariant-loop-member : goal.invariant-loop-member
invariant-loop-member l =
    map told_as l.list.items ++ flat_map (names_of_section l.s) (sections_in (drop l.member-index l.members)) ≡ map told_as l.initial.list.items ++ flat_map (names_of_section l.s) (sections_in l.members)
