use Rattle.std.proofs.Common.{◌≡◌, ◌++◌, map, drop}
use Rattle.std.specs.Prelude.{flat_map}
use Rattle.type_resolution.specs.declared_variables.Private.Told.{told_as, names_of_section}
use Rattle.type_resolution.proofs.declared_variables.names.add_sections.Given as goal

abbrev pub invariant-loop-section : goal.invariant-loop-section
invariant-loop-section l =
    map told_as l.list.items ++ flat_map (names_of_section l.s) (drop l.section-index l.sections) ≡ map told_as l.initial.list.items ++ flat_map (names_of_section l.s) l.sections
