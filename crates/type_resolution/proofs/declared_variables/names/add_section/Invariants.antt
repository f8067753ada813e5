use Rattle.std.proofs.Common.{◌≡◌, ◌++◌, map, drop}
use Rattle.std.specs.Prelude.{flat_map}
use Rattle.type_resolution.specs.declared_variables.Private.Told.{told_as, names_of_item}
use Rattle.type_resolution.proofs.declared_variables.names.add_section.Given as goal

abbrev pub invariant-loop-item : goal.invariant-loop-item
invariant-loop-item l =
    map told_as l.list.items ++ flat_map (names_of_item l.s l.section) (drop l.item-index l.items) ≡ map told_as l.initial.list.items ++ flat_map (names_of_item l.s l.section) l.items
