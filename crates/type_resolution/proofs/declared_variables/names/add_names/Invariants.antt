use Rattle.std.proofs.Common.{◌≡◌, ◌++◌, map, drop}
use Rattle.type_resolution.specs.declared_variables.Private.Told.{told_as, named}
use Rattle.type_resolution.proofs.declared_variables.names.add_names.Given as goal

abbrev pub invariant-loop-name : goal.invariant-loop-name
invariant-loop-name l =
    map told_as l.list.items ++ map (named l.section l.item l.told.kind l.told.value) (drop l.name-index l.names) ≡ map told_as l.initial.list.items ++ map (named l.section l.item l.told.kind l.told.value) l.names
