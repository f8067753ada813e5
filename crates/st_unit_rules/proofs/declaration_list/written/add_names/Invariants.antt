use Rattle.std.proofs.Common.{◌≡◌, ◌++◌, map, drop, true}
use Rattle.st_unit_rules.specs.declaration_list.Written.{written_in, global_of, names_from}
use Rattle.st_unit_rules.proofs.declaration_list.written.add_names.Given as goal

abbrev pub invariant-loop-name : goal.invariant-loop-name
invariant-loop-name l =
    map global_of l.list.items ++ names_from l.section l.item l.first (map (written_in l.section l.item) (drop l.name-index l.names))
    ≡ map global_of l.initial.list.items ++ names_from l.section l.item true (map (written_in l.section l.item) l.names)
