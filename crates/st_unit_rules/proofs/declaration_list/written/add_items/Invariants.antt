use Rattle.std.proofs.Common.{◌≡◌, ◌++◌, map, drop}
use Rattle.std.specs.Prelude.{flat_map}
use Rattle.st_unit_rules.specs.declaration_list.Written.{global_of, names_in_item}
use Rattle.st_unit_rules.proofs.declaration_list.written.add_items.Given as goal

abbrev pub invariant-loop-item : goal.invariant-loop-item
invariant-loop-item l = map global_of l.list.items ++ flat_map (names_in_item l.section) (drop l.item-index l.items) ≡ map global_of l.initial.list.items ++ flat_map (names_in_item l.section) l.items
