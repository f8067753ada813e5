use Rattle.std.proofs.Common.{map, take}
use Rattle.st_unit_rules.specs.declaration_list.Written.{written_in}
use Rattle.declared_symbols.specs.untold_names.Private.Adds.{AddsGlobals}
use Rattle.declared_symbols.proofs.untold_names.globals.add_item.Given as goal

abbrev pub invariant-loop-name : goal.invariant-loop-name
invariant-loop-name l = AddsGlobals l.fn.list l.list l.first l.region (map (written_in l.section l.item) (take l.name-index l.names))
