use Rattle.std.proofs.Common.{take}
use Rattle.std.specs.Prelude.{flat_map}
use Rattle.st_unit_rules.specs.declared_names.Variables.{item_written}
use Rattle.declared_symbols.specs.untold_names.Private.Adds.{AddsGlobals}
use Rattle.declared_symbols.proofs.untold_names.globals.add_section.Given as goal

abbrev pub invariant-loop-item : goal.invariant-loop-item
invariant-loop-item l = AddsGlobals l.fn.list l.list l.first l.region (flat_map (item_written l.section) (take l.item-index l.items))
