use Rattle.std.proofs.Common.{◌≡◌, take}
use Rattle.std.specs.Prelude.{flat_map}
use Rattle.symbol_table.specs.unit_names.Private.Known.{group_in}
use Rattle.symbol_table.proofs.unit_names.parts.fields.Given as goal

abbrev pub invariant-loop-group : goal.invariant-loop-group
invariant-loop-group l = l.list ≡ flat_map (group_in l.s) (take l.group-index l.groups)
