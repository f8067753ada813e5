use Rattle.std.proofs.Common.{◌≡◌, ◌++◌, map, take}
use Rattle.symbol_table.specs.unit_names.Private.Known.{field_of}
use Rattle.symbol_table.proofs.unit_names.parts.add_fields.Given as goal

abbrev pub invariant-loop-name : goal.invariant-loop-name
invariant-loop-name l = l.list ≡ l.fn.list ++ map (field_of l.kind) (take l.name-index l.names)
