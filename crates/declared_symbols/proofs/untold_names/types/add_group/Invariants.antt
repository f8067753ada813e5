use Rattle.std.proofs.Common.{◌≡◌, ◌++◌, map, take}
use Rattle.declared_symbols.specs.untold_names.Untold.{untold_field}
use Rattle.declared_symbols.proofs.untold_names.types.add_group.Given as goal

abbrev pub invariant-loop-name : goal.invariant-loop-name
invariant-loop-name l = l.list ≡ l.fn.list ++ map untold_field (take l.name-index l.names)
