use Rattle.std.proofs.Common.{◌≡◌, ◌++◌, map, take}
use Rattle.declared_symbols.specs.untold_names.Untold.{untold_parts}
use Rattle.declared_symbols.proofs.untold_names.types.add_entry_parts.Given as goal

abbrev pub invariant-loop-entry : goal.invariant-loop-entry
invariant-loop-entry l = l.list ≡ l.fn.list ++ map (λ t. untold_parts t.body) (take l.entry-index l.entries)
