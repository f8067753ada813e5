use Rattle.std.proofs.Common.{◌≡◌, take}
use Rattle.std.specs.Prelude.{flat_map}
use Rattle.declared_symbols.specs.untold_names.Untold.{untold_group}
use Rattle.declared_symbols.proofs.untold_names.types.fields.Given as goal

abbrev pub invariant-loop-group : goal.invariant-loop-group
invariant-loop-group l = l.list ≡ flat_map untold_group (take l.group-index l.groups)
