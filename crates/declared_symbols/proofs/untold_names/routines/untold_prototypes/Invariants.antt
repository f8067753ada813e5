use Rattle.std.proofs.Common.{◌≡◌, map, take}
use Rattle.declared_symbols.specs.untold_names.Untold.{untold_prototype}
use Rattle.declared_symbols.proofs.untold_names.routines.untold_prototypes.Given as goal

abbrev pub invariant-loop-method : goal.invariant-loop-method
invariant-loop-method l = l.list ≡ map untold_prototype (take l.method-index l.methods)
