use Rattle.change_names.proofs.change_paths.NumberLaws.{IsTable}
use Rattle.change_names.proofs.change_paths.SoFarLaws.{SoFar}
use Rattle.change_names.proofs.change_paths.numbers.all_places.Given as goal

abbrev pub invariant-loop-list : goal.invariant-loop-list
invariant-loop-list l = SoFar (IsTable l.lists) l.list-index l.tables.items
