use Rattle.st_values.specs.View.{program_of}
use Rattle.initial_trees.proofs.StoreLaws.{RegionsLeft}
use Rattle.initial_trees.proofs.store.initial_store.Given as goal

abbrev pub invariant-loop-region : goal.invariant-loop-region
invariant-loop-region l = RegionsLeft (program_of l.program) l.region-items l.region-index l.store
