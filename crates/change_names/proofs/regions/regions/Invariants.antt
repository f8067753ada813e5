use Rattle.st_values.specs.View.{region_of}
use Rattle.change_names.specs.change_pairs.Regions.{regions_of}
use Rattle.change_names.proofs.ListLaws.{MappedTo}
use Rattle.change_names.proofs.regions.regions.Given as goal

abbrev pub invariant-loop-decl : goal.invariant-loop-decl
invariant-loop-decl l = MappedTo region_of l.program.regions l.decl-index (regions_of l.out.items)
