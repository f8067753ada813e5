use Rattle.st_values.specs.View.{program_of}
use Rattle.region_instances.specs.Instances.{RegionsUnfold}
use Rattle.footprints.specs.Private.Holders.{AreHolders}
use Rattle.footprints.proofs.holders.holders_of.Given as goal

abbrev pub invariant-loop-region : goal.invariant-loop-region
invariant-loop-region l = RegionsUnfold (program_of l.instances) → AreHolders (program_of l.instances) l.class l.region l.list
