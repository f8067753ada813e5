use Rattle.std.proofs.Common.{◌≡◌, length}
use Rattle.st_values.specs.View.{program_of}
use Rattle.region_instances.specs.Instances.{RegionsUnfold}
use Rattle.footprints.specs.Private.Holders.{AreAllHolders}
use Rattle.footprints.proofs.holders.holders.Given as goal

abbrev pub invariant-loop-class : goal.invariant-loop-class
invariant-loop-class l = record {
  long : length l.lists.items ≡ l.class;
  each : RegionsUnfold (program_of l.instances) → AreAllHolders (program_of l.instances) l.regions l.lists.items;
}
