use Rattle.std.proofs.Common.{◌≡◌, drop}
use Rattle.st_change.specs.Hook.{run_hooks}
use Rattle.st_values.specs.View.{program_of}
use Rattle.value_trees.specs.Value.{members_of}
use Rattle.reference_start.specs.Private.Hooks.{all_inits}
use Rattle.reference_start.specs.Private.Instances.{all_of}
use Rattle.reference_start.proofs.hooks.run_all.Given as goal

-- the instances that are left do from here what all did from the beginning
abbrev pub invariant-loop-instance : goal.invariant-loop-instance
invariant-loop-instance l =
    run_hooks (program_of l.on.tables.now) (all_inits (program_of l.on.tables.now) (all_of (drop l.instance-index l.instances))) (members_of l.m.store) l.m.ticks
    ≡ run_hooks (program_of l.on.tables.now) (all_inits (program_of l.on.tables.now) (all_of l.instances)) (members_of l.fn.m.store) l.fn.m.ticks
