use Rattle.std.proofs.Common.{◌≡◌, length, reverse}
use Rattle.st_change.specs.Hook.{run_hooks}
use Rattle.st_values.specs.View.{program_of}
use Rattle.value_trees.specs.Value.{members_of}
use Rattle.reference_start.specs.Private.Hooks.{inits_along, inits_at}
use Rattle.reference_start.specs.Private.Instances.{instance_of}
use Rattle.reference_start.proofs.hooks.run_chain.Given as goal

-- the classes that are left do from here what all did from the beginning
abbrev pub invariant-classes : goal.invariant-classes
invariant-classes l =
    run_hooks (program_of l.on.tables.now) (inits_along (program_of l.on.tables.now) l.instance.path (reverse l.left)) (members_of l.m.store) l.m.ticks
    ≡ run_hooks (program_of l.on.tables.now) (inits_at (program_of l.on.tables.now) (instance_of l.instance)) (members_of l.fn.m.store) l.fn.m.ticks

abbrev pub decreases-classes : goal.decreases-classes
decreases-classes l = length l.left
