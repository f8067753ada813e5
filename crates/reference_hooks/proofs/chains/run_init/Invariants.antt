use Rattle.std.proofs.Common.{◌≡◌, length, reverse}
use Rattle.st_change.specs.Hook.{at_init, hooks_along, init_flags, init_hooks, run_hooks}
use Rattle.st_values.specs.View.{program_of}
use Rattle.value_trees.specs.Value.{members_of}
use Rattle.reference_hooks.specs.Hooks.{member_of}
use Rattle.reference_hooks.proofs.chains.run_init.Given as goal

-- the classes that are left do from here what all did from the beginning
abbrev pub invariant-classes : goal.invariant-classes
invariant-classes l =
    run_hooks (program_of l.on.tables.now) (hooks_along (program_of l.on.tables.now) at_init l.instance.path (init_flags l.copied) (reverse l.left)) (members_of l.m.store) l.m.ticks
    ≡ run_hooks (program_of l.on.tables.now) (init_hooks (program_of l.on.tables.now) (init_flags l.copied) (member_of (program_of l.on.tables.now) l.instance)) (members_of l.fn.m.store) l.fn.m.ticks

abbrev pub decreases-classes : goal.decreases-classes
decreases-classes l = length l.left
