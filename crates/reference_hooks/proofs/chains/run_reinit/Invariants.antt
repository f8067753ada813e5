use Rattle.std.proofs.Common.{◌≡◌, [], length}
use Rattle.st_change.specs.Hook.{at_reinit, hooks_along, first_only, reinit_hooks, run_hooks}
use Rattle.st_values.specs.View.{program_of}
use Rattle.value_trees.specs.Value.{members_of}
use Rattle.reference_hooks.specs.Hooks.{member_of}
use Rattle.reference_hooks.proofs.chains.run_reinit.Given as goal

-- the nearest of the classes that are left is the nearest of all
abbrev pub invariant-classes : goal.invariant-classes
invariant-classes l =
    run_hooks (program_of l.on.tables.now) (first_only (hooks_along (program_of l.on.tables.now) at_reinit l.instance.path [] l.left)) (members_of l.m.store) l.m.ticks
    ≡ run_hooks (program_of l.on.tables.now) (reinit_hooks (program_of l.on.tables.now) (member_of (program_of l.on.tables.now) l.instance)) (members_of l.fn.m.store) l.fn.m.ticks

abbrev pub decreases-classes : goal.decreases-classes
decreases-classes l = length l.left
