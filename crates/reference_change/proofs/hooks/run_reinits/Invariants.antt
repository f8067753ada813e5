use Rattle.std.proofs.Common.{◌≡◌, drop, map}
use Rattle.st_change.specs.Hook.{run_hooks}
use Rattle.value_trees.specs.Value.{members_of}
use Rattle.reference_hooks.specs.Hooks.{member_of}
use Rattle.reference_change.specs.Private.Phases.{all_hooks, reinits_of}
use Rattle.reference_change.specs.Private.Turn.{old_of, new_of}
use Rattle.reference_change.proofs.hooks.run_reinits.Given as goal

-- the instances that are left do from here what all did from the beginning
abbrev pub invariant-loop-instance : goal.invariant-loop-instance
invariant-loop-instance l =
    run_hooks (new_of l.t) (all_hooks (reinits_of (old_of l.t) (new_of l.t)) (map (member_of (new_of l.t)) (drop l.instance-index l.instances))) (members_of l.m.store) l.m.ticks
    ≡ run_hooks (new_of l.t) (all_hooks (reinits_of (old_of l.t) (new_of l.t)) (map (member_of (new_of l.t)) l.instances)) (members_of l.fn.m.store) l.fn.m.ticks
