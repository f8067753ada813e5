use Rattle.std.proofs.Common.{◌≡◌, take}
use Rattle.run_state.proofs.copies.copy_store.Given as goal

-- what was copied so far
abbrev pub invariant-loop-member : goal.invariant-loop-member
invariant-loop-member l = l.copy ≡ take l.member-index l.members
