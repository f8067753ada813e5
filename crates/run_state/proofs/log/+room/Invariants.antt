use Rattle.std.proofs.Common.{◌≤◌}
use Rattle.run_state.proofs.log.+room.Given as goal

abbrev pub invariant-room_behind_items-loop-item : goal.invariant-room_behind_items-loop-item
invariant-room_behind_items-loop-item l = l.left ≤ l.room

abbrev pub invariant-room_behind_members-loop-member : goal.invariant-room_behind_members-loop-member
invariant-room_behind_members-loop-member l = l.left ≤ l.room
