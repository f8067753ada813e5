use Rattle.std.proofs.Common.{◌≡◌, length, option_map}
use Rattle.run_state.specs.State.{base_of}
use Rattle.call_frames.proofs.GivenLaws.{GivenLeft}
use Rattle.call_frames.proofs.opening.give_all.Given as goal

abbrev pub invariant-loop-next : goal.invariant-loop-next
invariant-loop-next l = GivenLeft (option_map (λ q. q.now) l.own) l.line l.fn.slots l.fn.m l.fn.turned l.slots l.m l.left × (base_of l.m ≡ base_of l.fn.m)

abbrev pub decreases-loop-next : goal.decreases-loop-next
decreases-loop-next l = length l.left
