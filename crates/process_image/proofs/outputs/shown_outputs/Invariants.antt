use Rattle.std.proofs.Common.{◌≡◌, ◌++◌, drop}
use Rattle.run_state.specs.State.{state_of}
use Rattle.process_image.specs.Located.{all_seen}
use Rattle.process_image.specs.Private.Shown.{all_shown, shown_in}
use Rattle.process_image.proofs.outputs.shown_outputs.Given as goal

abbrev pub invariant-loop-x : goal.invariant-loop-x
invariant-loop-x l = (all_shown l.out.items ++ shown_in l.regions (state_of l.m).store (all_seen (drop l.x-index l.located))) ≡ shown_in l.regions (state_of l.m).store (all_seen l.located)
