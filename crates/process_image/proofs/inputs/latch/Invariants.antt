use Rattle.std.proofs.Common.{◌≡◌, drop}
use Rattle.st_meaning.specs.ProcessImage.{latch}
use Rattle.run_state.specs.State.{base_of, state_of}
use Rattle.process_image.specs.Located.{all_seen}
use Rattle.process_image.specs.Private.Inputs.{with_store}
use Rattle.process_image.proofs.inputs.latch.Given as goal

-- the rest gives what all give, and nothing but the store changes
abbrev pub invariant-loop-x : goal.invariant-loop-x
invariant-loop-x l =
    (latch (all_seen (drop l.x-index l.located)) l.regions l.input (state_of l.m).store ≡ latch (all_seen l.located) l.regions l.input (state_of l.fn.m).store)
    × (state_of l.m ≡ with_store (state_of l.fn.m) (state_of l.m).store)
    × (base_of l.m ≡ base_of l.fn.m)
