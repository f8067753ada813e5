use Rattle.std.proofs.Common.{sym, ap, ◌∙◌, ◌-◌, option_map}
use Rattle.std.specs.Prelude.{slice_get}
use Rattle.run_state.specs.State.{frame_of}
use Rattle.run_state.proofs.Stack.{top-is, seen}
use Rattle.run_state.proofs.frames.top.Goals as goal

pub returns : goal.returns
returns c = sym (seen c.get.result) ∙ ap (option_map frame_of) (c.get.ensures.value ∙ ap (λ n. slice_get c.args.m.now.frames (n - 1)) c.len-depth.ensures) ∙ top-is c.args.m.now.frames
