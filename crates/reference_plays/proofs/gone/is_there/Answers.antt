use Rattle.std.proofs.Common.{◌∙◌, ap}
use Rattle.st_change.specs.OneThread.{has_task}
use Rattle.reference_plays.proofs.GoneLaws.{any_task}
use Rattle.reference_plays.proofs.gone.is_there.Goals as goal

pub returns : goal.returns
returns c = c.has_task.ensures ∙ any_task c.args.name.now c.as_slice.result.now ∙ ap (λ ds. has_task ds c.args.name.now) c.as_slice.ensures
