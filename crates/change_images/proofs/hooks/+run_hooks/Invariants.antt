use Rattle.std.proofs.Common.{length}
use Rattle.change_images.proofs.hooks.+run_hooks.Given as goal

abbrev pub decreases-run_hooks : goal.decreases-run_hooks
decreases-run_hooks g l = length l.calls.now
