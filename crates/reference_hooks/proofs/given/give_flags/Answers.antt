use Rattle.reference_hooks.proofs.ChainLaws.{flags_end, none_left}
use Rattle.reference_hooks.proofs.given.give_flags.Goals as goal

pub returns : goal.returns
returns c = flags_end c.args.parameters.now c.args.flags.now c.flags.inputs.now c.flags.left.now c.flags.given (none_left c.flags.left.now c.in_default.ensures.cases) c.flags.invariant
