use Rattle.reference_start.proofs.StartLaws.{flags_given}
use Rattle.reference_start.proofs.hooks.first_flags.Goals as goal

pub returns : goal.returns
returns c =
    flags_given c.args.parameters.now c.in-Some.behind.now _ c.in-Some.first.now c.in-Some-split_first.second.now c.new-given.result c.push_flag.new.given c.push_flag-2.new.given c.in-Some.ensures.cases.0 c.in-Some-split_first.ensures.cases.0 c.new-given.ensures c.in_ok-push_flag.ensures c.in_ok-push_flag-2.ensures
