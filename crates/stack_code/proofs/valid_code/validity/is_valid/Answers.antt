use Rattle.stack_code.proofs.valid_code.SplitLaws.{when_ok}
use Rattle.stack_code.proofs.valid_code.NumberLaws.{valid_of, within_of}
use Rattle.stack_code.proofs.valid_code.validity.is_valid.Goals as goal

pub returns-then-not-all_within : goal.returns-then-not-all_within
returns-then-not-all_within c = (λ t. absurd (cc), λ v. absurd (let t = c.all_within.ensures.1 (within_of c.args.code.now v) in cc))

pub returns : goal.returns
returns c = when_ok c.are_valid_routines.result c.are_valid_routines.ensures (λ b e. (λ t. valid_of c.args.code.now (c.all_within.ensures.0 c.if-not-all_within.false) (e.0 t), λ v. e.1 v.routines))
