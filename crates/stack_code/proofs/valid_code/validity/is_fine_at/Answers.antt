use Rattle.std.proofs.Common.{rules, ◌≡◌, ◌↔◌, ◌≤◌, IsTrue, length, reverse, arith, subst}
use Rattle.std.specs.Prelude.{Some, slice_get}
use Rattle.stack_code.specs.valid_code.Private.Checks.{IsFineFlow, flow_of}
use Rattle.stack_code.proofs.valid_code.SplitLaws.{when_ok}
use Rattle.stack_code.proofs.valid_code.PlaceLaws.{fine_at, within_room}
use Rattle.stack_code.proofs.valid_code.validity.is_fine_at.Goals as goal

pub returns-then-len-routine-clause-fine : goal.returns-then-len-routine-clause-fine
returns-then-len-routine-clause-fine c =
    let list : slice_get c.args.routine.now.kinds c.args.at ≡ Some (Some c.in-Some-Some.kinds) = search rules in
    (λ t. absurd (cc), λ all. absurd (let h = within_room c.args.code.now c.args.routine.now c.args.at c.op_at-op.result c.in-Some-Some.kinds c.op_at-op.ensures list all in omega (arith, h, c.len.ensures, c.if-len-routine.true)))

pub returns-else-len-routine-clause-fine : goal.returns-else-len-routine-clause-fine
returns-else-len-routine-clause-fine c =
    let list : slice_get c.args.routine.now.kinds c.args.at ≡ Some (Some c.in-Some-Some.kinds) = search rules in
    let room : length c.in-Some-Some.kinds ≤ c.args.routine.now.room = omega (arith, c.len.ensures, c.if-len-routine.false) in
    when_ok c.is_fine.result c.is_fine.ensures.fine (λ b e.
    fine_at c.args.code.now c.args.routine.now c.args.at c.op_at-op.result c.in-Some-Some.kinds c.op_at-op.ensures list b room
    (subst (λ l. IsTrue b ↔ IsFineFlow c.args.code.now c.args.routine.now c.args.at c.op_at-op.result (reverse l) (flow_of c.op_at-op.result)) c.as_slice.ensures e))
