use Rattle.std.proofs.Common.{rules, ◌≡◌, [], length}
use Rattle.std.specs.Prelude.{Some}
use Rattle.stack_code.specs.Validity.{kinds_at}
use Rattle.stack_code.proofs.valid_code.SplitLaws.{when_ok}
use Rattle.stack_code.proofs.valid_code.RoutineLaws.{valid_routine}
use Rattle.stack_code.proofs.valid_code.validity.is_valid_routine.Goals as goal

pub returns-clause-valid : goal.returns-clause-valid
returns-clause-valid c =
    let r = c.args.routine.now in
    let lists : length r.kinds ≡ length r.ops = search rules in
    let lines : length r.lines ≡ length r.ops = search rules in
    let start : kinds_at r 0 ≡ Some [] = search rules in
    when_ok c.are_fine.result c.are_fine.ensures.fine (λ b e. valid_routine c.args.code.now r b lists lines start e)
