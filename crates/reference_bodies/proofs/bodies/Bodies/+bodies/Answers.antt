use Rattle.std.proofs.Common.{rules, to_z, of_z, ◌≡◌, ◌+◌, ◌∙◌, Bool, true, false, refl, sym, ap, drop, option_map}
use Rattle.std.specs.Int.{w128}
use Rattle.std.specs.Prelude.{is_some}
use Rattle.std.proofs.lemmas.Result.{err_from_is_err_and}
use Rattle.st_tree.specs.Expression.{arguments_of, expression_of, place_of}
use Rattle.st_tree.specs.Statement.{Call, branches_of, cases_of, otherwise_of, statement_of, statement_of-Assign, statement_of-Attempt, statement_of-Call, statement_of-Case, statement_of-For, statement_of-If, statement_of-Repeat, statements_of}
use Rattle.st_meaning.specs.Enter.{enter}
use Rattle.st_meaning.specs.Operation.{elem_of}
use Rattle.st_meaning.specs.Place.{named_spot}
use Rattle.st_meaning.specs.Loop.{loop_until}
use Rattle.st_meaning.specs.State.{Done, go_on}
use Rattle.st_meaning.specs.Statement.{effect, effects, otherwise_effect}
use Rattle.st_values.specs.View.{program_of}
use Rattle.run_state.specs.State.{state_of}
use Rattle.reference_bodies.specs.Flow.{flow_of}
use Rattle.reference_bodies.specs.Private.Turns.{begins, condition, counted, in_branch, in_case, is_within, or_else}
use Rattle.reference_values.proofs.LoopSteps.{stopped}
use Rattle.reference_bodies.proofs.EffectSteps.{shown_so, unread}
use Rattle.reference_bodies.proofs.ListLaws.{case_by, for_by, if_by, then_begin, then_count, then_limits}
use Rattle.reference_bodies.proofs.BodySteps.{statement_goes, statement_leaves, statement_stops, statements_end, branch_goes, branch_ends, branch_stops, branches_at, branches_end, cases_at, cases_end}
use Rattle.reference_bodies.proofs.Falling.{body_falls, condition_falls, counted_falls, within_falls}
use Rattle.reference_bodies.proofs.TurnSteps.{goes_round, fewer_round, ends_round, stops_round, goes_until, fewer_until, ends_until, stops_until}
use Rattle.reference_bodies.proofs.bodies.Bodies.+bodies.Goals as goal

pub effects-loop-statement-preserved : goal.effects-loop-statement-preserved
effects-loop-statement-preserved g t c = (
  statement_goes (program_of c.args.self.now.walk.tables.now) (enter (program_of c.args.self.now.walk.tables.now) c.args.self.now.walk.room) c.args.line (state_of c.loop-statement.m) c.loop-statement.statement-index c.args.body.now c.statement-item.result _ c.loop-statement-test.true c.statement-item.is c.loop-statement.invariant.0 (flow_of c.in-Ok.flow) (state_of c.effect.new.m) c.in-Ok.ensures.run (cc),
  c.in-Ok.ensures.base ∙ c.loop-statement.invariant.1,
)

pub effects-returns-then-not-goes_on-clause-run : goal.effects-returns-then-not-goes_on-clause-run
effects-returns-then-not-goes_on-clause-run g t c =
    statement_leaves (program_of c.args.self.now.walk.tables.now) (enter (program_of c.args.self.now.walk.tables.now) c.args.self.now.walk.room) c.args.line (state_of c.loop-statement.m) c.loop-statement.statement-index c.args.body.now c.statement-item.result _ c.loop-statement-test.true c.statement-item.is c.loop-statement.invariant.0 (flow_of c.in-Ok.flow) (state_of c.effect.new.m) c.in-Ok.ensures.run (cc)

pub effects-returns-in-Err-clause-run : goal.effects-returns-in-Err-clause-run
effects-returns-in-Err-clause-run g t c =
    statement_stops (program_of c.args.self.now.walk.tables.now) (enter (program_of c.args.self.now.walk.tables.now) c.args.self.now.walk.room) c.args.line (state_of c.loop-statement.m) c.loop-statement.statement-index c.args.body.now c.statement-item.result _ c.loop-statement-test.true c.statement-item.is c.loop-statement.invariant.0 c.in-Err.stop (state_of c.effect.new.m) c.in-Err.ensures.run

pub effects-returns-clause-run : goal.effects-returns-clause-run
effects-returns-clause-run g t c =
    statements_end (program_of c.args.self.now.walk.tables.now) (enter (program_of c.args.self.now.walk.tables.now) c.args.self.now.walk.room) c.args.line (state_of c.loop-statement.m) c.loop-statement.statement-index c.args.body.now _ c.loop-statement.invariant.0 c.loop-statement-test.false

pub first_true-loop-branch-preserved : goal.first_true-loop-branch-preserved
first_true-loop-branch-preserved g t c = (
  branch_goes c.args.line _ (in_branch (program_of c.args.self.now.walk.tables.now) (enter (program_of c.args.self.now.walk.tables.now) c.args.self.now.walk.room) (branches_of (drop (c.loop-branch.branch-index + 1) c.args.branches.now))) _ _ (branches_at (program_of c.args.self.now.walk.tables.now) (enter (program_of c.args.self.now.walk.tables.now) c.args.self.now.walk.room) c.args.line (state_of c.loop-branch.m) c.loop-branch.branch-index c.args.branches.now c.branch-item.result c.loop-branch-test.true c.branch-item.is) c.loop-branch.invariant.0 (option_map flow_of c.in-Ok.end) (state_of c.one_branch.new.m) c.in-Ok.ensures.run (cc),
  c.in-Ok.ensures.base ∙ c.loop-branch.invariant.1,
)

pub first_true-returns-then-is_end-clause-run : goal.first_true-returns-then-is_end-clause-run
first_true-returns-then-is_end-clause-run g t c =
    branch_ends c.args.line _ (in_branch (program_of c.args.self.now.walk.tables.now) (enter (program_of c.args.self.now.walk.tables.now) c.args.self.now.walk.room) (branches_of (drop (c.loop-branch.branch-index + 1) c.args.branches.now))) _ _ (branches_at (program_of c.args.self.now.walk.tables.now) (enter (program_of c.args.self.now.walk.tables.now) c.args.self.now.walk.room) c.args.line (state_of c.loop-branch.m) c.loop-branch.branch-index c.args.branches.now c.branch-item.result c.loop-branch-test.true c.branch-item.is) c.loop-branch.invariant.0 (option_map flow_of c.in-Ok.end) (state_of c.one_branch.new.m) c.in-Ok.ensures.run (cc)

pub first_true-returns-in-Err-clause-run : goal.first_true-returns-in-Err-clause-run
first_true-returns-in-Err-clause-run g t c =
    branch_stops c.args.line _ (in_branch (program_of c.args.self.now.walk.tables.now) (enter (program_of c.args.self.now.walk.tables.now) c.args.self.now.walk.room) (branches_of (drop (c.loop-branch.branch-index + 1) c.args.branches.now))) _ _ (branches_at (program_of c.args.self.now.walk.tables.now) (enter (program_of c.args.self.now.walk.tables.now) c.args.self.now.walk.room) c.args.line (state_of c.loop-branch.m) c.loop-branch.branch-index c.args.branches.now c.branch-item.result c.loop-branch-test.true c.branch-item.is) c.loop-branch.invariant.0 c.in-Err.stop (state_of c.one_branch.new.m) c.in-Err.ensures.run

pub first_true-returns-clause-run : goal.first_true-returns-clause-run
first_true-returns-clause-run g t c =
    branches_end (program_of c.args.self.now.walk.tables.now) (enter (program_of c.args.self.now.walk.tables.now) c.args.self.now.walk.room) c.args.line (state_of c.loop-branch.m) c.loop-branch.branch-index c.args.branches.now _ c.loop-branch.invariant.0 c.loop-branch-test.false

pub first_holding-loop-case-preserved : goal.first_holding-loop-case-preserved
first_holding-loop-case-preserved g t c = (
  branch_goes c.args.line _ (in_case (program_of c.args.self.now.walk.tables.now) (enter (program_of c.args.self.now.walk.tables.now) c.args.self.now.walk.room) c.args.z.now (cases_of (drop (c.loop-case.case-index + 1) c.args.cases.now))) _ _ (cases_at (program_of c.args.self.now.walk.tables.now) (enter (program_of c.args.self.now.walk.tables.now) c.args.self.now.walk.room) c.args.line (state_of c.loop-case.m) c.loop-case.case-index c.args.z.now c.args.cases.now c.case-item.result c.loop-case-test.true c.case-item.is) c.loop-case.invariant.0 (option_map flow_of c.in-Ok.end) (state_of c.case.new.m) c.in-Ok.ensures.run (cc),
  c.in-Ok.ensures.base ∙ c.loop-case.invariant.1,
)

pub first_holding-returns-then-is_end-clause-run : goal.first_holding-returns-then-is_end-clause-run
first_holding-returns-then-is_end-clause-run g t c =
    branch_ends c.args.line _ (in_case (program_of c.args.self.now.walk.tables.now) (enter (program_of c.args.self.now.walk.tables.now) c.args.self.now.walk.room) c.args.z.now (cases_of (drop (c.loop-case.case-index + 1) c.args.cases.now))) _ _ (cases_at (program_of c.args.self.now.walk.tables.now) (enter (program_of c.args.self.now.walk.tables.now) c.args.self.now.walk.room) c.args.line (state_of c.loop-case.m) c.loop-case.case-index c.args.z.now c.args.cases.now c.case-item.result c.loop-case-test.true c.case-item.is) c.loop-case.invariant.0 (option_map flow_of c.in-Ok.end) (state_of c.case.new.m) c.in-Ok.ensures.run (cc)

pub first_holding-returns-in-Err-clause-run : goal.first_holding-returns-in-Err-clause-run
first_holding-returns-in-Err-clause-run g t c =
    branch_stops c.args.line _ (in_case (program_of c.args.self.now.walk.tables.now) (enter (program_of c.args.self.now.walk.tables.now) c.args.self.now.walk.room) c.args.z.now (cases_of (drop (c.loop-case.case-index + 1) c.args.cases.now))) _ _ (cases_at (program_of c.args.self.now.walk.tables.now) (enter (program_of c.args.self.now.walk.tables.now) c.args.self.now.walk.room) c.args.line (state_of c.loop-case.m) c.loop-case.case-index c.args.z.now c.args.cases.now c.case-item.result c.loop-case-test.true c.case-item.is) c.loop-case.invariant.0 c.in-Err.stop (state_of c.case.new.m) c.in-Err.ensures.run

pub first_holding-returns-clause-run : goal.first_holding-returns-clause-run
first_holding-returns-clause-run g t c =
    cases_end (program_of c.args.self.now.walk.tables.now) (enter (program_of c.args.self.now.walk.tables.now) c.args.self.now.walk.room) c.args.line (state_of c.loop-case.m) c.loop-case.case-index c.args.z.now c.args.cases.now _ c.loop-case.invariant.0 c.loop-case-test.false

pub repeat_while-turns-preserved : goal.repeat_while-turns-preserved
repeat_while-turns-preserved g t c = (
  goes_round (condition (program_of c.args.self.now.walk.tables.now) (enter (program_of c.args.self.now.walk.tables.now) c.args.self.now.walk.room) (expression_of c.args.e.now)) (effects (program_of c.args.self.now.walk.tables.now) (enter (program_of c.args.self.now.walk.tables.now) c.args.self.now.walk.room) (statements_of c.args.body.now)) (condition_falls (program_of c.args.self.now.walk.tables.now) c.args.self.now.walk.room (expression_of c.args.e.now)) (body_falls (program_of c.args.self.now.walk.tables.now) c.args.self.now.walk.room (statements_of c.args.body.now)) c.args.line (state_of c.turns.m) _ (option_map flow_of c.in-Ok.end) (state_of c.turn.new.m) c.turns.invariant.0 c.in-Ok.ensures.run (cc),
  c.in-Ok.ensures.base ∙ c.turns.invariant.1,
)

pub repeat_while-turns-smaller : goal.repeat_while-turns-smaller
repeat_while-turns-smaller g t c =
    fewer_round (condition (program_of c.args.self.now.walk.tables.now) (enter (program_of c.args.self.now.walk.tables.now) c.args.self.now.walk.room) (expression_of c.args.e.now)) (effects (program_of c.args.self.now.walk.tables.now) (enter (program_of c.args.self.now.walk.tables.now) c.args.self.now.walk.room) (statements_of c.args.body.now)) (condition_falls (program_of c.args.self.now.walk.tables.now) c.args.self.now.walk.room (expression_of c.args.e.now)) (body_falls (program_of c.args.self.now.walk.tables.now) c.args.self.now.walk.room (statements_of c.args.body.now)) c.args.line (state_of c.turns.m) (option_map flow_of c.in-Ok.end) (state_of c.turn.new.m) c.in-Ok.ensures.run (cc)

pub repeat_while-returns-then-is_end-clause-run : goal.repeat_while-returns-then-is_end-clause-run
repeat_while-returns-then-is_end-clause-run g t c =
    ends_round (condition (program_of c.args.self.now.walk.tables.now) (enter (program_of c.args.self.now.walk.tables.now) c.args.self.now.walk.room) (expression_of c.args.e.now)) (effects (program_of c.args.self.now.walk.tables.now) (enter (program_of c.args.self.now.walk.tables.now) c.args.self.now.walk.room) (statements_of c.args.body.now)) (condition_falls (program_of c.args.self.now.walk.tables.now) c.args.self.now.walk.room (expression_of c.args.e.now)) (body_falls (program_of c.args.self.now.walk.tables.now) c.args.self.now.walk.room (statements_of c.args.body.now)) c.args.line (state_of c.turns.m) _ (option_map flow_of c.in-Ok.end) (state_of c.turn.new.m) c.turns.invariant.0 c.in-Ok.ensures.run (cc) ∙ ap (λ f. Done f (state_of c.turn.new.m)) (sym c.ended.ensures)

pub repeat_while-returns-in-Err-clause-run : goal.repeat_while-returns-in-Err-clause-run
repeat_while-returns-in-Err-clause-run g t c =
    stops_round (condition (program_of c.args.self.now.walk.tables.now) (enter (program_of c.args.self.now.walk.tables.now) c.args.self.now.walk.room) (expression_of c.args.e.now)) (effects (program_of c.args.self.now.walk.tables.now) (enter (program_of c.args.self.now.walk.tables.now) c.args.self.now.walk.room) (statements_of c.args.body.now)) (condition_falls (program_of c.args.self.now.walk.tables.now) c.args.self.now.walk.room (expression_of c.args.e.now)) (body_falls (program_of c.args.self.now.walk.tables.now) c.args.self.now.walk.room (statements_of c.args.body.now)) c.args.line (state_of c.turns.m) _ c.in-Err.stop (state_of c.turn.new.m) c.turns.invariant.0 c.in-Err.ensures.run

pub repeat_until-turns-preserved : goal.repeat_until-turns-preserved
repeat_until-turns-preserved g t c = (
  goes_until (effects (program_of c.args.self.now.walk.tables.now) (enter (program_of c.args.self.now.walk.tables.now) c.args.self.now.walk.room) (statements_of c.args.body.now)) (condition (program_of c.args.self.now.walk.tables.now) (enter (program_of c.args.self.now.walk.tables.now) c.args.self.now.walk.room) (expression_of c.args.e.now)) (body_falls (program_of c.args.self.now.walk.tables.now) c.args.self.now.walk.room (statements_of c.args.body.now)) (condition_falls (program_of c.args.self.now.walk.tables.now) c.args.self.now.walk.room (expression_of c.args.e.now)) c.args.line (state_of c.turns.m) _ (option_map flow_of c.in-Ok.end) (state_of c.turn_until.new.m) c.turns.invariant.0 c.in-Ok.ensures.run (cc),
  c.in-Ok.ensures.base ∙ c.turns.invariant.1,
)

pub repeat_until-turns-smaller : goal.repeat_until-turns-smaller
repeat_until-turns-smaller g t c =
    fewer_until (effects (program_of c.args.self.now.walk.tables.now) (enter (program_of c.args.self.now.walk.tables.now) c.args.self.now.walk.room) (statements_of c.args.body.now)) (condition (program_of c.args.self.now.walk.tables.now) (enter (program_of c.args.self.now.walk.tables.now) c.args.self.now.walk.room) (expression_of c.args.e.now)) (body_falls (program_of c.args.self.now.walk.tables.now) c.args.self.now.walk.room (statements_of c.args.body.now)) (condition_falls (program_of c.args.self.now.walk.tables.now) c.args.self.now.walk.room (expression_of c.args.e.now)) c.args.line (state_of c.turns.m) (option_map flow_of c.in-Ok.end) (state_of c.turn_until.new.m) c.in-Ok.ensures.run (cc)

pub repeat_until-returns-then-is_end-clause-run : goal.repeat_until-returns-then-is_end-clause-run
repeat_until-returns-then-is_end-clause-run g t c =
    ends_until (effects (program_of c.args.self.now.walk.tables.now) (enter (program_of c.args.self.now.walk.tables.now) c.args.self.now.walk.room) (statements_of c.args.body.now)) (condition (program_of c.args.self.now.walk.tables.now) (enter (program_of c.args.self.now.walk.tables.now) c.args.self.now.walk.room) (expression_of c.args.e.now)) (body_falls (program_of c.args.self.now.walk.tables.now) c.args.self.now.walk.room (statements_of c.args.body.now)) (condition_falls (program_of c.args.self.now.walk.tables.now) c.args.self.now.walk.room (expression_of c.args.e.now)) c.args.line (state_of c.turns.m) _ (option_map flow_of c.in-Ok.end) (state_of c.turn_until.new.m) c.turns.invariant.0 c.in-Ok.ensures.run (cc) ∙ ap (λ f. Done f (state_of c.turn_until.new.m)) (sym c.ended.ensures)

pub repeat_until-returns-in-Err-clause-run : goal.repeat_until-returns-in-Err-clause-run
repeat_until-returns-in-Err-clause-run g t c =
    stops_until (effects (program_of c.args.self.now.walk.tables.now) (enter (program_of c.args.self.now.walk.tables.now) c.args.self.now.walk.room) (statements_of c.args.body.now)) (condition (program_of c.args.self.now.walk.tables.now) (enter (program_of c.args.self.now.walk.tables.now) c.args.self.now.walk.room) (expression_of c.args.e.now)) (body_falls (program_of c.args.self.now.walk.tables.now) c.args.self.now.walk.room (statements_of c.args.body.now)) (condition_falls (program_of c.args.self.now.walk.tables.now) c.args.self.now.walk.room (expression_of c.args.e.now)) c.args.line (state_of c.turns.m) _ c.in-Err.stop (state_of c.turn_until.new.m) c.turns.invariant.0 c.in-Err.ensures.run

pub count-turns-preserved : goal.count-turns-preserved
count-turns-preserved g t c = (
  goes_round (is_within (named_spot c.args.a.now.target) c.args.count.now.end c.args.count.now.step) (counted (elem_of c.args.a.now.kind) (named_spot c.args.a.now.target) c.args.count.now.step (effects (program_of c.args.self.now.walk.tables.now) (enter (program_of c.args.self.now.walk.tables.now) c.args.self.now.walk.room) (statements_of c.args.body.now))) (within_falls c.args.a.now.target c.args.count.now.end c.args.count.now.step) (counted_falls (program_of c.args.self.now.walk.tables.now) c.args.self.now.walk.room (elem_of c.args.a.now.kind) c.args.a.now.target c.args.count.now.step (statements_of c.args.body.now)) c.args.line (state_of c.turns.m) _ (option_map flow_of c.in-Ok.end) (state_of c.counting_turn.new.m) c.turns.invariant.0 c.in-Ok.ensures.run (cc),
  c.in-Ok.ensures.base ∙ c.turns.invariant.1,
)

pub count-turns-smaller : goal.count-turns-smaller
count-turns-smaller g t c =
    fewer_round (is_within (named_spot c.args.a.now.target) c.args.count.now.end c.args.count.now.step) (counted (elem_of c.args.a.now.kind) (named_spot c.args.a.now.target) c.args.count.now.step (effects (program_of c.args.self.now.walk.tables.now) (enter (program_of c.args.self.now.walk.tables.now) c.args.self.now.walk.room) (statements_of c.args.body.now))) (within_falls c.args.a.now.target c.args.count.now.end c.args.count.now.step) (counted_falls (program_of c.args.self.now.walk.tables.now) c.args.self.now.walk.room (elem_of c.args.a.now.kind) c.args.a.now.target c.args.count.now.step (statements_of c.args.body.now)) c.args.line (state_of c.turns.m) (option_map flow_of c.in-Ok.end) (state_of c.counting_turn.new.m) c.in-Ok.ensures.run (cc)

pub count-returns-then-is_end-clause-run : goal.count-returns-then-is_end-clause-run
count-returns-then-is_end-clause-run g t c =
    ends_round (is_within (named_spot c.args.a.now.target) c.args.count.now.end c.args.count.now.step) (counted (elem_of c.args.a.now.kind) (named_spot c.args.a.now.target) c.args.count.now.step (effects (program_of c.args.self.now.walk.tables.now) (enter (program_of c.args.self.now.walk.tables.now) c.args.self.now.walk.room) (statements_of c.args.body.now))) (within_falls c.args.a.now.target c.args.count.now.end c.args.count.now.step) (counted_falls (program_of c.args.self.now.walk.tables.now) c.args.self.now.walk.room (elem_of c.args.a.now.kind) c.args.a.now.target c.args.count.now.step (statements_of c.args.body.now)) c.args.line (state_of c.turns.m) _ (option_map flow_of c.in-Ok.end) (state_of c.counting_turn.new.m) c.turns.invariant.0 c.in-Ok.ensures.run (cc) ∙ ap (λ f. Done f (state_of c.counting_turn.new.m)) (sym c.ended.ensures)

pub count-returns-in-Err-clause-run : goal.count-returns-in-Err-clause-run
count-returns-in-Err-clause-run g t c =
    stops_round (is_within (named_spot c.args.a.now.target) c.args.count.now.end c.args.count.now.step) (counted (elem_of c.args.a.now.kind) (named_spot c.args.a.now.target) c.args.count.now.step (effects (program_of c.args.self.now.walk.tables.now) (enter (program_of c.args.self.now.walk.tables.now) c.args.self.now.walk.room) (statements_of c.args.body.now))) (within_falls c.args.a.now.target c.args.count.now.end c.args.count.now.step) (counted_falls (program_of c.args.self.now.walk.tables.now) c.args.self.now.walk.room (elem_of c.args.a.now.kind) c.args.a.now.target c.args.count.now.step (statements_of c.args.body.now)) c.args.line (state_of c.turns.m) _ c.in-Err.stop (state_of c.counting_turn.new.m) c.turns.invariant.0 c.in-Err.ensures.run

pub effect-returns-in-Assign-clause-run : goal.effect-returns-in-Assign-clause-run
effect-returns-in-Assign-clause-run g t c =
    shown_so flow_of c.assign.result _ _ (state_of c.assign.new.m) (ap (λ x. effect (program_of c.args.self.now.walk.tables.now) (enter (program_of c.args.self.now.walk.tables.now) c.args.self.now.walk.room) (statement_of x) c.args.line (state_of c.args.m.now)) c.in-Assign.is ∙ ap (λ x. effect (program_of c.args.self.now.walk.tables.now) (enter (program_of c.args.self.now.walk.tables.now) c.args.self.now.walk.room) x c.args.line (state_of c.args.m.now)) (statement_of-Assign _ _ _ _)) c.assign.ensures.run

pub effect-returns-in-Attempt-clause-run : goal.effect-returns-in-Attempt-clause-run
effect-returns-in-Attempt-clause-run g t c =
    shown_so flow_of c.attempt.result _ _ (state_of c.attempt.new.m) (ap (λ x. effect (program_of c.args.self.now.walk.tables.now) (enter (program_of c.args.self.now.walk.tables.now) c.args.self.now.walk.room) (statement_of x) c.args.line (state_of c.args.m.now)) c.in-Attempt.is ∙ ap (λ x. effect (program_of c.args.self.now.walk.tables.now) (enter (program_of c.args.self.now.walk.tables.now) c.args.self.now.walk.room) x c.args.line (state_of c.args.m.now)) (statement_of-Attempt _ _ _ _)) c.attempt.ensures.run

pub effect-returns-in-Call-clause-run : goal.effect-returns-in-Call-clause-run
effect-returns-in-Call-clause-run g t c =
    shown_so flow_of c.call.result _ _ (state_of c.call.new.m) ((ap (λ x. effect (program_of c.args.self.now.walk.tables.now) (enter (program_of c.args.self.now.walk.tables.now) c.args.self.now.walk.room) (statement_of x) c.args.line (state_of c.args.m.now)) c.in-Call.is ∙ ap (λ x. effect (program_of c.args.self.now.walk.tables.now) (enter (program_of c.args.self.now.walk.tables.now) c.args.self.now.walk.room) x c.args.line (state_of c.args.m.now)) (statement_of-Call _ _ _ _)) ∙ ap (λ xs. effect (program_of c.args.self.now.walk.tables.now) (enter (program_of c.args.self.now.walk.tables.now) c.args.self.now.walk.room) (Call c.in-Call.at c.in-Call.a (place_of c.in-Call.place).0 (place_of c.in-Call.place).1 (arguments_of xs)) c.args.line (state_of c.args.m.now)) (sym c.as_slice.ensures)) c.call.ensures.run

pub effect-returns-in_err-end-in-If-clause-run : goal.effect-returns-in_err-end-in-If-clause-run
effect-returns-in_err-end-in-If-clause-run g t c =
    let p = err_from_is_err_and c.from_residual-in_err-end-in-If.result c.from_residual-in_err-end-in-If.ensures.1 in
    rw (p.1, p.2) (stopped (option_map flow_of) flow_of c.in_err-end-in-If.field-0.0 _ (λ x. or_else (otherwise_effect (program_of c.args.self.now.walk.tables.now) (enter (program_of c.args.self.now.walk.tables.now) c.args.self.now.walk.room) (otherwise_of c.in-If.otherwise)) x c.in-If.at) _ _ (state_of c.first_true.new.m) ((ap (λ x. effect (program_of c.args.self.now.walk.tables.now) (enter (program_of c.args.self.now.walk.tables.now) c.args.self.now.walk.room) (statement_of x) c.args.line (state_of c.args.m.now)) c.in-If.is ∙ ap (λ x. effect (program_of c.args.self.now.walk.tables.now) (enter (program_of c.args.self.now.walk.tables.now) c.args.self.now.walk.room) x c.args.line (state_of c.args.m.now)) (statement_of-If _ _ _)) ∙ if_by (program_of c.args.self.now.walk.tables.now) (enter (program_of c.args.self.now.walk.tables.now) c.args.self.now.walk.room) c.in-If.at (branches_of c.in-If.branches) (otherwise_of c.in-If.otherwise) c.args.line (state_of c.args.m.now) ∙ ap (λ o. go_on o (λ a u. go_on (in_branch (program_of c.args.self.now.walk.tables.now) (enter (program_of c.args.self.now.walk.tables.now) c.args.self.now.walk.room) (branches_of c.in-If.branches) c.in-If.at u) (λ x. or_else (otherwise_effect (program_of c.args.self.now.walk.tables.now) (enter (program_of c.args.self.now.walk.tables.now) c.args.self.now.walk.room) (otherwise_of c.in-If.otherwise)) x c.in-If.at))) c.in_ok-spend-in-If.ensures.run ∙ ap (λ bs. go_on (in_branch (program_of c.args.self.now.walk.tables.now) (enter (program_of c.args.self.now.walk.tables.now) c.args.self.now.walk.room) (branches_of bs) c.in-If.at (state_of c.spend.new.m)) (λ x. or_else (otherwise_effect (program_of c.args.self.now.walk.tables.now) (enter (program_of c.args.self.now.walk.tables.now) c.args.self.now.walk.room) (otherwise_of c.in-If.otherwise)) x c.in-If.at)) (sym c.as_slice-in-If.ensures)) refl c.in_err-end-in-If.ensures.run)

pub effect-returns-in_ok-end-in-If-clause-run : goal.effect-returns-in_ok-end-in-If-clause-run
effect-returns-in_ok-end-in-If-clause-run g t c =
    shown_so flow_of c.or_otherwise.result _ _ (state_of c.or_otherwise.new.m) (((ap (λ x. effect (program_of c.args.self.now.walk.tables.now) (enter (program_of c.args.self.now.walk.tables.now) c.args.self.now.walk.room) (statement_of x) c.args.line (state_of c.args.m.now)) c.in-If.is ∙ ap (λ x. effect (program_of c.args.self.now.walk.tables.now) (enter (program_of c.args.self.now.walk.tables.now) c.args.self.now.walk.room) x c.args.line (state_of c.args.m.now)) (statement_of-If _ _ _)) ∙ if_by (program_of c.args.self.now.walk.tables.now) (enter (program_of c.args.self.now.walk.tables.now) c.args.self.now.walk.room) c.in-If.at (branches_of c.in-If.branches) (otherwise_of c.in-If.otherwise) c.args.line (state_of c.args.m.now) ∙ ap (λ o. go_on o (λ a u. go_on (in_branch (program_of c.args.self.now.walk.tables.now) (enter (program_of c.args.self.now.walk.tables.now) c.args.self.now.walk.room) (branches_of c.in-If.branches) c.in-If.at u) (λ x. or_else (otherwise_effect (program_of c.args.self.now.walk.tables.now) (enter (program_of c.args.self.now.walk.tables.now) c.args.self.now.walk.room) (otherwise_of c.in-If.otherwise)) x c.in-If.at))) c.in_ok-spend-in-If.ensures.run ∙ ap (λ bs. go_on (in_branch (program_of c.args.self.now.walk.tables.now) (enter (program_of c.args.self.now.walk.tables.now) c.args.self.now.walk.room) (branches_of bs) c.in-If.at (state_of c.spend.new.m)) (λ x. or_else (otherwise_effect (program_of c.args.self.now.walk.tables.now) (enter (program_of c.args.self.now.walk.tables.now) c.args.self.now.walk.room) (otherwise_of c.in-If.otherwise)) x c.in-If.at)) (sym c.as_slice-in-If.ensures)) ∙ ap (λ o. go_on o (λ x. or_else (otherwise_effect (program_of c.args.self.now.walk.tables.now) (enter (program_of c.args.self.now.walk.tables.now) c.args.self.now.walk.room) (otherwise_of c.in-If.otherwise)) x c.in-If.at)) c.in_ok-end-in-If.ensures.run) c.or_otherwise.ensures.run

pub effect-returns-in_err-z-in-Case-clause-run : goal.effect-returns-in_err-z-in-Case-clause-run
effect-returns-in_err-z-in-Case-clause-run g t c =
    let p = err_from_is_err_and c.from_residual-in_err-z-in-Case.result c.from_residual-in_err-z-in-Case.ensures.1 in
    rw (p.1, p.2) (unread flow_of c.in_err-z-in-Case.field-0.0 _ (λ z u. go_on (in_case (program_of c.args.self.now.walk.tables.now) (enter (program_of c.args.self.now.walk.tables.now) c.args.self.now.walk.room) z (cases_of c.in-Case.cases) c.in-Case.at u) (λ x. or_else (otherwise_effect (program_of c.args.self.now.walk.tables.now) (enter (program_of c.args.self.now.walk.tables.now) c.args.self.now.walk.room) (otherwise_of c.in-Case.otherwise)) x c.in-Case.at)) _ (state_of c.selected.new.m) ((ap (λ x. effect (program_of c.args.self.now.walk.tables.now) (enter (program_of c.args.self.now.walk.tables.now) c.args.self.now.walk.room) (statement_of x) c.args.line (state_of c.args.m.now)) c.in-Case.is ∙ ap (λ x. effect (program_of c.args.self.now.walk.tables.now) (enter (program_of c.args.self.now.walk.tables.now) c.args.self.now.walk.room) x c.args.line (state_of c.args.m.now)) (statement_of-Case _ _ _ _)) ∙ case_by (program_of c.args.self.now.walk.tables.now) (enter (program_of c.args.self.now.walk.tables.now) c.args.self.now.walk.room) c.in-Case.at (expression_of c.in-Case.e) (cases_of c.in-Case.cases) (otherwise_of c.in-Case.otherwise) c.args.line (state_of c.args.m.now)) c.in_err-z-in-Case.ensures.run)

pub effect-returns-in_err-end-in-Case-clause-run : goal.effect-returns-in_err-end-in-Case-clause-run
effect-returns-in_err-end-in-Case-clause-run g t c =
    let same : to_z w128 (of_z w128 c.in_ok-z-in-Case.z) ≡ c.in_ok-z-in-Case.z = search rules in
    let p = err_from_is_err_and c.from_residual-in_err-end-in-Case.result c.from_residual-in_err-end-in-Case.ensures.1 in
    rw (p.1, p.2) (stopped (option_map flow_of) flow_of c.in_err-end-in-Case.field-0.0 _ (λ x. or_else (otherwise_effect (program_of c.args.self.now.walk.tables.now) (enter (program_of c.args.self.now.walk.tables.now) c.args.self.now.walk.room) (otherwise_of c.in-Case.otherwise)) x c.in-Case.at) _ _ (state_of c.first_holding.new.m) ((ap (λ x. effect (program_of c.args.self.now.walk.tables.now) (enter (program_of c.args.self.now.walk.tables.now) c.args.self.now.walk.room) (statement_of x) c.args.line (state_of c.args.m.now)) c.in-Case.is ∙ ap (λ x. effect (program_of c.args.self.now.walk.tables.now) (enter (program_of c.args.self.now.walk.tables.now) c.args.self.now.walk.room) x c.args.line (state_of c.args.m.now)) (statement_of-Case _ _ _ _)) ∙ case_by (program_of c.args.self.now.walk.tables.now) (enter (program_of c.args.self.now.walk.tables.now) c.args.self.now.walk.room) c.in-Case.at (expression_of c.in-Case.e) (cases_of c.in-Case.cases) (otherwise_of c.in-Case.otherwise) c.args.line (state_of c.args.m.now) ∙ ap (λ o. go_on o (λ z u. go_on (in_case (program_of c.args.self.now.walk.tables.now) (enter (program_of c.args.self.now.walk.tables.now) c.args.self.now.walk.room) z (cases_of c.in-Case.cases) c.in-Case.at u) (λ x. or_else (otherwise_effect (program_of c.args.self.now.walk.tables.now) (enter (program_of c.args.self.now.walk.tables.now) c.args.self.now.walk.room) (otherwise_of c.in-Case.otherwise)) x c.in-Case.at))) c.in_ok-z-in-Case.ensures.run ∙ ap (λ k. go_on (in_case (program_of c.args.self.now.walk.tables.now) (enter (program_of c.args.self.now.walk.tables.now) c.args.self.now.walk.room) k (cases_of c.in-Case.cases) c.in-Case.at (state_of c.selected.new.m)) (λ x. or_else (otherwise_effect (program_of c.args.self.now.walk.tables.now) (enter (program_of c.args.self.now.walk.tables.now) c.args.self.now.walk.room) (otherwise_of c.in-Case.otherwise)) x c.in-Case.at)) (sym same) ∙ ap (λ cs. go_on (in_case (program_of c.args.self.now.walk.tables.now) (enter (program_of c.args.self.now.walk.tables.now) c.args.self.now.walk.room) (to_z w128 (of_z w128 c.in_ok-z-in-Case.z)) (cases_of cs) c.in-Case.at (state_of c.selected.new.m)) (λ x. or_else (otherwise_effect (program_of c.args.self.now.walk.tables.now) (enter (program_of c.args.self.now.walk.tables.now) c.args.self.now.walk.room) (otherwise_of c.in-Case.otherwise)) x c.in-Case.at)) (sym c.as_slice-in-Case.ensures)) refl c.in_err-end-in-Case.ensures.run)

pub effect-returns-in_ok-end-in-Case-clause-run : goal.effect-returns-in_ok-end-in-Case-clause-run
effect-returns-in_ok-end-in-Case-clause-run g t c =
    let same : to_z w128 (of_z w128 c.in_ok-z-in-Case.z) ≡ c.in_ok-z-in-Case.z = search rules in
    shown_so flow_of c.or_otherwise-in-Case.result _ _ (state_of c.or_otherwise-in-Case.new.m) (((ap (λ x. effect (program_of c.args.self.now.walk.tables.now) (enter (program_of c.args.self.now.walk.tables.now) c.args.self.now.walk.room) (statement_of x) c.args.line (state_of c.args.m.now)) c.in-Case.is ∙ ap (λ x. effect (program_of c.args.self.now.walk.tables.now) (enter (program_of c.args.self.now.walk.tables.now) c.args.self.now.walk.room) x c.args.line (state_of c.args.m.now)) (statement_of-Case _ _ _ _)) ∙ case_by (program_of c.args.self.now.walk.tables.now) (enter (program_of c.args.self.now.walk.tables.now) c.args.self.now.walk.room) c.in-Case.at (expression_of c.in-Case.e) (cases_of c.in-Case.cases) (otherwise_of c.in-Case.otherwise) c.args.line (state_of c.args.m.now) ∙ ap (λ o. go_on o (λ z u. go_on (in_case (program_of c.args.self.now.walk.tables.now) (enter (program_of c.args.self.now.walk.tables.now) c.args.self.now.walk.room) z (cases_of c.in-Case.cases) c.in-Case.at u) (λ x. or_else (otherwise_effect (program_of c.args.self.now.walk.tables.now) (enter (program_of c.args.self.now.walk.tables.now) c.args.self.now.walk.room) (otherwise_of c.in-Case.otherwise)) x c.in-Case.at))) c.in_ok-z-in-Case.ensures.run ∙ ap (λ k. go_on (in_case (program_of c.args.self.now.walk.tables.now) (enter (program_of c.args.self.now.walk.tables.now) c.args.self.now.walk.room) k (cases_of c.in-Case.cases) c.in-Case.at (state_of c.selected.new.m)) (λ x. or_else (otherwise_effect (program_of c.args.self.now.walk.tables.now) (enter (program_of c.args.self.now.walk.tables.now) c.args.self.now.walk.room) (otherwise_of c.in-Case.otherwise)) x c.in-Case.at)) (sym same) ∙ ap (λ cs. go_on (in_case (program_of c.args.self.now.walk.tables.now) (enter (program_of c.args.self.now.walk.tables.now) c.args.self.now.walk.room) (to_z w128 (of_z w128 c.in_ok-z-in-Case.z)) (cases_of cs) c.in-Case.at (state_of c.selected.new.m)) (λ x. or_else (otherwise_effect (program_of c.args.self.now.walk.tables.now) (enter (program_of c.args.self.now.walk.tables.now) c.args.self.now.walk.room) (otherwise_of c.in-Case.otherwise)) x c.in-Case.at)) (sym c.as_slice-in-Case.ensures)) ∙ ap (λ o. go_on o (λ x. or_else (otherwise_effect (program_of c.args.self.now.walk.tables.now) (enter (program_of c.args.self.now.walk.tables.now) c.args.self.now.walk.room) (otherwise_of c.in-Case.otherwise)) x c.in-Case.at)) c.in_ok-end-in-Case.ensures.run) c.or_otherwise-in-Case.ensures.run

pub effect-returns-in_err-first-in-For-clause-run : goal.effect-returns-in_err-first-in-For-clause-run
effect-returns-in_err-first-in-For-clause-run g t c =
    let p = err_from_is_err_and c.from_residual-in_err-first-in-For.result c.from_residual-in_err-first-in-For.ensures.1 in
    rw (p.1, p.2) (unread flow_of c.in_err-first-in-For.field-0.0 _ (then_limits (program_of c.args.self.now.walk.tables.now) (enter (program_of c.args.self.now.walk.tables.now) c.args.self.now.walk.room) c.in-For.at c.in-For.a (expression_of c.in-For.to) (option_map expression_of c.in-For.by) (statements_of c.in-For.body)) _ (state_of c.selected-in-For.new.m) ((ap (λ x. effect (program_of c.args.self.now.walk.tables.now) (enter (program_of c.args.self.now.walk.tables.now) c.args.self.now.walk.room) (statement_of x) c.args.line (state_of c.args.m.now)) c.in-For.is ∙ ap (λ x. effect (program_of c.args.self.now.walk.tables.now) (enter (program_of c.args.self.now.walk.tables.now) c.args.self.now.walk.room) x c.args.line (state_of c.args.m.now)) (statement_of-For _ _ _ _ _ _ _)) ∙ for_by (program_of c.args.self.now.walk.tables.now) (enter (program_of c.args.self.now.walk.tables.now) c.args.self.now.walk.room) c.in-For.at c.in-For.a c.in-For.field-2 (expression_of c.in-For.from) (expression_of c.in-For.to) (option_map expression_of c.in-For.by) (statements_of c.in-For.body) c.args.line (state_of c.args.m.now)) c.in_err-first-in-For.ensures.run)

pub effect-returns-in_err-limits-in-For-clause-run : goal.effect-returns-in_err-limits-in-For-clause-run
effect-returns-in_err-limits-in-For-clause-run g t c =
    let p = err_from_is_err_and c.from_residual-in_err-limits-in-For.result c.from_residual-in_err-limits-in-For.ensures.1 in
    rw (p.1, p.2) (unread flow_of c.in_err-limits-in-For.field-0.0 _ (then_begin (program_of c.args.self.now.walk.tables.now) (enter (program_of c.args.self.now.walk.tables.now) c.args.self.now.walk.room) c.in-For.at c.in-For.a (statements_of c.in-For.body) c.in_ok-first-in-For.first) _ (state_of c.limits.new.m) ((ap (λ x. effect (program_of c.args.self.now.walk.tables.now) (enter (program_of c.args.self.now.walk.tables.now) c.args.self.now.walk.room) (statement_of x) c.args.line (state_of c.args.m.now)) c.in-For.is ∙ ap (λ x. effect (program_of c.args.self.now.walk.tables.now) (enter (program_of c.args.self.now.walk.tables.now) c.args.self.now.walk.room) x c.args.line (state_of c.args.m.now)) (statement_of-For _ _ _ _ _ _ _)) ∙ for_by (program_of c.args.self.now.walk.tables.now) (enter (program_of c.args.self.now.walk.tables.now) c.args.self.now.walk.room) c.in-For.at c.in-For.a c.in-For.field-2 (expression_of c.in-For.from) (expression_of c.in-For.to) (option_map expression_of c.in-For.by) (statements_of c.in-For.body) c.args.line (state_of c.args.m.now) ∙ ap (λ o. go_on o (then_limits (program_of c.args.self.now.walk.tables.now) (enter (program_of c.args.self.now.walk.tables.now) c.args.self.now.walk.room) c.in-For.at c.in-For.a (expression_of c.in-For.to) (option_map expression_of c.in-For.by) (statements_of c.in-For.body))) c.in_ok-first-in-For.ensures.run) c.in_err-limits-in-For.ensures.run)

pub effect-returns-in_err-begin-in-For-clause-run : goal.effect-returns-in_err-begin-in-For-clause-run
effect-returns-in_err-begin-in-For-clause-run g t c =
    let same : to_z w128 (of_z w128 c.in_ok-first-in-For.first) ≡ c.in_ok-first-in-For.first = search rules in
    let p = err_from_is_err_and c.from_residual-in_err-begin-in-For.result c.from_residual-in_err-begin-in-For.ensures.1 in
    rw (p.1, p.2) (unread flow_of c.in_err-begin-in-For.field-0.0 _ (λ z. (then_count (program_of c.args.self.now.walk.tables.now) (enter (program_of c.args.self.now.walk.tables.now) c.args.self.now.walk.room) c.in-For.at c.in-For.a (statements_of c.in-For.body) c.in_ok-limits-in-For.limits)) _ (state_of c.begin.new.m) ((ap (λ x. effect (program_of c.args.self.now.walk.tables.now) (enter (program_of c.args.self.now.walk.tables.now) c.args.self.now.walk.room) (statement_of x) c.args.line (state_of c.args.m.now)) c.in-For.is ∙ ap (λ x. effect (program_of c.args.self.now.walk.tables.now) (enter (program_of c.args.self.now.walk.tables.now) c.args.self.now.walk.room) x c.args.line (state_of c.args.m.now)) (statement_of-For _ _ _ _ _ _ _)) ∙ for_by (program_of c.args.self.now.walk.tables.now) (enter (program_of c.args.self.now.walk.tables.now) c.args.self.now.walk.room) c.in-For.at c.in-For.a c.in-For.field-2 (expression_of c.in-For.from) (expression_of c.in-For.to) (option_map expression_of c.in-For.by) (statements_of c.in-For.body) c.args.line (state_of c.args.m.now) ∙ ap (λ o. go_on o (then_limits (program_of c.args.self.now.walk.tables.now) (enter (program_of c.args.self.now.walk.tables.now) c.args.self.now.walk.room) c.in-For.at c.in-For.a (expression_of c.in-For.to) (option_map expression_of c.in-For.by) (statements_of c.in-For.body))) c.in_ok-first-in-For.ensures.run ∙ ap (λ o. go_on o (then_begin (program_of c.args.self.now.walk.tables.now) (enter (program_of c.args.self.now.walk.tables.now) c.args.self.now.walk.room) c.in-For.at c.in-For.a (statements_of c.in-For.body) c.in_ok-first-in-For.first)) c.in_ok-limits-in-For.ensures.run ∙ ap (λ k. then_begin (program_of c.args.self.now.walk.tables.now) (enter (program_of c.args.self.now.walk.tables.now) c.args.self.now.walk.room) c.in-For.at c.in-For.a (statements_of c.in-For.body) k c.in_ok-limits-in-For.limits (state_of c.limits.new.m)) (sym same)) c.in_err-begin-in-For.ensures.run)

pub effect-returns-in_ok-begin-in-For-clause-run : goal.effect-returns-in_ok-begin-in-For-clause-run
effect-returns-in_ok-begin-in-For-clause-run g t c =
    let same : to_z w128 (of_z w128 c.in_ok-first-in-For.first) ≡ c.in_ok-first-in-For.first = search rules in
    shown_so flow_of c.count.result _ _ (state_of c.count.new.m)
    ((ap (λ x. effect (program_of c.args.self.now.walk.tables.now) (enter (program_of c.args.self.now.walk.tables.now) c.args.self.now.walk.room) (statement_of x) c.args.line (state_of c.args.m.now)) c.in-For.is ∙ ap (λ x. effect (program_of c.args.self.now.walk.tables.now) (enter (program_of c.args.self.now.walk.tables.now) c.args.self.now.walk.room) x c.args.line (state_of c.args.m.now)) (statement_of-For _ _ _ _ _ _ _)) ∙ for_by (program_of c.args.self.now.walk.tables.now) (enter (program_of c.args.self.now.walk.tables.now) c.args.self.now.walk.room) c.in-For.at c.in-For.a c.in-For.field-2 (expression_of c.in-For.from) (expression_of c.in-For.to) (option_map expression_of c.in-For.by) (statements_of c.in-For.body) c.args.line (state_of c.args.m.now) ∙ ap (λ o. go_on o (then_limits (program_of c.args.self.now.walk.tables.now) (enter (program_of c.args.self.now.walk.tables.now) c.args.self.now.walk.room) c.in-For.at c.in-For.a (expression_of c.in-For.to) (option_map expression_of c.in-For.by) (statements_of c.in-For.body))) c.in_ok-first-in-For.ensures.run ∙ ap (λ o. go_on o (then_begin (program_of c.args.self.now.walk.tables.now) (enter (program_of c.args.self.now.walk.tables.now) c.args.self.now.walk.room) c.in-For.at c.in-For.a (statements_of c.in-For.body) c.in_ok-first-in-For.first)) c.in_ok-limits-in-For.ensures.run ∙ ap (λ k. then_begin (program_of c.args.self.now.walk.tables.now) (enter (program_of c.args.self.now.walk.tables.now) c.args.self.now.walk.room) c.in-For.at c.in-For.a (statements_of c.in-For.body) k c.in_ok-limits-in-For.limits (state_of c.limits.new.m)) (sym same) ∙ ap (λ o. go_on o (λ z. (then_count (program_of c.args.self.now.walk.tables.now) (enter (program_of c.args.self.now.walk.tables.now) c.args.self.now.walk.room) c.in-For.at c.in-For.a (statements_of c.in-For.body) c.in_ok-limits-in-For.limits))) c.in_ok-begin-in-For.ensures.run
    ∙ ap (λ b. then_count (program_of c.args.self.now.walk.tables.now) (enter (program_of c.args.self.now.walk.tables.now) c.args.self.now.walk.room) c.in-For.at c.in-For.a (statements_of b) c.in_ok-limits-in-For.limits (state_of c.begin.new.m)) (sym c.as_slice-in-For.ensures)) c.count.ensures.run

pub effect-returns-in_ok-spend-in-Repeat-clause-run : goal.effect-returns-in_ok-spend-in-Repeat-clause-run
effect-returns-in_ok-spend-in-Repeat-clause-run g t c =
    shown_so flow_of c.repeat_until.result _ _ (state_of c.repeat_until.new.m) ((ap (λ x. effect (program_of c.args.self.now.walk.tables.now) (enter (program_of c.args.self.now.walk.tables.now) c.args.self.now.walk.room) (statement_of x) c.args.line (state_of c.args.m.now)) c.in-Repeat.is ∙ ap (λ x. effect (program_of c.args.self.now.walk.tables.now) (enter (program_of c.args.self.now.walk.tables.now) c.args.self.now.walk.room) x c.args.line (state_of c.args.m.now)) (statement_of-Repeat _ _ _)) ∙ ap (λ o. go_on o (λ z. loop_until (effects (program_of c.args.self.now.walk.tables.now) (enter (program_of c.args.self.now.walk.tables.now) c.args.self.now.walk.room) (statements_of c.in-Repeat.body)) (condition (program_of c.args.self.now.walk.tables.now) (enter (program_of c.args.self.now.walk.tables.now) c.args.self.now.walk.room) (expression_of c.in-Repeat.e)) c.in-Repeat.at)) c.in_ok-spend-in-Repeat.ensures.run ∙ ap (λ b. loop_until (effects (program_of c.args.self.now.walk.tables.now) (enter (program_of c.args.self.now.walk.tables.now) c.args.self.now.walk.room) (statements_of b)) (condition (program_of c.args.self.now.walk.tables.now) (enter (program_of c.args.self.now.walk.tables.now) c.args.self.now.walk.room) (expression_of c.in-Repeat.e)) c.in-Repeat.at (state_of c.spend-in-Repeat.new.m)) (sym c.as_slice-in-Repeat.ensures)) c.repeat_until.ensures.run
