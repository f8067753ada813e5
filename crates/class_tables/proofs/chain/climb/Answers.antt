use Rattle.std.proofs.Common.{ℕ, List, sym, subst, Some}
use Rattle.class_tables.proofs.ClimbLaws.{Climbing, climb_start, climbed_step, climb_none, climb_held}
use Rattle.class_tables.proofs.chain.climb.Goals as goal

pub loop-step-init : goal.loop-step-init
loop-step-init c =
    subst (λ (cs : List ℕ). Climbing c.args.rows.now c.args.class cs c.args.held.now.items (Some c.args.class) 0) (sym c.new-classes.ensures.items)
    (climb_start c.args.rows.now c.args.class c.args.held.now.items c.requires.class c.requires.held)

pub returns-in-None-clause-chain : goal.returns-in-None-clause-chain
returns-in-None-clause-chain c = climb_none c.args.rows.now c.args.class c.loop-step.classes.items c.loop-step.held.items c.loop-step.next c.loop-step._step c.loop-step.invariant c.in-None.is

pub returns-then-index-clause-chain : goal.returns-then-index-clause-chain
returns-then-index-clause-chain c =
    climb_held c.args.rows.now c.args.class c.loop-step.classes.items c.loop-step.held.items c.loop-step.next c.loop-step._step c.loop-step.invariant c.in-Some.at c.index.result.now c.in-Some.is c.index.ensures c.if-index.true

pub loop-step-preserved : goal.loop-step-preserved
loop-step-preserved c =
    climbed_step c.args.rows.now c.args.class c.loop-step.classes.items c.loop-step.held.items c.loop-step.next c.loop-step._step c.loop-step.invariant c.in-Some.at _ _ c.index.result.now
    c.in-Some.is c.index.ensures c.if-index.false c.loop-step-test.true c.requires.within c.in_ok-push.ensures.items c.base-next.ensures
