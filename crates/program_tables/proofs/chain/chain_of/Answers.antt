use Rattle.std.proofs.Common.{◌≡◌, ◌+◌, length, true, false, sym, ap, ◌∙◌}
use Rattle.st_rules.specs.Chains.{is_among}
use Rattle.st_rules.specs.Upward.{base_in}
use Rattle.program_tables.proofs.ChainLaws.{climb_none, climb_back, climb_on}
use Rattle.program_tables.proofs.chain.chain_of.Goals as goal

pub returns-in-None : goal.returns-in-None
returns-in-None c = climb_none (base_in c.args.bases.now) (length c.args.bases.now + 1) c.args.class c.loop-step.held.items c.loop-step.next c.loop-step._step c.loop-step.invariant c.in-None.is

pub returns-then-is_held : goal.returns-then-is_held
returns-then-is_held c =
    let e : is_among c.in-Some.c c.loop-step.held.items ≡ true = ap (is_among c.in-Some.c) (sym c.deref.ensures.value) ∙ sym c.is_held.ensures ∙ c.if-is_held.true in
    climb_back (base_in c.args.bases.now) (length c.args.bases.now + 1) c.args.class c.loop-step.held.items c.loop-step.next c.loop-step._step c.loop-step.invariant c.in-Some.c c.in-Some.is e

pub loop-step-preserved : goal.loop-step-preserved
loop-step-preserved c =
    let e : is_among c.in-Some.c c.loop-step.held.items ≡ false = ap (is_among c.in-Some.c) (sym c.deref.ensures.value) ∙ sym c.is_held.ensures ∙ c.if-is_held.false in
    climb_on (base_in c.args.bases.now) (length c.args.bases.now + 1) c.args.class c.loop-step.held.items c.loop-step.next c.loop-step._step c.loop-step.invariant c.in-Some.c c.push.new.self.items c.base_of-next.result c.in-Some.is e
    c.loop-step-test.true c.in_ok-push.ensures.items c.base_of-next.ensures
