use Rattle.std.proofs.Common.{◌↔◌, reverse, IsTrue, sym, subst, ◌∙◌}
use Rattle.stack_code.specs.valid_code.Private.Checks.{IsFineFlow}
use Rattle.stack_code.proofs.valid_code.SplitLaws.{when_ok}
use Rattle.stack_code.proofs.valid_code.rules.is_fine.Goals as goal

pub returns-in-Next-clause-fine : goal.returns-in-Next-clause-fine
returns-in-Next-clause-fine c =
    when_ok c.leads_on.result c.leads_on.ensures (λ b e. subst (λ f. IsTrue b ↔ IsFineFlow c.args.code.now c.args.routine.now c.args.at c.args.op (reverse c.args.kinds.now) f) (sym c.in-Next.is ∙ c.flow_of.ensures) e)

pub returns-in-Jump-clause-fine : goal.returns-in-Jump-clause-fine
returns-in-Jump-clause-fine c =
    when_ok c.is_jump.result c.is_jump.ensures (λ b e. subst (λ f. IsTrue b ↔ IsFineFlow c.args.code.now c.args.routine.now c.args.at c.args.op (reverse c.args.kinds.now) f) (sym c.in-Jump.is ∙ c.flow_of.ensures) e)

pub returns-in-Branch-clause-fine : goal.returns-in-Branch-clause-fine
returns-in-Branch-clause-fine c =
    when_ok c.is_branch.result c.is_branch.ensures (λ b e. subst (λ f. IsTrue b ↔ IsFineFlow c.args.code.now c.args.routine.now c.args.at c.args.op (reverse c.args.kinds.now) f) (sym c.in-Branch.is ∙ c.flow_of.ensures) e)

pub returns-in-Routine-clause-fine : goal.returns-in-Routine-clause-fine
returns-in-Routine-clause-fine c =
    when_ok c.is_routine_call.result c.is_routine_call.ensures (λ b e. subst (λ f. IsTrue b ↔ IsFineFlow c.args.code.now c.args.routine.now c.args.at c.args.op (reverse c.args.kinds.now) f) (sym c.in-Routine.is ∙ c.flow_of.ensures) e)

pub returns-in-Method-clause-fine : goal.returns-in-Method-clause-fine
returns-in-Method-clause-fine c =
    when_ok c.is_method_call.result c.is_method_call.ensures.fine (λ b e. subst (λ f. IsTrue b ↔ IsFineFlow c.args.code.now c.args.routine.now c.args.at c.args.op (reverse c.args.kinds.now) f) (sym c.in-Method.is ∙ c.flow_of.ensures) e)

pub returns-in-Interface-clause-fine : goal.returns-in-Interface-clause-fine
returns-in-Interface-clause-fine c =
    when_ok c.is_interface_call.result c.is_interface_call.ensures (λ b e. subst (λ f. IsTrue b ↔ IsFineFlow c.args.code.now c.args.routine.now c.args.at c.args.op (reverse c.args.kinds.now) f) (sym c.in-Interface.is ∙ c.flow_of.ensures) e)
