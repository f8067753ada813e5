use Rattle.std.proofs.Common.{ap, ◌∙◌, sym}
use Rattle.call_steps.specs.Callee.{callee_seen}
use Rattle.code_rules.specs.Code.{call_op}
use Rattle.codegen_tables.specs.Context.{plan_in}
use Rattle.codegen_tables.proofs.context.call_op.Goals as goal

pub returns-in-Method : goal.returns-in-Method
returns-in-Method c = c.method_op.ensures c.args.whole.now ∙ ap (λ k. call_op (plan_in c.args.c.now) (callee_seen k) c.args.kind.now c.args.whole.now) (sym c.in-Method.is)

pub returns-in-Body : goal.returns-in-Body
returns-in-Body c = c.body_op.ensures c.args.kind.now ∙ ap (λ k. call_op (plan_in c.args.c.now) (callee_seen k) c.args.kind.now c.args.whole.now) (sym c.in-Body.is)
