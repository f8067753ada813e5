use Rattle.std.proofs.Common.{arith}
use Rattle.std.proofs.lemmas.Result.{on_ok_weaker}
use Rattle.st_tree.specs.Expression.{expression_of}
use Rattle.stack_code.specs.declared.op.Op.TheVariants as op
use Rattle.code_cells.specs.declared.cell.Cell.TheVariants.{Does as does, ReturnsAt0 as returns_at_0}
use Rattle.code_rules.specs.Code.{value_code}
use Rattle.codegen_tables.specs.Context.{plan_in}
use Rattle.codegen_body.proofs.BackLaws.{more_behind, pushed_more}
use Rattle.codegen_body.proofs.loops.open_repeat.Goals as goal

pub returns-clause-longer : goal.returns-clause-longer
returns-clause-longer c =
    let a = pushed_more c.args.cells.now.items c.push.new.cells.items (returns_at_0 0 c.args.line) c.in_ok-push.ensures in
    let b = more_behind c.push.new.cells.items c.emit_condition.new.cells.items (value_code (plan_in c.args.c.now) c.args.line c.args.free (expression_of c.args.e.now)) c.in_ok-emit_condition.ensures in
    let v = c.args.cells.now.ok.0 in
    let u = c.does.new.cells.ok.0 in
    on_ok_weaker c.does.result (λ h. let d = pushed_more c.emit_condition.new.cells.items c.does.new.cells.items (does op.Tick c.args.line) h in omega (arith, a, b, d, v, u)) c.does.ensures
