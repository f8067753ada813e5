use Rattle.std.specs.Prelude.{None}
use Rattle.std.proofs.lemmas.Result.{on_ok_weaker}
use Rattle.st_tree.specs.Expression.{arguments_of, place_of}
use Rattle.codegen_tables.specs.Context.{plan_in}
use Rattle.codegen_expr.proofs.CallLaws.{called_goes}
use Rattle.codegen_expr.proofs.walk.emit_called.Goals as goal

pub returns : goal.returns
returns c =
    on_ok_weaker c.emit_outputs.result (λ h. called_goes (plan_in c.args.c.now) c.args.line c.args.call.now None c.args.free (place_of c.args.place.now).0 (place_of c.args.place.now).1 (arguments_of c.args.arguments.now) c.args.cells.now.items _ _ _ _ _
    c.in_ok-emit_target.ensures c.in_ok-emit_own.ensures c.in_ok-emit_given.ensures c.in_ok-emit_entry.ensures h) c.emit_outputs.ensures
