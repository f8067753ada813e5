use Rattle.std.proofs.Common.{sym, ◌∙◌}
use Rattle.std.proofs.lemmas.Result.{on_ok_weaker}
use Rattle.st_tree.specs.Expression.{arguments_of, place_of}
use Rattle.codegen_tables.specs.Context.{plan_in}
use Rattle.codegen_body.proofs.EffectLaws.{call_goes, conversion_goes}
use Rattle.codegen_body.proofs.assignments.emit_call.Goals as goal

pub returns-then-is_conversion : goal.returns-then-is_conversion
returns-then-is_conversion c =
    on_ok_weaker c.emit_dropped.result (λ h. conversion_goes (plan_in c.args.c.now) c.args.line c.args.free (place_of c.args.place.now).0 (place_of c.args.place.now).1 (arguments_of c.args.arguments.now) c.in_ok-call.call c.in_ok-call.ensures c.args.cells.now.items _
    (sym c.is_conversion.ensures ∙ c.if-is_conversion.true) h) c.emit_dropped.ensures

pub returns : goal.returns
returns c =
    on_ok_weaker c.emit_called.result (λ h. call_goes (plan_in c.args.c.now) c.args.line c.args.free (place_of c.args.place.now).0 (place_of c.args.place.now).1 (arguments_of c.args.arguments.now) c.in_ok-call.call c.in_ok-call.ensures c.args.cells.now.items _
    (sym c.is_conversion.ensures ∙ c.if-is_conversion.false) h) c.emit_called.ensures
