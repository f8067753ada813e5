use Rattle.std.proofs.Common.{sym, ◌∙◌}
use Rattle.st_tree.specs.Expression.{arguments_of, place_of}
use Rattle.codegen_tables.specs.Context.{plan_in}
use Rattle.codegen_tops.proofs.ArmLaws.{call_goes, conversion_same}
use Rattle.codegen_tops.proofs.statements.call_top.Goals as goal

pub returns-then-is_conversion : goal.returns-then-is_conversion
returns-then-is_conversion c =
    conversion_same (plan_in c.args.c.now) c.args.free c.args.free (place_of c.args.place.now).0 (place_of c.args.place.now).1 (arguments_of c.args.arguments.now) c.in_ok-call.call c.in_ok-call.ensures c.operand_top.result (sym c.is_conversion.ensures ∙ c.if-is_conversion.true) c.operand_top.ensures

pub returns : goal.returns
returns c =
    call_goes (plan_in c.args.c.now) c.args.free c.args.free (place_of c.args.place.now).0 (place_of c.args.place.now).1 (arguments_of c.args.arguments.now) c.in_ok-call.call c.in_ok-call.ensures _ _ _ _ _ c.max-3.result (sym c.is_conversion.ensures ∙ c.if-is_conversion.false)
    c.in_ok-way.ensures c.in_ok-given.ensures c.in_ok-left.ensures c.max.ensures c.max-2.ensures c.max-3.ensures
