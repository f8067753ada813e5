use Rattle.std.specs.Prelude.{◌&&◌}
use Rattle.st_tree.specs.Expression.{expression_of, place_of}
use Rattle.code_rules.specs.Places.{is_large}
use Rattle.code_rules.specs.Code.{is_source, way_is_quiet}
use Rattle.codegen_tables.specs.Context.{plan_in}
use Rattle.codegen_tops.proofs.ArmLaws.{copied_arm, kept_arm}
use Rattle.codegen_tops.proofs.statements.assigned_top.Goals as goal

pub returns-in_ok-second-in-Some : goal.returns-in_ok-second-in-Some
returns-in_ok-second-in-Some c =
    copied_arm (plan_in c.args.c.now) c.args.free (place_of c.args.target.now).1 (expression_of c.args.e.now) (is_large c.args.kind.now && (is_source (expression_of c.args.e.now) && way_is_quiet (place_of c.args.target.now).1))
    _ _ c.max.result c.in-Some.ensures.0 c.in_ok-first-in-Some.ensures c.in_ok-second-in-Some.ensures c.max.ensures

pub returns-in_ok-second-in-None : goal.returns-in_ok-second-in-None
returns-in_ok-second-in-None c =
    kept_arm (plan_in c.args.c.now) c.args.free (place_of c.args.target.now).1 (expression_of c.args.e.now) (is_large c.args.kind.now && (is_source (expression_of c.args.e.now) && way_is_quiet (place_of c.args.target.now).1))
    _ _ c.max-in-None.result c.room_of.result _ c.expression_note.result.now c.in-None.ensures c.expression_note.ensures c.room_of.ensures c.in_ok-behind-in-None.ensures c.in_ok-first-in-None.ensures c.in_ok-second-in-None.ensures c.max-in-None.ensures
