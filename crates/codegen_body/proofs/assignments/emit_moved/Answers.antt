use Rattle.std.specs.Prelude.{◌&&◌}
use Rattle.std.proofs.lemmas.Result.{on_ok_weaker}
use Rattle.st_tree.specs.Expression.{expression_of, place_of}
use Rattle.code_rules.specs.Places.{is_large}
use Rattle.code_rules.specs.Code.{is_source, way_is_quiet}
use Rattle.codegen_tables.specs.Context.{plan_in}
use Rattle.codegen_body.proofs.EffectLaws.{copied_goes, kept_goes}
use Rattle.codegen_body.proofs.assignments.emit_moved.Goals as goal

pub returns-in-Some : goal.returns-in-Some
returns-in-Some c =
    on_ok_weaker c.emit_copied.result (λ h. copied_goes (plan_in c.args.c.now) c.args.line c.args.free c.args.kind.now (place_of c.args.target.now).0 (place_of c.args.target.now).1 (expression_of c.args.e.now)
    (is_large c.args.kind.now && (is_source (expression_of c.args.e.now) && way_is_quiet (place_of c.args.target.now).1)) c.args.cells.now.items _ _ _ c.in-Some.ensures.0 c.in-Some.ensures.1 h) c.emit_copied.ensures

pub returns-in-None : goal.returns-in-None
returns-in-None c =
    on_ok_weaker c.emit_kept.result (λ h. kept_goes (plan_in c.args.c.now) c.args.line c.args.free c.args.kind.now (place_of c.args.target.now).0 (place_of c.args.target.now).1 (expression_of c.args.e.now)
    (is_large c.args.kind.now && (is_source (expression_of c.args.e.now) && way_is_quiet (place_of c.args.target.now).1)) c.args.cells.now.items _ c.in-None.ensures h) c.emit_kept.ensures
