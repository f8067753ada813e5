use Rattle.std.proofs.Common.{sym, ap, ◌∙◌}
use Rattle.st_tree.specs.Expression.{expression_of, place_of, place_of-selectors, selectors_of}
use Rattle.code_rules.specs.Places.{is_large}
use Rattle.code_rules.specs.Code.{is_source, way_is_quiet}
use Rattle.codegen_body.proofs.EffectLaws.{loud}
use Rattle.codegen_body.proofs.assignments.copied_from.Goals as goal

pub returns-then-not-way_is_quiet : goal.returns-then-not-way_is_quiet
returns-then-not-way_is_quiet c =
    loud (is_large c.args.kind.now) (is_source (expression_of c.args.e.now)) (way_is_quiet (place_of c.args.target.now).1)
    (ap way_is_quiet (place_of-selectors c.args.target.now) ∙ ap (λ xs. way_is_quiet (selectors_of xs)) (sym c.as_slice.ensures) ∙ sym c.way_is_quiet.ensures ∙ c.if-not-way_is_quiet.true)
