use Rattle.std.proofs.Common.{sym, ◌∙◌}
use Rattle.change_kept.proofs.FieldLaws.{anew_found, fresh_found, fresh_next}
use Rattle.change_kept.proofs.fresh.+fresh.Goals as goal

pub a_field_is_fresh-returns-then-is_anew : goal.a_field_is_fresh-returns-then-is_anew
a_field_is_fresh-returns-then-is_anew t c =
    anew_found c.args.fields.now c.loop-field.field-index c.field-item.result c.loop-field-test.true c.field-item.is c.loop-field.invariant (sym c.is_anew.ensures ∙ c.if-is_anew.true)

pub a_field_is_fresh-returns-then-has_fresh : goal.a_field_is_fresh-returns-then-has_fresh
a_field_is_fresh-returns-then-has_fresh t c =
    fresh_found c.args.fields.now c.loop-field.field-index c.field-item.result c.loop-field-test.true c.field-item.is c.loop-field.invariant (sym c.has_fresh.ensures ∙ c.if-has_fresh.true)

pub a_field_is_fresh-loop-field-preserved : goal.a_field_is_fresh-loop-field-preserved
a_field_is_fresh-loop-field-preserved t c =
    fresh_next c.args.fields.now c.loop-field.field-index c.field-item.result c.loop-field-test.true c.field-item.is c.loop-field.invariant (sym c.is_anew.ensures ∙ c.if-is_anew.false)
    (sym c.has_fresh.ensures ∙ c.if-has_fresh.false)
