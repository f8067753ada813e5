use Rattle.std.proofs.Common.{sym, ap, ◌∙◌}
use Rattle.change_kept.proofs.FieldLaws.{unmarked_at, unmarked_get}
use Rattle.change_kept.proofs.marks.unmarked_field.Goals as goal

pub returns-in-Some : goal.returns-in-Some
returns-in-Some c = c.is_unmarked.ensures ∙ sym (unmarked_get c.args.fields.now c.args.number ∙ ap unmarked_at (sym c.in-Some.ensures.value))

pub returns-in-None : goal.returns-in-None
returns-in-None c = sym (unmarked_get c.args.fields.now c.args.number ∙ ap unmarked_at (sym c.in-None.ensures.value))
