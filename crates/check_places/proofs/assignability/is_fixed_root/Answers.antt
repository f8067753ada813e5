use Rattle.std.proofs.Common.{sym, ◌∙◌}
use Rattle.check_places.proofs.AssignabilityLaws.{fixed_by}
use Rattle.check_places.proofs.assignability.is_fixed_root.Goals as goal

pub returns-then-begins_with_field : goal.returns-then-begins_with_field
returns-then-begins_with_field c = c.is_fixed_before_field.ensures ∙ sym (fixed_by c.args.s.now c.args.root.now _ _ _ _ c.in-Name.is (sym c.begins_with_field.ensures ∙ c.if-begins_with_field.true))

pub returns-else-begins_with_field : goal.returns-else-begins_with_field
returns-else-begins_with_field c = c.is_fixed_name.ensures ∙ sym (fixed_by c.args.s.now c.args.root.now _ _ _ _ c.in-Name.is (sym c.begins_with_field.ensures ∙ c.if-begins_with_field.false))
