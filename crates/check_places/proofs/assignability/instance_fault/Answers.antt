use Rattle.std.proofs.Common.{ap, ◌∙◌}
use Rattle.plc_text.specs.declared.code.Code.TheVariants.{E08}
use Rattle.st_rules.specs.Places.{Standing, holds_instances_if_told, standing_type}
use Rattle.check_places.proofs.Joins.{tested}
use Rattle.check_places.proofs.assignability.instance_fault.Goals as goal

pub returns : goal.returns
returns c = tested _ _ _ E08 c.args.line c.when.ensures (c.holds.ensures c.args.s.now ∙ ap (λ (b : Standing). holds_instances_if_told c.args.s.now (standing_type b)) c.placed.ensures)
