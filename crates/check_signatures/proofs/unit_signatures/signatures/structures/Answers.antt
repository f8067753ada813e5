use Rattle.std.proofs.Common.{ap, ◌∙◌}
use Rattle.check_signatures.proofs.unit_signatures.UnitLaws.{unit_weighed}
use Rattle.check_signatures.proofs.unit_signatures.signatures.structures.Goals as goal

pub returns : goal.returns
returns c = unit_weighed c.args.tables.now.decls _ _ _ _ _ _ c.in_ok-s.ensures (c.as_slice-decls.ensures ∙ (λ i. (c.unit.ensures i).decls)) c.in_ok-declared.ensures c.in_ok-list.ensures
