use Rattle.std.proofs.Common.{◌∙◌}
use Rattle.check_signatures.proofs.unit_signatures.UnitLaws.{all_told}
use Rattle.check_signatures.proofs.unit_signatures.signatures.all_signatures.Goals as goal

pub returns : goal.returns
returns c = all_told c.args.weighed.now _ _ _ _ _ _ _ _ (c.as_slice-decls.ensures ∙ (λ i. (c.unit.ensures i).decls)) c.in_ok-methods.ensures c.in_ok-prototypes.ensures c.in_ok-falsehood.ensures
