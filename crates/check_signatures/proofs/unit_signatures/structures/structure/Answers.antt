use Rattle.std.proofs.Common.{refl}
use Rattle.check_signatures.proofs.unit_signatures.StructureLaws.{no_groups, groups_next, groups_ended}
use Rattle.check_signatures.proofs.unit_signatures.structures.structure.Goals as goal

pub loop-declared-preserved : goal.loop-declared-preserved
loop-declared-preserved c = groups_next _ c.args.groups.now c.loop-declared.declared-index c.declared-item.result _ _ _ c.loop-declared-test.true c.declared-item.is c.loop-declared.invariant c.in_ok-one.ensures c.in_ok-push.ensures.items

pub returns : goal.returns
returns c = groups_ended _ c.args.groups.now c.loop-declared.declared-index _ c.loop-declared-test.false c.loop-declared.invariant
