use Rattle.std.proofs.Common.{refl}
use Rattle.check_signatures.proofs.unit_signatures.StructureLaws.{adds_no_entry, entries_next, entries_ended}
use Rattle.check_signatures.proofs.unit_signatures.structures.add_entries.Goals as goal

pub loop-declared-init : goal.loop-declared-init
loop-declared-init c = adds_no_entry _ _ _ refl

pub loop-declared-preserved : goal.loop-declared-preserved
loop-declared-preserved c = entries_next _ c.args.entries.now c.loop-declared.declared-index c.declared-item.result _ _ _ _ c.loop-declared-test.true c.declared-item.is c.loop-declared.invariant c.in_ok-one.ensures c.in_ok-push.ensures.items

pub returns : goal.returns
returns c = entries_ended _ c.args.entries.now c.loop-declared.declared-index _ _ c.loop-declared-test.false c.loop-declared.invariant
