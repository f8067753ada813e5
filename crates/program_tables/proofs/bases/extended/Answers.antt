use Rattle.st_rules.proofs.ListLaws.{mapped_next, mapped_end}
use Rattle.program_tables.specs.Private.Bases.{extended_by}
use Rattle.program_tables.proofs.bases.extended.Goals as goal

pub loop-interface-preserved : goal.loop-interface-preserved
loop-interface-preserved c =
    mapped_next (extended_by c.args.places.now) c.args.interfaces.now c.loop-interface.interface-index c.interface-item.result c.loop-interface.all.items _ _ _ c.loop-interface-test.true c.interface-item.is c.in_ok-push.ensures.items (rw c.as_slice.ensures at c.in_ok-numbers.ensures) c.loop-interface.invariant

pub returns : goal.returns
returns c = mapped_end (extended_by c.args.places.now) c.args.interfaces.now c.loop-interface.interface-index c.loop-interface.all.items _ c.loop-interface-test.false c.loop-interface.invariant
