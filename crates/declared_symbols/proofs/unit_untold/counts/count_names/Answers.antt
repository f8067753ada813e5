use Rattle.declared_symbols.proofs.unit_untold.CountLaws.{counts_next, counts_ended}
use Rattle.declared_symbols.proofs.unit_untold.counts.count_names.Goals as goal

pub loop-name-preserved : goal.loop-name-preserved
loop-name-preserved c = counts_next c.args.names.now c.loop-name.name-index c.name-item.result _ _ _ c.loop-name-test.true c.name-item.is c.in_ok-so_far.ensures c.loop-name.invariant

pub returns : goal.returns
returns c = counts_ended c.args.names.now c.loop-name.name-index _ _ c.loop-name-test.false c.loop-name.invariant
