use Rattle.change_names.specs.change_pairs.Private.Variables.{comes_from}
use Rattle.change_names.proofs.change_pairs.PlaceLaws.{to_next}
use Rattle.change_names.proofs.change_pairs.places.source_places.Goals as goal

pub loop-i-preserved : goal.loop-i-preserved
loop-i-preserved c = to_next comes_from c.args.all.now c.loop-i.i c.loop-i.table c.put.new.table c.index-all-i.result c.loop-i-test.true c.index-all-i.is c.loop-i.invariant c.in_ok-put.ensures
