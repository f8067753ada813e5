use Rattle.std.proofs.Common.{refl}
use Rattle.st_rules.proofs.ListLaws.{mapped_next, mapped_end}
use Rattle.declared_graph.specs.Private.Needed.{is_first_of}
use Rattle.declared_graph.proofs.needed.first_flags.Goals as goal

pub loop-item-preserved : goal.loop-item-preserved
loop-item-preserved c =
    mapped_next is_first_of c.args.list.now c.loop-item.item-index c.item-item.result c.loop-item.flags.items _ _ _ c.loop-item-test.true c.item-item.is c.in_ok-push.ensures.items c.is_first.ensures c.loop-item.invariant

pub returns : goal.returns
returns c = mapped_end is_first_of c.args.list.now c.loop-item.item-index c.loop-item.flags.items _ c.loop-item-test.false c.loop-item.invariant
