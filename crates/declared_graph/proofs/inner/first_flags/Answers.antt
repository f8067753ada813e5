use Rattle.std.proofs.Common.{refl}
use Rattle.st_rules.proofs.ListLaws.{mapped_next, mapped_end}
use Rattle.declared_graph.specs.Private.Inner.{is_first_name}
use Rattle.declared_graph.proofs.inner.first_flags.Goals as goal

pub loop-name-preserved : goal.loop-name-preserved
loop-name-preserved c =
    mapped_next is_first_name c.args.names.now c.loop-name.name-index c.name-item.result c.loop-name.flags.items _ _ _ c.loop-name-test.true c.name-item.is c.in_ok-push.ensures.items refl c.loop-name.invariant

pub returns : goal.returns
returns c = mapped_end is_first_name c.args.names.now c.loop-name.name-index c.loop-name.flags.items _ c.loop-name-test.false c.loop-name.invariant
