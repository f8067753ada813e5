use Rattle.std.proofs.Common.{◌∙◌}
use Rattle.declared_graph.proofs.InnerLaws.{table_more, table_ended}
use Rattle.declared_graph.proofs.inner.constants.Goals as goal

pub places-preserved : goal.places-preserved
places-preserved c =
    table_more c.places.table c.put.new.table c.args.names.now c.places.i c.index-names-i.result c.in_ok-key.key c.is_constant.result c.place_if.result c.places-test.true c.index-names-i.is (c.in_ok-key.ensures ∙ c.as_str.ensures)
    c.is_constant.ensures c.place_if.ensures c.in_ok-put.ensures c.places.invariant

pub returns : goal.returns
returns c = table_ended c.places.table c.args.names.now c.places.i c.places-test.false c.places.invariant
