use Rattle.std.proofs.Common.{◌++◌, ap, ◌∙◌}
use Rattle.std.specs.Prelude.{flat_map}
use Rattle.st_unit_rules.specs.Cycles.{types_named, element_names}
use Rattle.declared_graph.specs.Private.Known.{declared}
use Rattle.declared_graph.specs.Private.Edges.{edges_to}
use Rattle.declared_graph.specs.Private.Needed.{needed_for_lent, needed_by_item}
use Rattle.declared_graph.proofs.NeededLaws.{item_needs}
use Rattle.declared_graph.proofs.PlaceLaws.{two_steps}
use Rattle.declared_graph.proofs.needed.add_item.Goals as goal

pub returns : goal.returns
returns c =
    let ds = declared c.args.known.now in
    two_steps c.args.from (types_named ds (element_names c.args.item.now.kind.element)) (flat_map (needed_for_lent ds) c.in_ok-names.names.items) (needed_by_item ds c.args.item.now) (item_needs ds c.args.item.now c.in_ok-names.names.items c.in_ok-names.ensures) c.args.edges.now.items
    c.add_element.new.edges.items c.add_names.new.edges.items c.in_ok-add_element.ensures
    (c.in_ok-add_names.ensures ∙ ap (λ ns. c.add_element.new.edges.items ++ edges_to c.args.from (flat_map (needed_for_lent ds) ns)) c.deref.ensures.value)
