use Rattle.std.proofs.Common.{◌++◌, ap, ◌∙◌}
use Rattle.std.specs.Prelude.{flat_map}
use Rattle.st_unit_rules.specs.Cycles.{types_named, element_names, needed_by_type}
use Rattle.declared_graph.specs.Private.Known.{declared}
use Rattle.declared_graph.specs.Private.Edges.{edges_to}
use Rattle.declared_graph.specs.Private.Needed.{needed_for_lent}
use Rattle.declared_graph.proofs.NeededLaws.{type_needs}
use Rattle.declared_graph.proofs.PlaceLaws.{two_steps}
use Rattle.declared_graph.proofs.needed.add_type.Goals as goal

pub returns : goal.returns
returns c =
    let ds = declared c.args.known.now in
    two_steps c.args.from (types_named ds (element_names c.args.spec.now.element)) (flat_map (needed_for_lent ds) c.in_ok-names.names.items) (needed_by_type ds c.args.spec.now) (type_needs ds c.args.spec.now c.in_ok-names.names.items c.in_ok-names.ensures) c.args.edges.now.items
    c.add_element.new.edges.items c.add_names.new.edges.items c.in_ok-add_element.ensures
    (c.in_ok-add_names.ensures ∙ ap (λ ns. c.add_element.new.edges.items ++ edges_to c.args.from (flat_map (needed_for_lent ds) ns)) c.deref.ensures.value)
