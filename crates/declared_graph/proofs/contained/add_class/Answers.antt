use Rattle.std.proofs.Common.{◌++◌, ap, ◌∙◌}
use Rattle.std.specs.Prelude.{flat_map}
use Rattle.st_unit_rules.specs.declared_names.Variables.{sections_written, sections_in}
use Rattle.declared_graph.specs.Private.Known.{declared}
use Rattle.declared_graph.specs.Private.Edges.{edges_to}
use Rattle.declared_graph.specs.Private.Contained.{name_places}
use Rattle.declared_graph.proofs.ContainedLaws.{class_edges}
use Rattle.declared_graph.proofs.contained.add_class.Goals as goal

pub returns : goal.returns
returns c =
    class_edges (declared c.args.known.now) c.args.class.now c.in_ok-names.names.items (c.in_ok-names.ensures.written ∙ ap (λ ms. sections_written (sections_in ms)) c.as_slice.ensures) c.args.from
    c.args.edges.now.items c.add_base.new.edges.items c.add_names.new.edges.items c.in_ok-add_base.ensures
    (c.in_ok-add_names.ensures ∙ ap (λ xs. c.add_base.new.edges.items ++ edges_to c.args.from (flat_map (name_places (declared c.args.known.now)) xs)) c.deref.ensures.value)
