use Rattle.std.proofs.Common.{ℕ, List, sym, subst, ◌∙◌}
use Rattle.graph_reach.specs.Reach.{AreEdges}
use Rattle.class_tables.proofs.GraphLaws.{are_edges}
use Rattle.class_tables.proofs.graph.lead.Goals as goal

pub find_reached-requires-clause-edges : goal.find_reached-requires-clause-edges
find_reached-requires-clause-edges c = subst (λ (lists : List (List ℕ)). AreEdges lists) (sym (c.deref.ensures.value ∙ c.in_ok-lists.ensures)) (are_edges c.args.rows.now c.requires)
