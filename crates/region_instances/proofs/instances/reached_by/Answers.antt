use Rattle.std.proofs.Common.{◌∙◌, sym, subst, List, ℕ}
use Rattle.graph_reach.specs.Reach.{AreEdges}
use Rattle.region_instances.proofs.EdgeLaws.{are_edges}
use Rattle.region_instances.proofs.instances.reached_by.Goals as goal

pub find_reached-requires-clause-edges : goal.find_reached-requires-clause-edges
find_reached-requires-clause-edges c =
    subst (λ (lists : List (List ℕ)). AreEdges lists) (sym (c.deref.ensures.value ∙ c.in_ok-lists.ensures)) (are_edges c.args.counts c.args.members.now c.requires.classes c.requires.structures)
