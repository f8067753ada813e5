use Rattle.std.proofs.Common.{ℕ, List, sym, subst, ◌∙◌}
use Rattle.graph_reach.specs.Reach.{AreEdges}
use Rattle.program_tables.proofs.PlaceLaws.{extended_are}
use Rattle.program_tables.proofs.TableLaws.{are_edges}
use Rattle.program_tables.proofs.graph.reach.Goals as goal

pub find_reached-requires-clause-edges : goal.find_reached-requires-clause-edges
find_reached-requires-clause-edges c =
    subst (λ (lists : List (List ℕ)). AreEdges lists) (sym (c.requires.extended ∙ extended_are c.args.places.now c.args.interfaces.now c.requires.table)) (are_edges c.args.interfaces.now)
