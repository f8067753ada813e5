-- Which classes the nodes of regions lead to.
use Rattle.std.specs.Prelude.{◌≡◌, ℕ, Bool, List, [], Option, map, length, get_or, option_and_then, slice_get}
use Rattle.graph_reach.specs.Bits.{has_bit}
use Rattle.graph_reach.specs.Reach.{AreReached}
use Rattle.st_tree.specs.declared.program.Program.{Program as CheckedProgram}
use Rattle.st_tree.specs.declared.program.RegionDecl.{RegionDecl}
use Rattle.program_tables.specs.declared.st_initial.members.Members.{Members}
use Rattle.program_tables.specs.st_initial.Members.{Holds}
use Rattle.st_values.specs.View.{program_of}
use Rattle.region_instances.specs.declared.held.Counts.{Counts}
use Rattle.region_instances.specs.Private.Held.{node_of}
use Rattle.region_instances.specs.Private.Graph.{lists_of}

abbrev pub region_node : Counts → RegionDecl → Option ℕ
region_node counts r = node_of counts r.kind

abbrev pub leads : List (List ℕ) → ℕ → ℕ → Bool
leads rows node class = has_bit (get_or rows node []) class

abbrev pub node_at : List (Option ℕ) → ℕ → Option ℕ
node_at nodes r = option_and_then (λ n. n) (slice_get nodes r)

-- the rows are those of the program's graph
pub record AreRows (p : CheckedProgram) (counts : Counts) (rows : List (List ℕ)) (nodes : List (Option ℕ)) : Type 0 where
  pub members : Members
  pub holds : Holds (program_of p) members
  pub classes : counts.classes ≡ length members.classes
  pub structures : counts.structures ≡ length members.structures
  pub reached : AreReached (lists_of counts members) counts.classes rows
  pub nodes-are : nodes ≡ map (region_node counts) p.regions
