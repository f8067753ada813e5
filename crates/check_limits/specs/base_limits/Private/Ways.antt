-- A step along an edge.
use Rattle.std.specs.Prelude.{ℕ, nat_eq, Bool, not, ◌&&◌, List}
use Rattle.graph_reach.specs.declared.threads.Edge.{Edge}
use Rattle.graph_cycles.specs.Graph.{marked}

-- a marked node that lies on no cycle
abbrev pub goes_on : List Bool → List Bool → ℕ → Bool
goes_on marks cycles k = not (marked cycles k) && marked marks k

-- the edge leads from the node to one that passes
abbrev pub leads_on : (ℕ → Bool) → ℕ → Edge → Bool
leads_on test i e = nat_eq e.from i && test e.to
