-- Graphs as the list of what each node leads to, and their edges.
use Rattle.std.specs.Prelude.{ℕ, suc, List, [], ◌∷◌, ◌++◌, map, Option, Some, None, slice_get}
use Rattle.std.specs.Option.{unwrap_or}
use Rattle.graph_reach.specs.declared.threads.Edge.{Edge}

abbrev pub edge : ℕ → ℕ → Edge
edge i j = record { from = i; to = j }

abbrev pub edges_to : ℕ → List ℕ → List Edge
edges_to i js = map (edge i) js

-- the edges of all nodes, the first of which has number n
abbrev pub edges_from : ℕ → List (List ℕ) → List Edge
edges_from n [] = []
edges_from n (out ∷ outs) = edges_to n out ++ edges_from (suc n) outs

-- what a node leads to
unfoldable pub out_at : List (List ℕ) → ℕ → List ℕ
out_at outs i = unwrap_or (slice_get outs i) []

-- the nodes that may be there
abbrev pub told : Option ℕ → List ℕ
told None = []
told (Some i) = i ∷ []
