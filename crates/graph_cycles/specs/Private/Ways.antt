-- Ways along the edges of a graph, and what marks say of them.
use Rattle.std.specs.Prelude.{◌≡◌, ℕ, ◌+◌, Bool, true, false, List, [], ◌∷◌}
use Rattle.graph_reach.specs.declared.threads.Edge.{Edge}
use Rattle.graph_cycles.specs.Graph.{HasEdge, marked}

-- a way of one edge or more
pub data Way (edges : List Edge) : ℕ → ℕ → Type 0 where
  along : (i j : ℕ) → HasEdge edges i j → Way edges i j
  onward : (i j k : ℕ) → HasEdge edges i j → Way edges j k → Way edges i k

-- a node leads to itself
abbrev pub IsTurning : List Edge → ℕ → Type 0
IsTurning edges i = Way edges i i

abbrev pub mark_count : List Bool → ℕ
mark_count [] = 0
mark_count (true ∷ ms) = 1 + mark_count ms
mark_count (false ∷ ms) = mark_count ms

-- what is marked, the root leads to
pub record Sound (edges : List Edge) (root : ℕ) (marks : List Bool) : Type 0 where
  pub leads : (i : ℕ) → marked marks i ≡ true → Way edges root i

-- an edge from the root or from what is marked leads to what is marked
pub record IsClosedAt (root : ℕ) (marks : List Bool) (e : Edge) : Type 0 where
  pub root_marked : e.from ≡ root → marked marks e.to ≡ true
  pub marked_marked : marked marks e.from ≡ true → marked marks e.to ≡ true

-- a node is one of the goals, or leads to one
pub data Ends (edges : List Edge) (goals : List Bool) : ℕ → Type 0 where
  here : (i : ℕ) → marked goals i ≡ true → Ends edges goals i
  further : (i j : ℕ) → HasEdge edges i j → Ends edges goals j → Ends edges goals i

pub record AllEnd (edges : List Edge) (goals marks : List Bool) : Type 0 where
  pub ends : (i : ℕ) → marked marks i ≡ true → Ends edges goals i

pub record IsClosedBack (marks : List Bool) (e : Edge) : Type 0 where
  pub back : marked marks e.to ≡ true → marked marks e.from ≡ true
