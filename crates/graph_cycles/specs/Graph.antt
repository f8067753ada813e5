-- Graphs of numbered nodes as lists of their edges, and what lies on a cycle or leads to one.
use Rattle.std.specs.Prelude.{◌≡◌, ℕ, ◌<◌, Bool, true, false, List, Some}
use Rattle.std.specs.Bool.{Decides}
use Rattle.std.specs.List.{slice_get}
use Rattle.std.specs.Option.{unwrap_or}
use Rattle.st_rules.specs.Chains.{is_among, Leads}
use Rattle.graph_reach.specs.declared.threads.Edge.{Edge}

-- an edge of the list leads from i to j
pub record HasEdge (edges : List Edge) (i j : ℕ) : Type 0 where
  pub at : ℕ
  pub is : slice_get edges at ≡ Some (record { from = i; to = j })

-- the edges of the list are those that `ahead` tells
pub record AreEdgesOf (edges : List Edge) (ahead : ℕ → List ℕ) : Type 0 where
  pub told : (i j : ℕ) → Decides (is_among j (ahead i)) (HasEdge edges i j)

-- edges lead from nodes to nodes, of which there are so many
pub record AreWithin (count : ℕ) (edges : List Edge) : Type 0 where
  pub within : (k : ℕ) (e : Edge) → slice_get edges k ≡ Some e → (e.from < count) × (e.to < count)

-- a node lies on a cycle where an edge from it begins a way back to it
pub record LiesOnCycle (ahead : ℕ → List ℕ) (i : ℕ) : Type 0 where
  pub next : ℕ
  pub edge : is_among next (ahead i) ≡ true
  pub back : Leads ahead next i

-- a node lies on a cycle, or leads to one that does
pub record LeadsToCycle (ahead : ℕ → List ℕ) (i : ℕ) : Type 0 where
  pub turning : ℕ
  pub way : Leads ahead i turning
  pub cycle : LiesOnCycle ahead turning

-- whether the node is marked
abbrev pub marked : List Bool → ℕ → Bool
marked marks i = unwrap_or (slice_get marks i) false

-- a node is marked, or leads to one that is
pub record LeadsToMarked (ahead : ℕ → List ℕ) (marks : List Bool) (i : ℕ) : Type 0 where
  pub goal : ℕ
  pub way : Leads ahead i goal
  pub is : marked marks goal ≡ true
