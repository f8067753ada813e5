-- Nodes that share what they lead to with the node before them.
use Rattle.std.specs.Prelude.{◌≡◌, ℕ, suc, ◌+◌, ◌<◌, Bool, true, false, if◌then◌else◌, List, [], ◌∷◌, map, length, Option, Some, None}
use Rattle.st_rules.specs.Chains.{is_among}
use Rattle.st_unit_rules.specs.declared_names.Declarations.{Declaration, a_global}
use Rattle.declared_graph.specs.Private.Edges.{out_at}

-- a node, or the last one before it that is the first of those that share; the node has number i, and h is that of the one before
abbrev pub first_nodes : ℕ → ℕ → List Bool → List ℕ
first_nodes h i [] = []
first_nodes h i (b ∷ bs) = (if b then i else h) ∷ first_nodes (if b then i else h) (suc i) bs

abbrev pub hub_of : ℕ → ℕ → List ℕ
hub_of count h = (count + h) ∷ []

-- each node leads to its hub alone
abbrev pub hub_outs : List Bool → List (List ℕ)
hub_outs flags = map (hub_of (length flags)) (first_nodes 0 0 flags)

-- a node that is the first of those that share has what is told of it, any other has what the one before it has
abbrev pub Shares : Option (List ℕ) → List Bool → List (List ℕ) → List (List ℕ) → Type 0
Shares before [] [] [] = Unit {0}
Shares before (true ∷ bs) (o ∷ os) (g ∷ gs) = (o ≡ g) × Shares (Some g) bs os gs
Shares before (false ∷ bs) (o ∷ os) (g ∷ gs) = (before ≡ Some g) × Shares (Some g) bs os gs
Shares _ _ _ _ = ⊥

-- all nodes lead to nodes
pub record AreBelow (count : ℕ) (gives : List (List ℕ)) : Type 0 where
  pub below : (i k : ℕ) → is_among k (out_at gives i) ≡ true → k < count

-- what the nodes share, where each leads to nodes
pub record IsShared (flags : List Bool) (outs gives : List (List ℕ)) : Type 0 where
  pub shares : Shares None flags outs gives
  pub below : AreBelow (length flags) gives

-- what hubs lead to, of which there are as many as nodes
pub record AreHubs (flags : List Bool) (outs : List (List ℕ)) : Type 0 where
  pub as_many : length outs ≡ length flags
  pub below : AreBelow (length flags) outs

abbrev pub is_first : Declaration → Bool
is_first (a_global g) = g.first
is_first _ = true
