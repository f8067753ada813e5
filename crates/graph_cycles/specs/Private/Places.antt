-- What a hint has to say of a graph's groups.
use Rattle.std.specs.Prelude.{◌≡◌, ℕ, ◌+◌, ◌&&◌, ◌||◌, nat_eq, nat_lt, Bool, true, false, List, [], ◌∷◌, Option, Some, None}
use Rattle.std.specs.List.{slice_get, list_all}
use Rattle.graph_reach.specs.declared.threads.Edge.{Edge}
use Rattle.graph_cycles.specs.declared.places.Node.{Node}

abbrev pub falls_by : Option Node → Option Node → Bool
falls_by None q = false
falls_by (Some p) None = false
falls_by (Some p) (Some q) = nat_lt q.group p.group || nat_eq q.group p.group && nat_eq q.root p.root

abbrev pub falls : List Node → Edge → Bool
falls places e = falls_by (slice_get places e.from) (slice_get places e.to)

abbrev pub stays_by : Option Node → Option Node → Bool
stays_by None q = false
stays_by (Some p) None = false
stays_by (Some p) (Some q) = nat_eq q.root p.root

abbrev pub stays : List Node → Edge → Bool
stays places e = stays_by (slice_get places e.from) (slice_get places e.to)

abbrev pub stays_from : List Node → ℕ → Edge → Bool
stays_from places i e = stays places e && nat_eq e.from i

abbrev pub ahead_place : Edge → ℕ → Node → Option Node → Bool
ahead_place e i p None = false
ahead_place e i p (Some q) = nat_eq e.from i && nat_eq q.root p.root && nat_lt q.ahead_steps p.ahead_steps

abbrev pub ahead_edge : List Node → ℕ → Node → Option Edge → Bool
ahead_edge places i p None = false
ahead_edge places i p (Some e) = ahead_place e i p (slice_get places e.to)

abbrev pub ahead : List Edge → List Node → ℕ → Node → Bool
ahead edges places i p = ahead_edge places i p (slice_get edges p.ahead)

abbrev pub behind_place : Edge → ℕ → Node → Option Node → Bool
behind_place e i p None = false
behind_place e i p (Some q) = nat_eq e.to i && nat_eq q.root p.root && nat_lt q.behind_steps p.behind_steps

abbrev pub behind_edge : List Node → ℕ → Node → Option Edge → Bool
behind_edge places i p None = false
behind_edge places i p (Some e) = behind_place e i p (slice_get places e.from)

abbrev pub behind : List Edge → List Node → ℕ → Node → Bool
behind edges places i p = behind_edge places i p (slice_get edges p.behind)

abbrev pub rooted : List Edge → List Node → ℕ → Node → Bool
rooted edges places i p = nat_eq i p.root || ahead edges places i p && behind edges places i p

abbrev pub all_rooted : List Edge → List Node → ℕ → List Node → Bool
all_rooted edges places i [] = true
all_rooted edges places i (p ∷ ps) = rooted edges places i p && all_rooted edges places (i + 1) ps

pub record AreRight (edges : List Edge) (places : List Node) : Type 0 where
  pub falling : list_all (falls places) edges ≡ true
  pub rooting : all_rooted edges places 0 places ≡ true
