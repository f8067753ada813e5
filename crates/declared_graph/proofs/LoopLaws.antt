-- Edges that loops add: those that were added, and what is left gives, are the whole.
use Rattle.std.proofs.Common.{◌≡◌, ℕ, suc, ◌+◌, ◌<◌, ◌≤◌, Bool, true, false, List, [], ◌∷◌, ◌++◌, map, length, get_or, drop, sym, ap, ◌∙◌, arith, add-one, append-nil, append_assoc}
use Rattle.std.specs.Prelude.{flat_map, if◌then◌else◌}
use Rattle.std.proofs.lemmas.List.{map-append}
use Rattle.st_rules.proofs.ListLaws.{drop-at, drop-end}
use Rattle.graph_reach.specs.declared.threads.Edge.{Edge}
use Rattle.declared_graph.specs.Private.Edges.{edges_to, edges_from}
use Rattle.declared_graph.specs.Private.Shared.{first_nodes}

-- ---- from one node

pub record NodeEdgesTo {X : Type 0} (gives : X → List ℕ) (from : ℕ) (xs : List X) (start edges : List Edge) (i : ℕ) : Type 0 where
  pub rest : edges ++ edges_to from (flat_map gives (drop i xs)) ≡ start ++ edges_to from (flat_map gives xs)

module _ {X : Type 0} (gives : X → List ℕ) (from : ℕ) (xs : List X) (start : List Edge) where
  pub node_begun : (edges : List Edge) → edges ≡ start → NodeEdgesTo gives from xs start edges 0
  node_begun edges e = record { rest = ap (λ es. es ++ edges_to from (flat_map gives xs)) e }

  pub node_next : (edges more : List Edge) (i : ℕ) (x : X) → i < length xs → x ≡ get_or xs i x → more ≡ edges ++ edges_to from (gives x)
      → NodeEdgesTo gives from xs start edges i → NodeEdgesTo gives from xs start more (i + 1)
  node_next edges more i x l e h t = record {
    rest =
        ap (λ es. es ++ edges_to from (flat_map gives (drop (i + 1) xs))) h
        ∙ append_assoc edges (edges_to from (gives x)) (edges_to from (flat_map gives (drop (i + 1) xs)))
        ∙ ap (λ es. edges ++ es) (sym (map-append _ (gives x) (flat_map gives (drop (i + 1) xs))))
        ∙ ap (λ ys. edges ++ edges_to from (flat_map gives ys)) (sym (drop-at xs i x l e))
        ∙ t.rest;
  }

  pub node_ended : (edges : List Edge) (i : ℕ) → length xs ≤ i → NodeEdgesTo gives from xs start edges i → edges ≡ start ++ edges_to from (flat_map gives xs)
  node_ended edges i l t = sym (append-nil edges) ∙ ap (λ ys. edges ++ edges_to from (flat_map gives ys)) (sym (drop-end xs i l)) ∙ t.rest

-- ---- from each node

pub record EdgesTo {X : Type 0} (gives : X → List ℕ) (xs : List X) (n : ℕ) (start edges : List Edge) (i : ℕ) : Type 0 where
  pub rest : edges ++ edges_from (n + i) (map gives (drop i xs)) ≡ start ++ edges_from n (map gives xs)

module _ {X : Type 0} (gives : X → List ℕ) (xs : List X) (n : ℕ) (start : List Edge) where
  pub all_begun : (edges : List Edge) → edges ≡ start → EdgesTo gives xs n start edges 0
  all_begun edges e = let z : n + 0 ≡ n = omega arith in record { rest = ap (λ es. es ++ edges_from (n + 0) (map gives xs)) e ∙ ap (λ m. start ++ edges_from m (map gives xs)) z }

  pub all_next : (edges more : List Edge) (i m : ℕ) (x : X) → i < length xs → x ≡ get_or xs i x → m ≡ n + i → more ≡ edges ++ edges_to m (gives x)
      → EdgesTo gives xs n start edges i → EdgesTo gives xs n start more (i + 1)
  all_next edges more i m x l e k h t =
      let z : n + (i + 1) ≡ suc (n + i) = omega arith in
      record {
        rest =
            ap (λ es. es ++ edges_from (n + (i + 1)) (map gives (drop (i + 1) xs))) (h ∙ ap (λ j. edges ++ edges_to j (gives x)) k)
            ∙ ap (λ j. (edges ++ edges_to (n + i) (gives x)) ++ edges_from j (map gives (drop (i + 1) xs))) z
            ∙ append_assoc edges (edges_to (n + i) (gives x)) (edges_from (suc (n + i)) (map gives (drop (i + 1) xs)))
            ∙ ap (λ ys. edges ++ edges_from (n + i) (map gives ys)) (sym (drop-at xs i x l e))
            ∙ t.rest;
      }

  pub all_ended : (edges : List Edge) (i : ℕ) → length xs ≤ i → EdgesTo gives xs n start edges i → edges ≡ start ++ edges_from n (map gives xs)
  all_ended edges i l t = sym (append-nil edges) ∙ ap (λ ys. edges ++ edges_from (n + i) (map gives ys)) (sym (drop-end xs i l)) ∙ t.rest

-- edges from node 0 on, where none were before
module _ {X : Type 0} (gives : X → List ℕ) (xs : List X) where
  pub none_begun : (edges : List Edge) → edges ≡ [] → EdgesTo gives xs 0 [] edges 0
  none_begun edges e = all_begun gives xs 0 [] edges e

  pub none_next : (edges more : List Edge) (i : ℕ) (x : X) → i < length xs → x ≡ get_or xs i x → more ≡ edges ++ edges_to i (gives x)
      → EdgesTo gives xs 0 [] edges i → EdgesTo gives xs 0 [] more (i + 1)
  none_next edges more i x l e h t = let z : i ≡ 0 + i = omega arith in all_next gives xs 0 [] edges more i i x l e z h t

  pub none_ended : (edges : List Edge) (i : ℕ) → length xs ≤ i → EdgesTo gives xs 0 [] edges i → edges ≡ edges_from 0 (map gives xs)
  none_ended edges i l t = all_ended gives xs 0 [] edges i l t

-- ---- the first of those that share

pub record FirstsTo (flags : List Bool) (hubs : List ℕ) (h i : ℕ) : Type 0 where
  pub rest : hubs ++ first_nodes h i (drop i flags) ≡ first_nodes 0 0 flags
  pub small : h ≤ i

module _ (flags : List Bool) where
  pub firsts_begun : (hubs : List ℕ) → hubs ≡ [] → FirstsTo flags hubs 0 0
  firsts_begun hubs e = record { rest = ap (λ hs. hs ++ first_nodes 0 0 flags) e; small = omega arith }

  pub firsts_next : (hubs more : List ℕ) (h i h' : ℕ) (b : Bool) → i < length flags → b ≡ get_or flags i b → h' ≡ (if b then i else h) → more ≡ hubs ++ h' ∷ []
      → FirstsTo flags hubs h i → FirstsTo flags more h' (i + 1)
  firsts_next hubs more h i h' b l e k m t = record {
    rest =
        ap (λ hs. hs ++ first_nodes h' (i + 1) (drop (i + 1) flags)) m
        ∙ append_assoc hubs (h' ∷ []) (first_nodes h' (i + 1) (drop (i + 1) flags))
        ∙ ap (λ j. hubs ++ h' ∷ first_nodes h' j (drop (i + 1) flags)) (add-one i)
        ∙ ap (λ j. hubs ++ j ∷ first_nodes j (suc i) (drop (i + 1) flags)) k
        ∙ ap (λ bs. hubs ++ first_nodes h i bs) (sym (drop-at flags i b l e))
        ∙ t.rest;
    small = small b h' k;
  }
    where
      small : (b : Bool) (h' : ℕ) → h' ≡ (if b then i else h) → h' ≤ i + 1
      small true h' k = omega arith
      small false h' k = let s = t.small in omega arith

  pub firsts_ended : (hubs : List ℕ) (h i : ℕ) → length flags ≤ i → FirstsTo flags hubs h i → hubs ≡ first_nodes 0 0 flags
  firsts_ended hubs h i l t = sym (append-nil hubs) ∙ ap (λ bs. hubs ++ first_nodes h i bs) (sym (drop-end flags i l)) ∙ t.rest
