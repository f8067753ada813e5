-- The edges between interfaces, and what they tell of heights.
use Rattle.std.proofs.Common.{◌≡◌, ℕ, zero, suc, ◌+◌, Bool, true, List, [], ◌∷◌, ◌++◌, Option, Some, None, map, refl, sym, ap, ◌∙◌, arith, length, subst, append-nil, append_assoc}
use Rattle.std.specs.Prelude.{option_map, slice_get}
use Rattle.std.specs.List.{cons_option}
use Rattle.std.specs.Option.{unwrap_or}
use Rattle.st_tree.specs.declared.declaration.InterfaceDecl.{InterfaceDecl}
use Rattle.st_tree.specs.declared.name.Used.{Used}
use Rattle.st_rules.specs.Chains.{is_among}
use Rattle.st_rules.specs.Interfaces.{interface_named, interfaces_named, extended}
use Rattle.st_rules.proofs.InterfaceLaws.{extended_within}
use Rattle.st_unit_rules.specs.Limits.{most_steps, has_way}
use Rattle.graph_reach.specs.declared.threads.Edge.{Edge}
use Rattle.graph_cycles.specs.Graph.{AreEdgesOf, AreWithin, marked}
use Rattle.declared_graph.specs.Private.Edges.{edge, edges_to, edges_from, out_at}
use Rattle.declared_graph.proofs.EdgeLaws.{are_edges, are_within, edges_of_same}

-- ---- the edges, as they are added

module _ (all : List (InterfaceDecl ℕ)) (from : ℕ) where
  -- those that were added, and those of what is left, are all
  pub record Bases (start : List Edge) (bases left : List (Used ℕ)) (edges : List Edge) : Type 0 where
    pub rest : edges ++ edges_to from (interfaces_named all left) ≡ start ++ edges_to from (interfaces_named all bases)

  module _ (start : List Edge) (bases left : List (Used ℕ)) (b : Used ℕ) (bs : List (Used ℕ)) (edges : List Edge) (s : left ≡ b ∷ bs) (t : Bases start bases left edges) where
    split : (o : Option ℕ) → interface_named all b.text ≡ o → edges ++ edges_to from (cons_option o (interfaces_named all bs)) ≡ start ++ edges_to from (interfaces_named all bases)
    split o e = ap (λ (p : Option ℕ). edges ++ edges_to from (cons_option p (interfaces_named all bs))) (sym e) ∙ ap (λ xs. edges ++ edges_to from (interfaces_named all xs)) (sym s) ∙ t.rest

    pub base_found : (k : ℕ) (more : List Edge) → interface_named all b.text ≡ Some k → more ≡ edges ++ edge from k ∷ [] → Bases start bases bs more
    base_found k more e h = record { rest = ap (λ es. es ++ edges_to from (interfaces_named all bs)) h ∙ append_assoc edges (edge from k ∷ []) (edges_to from (interfaces_named all bs)) ∙ split (Some k) e }

    pub base_lost : interface_named all b.text ≡ None → Bases start bases bs edges
    base_lost e = record { rest = split None e }

  pub bases_ended : (start : List Edge) (bases left : List (Used ℕ)) (edges : List Edge) → left ≡ [] → Bases start bases left edges → edges ≡ start ++ edges_to from (interfaces_named all bases)
  bases_ended start bases left edges s t = sym (append-nil edges) ∙ ap (λ xs. edges ++ edges_to from (interfaces_named all xs)) (sym s) ∙ t.rest

pub none_left : {X : Type 0} (xs : List X) → length xs ≡ 0 → xs ≡ []
none_left [] e = refl
none_left (x ∷ xs) e = absurd (omega arith)

-- what an interface extends, among all
abbrev pub bases_named : List (InterfaceDecl ℕ) → InterfaceDecl ℕ → List ℕ
bases_named all interface = interfaces_named all interface.bases

module _ (all interfaces : List (InterfaceDecl ℕ)) where
  pub record Edges (left : List (InterfaceDecl ℕ)) (number : ℕ) (edges : List Edge) : Type 0 where
    pub rest : edges ++ edges_from number (map (bases_named all) left) ≡ edges_from 0 (map (bases_named all) interfaces)
    pub count : number + length left ≡ length interfaces

  pub edges_begun : Edges interfaces 0 []
  edges_begun = record { rest = refl; count = (let e : 0 + length interfaces ≡ length interfaces = omega arith in e) }

  pub edges_next : (left : List (InterfaceDecl ℕ)) (d : InterfaceDecl ℕ) (ds : List (InterfaceDecl ℕ)) (number next : ℕ) (edges more : List Edge) → left ≡ d ∷ ds → next ≡ suc number → more ≡ edges ++ edges_to number (interfaces_named all d.bases) → Edges left number edges → Edges ds next more
  edges_next left d ds number next edges more s n h t = record {
    rest =
        ap (λ es. es ++ edges_from next (map (bases_named all) ds)) h
        ∙ append_assoc edges (edges_to number (interfaces_named all d.bases)) (edges_from next (map (bases_named all) ds))
        ∙ ap (λ k. edges ++ (edges_to number (interfaces_named all d.bases) ++ edges_from k (map (bases_named all) ds))) n
        ∙ ap (λ xs. edges ++ edges_from number (map (bases_named all) xs)) (sym s)
        ∙ t.rest;
    count = (let l : length left ≡ suc (length ds) = ap length s in let c = t.count in omega (arith, l, c, n));
  }

  pub edges_passed : (left ds : List (InterfaceDecl ℕ)) (number : ℕ) (edges : List Edge) → left ≡ ds → Edges left number edges → Edges ds number edges
  edges_passed left ds number edges s t = subst (λ (xs : List (InterfaceDecl ℕ)). Edges xs number edges) s t

  edges_ended : (left : List (InterfaceDecl ℕ)) (number : ℕ) (edges : List Edge) → left ≡ [] → Edges left number edges → edges ≡ edges_from 0 (map (bases_named all) interfaces)
  edges_ended left number edges s t = sym (append-nil edges) ∙ ap (λ xs. edges ++ edges_from number (map (bases_named all) xs)) (sym s) ∙ t.rest

  count_ended : (left : List (InterfaceDecl ℕ)) (number : ℕ) (edges : List Edge) → left ≡ [] → Edges left number edges → number ≡ length interfaces
  count_ended left number edges s t = let l : length left ≡ 0 = ap length s in let c = t.count in omega (arith, l, c)

-- ---- the graph of all

module _ (all : List (InterfaceDecl ℕ)) where
  above_at : (zs : List (InterfaceDecl ℕ)) (i : ℕ) → out_at (map (bases_named all) zs) i ≡ unwrap_or (option_map (λ d. interfaces_named all d.bases) (slice_get zs i)) []
  unfolding out_at
  above_at [] i = refl
  above_at (z ∷ zs) zero = refl
  above_at (z ∷ zs) (suc i) = above_at zs i

  above_edges : AreEdgesOf (edges_from 0 (map (bases_named all) all)) (extended all)
  above_edges = edges_of_same (edges_from 0 (map (bases_named all) all)) (out_at (map (bases_named all) all)) (extended all) (above_at all) (are_edges (map (bases_named all) all))

  above_within : AreWithin (length all) (edges_from 0 (map (bases_named all) all))
  above_within = are_within (length all) (map (bases_named all) all) (λ i k h. (extended_within all).within i k (subst (λ (xs : List ℕ). is_among k xs ≡ true) (above_at all i) h))

-- when no declaration is left
module _ (all own left : List (InterfaceDecl ℕ)) (number : ℕ) (edges : List Edge) (o : all ≡ own) (s : left ≡ []) (t : Edges all own left number edges) where
  own_edges : Edges own own left number edges
  own_edges = subst (λ (xs : List (InterfaceDecl ℕ)). Edges xs own left number edges) o t

  pub within_told : (es : List Edge) → es ≡ edges → AreWithin number es
  within_told es e =
      subst (λ (k : ℕ). AreWithin k es) (sym (count_ended own own left number edges s own_edges)) (subst (λ (xs : List Edge). AreWithin (length own) xs) (sym (e ∙ edges_ended own own left number edges s own_edges)) (above_within own))

  pub high_told : (es : List Edge) (marks : List Bool) → es ≡ edges → ((ahead : ℕ → List ℕ) → AreEdgesOf es ahead → (i : ℕ) → marked marks i ≡ has_way ahead number (suc most_steps) i)
      → (i : ℕ) → marked marks i ≡ has_way (extended own) (length own) (suc most_steps) i
  high_told es marks e h i =
      h (extended own) (subst (λ (xs : List Edge). AreEdgesOf xs (extended own)) (sym (e ∙ edges_ended own own left number edges s own_edges)) (above_edges own)) i
      ∙ ap (λ n. has_way (extended own) n (suc most_steps) i) (count_ended own own left number edges s own_edges)
