-- What constants of a class or a routine need, and the marks of those that need themselves.
use Rattle.std.proofs.Common.{◌≡◌, ℕ, suc, ◌+◌, ◌-◌, ◌<◌, ◌≤◌, Bool, true, false, List, [], ◌∷◌, ◌++◌, Option, Some, None, map, length, get_or, drop, refl, sym, ap, ◌∙◌, arith, add-one, subst}
use Rattle.std.specs.Prelude.{◌&&◌, flat_map, filter_map, slice_get, cond, option_map, if◌then◌else◌}
use Rattle.std.proofs.lemmas.List.{length-map}
use Rattle.plc_text.specs.declared.code.Code.{Code}
use Rattle.plc_text.specs.declared.code.Code.TheVariants.{E06}
use Rattle.plc_text.specs.Words.{same}
use Rattle.st_tree.specs.declared.declaration.Item.{Item}
use Rattle.st_tree.specs.declared.declaration.Section.{Section}
use Rattle.st_tree.specs.Initial.{initial_of}
use Rattle.st_rules.specs.Faults.{Faults, earlier, least, when}
use Rattle.st_rules.specs.Numbered.{each_numbered}
use Rattle.st_rules.proofs.Booleans.{none≢some, some-same}
use Rattle.st_rules.proofs.FaultLaws.{earlier-assoc, earlier-none, least-append}
use Rattle.st_rules.proofs.ListLaws.{drop-at, drop-end}
use Rattle.st_unit_rules.specs.declared_names.Variables.{Written, sections_written}
use Rattle.st_unit_rules.specs.declared_names.Declarations.{item_line}
use Rattle.st_unit_rules.specs.Cycles.{Named, alone, before_dot, before_hash, named_in_bounds, named_in_value, inner_from, inner_place, inner_for, inner_needed, inner_cycles, lies_on_cycle}
use Rattle.graph_reach.specs.declared.threads.Edge.{Edge}
use Rattle.graph_cycles.specs.Graph.{AreWithin, marked}
use Rattle.st_unit_rules.specs.declared.declaration_list.written.WrittenName.{WrittenName}
use Rattle.st_unit_rules.specs.declaration_list.Written.{global_of, written_of, names_in_sections}
use Rattle.st_unit_rules.proofs.declaration_list.GlobalLaws.{written_by_names}
use Rattle.declared_graph.specs.Private.Edges.{edges_from, out_at, told}
use Rattle.declared_graph.specs.declared.names.Named.{Named as Lent}
use Rattle.declared_graph.specs.Private.Names.{all_named}
use Rattle.declared_graph.specs.Private.Inner.{InnerTable, inner_constant, flat, inner_found, IsPut, IsInnerTable, is_first_name, found_for, found_for_lent, needed_by_item, needed_of, marked_fault, marked_faults, OnCycles}
use Rattle.declared_graph.specs.Private.Shared.{hub_outs, Shares, AreBelow, IsShared}
use Rattle.declared_graph.proofs.BoundLaws.{Below, none_below, named_below, flat_below, if_below, all_below}
use Rattle.declared_graph.proofs.CycleLaws.{cycle_same}
use Rattle.declared_graph.proofs.GraphLaws.{out_is, hub_edges_are}
use Rattle.declared_graph.proofs.HubLaws.{hubs_within}
use Rattle.declared_graph.proofs.NeededLaws.{by_lent}
use Rattle.declared_graph.proofs.PlaceLaws.{told_one}
use Rattle.declared_graph.proofs.SharedLaws.{names_share}

module _ (table : InnerTable) where
  pub item_needs : (item : Item ℕ) (ns : List Lent) → all_named ns ≡ named_in_bounds item.kind ++ named_in_value (option_map initial_of item.initial) → flat_map (found_for_lent table) ns ≡ needed_by_item table item
  item_needs item ns e = by_lent (found_for table) ns ∙ ap (flat_map (found_for table)) e

-- ---- the table

-- so much of the list is left
pub record InnerTo (table : InnerTable) (names : List WrittenName) (i : ℕ) : Type 0 where
  pub within : i ≤ length names
  pub finds : (name : List ℕ) → inner_found table name ≡ inner_from name i (map written_of (drop i names))

put_found : (b : Bool) (v : Option ℕ) (o : Option (Option ℕ)) (rest : Option ℕ) → flat o ≡ rest → flat (cond b (Some v) o) ≡ (if b then v else rest)
put_found true v o rest e = refl
put_found false v o rest e = e

pub table_begun : (table : InnerTable) (names : List WrittenName) → ((name : List ℕ) → inner_found table name ≡ None) → InnerTo table names (length names)
table_begun table names h = record { within = omega arith; finds = λ name. h name ∙ sym (ap (λ ws. inner_from name (length names) (map written_of ws)) (drop-end names (length names) (omega arith))) }

pub table_next : (old new : InnerTable) (names : List WrittenName) (i j : ℕ) (x : WrittenName) → j ≡ i + 1 → i < length names → x ≡ get_or names i x → IsPut old new x.name.now.text (inner_constant (written_of x).constant i)
    → InnerTo old names j → InnerTo new names i
table_next old new names i j x k l e p t = record {
  within = omega arith;
  finds = λ name.
      ap flat (p name)
      ∙ put_found (same x.name.now.text name) (inner_constant (written_of x).constant i) _ _ (t.finds name ∙ ap (λ m. inner_from name m (map written_of (drop m names))) k ∙ ap (λ m. inner_from name m (map written_of (drop (i + 1) names))) (add-one i))
      ∙ ap (λ xs. inner_from name i (map written_of xs)) (sym (drop-at names i x l e));
}

-- the same by what the code has: the key that it copied, and the place that it made
pub table_more : (old new : InnerTable) (names : List WrittenName) (j : ℕ) (x : WrittenName) (key : List ℕ) (b : Bool) (place : Option ℕ) → 0 < j → x ≡ get_or names (j - 1) x → key ≡ x.name.now.text → b ≡ (written_of x).constant
    → place ≡ inner_constant b (j - 1) → IsPut old new key place → InnerTo old names j → InnerTo new names (j - 1)
table_more old new names j x key b place l e k h g p t =
    let w = t.within in
    table_next old new names (j - 1) j x (omega arith) (omega arith) e
    (subst (λ (name : List ℕ). IsPut old new name (inner_constant (written_of x).constant (j - 1))) k (subst (λ (o : Option ℕ). IsPut old new key o) (g ∙ ap (λ c. inner_constant c (j - 1)) h) p)) t

-- ---- places

from_below : (name : List ℕ) (i : ℕ) (ws : List Written) (k : ℕ) → inner_from name i ws ≡ Some k → k < i + length ws
from_below name i [] k e = absurd (none≢some e)
from_below name i (w ∷ ws) k e = of (λ h. from_below name (suc i) ws k h) (same w.name.text name) w.constant e
  where
    of : (inner_from name (suc i) ws ≡ Some k → k < suc i + length ws) → (b c : Bool) → (if b then inner_constant c i else inner_from name (suc i) ws) ≡ Some k → k < i + length (w ∷ ws)
    of r true true h = let s : i ≡ k = some-same h in omega arith
    of r true false h = absurd (none≢some h)
    of r false c h = let l : k < suc i + length ws = r h in omega arith

one_same : (f g : List ℕ → Option ℕ) → ((n : List ℕ) → f n ≡ g n) → (n : List ℕ) → filter_map f (n ∷ []) ≡ filter_map g (n ∷ [])
one_same f g h n = sym (told_one f n) ∙ ap told (h n) ∙ told_one g n

mapped_same : (f g : Named → List ℕ) → ((n : Named) → f n ≡ g n) → (ns : List Named) → flat_map f ns ≡ flat_map g ns
mapped_same f g h [] = refl
mapped_same f g h (n ∷ ns) = ap (λ xs. xs ++ flat_map f ns) (h n) ∙ ap (λ ys. g n ++ ys) (mapped_same f g h ns)

module _ (table : InnerTable) (ws : List Written) (t : IsInnerTable table ws) where
  for_is : (n : Named) → found_for table n ≡ inner_for ws n
  for_is (alone name) = one_same (inner_found table) (inner_place ws) t.finds name
  for_is (before_dot name) = one_same (inner_found table) (inner_place ws) t.finds name
  for_is (before_hash l name) = refl

  item_is : (item : Item ℕ) → needed_by_item table item ≡ flat_map (inner_for ws) (named_in_bounds item.kind ++ named_in_value (option_map initial_of item.initial))
  item_is item = mapped_same (found_for table) (inner_for ws) for_is (named_in_bounds item.kind ++ named_in_value (option_map initial_of item.initial))

  both : (a b : Bool) (xs ys : List ℕ) → xs ≡ ys → (if a && b then xs else []) ≡ (if a then (if b then ys else []) else [])
  both true true xs ys e = e
  both true false xs ys e = refl
  both false b xs ys e = refl

  needed_is : (w : WrittenName) → needed_of table w ≡ (if w.first then inner_needed ws (Some (written_of w)) else [])
  needed_is w = both w.first (written_of w).constant (needed_by_item table w.item.now) _ (item_is w.item.now)

  pub needed_are : (xs : List WrittenName) → map (needed_of table) xs ≡ map (λ x. if (global_of x).first then inner_needed ws (Some (global_of x).written) else []) xs
  needed_are [] = refl
  needed_are (x ∷ xs) = ap (λ y. y ∷ map (needed_of table) xs) (needed_is x) ∙ ap (λ ys. (if x.first then inner_needed ws (Some (written_of x)) else []) ∷ ys) (needed_are xs)

  place_below : (name : List ℕ) (k : ℕ) → inner_found table name ≡ Some k → k < length ws
  place_below name k e = let r : k < 0 + length ws = from_below name 0 ws k (sym (t.finds name) ∙ e) in omega arith

  for_below : (n : Named) → Below (length ws) (found_for table n)
  for_below (alone name) = named_below (length ws) (inner_found table) place_below (name ∷ [])
  for_below (before_dot name) = named_below (length ws) (inner_found table) place_below (name ∷ [])
  for_below (before_hash l name) = none_below (length ws)

  needs_below : (w : WrittenName) → Below (length ws) (needed_of table w)
  needs_below w = if_below (length ws) (w.first && (written_of w).constant) (needed_by_item table w.item.now) (flat_below (length ws) (found_for table) for_below (named_in_bounds w.item.now.kind ++ named_in_value (option_map initial_of w.item.now.initial)))

  inner_for_below : (n : Named) → Below (length ws) (inner_for ws n)
  inner_for_below n = subst (Below (length ws)) (for_is n) (for_below n)

  gives_below : (w : Written) → Below (length ws) (inner_needed ws (Some w))
  gives_below w = if_below (length ws) w.constant (flat_map (inner_for ws) (named_in_bounds w.item.kind ++ named_in_value (option_map initial_of w.item.initial))) (flat_below (length ws) (inner_for ws) inner_for_below (named_in_bounds w.item.kind ++ named_in_value (option_map initial_of w.item.initial)))

-- ---- marks

module _ (table : InnerTable) (names : List WrittenName) (t : IsInnerTable table (map written_of names)) (flags : List Bool) (f : flags ≡ map is_first_name names) where
  many : length flags ≡ length names
  many = ap length f ∙ length-map names is_first_name

  as_many : length flags ≡ length (map written_of names)
  as_many = many ∙ sym (length-map names written_of)

  pub inner_within : (hubs edges : List Edge) → hubs ≡ edges_from 0 (hub_outs flags) → edges ≡ hubs ++ edges_from (length names) (map (needed_of table) names) → AreWithin (length flags + length flags) edges
  inner_within hubs edges h e =
      subst (λ (es : List Edge). AreWithin (length flags + length flags) es) (sym (hub_edges_are flags (map (needed_of table) names) (length names) hubs edges (sym many) h e))
      (hubs_within flags (map (needed_of table) names) [] (record {
        as_many = length-map names (needed_of table) ∙ sym many;
        below = subst (λ (n : ℕ). AreBelow n (map (needed_of table) names)) (sym as_many) (all_below (length (map written_of names)) (needed_of table) (needs_below table (map written_of names) t) names);
      }))

  pub inner_told : (sections : List (Section ℕ)) → map global_of names ≡ names_in_sections sections → (hubs edges : List Edge) → hubs ≡ edges_from 0 (hub_outs flags)
      → edges ≡ hubs ++ edges_from (length names) (map (needed_of table) names) → (marks : List Bool)
      → ((outs gives : List (List ℕ)) → IsShared flags outs gives → edges ≡ edges_from 0 (hub_outs flags ++ outs) → (i : ℕ) → marked marks i ≡ lies_on_cycle (out_at gives) (length flags) i)
      → OnCycles marks (map written_of names)
  inner_told sections is hubs edges h e marks d = record {
    on = λ i.
        d (map (needed_of table) names) (map (λ x. inner_needed (map written_of names) (Some (written_of x))) names) shared (hub_edges_are flags (map (needed_of table) names) (length names) hubs edges (sym many) h e) i
        ∙ ap (λ n. lies_on_cycle (out_at (map (λ x. inner_needed (map written_of names) (Some (written_of x))) names)) n i) as_many
        ∙ cycle_same (out_at (map (λ x. inner_needed (map written_of names) (Some (written_of x))) names)) (λ k. inner_needed (map written_of names) (slice_get (map written_of names) k))
        (out_is written_of (inner_needed (map written_of names)) refl names) (length (map written_of names)) i;
  }
    where
      shared : IsShared flags (map (needed_of table) names) (map (λ x. inner_needed (map written_of names) (Some (written_of x))) names)
      shared = record {
        shares =
            subst (λ (bs : List Bool). Shares None bs (map (needed_of table) names) (map (λ x. inner_needed (map written_of names) (Some (written_of x))) names)) (sym f)
            (subst (λ (os : List (List ℕ)). Shares None (map is_first_name names) os (map (λ x. inner_needed (map written_of names) (Some (written_of x))) names)) (sym (needed_are table (map written_of names) t names))
            (names_share global_of names (map written_of names) sections is));
        below =
            subst (λ (n : ℕ). AreBelow n (map (λ x. inner_needed (map written_of names) (Some (written_of x))) names)) (sym as_many)
            (all_below (length (map written_of names)) (λ (x : WrittenName). inner_needed (map written_of names) (Some (written_of x))) (λ x. gives_below table (map written_of names) t (written_of x)) names);
      }

-- ---- faults of those that are marked

numbered_same : (p q : ℕ → Written → Faults) → ((i : ℕ) (w : Written) → p i w ≡ q i w) → (n : ℕ) (ws : List Written) → each_numbered p n ws ≡ each_numbered q n ws
numbered_same p q h n [] = refl
numbered_same p q h n (w ∷ ws) = ap (λ xs. xs ++ each_numbered p (suc n) ws) (h n w) ∙ ap (λ xs. q n w ++ xs) (numbered_same p q h (suc n) ws)

pub cycles_are : (marks : List Bool) (names : List WrittenName) (sections : List (Section ℕ)) → map global_of names ≡ names_in_sections sections → OnCycles marks (map written_of names)
    → least (marked_faults marks (map written_of names)) ≡ least (inner_cycles (sections_written sections))
unfolding inner_cycles
cycles_are marks names sections e o =
    ap least (numbered_same (marked_fault marks) (λ i w. when (lies_on_cycle (λ k. inner_needed (map written_of names) (slice_get (map written_of names) k)) (length (map written_of names)) i) E06 (item_line w.item))
    (λ i w. ap (λ b. when b E06 (item_line w.item)) (o.on i)) 0 (map written_of names))
    ∙ ap (λ ws. least (inner_cycles ws)) (written_by_names names sections e)

pub record MarkedTo (marks : List Bool) (names : List WrittenName) (found : Option (Code × ℕ)) (i : ℕ) : Type 0 where
  pub rest : earlier found (least (each_numbered (marked_fault marks) i (map written_of (drop i names)))) ≡ least (marked_faults marks (map written_of names))

module _ (marks : List Bool) (names : List WrittenName) where
  pub marked_begun : MarkedTo marks names None 0
  marked_begun = record { rest = refl }

  pub marked_next : (found g more : Option (Code × ℕ)) (i : ℕ) (x : WrittenName) → i < length names → x ≡ get_or names i x → g ≡ least (marked_fault marks i (written_of x)) → more ≡ earlier found g
      → MarkedTo marks names found i → MarkedTo marks names more (i + 1)
  marked_next found g more i x l e h m t = record {
    rest =
        ap (λ y. earlier y (least (each_numbered (marked_fault marks) (i + 1) (map written_of (drop (i + 1) names))))) m
        ∙ ap (λ n. earlier (earlier found g) (least (each_numbered (marked_fault marks) n (map written_of (drop (i + 1) names))))) (add-one i)
        ∙ sym (earlier-assoc found g (least (each_numbered (marked_fault marks) (suc i) (map written_of (drop (i + 1) names)))))
        ∙ ap (earlier found) (ap (λ y. earlier y (least (each_numbered (marked_fault marks) (suc i) (map written_of (drop (i + 1) names))))) h ∙ sym (least-append (marked_fault marks i (written_of x)) (each_numbered (marked_fault marks) (suc i) (map written_of (drop (i + 1) names)))))
        ∙ ap (λ ys. earlier found (least (each_numbered (marked_fault marks) i (map written_of ys)))) (sym (drop-at names i x l e)) ∙ t.rest;
  }

  pub marked_ended : (found : Option (Code × ℕ)) (i : ℕ) → length names ≤ i → MarkedTo marks names found i → found ≡ least (marked_faults marks (map written_of names))
  marked_ended found i l t = sym (earlier-none found) ∙ ap (λ ys. earlier found (least (each_numbered (marked_fault marks) i (map written_of ys)))) (sym (drop-end names i l)) ∙ t.rest

-- all of the list was put
pub table_ended : (table : InnerTable) (names : List WrittenName) (i : ℕ) → i ≤ 0 → InnerTo table names i → IsInnerTable table (map written_of names)
table_ended table names i l t = let z : i ≡ 0 = omega arith in record { finds = λ name. t.finds name ∙ ap (λ m. inner_from name m (map written_of (drop m names))) z }
