-- The marks of the graph of a unit.
use Rattle.std.proofs.Common.{◌≡◌, ℕ, zero, suc, ◌+◌, ◌<◌, Bool, true, List, [], ◌∷◌, ◌++◌, Option, Some, None, map, length, refl, sym, ap, ◌∙◌, arith, subst}
use Rattle.std.specs.Prelude.{slice_get}
use Rattle.std.specs.Bool.{Decides}
use Rattle.std.proofs.lemmas.List.{length-map}
use Rattle.st_tree.specs.declared.unit.Decl.{Decl}
use Rattle.plc_text.specs.declared.code.Code.{Code}
use Rattle.plc_text.specs.declared.code.Code.TheVariants.{E06}
use Rattle.st_rules.specs.Chains.{is_among}
use Rattle.st_rules.specs.Faults.{earlier, least, when}
use Rattle.st_rules.proofs.FaultLaws.{least-append}
use Rattle.st_unit_rules.specs.declared_names.Declarations.{Declaration, declarations}
use Rattle.st_unit_rules.specs.Cycles.{lies_on_cycle, contained, contained_at, contains_itself, leads_to_cycle, needed, needed_at, needs_itself, cycle_faults}
use Rattle.graph_reach.specs.declared.threads.Edge.{Edge}
use Rattle.graph_cycles.specs.Graph.{AreEdgesOf, AreWithin, LiesOnCycle, LeadsToCycle, marked}
use Rattle.st_unit_rules.specs.declared.declaration_list.listed.Declared.{Declared}
use Rattle.st_unit_rules.specs.declaration_list.Listed.{declared_as}
use Rattle.declared_graph.specs.Private.Contained.{contained_of}
use Rattle.declared_graph.specs.Private.Edges.{edges_from, out_at}
use Rattle.declared_graph.specs.Private.Needed.{is_first_of, needed_of}
use Rattle.declared_graph.specs.Private.Shared.{hub_outs, Shares, AreBelow, IsShared}
use Rattle.declared_graph.proofs.BoundLaws.{contained_within, needs_below, first_needs_below}
use Rattle.declared_graph.proofs.CycleLaws.{cycle_told, leads_told, cycle_same}
use Rattle.declared_graph.proofs.EdgeLaws.{are_edges, are_within, edges_of_same, from_append}
use Rattle.declared_graph.proofs.HubLaws.{hubs_length, hubs_within}
use Rattle.declared_graph.proofs.SharedLaws.{unit_shares}

pub out_is : {Z X : Type 0} (v : Z → X) (f : Option X → List ℕ) → f None ≡ [] → (zs : List Z) (i : ℕ) → out_at (map (λ z. f (Some (v z))) zs) i ≡ f (slice_get (map v zs) i)
unfolding out_at
out_is v f e [] i = sym e
out_is v f e (z ∷ zs) zero = refl
out_is v f e (z ∷ zs) (suc i) = out_is v f e zs i

-- ---- containment

module _ (list : List Declared) where
  out_contained : (i : ℕ) → out_at (map (contained_of (map declared_as list)) list) i ≡ contained_at (map declared_as list) i
  out_contained i = out_is declared_as (contained (map declared_as list)) refl list i

  contained_edges_are : AreEdgesOf (edges_from 0 (map (contained_of (map declared_as list)) list)) (contained_at (map declared_as list))
  contained_edges_are = edges_of_same _ (out_at (map (contained_of (map declared_as list)) list)) (contained_at (map declared_as list)) out_contained (are_edges (map (contained_of (map declared_as list)) list))

  pub contained_edges_within : (edges : List Edge) → edges ≡ edges_from 0 (map (contained_of (map declared_as list)) list) → AreWithin (length list) edges
  contained_edges_within edges e = subst (λ (es : List Edge). AreWithin (length list) es) (sym e) (are_within (length list) (map (contained_of (map declared_as list)) list) each)
    where
      each : (i k : ℕ) → is_among k (out_at (map (contained_of (map declared_as list)) list) i) ≡ true → (i < length list) × (k < length list)
      each i k h =
          let w = (contained_within (map declared_as list)).within i k (subst (λ (xs : List ℕ). is_among k xs ≡ true) (out_contained i) h) in
          let n : length (map declared_as list) ≡ length list = length-map list declared_as in
          let a : i < length (map declared_as list) = w.0 in
          let b : k < length (map declared_as list) = w.1 in
          (omega arith, omega arith)

  pub containing_told : (edges : List Edge) → edges ≡ edges_from 0 (map (contained_of (map declared_as list)) list) → (marks : List Bool)
      → ((ahead : ℕ → List ℕ) → AreEdgesOf edges ahead → (i : ℕ) → Decides (marked marks i) (LiesOnCycle ahead i)) → (i : ℕ) → marked marks i ≡ contains_itself (map declared_as list) i
  containing_told edges e marks d i =
      cycle_told (contained_at (map declared_as list)) (length (map declared_as list)) (contained_within (map declared_as list)) (marked marks i) i
      (d (contained_at (map declared_as list)) (subst (λ (es : List Edge). AreEdgesOf es (contained_at (map declared_as list))) (sym e) contained_edges_are) i)

  pub leading_told : (edges : List Edge) → edges ≡ edges_from 0 (map (contained_of (map declared_as list)) list) → (marks : List Bool)
      → ((ahead : ℕ → List ℕ) → AreEdgesOf edges ahead → (i : ℕ) → Decides (marked marks i) (LeadsToCycle ahead i)) → (i : ℕ) → marked marks i ≡ leads_to_cycle (map declared_as list) i
  leading_told edges e marks d i =
      leads_told (map declared_as list) (contained_within (map declared_as list)) (marked marks i) i
      (d (contained_at (map declared_as list)) (subst (λ (es : List Edge). AreEdgesOf es (contained_at (map declared_as list))) (sym e) contained_edges_are) i)

-- ---- edges to and from hubs

pub hub_edges_are : (flags : List Bool) (outs : List (List ℕ)) (n : ℕ) (hubs edges : List Edge) → n ≡ length flags → hubs ≡ edges_from 0 (hub_outs flags) → edges ≡ hubs ++ edges_from n outs → edges ≡ edges_from 0 (hub_outs flags ++ outs)
hub_edges_are flags outs n hubs edges k h e =
    let l : length (hub_outs flags) ≡ length flags = hubs_length flags [] [] in
    let z : n ≡ 0 + length (hub_outs flags) = omega arith in
    e ∙ ap (λ es. es ++ edges_from n outs) h ∙ ap (λ m. edges_from 0 (hub_outs flags) ++ edges_from m outs) z ∙ from_append 0 (hub_outs flags) outs

-- ---- need

module _ (list : List Declared) (flags : List Bool) (f : flags ≡ map is_first_of list) where
  many : length flags ≡ length list
  many = ap length f ∙ length-map list is_first_of

  as_many : length flags ≡ length (map declared_as list)
  as_many = many ∙ sym (length-map list declared_as)

  pub needs_within : (hubs edges : List Edge) → hubs ≡ edges_from 0 (hub_outs flags) → edges ≡ hubs ++ edges_from (length list) (map (needed_of (map declared_as list)) list)
      → AreWithin (length flags + length flags) edges
  needs_within hubs edges h e =
      subst (λ (es : List Edge). AreWithin (length flags + length flags) es) (sym (hub_edges_are flags (map (needed_of (map declared_as list)) list) (length list) hubs edges (sym many) h e))
      (hubs_within flags (map (needed_of (map declared_as list)) list) [] (record {
        as_many = length-map list (needed_of (map declared_as list)) ∙ sym many;
        below = subst (λ (n : ℕ). AreBelow n (map (needed_of (map declared_as list)) list)) (sym as_many) (first_needs_below declared_as is_first_of (map declared_as list) list);
      }))

  pub needing_told : (decls : List (Decl ℕ)) → map declared_as list ≡ declarations decls → (hubs edges : List Edge) → hubs ≡ edges_from 0 (hub_outs flags)
      → edges ≡ hubs ++ edges_from (length list) (map (needed_of (map declared_as list)) list) → (marks : List Bool)
      → ((outs gives : List (List ℕ)) → IsShared flags outs gives → edges ≡ edges_from 0 (hub_outs flags ++ outs) → (i : ℕ) → marked marks i ≡ lies_on_cycle (out_at gives) (length flags) i)
      → (i : ℕ) → marked marks i ≡ needs_itself (map declared_as list) i
  needing_told decls is hubs edges h e marks d i =
      d (map (needed_of (map declared_as list)) list) (map (λ x. needed (map declared_as list) (Some (declared_as x))) list) shared
      (hub_edges_are flags (map (needed_of (map declared_as list)) list) (length list) hubs edges (sym many) h e) i
      ∙ ap (λ n. lies_on_cycle (out_at (map (λ x. needed (map declared_as list) (Some (declared_as x))) list)) n i) as_many
      ∙ cycle_same (out_at (map (λ x. needed (map declared_as list) (Some (declared_as x))) list)) (needed_at (map declared_as list)) (out_is declared_as (needed (map declared_as list)) refl list) (length (map declared_as list)) i
    where
      shared : IsShared flags (map (needed_of (map declared_as list)) list) (map (λ x. needed (map declared_as list) (Some (declared_as x))) list)
      shared = record {
        shares = subst (λ (bs : List Bool). Shares None bs (map (needed_of (map declared_as list)) list) (map (λ x. needed (map declared_as list) (Some (declared_as x))) list)) (sym f) (unit_shares declared_as list (map declared_as list) decls is);
        below = subst (λ (n : ℕ). AreBelow n (map (λ x. needed (map declared_as list) (Some (declared_as x))) list)) (sym as_many) (needs_below declared_as (map declared_as list) list);
      }

-- ---- the rule

pub cycle_joined : (ds : List Declaration) (line i : ℕ) (a b : Bool) (p q r : Option (Code × ℕ)) → a ≡ contains_itself ds i → b ≡ needs_itself ds i → p ≡ least (when a E06 line) → q ≡ least (when b E06 line) → r ≡ earlier p q
    → r ≡ least (cycle_faults ds line i)
unfolding cycle_faults
cycle_joined ds line i a b p q r e f h k j =
    j ∙ ap (λ x. earlier x q) (h ∙ ap (λ x. least (when x E06 line)) e) ∙ ap (earlier (least (when (contains_itself ds i) E06 line))) (k ∙ ap (λ x. least (when x E06 line)) f)
    ∙ sym (least-append (when (contains_itself ds i) E06 line) (when (needs_itself ds i) E06 line))
