-- Values of a type within its own text: what is found of the names before, and what those left give, are the whole.
use Rattle.std.proofs.Common.{◌≡◌, ℕ, ◌+◌, ◌<◌, ◌≤◌, List, Option, None, length, get_or, drop, refl, sym, ap, ◌∙◌}
use Rattle.std.specs.Prelude.{flat_map}
use Rattle.plc_text.specs.declared.code.Code.{Code}
use Rattle.st_tree.specs.declared.type_spec.TypeSpec.{TypeSpec}
use Rattle.st_rules.specs.Faults.{earlier, least}
use Rattle.st_rules.proofs.FaultLaws.{earlier-assoc, earlier-none, least-append}
use Rattle.st_rules.proofs.ListLaws.{drop-at, drop-end}
use Rattle.st_unit_rules.specs.Cycles.{own_value, own_values, named_in_bounds}
use Rattle.declared_graph.specs.declared.names.Named.{Named as Lent}
use Rattle.declared_graph.specs.Private.Names.{named_as, all_named, own_value_lent}
use Rattle.declared_graph.proofs.NeededLaws.{by_lent}

module _ (name : List ℕ) where
  pub record OwnTo (names : List Lent) (found : Option (Code × ℕ)) (i : ℕ) : Type 0 where
    pub rest : earlier found (least (flat_map (own_value_lent name) (drop i names))) ≡ least (flat_map (own_value_lent name) names)

  pub own_begun : (names : List Lent) → OwnTo names None 0
  own_begun names = record { rest = refl }

  pub own_next : (names : List Lent) (found g more : Option (Code × ℕ)) (i : ℕ) (n : Lent) → i < length names → n ≡ get_or names i n → g ≡ least (own_value name (named_as n)) → more ≡ earlier found g
      → OwnTo names found i → OwnTo names more (i + 1)
  own_next names found g more i n l e h m t = record {
    rest =
        ap (λ y. earlier y (least (flat_map (own_value_lent name) (drop (i + 1) names)))) m
        ∙ sym (earlier-assoc found g (least (flat_map (own_value_lent name) (drop (i + 1) names))))
        ∙ ap (earlier found) (ap (λ y. earlier y (least (flat_map (own_value_lent name) (drop (i + 1) names)))) h ∙ sym (least-append (own_value_lent name n) (flat_map (own_value_lent name) (drop (i + 1) names))))
        ∙ ap (λ ys. earlier found (least (flat_map (own_value_lent name) ys))) (sym (drop-at names i n l e)) ∙ t.rest;
  }

  pub own_ended : (names : List Lent) (found : Option (Code × ℕ)) (i : ℕ) → length names ≤ i → OwnTo names found i → found ≡ least (flat_map (own_value_lent name) names)
  own_ended names found i l t = sym (earlier-none found) ∙ ap (λ ys. earlier found (least (flat_map (own_value_lent name) ys))) (sym (drop-end names i l)) ∙ t.rest

  pub own_is : (names : List Lent) (spec : TypeSpec ℕ) → all_named names ≡ named_in_bounds spec → least (flat_map (own_value_lent name) names) ≡ least (own_values name spec)
  unfolding own_values
  own_is names spec h = ap least (by_lent (own_value name) names) ∙ ap (λ ns. least (flat_map (own_value name) ns)) h
