-- Faults of items one by one: the first of all is that which was found or that of those left.
use Rattle.std.proofs.Common.{◌≡◌, ℕ, ◌+◌, ◌<◌, ◌≤◌, List, [], ◌∷◌, ◌++◌, Option, None, Bor, length, get_or, drop, refl, sym, ap, ◌∙◌}
use Rattle.std.specs.Prelude.{flat_map}
use Rattle.plc_text.specs.declared.code.Code.{Code}
use Rattle.st_tree.specs.declared.name.Name.{Name}
use Rattle.st_rules.specs.Faults.{Faults, earlier, least}
use Rattle.st_rules.proofs.FaultLaws.{earlier-assoc, earlier-none, least-append}
use Rattle.st_rules.proofs.ListLaws.{drop-at, drop-end}
use Rattle.st_unit_rules.specs.NameRules.{name_of_conversion}
use Rattle.check_names.specs.name_spaces.NamesIn.{names_of}
use Rattle.check_names.specs.name_rules.Spaces.{conversion_of}

pub record FaultsTo {X : Type 0} (gives : X → Faults) (xs : List X) (found : Option (Code × ℕ)) (i : ℕ) : Type 0 where
  pub rest : earlier found (least (flat_map gives (drop i xs))) ≡ least (flat_map gives xs)

module _ {X : Type 0} (gives : X → Faults) (xs : List X) where
  pub faults_begun : FaultsTo gives xs None 0
  faults_begun = record { rest = refl }

  pub faults_next : (found g more : Option (Code × ℕ)) (i : ℕ) (x : X) → i < length xs → x ≡ get_or xs i x → g ≡ least (gives x) → more ≡ earlier found g → FaultsTo gives xs found i → FaultsTo gives xs more (i + 1)
  faults_next found g more i x l e h m t = record {
    rest =
        ap (λ y. earlier y (least (flat_map gives (drop (i + 1) xs)))) m
        ∙ sym (earlier-assoc found g (least (flat_map gives (drop (i + 1) xs))))
        ∙ ap (earlier found) (ap (λ y. earlier y (least (flat_map gives (drop (i + 1) xs)))) h ∙ sym (least-append (gives x) (flat_map gives (drop (i + 1) xs))))
        ∙ ap (λ ys. earlier found (least (flat_map gives ys))) (sym (drop-at xs i x l e)) ∙ t.rest;
  }

  pub faults_ended : (found : Option (Code × ℕ)) (i : ℕ) → length xs ≤ i → FaultsTo gives xs found i → found ≡ least (flat_map gives xs)
  faults_ended found i l t = sym (earlier-none found) ∙ ap (λ ys. earlier found (least (flat_map gives ys))) (sym (drop-end xs i l)) ∙ t.rest

pub two_joined : (a b r : Option (Code × ℕ)) (as' bs : Faults) → a ≡ least as' → b ≡ least bs → r ≡ earlier a b → r ≡ least (as' ++ bs)
two_joined a b r as' bs h k e = e ∙ ap (λ x. earlier x b) h ∙ ap (earlier (least as')) k ∙ sym (least-append as' bs)

-- rules of names that are lent
pub lent_are : (ns : List (Bor Name)) → flat_map conversion_of ns ≡ flat_map name_of_conversion (names_of ns)
lent_are [] = refl
lent_are (n ∷ ns) = ap (λ xs. name_of_conversion n.now ++ xs) (lent_are ns)
