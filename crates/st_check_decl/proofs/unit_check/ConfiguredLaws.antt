-- The configurations of a unit, one by one.
use Rattle.std.proofs.Common.{Bor, ◌≡◌, ℕ, ◌+◌, ◌<◌, ◌≤◌, List, [], ◌∷◌, ◌++◌, drop, length, get_or, map, refl, sym, ap, ◌∙◌, subst, append-nil, append_assoc}
use Rattle.st_tree.specs.declared.configuration.Configuration.{Configuration}
use Rattle.st_tree.specs.declared.unit.Decl.{Decl}
use Rattle.st_tree.specs.declared.unit.Decl.TheVariants as declaration
use Rattle.st_rules.proofs.ListLaws.{drop-at, drop-end}
use Rattle.st_unit_rules.specs.declared_names.Declarations.{configurations_in}
use Rattle.st_check_decl.specs.unit_check.Private.Configured.{IsFirst, configurations_of}

split : (d : Decl ℕ) (ds : List (Decl ℕ)) → configurations_in (d ∷ ds) ≡ configurations_in (d ∷ []) ++ configurations_in ds
split (declaration.Types l ts) ds = refl
split (declaration.Globals s) ds = refl
split (declaration.Interface i) ds = refl
split (declaration.Class c) ds = refl
split (declaration.Function f) ds = refl
split (declaration.Program p) ds = refl
split (declaration.Configuration c) ds = refl

pub listed_next : (ds : List (Decl ℕ)) (i : ℕ) (d : Decl ℕ) (xs ys : List (Configuration ℕ)) → i < length ds → d ≡ get_or ds i d → ys ≡ xs ++ configurations_in (d ∷ []) → xs ++ configurations_in (drop i ds) ≡ configurations_in ds
    → ys ++ configurations_in (drop (i + 1) ds) ≡ configurations_in ds
listed_next ds i d xs ys l e more h =
    ap (λ zs. zs ++ configurations_in (drop (i + 1) ds)) more ∙ append_assoc xs (configurations_in (d ∷ [])) (configurations_in (drop (i + 1) ds))
    ∙ ap (λ us. xs ++ us) (sym (split d (drop (i + 1) ds)) ∙ ap configurations_in (sym (drop-at ds i d l e))) ∙ h

pub listed_ended : (ds : List (Decl ℕ)) (i : ℕ) (xs : List (Configuration ℕ)) → length ds ≤ i → xs ++ configurations_in (drop i ds) ≡ configurations_in ds → xs ≡ configurations_in ds
listed_ended ds i xs l h = sym (append-nil xs) ∙ ap (λ us. xs ++ configurations_in us) (sym (drop-end ds i l)) ∙ h

module _ (ds : List (Decl ℕ)) (list lent : List (Bor (Configuration ℕ))) (listed : configurations_of list ≡ configurations_in ds) (same : lent ≡ list) where
  all : configurations_of lent ≡ configurations_in ds
  all = ap configurations_of same ∙ listed

  pub is_first : (c : Bor (Configuration ℕ)) (behind : List (Bor (Configuration ℕ))) → lent ≡ c ∷ behind → IsFirst c.now (configurations_in ds)
  is_first c behind e = subst (IsFirst c.now) (sym (ap configurations_of e) ∙ all) refl

  pub is_none : length lent ≡ 0 → configurations_in ds ≡ []
  is_none e = sym all ∙ none lent e
    where
      none : (xs : List (Bor (Configuration ℕ))) → length xs ≡ 0 → configurations_of xs ≡ []
      none [] k = refl
      none (x ∷ xs) k = absurd (cc)
