-- The regions that a task runs, region by region.
use Rattle.std.proofs.Common.{◌≡◌, ℕ, suc, ◌+◌, ◌<◌, ◌≤◌, Bool, true, false, List, [], ◌∷◌, ◌++◌, drop, length, get_or, map, refl, sym, ap, subst, ◌∙◌, append-nil}
use Rattle.std.specs.Prelude.{if◌then◌else◌}
use Rattle.st_tree.specs.declared.unit.Decl.{Decl}
use Rattle.st_rules.proofs.ListLaws.{drop-at, drop-end}
use Rattle.st_unit_rules.specs.declared_names.Declarations.{Region, of_global, of_instance}
use Rattle.st_unit_rules.specs.Checked.{region_of_task}
use Rattle.check_regions.specs.declared.unit_regions.listed.UnitRegion.{UnitRegion}
use Rattle.check_regions.specs.unit_regions.Listed.{region_as}
use Rattle.check_regions.specs.unit_regions.Private.Run.{is_run}

pub record Runs (task : List ℕ) (regions : List UnitRegion) (numbers : List ℕ) (number i : ℕ) : Type 0 where
  pub rest : (decls : List (Decl ℕ)) → numbers ++ region_of_task decls task number (map region_as (drop i regions)) ≡ region_of_task decls task 0 (map region_as regions)

step : (decls : List (Decl ℕ)) (task : List ℕ) (r : ℕ) (x : Region) (xs : List Region) → region_of_task decls task r (x ∷ xs) ≡ (if is_run task x then r ∷ region_of_task decls task (suc r) xs else region_of_task decls task (suc r) xs)
step decls task r (of_global w) xs = refl
step decls task r (of_instance x) xs = refl

module _ (task : List ℕ) (regions : List UnitRegion) where
  pub begun : Runs task regions [] 0 0
  begun = record { rest = λ decls. refl }

  module _ (numbers : List ℕ) (number i : ℕ) (x : UnitRegion) (l : i < length regions) (e : x ≡ get_or regions i x) (t : Runs task regions numbers number i) where
    split : (decls : List (Decl ℕ)) (b : Bool) → is_run task (region_as x) ≡ b → region_of_task decls task number (map region_as (drop i regions)) ≡ (if b then number ∷ region_of_task decls task (suc number) (map region_as (drop (i + 1) regions)) else region_of_task decls task (suc number) (map region_as (drop (i + 1) regions)))
    split decls b h = ap (λ xs. region_of_task decls task number (map region_as xs)) (drop-at regions i x l e) ∙ step decls task number (region_as x) (map region_as (drop (i + 1) regions)) ∙ ap (λ (a : Bool). if a then number ∷ region_of_task decls task (suc number) (map region_as (drop (i + 1) regions)) else region_of_task decls task (suc number) (map region_as (drop (i + 1) regions))) h

    run : (more : List ℕ) → is_run task (region_as x) ≡ true → more ≡ numbers ++ number ∷ [] → Runs task regions more (suc number) (i + 1)
    run more h f = record {
      rest = λ decls. ap (λ ns. ns ++ left decls) f ∙ two numbers (number ∷ []) (left decls) ∙ ap (λ ns. numbers ++ ns) (sym (split decls true h)) ∙ t.rest decls;
    }
      where
        left : List (Decl ℕ) → List ℕ
        left decls = region_of_task decls task (suc number) (map region_as (drop (i + 1) regions))

        two : {A : Type 0} (xs ys zs : List A) → xs ++ ys ++ zs ≡ xs ++ (ys ++ zs)
        two [] ys zs = refl
        two (y ∷ xs) ys zs = ap (λ ws. y ∷ ws) (two xs ys zs)

    passed : (more : List ℕ) → is_run task (region_as x) ≡ false → more ≡ numbers → Runs task regions more (suc number) (i + 1)
    passed more h f = record {
      rest = λ decls. ap (λ ns. ns ++ region_of_task decls task (suc number) (map region_as (drop (i + 1) regions))) f ∙ ap (λ ns. numbers ++ ns) (sym (split decls false h)) ∙ t.rest decls;
    }

    pub stepped : (more : List ℕ) (next : ℕ) (b : Bool) → b ≡ is_run task (region_as x) → more ≡ (if b then numbers ++ number ∷ [] else numbers) → next ≡ suc number → Runs task regions more next (i + 1)
    stepped more next true h f f' = subst (λ n. Runs task regions more n (i + 1)) (sym f') (run more (sym h) f)
    stepped more next false h f f' = subst (λ n. Runs task regions more n (i + 1)) (sym f') (passed more (sym h) f)

  pub ended : (numbers : List ℕ) (number i : ℕ) → length regions ≤ i → Runs task regions numbers number i → (decls : List (Decl ℕ)) → numbers ≡ region_of_task decls task 0 (map region_as regions)
  ended numbers number i l t decls = sym (append-nil numbers) ∙ ap (λ xs. numbers ++ region_of_task decls task number (map region_as xs)) (sym (drop-end regions i l)) ∙ t.rest decls
