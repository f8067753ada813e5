-- Lists of numbers under names: one number more, and the regions one by one.
use Rattle.std.proofs.Common.{◌≡◌, ◌≢◌, ℕ, suc, ◌+◌, ◌<◌, ◌≤◌, Bool, true, false, List, [], ◌∷◌, ◌++◌, Option, Some, None, length, get_or, take, map, refl, sym, ap, ◌∙◌, arith, append-nil, ◌⊎◌, inl, inr}
use Rattle.std.specs.Prelude.{slice_get, slice_set, if◌then◌else◌}
use Rattle.std.specs.Cmp.Lexicographic.{bytes_decides}
use Rattle.std.proofs.Math.ListN.{length-append, get_or-append}
use Rattle.std.proofs.Math.Seq.{get_or-append_seam}
use Rattle.std.proofs.lemmas.List.{map-append, length-map, length-set, length-take-le, get_or-set_same, get_or-set_other}
use Rattle.std.proofs.lemmas.Option.{slice_get_within}
use Rattle.plc_text.specs.Words.{same}
use Rattle.st_tree.specs.declared.unit.Decl.{Decl}
use Rattle.st_rules.specs.Named.{first_place}
use Rattle.st_rules.specs.Chains.{◌or_else◌}
use Rattle.st_rules.proofs.Booleans.{cases, true≢false, some-same}
use Rattle.st_rules.proofs.ListLaws.{take-at, take-end}
use Rattle.class_rows.proofs.IndexLaws.{at_end, place-push, place_has}
use Rattle.st_unit_rules.specs.declared_names.Declarations.{Region, of_global, of_instance}
use Rattle.st_unit_rules.specs.Checked.{region_of_task}
use Rattle.st_unit_rules.specs.ConfigurationRules.{runs_in}
use Rattle.check_regions.specs.declared.unit_regions.listed.UnitRegion.{UnitRegion}
use Rattle.check_regions.specs.unit_regions.Listed.{region_as}
use Rattle.check_configurations.specs.checked_tasks.Private.Lists.{Adds, is_run, list_at, numbers_in}

-- ---- one number more

abbrev more_if : Bool → ℕ → List ℕ
more_if b r = if b then r ∷ [] else []

no_more : (ns : List ℕ) → ns ≡ ns ++ []
no_more ns = sym (append-nil ns)

pub place_within : (names lists : List (List ℕ)) (task : List ℕ) → length lists ≡ length names → (k : ℕ) → first_place task names ≡ Some k → k < length lists
place_within names lists task long k found = let w : k < length names = slice_get_within names k task (place_has task names k found) in omega arith

module _ (names lists : List (List ℕ)) (task : List ℕ) (r : ℕ) (long : length lists ≡ length names) where
  -- the name has a list already
  module _ (k : ℕ) (found : first_place task names ≡ Some k) (lists' : List (List ℕ)) (made : lists' ≡ slice_set lists k (get_or lists k [] ++ r ∷ [])) where
    within : k < length lists
    within = place_within names lists task long k found

    at_place : (name : List ℕ) (o : Option ℕ) → first_place name names ≡ o → (same task name ≡ true) ⊎ (same task name ≡ false) → list_at o lists' ≡ list_at o lists ++ more_if (same task name) r
    at_place name o e (inl p) =
        let is : o ≡ Some k = sym e ∙ ap (λ n. first_place n names) (sym ((bytes_decides task name).0 p)) ∙ found in
        ap (λ q. list_at q lists') is ∙ ap (λ xs. get_or xs k []) made ∙ get_or-set_same lists k (get_or lists k [] ++ r ∷ []) [] within
        ∙ ap (λ b. get_or lists k [] ++ more_if b r) (sym p) ∙ ap (λ q. list_at q lists ++ more_if (same task name) r) (sym is)
    at_place name None e (inr p) = ap (λ b. more_if b r) (sym p)
    at_place name (Some j) e (inr p) =
        ap (λ xs. get_or xs j []) made ∙ get_or-set_other lists k j (get_or lists k [] ++ r ∷ []) [] other
        ∙ no_more (get_or lists j []) ∙ ap (λ b. get_or lists j [] ++ more_if b r) (sym p)
      where
        other : j ≡ k → ⊥
        other q = true≢false (sym ((bytes_decides task name).1 (some-same (sym (place_has task names k found) ∙ ap (slice_get names) (sym q) ∙ place_has name names j e))) ∙ p)

    pub added_at : Adds names lists names lists' (λ name. same task name) r
    added_at = record {
      long = ap length made ∙ length-set lists k (get_or lists k [] ++ r ∷ []) ∙ long;
      is = λ name. at_place name (first_place name names) refl (cases (same task name));
    }

  -- it has none yet
  module _ (missing : first_place task names ≡ None) (names' lists' : List (List ℕ)) (told : names' ≡ names ++ task ∷ []) (made : lists' ≡ lists ++ (r ∷ []) ∷ []) where
    at_end_of : (name : List ℕ) (o : Option ℕ) → first_place name names ≡ o → (same task name ≡ true) ⊎ (same task name ≡ false) → list_at (o or_else at_end name task (length names)) lists' ≡ list_at o lists ++ more_if (same task name) r
    at_end_of name o e (inl p) =
        let is : o ≡ None = sym e ∙ ap (λ n. first_place n names) (sym ((bytes_decides task name).0 p)) ∙ missing in
        ap (λ q. list_at (q or_else at_end name task (length names)) lists') is
        ∙ ap (λ (b : Bool). list_at (if b then Some (length names) else None) lists') p
        ∙ ap (λ n. get_or lists' n []) (sym long) ∙ ap (λ xs. get_or xs (length lists) []) made ∙ get_or-append_seam lists (r ∷ []) [] []
        ∙ ap (λ b. more_if b r) (sym p) ∙ ap (λ q. list_at q lists ++ more_if (same task name) r) (sym is)
    at_end_of name None e (inr p) = ap (λ (b : Bool). list_at (if b then Some (length names) else None) lists') p ∙ ap (λ b. more_if b r) (sym p)
    at_end_of name (Some j) e (inr p) =
        let w : j < length names = slice_get_within names j name (place_has name names j e) in
        let v : j < length lists = omega arith in
        ap (λ xs. get_or xs j []) made ∙ get_or-append lists ((r ∷ []) ∷ []) [] j v
        ∙ no_more (get_or lists j []) ∙ ap (λ b. get_or lists j [] ++ more_if b r) (sym p)

    pub added_task : Adds names lists names' lists' (λ name. same task name) r
    added_task = record {
      long = ap length made ∙ length-append lists ((r ∷ []) ∷ []) ∙ ap (λ n. n + 1) long ∙ sym (length-append names (task ∷ [])) ∙ sym (ap length told);
      is = λ name.
          ap (λ ns. list_at (first_place name ns) lists') told ∙ ap (λ o. list_at o lists') (place-push name task names)
          ∙ at_end_of name (first_place name names) refl (cases (same task name));
    }

pub added_nothing : (names lists : List (List ℕ)) (r : ℕ) → length lists ≡ length names → Adds names lists names lists (λ name. false) r
added_nothing names lists r long = record { long = long; is = λ name. no_more (numbers_in names lists name) }

-- ---- the regions one by one

module _ (decls : List (Decl ℕ)) (task : List ℕ) where
  abbrev run_in : ℕ → List Region → List ℕ
  run_in r xs = region_of_task decls task r xs

  step : (r : ℕ) (x : Region) (xs : List Region) → run_in r (x ∷ xs) ≡ more_if (is_run task x) r ++ run_in (suc r) xs
  step r (of_global w) xs = refl
  step r (of_instance x) xs = pick (runs_in task x)
    where
      pick : (b : Bool) → (if b then r ∷ run_in (suc r) xs else run_in (suc r) xs) ≡ more_if b r ++ run_in (suc r) xs
      pick true = refl
      pick false = refl

  two : {A : Type 0} (xs ys zs : List A) → xs ++ (ys ++ zs) ≡ xs ++ ys ++ zs
  two [] ys zs = refl
  two (x ∷ xs) ys zs = ap (λ ws. x ∷ ws) (two xs ys zs)

  last : (r : ℕ) (xs : List Region) (x : Region) → run_in r (xs ++ x ∷ []) ≡ run_in r xs ++ more_if (is_run task x) (length xs + r)
  last r [] x = let e : r ≡ 0 + r = omega arith in step r x [] ∙ append-nil (more_if (is_run task x) r) ∙ ap (more_if (is_run task x)) e
  last r (y ∷ ys) x =
      let e : length ys + suc r ≡ suc (length ys) + r = omega arith in
      step r y (ys ++ x ∷ []) ∙ ap (λ ns. more_if (is_run task y) r ++ ns) (last (suc r) ys x ∙ ap (λ n. run_in (suc r) ys ++ more_if (is_run task x) n) e)
      ∙ two (more_if (is_run task y) r) (run_in (suc r) ys) (more_if (is_run task x) (suc (length ys) + r))
      ∙ ap (λ ns. ns ++ more_if (is_run task x) (suc (length ys) + r)) (sym (step r y ys))

-- the regions that were looked at are in the lists, and the next one has this number
pub record GroupsTo (names lists : List (List ℕ)) (regions : List UnitRegion) (number i : ℕ) : Type 0 where
  pub long : length lists ≡ length names
  pub at : number ≡ i
  pub is : (decls : List (Decl ℕ)) (task : List ℕ) → numbers_in names lists task ≡ region_of_task decls task 0 (map region_as (take i regions))

pub groups_begun : (regions : List UnitRegion) → GroupsTo [] [] regions 0 0
groups_begun regions = record { long = refl; at = refl; is = λ decls task. refl }

pub groups_next : (names lists names' lists' : List (List ℕ)) (regions : List UnitRegion) (number next i : ℕ) (x : UnitRegion) → i < length regions → x ≡ get_or regions i x →
    Adds names lists names' lists' (λ task. is_run task (region_as x)) number → next ≡ suc number → GroupsTo names lists regions number i → GroupsTo names' lists' regions next (i + 1)
groups_next names lists names' lists' regions number next i x l e a n t = record {
  long = a.long;
  at = let p = t.at in omega arith;
  is = λ decls task.
      let taken : map region_as (take (i + 1) regions) ≡ map region_as (take i regions) ++ region_as x ∷ [] = ap (map region_as) (take-at regions i x l e) ∙ map-append region_as (take i regions) (x ∷ []) in
      let within : i ≤ length regions = omega arith in
      let many : length (map region_as (take i regions)) ≡ i = length-map (take i regions) region_as ∙ length-take-le i regions within in
      let place : number ≡ length (map region_as (take i regions)) + 0 = let p = t.at in omega arith in
      a.is task ∙ ap (λ ns. ns ++ more_if (is_run task (region_as x)) number) (t.is decls task)
      ∙ ap (λ k. region_of_task decls task 0 (map region_as (take i regions)) ++ more_if (is_run task (region_as x)) k) place
      ∙ sym (last decls task 0 (map region_as (take i regions)) (region_as x)) ∙ ap (region_of_task decls task 0) (sym taken);
}

pub groups_ended : (names lists : List (List ℕ)) (regions : List UnitRegion) (number i : ℕ) → length regions ≤ i → GroupsTo names lists regions number i →
    (decls : List (Decl ℕ)) (task : List ℕ) → numbers_in names lists task ≡ region_of_task decls task 0 (map region_as regions)
groups_ended names lists regions number i l t decls task = t.is decls task ∙ ap (λ xs. region_of_task decls task 0 (map region_as xs)) (take-end regions i l)
