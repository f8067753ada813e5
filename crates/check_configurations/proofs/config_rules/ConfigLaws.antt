-- Names that are held one by one, and the faults of tasks and instances.
use Rattle.std.proofs.Common.{◌≡◌, ℕ, suc, ◌+◌, ◌<◌, ◌≤◌, add-one, Bool, List, [], ◌∷◌, ◌++◌, Option, None, length, get_or, take, drop, map, refl, sym, ap, ◌∙◌, subst}
use Rattle.std.specs.Prelude.{flat_map, not, ◌||◌}
use Rattle.std.specs.List.{list_any}
use Rattle.std.proofs.lemmas.List.{map-append}
use Rattle.plc_text.specs.declared.code.Code.{Code}
use Rattle.plc_text.specs.declared.code.Code.TheVariants.{E05, E15}
use Rattle.plc_text.specs.Words.{same}
use Rattle.st_tree.specs.declared.configuration.InstanceSpec.{InstanceSpec}
use Rattle.st_tree.specs.declared.configuration.TaskSpec.{TaskSpec}
use Rattle.st_tree.specs.declared.name.Name.{Name}
use Rattle.st_rules.specs.Faults.{Faults, earlier, least, when}
use Rattle.st_rules.specs.Numbered.{each_numbered}
use Rattle.st_rules.proofs.FaultLaws.{earlier-assoc, earlier-none, least-append}
use Rattle.st_rules.proofs.ListLaws.{drop-at, take-at, take-end, drop-end}
use Rattle.st_unit_rules.specs.NameRules.{is_named}
use Rattle.st_unit_rules.specs.ConfigurationRules.{runs_in, not_among, settings_faults, task_without_program, task_faults}
use Rattle.st_unit_rules.specs.Limits.{too_many_tasks}
use Rattle.check_names.specs.name_spaces.Held.{Holds}
use Rattle.check_names.proofs.name_spaces.NameLaws.{same_even}
use Rattle.check_configurations.specs.config_rules.Private.Names.{tasks_run}

-- ---- names

module _ {X : Type 0} (name_of : X → List ℕ) (xs : List X) (i : ℕ) where
  pub names_next : (held : List (List ℕ)) (x : X) → i < length xs → x ≡ get_or xs i x → Holds held (map name_of (take i xs) ++ name_of x ∷ []) → Holds held (map name_of (take (i + 1) xs))
  names_next held x l e h = subst (λ (ns : List (List ℕ)). Holds held ns) (sym (ap (map name_of) (take-at xs i x l e) ∙ map-append name_of (take i xs) (x ∷ []))) h

  pub names_ended : (held : List (List ℕ)) → length xs ≤ i → Holds held (map name_of (take i xs)) → Holds held (map name_of xs)
  names_ended held l h = subst (λ (ys : List X). Holds held (map name_of ys)) (take-end xs i l) h

pub runs : (task : List ℕ) (xs : List InstanceSpec) → is_named task (tasks_run xs) ≡ list_any (runs_in task) xs
runs task [] = refl
runs task (x ∷ xs) = ap (λ b. b || is_named task (tasks_run xs)) (same_even task x.task.text) ∙ ap (λ b. same x.task.text task || b) (runs task xs)

pub among : (f : Option (Code × ℕ)) (b : Bool) (names : List (List ℕ)) (n : Name) → b ≡ is_named n.text names → f ≡ least (when (not b) E05 n.line) → f ≡ least (not_among names n)
among f b names n e h = h ∙ ap (λ b. least (when (not b) E05 n.line)) e

-- ---- faults of items one by one

pub record FaultsTo {X : Type 0} (gives : X → Faults) (xs : List X) (found : Option (Code × ℕ)) (i : ℕ) : Type 0 where
  pub rest : earlier found (least (flat_map gives (drop i xs))) ≡ least (flat_map gives xs)

module _ {X : Type 0} (gives : X → Faults) (xs : List X) where
  pub faults_begun : FaultsTo gives xs None 0
  faults_begun = record { rest = refl }

  pub faults_next : (found g : Option (Code × ℕ)) (i : ℕ) (x : X) → i < length xs → x ≡ get_or xs i x → g ≡ least (gives x) → FaultsTo gives xs found i → FaultsTo gives xs (earlier found g) (i + 1)
  faults_next found g i x l e h t = record {
    rest =
        sym (earlier-assoc found g (least (flat_map gives (drop (i + 1) xs))))
        ∙ ap (earlier found) (ap (λ y. earlier y (least (flat_map gives (drop (i + 1) xs)))) h ∙ sym (least-append (gives x) (flat_map gives (drop (i + 1) xs))))
        ∙ ap (λ ys. earlier found (least (flat_map gives ys))) (sym (drop-at xs i x l e)) ∙ t.rest;
  }

  pub faults_ended : (found : Option (Code × ℕ)) (i : ℕ) → length xs ≤ i → FaultsTo gives xs found i → found ≡ least (flat_map gives xs)
  faults_ended found i l t = sym (earlier-none found) ∙ ap (λ ys. earlier found (least (flat_map gives ys))) (sym (drop-end xs i l)) ∙ t.rest

pub record NumberedTo {X : Type 0} (gives : ℕ → X → Faults) (xs : List X) (found : Option (Code × ℕ)) (i : ℕ) : Type 0 where
  pub rest : earlier found (least (each_numbered gives i (drop i xs))) ≡ least (each_numbered gives 0 xs)

module _ {X : Type 0} (gives : ℕ → X → Faults) (xs : List X) where
  pub numbered_begun : NumberedTo gives xs None 0
  numbered_begun = record { rest = refl }

  pub numbered_next : (found g : Option (Code × ℕ)) (i : ℕ) (x : X) → i < length xs → x ≡ get_or xs i x → g ≡ least (gives i x) → NumberedTo gives xs found i → NumberedTo gives xs (earlier found g) (i + 1)
  numbered_next found g i x l e h t = record {
    rest =
        ap (λ n. earlier (earlier found g) (least (each_numbered gives n (drop (i + 1) xs)))) (add-one i)
        ∙ sym (earlier-assoc found g (least (each_numbered gives (suc i) (drop (i + 1) xs))))
        ∙ ap (earlier found) (ap (λ y. earlier y (least (each_numbered gives (suc i) (drop (i + 1) xs)))) h ∙ sym (least-append (gives i x) (each_numbered gives (suc i) (drop (i + 1) xs))))
        ∙ ap (λ ys. earlier found (least (each_numbered gives i ys))) (sym (drop-at xs i x l e)) ∙ t.rest;
  }

  pub numbered_ended : (found : Option (Code × ℕ)) (i : ℕ) → length xs ≤ i → NumberedTo gives xs found i → found ≡ least (each_numbered gives 0 xs)
  numbered_ended found i l t = sym (earlier-none found) ∙ ap (λ ys. earlier found (least (each_numbered gives i ys))) (sym (drop-end xs i l)) ∙ t.rest

-- ---- rules that are joined

pub pair_told : (r a b : Option (Code × ℕ)) (as' bs : Faults) → r ≡ earlier a b → a ≡ least as' → b ≡ least bs → r ≡ least (as' ++ bs)
pair_told r a b as' bs e h k = e ∙ ap (λ x. earlier x b) h ∙ ap (earlier (least as')) k ∙ sym (least-append as' bs)

pub task_told : (instances : List InstanceSpec) (before : ℕ) (t : TaskSpec) (r q setting idle many : Option (Code × ℕ)) (b : Bool) → r ≡ earlier q many → q ≡ earlier setting idle
    → setting ≡ least (settings_faults [] t.settings) → b ≡ list_any (runs_in t.name.text) instances → idle ≡ least (when (not b) E15 t.line) → many ≡ least (too_many_tasks t.line before) → r ≡ least (task_faults instances before t)
task_told instances before t r q setting idle many b e f g h i j =
    pair_told r q many (settings_faults [] t.settings ++ task_without_program instances t) (too_many_tasks t.line before) e
    (pair_told q setting idle (settings_faults [] t.settings) (task_without_program instances t) f g (i ∙ ap (λ b. least (when (not b) E15 t.line)) h)) j
