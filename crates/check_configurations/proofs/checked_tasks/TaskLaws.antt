-- Tasks one by one.
use Rattle.std.proofs.Common.{◌≡◌, ℕ, ◌+◌, ◌<◌, ◌≤◌, Bool, true, false, List, [], ◌∷◌, ◌++◌, Option, Some, None, length, get_or, take, drop, refl, sym, ap, ◌∙◌, subst}
use Rattle.std.specs.Prelude.{nat_lt, ◌&&◌, if◌then◌else◌}
use Rattle.std.specs.List.{list_all}
use Rattle.std.specs.Option.{is_some}
use Rattle.st_tree.specs.declared.configuration.Setting.{Setting}
use Rattle.st_tree.specs.declared.configuration.TaskSpec.{TaskSpec}
use Rattle.st_tree.specs.declared.program.TaskDecl.{TaskDecl}
use Rattle.st_tree.specs.declared.unit.Decl.{Decl}
use Rattle.st_rules.proofs.Booleans.{and-both}
use Rattle.st_rules.proofs.ListLaws.{drop-at, take-at, take-end, drop-end}
use Rattle.st_unit_rules.specs.declared_names.Declarations.{Region}
use Rattle.st_unit_rules.specs.Checked.{Each, TypedTask, setting_value, unit_regions}
use Rattle.st_unit_rules.specs.ConfigurationRules.{is_interval, is_priority}
use Rattle.check_configurations.specs.declared.checked_tasks.groups.TaskRegions.{TaskRegions}
use Rattle.check_configurations.specs.checked_tasks.Private.Groups.{Groups}
use Rattle.check_configurations.specs.checked_tasks.Private.Lists.{numbers_in}
use Rattle.check_configurations.specs.checked_tasks.Private.Made.{ChecksTask}
use Rattle.check_configurations.specs.checked_tasks.Private.Settings.{fitting}
use Rattle.check_configurations.specs.checked_tasks.Tasks.{fits_32_bits, values_fit}
use Rattle.std.specs.Map.{keys_of}

-- ---- one task

-- what fits is the value itself
fitted : (o : Option ℕ) (r : Option (Option ℕ)) → r ≡ fitting o → is_some r ≡ fits_32_bits o
fitted None r h = ap is_some h
fitted (Some n) r h = ap is_some h ∙ pick (nat_lt n 4_294_967_296)
  where
    kept : Bool → Option (Option ℕ)
    kept b = if b then Some (Some n) else None

    pick : (b : Bool) → is_some (kept b) ≡ b
    pick true = refl
    pick false = refl

same_value : (o p : Option ℕ) → Some p ≡ fitting o → p ≡ o
same_value None p h = cc
same_value (Some n) p h = pick (nat_lt n 4_294_967_296) h
  where
    pick : (b : Bool) → ◌≡◌ {A = Option (Option ℕ)} (Some p) (if b then Some (Some n) else None) → p ≡ Some n
    pick true q = cc
    pick false q = cc

-- what is found of a setting of a task
abbrev pub IsFound : (List ℕ → Bool) → List Setting → Option (Option ℕ) → Type 0
IsFound test settings r = (decls : List (Decl ℕ)) → r ≡ fitting (setting_value decls test settings)

module _ (groups : TaskRegions) (task : TaskSpec) (settings : List Setting) (e : settings ≡ task.settings) where
  in_task : (test : List ℕ → Bool) (r : Option (Option ℕ)) → IsFound test settings r → IsFound test task.settings r
  in_task test r h = subst (λ xs. IsFound test xs r) e h

  pub past_interval : IsFound is_interval settings None → ChecksTask groups task None
  past_interval h = record {
    fits = λ decls. ap (λ b. b && fits_32_bits (setting_value decls is_priority task.settings)) (fitted (setting_value decls is_interval task.settings) None (in_task is_interval None h decls));
    typed = λ decls g. tt;
  }

  pub past_priority : (interval : Option ℕ) → IsFound is_interval settings (Some interval) → IsFound is_priority settings None → ChecksTask groups task None
  past_priority interval h k = record {
    fits = λ decls.
        fitted (setting_value decls is_priority task.settings) None (in_task is_priority None k decls)
        ∙ ap (λ b. b && fits_32_bits (setting_value decls is_priority task.settings)) (fitted (setting_value decls is_interval task.settings) (Some interval) (in_task is_interval (Some interval) h decls));
    typed = λ decls g. tt;
  }

  pub task_made : (interval priority : Option ℕ) (programs name : List ℕ) → IsFound is_interval settings (Some interval) → IsFound is_priority settings (Some priority) →
      programs ≡ numbers_in (keys_of groups.tasks) groups.numbers.items task.name.text → name ≡ task.name.text →
      ChecksTask groups task (Some (record { name = name; interval = interval; priority = priority; programs = programs }))
  task_made interval priority programs name h k run is = record {
    fits = λ decls.
        sym
        (and-both _ _ (sym (fitted (setting_value decls is_interval task.settings) (Some interval) (in_task is_interval (Some interval) h decls)))
        (sym (fitted (setting_value decls is_priority task.settings) (Some priority) (in_task is_priority (Some priority) k decls))));
    typed = λ decls g. record {
      name = is;
      interval = same_value (setting_value decls is_interval task.settings) interval (in_task is_interval (Some interval) h decls);
      priority = same_value (setting_value decls is_priority task.settings) priority (in_task is_priority (Some priority) k decls);
      programs = run ∙ g.is decls task.name.text;
    };
  }

-- ---- the loop over the tasks

each_more : {A B : Type 0} (R : A → B → Type 0) (as' : List A) (bs : List B) (a : A) (b : B) → Each R as' bs → R a b → Each R (as' ++ a ∷ []) (bs ++ b ∷ [])
each_more R [] [] a b h r = (r, tt)
each_more R (x ∷ xs) (y ∷ ys) a b h r = (h.0, each_more R xs ys a b (h.1) r)
each_more R [] (y ∷ ys) a b h r = absurd h
each_more R (x ∷ xs) [] a b h r = absurd h

-- the tasks that were looked at fit, and are made
pub record TasksTo (groups : TaskRegions) (tasks : List TaskSpec) (made : List TaskDecl) (i : ℕ) : Type 0 where
  pub rest : (decls : List (Decl ℕ)) → list_all (values_fit decls) (drop i tasks) ≡ list_all (values_fit decls) tasks
  pub typed : (decls : List (Decl ℕ)) → Groups groups (unit_regions decls) → Each (TypedTask decls) (take i tasks) made

module _ (groups : TaskRegions) (tasks : List TaskSpec) where
  pub tasks_begun : TasksTo groups tasks [] 0
  tasks_begun = record { rest = λ decls. refl; typed = λ decls g. tt }

  module _ (made : List TaskDecl) (i : ℕ) (x : TaskSpec) (l : i < length tasks) (e : x ≡ get_or tasks i x) (t : TasksTo groups tasks made i) where
    behind : (decls : List (Decl ℕ)) → (values_fit decls x && list_all (values_fit decls) (drop (i + 1) tasks)) ≡ list_all (values_fit decls) tasks
    behind decls = ap (list_all (values_fit decls)) (sym (drop-at tasks i x l e)) ∙ t.rest decls

    pub tasks_next : (y : TaskDecl) → ChecksTask groups x (Some y) → TasksTo groups tasks (made ++ y ∷ []) (i + 1)
    tasks_next y c = record {
      rest = λ decls. ap (λ b. b && list_all (values_fit decls) (drop (i + 1) tasks)) (c.fits decls) ∙ behind decls;
      typed = λ decls g. subst (λ xs. Each (TypedTask decls) xs (made ++ y ∷ [])) (sym (take-at tasks i x l e)) (each_more (TypedTask decls) (take i tasks) made x y (t.typed decls g) (c.typed decls g));
    }

    pub tasks_stopped : ChecksTask groups x None → (decls : List (Decl ℕ)) → false ≡ list_all (values_fit decls) tasks
    tasks_stopped c decls = ap (λ b. b && list_all (values_fit decls) (drop (i + 1) tasks)) (c.fits decls) ∙ behind decls

  pub tasks_fit : (made : List TaskDecl) (i : ℕ) → length tasks ≤ i → TasksTo groups tasks made i → (decls : List (Decl ℕ)) → true ≡ list_all (values_fit decls) tasks
  tasks_fit made i l t decls = ap (list_all (values_fit decls)) (sym (drop-end tasks i l)) ∙ t.rest decls

  pub tasks_typed : (made : List TaskDecl) (i : ℕ) (regions : List Region) → length tasks ≤ i → TasksTo groups tasks made i → Groups groups regions → (decls : List (Decl ℕ)) → regions ≡ unit_regions decls → Each (TypedTask decls) tasks made
  tasks_typed made i regions l t g decls h =
      subst (λ xs. Each (TypedTask decls) xs made) (take-end tasks i l) (t.typed decls (subst (λ rs. Groups groups rs) h g))
