-- In a unit that breaks no rule the regions are few, with few values, and each task has a program.
use Rattle.std.proofs.Common.{◌≡◌, ◌≤◌, ◌<◌, ℕ, zero, suc, ◌+◌, Bool, true, false, List, [], ◌∷◌, ◌++◌, map, length, Some, refl, sym, ap, ◌∙◌, subst, inl, inr, arith, append-nil, append_assoc, nat_eq}
use Rattle.std.specs.Prelude.{not, ◌&&◌, ◌||◌, nat_lt, nat_le, if◌then◌else◌, flat_map, slice_get}
use Rattle.std.specs.List.{list_any}
use Rattle.std.proofs.lemmas.Bool.{le-leb, ltb-false}
use Rattle.std.proofs.lemmas.List.{map-append}
use Rattle.std.proofs.lemmas.List.Concat.{flat_map-append}
use mathlib.Core.Logic.{dite}
use native.Mathlib.Decide.{ℕ_discrete}
use Rattle.plc_text.specs.declared.code.Code.TheVariants.{E15, E16}
use Rattle.st_tree.specs.declared.configuration.Configuration.{Configuration}
use Rattle.st_tree.specs.declared.configuration.InstanceSpec.{InstanceSpec}
use Rattle.st_tree.specs.declared.configuration.TaskSpec.{TaskSpec}
use Rattle.st_tree.specs.declared.declaration.Item.{Item}
use Rattle.st_tree.specs.declared.declaration.Section.{Section}
use Rattle.st_tree.specs.declared.declaration.TypeDecl.{TypeDecl}
use Rattle.st_tree.specs.declared.unit.Decl.{Decl}
use Rattle.st_tree.specs.declared.unit.Decl.TheVariants as declaration
use Rattle.st_meaning.specs.st_frame.Footprint.{Has}
use Rattle.st_rules.specs.Numbered.{each_numbered}
use Rattle.st_rules.specs.Scope.{Scope}
use Rattle.st_rules.proofs.Booleans.{differ_from_test, either, neither, or-first, or-second, or-neither}
use Rattle.st_unit_rules.specs.declared_names.Declarations.{Declaration, an_entry, a_global, an_interface, a_class, a_function, a_program, a_configuration, Region, of_global, of_instance, Placed, declarations_of, globals_of_item, globals_of_section, configuration_globals, region_of_global, regions_of, instances_of, is_configuration, is_first_configuration, name_of, names_put, place_each, placed, placed_from, programs_in, configurations_in}
use Rattle.st_unit_rules.specs.declared_names.UnitNames.{unit_names, unit_scope}
use Rattle.st_unit_rules.specs.declared_names.Variables.{Written, item_written, section_written, sections_written}
use Rattle.st_unit_rules.specs.Checked.{regions_from, unit_regions, region_of_task, tasks_of}
use Rattle.st_unit_rules.specs.ConfigurationRules.{runs_in, tasks_and_instances, task_faults, task_without_program}
use Rattle.st_unit_rules.specs.DeclarationRules.{region_values, region_faults, region_line, regions_faults, instance_regions, configuration_faults, sort_faults}
use Rattle.st_unit_rules.specs.Limits.{sum_of, too_many_regions, too_many_values}
use Rattle.st_unit_rules.specs.UnitRefusal.{BreaksNothing}
use Rattle.resolution_order.specs.told_laws.ToldLaws.{Every}
use Rattle.accepted_texts.proofs.unfolding_laws.CycleLaws.{none_in, not_when, none_there}
use Rattle.accepted_texts.proofs.unfolding_laws.ListLaws.{every_front, every_back, every_from}

pub not_false : (b : Bool) → not b ≡ false → b ≡ true
not_false true h = refl
not_false false h = cc

and_false : (a b : Bool) → (a && b) ≡ false → a ≡ true → b ≡ false
and_false true b h e = h
and_false false b h e = cc

pub below_bound : (n m : ℕ) → n ≤ m → nat_eq n m ≡ false → n < m
below_bound n m h e = dite (ℕ_discrete n m) (λ q. absurd (differ_from_test n m e q)) (λ q. omega (arith, h, q))

pub sum_append : (s : Scope) (xs ys : List ℕ) → sum_of s (xs ++ ys) ≡ sum_of s xs + sum_of s ys
sum_append s [] ys = omega arith
sum_append s (x ∷ xs) ys = let k = sum_append s xs ys in omega (arith, k)

pub length_one : {X : Type 0} (xs : List X) (x : X) → length (xs ++ x ∷ []) ≡ suc (length xs)
length_one [] x = refl
length_one (y ∷ xs) x = ap suc (length_one xs x)

-- ---- the rules of regions, one after the other

module _ (decls : List (Decl ℕ)) where
  abbrev unit : Scope
  unit = unit_scope decls (unit_names decls)

  abbrev pub Fine : List Region → List Region → Type 0
  Fine before rs = regions_faults decls before rs ≡ []

  abbrev pub total : List Region → ℕ
  total rs = sum_of unit (map (region_values decls) rs)

  total_one : (xs : List Region) (x : Region) → total (xs ++ x ∷ []) ≡ total xs + region_values decls x
  total_one xs x =
      let a = ap (sum_of unit) (map-append (region_values decls) xs (x ∷ [])) in
      let b = sum_append unit (map (region_values decls) xs) (region_values decls x ∷ []) in
      let c : sum_of unit (region_values decls x ∷ []) ≡ region_values decls x = omega arith in
      a ∙ b ∙ ap (λ n. total xs + n) c

  fine_append : (before xs ys : List Region) → Fine before xs → Fine (before ++ xs) ys → Fine before (xs ++ ys)
  fine_append before [] ys h k = subst (λ b. Fine b ys) (append-nil before) k
  fine_append before (x ∷ xs) ys h k =
      let a = none_in (region_faults decls before (region_line decls x) x) (regions_faults decls (before ++ x ∷ []) xs) h in
      let rest = fine_append (before ++ x ∷ []) xs ys a.1 (subst (λ b. Fine b ys) (sym (append_assoc before (x ∷ []) xs)) k) in
      ap (λ fs. fs ++ regions_faults decls (before ++ x ∷ []) (xs ++ ys)) a.0 ∙ rest

  pub few_regions : (before rs : List Region) → Fine before rs → length before ≤ 1024 → length before + length rs ≤ 1024
  few_regions before [] h l = omega (arith, l)
  few_regions before (x ∷ rs) h l =
      let a = none_in (region_faults decls before (region_line decls x) x) (regions_faults decls (before ++ x ∷ []) rs) h in
      let b = none_in _ (too_many_values (region_line decls x) (total before) (region_values decls x)) a.0 in
      let c = none_in _ (too_many_regions (region_line decls x) (length before)) b.0 in
      let m = below_bound (length before) 1024 l (not_when (nat_eq (length before) 1024) E16 (region_line decls x) c.1) in
      let one = length_one before x in
      let rest = few_regions (before ++ x ∷ []) rs a.1 (omega (arith, m, one)) in
      omega (arith, rest, one)

  pub few_values : (before rs : List Region) → Fine before rs → total before ≤ 131072 → total before + total rs ≤ 131072
  few_values before [] h l = omega (arith, l)
  few_values before (x ∷ rs) h l =
      let a = none_in (region_faults decls before (region_line decls x) x) (regions_faults decls (before ++ x ∷ []) rs) h in
      let b = none_in _ (too_many_values (region_line decls x) (total before) (region_values decls x)) a.0 in
      let both = not_when (nat_le (total before) 131072 && nat_lt 131072 (total before + region_values decls x)) E16 (region_line decls x) b.1 in
      let m = ltb-false 131072 (total before + region_values decls x) (and_false (nat_le (total before) 131072) (nat_lt 131072 (total before + region_values decls x)) both (le-leb (total before) 131072 l)) in
      let one = total_one before x in
      let rest = few_values (before ++ x ∷ []) rs a.1 (omega (arith, m, one)) in
      omega (arith, rest, one)

  -- ---- each declaration where it stands

  record FineConfiguration (x : Placed) (c : Configuration ℕ) : Type 0 where
    regions : Fine (x.regions ++ flat_map region_of_global (sections_written (configuration_globals c))) (instance_regions decls (is_first_configuration x.earlier) c)
    tasks : Every (λ (t : TaskSpec). list_any (runs_in t.name.text) c.instances ≡ true) c.tasks

  abbrev FineAt : Placed → Declaration → Type 0
  FineAt x (a_global g) = Fine x.regions (region_of_global g.written)
  FineAt x (a_configuration c) = FineConfiguration x c
  FineAt x _ = Unit {0}

  abbrev FinePlaced : Placed → Type 0
  FinePlaced x = FineAt x x.declaration

  tasks_fine : (instances : List InstanceSpec) (n : ℕ) (ts : List TaskSpec) → each_numbered (task_faults instances) n ts ≡ [] → Every (λ (t : TaskSpec). list_any (runs_in t.name.text) instances ≡ true) ts
  tasks_fine instances n [] h = tt
  tasks_fine instances n (t ∷ ts) h =
      let a = none_in (task_faults instances n t) (each_numbered (task_faults instances) (suc n) ts) h in
      let b = none_in _ _ a.0 in
      let c = none_in _ (task_without_program instances t) b.0 in
      (not_false (list_any (runs_in t.name.text) instances) (not_when (not (list_any (runs_in t.name.text) instances)) E15 t.line c.1), tasks_fine instances (suc n) ts a.1)

  configuration_fine : (x : Placed) (c : Configuration ℕ) → configuration_faults decls x c ≡ [] → FineConfiguration x c
  unfolding tasks_and_instances
  configuration_fine x c h =
      let a = none_in _ (regions_faults decls (x.regions ++ flat_map region_of_global (sections_written (configuration_globals c))) (instance_regions decls (is_first_configuration x.earlier) c)) h in
      let b = none_in _ (tasks_and_instances (map (λ p. p.name.text) (programs_in decls)) c) a.0 in
      let t = none_in (each_numbered (task_faults c.instances) 0 c.tasks) _ b.1 in
      record { regions = a.1; tasks = tasks_fine c.instances 0 c.tasks t.0 }

  sort_fine : (i : ℕ) (x : Placed) (d : Declaration) → sort_faults decls i x d ≡ [] → FineAt x d
  sort_fine i x (a_global g) h = (none_in _ (regions_faults decls x.regions (region_of_global g.written)) h).1
  sort_fine i x (a_configuration c) h = configuration_fine x c h
  sort_fine i x (an_entry t) h = tt
  sort_fine i x (an_interface d) h = tt
  sort_fine i x (a_class d) h = tt
  sort_fine i x (a_function d) h = tt
  sort_fine i x (a_program d) h = tt

  placed_fine : BreaksNothing decls → Every FinePlaced (placed decls)
  placed_fine good = every_from FinePlaced (placed decls) (λ i x e. sort_fine i x x.declaration (none_there decls good i x e).1)

  -- ---- regions in the order of the text

  own_fine : (x : Placed) (d : Declaration) → FineAt x d → Fine x.regions (regions_of d)
  own_fine x (a_global g) h = h
  own_fine x (a_configuration c) h = refl
  own_fine x (an_entry t) h = refl
  own_fine x (an_interface d) h = refl
  own_fine x (a_class d) h = refl
  own_fine x (a_function d) h = refl
  own_fine x (a_program d) h = refl

  each_fine : (e : List Declaration) (b : List (List ℕ)) (r : List Region) (ds : List Declaration) → Every FinePlaced (place_each e b r ds) → Fine r (flat_map regions_of ds)
  each_fine e b r [] h = refl
  each_fine e b r (d ∷ ds) h =
      fine_append r (regions_of d) (flat_map regions_of ds) (own_fine (record { declaration = d; earlier = e; before = b; regions = r }) d h.0)
      (each_fine (e ++ d ∷ []) (b ++ (name_of d).text ∷ []) (r ++ regions_of d) ds h.1)

  item_regions : (s : Section ℕ) (item : Item ℕ) (first : Bool) (ws : List Written) → flat_map regions_of (globals_of_item s item first ws) ≡ flat_map region_of_global ws
  item_regions s item first [] = refl
  item_regions s item first (w ∷ ws) = ap (λ rs. region_of_global w ++ rs) (item_regions s item false ws)

  items_regions : (s : Section ℕ) (items : List (Item ℕ)) → flat_map regions_of (flat_map (λ item. globals_of_item s item true (item_written s item)) items) ≡ flat_map region_of_global (flat_map (item_written s) items)
  items_regions s [] = refl
  items_regions s (item ∷ items) =
      flat_map-append regions_of (globals_of_item s item true (item_written s item)) (flat_map (λ x. globals_of_item s x true (item_written s x)) items)
      ∙ ap (λ rs. rs ++ flat_map regions_of (flat_map (λ x. globals_of_item s x true (item_written s x)) items)) (item_regions s item true (item_written s item))
      ∙ ap (λ rs. flat_map region_of_global (item_written s item) ++ rs) (items_regions s items)
      ∙ sym (flat_map-append region_of_global (item_written s item) (flat_map (item_written s) items))

  sections_regions : (ss : List (Section ℕ)) → flat_map regions_of (flat_map globals_of_section ss) ≡ flat_map region_of_global (sections_written ss)
  sections_regions [] = refl
  sections_regions (s ∷ ss) =
      flat_map-append regions_of (globals_of_section s) (flat_map globals_of_section ss)
      ∙ ap (λ rs. rs ++ flat_map regions_of (flat_map globals_of_section ss)) (items_regions s s.items)
      ∙ ap (λ rs. flat_map region_of_global (section_written s) ++ rs) (sections_regions ss)
      ∙ sym (flat_map-append region_of_global (section_written s) (sections_written ss))

  instances_fine : (e : List Declaration) (b : List (List ℕ)) (r : List Region) (d : Decl ℕ) → Every FinePlaced (place_each e b r (declarations_of d)) → Fine (r ++ flat_map regions_of (declarations_of d)) (instances_of (is_first_configuration e) d)
  instances_fine e b r (declaration.Configuration c) h = by (is_first_configuration e) h.0.regions
    where
      by : (f : Bool) → Fine (r ++ flat_map region_of_global (sections_written (configuration_globals c))) (instance_regions decls f c)
          → Fine (r ++ flat_map regions_of (flat_map globals_of_section (configuration_globals c))) (instances_of f (declaration.Configuration c))
      by true k = subst (λ rs. Fine (r ++ rs) (map of_instance c.instances)) (sym (sections_regions (configuration_globals c))) k
      by false k = refl
  instances_fine e b r (declaration.Types l ts) h = nothing (is_first_configuration e)
    where
      nothing : (f : Bool) → Fine (r ++ flat_map regions_of (declarations_of (declaration.Types l ts))) (instances_of f (declaration.Types l ts))
      nothing true = refl
      nothing false = refl
  instances_fine e b r (declaration.Globals s) h = nothing (is_first_configuration e)
    where
      nothing : (f : Bool) → Fine (r ++ flat_map regions_of (declarations_of (declaration.Globals s))) (instances_of f (declaration.Globals s))
      nothing true = refl
      nothing false = refl
  instances_fine e b r (declaration.Interface d) h = nothing (is_first_configuration e)
    where
      nothing : (f : Bool) → Fine (r ++ []) (instances_of f (declaration.Interface d))
      nothing true = refl
      nothing false = refl
  instances_fine e b r (declaration.Class d) h = nothing (is_first_configuration e)
    where
      nothing : (f : Bool) → Fine (r ++ []) (instances_of f (declaration.Class d))
      nothing true = refl
      nothing false = refl
  instances_fine e b r (declaration.Function d) h = nothing (is_first_configuration e)
    where
      nothing : (f : Bool) → Fine (r ++ []) (instances_of f (declaration.Function d))
      nothing true = refl
      nothing false = refl
  instances_fine e b r (declaration.Program d) h = nothing (is_first_configuration e)
    where
      nothing : (f : Bool) → Fine (r ++ []) (instances_of f (declaration.Program d))
      nothing true = refl
      nothing false = refl

  all_fine : (e : List Declaration) (b : List (List ℕ)) (r : List Region) (ds : List (Decl ℕ)) → Every FinePlaced (placed_from e b r ds) → Fine r (regions_from decls e ds)
  all_fine e b r [] h = refl
  all_fine e b r (d ∷ ds) h =
      let own = flat_map regions_of (declarations_of d) in
      let instances = instances_of (is_first_configuration e) d in
      let here = every_front FinePlaced (place_each e b r (declarations_of d)) _ h in
      let rest = every_back FinePlaced (place_each e b r (declarations_of d)) (placed_from (e ++ declarations_of d) (b ++ map (λ n. n.text) (names_put d)) (r ++ (own ++ instances)) ds) h in
      let behind = all_fine (e ++ declarations_of d) (b ++ map (λ n. n.text) (names_put d)) (r ++ (own ++ instances)) ds rest in
      fine_append r own (instances ++ regions_from decls (e ++ declarations_of d) ds) (each_fine e b r (declarations_of d) here)
      (fine_append (r ++ own) instances (regions_from decls (e ++ declarations_of d) ds) (instances_fine e b r d here)
      (subst (λ q. Fine q (regions_from decls (e ++ declarations_of d) ds)) (sym (append_assoc r own instances)) behind))

  pub regions_fine : BreaksNothing decls → Fine [] (unit_regions decls)
  unfolding placed
  regions_fine good = all_fine [] [] [] decls (placed_fine good)

  -- at most 1,024 regions, with at most 131,072 values
  pub regions_few : BreaksNothing decls → length (unit_regions decls) ≤ 1024
  regions_few good = let h = few_regions [] (unit_regions decls) (regions_fine good) (omega arith) in omega (arith, h)

  pub values_few : BreaksNothing decls → total (unit_regions decls) ≤ 131072
  values_few good = let h = few_values [] (unit_regions decls) (regions_fine good) (omega arith) in omega (arith, h)

  at_most : (rs : List Region) (r : ℕ) (x : Region) → slice_get rs r ≡ Some x → region_values decls x ≤ total rs
  at_most [] r x e = cc
  at_most (y ∷ rs) zero x e = let q : y ≡ x = cc in subst (λ z. region_values decls z ≤ total (y ∷ rs)) q (omega arith)
  at_most (y ∷ rs) (suc r) x e = let k = at_most rs r x e in omega (arith, k)

  pub region_few : BreaksNothing decls → (r : ℕ) (x : Region) → slice_get (unit_regions decls) r ≡ Some x → region_values decls x ≤ 131072
  region_few good r x e = let a = at_most (unit_regions decls) r x e in let b = values_few good in omega (arith, a, b)

  -- ---- tasks

  abbrev pub region_runs : List ℕ → Region → Bool
  region_runs task (of_global w) = false
  region_runs task (of_instance x) = runs_in task x

  any_behind : {X : Type 0} (test : X → Bool) (xs ys : List X) → list_any test ys ≡ true → list_any test (xs ++ ys) ≡ true
  any_behind test [] ys h = h
  any_behind test (x ∷ xs) ys h = or-second (test x) (list_any test (xs ++ ys)) (any_behind test xs ys h)

  any_before : {X : Type 0} (test : X → Bool) (xs ys : List X) → list_any test xs ≡ true → list_any test (xs ++ ys) ≡ true
  any_before test [] ys h = cc
  any_before test (x ∷ xs) ys h = elim (either (test x) (list_any test xs) h) [
    | inl p ↦ or-first (test x) (list_any test (xs ++ ys)) p
    | inr p ↦ or-second (test x) (list_any test (xs ++ ys)) (any_before test xs ys p)
  ]

  none_append : {X : Type 0} (test : X → Bool) (xs ys : List X) → list_any test xs ≡ false → list_any test ys ≡ false → list_any test (xs ++ ys) ≡ false
  none_append test [] ys h k = k
  none_append test (x ∷ xs) ys h k = let n = neither (test x) (list_any test xs) h in or-neither (test x) (list_any test (xs ++ ys)) n.0 (none_append test xs ys n.1 k)

  any_instance : (task : List ℕ) (xs : List InstanceSpec) → list_any (runs_in task) xs ≡ true → list_any (region_runs task) (map of_instance xs) ≡ true
  any_instance task [] h = cc
  any_instance task (x ∷ xs) h = elim (either (runs_in task x) (list_any (runs_in task) xs) h) [
    | inl p ↦ or-first (runs_in task x) (list_any (region_runs task) (map of_instance xs)) p
    | inr p ↦ or-second (runs_in task x) (list_any (region_runs task) (map of_instance xs)) (any_instance task xs p)
  ]

  abbrev IsBusy : List Region → TaskSpec → Type 0
  IsBusy rs t = list_any (region_runs t.name.text) rs ≡ true

  -- no declaration but a configuration is one
  none_entry : (ts : List (TypeDecl ℕ)) → list_any is_configuration (map an_entry ts) ≡ false
  none_entry [] = refl
  none_entry (t ∷ ts) = none_entry ts

  none_written : (s : Section ℕ) (item : Item ℕ) (first : Bool) (ws : List Written) → list_any is_configuration (globals_of_item s item first ws) ≡ false
  none_written s item first [] = refl
  none_written s item first (w ∷ ws) = none_written s item false ws

  none_item : (s : Section ℕ) (items : List (Item ℕ)) → list_any is_configuration (flat_map (λ item. globals_of_item s item true (item_written s item)) items) ≡ false
  none_item s [] = refl
  none_item s (item ∷ items) = none_append is_configuration (globals_of_item s item true (item_written s item)) _ (none_written s item true (item_written s item)) (none_item s items)

  no_more : (e xs : List Declaration) → is_first_configuration e ≡ true → list_any is_configuration xs ≡ false → is_first_configuration (e ++ xs) ≡ true
  no_more e xs h k = ap not (none_append is_configuration e xs (false_of (list_any is_configuration e) h) k)
    where
      false_of : (b : Bool) → not b ≡ true → b ≡ false
      false_of true q = cc
      false_of false q = refl

  every_busy : (rs : List Region) (instances : List InstanceSpec) → ((task : List ℕ) → list_any (runs_in task) instances ≡ true → list_any (region_runs task) rs ≡ true) → (ts : List TaskSpec)
      → Every (λ (t : TaskSpec). list_any (runs_in t.name.text) instances ≡ true) ts → Every (IsBusy rs) ts
  every_busy rs instances f [] h = tt
  every_busy rs instances f (t ∷ ts) h = (f t.name.text h.0, every_busy rs instances f ts h.1)

  behind_busy : (xs ys : List Region) (ts : List TaskSpec) → Every (IsBusy ys) ts → Every (IsBusy (xs ++ ys)) ts
  behind_busy xs ys [] h = tt
  behind_busy xs ys (t ∷ ts) h = (any_behind (region_runs t.name.text) xs ys h.0, behind_busy xs ys ts h.1)

  later : (e : List Declaration) (b : List (List ℕ)) (r : List Region) (d : Decl ℕ) (ds : List (Decl ℕ)) → Every FinePlaced (placed_from e b r (d ∷ ds)) → (ts : List TaskSpec)
      → (Every FinePlaced (placed_from (e ++ declarations_of d) (b ++ map (λ n. n.text) (names_put d)) (r ++ (flat_map regions_of (declarations_of d) ++ instances_of (is_first_configuration e) d)) ds) → Every (IsBusy (regions_from decls (e ++ declarations_of d) ds)) ts)
      → Every (IsBusy (regions_from decls e (d ∷ ds))) ts
  later e b r d ds h ts f =
      let own = flat_map regions_of (declarations_of d) in
      let instances = instances_of (is_first_configuration e) d in
      let rest = regions_from decls (e ++ declarations_of d) ds in
      behind_busy own (instances ++ rest) ts (behind_busy instances rest ts (f (every_back FinePlaced (place_each e b r (declarations_of d)) _ h)))

  -- the tasks of the first configuration, each with a program among the regions
  busy_from : (e : List Declaration) (b : List (List ℕ)) (r : List Region) (ds : List (Decl ℕ)) → Every FinePlaced (placed_from e b r ds) → is_first_configuration e ≡ true → Every (IsBusy (regions_from decls e ds)) (tasks_of decls (configurations_in ds))
  busy_from e b r [] h f = tt
  busy_from e b r (declaration.Configuration c ∷ ds) h f =
      let own = flat_map regions_of (flat_map globals_of_section (configuration_globals c)) in
      let rest = regions_from decls (e ++ declarations_of (declaration.Configuration c)) ds in
      let here : Every (IsBusy (own ++ (map of_instance c.instances ++ rest))) c.tasks =
      every_busy (own ++ (map of_instance c.instances ++ rest)) c.instances
      (λ task k. any_behind (region_runs task) own (map of_instance c.instances ++ rest) (any_before (region_runs task) (map of_instance c.instances) rest (any_instance task c.instances k))) c.tasks h.0.tasks in
      subst (λ x. Every (IsBusy (own ++ (instances_of x (declaration.Configuration c) ++ rest))) c.tasks) (sym f) here
  busy_from e b r (declaration.Types l ts ∷ ds) h f = later e b r (declaration.Types l ts) ds h (tasks_of decls (configurations_in ds)) (λ k. busy_from _ _ _ ds k (no_more e (map an_entry ts) f (none_entry ts)))
  busy_from e b r (declaration.Globals s ∷ ds) h f = later e b r (declaration.Globals s) ds h (tasks_of decls (configurations_in ds)) (λ k. busy_from _ _ _ ds k (no_more e (globals_of_section s) f (none_item s s.items)))
  busy_from e b r (declaration.Interface d ∷ ds) h f = later e b r (declaration.Interface d) ds h (tasks_of decls (configurations_in ds)) (λ k. busy_from _ _ _ ds k (no_more e (an_interface d ∷ []) f refl))
  busy_from e b r (declaration.Class d ∷ ds) h f = later e b r (declaration.Class d) ds h (tasks_of decls (configurations_in ds)) (λ k. busy_from _ _ _ ds k (no_more e (a_class d ∷ []) f refl))
  busy_from e b r (declaration.Function d ∷ ds) h f = later e b r (declaration.Function d) ds h (tasks_of decls (configurations_in ds)) (λ k. busy_from _ _ _ ds k (no_more e (a_function d ∷ []) f refl))
  busy_from e b r (declaration.Program d ∷ ds) h f = later e b r (declaration.Program d) ds h (tasks_of decls (configurations_in ds)) (λ k. busy_from _ _ _ ds k (no_more e (a_program d ∷ []) f refl))

  pub tasks_busy : BreaksNothing decls → Every (IsBusy (unit_regions decls)) (tasks_of decls (configurations_in decls))
  unfolding placed
  tasks_busy good = busy_from [] [] [] decls (placed_fine good) refl

  pub a_region : (task : List ℕ) (r : ℕ) (xs : List Region) → list_any (region_runs task) xs ≡ true → (q : ℕ) × Has (region_of_task decls task r xs) q
  a_region task r [] h = cc
  a_region task r (of_global w ∷ xs) h = a_region task (suc r) xs h
  a_region task r (of_instance x ∷ xs) h = by (a_region task (suc r) xs) (runs_in task x) h
    where
      by : (list_any (region_runs task) xs ≡ true → (q : ℕ) × Has (region_of_task decls task (suc r) xs) q) → (b : Bool) → (b || list_any (region_runs task) xs) ≡ true
          → (q : ℕ) × Has (if b then r ∷ region_of_task decls task (suc r) xs else region_of_task decls task (suc r) xs) q
      by f true k = (r, inl refl)
      by f false k = f k
