-- Settings one by one, and the values of those that break no rule.
use Rattle.std.proofs.Common.{◌≡◌, ℕ, suc, ◌+◌, ◌<◌, ◌≤◌, Bool, true, false, List, [], ◌∷◌, ◌++◌, Option, Some, None, length, get_or, drop, map, refl, sym, ap, ◌∙◌, arith}
use Rattle.std.specs.Prelude.{flat_map, nat_lt, not, if◌then◌else◌, pos}
use Rattle.std.specs.List.{list_all}
use Rattle.std.proofs.lemmas.Grind.{common_steps}
use Rattle.plc_text.specs.declared.code.Code.{Code}
use Rattle.plc_text.specs.declared.code.Code.TheVariants.{E15}
use Rattle.st_types.specs.declared.elem.Elem.TheVariants as kind
use Rattle.st_tree.specs.Duration.{milliseconds}
use Rattle.st_tree.specs.Number.{number_of}
use Rattle.st_tree.specs.declared.configuration.Configuration.{Configuration}
use Rattle.st_tree.specs.declared.configuration.InstanceSpec.{InstanceSpec}
use Rattle.st_tree.specs.declared.configuration.Setting.{Setting}
use Rattle.st_tree.specs.declared.configuration.SettingValue.{SettingValue}
use Rattle.st_tree.specs.declared.configuration.SettingValue.TheVariants as value
use Rattle.st_tree.specs.declared.configuration.TaskSpec.{TaskSpec}
use Rattle.st_tree.specs.declared.unit.Decl.{Decl}
use Rattle.st_rules.specs.Faults.{when}
use Rattle.st_rules.specs.Literals.{holds, time_past_32_bits}
use Rattle.st_rules.specs.Numbered.{each_numbered}
use Rattle.st_rules.proofs.Booleans.{both, and-both, neither}
use Rattle.st_rules.proofs.ListLaws.{drop-at, drop-end}
use Rattle.st_unit_rules.specs.Checked.{setting_value}
use Rattle.st_unit_rules.specs.ConfigurationRules.{is_interval, is_priority, suits_setting, bad_setting, setting_past_its_limit, settings_faults, task_without_program, task_faults, instance_faults, tasks_and_instances}
use Rattle.st_unit_rules.specs.Limits.{too_many_tasks}
use Rattle.st_unit_rules.specs.NameRules.{is_named}
use Rattle.check_configurations.specs.checked_tasks.Private.Settings.{number_in, fitting}
use Rattle.check_configurations.specs.checked_tasks.Tasks.{fits_32_bits, values_fit}

-- ---- the loop over the settings

-- no setting that was looked at passes
pub record SettingsTo (test : List ℕ → Bool) (xs : List Setting) (i : ℕ) : Type 0 where
  pub rest : (decls : List (Decl ℕ)) → setting_value decls test (drop i xs) ≡ setting_value decls test xs

step : (decls : List (Decl ℕ)) (test : List ℕ → Bool) (x : Setting) (xs : List Setting) → setting_value decls test (x ∷ xs) ≡ (if test x.name.text then Some (number_in x.value) else setting_value decls test xs)
step decls test x xs = refl

pub settings_begun : (test : List ℕ → Bool) (xs : List Setting) → SettingsTo test xs 0
settings_begun test xs = record { rest = λ decls. refl }

module _ (test : List ℕ → Bool) (xs : List Setting) (i : ℕ) (x : Setting) (l : i < length xs) (e : x ≡ get_or xs i x) (t : SettingsTo test xs i) where
  here : (decls : List (Decl ℕ)) (b : Bool) → b ≡ test x.name.text → (if b then Some (number_in x.value) else setting_value decls test (drop (i + 1) xs)) ≡ setting_value decls test xs
  here decls b h =
      ap (λ (a : Bool). if a then Some (number_in x.value) else setting_value decls test (drop (i + 1) xs)) h ∙ sym (step decls test x (drop (i + 1) xs))
      ∙ ap (setting_value decls test) (sym (drop-at xs i x l e)) ∙ t.rest decls

  pub settings_next : (b : Bool) → b ≡ test x.name.text → b ≡ false → SettingsTo test xs (i + 1)
  settings_next b h f = record { rest = λ decls. here decls false (sym f ∙ h) }

  pub settings_found : (b : Bool) (r : Option (Option ℕ)) → b ≡ test x.name.text → b ≡ true → r ≡ fitting (Some (number_in x.value)) → (decls : List (Decl ℕ)) → r ≡ fitting (setting_value decls test xs)
  settings_found b r h f g decls = g ∙ ap fitting (here decls true (sym f ∙ h))

pub settings_ended : (test : List ℕ → Bool) (xs : List Setting) (i : ℕ) → length xs ≤ i → SettingsTo test xs i → (decls : List (Decl ℕ)) → Some None ≡ fitting (setting_value decls test xs)
settings_ended test xs i l t decls = ap (λ ys. fitting (setting_value decls test ys)) (sym (drop-end xs i l)) ∙ ap fitting (t.rest decls)

-- ---- settings that break no rule

none_first : {X : Type 0} (xs ys : List X) → xs ++ ys ≡ [] → xs ≡ []
none_first [] ys h = refl
none_first (x ∷ xs) ys h = cc

none_second : {X : Type 0} (xs ys : List X) → xs ++ ys ≡ [] → ys ≡ []
none_second [] ys h = h
none_second (x ∷ xs) ys h = cc

unbroken : (b : Bool) (e : Code) (l : ℕ) → when b e l ≡ [] → b ≡ false
unbroken true e l h = cc
unbroken false e l h = refl

passes : (b : Bool) → not b ≡ false → b ≡ true
passes true h = refl
passes false h = cc

small : (n : ℕ) → not (nat_lt 65_535 n) ≡ true → nat_lt n 4_294_967_296 ≡ true
small n h = grind (arith, common_steps)

in_32_bits : (n : ℕ) → holds kind.Time (pos n) ≡ true → nat_lt n 4_294_967_296 ≡ true
in_32_bits n h = grind (arith, common_steps)

value_fits : (name : List ℕ) (line : ℕ) (v : SettingValue) → suits_setting name v ≡ true → setting_past_its_limit line v ≡ [] → nat_lt (number_in v) 4_294_967_296 ≡ true
unfolding time_past_32_bits
value_fits name line (value.Int digits) h k = small (number_of digits) ((both (is_priority name) _ h).1)
value_fits name line (value.Time text) h k = in_32_bits (milliseconds text) (passes _ (unbroken _ _ line k))

pick_fits : (b : Bool) (n : ℕ) (rest : Option ℕ) → nat_lt n 4_294_967_296 ≡ true → fits_32_bits rest ≡ true → fits_32_bits (if b then Some n else rest) ≡ true
pick_fits true n rest h k = h
pick_fits false n rest h k = k

all_fit : (decls : List (Decl ℕ)) (test : List ℕ → Bool) (before : List (List ℕ)) (xs : List Setting) → settings_faults before xs ≡ [] → fits_32_bits (setting_value decls test xs) ≡ true
all_fit decls test before [] h = refl
all_fit decls test before (x ∷ xs) h =
    let first = none_first (bad_setting before x ++ setting_past_its_limit x.line x.value) (settings_faults (before ++ x.name.text ∷ []) xs) h in
    let rest = none_second (bad_setting before x ++ setting_past_its_limit x.line x.value) (settings_faults (before ++ x.name.text ∷ []) xs) h in
    let bad = none_first (bad_setting before x) (setting_past_its_limit x.line x.value) first in
    let past = none_second (bad_setting before x) (setting_past_its_limit x.line x.value) first in
    let suits = passes (suits_setting x.name.text x.value) ((neither (not (suits_setting x.name.text x.value)) (is_named x.name.text before) (unbroken _ E15 x.name.line bad)).0) in
    pick_fits (test x.name.text) (number_in x.value) (setting_value decls test xs) (value_fits x.name.text x.line x.value suits past) (all_fit decls test (before ++ x.name.text ∷ []) xs rest)

pub settings_fit : (decls : List (Decl ℕ)) (t : TaskSpec) → settings_faults [] t.settings ≡ [] → values_fit decls t ≡ true
settings_fit decls t h = and-both _ _ (all_fit decls is_interval [] t.settings h) (all_fit decls is_priority [] t.settings h)

tasks_fit : (decls : List (Decl ℕ)) (instances : List InstanceSpec) (n : ℕ) (ts : List TaskSpec) → each_numbered (task_faults instances) n ts ≡ [] → list_all (values_fit decls) ts ≡ true
tasks_fit decls instances n [] h = refl
tasks_fit decls instances n (t ∷ ts) h =
    let this = none_first (task_faults instances n t) (each_numbered (task_faults instances) (suc n) ts) h in
    let rest = none_second (task_faults instances n t) (each_numbered (task_faults instances) (suc n) ts) h in
    let settings = none_first (settings_faults [] t.settings) (task_without_program instances t) (none_first (settings_faults [] t.settings ++ task_without_program instances t) (too_many_tasks t.line n) this) in
    and-both _ _ (settings_fit decls t settings) (tasks_fit decls instances (suc n) ts rest)

pub configured_tasks_fit : (decls : List (Decl ℕ)) (programs : List (List ℕ)) (c : Configuration ℕ) → tasks_and_instances programs c ≡ [] → list_all (values_fit decls) c.tasks ≡ true
unfolding tasks_and_instances
configured_tasks_fit decls programs c h =
    tasks_fit decls c.instances 0 c.tasks (none_first (each_numbered (task_faults c.instances) 0 c.tasks) (flat_map (instance_faults (map (λ (t : TaskSpec). t.name.text) c.tasks) programs) c.instances) h)
