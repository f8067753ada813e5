-- The rules of configurations: tasks, settings and program instances (IEC 61131-3:2013, 6.8).
use Rattle.std.specs.Prelude.{ℕ, nat_lt, Bool, not, ◌&&◌, ◌||◌, codes, List, [], ◌∷◌, ◌++◌, map, flat_map}
use Rattle.std.specs.List.{list_any}
use Rattle.plc_text.specs.Words.{same}
use Rattle.plc_text.specs.declared.code.Code.TheVariants.{E05, E15}
use Rattle.st_tree.specs.Number.{number_of}
use Rattle.st_tree.specs.declared.configuration.Configuration.{Configuration}
use Rattle.st_tree.specs.declared.configuration.InstanceSpec.{InstanceSpec}
use Rattle.st_tree.specs.declared.configuration.Setting.{Setting}
use Rattle.st_tree.specs.declared.configuration.SettingValue.{SettingValue}
use Rattle.st_tree.specs.declared.configuration.SettingValue.TheVariants as value
use Rattle.st_tree.specs.declared.configuration.TaskSpec.{TaskSpec}
use Rattle.st_tree.specs.declared.name.Name.{Name}
use Rattle.st_rules.specs.Faults.{Faults, when}
use Rattle.st_rules.specs.Literals.{past_64_bits, time_past_32_bits}
use Rattle.st_rules.specs.Numbered.{each_numbered}
use Rattle.st_unit_rules.specs.NameRules.{is_named}
use Rattle.st_unit_rules.specs.Limits.{too_many_tasks}

-- a configuration behind another one
abbrev pub second_configuration : ℕ → ℕ → Faults
second_configuration line before = when (nat_lt 0 before) E15 line

-- ---- settings of a task: one time INTERVAL and one int PRIORITY

abbrev pub is_interval : List ℕ → Bool
is_interval name = same name (codes "INTERVAL")

abbrev pub is_priority : List ℕ → Bool
is_priority name = same name (codes "PRIORITY")

-- the value is of the kind that the setting has
abbrev pub suits_setting : List ℕ → SettingValue → Bool
suits_setting name (value.Time text) = is_interval name
suits_setting name (value.Int digits) = is_priority name && not (nat_lt 65_535 (number_of digits))

-- another name, another kind of value, a priority above 65,535, or the setting again
abbrev pub bad_setting : List (List ℕ) → Setting → Faults
bad_setting before x = when (not (suits_setting x.name.text x.value) || is_named x.name.text before) E15 x.name.line

abbrev pub setting_past_its_limit : ℕ → SettingValue → Faults
setting_past_its_limit line (value.Int digits) = past_64_bits line (number_of digits)
setting_past_its_limit line (value.Time text) = time_past_32_bits line text

abbrev pub settings_faults : List (List ℕ) → List Setting → Faults
settings_faults before [] = []
settings_faults before (x ∷ xs) = bad_setting before x ++ setting_past_its_limit x.line x.value ++ settings_faults (before ++ x.name.text ∷ []) xs

-- ---- tasks and instances

abbrev pub runs_in : List ℕ → InstanceSpec → Bool
runs_in task x = same x.task.text task

abbrev pub task_without_program : List InstanceSpec → TaskSpec → Faults
task_without_program instances t = when (not (list_any (runs_in t.name.text) instances)) E15 t.line

abbrev pub task_faults : List InstanceSpec → ℕ → TaskSpec → Faults
task_faults instances before t = settings_faults [] t.settings ++ task_without_program instances t ++ too_many_tasks t.line before

abbrev pub not_among : List (List ℕ) → Name → Faults
not_among names n = when (not (is_named n.text names)) E05 n.line

-- `programs` are the names of the programs
abbrev pub instance_faults : List (List ℕ) → List (List ℕ) → InstanceSpec → Faults
instance_faults tasks programs x = not_among tasks x.task ++ not_among programs x.program

unfoldable pub tasks_and_instances : List (List ℕ) → Configuration ℕ → Faults
tasks_and_instances programs c =
    each_numbered (task_faults c.instances) 0 c.tasks
    ++ flat_map (instance_faults (map (λ t. t.name.text) c.tasks) programs) c.instances
