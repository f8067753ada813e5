-- Names that tasks and instances have.
use Rattle.std.specs.Prelude.{ℕ, List, map}
use Rattle.st_tree.specs.declared.configuration.InstanceSpec.{InstanceSpec}
use Rattle.st_tree.specs.declared.configuration.Setting.{Setting}
use Rattle.st_tree.specs.declared.configuration.TaskSpec.{TaskSpec}

abbrev pub setting_names : List Setting → List (List ℕ)
setting_names xs = map (λ x. x.name.text) xs

abbrev pub task_names : List TaskSpec → List (List ℕ)
task_names ts = map (λ t. t.name.text) ts

-- the tasks with which instances run
abbrev pub tasks_run : List InstanceSpec → List (List ℕ)
tasks_run xs = map (λ x. x.task.text) xs
