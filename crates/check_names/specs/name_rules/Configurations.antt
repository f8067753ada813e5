-- Names of a configuration, of its tasks and instances.
use Rattle.std.specs.Prelude.{ℕ, List, ◌∷◌, map}
use Rattle.st_tree.specs.declared.configuration.Configuration.{Configuration}
use Rattle.st_tree.specs.declared.configuration.InstanceSpec.{InstanceSpec}
use Rattle.st_tree.specs.declared.configuration.TaskSpec.{TaskSpec}
use Rattle.st_tree.specs.declared.name.Name.{Name}
use Rattle.st_rules.specs.Faults.{Faults}
use Rattle.st_unit_rules.specs.declared_names.Declarations.{configuration_globals}
use Rattle.st_unit_rules.specs.NameRules.{texts, section_names, name_of_conversion}

abbrev pub instance_names : List InstanceSpec → List Name
instance_names xs = map (λ x. x.name) xs

abbrev pub task_names : List TaskSpec → List Name
task_names ts = map (λ t. t.name) ts

abbrev pub conversion_of_instance : InstanceSpec → Faults
conversion_of_instance x = name_of_conversion x.name

-- those of the configuration and its globals
abbrev pub own_texts : Configuration ℕ → List (List ℕ)
own_texts c = c.name.text ∷ texts (section_names (configuration_globals c))
