-- The numbers of the instances among regions, a list for each task.
use Rattle.std.specs.Prelude.{◌≡◌, ℕ, List, length}
use Rattle.std.specs.Map.{keys_of}
use Rattle.st_tree.specs.declared.unit.Decl.{Decl}
use Rattle.st_unit_rules.specs.declared_names.Declarations.{Region}
use Rattle.st_unit_rules.specs.Checked.{region_of_task}
use Rattle.check_configurations.specs.declared.checked_tasks.groups.TaskRegions.{TaskRegions}
use Rattle.check_configurations.specs.checked_tasks.Private.Lists.{numbers_in}

pub record Groups (t : TaskRegions) (regions : List Region) : Type 0 where
  pub long : length t.numbers.items ≡ length (keys_of t.tasks)
  pub is : (decls : List (Decl ℕ)) (task : List ℕ) → numbers_in (keys_of t.tasks) t.numbers.items task ≡ region_of_task decls task 0 regions
