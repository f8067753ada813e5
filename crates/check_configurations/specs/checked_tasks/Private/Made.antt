-- What is made of a task.
use Rattle.std.specs.Prelude.{◌≡◌, ℕ, List, Option, IfSome}
use Rattle.std.specs.Option.{is_some}
use Rattle.st_tree.specs.declared.configuration.TaskSpec.{TaskSpec}
use Rattle.st_tree.specs.declared.program.TaskDecl.{TaskDecl}
use Rattle.st_tree.specs.declared.unit.Decl.{Decl}
use Rattle.st_unit_rules.specs.Checked.{TypedTask, unit_regions}
use Rattle.check_configurations.specs.declared.checked_tasks.groups.TaskRegions.{TaskRegions}
use Rattle.check_configurations.specs.checked_tasks.Private.Groups.{Groups}
use Rattle.check_configurations.specs.checked_tasks.Tasks.{values_fit}

pub record ChecksTask (groups : TaskRegions) (task : TaskSpec) (made : Option TaskDecl) : Type 0 where
  pub fits : (decls : List (Decl ℕ)) → is_some made ≡ values_fit decls task
  pub typed : (decls : List (Decl ℕ)) → Groups groups (unit_regions decls) → IfSome made (TypedTask decls task)
