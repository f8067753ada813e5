-- What the walk finds out about places and arguments.
use Rattle.std.specs.Prelude.{◌≡◌, ℕ, Bool, List, ◌++◌}
use Rattle.st_tree.specs.declared.expression.Root.{Root}
use Rattle.st_tree.specs.Expression.{Selectors, place_of, Arguments, arguments_of}
use Rattle.st_rules.specs.Faults.{least}
use Rattle.st_rules.specs.Scope.{Scope}
use Rattle.st_rules.specs.Places.{root_line, root_standing}
use Rattle.st_rules.specs.Calls.{Matched}
use Rattle.st_rules.specs.Expressions.{along_faults, argument_faults, typed_root, typed_along, typed_arguments}
use Rattle.check_nodes.specs.declared.lists.Arguments.{Arguments as SoFar}
use Rattle.check_nodes.specs.declared.wholes.CheckedPlace.{CheckedPlace}
use Rattle.check_nodes.specs.Wholes.{root_part}

-- what a place breaks by its root and its selectors, and their typed trees, where a call stands behind it or not
pub record PlaceFinds (x : CheckedPlace) (s : Scope) (called : Bool) (r : Root ℕ) (ss : Selectors ℕ) : Type 0 where
  pub broken : x.least ≡ least (root_part s called r ss ++ along_faults s (root_line r) called (root_standing s r ss) ss)
  pub tree : place_of x.place ≡ (typed_root s called r ss, typed_along s called (root_standing s r ss) ss)

-- what arguments break by themselves, each with the parameter that it is for, and their typed trees
pub record ArgumentsFind (x : SoFar) (s : Scope) (ms : List Matched) (xs : Arguments ℕ) : Type 0 where
  pub broken : x.least ≡ least (argument_faults s ms xs)
  pub tree : arguments_of x.arguments ≡ typed_arguments s ms xs
