-- Arguments, from what is found out about their values and places.
use Rattle.std.specs.Prelude.{◌≡◌, ℕ, List, ◌++◌}
use Rattle.st_tree.specs.declared.expression.Root.{Root}
use Rattle.st_tree.specs.declared.program.Target.TheVariants.{Nothing}
use Rattle.st_tree.specs.Expression.{Expression, expression_of, Selectors, place_of, Positional, Input, Output, argument_of}
use Rattle.st_rules.specs.Faults.{least, earlier}
use Rattle.st_rules.specs.Scope.{Scope}
use Rattle.st_rules.specs.Places.{root_line, whole_faults, target_faults, place_type}
use Rattle.st_rules.specs.Calls.{Matched, matched_type, output_unsuited}
use Rattle.st_rules.specs.Expressions.{note, matched_target, given_unsuited}
use Rattle.check_nodes.specs.declared.found.Checked.{Checked}
use Rattle.check_nodes.specs.declared.lists.CheckedArgument.{CheckedArgument}
use Rattle.check_nodes.specs.declared.wholes.CheckedPlace.{CheckedPlace}

pub record GivesPositional (x : CheckedArgument) (s : Scope) (m : Matched) (e : Expression ℕ) (value : Checked) : Type 0 where
  pub least : x.least ≡ earlier value.least (least (given_unsuited s m e value.told))
  pub tree : argument_of x.argument ≡ Positional (expression_of value.tree)

pub record GivesInput (x : CheckedArgument) (s : Scope) (m : Matched) (line : ℕ) (name : List ℕ) (e : Expression ℕ) (value : Checked) : Type 0 where
  pub least : x.least ≡ earlier value.least (least (given_unsuited s m e value.told))
  pub tree : argument_of x.argument ≡ Input (note line (matched_type m) (matched_target m)) name (expression_of value.tree)

pub record GivesOutput (x : CheckedArgument) (s : Scope) (m : Matched) (line : ℕ) (name : List ℕ) (place_line : ℕ) (r : Root ℕ) (ss : Selectors ℕ) (place : CheckedPlace) : Type 0 where
  pub least : x.least ≡ earlier place.least (least (whole_faults s r ss ++ target_faults s r ss ++ output_unsuited s (root_line r) (matched_type m) (place_type s r ss)))
  pub tree : argument_of x.argument ≡ Output (note line (matched_type m) (matched_target m)) name (note place_line (place_type s r ss) Nothing) (place_of place.place).0 (place_of place.place).1
