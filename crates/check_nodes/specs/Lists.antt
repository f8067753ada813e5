-- Indices and arguments, one after the other.
use Rattle.std.specs.Prelude.{◌≡◌, ℕ, [], ◌∷◌, ◌++◌, map, None}
use Rattle.st_tree.specs.Expression.{expression_of, argument_of}
use Rattle.st_rules.specs.Faults.{least, earlier}
use Rattle.st_rules.specs.Expressions.{index_unsuited}
use Rattle.check_nodes.specs.declared.found.Checked.{Checked}
use Rattle.check_nodes.specs.declared.lists.Indices.{Indices}
use Rattle.check_nodes.specs.declared.lists.Arguments.{Arguments}
use Rattle.check_nodes.specs.declared.lists.CheckedArgument.{CheckedArgument}

pub record NoIndex (x : Indices) : Type 0 where
  pub least : x.least ≡ None
  pub expressions : map expression_of x.expressions ≡ []

pub record AddsIndex (x before : Indices) (line : ℕ) (one : Checked) : Type 0 where
  pub least : x.least ≡ earlier (earlier before.least one.least) (least (index_unsuited line one.told))
  pub expressions : map expression_of x.expressions ≡ map expression_of before.expressions ++ expression_of one.tree ∷ []

pub record NoArgument (x : Arguments) : Type 0 where
  pub least : x.least ≡ None
  pub arguments : map argument_of x.arguments ≡ []

pub record AddsArgument (x before : Arguments) (one : CheckedArgument) : Type 0 where
  pub least : x.least ≡ earlier before.least one.least
  pub arguments : map argument_of x.arguments ≡ map argument_of before.arguments ++ argument_of one.argument ∷ []
