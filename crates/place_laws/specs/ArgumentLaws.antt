-- No two arguments of a call that breaks no rule go to one parameter.
use Rattle.std.specs.Prelude.{◌≡◌, ℕ, List, []}
use Rattle.st_tree.specs.Expression.{Arguments}
use Rattle.st_rules.specs.declared.names.DeclaredVariable.{DeclaredVariable}
use Rattle.st_rules.specs.Scope.{Scope}
use Rattle.st_rules.specs.Calls.{heads, matches, matching_faults}
use Rattle.st_rules.specs.Expressions.{typed_arguments}
use Rattle.st_values.specs.Program.{Parameter}
use Rattle.st_meaning.specs.st_frame.Promise.Calls.{GivenOnce}

pub record ArgumentLaws : Type 0 where
  pub once : (s : Scope) (line : ℕ) (vs : List DeclaredVariable) (qs : List Parameter) (xs : Arguments ℕ) → matching_faults line vs (heads xs) ≡ [] → GivenOnce qs (typed_arguments s (matches vs (heads xs)) xs)
