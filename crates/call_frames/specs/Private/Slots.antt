-- What is given to a variable.
use Rattle.std.specs.Prelude.{ℕ, Option}
use Rattle.st_tree.specs.declared.path.Step.TheVariants as step
use Rattle.st_values.specs.Value.{Path, Value}
use Rattle.st_meaning.specs.State.{in_store, Run, ◌>>=◌, there, into, write}

-- an input of a block
abbrev pub one_variable : Option Path → ℕ → Value → Run (Unit {0})
one_variable own k v = do
  q ← there own
  write (into (in_store q) (step.Field k)) v
