-- What a block leaves in the variables of its instance.
use Rattle.std.specs.Prelude.{ℕ, Option}
use Rattle.st_tree.specs.declared.path.Step.TheVariants as step
use Rattle.st_values.specs.Value.{Path, Value}
use Rattle.st_meaning.specs.State.{in_store, Run, ◌>>=◌, there, into, read}

-- the value of a variable of the instance
abbrev pub variable_value : Option Path → ℕ → Run Value
variable_value own k = do
  q ← there own
  read (into (in_store q) (step.Field k))
