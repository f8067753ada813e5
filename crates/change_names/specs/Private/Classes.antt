-- Classes by number, and the pairs of lists of them.
use Rattle.std.specs.Prelude.{◌≡◌, ℕ, List, [], Option, Some, None, slice_get}
use Rattle.st_values.specs.Program.{Variable, Class, Program, class_at}
use Rattle.program_tables.specs.declared.st_initial.variables.Variable as held
use Rattle.program_tables.specs.st_initial.Members.{items_at}
use Rattle.program_tables.specs.st_initial.Variables.{variables_of}
use Rattle.st_change.specs.From.{Pairs, own_pairs}
use Rattle.change_names.specs.declared.change_pairs.sources.Pair.{Pair}
use Rattle.change_names.specs.change_pairs.Pairs.{pairs_of}

abbrev pub class_by : Program → Option ℕ → Option Class
class_by p None = None
class_by p (Some c) = class_at p c

abbrev pub listed_at : Option (List held.Variable) → List Variable
listed_at o = variables_of (items_at o)

abbrev pub pairs_in : Option (List Pair) → Pairs
pairs_in None = []
pairs_in (Some ps) = pairs_of ps

abbrev pub own_pairs_at : List (List Pair) → ℕ → Pairs
own_pairs_at all c = pairs_in (slice_get all c)

-- the pairs of what each class declares itself
pub record AreOwnPairs (old new : Program) (all : List (List Pair)) : Type 0 where
  pub by : (c : ℕ) → own_pairs_at all c ≡ own_pairs old (class_at new c)
