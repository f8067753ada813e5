-- The in-outs of a body that is entered with those of the one that runs, one by one.
use Rattle.std.specs.Prelude.{◌≡◌, ℕ, if◌then◌else◌, List, [], ◌∷◌, ◌++◌, Result, Ok, Err}
use Rattle.st_values.specs.Program.{Parameter}
use Rattle.st_meaning.specs.State.{bound, State, Outcome, Done, Fault, Run, ◌>>=◌, gives, local_spot}
use Rattle.st_meaning.specs.Call.{Given, for_local, number_to, is_in_out}
use Rattle.run_state.specs.declared.state.Stop.{Stop}
use Rattle.run_state.specs.declared.state.Stop.TheVariants as stop

abbrev pub same_one : ℕ → Run Given
same_one n = do
  spot ← local_spot n
  gives (for_local n (bound spot))

abbrev pub alone : Run Given → Run (List Given)
alone m = do
  g ← m
  gives (g ∷ [])

-- what one parameter adds
abbrev pub same_of : Parameter → Run (List Given)
same_of q = if is_in_out q.sort then alone (same_one (number_to q.to)) else gives []

-- what is found stands behind what was found before, and nothing else changes
abbrev pub SameAdds : Result (Unit {0}) Stop → Outcome (List Given) → State → List Given → List Given → Type 0
SameAdds (Ok a) o s before after = (found : List Given) × (o ≡ Done found s) × (after ≡ before ++ found)
SameAdds (Err (stop.Fault f)) o s before after = o ≡ Fault f.kind f.line
SameAdds (Err stop.NoMemory) o s before after = Unit {0}
