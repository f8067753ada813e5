-- In which order what is given to the variables of an instance may be written.
use Rattle.std.specs.Prelude.{◌≡◌, ◌≢◌, ℕ, List, ◌∷◌, Option}
use Rattle.st_tree.specs.declared.path.Path.{Path}
use Rattle.st_values.specs.Value.{Value}
use Rattle.st_meaning.specs.State.{Frame, State, ◌>>=◌, push}
use Rattle.st_meaning.specs.Call.{Given, for_variable, set_variables}

pub record WriteLaws : Type 0 where
  -- of two variables either may be the first
  pub commute : (own : Option Path) (j k : ℕ) (a b : Value) (xs : List Given) (line : ℕ) (s : State) → j ≢ k → set_variables own (for_variable j a ∷ (for_variable k b ∷ xs)) line s ≡ set_variables own (for_variable k b ∷ (for_variable j a ∷ xs)) line s
  -- and all of them may be written once the frame is there
  pub behind_frame : (own : Option Path) (given : List Given) (f : Frame) (line : ℕ) (s : State) → (set_variables own given >>= λ _. push f) line s ≡ (push f >>= λ _. set_variables own given) line s
