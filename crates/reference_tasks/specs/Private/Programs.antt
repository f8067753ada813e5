-- The programs of a task one by one.
use Rattle.std.specs.Prelude.{ℕ, List, [], ◌∷◌, Some}
use Rattle.st_values.specs.Program.{Routine, Program}
use Rattle.st_meaning.specs.State.{Frame, Run, ◌>>=◌, ◌>>◌, gives, there, pop}
use Rattle.st_meaning.specs.Enter.{enter, program_body}
use Rattle.st_meaning.specs.Statement.{effects}

-- the statements of a routine in a call that is open, and the end of the call
abbrev pub body_run : Program → ℕ → Routine → Run Frame
body_run p room r = do
  effects p (enter p room) r.body
  pop

module _ (p : Program) (room : ℕ) where
  -- the program of a region, where so many calls may be open with it
  abbrev pub one_program : ℕ → Run (Unit {0})
  one_program r = do
    body ← there (program_body p r)
    frame ← enter p room body (Some (record { region = r; steps = [] })) []
    gives tt

  -- programs in order
  abbrev pub in_order : List ℕ → Run (Unit {0})
  in_order [] = gives tt
  in_order (r ∷ rs) = do
    one_program r
    in_order rs
