-- One turn of a loop: with nothing to say the loop goes on, else it ends so.
use Rattle.std.specs.Prelude.{ℤ, Bool, true, false, List, if◌then◌else◌, Option, Some, None}
use Rattle.st_types.specs.declared.elem.Elem.{Elem}
use Rattle.st_tree.specs.declared.program.Note.{Note}
use Rattle.st_tree.specs.declared.statement.Label.{Label}
use Rattle.st_tree.specs.Expression.{Expression}
use Rattle.st_tree.specs.Statement.{Statements, Branches, no_branches, branch_then, Cases, no_cases, case_then}
use Rattle.st_values.specs.Program.{Program}
use Rattle.st_values.specs.Value.{Value, number}
use Rattle.st_meaning.specs.State.{Spot, Run, ◌>>=◌, ◌>>◌, gives, spend, read, write}
use Rattle.st_meaning.specs.Operation.{number_in, is_true}
use Rattle.st_meaning.specs.Call.{Enter}
use Rattle.st_meaning.specs.Expression.{value}
use Rattle.st_meaning.specs.Loop.{Flow, goes_on, exits, continues, returns}
use Rattle.st_meaning.specs.Statement.{within, then_step, add_step, hold, step_value, effects}
use Rattle.reference_bodies.specs.declared.bodies.Limits.{Limits}

-- whether the next statement comes
abbrev pub is_on : Flow → Bool
is_on goes_on = true
is_on _ = false

-- how a loop ends after a turn, if it does
abbrev pub end_of : Flow → Option Flow
end_of goes_on = None
end_of continues = None
end_of exits = Some goes_on
end_of returns = Some returns

-- how it ended
abbrev pub ended : Option Flow → Flow
ended None = goes_on
ended (Some flow) = flow

-- a tick, and then out of the statements
abbrev pub leaves : Flow → Run Flow
leaves flow = do
  spend
  gives flow

abbrev pub one_turn : Run Bool → Run Flow → Run (Option Flow)
one_turn test body = do
  spend
  holds ← test
  if holds then (do flow ← body; gives (end_of flow)) else gives (Some goes_on)

-- the test behind a turn of REPEAT, where nothing left it
abbrev pub tested : Run Bool → Option Flow → Run (Option Flow)
tested test (Some flow) = gives (Some flow)
tested test None = do
  spend
  holds ← test
  gives (if holds then Some goes_on else None)

abbrev pub one_turn_until : Run Flow → Run Bool → Run (Option Flow)
one_turn_until body test = do
  flow ← body
  tested test (end_of flow)

-- the test of FOR
abbrev pub is_within : Run Spot → ℤ → ℤ → Run Bool
is_within place end step = do
  spot ← place
  v ← read spot
  gives (within step end (number_in v))

-- a turn of FOR with its step
abbrev pub counted : Elem → Run Spot → ℤ → Run Flow → Run Flow
counted e place step body = do
  flow ← body
  then_step flow (add_step e step place)

abbrev pub condition : Program → Enter → Expression Note → Run Bool
condition p enter e = do
  v ← value p enter e
  gives (is_true v)

-- ---- IF and CASE

abbrev pub some_flow : Run Flow → Run (Option Flow)
some_flow m = do
  flow ← m
  gives (Some flow)

-- what a branch did, or what stands behind the branches does
abbrev pub or_else : Run Flow → Option Flow → Run Flow
or_else otherwise None = otherwise
or_else otherwise (Some flow) = gives flow

-- what stands behind, where a branch did nothing
abbrev pub or_next : Option Flow → Run (Option Flow) → Run (Option Flow)
or_next None rest = rest
or_next (Some flow) rest = gives (Some flow)

-- the variable of FOR has its first value
abbrev pub begins : Run Spot → ℤ → Run (Unit {0})
begins place first = do
  spot ← place
  write spot (number first)

module _ (p : Program) (enter : Enter) where
  -- a tick, and the number behind CASE, or the first one of FOR
  abbrev pub case_number : Expression Note → Run ℤ
  case_number e = do
    spend
    v ← value p enter e
    gives (number_in v)

  -- the end and the step of FOR
  abbrev pub limits : Expression Note → Option (Expression Note) → Run Limits
  limits to by = do
    end ← value p enter to
    step ← step_value p enter by
    gives (record { end = number_in end; step = step })

  -- what a branch does, where its condition holds
  abbrev pub one_branch : Expression Note → Statements Note → Run (Option Flow)
  one_branch e body = do
    holds ← condition p enter e
    if holds then some_flow (effects p enter body) else gives None

  -- what a case does, where one of its labels holds the value
  abbrev pub one_case : ℤ → List (Label Note) → Statements Note → Run (Option Flow)
  one_case z labels body = if hold labels z then some_flow (effects p enter body) else gives None

  -- what the first branch does whose condition holds, if there is one
  abbrev pub in_branch : Branches Note → Run (Option Flow)
  in_branch no_branches = gives None
  in_branch (branch_then e body branches) = do
    end ← one_branch e body
    or_next end (in_branch branches)

  -- what the first case does that holds the value, if there is one
  abbrev pub in_case : ℤ → Cases Note → Run (Option Flow)
  in_case z no_cases = gives None
  in_case z (case_then labels body cases) = do
    end ← one_case z labels body
    or_next end (in_case z cases)
