-- How statements go on, and loops (IEC 61131-3:2013, 7.3.3.4).
use Rattle.std.specs.Prelude.{ℕ, zero, suc, Bool, if◌then◌else◌}
use Rattle.plc_text.specs.declared.fault.FaultKind.TheVariants as fault
use Rattle.st_meaning.specs.State.{Run, ◌>>=◌, ◌>>◌, gives, fails, spend}

pub data Flow : Type 0 where
  goes_on exits continues returns : Flow

-- the statement behind comes only where nothing leaves
abbrev pub unless_left : Flow → Run Flow → Run Flow
unless_left goes_on rest = rest
unless_left exits rest = gives exits
unless_left continues rest = gives continues
unless_left returns rest = gives returns

-- what a loop does after a turn
abbrev pub after_turn : Flow → Run Flow → Run Flow
after_turn goes_on again = again
after_turn continues again = again
after_turn exits again = gives goes_on
after_turn returns again = gives returns

-- ---- WHILE and FOR

-- A tick, the test, and where it holds the body and what follows.
abbrev pub turn : Run Bool → Run Flow → Run Flow → Run Flow
turn test body again = do
  spend
  holds ← test
  if holds then (do flow ← body; after_turn flow again) else gives goes_on

-- at most so many turns
abbrev pub turns : ℕ → Run Bool → Run Flow → Run Flow
turns zero test body = fails fault.Watchdog
turns (suc n) test body = turn test body (turns n test body)

-- each turn spends a tick, so as many turns as there are ticks left are enough
abbrev pub loop : Run Bool → Run Flow → Run Flow
loop test body = λ line s. turns s.ticks test body line s

-- ---- REPEAT

-- The body, a tick, the test, and where it does not hold what follows.
abbrev pub turn_until : Run Flow → Run Bool → Run Flow → Run Flow
turn_until body test again = do
  flow ← body
  after_turn flow (do spend; holds ← test; if holds then gives goes_on else again)

abbrev pub turns_until : ℕ → Run Flow → Run Bool → Run Flow
turns_until zero body test = fails fault.Watchdog
turns_until (suc n) body test = turn_until body test (turns_until n body test)

-- each turn but a last one spends a tick
abbrev pub loop_until : Run Flow → Run Bool → Run Flow
loop_until body test = λ line s. turns_until (suc s.ticks) body test line s
