-- The own instance as a spot, and where a value leads.
use Rattle.std.specs.Prelude.{◌≡◌, ℕ, Option, Some, None, Result, Ok, Err}
use Rattle.plc_text.specs.declared.fault.FaultKind.TheVariants.{Null}
use Rattle.st_tree.specs.declared.path.Path.{Path}
use Rattle.st_meaning.specs.State.{Spot, in_store, Run, ◌>>=◌, gives, own}
use Rattle.run_state.specs.declared.state.Stop.{Stop}
use Rattle.run_state.specs.declared.state.Stop.TheVariants as stop

abbrev pub own_spot : Run Spot
own_spot = do
  q ← own
  gives (in_store q)

-- the path that is there, or a fault at the line
abbrev pub Leads : Result Path Stop → ℕ → Option Path → Type 0
Leads (Ok q) line o = o ≡ Some q
Leads (Err (stop.Fault f)) line o = (o ≡ None) × (f.kind ≡ Null) × (f.line ≡ line)
Leads (Err stop.NoMemory) line o = Unit {0}
