-- Parts of loops make no ticks.
use Rattle.std.proofs.Common.{ℕ, ℤ, Bool, true, false, le_refl}
use Rattle.std.specs.Prelude.{if◌then◌else◌}
use Rattle.plc_text.specs.declared.fault.FaultKind.TheVariants as fault
use Rattle.st_types.specs.declared.elem.Elem.{Elem}
use Rattle.st_tree.specs.declared.program.Target.{Target}
use Rattle.st_tree.specs.declared.program.Target.TheVariants as target
use Rattle.st_tree.specs.declared.path.Step.TheVariants as step
use Rattle.st_tree.specs.Expression.{Expression}
use Rattle.st_tree.specs.Statement.{Statements}
use Rattle.st_tree.specs.declared.program.Note.{Note}
use Rattle.st_values.specs.Program.{Program}
use Rattle.st_values.specs.Value.{Value, value_at, value_with, member}
use Rattle.st_meaning.specs.State.{Spot, in_store, in_frame, State, Run, ◌>>=◌, gives, there, region_value, set_region, local_value, set_local, frame_at, frame_value, own, own_in, local_spot, local_spot_in, into, read, write}
use Rattle.st_meaning.specs.Operation.{is_true}
use Rattle.st_meaning.specs.Place.{named_spot}
use Rattle.st_meaning.specs.Enter.{enter}
use Rattle.st_meaning.specs.Expression.{value}
use Rattle.st_meaning.specs.Loop.{Flow, goes_on, exits, continues, returns}
use Rattle.st_meaning.specs.Statement.{effects, then_step, add_step}
use Rattle.st_meaning.specs.Laws.{Falls}
use Rattle.st_meaning.proofs.Ticks.{then_falls, gives_falls, fails_falls, some_falls, ticks_fall}
use Rattle.reference_bodies.specs.Private.Turns.{is_within, counted, condition}

-- ---- spots

set_region_falls : (r : ℕ) (v : Value) → Falls (set_region r v)
set_region_falls r v = record { by = λ line s. le_refl s.ticks }

set_local_falls : (d n : ℕ) (v : Value) → Falls (set_local d n v)
set_local_falls d n v = record { by = λ line s. le_refl s.ticks }

region_falls : (r : ℕ) → Falls (region_value r)
region_falls r = record { by = λ line s. (some_falls fault.Null (member s.store r)).by line s }

local_falls : (d n : ℕ) → Falls (local_value d n)
local_falls d n = record { by = λ line s. (some_falls fault.Null (frame_value (frame_at s.frames d) n)).by line s }

own_falls : Falls own
own_falls = record { by = λ line s. (some_falls fault.Null (own_in s.frames)).by line s }

local_spot_falls : (n : ℕ) → Falls (local_spot n)
local_spot_falls n = record { by = λ line s. (some_falls fault.Null (local_spot_in s.frames n)).by line s }

read_falls : (spot : Spot) → Falls (read spot)
read_falls (in_store q) = then_falls (region_value q.region) _ (region_falls q.region) (λ v. some_falls fault.Null (value_at v q.steps))
read_falls (in_frame d n ss) = then_falls (local_value d n) _ (local_falls d n) (λ v. some_falls fault.Null (value_at v ss))

write_falls : (spot : Spot) (v : Value) → Falls (write spot v)
write_falls (in_store q) new = then_falls (region_value q.region) _ (region_falls q.region) (λ v. then_falls (there (value_with v q.steps new)) _ (some_falls fault.Null (value_with v q.steps new)) (λ w. set_region_falls q.region w))
write_falls (in_frame d n ss) new = then_falls (local_value d n) _ (local_falls d n) (λ v. then_falls (there (value_with v ss new)) _ (some_falls fault.Null (value_with v ss new)) (λ w. set_local_falls d n w))

named_falls : (t : Target) → Falls (named_spot t)
named_falls (target.Local n) = local_spot_falls n
named_falls (target.Region r) = gives_falls _
named_falls (target.Variable k) = then_falls own _ own_falls (λ q. gives_falls (into (in_store q) (step.Field k)))
named_falls (target.Method m) = then_falls own _ own_falls (λ q. gives_falls (in_store q))
named_falls target.Nothing = fails_falls fault.Null
named_falls (target.Field k) = fails_falls fault.Null
named_falls (target.Function k) = fails_falls fault.Null
named_falls target.Conversion = fails_falls fault.Null
named_falls (target.Parameter k) = fails_falls fault.Null
named_falls (target.Enumerator k) = fails_falls fault.Null
named_falls (target.Constant z) = fails_falls fault.Null

-- ---- what is counted

pub within_falls : (t : Target) (end step : ℤ) → Falls (is_within (named_spot t) end step)
within_falls t end step = then_falls (named_spot t) _ (named_falls t) (λ spot. then_falls (read spot) _ (read_falls spot) (λ v. gives_falls _))

add_step_falls : (e : Elem) (step : ℤ) (t : Target) → Falls (add_step e step (named_spot t))
add_step_falls e step t =
    then_falls (named_spot t) _ (named_falls t) (λ spot.
    then_falls (read spot) _ (read_falls spot) (λ v.
    then_falls (write spot _) _ (write_falls spot _) (λ u. gives_falls _)))

step_falls : (flow : Flow) (step : Run Flow) → Falls step → Falls (then_step flow step)
step_falls goes_on step h = h
step_falls continues step h = h
step_falls exits step h = gives_falls exits
step_falls returns step h = gives_falls returns

module _ (p : Program) (room : ℕ) where
  pub body_falls : (body : Statements Note) → Falls (effects p (enter p room) body)
  body_falls body = record { by = ticks_fall.statements p room body }

  pub condition_falls : (e : Expression Note) → Falls (condition p (enter p room) e)
  condition_falls e = then_falls (value p (enter p room) e) _ (record { by = ticks_fall.values p room e }) (λ v. gives_falls (is_true v))

  pub counted_falls : (e : Elem) (t : Target) (step : ℤ) (body : Statements Note) → Falls (counted e (named_spot t) step (effects p (enter p room) body))
  counted_falls e t step body = then_falls (effects p (enter p room) body) _ (body_falls body) (λ flow. step_falls flow (add_step e step (named_spot t)) (add_step_falls e step t))
