use Rattle.std.proofs.Common.{◌≡◌, sym, ap, ◌∙◌, ◌-◌, length, arith, option_map, refl}
use Rattle.plc_text.specs.declared.fault.FaultKind.TheVariants.{Null}
use Rattle.st_meaning.specs.State.{there}
use Rattle.run_state.specs.State.{spot_of, state_of}
use Rattle.run_state.proofs.Faults.{faulted}
use Rattle.run_state.proofs.Stack.{spot_is}
use Rattle.run_state.proofs.frames.local_spot.Goals as goal

pub returns-in-Ok-Some : goal.returns-in-Ok-Some
returns-in-Ok-Some c =
    let s = state_of c.args.m.now in
    let d : c.saturating_sub.result ≡ length c.args.m.now.frames - 1 = omega (arith, c.saturating_sub.ensures, c.len.ensures) in
    ap (λ o. there o c.args.line s)
    (spot_is c.args.m.now.frames c.args.local c.saturating_sub.result c.in-Some.frame.now _ c.in-Some.ensures (sym c.in-Some-get.ensures.value) d ∙ sym c.in-Ok-Some.ensures ∙ ap (option_map spot_of) c.in-Ok-Some.field-0-is)

pub returns-in-Ok-None : goal.returns-in-Ok-None
returns-in-Ok-None c =
    let s = state_of c.args.m.now in
    let d : c.saturating_sub.result ≡ length c.args.m.now.frames - 1 = omega (arith, c.saturating_sub.ensures, c.len.ensures) in
    faulted spot_of c.fault.result Null c.args.line _ s c.fault.ensures
    (ap (λ o. there o c.args.line s)
    (spot_is c.args.m.now.frames c.args.local c.saturating_sub.result c.in-Some.frame.now _ c.in-Some.ensures (sym c.in-Some-get.ensures.value) d ∙ sym c.in-Ok-None.ensures ∙ ap (option_map spot_of) c.in-Ok-None.field-0-is))

pub returns-in-None-get : goal.returns-in-None-get
returns-in-None-get c =
    let s = state_of c.args.m.now in
    faulted spot_of c.fault-in-None-get.result Null c.args.line _ s c.fault-in-None-get.ensures
    (ap (λ o. there o c.args.line s) (spot_is c.args.m.now.frames c.args.local (length c.args.m.now.frames - 1) c.in-Some.frame.now _ c.in-Some.ensures (sym c.in-None-get.ensures.value) refl))
