use Rattle.std.proofs.Common.{◌≡◌, ◌∙◌, refl, ap, subst, arith, length}
use Rattle.std.specs.Prelude.{slice_get, Some, Err}
use Rattle.stack_code.specs.Steps.{Stops}
use Rattle.stack_code.specs.Machine.{Config}
use Rattle.cycle_machine.specs.Private.Machine.{config, Keeps}
use Rattle.cycle_machine.proofs.RunLaws.{Running, begins, goes_on, gives, gets_stuck, never_broken, words_fit, routine_at, routine_within, op_within, line_within, does}
use Rattle.cycle_machine.proofs.machine.Machine.run.Goals as goal

pub run-init : goal.run-init
run-init c = record { running = begins c.args.code.now c.args.now (config c.args.self.now) c.code.ensures.valid c.requires.begun; room = refl; stride = refl }

pub bounds-routines-self : goal.bounds-routines-self
bounds-routines-self c =
    let code = c.args.code.now in
    let start : Config = config c.args.self.now in
    let here : Config = config c.run.self in
    let run : Running code c.args.now start here = c.run.invariant.running in
    let items : c.as_slice-routines.result.now ≡ code.routines = c.as_slice-routines.ensures ∙ ap (λ x. x.routines) c.code.ensures.same in
    routine_within code here c.as_slice-routines.result.now run.typed items

pub overflow_cast-routine : goal.overflow_cast-routine
overflow_cast-routine c =
    let code = c.args.code.now in
    let start : Config = config c.args.self.now in
    let here : Config = config c.run.self in
    let run : Running code c.args.now start here = c.run.invariant.running in
    let items : c.as_slice-routines.result.now ≡ code.routines = c.as_slice-routines.ensures ∙ ap (λ x. x.routines) c.code.ensures.same in
    record { fits = omega (arith, routine_within code here c.as_slice-routines.result.now run.typed items, c.as_slice-routines.type_inv.0) }

pub offset_bounds-routines-self : goal.offset_bounds-routines-self
offset_bounds-routines-self c =
    let code = c.args.code.now in
    let start : Config = config c.args.self.now in
    let here : Config = config c.run.self in
    let run : Running code c.args.now start here = c.run.invariant.running in
    let items : c.as_slice-routines.result.now ≡ code.routines = c.as_slice-routines.ensures ∙ ap (λ x. x.routines) c.code.ensures.same in
    record { fits = omega (arith, routine_within code here c.as_slice-routines.result.now run.typed items, c.as_slice-routines.type_inv.1) }

pub bounds-as_slice-self : goal.bounds-as_slice-self
bounds-as_slice-self c =
    let code = c.args.code.now in
    let start : Config = config c.args.self.now in
    let here : Config = config c.run.self in
    let run : Running code c.args.now start here = c.run.invariant.running in
    let items : c.as_slice-routines.result.now ≡ code.routines = c.as_slice-routines.ensures ∙ ap (λ x. x.routines) c.code.ensures.same in
    let is : slice_get code.routines here.here.routine ≡ Some c.index-routines-self.result = routine_at code here c.as_slice-routines.result.now c.index-routines-self.result run.typed items c.index-routines-self.is in
    op_within code c.args.now here c.code.ensures.valid run.typed c.index-routines-self.result is c.as_slice.result.now c.as_slice.ensures

pub bounds-as_slice-self-in-run : goal.bounds-as_slice-self-in-run
bounds-as_slice-self-in-run c =
    let code = c.args.code.now in
    let start : Config = config c.args.self.now in
    let here : Config = config c.run.self in
    let run : Running code c.args.now start here = c.run.invariant.running in
    let items : c.as_slice-routines.result.now ≡ code.routines = c.as_slice-routines.ensures ∙ ap (λ x. x.routines) c.code.ensures.same in
    let is : slice_get code.routines here.here.routine ≡ Some c.index-routines-self.result = routine_at code here c.as_slice-routines.result.now c.index-routines-self.result run.typed items c.index-routines-self.is in
    line_within code c.args.now here c.code.ensures.valid run.typed c.index-routines-self.result is c.as_slice-in-run.result.now c.as_slice-in-run.ensures

pub step-requires-clause-space : goal.step-requires-clause-space
step-requires-clause-space c =
    let code = c.args.code.now in
    let start : Config = config c.args.self.now in
    let here : Config = config c.run.self in
    let run : Running code c.args.now start here = c.run.invariant.running in
    let items : c.as_slice-routines.result.now ≡ code.routines = c.as_slice-routines.ensures ∙ ap (λ x. x.routines) c.code.ensures.same in
    omega (arith, words_fit code c.code.ensures.valid here run.typed run.deep, c.requires.room.operands, c.run.invariant.room)

pub step-requires-clause-next : goal.step-requires-clause-next
step-requires-clause-next c =
    let code = c.args.code.now in
    let start : Config = config c.args.self.now in
    let here : Config = config c.run.self in
    let run : Running code c.args.now start here = c.run.invariant.running in
    let items : c.as_slice-routines.result.now ≡ code.routines = c.as_slice-routines.ensures ∙ ap (λ x. x.routines) c.code.ensures.same in
    let is : slice_get code.routines here.here.routine ≡ Some c.index-routines-self.result = routine_at code here c.as_slice-routines.result.now c.index-routines-self.result run.typed items c.index-routines-self.is in
    omega (arith, c.requires.room.short c.run.self.here.routine c.index-routines-self.result is, op_within code c.args.now here c.code.ensures.valid run.typed c.index-routines-self.result is c.as_slice.result.now c.as_slice.ensures, ap length c.as_slice.ensures)

pub run-preserved : goal.run-preserved
run-preserved c =
    let code = c.args.code.now in
    let start : Config = config c.args.self.now in
    let here : Config = config c.run.self in
    let run : Running code c.args.now start here = c.run.invariant.running in
    let items : c.as_slice-routines.result.now ≡ code.routines = c.as_slice-routines.ensures ∙ ap (λ x. x.routines) c.code.ensures.same in
    let is : slice_get code.routines here.here.routine ≡ Some c.index-routines-self.result = routine_at code here c.as_slice-routines.result.now c.index-routines-self.result run.typed items c.index-routines-self.is in
    let does = does code c.args.now here c.code.ensures.valid run.typed c.index-routines-self.result is c.as_slice.result.now c.as_slice-in-run.result.now _ _ c.as_slice.ensures c.as_slice-in-run.ensures in
    let on = goes_on code c.args.now start here (config c.step.new.self) c.code.ensures.valid run (does ∙ c.in-Ok.ensures.value) in
    record { running = on.0; room = c.in-Ok.ensures.room ∙ c.run.invariant.room; stride = c.in-Ok.ensures.stride ∙ c.run.invariant.stride }

pub run-smaller : goal.run-smaller
run-smaller c =
    let code = c.args.code.now in
    let start : Config = config c.args.self.now in
    let here : Config = config c.run.self in
    let run : Running code c.args.now start here = c.run.invariant.running in
    let items : c.as_slice-routines.result.now ≡ code.routines = c.as_slice-routines.ensures ∙ ap (λ x. x.routines) c.code.ensures.same in
    let is : slice_get code.routines here.here.routine ≡ Some c.index-routines-self.result = routine_at code here c.as_slice-routines.result.now c.index-routines-self.result run.typed items c.index-routines-self.is in
    let does = does code c.args.now here c.code.ensures.valid run.typed c.index-routines-self.result is c.as_slice.result.now c.as_slice-in-run.result.now _ _ c.as_slice.ensures c.as_slice-in-run.ensures in
    let on = goes_on code c.args.now start here (config c.step.new.self) c.code.ensures.valid run (does ∙ c.in-Ok.ensures.value) in
    on.1

pub returns-in-Ended-clause-ends : goal.returns-in-Ended-clause-ends
returns-in-Ended-clause-ends c =
    let code = c.args.code.now in
    let start : Config = config c.args.self.now in
    let here : Config = config c.run.self in
    let run : Running code c.args.now start here = c.run.invariant.running in
    let items : c.as_slice-routines.result.now ≡ code.routines = c.as_slice-routines.ensures ∙ ap (λ x. x.routines) c.code.ensures.same in
    let is : slice_get code.routines here.here.routine ≡ Some c.index-routines-self.result = routine_at code here c.as_slice-routines.result.now c.index-routines-self.result run.typed items c.index-routines-self.is in
    let does = does code c.args.now here c.code.ensures.valid run.typed c.index-routines-self.result is c.as_slice.result.now c.as_slice-in-run.result.now _ _ c.as_slice.ensures c.as_slice-in-run.ensures in
    gives code c.args.now start here c.in-Ended.outcome c.step.new.self.regions run (does ∙ c.in-Err.ensures.value ∙ ap Stops c.in-Ended.is) (subst (λ e. Keeps (Err e) c.run.self.regions c.step.new.self.regions) c.in-Ended.is c.in-Err.ensures.regions)

pub returns-in-Stuck-clause-ends : goal.returns-in-Stuck-clause-ends
returns-in-Stuck-clause-ends c =
    let code = c.args.code.now in
    let start : Config = config c.args.self.now in
    let here : Config = config c.run.self in
    let run : Running code c.args.now start here = c.run.invariant.running in
    let items : c.as_slice-routines.result.now ≡ code.routines = c.as_slice-routines.ensures ∙ ap (λ x. x.routines) c.code.ensures.same in
    let is : slice_get code.routines here.here.routine ≡ Some c.index-routines-self.result = routine_at code here c.as_slice-routines.result.now c.index-routines-self.result run.typed items c.index-routines-self.is in
    let does = does code c.args.now here c.code.ensures.valid run.typed c.index-routines-self.result is c.as_slice.result.now c.as_slice-in-run.result.now _ _ c.as_slice.ensures c.as_slice-in-run.ensures in
    gets_stuck code c.args.now start here run (does ∙ c.in-Err.ensures.value ∙ ap Stops c.in-Stuck.is)

pub unreachable-requires : goal.unreachable-requires
unreachable-requires c =
    let code = c.args.code.now in
    let start : Config = config c.args.self.now in
    let here : Config = config c.run.self in
    let run : Running code c.args.now start here = c.run.invariant.running in
    let items : c.as_slice-routines.result.now ≡ code.routines = c.as_slice-routines.ensures ∙ ap (λ x. x.routines) c.code.ensures.same in
    let is : slice_get code.routines here.here.routine ≡ Some c.index-routines-self.result = routine_at code here c.as_slice-routines.result.now c.index-routines-self.result run.typed items c.index-routines-self.is in
    let does = does code c.args.now here c.code.ensures.valid run.typed c.index-routines-self.result is c.as_slice.result.now c.as_slice-in-run.result.now _ _ c.as_slice.ensures c.as_slice-in-run.ensures in
    never_broken code c.args.now start here c.code.ensures.valid run (does ∙ c.in-Err.ensures.value ∙ ap Stops c.in-Broken.is)
