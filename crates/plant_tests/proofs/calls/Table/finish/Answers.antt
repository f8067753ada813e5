use Rattle.std.proofs.Common.{◌≡◌, refl}
use Rattle.plant_tests.proofs.CallLaws.{ended, is_there, slot_low, ran_of}
use Rattle.plant_tests.proofs.calls.Table.finish.Goals as goal

pub run-requires-clause-task : goal.run-requires-clause-task
run-requires-clause-task g c =
    let had = c.self.invariant.claims-are c.args.play c.in-Some.claim c.in-Some.ensures.value in
    had.0.run.below

pub run-requires-clause-work : goal.run-requires-clause-work
run-requires-clause-work g c =
    let had = c.self.invariant.claims-are c.args.play c.in-Some.claim c.in-Some.ensures.value in
    had.1

pub run-requires-clause-fit : goal.run-requires-clause-fit
run-requires-clause-fit g c =
    let had = c.self.invariant.claims-are c.args.play c.in-Some.claim c.in-Some.ensures.value in
    had.0.run.fits

pub finish-requires-clause-ran : goal.finish-requires-clause-ran
finish-requires-clause-ran g c =
    let had = c.self.invariant.claims-are c.args.play c.in-Some.claim c.in-Some.ensures.value in
    let input : c.run.result.input.value.items ≡ c.in-Some.claim.input.items = rw c.run.ensures.same.3 refl in
    ran_of g.P.Controlled.meaning _ _ _ _ _ _ _ _ _ _ _ _ had.0 c.run.ensures.same.0 c.run.ensures.same.1 c.run.ensures.same.2 input c.run.ensures.same.4 c.run.ensures.taken c.run.ensures.reply c.run.ensures.left

pub invariant_of-self-in-Some : goal.invariant_of-self-in-Some
invariant_of-self-in-Some g c =
    rw c.take_slot.ensures.after (ended g.P.Controlled.meaning g.met.P.Controlled.frames _ _ _ _ _ _ _ _ _ _ c.finish.ensures.event c.is_lawful.ensures.legal (slot_low g.P.Controlled.meaning g.met.P.Controlled.frames _ _ _ _ _ _ (is_there _ _ _ c.self.view_is c.requires.there) c.self.invariant) c.in-Some.ensures.value c.run.ensures.same.0 c.self.invariant)
