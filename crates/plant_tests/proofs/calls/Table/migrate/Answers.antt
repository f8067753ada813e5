use Rattle.std.proofs.Common.{◌∙◌, ap, sym}
use Rattle.plant_rules.specs.Meaning.{Contents}
use Rattle.plant_rules.specs.History.{state_of, under_way}
use Rattle.plant_core.specs.Answers.{play_of}
use Rattle.plant_tests.proofs.CallLaws.{changed_now, resumed_now, comes_of, next_number}
use Rattle.plant_tests.proofs.calls.Table.migrate.Goals as goal

pub migrate-requires-clause-base : goal.migrate-requires-clause-base
migrate-requires-clause-base g c = (c.self.invariant.quiet-is c.in-Some.quiet (sym c.in-Some.ensures.value)).0.base-is

pub migrate-requires-clause-fresh : goal.migrate-requires-clause-fresh
migrate-requires-clause-fresh g c = (c.self.invariant.quiet-is c.in-Some.quiet (sym c.in-Some.ensures.value)).1

pub migrate-requires-clause-whole : goal.migrate-requires-clause-whole
migrate-requires-clause-whole g c = (c.self.invariant.quiet-is c.in-Some.quiet (sym c.in-Some.ensures.value)).0.whole

pub finish_change-requires-clause-under : goal.finish_change-requires-clause-under
finish_change-requires-clause-under g c =
    let had = c.self.invariant.quiet-is c.in-Some.quiet (sym c.in-Some.ensures.value) in
    had.0.under ∙ ap (λ (z : Contents). under_way (play_of (state_of g.P.Controlled.meaning c.self.inside.core).turn) 0 z) (sym c.in-Ok.ensures.from)

pub finish_change-requires-clause-supplied : goal.finish_change-requires-clause-supplied
finish_change-requires-clause-supplied g c = c.in-Ok.ensures.supplied

pub finish_change-requires-clause-next : goal.finish_change-requires-clause-next
finish_change-requires-clause-next g c =
    let had = c.self.invariant.quiet-is c.in-Some.quiet (sym c.in-Some.ensures.value) in
    comes_of g.P.Controlled.meaning _ _ _ _ had.0 c.is_lawful.ensures.sound c.in-Ok.ensures.ok

pub invariant_of-self-in-Ok : goal.invariant_of-self-in-Ok
invariant_of-self-in-Ok g c =
    let had = c.self.invariant.quiet-is c.in-Some.quiet (sym c.in-Some.ensures.value) in
    rw c.take.ensures.after (changed_now g.P.Controlled.meaning g.met.P.Controlled.frames _ _ _ _ _ _ _ _ _ _ c.finish_change.ensures c.is_lawful-in-Ok.ensures.legal had.0.under (next_number g.P.Controlled.meaning g.met.P.Controlled.frames _ _ _ _ _ had.0 c.in-Ok.ensures.ok) c.self.invariant)

pub resume-requires-clause-under : goal.resume-requires-clause-under
resume-requires-clause-under g c =
    let had = c.self.invariant.quiet-is c.in-Some.quiet (sym c.in-Some.ensures.value) in
    had.0.under ∙ ap (λ (z : Contents). under_way (play_of (state_of g.P.Controlled.meaning c.self.inside.core).turn) 0 z) (sym c.in-Err.ensures.err.1)

pub resume-requires-clause-old : goal.resume-requires-clause-old
resume-requires-clause-old g c =
    let had = c.self.invariant.quiet-is c.in-Some.quiet (sym c.in-Some.ensures.value) in
    c.in-Err.ensures.err.2 ∙ had.0.old-is

pub resume-requires-clause-refused : goal.resume-requires-clause-refused
resume-requires-clause-refused g c =
    let had = c.self.invariant.quiet-is c.in-Some.quiet (sym c.in-Some.ensures.value) in
    comes_of g.P.Controlled.meaning _ _ _ _ had.0 c.is_lawful.ensures.sound c.in-Err.ensures.err.0

pub invariant_of-self-in-Err : goal.invariant_of-self-in-Err
invariant_of-self-in-Err g c =
    let had = c.self.invariant.quiet-is c.in-Some.quiet (sym c.in-Some.ensures.value) in
    rw c.take.ensures.after (resumed_now g.P.Controlled.meaning g.met.P.Controlled.frames _ _ _ _ _ _ _ _ _ c.resume.ensures c.is_lawful-in-Err.ensures.legal had.0.under c.self.invariant)
