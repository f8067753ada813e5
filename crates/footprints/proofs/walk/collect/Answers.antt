use Rattle.std.proofs.Common.{List, subst}
use Rattle.program_tables.specs.declared.routine.RoutineId.{RoutineId}
use Rattle.footprints.specs.Private.Puts.{Puts, Via}
use Rattle.footprints.specs.Private.Walk.{InRoutine}
use Rattle.footprints.proofs.WalkLaws.{collected}
use Rattle.footprints.proofs.walk.collect.Goals as goal

pub returns : goal.returns
returns c =
    let t = c.args.t.now in
    collected t.program.now t.holders.items c.args.part c.args.task c.programs_of.result.now c.in_ok-ids.ids.items c.new.result.keys c.put_all.new.marks.keys c.put_texts.new.walk.marks.keys c.new.ensures.empty c.programs_of.ensures
    c.in_ok-put_all.ensures c.in_ok-ids.ensures
    (subst (λ (ids : List RoutineId). Puts (Via ids (InRoutine t.program.now t.holders.items c.args.part)) c.put_all.new.marks.keys c.put_texts.new.walk.marks.keys) c.deref.ensures.value c.in_ok-put_texts.ensures)
