use Rattle.program_tables.specs.st_initial.Given.{inits_of}
use Rattle.program_tables.proofs.st_initial.GivenLaws.{parts_step, inits_long}
use Rattle.program_tables.proofs.st_initial.given.elements_given.Goals as goal

pub loop-part-preserved : goal.loop-part-preserved
loop-part-preserved c =
    let e = c.in_ok-push_part.ensures in (
      inits_long c.args.limit c.push_part.new.out.items _ e,
      parts_step c.args.limit c.parts_given-part-items.result.now c.loop-part.part-index c.part-item.result (inits_of c.loop-part.out.items) _ _ c.loop-part-test.true c.part-item.is e c.loop-part.invariant.1,
    )
