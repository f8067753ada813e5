use Rattle.footprints.proofs.reached_routines.FamilyLaws.{chain_next}
use Rattle.footprints.proofs.reached_routines.conformers.note_chain.Goals as goal

pub chain-preserved : goal.chain-preserved
chain-preserved c =
    chain_next c.args.class c.args.chain.now c.chain.left.now c.in-Some.behind.now c.in-Some.above.now c.args.families.now c.chain.families c.note.new.families c.in-Some.ensures.cases.0 c.chain.invariant c.in_ok-note.ensures
