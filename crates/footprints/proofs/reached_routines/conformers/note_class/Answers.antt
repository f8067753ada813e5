use Rattle.std.proofs.Common.{◌∙◌}
use Rattle.footprints.proofs.reached_routines.FamilyLaws.{class_noted}
use Rattle.footprints.proofs.reached_routines.conformers.note_class.Goals as goal

pub returns : goal.returns
returns c =
    class_noted c.args.tables.now c.args.class c.args.interfaces c.as_slice.result.now c.args.families.now c.note_chain.new.families c.note_interfaces.new.families (c.as_slice.ensures.value ∙ c.in_ok-chain.ensures) c.requires
    c.in_ok-note_chain.ensures c.in_ok-note_interfaces.ensures
