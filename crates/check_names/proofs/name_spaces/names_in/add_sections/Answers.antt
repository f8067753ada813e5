use Rattle.std.proofs.Common.{refl}
use Rattle.st_rules.proofs.ListLaws.{left_next, left_end}
use Rattle.check_names.specs.name_spaces.Private.Items.{item_names, names_in_sections}
use Rattle.check_names.specs.name_spaces.NamesIn.{names_of}
use Rattle.check_names.proofs.name_spaces.names_in.add_sections.Goals as goal

pub loop-section-preserved : goal.loop-section-preserved
loop-section-preserved c =
    left_next (names_in_sections) c.args.sections.now c.loop-section.section-index c.section-item.result (names_of c.loop-section.list.items) _ (item_names c.section-item.result.items) _
    c.loop-section-test.true c.section-item.is refl (rw c.as_slice.ensures at c.in_ok-add_items.ensures) c.loop-section.invariant

pub returns : goal.returns
returns c = left_end (names_in_sections) c.args.sections.now c.loop-section.section-index (names_of c.loop-section.list.items) _ refl c.loop-section-test.false c.loop-section.invariant
