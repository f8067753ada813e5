use Rattle.global_rules.proofs.SectionLaws.{item_added}
use Rattle.global_rules.proofs.sections.add_item.Goals as goal

pub returns-in-len1-up : goal.returns-in-len1-up
returns-in-len1-up c =
    item_added c.args.tables.now.decls _ _ _ _ _ _ c.args.of.now.section.now c.args.of.now.item.now c.name-item.result c.as_slice.result.now c.as_slice.ensures c.in-len1-up.len_at_least c.name-item.is c.in_ok-add_global-in-len1-up.ensures c.in_ok-add_others-in-len1-up.ensures
