use Rattle.global_rules.proofs.SectionLaws.{one_more}
use Rattle.st_unit_rules.specs.declaration_list.Written.{global_of}
use Rattle.global_rules.proofs.sections.add_global.Goals as goal

pub returns : goal.returns
returns c = one_more c.args.tables.now.decls _ _ _ _ (global_of c.args.name.now) _ c.in_ok-fault.ensures.fault c.in_ok-fault.ensures.regions c.in_ok-push.ensures.items
