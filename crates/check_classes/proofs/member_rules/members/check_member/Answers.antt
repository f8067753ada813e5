use Rattle.check_classes.proofs.member_rules.MemberLaws.{own_names, own_classes, section_checks, method_checks}
use Rattle.check_classes.proofs.member_rules.members.check_member.Goals as goal

pub check_section-requires-clause-names : goal.check_section-requires-clause-names
check_section-requires-clause-names c = own_names c.args.tables.now.decls c.args.class _ c.requires _ c.names-names.ensures.names

pub check_section-requires-clause-classes : goal.check_section-requires-clause-classes
check_section-requires-clause-classes c = own_classes c.args.tables.now.decls c.args.class _ c.requires _ c.classes-classes.ensures

pub returns-in_ok-found-in-Section : goal.returns-in_ok-found-in-Section
returns-in_ok-found-in-Section c = section_checks _ _ _ _ _ _ _ _ c.in-Section.is c.requires c.in_ok-found-in-Section.ensures c.section_member.ensures

pub returns-in_ok-found-in-Method : goal.returns-in_ok-found-in-Method
returns-in_ok-found-in-Method c = method_checks _ _ _ _ _ _ _ c.in-Method.is c.in_ok-found-in-Method.ensures c.method_member.ensures
