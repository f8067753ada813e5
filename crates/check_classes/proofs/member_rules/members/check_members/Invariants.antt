use Rattle.section_rules.specs.Home.{home_of}
use Rattle.check_declared_variables.proofs.variable_rules.EachLaws.{EachTo}
use Rattle.check_classes.specs.member_rules.Private.Members.{member_sections, member_methods, TypedIfGood}
use Rattle.check_classes.proofs.member_rules.members.check_members.Given as goal

abbrev pub invariant-loop-member : goal.invariant-loop-member
invariant-loop-member l = EachTo (TypedIfGood l.tables.decls l.class) (member_sections l.tables.decls (home_of l.home) l.class) l.so_far.sections l.so_far.members l.members l.member-index
    × EachTo (TypedIfGood l.tables.decls l.class) (member_methods l.tables.decls l.class) l.so_far.methods l.so_far.members l.members l.member-index
