use Rattle.section_rules.specs.Home.{home_of}
use Rattle.check_declared_variables.proofs.variable_rules.EachLaws.{each_begun, each_next, each_least, each_trees}
use Rattle.check_classes.specs.member_rules.Private.Members.{member_sections, member_methods, TypedIfGood}
use Rattle.check_classes.proofs.member_rules.MemberLaws.{members_ended}
use Rattle.check_classes.proofs.member_rules.members.check_members.Goals as goal

pub loop-member-init : goal.loop-member-init
loop-member-init c =
    let d = c.args.tables.now.decls in
    let R = TypedIfGood d c.args.class in (
      each_begun R (member_sections d (home_of c.args.home) c.args.class) c.args.members.now _ _ c.no_members-so_far.ensures.of_sections c.no_members-so_far.ensures.members,
      each_begun R (member_methods d c.args.class) c.args.members.now _ _ c.no_members-so_far.ensures.of_methods c.no_members-so_far.ensures.members,
    )

pub loop-member-preserved : goal.loop-member-preserved
loop-member-preserved c =
    let d = c.args.tables.now.decls in
    let R = TypedIfGood d c.args.class in (
      each_next R (member_sections d (home_of c.args.home) c.args.class) c.args.members.now _ _ _ _ _ _ _ _ c.loop-member-test.true c.member-item.is c.in_ok-so_far.ensures.of_sections
          c.in_ok-one.ensures.of_section c.in_ok-one.ensures.tree c.in_ok-so_far.ensures.members c.loop-member.invariant.0,
      each_next R (member_methods d c.args.class) c.args.members.now _ _ _ _ _ _ _ _ c.loop-member-test.true c.member-item.is c.in_ok-so_far.ensures.of_methods
          c.in_ok-one.ensures.of_method c.in_ok-one.ensures.tree c.in_ok-so_far.ensures.members c.loop-member.invariant.1,
    )

pub returns : goal.returns
returns c =
    let d = c.args.tables.now.decls in
    let R = TypedIfGood d c.args.class in
    members_ended d (home_of c.args.home) c.args.class _ c.args.members.now
    (each_least R (member_sections d (home_of c.args.home) c.args.class) c.args.members.now _ _ _ c.loop-member-test.false c.loop-member.invariant.0)
    (each_least R (member_methods d c.args.class) c.args.members.now _ _ _ c.loop-member-test.false c.loop-member.invariant.1)
    (each_trees R (member_methods d c.args.class) c.args.members.now _ _ _ c.loop-member-test.false c.loop-member.invariant.1)
