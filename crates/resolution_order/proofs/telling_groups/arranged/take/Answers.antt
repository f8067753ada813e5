use Rattle.std.proofs.Common.{map}
use Rattle.resolution_order.specs.telling_groups.Groups.{group_of}
use Rattle.resolution_order.proofs.telling_groups.TakenLaws.{taken_one, takes_one, pushed, got}
use Rattle.resolution_order.proofs.telling_groups.arranged.take.Goals as goal

pub returns-clause-taken : goal.returns-clause-taken
returns-clause-taken c =
    taken_one (map group_of c.args.groups.now) (map group_of c.args.list.now.items) (map group_of c.push.new.self.items) c.args.marks.now c.mark.new.marks c.args.place (group_of c.in-Some.group.now)
    c.requires (got c.args.groups.now c.args.place c.in-Some.group.now c.in-Some.ensures.lookup.3.0 c.in-Some.ensures.lookup.1) (pushed c.args.list.now.items c.push.new.self.items c.in-Some.group.now c.in_ok-push.ensures.items) c.mark.ensures

pub returns-clause-takes : goal.returns-clause-takes
returns-clause-takes c =
    takes_one (map group_of c.args.groups.now) (map group_of c.args.list.now.items) (map group_of c.push.new.self.items) c.args.place (group_of c.in-Some.group.now)
    (got c.args.groups.now c.args.place c.in-Some.group.now c.in-Some.ensures.lookup.3.0 c.in-Some.ensures.lookup.1) (pushed c.args.list.now.items c.push.new.self.items c.in-Some.group.now c.in_ok-push.ensures.items)
