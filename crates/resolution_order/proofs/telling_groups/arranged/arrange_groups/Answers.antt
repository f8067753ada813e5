use Rattle.std.proofs.Common.{List, map, subst}
use Rattle.resolution_order.specs.declared.telling_groups.groups.Group.{Group}
use Rattle.resolution_order.specs.telling_groups.Groups.{group_of}
use Rattle.resolution_order.specs.telling_groups.Private.Taken.{SameGroups}
use Rattle.resolution_order.proofs.telling_groups.TakenLaws.{arranges}
use Rattle.resolution_order.proofs.telling_groups.arranged.arrange_groups.Goals as goal

pub returns : goal.returns
returns c =
    arranges c.args.decls.now (map group_of c.in_ok-groups.groups.items) (map group_of c.in_ok-list.list.items) c.in_ok-groups.ensures
    (subst (λ (xs : List Group). SameGroups (map group_of xs) (map group_of c.in_ok-list.list.items)) c.deref-2.ensures.value c.in_ok-list.ensures)
