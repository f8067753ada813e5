use Rattle.std.proofs.Common.{subst}
use Rattle.resolution_order.specs.telling_groups.Groups.{group_of}
use Rattle.type_resolution.specs.told_names.Private.State.{Finds}
use Rattle.type_resolution.proofs.told_names.StateLaws.{visit_told}
use Rattle.type_resolution.proofs.told_names.told.visit.Goals as goal

pub returns : goal.returns
returns c =
    let decls = c.args.classes.now.decls in
    let g = group_of c.args.group.now in
    visit_told decls g c.args.tables.now c.tell.new.tables c.in-Some.found.0 c.in-Some.found.1 c.requires.state c.requires.group
    (subst (λ x. Finds x decls c.args.tables.now.names g) c.in-Some.is c.in_ok-found.ensures) c.in_ok-tell.ensures
