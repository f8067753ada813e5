use Rattle.std.proofs.Common.{List, sym, subst}
use Rattle.st_tree.specs.declared.name.Name.{Name}
use Rattle.resolution_order.specs.declared.telling_groups.groups.Group.{Group}
use Rattle.resolution_order.specs.telling_groups.Groups.{group_of, jobs_of_group}
use Rattle.type_resolution.specs.told_names.Private.State.{Retold, with_jobs, with_globals, with_members}
use Rattle.type_resolution.proofs.told_names.TellLaws.{globals_told, members_told}
use Rattle.type_resolution.proofs.told_names.tell.tell.Goals as goal

pub returns-in_ok-tell_globals-in-Globals : goal.returns-in_ok-tell_globals-in-Globals
returns-in_ok-tell_globals-in-Globals c =
    let old = c.args.tables.now in
    let new = c.tell_globals.new.tables in
    let k = c.args.found.now.0 in
    let z = c.args.found.now.1 in
    let name = c.in-Globals.name in
    subst (λ (g : Group). Retold (with_jobs old.names (jobs_of_group (group_of g)) k z) old new) (sym c.in-Globals.is)
    (globals_told name.section.now name.item.now old new c.in-Globals.first k z
    (subst (λ (xs : List Name). Retold (with_globals old.names c.in-Globals.first xs k z) old new) c.as_slice.ensures c.in_ok-tell_globals-in-Globals.ensures))

pub returns-in_ok-tell_members-in-Members : goal.returns-in_ok-tell_members-in-Members
returns-in_ok-tell_members-in-Members c =
    let old = c.args.tables.now in
    let new = c.tell_members.new.tables in
    let k = c.args.found.now.0 in
    let z = c.args.found.now.1 in
    let name = c.in-Members.name in
    subst (λ (g : Group). Retold (with_jobs old.names (jobs_of_group (group_of g)) k z) old new) (sym c.in-Members.is)
    (members_told name.section.now name.item.now old new c.in-Members.class c.in-Members.first k z
    (subst (λ (xs : List Name). Retold (with_members old.names c.in-Members.class c.in-Members.first xs k z) old new) c.as_slice-names.ensures c.in_ok-tell_members-in-Members.ensures))
