use Rattle.std.proofs.Common.{sym, subst}
use Rattle.resolution_order.specs.declared.telling_groups.groups.Group.{Group}
use Rattle.resolution_order.specs.telling_groups.Groups.{group_of}
use Rattle.type_resolution.specs.told_names.Private.State.{Finds}
use Rattle.type_resolution.proofs.told_names.FoundLaws.{finds-globals, finds-members}
use Rattle.type_resolution.proofs.told_names.found.found.Goals as goal

pub returns-in_ok-told-in-Globals : goal.returns-in_ok-told-in-Globals
returns-in_ok-told-in-Globals c =
    let name = c.in-Globals.name in
    subst (λ (g : Group). Finds c.in_ok-told-in-Globals.told c.args.classes.now.decls c.args.tables.now.names (group_of g)) (sym c.in-Globals.is)
    (finds-globals c.args.classes.now.decls c.args.tables.now.names c.in_ok-told-in-Globals.told c.in-Globals.field-0 name.section.now name.item.now name.name.now c.in_ok-told-in-Globals.ensures)

pub returns-in_ok-told-in-Members : goal.returns-in_ok-told-in-Members
returns-in_ok-told-in-Members c =
    let name = c.in-Members.name in
    subst (λ (g : Group). Finds c.in_ok-told-in-Members.told c.args.classes.now.decls c.args.tables.now.names (group_of g)) (sym c.in-Members.is)
    (finds-members c.args.classes.now.decls c.args.tables.now.names c.in_ok-told-in-Members.told c.in-Members.class c.in-Members.field-1 name.section.now name.item.now name.name.now c.in_ok-told-in-Members.ensures)
