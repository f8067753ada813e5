use Rattle.std.proofs.Common.{map, ap, ◌∙◌}
use Rattle.st_unit_rules.specs.declared_names.Variables.{sections_in}
use Rattle.type_resolution.specs.declared_variables.Private.Told.{told_as, told_like}
use Rattle.type_resolution.proofs.declared_variables.NumberLaws.{members_are}
use Rattle.type_resolution.proofs.declared_variables.members.declared_members.Goals as goal

pub returns : goal.returns
returns c k l e =
    members_are c.args.s.now k l (sections_in c.args.members.now) (map told_as c.in_ok-names.names.items) c.args.untold.now c.in_ok-list.list
    (c.in_ok-list.ensures ∙ ap (λ xs. told_like c.args.untold.now (map told_as xs)) c.deref.ensures.value) c.in_ok-names.ensures e
