use Rattle.std.proofs.Common.{map, ap, ◌∙◌}
use Rattle.st_check_expr.proofs.OkLaws.{when_ok}
use Rattle.type_resolution.specs.declared_variables.Private.Told.{told_as, told_like}
use Rattle.type_resolution.proofs.declared_variables.NumberLaws.{members_are}
use Rattle.type_resolution.proofs.declared_variables.members.declared_program.Goals as goal

pub returns : goal.returns
returns c =
    when_ok c.declared_each.result c.declared_each.ensures
    (λ vs w. members_are c.args.s.now 0 0 c.args.sections.now (map told_as c.in_ok-names.names.items) c.as_slice.result.now vs
    (w ∙ ap (λ xs. told_like c.as_slice.result.now (map told_as xs)) c.deref.ensures.value) c.in_ok-names.ensures (c.as_slice.ensures ∙ c.in_ok-untold.ensures))
