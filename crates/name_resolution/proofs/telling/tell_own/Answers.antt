use Rattle.std.proofs.Common.{sym, ap, ◌∙◌, slice_set, List}
use Rattle.st_rules.specs.declared.names.DeclaredVariable.{DeclaredVariable}
use Rattle.st_rules.specs.Telling.{variable_told}
use Rattle.name_resolution.proofs.TellLaws.{set_changed, past_changed}
use Rattle.name_resolution.proofs.telling.tell_own.Goals as goal

pub returns-in-Some : goal.returns-in-Some
returns-in-Some c =
    ap (λ (vs : List DeclaredVariable). record c.args.class.now { variables = vs })
    (ap (slice_set c.args.class.now.variables c.args.place) c.tell_variable.ensures
    ∙ set_changed (variable_told c.args.kind c.args.target) c.args.place c.args.class.now.variables c.in-Some.v.now c.in-Some.ensures.item)

pub returns-in-None : goal.returns-in-None
returns-in-None c =
    ap (λ (vs : List DeclaredVariable). record c.args.class.now { variables = vs })
    (sym (past_changed (variable_told c.args.kind c.args.target) c.args.place c.args.class.now.variables c.in-None.ensures.item))
