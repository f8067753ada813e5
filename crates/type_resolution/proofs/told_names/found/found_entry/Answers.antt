use Rattle.std.proofs.Common.{◌∙◌}
use Rattle.type_resolution.proofs.told_names.FoundLaws.{entry-found}
use Rattle.type_resolution.proofs.told_names.found.found_entry.Goals as goal

pub returns-in-Some : goal.returns-in-Some
returns-in-Some c =
    entry-found c.args.classes.now.decls c.args.tables.now.names c.in_ok-kind.field-0 c.in_ok-s.s c.args.number c.args.body.now c.in_ok-s.ensures c.in_ok-kind.ensures ∙ c.in-Some.is

pub returns : goal.returns
returns c =
    entry-found c.args.classes.now.decls c.args.tables.now.names c.in_ok-kind.field-0 c.in_ok-s.s c.args.number c.args.body.now c.in_ok-s.ensures c.in_ok-kind.ensures ∙ c.in-None.is
