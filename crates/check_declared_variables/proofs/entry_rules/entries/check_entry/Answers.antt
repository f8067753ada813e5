use Rattle.std.proofs.Common.{ap}
use Rattle.check_names.specs.name_spaces.NamesIn.{names_of}
use Rattle.check_declared_variables.proofs.entry_rules.BodyLaws.{entry_checks}
use Rattle.check_declared_variables.proofs.entry_rules.entries.check_entry.Goals as goal

pub returns : goal.returns
returns c =
    entry_checks c.args.graph.now.decls _ c.args.place c.args.number c.args.entry.now _ _ _ _ _ c.in_ok-list.ensures (ap names_of c.as_slice-parts.ensures.value) c.in_ok-names.ensures c.in_ok-name.ensures c.in_ok-found.ensures c.entry_of.ensures
