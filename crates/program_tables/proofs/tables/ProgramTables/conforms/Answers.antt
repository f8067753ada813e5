use Rattle.std.proofs.Common.{◌∙◌}
use Rattle.program_tables.proofs.TableLaws.{conforms_found}
use Rattle.program_tables.proofs.tables.ProgramTables.conforms.Goals as goal

pub returns : goal.returns
returns c =
    let i = c.self.inside in
    rw (← c.self.view_is) (c.conforms.ensures ∙ conforms_found i.of.value i.tables c.self.invariant c.args.class c.args.kind.now)
