use Rattle.std.proofs.Common.{◌∙◌}
use Rattle.program_tables.proofs.TableLaws.{extended_found}
use Rattle.program_tables.proofs.tables.ProgramTables.extended.Goals as goal

pub returns : goal.returns
returns c =
    let i = c.self.inside in
    rw (← c.self.view_is) (c.extended.ensures ∙ extended_found i.of.value i.tables c.self.invariant c.args.interface)
