use Rattle.std.proofs.Common.{◌∙◌}
use Rattle.program_tables.proofs.TableLaws.{number_found}
use Rattle.program_tables.proofs.tables.ProgramTables.class_number.Goals as goal

pub returns : goal.returns
returns c =
    let i = c.self.inside in
    rw (← c.self.view_is) (c.class_number.ensures ∙ number_found i.of.value i.tables c.self.invariant c.args.name.now)
