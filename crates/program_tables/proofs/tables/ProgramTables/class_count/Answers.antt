use Rattle.program_tables.proofs.TableLaws.{count_found}
use Rattle.program_tables.proofs.tables.ProgramTables.class_count.Goals as goal

pub returns : goal.returns
returns c =
    let i = c.self.inside in
    rw (← c.self.view_is) (count_found i.of.value i.tables c.self.invariant)
