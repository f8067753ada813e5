use Rattle.std.proofs.Common.{◌∙◌, ap}
use Rattle.std.specs.Prelude.{option_map}
use Rattle.program_tables.specs.Routine.{routine_of}
use Rattle.program_tables.proofs.TableLaws.{body_found}
use Rattle.program_tables.proofs.tables.ProgramTables.body_of.Goals as goal

pub returns : goal.returns
returns c =
    let i = c.self.inside in
    rw (← c.self.view_is) (ap (option_map (routine_of i.of.value)) c.body_of.ensures ∙ body_found i.of.value i.tables c.self.invariant c.args.class)
