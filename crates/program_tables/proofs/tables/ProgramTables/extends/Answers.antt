use Rattle.std.proofs.Common.{◌∙◌}
use Rattle.program_tables.proofs.TableLaws.{extends_found}
use Rattle.program_tables.proofs.tables.ProgramTables.extends.Goals as goal

pub returns : goal.returns
returns c =
    let i = c.self.inside in
    rw (← c.self.view_is) (c.extends.ensures ∙ extends_found i.of.value i.tables c.self.invariant c.args.interface c.args.other)
