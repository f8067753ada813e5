use Rattle.std.proofs.Common.{◌∙◌}
use Rattle.program_tables.proofs.TableLaws.{chain_found}
use Rattle.program_tables.proofs.tables.ProgramTables.chain.Goals as goal

pub returns : goal.returns
returns c =
    let i = c.self.inside in
    rw (← c.self.view_is) (c.in_ok-chain.ensures ∙ chain_found i.of.value i.tables c.self.invariant c.args.class)
