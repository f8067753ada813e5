use Rattle.routine_tables.proofs.TableLaws.{holds}
use Rattle.routine_tables.proofs.tables.routine_tables.Goals as goal

pub returns : goal.returns
returns c = holds c.args.program.now _ c.in_ok-functions.ensures c.in_ok-methods.ensures c.in_ok-bodies.ensures
