use Rattle.code_cells.proofs.RoutineLaws.{routine_valid}
use Rattle.code_cells.proofs.laws.routine_laws.Goals as goal

pub returns : goal.returns
returns c = record { valid = λ code r cells rets enters settles whole. routine_valid code r rets enters cells settles whole }
