use Rattle.std.proofs.Common.{sym}
use Rattle.st_names.proofs.NameLaws.{found, missing, distinct}
use Rattle.st_names.proofs.names.Names.find.Goals as goal

pub returns-in_err-n-clause-place : goal.returns-in_err-n-clause-place
returns-in_err-n-clause-place g c = rw c.from_residual.ensures (rw (← c.self.view_is) (missing c.self.inside.pairs.entries c.args.key.now (sym c.in_err-n.ensures.found)))

pub returns-in_err-n-clause-distinct : goal.returns-in_err-n-clause-distinct
returns-in_err-n-clause-distinct g c = rw (← c.self.view_is) (distinct c.self.inside.pairs.entries c.in_err-n.ensures.unique)

pub returns-clause-place : goal.returns-clause-place
returns-clause-place g c = rw (← c.self.view_is) (found c.self.inside.pairs.entries c.in_ok-n.n c.args.key.now (sym c.in_ok-n.ensures.index))

pub returns-clause-distinct : goal.returns-clause-distinct
returns-clause-distinct g c = rw (← c.self.view_is) (distinct c.self.inside.pairs.entries c.in_ok-n.ensures.unique)
