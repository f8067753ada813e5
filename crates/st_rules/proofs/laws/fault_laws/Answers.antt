use Rattle.st_rules.proofs.FaultLaws.{least_breaks_first, least-append}
use Rattle.st_rules.proofs.laws.fault_laws.Goals as goal

pub returns-clause-first : goal.returns-clause-first
returns-clause-first c = least_breaks_first

pub returns-clause-joined : goal.returns-clause-joined
returns-clause-joined c = least-append
