use Rattle.st_rules.proofs.InterfaceLaws.{extends_law, extends_itself, extends_through, interface_cycle_law}
use Rattle.st_rules.proofs.laws.interface_laws.Goals as goal

pub returns-clause-leads : goal.returns-clause-leads
returns-clause-leads g c = extends_law

pub returns-clause-itself : goal.returns-clause-itself
returns-clause-itself g c = extends_itself

pub returns-clause-through : goal.returns-clause-through
returns-clause-through g c = extends_through

pub returns-clause-cycle : goal.returns-clause-cycle
returns-clause-cycle g c = interface_cycle_law
