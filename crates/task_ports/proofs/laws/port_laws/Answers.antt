use Rattle.task_ports.proofs.Shown.{port_laws}
use Rattle.task_ports.proofs.laws.port_laws.Goals as goal

pub returns : goal.returns
returns c = port_laws
