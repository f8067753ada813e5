use Rattle.st_rules.proofs.InterfaceLaws.{conforms_to_itself, conforms_through, conforms_further}
use Rattle.st_rules.proofs.laws.conformance_laws.Goals as goal

pub returns-clause-itself : goal.returns-clause-itself
returns-clause-itself g c = λ classes interfaces. conforms_to_itself interfaces classes

pub returns-clause-through : goal.returns-clause-through
returns-clause-through g c = λ classes interfaces. conforms_through interfaces classes

pub returns-clause-further : goal.returns-clause-further
returns-clause-further g c = λ classes interfaces. conforms_further interfaces classes
