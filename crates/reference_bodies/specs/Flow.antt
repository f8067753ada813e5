-- How the code says that statements go on, as the meaning says it.
use Rattle.st_meaning.specs.Loop.{Flow, goes_on, exits, continues, returns}
use Rattle.reference_bodies.specs.declared.flow.Flow.{Flow as CodeFlow}
use Rattle.reference_bodies.specs.declared.flow.Flow.TheVariants as code

abbrev pub flow_of : CodeFlow → Flow
flow_of code.GoesOn = goes_on
flow_of code.Exits = exits
flow_of code.Continues = continues
flow_of code.Returns = returns
