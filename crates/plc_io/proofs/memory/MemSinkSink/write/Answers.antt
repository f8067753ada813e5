use Rattle.std.proofs.Common.{arith}
use Rattle.std.proofs.lemmas.Grind.{common_steps}
use Rattle.plc_io.proofs.memory.MemSinkSink.write.Goals as goal

pub invariant_of-self-2 : goal.invariant_of-self-2
invariant_of-self-2 c = grind (arith, common_steps)

pub returns-clause-bytes : goal.returns-clause-bytes
returns-clause-bytes c = grind (arith, common_steps)

pub returns-clause-nothing : goal.returns-clause-nothing
returns-clause-nothing c = grind (arith, common_steps)

pub returns-clause-call : goal.returns-clause-call
returns-clause-call c = grind (arith, common_steps)
