use Rattle.std.proofs.Common.{take, reverse}
use Rattle.machine_memory.proofs.ArgumentLaws.{Writing}
use Rattle.machine_memory.proofs.arguments.write_arguments.Given as goal

abbrev pub invariant-arguments : goal.invariant-arguments
invariant-arguments l = Writing (reverse (take l.n l.words.words)) l.i l.depth l.initial.locals.stride l.initial.locals.locals l.locals.locals l.locals.stride
