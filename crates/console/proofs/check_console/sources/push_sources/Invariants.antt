use Rattle.std.proofs.Common.{take}
use Rattle.console.specs.check_console.Private.Lines.{Adds}
use Rattle.console.proofs.check_console.sources.push_sources.Given as goal

abbrev pub invariant-loop-n : goal.invariant-loop-n
invariant-loop-n g l = Adds g.J.Judge.accepts g.J.Judge.refuses (take l.n l.sources) l.fn.out l.out
