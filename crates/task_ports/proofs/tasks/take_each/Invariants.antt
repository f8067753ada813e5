use Rattle.std.proofs.Common.{drop}
use Rattle.st_values.specs.View.{program_of}
use Rattle.process_image.specs.Located.{all_seen}
use Rattle.task_ports.specs.Private.Takes.{Collecting}
use Rattle.task_ports.proofs.tasks.take_each.Given as goal

abbrev pub invariant-loop-x : goal.invariant-loop-x
invariant-loop-x l = Collecting (program_of l.layout) l.footprint (all_seen l.located) (all_seen (drop l.x-index l.located)) l.inputs.items l.outputs.items l.end
