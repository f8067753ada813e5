use Rattle.std.proofs.Common.{◌≡◌, ◌++◌, drop}
use Rattle.program_tables.specs.st_initial.Variables.{variables_of}
use Rattle.st_meaning.specs.ProcessImage.{located_variables}
use Rattle.process_image.specs.Located.{all_seen}
use Rattle.process_image.proofs.located.push_variables.Given as goal

abbrev pub invariant-loop-k : goal.invariant-loop-k
invariant-loop-k l = (all_seen l.out.items ++ located_variables l.region l.k (variables_of (drop l.k l.variables))) ≡ (all_seen l.initial.out.items ++ located_variables l.region 0 (variables_of l.variables))
