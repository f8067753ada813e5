use Rattle.st_change.specs.From.{same_name}
use Rattle.program_tables.specs.st_initial.Variables.{variables_of}
use Rattle.change_names.proofs.change_pairs.VariableLaws.{PairsLeft}
use Rattle.change_names.proofs.change_pairs.sources.same_names.Given as goal

abbrev pub invariant-loop-variable : goal.invariant-loop-variable
invariant-loop-variable l = PairsLeft (same_name (variables_of l.old)) l.new l.variable-index l.pairs.items
