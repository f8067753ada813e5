use Rattle.st_change.specs.From.{from}
use Rattle.program_tables.specs.st_initial.Variables.{variables_of}
use Rattle.change_names.proofs.change_pairs.VariableLaws.{PairsLeft}
use Rattle.change_names.proofs.change_pairs.sources.origins.Given as goal

abbrev pub invariant-loop-variable : goal.invariant-loop-variable
invariant-loop-variable l = PairsLeft (from (variables_of l.new) (variables_of l.old)) l.new l.variable-index l.pairs.items
