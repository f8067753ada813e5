use Rattle.std.proofs.Common.{◌≡◌, ◌++◌, drop}
use Rattle.program_tables.specs.st_initial.Variables.{variables_of}
use Rattle.region_instances.specs.Private.Graph.{nodes_of}
use Rattle.region_instances.proofs.graph.nodes.Given as goal

abbrev pub invariant-loop-variable : goal.invariant-loop-variable
invariant-loop-variable l = (l.list ++ nodes_of l.counts (variables_of (drop l.variable-index l.variables))) ≡ nodes_of l.counts (variables_of l.variables)
