use Rattle.std.proofs.Common.{◌≡◌, ◌++◌, drop}
use Rattle.class_tables.specs.Private.Graph.{class_ahead}
use Rattle.class_tables.proofs.graph.class_ahead.Given as goal

-- what is there with what is left
abbrev pub invariant-loop-interface : goal.invariant-loop-interface
invariant-loop-interface l = l.ahead ++ drop l.interface-index l.interface-items ≡ class_ahead l.count l.row
