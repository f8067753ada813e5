use Rattle.std.proofs.Common.{length}
use Rattle.st_rules.specs.Interfaces.{interfaces_in}
use Rattle.check_limits.proofs.base_limits.HeightLaws.{Edges}
use Rattle.check_limits.proofs.base_limits.heights.high_interfaces.Given as goal

abbrev pub invariant-decls : goal.invariant-decls
invariant-decls l = Edges (interfaces_in l.classes.decls) (interfaces_in l.decls) (interfaces_in l.left) l.number l.edges.items

abbrev pub decreases-decls : goal.decreases-decls
decreases-decls l = length l.left
