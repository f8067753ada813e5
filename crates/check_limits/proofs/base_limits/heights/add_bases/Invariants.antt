use Rattle.std.proofs.Common.{length}
use Rattle.st_rules.specs.Interfaces.{interfaces_in}
use Rattle.check_limits.proofs.base_limits.HeightLaws.{Bases}
use Rattle.check_limits.proofs.base_limits.heights.add_bases.Given as goal

abbrev pub invariant-bases : goal.invariant-bases
invariant-bases l = Bases (interfaces_in l.classes.decls) l.from l.fn.edges.items l.bases l.left l.edges.items

abbrev pub decreases-bases : goal.decreases-bases
decreases-bases l = length l.left
