use Rattle.std.proofs.Common.{◌≡◌, ◌++◌, map, length}
use Rattle.st_tree.specs.Initial.{part_of}
use Rattle.default_values.specs.given_values.Lists as lists
use Rattle.default_values.proofs.given_values.given.rooms.Given as goal

abbrev pub invariant-parts : goal.invariant-parts
invariant-parts l = l.list.items ++ lists.rooms l.room (map part_of l.left) ≡ lists.rooms l.initial.room (map part_of l.parts)

abbrev pub decreases-parts : goal.decreases-parts
decreases-parts l = length l.left
