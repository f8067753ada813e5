use Rattle.std.proofs.Common.{◌≡◌, ◌++◌, drop, map}
use Rattle.type_resolution.specs.declared_variables.Private.Told.{told_as, told_like}
use Rattle.type_resolution.proofs.declared_variables.members.declared_each.Given as goal

-- what was declared, and what the rest declares, is all
abbrev pub invariant-loop-i : goal.invariant-loop-i
invariant-loop-i l = l.list ++ told_like (drop l.i l.untold) (map told_as (drop l.i l.names)) ≡ told_like l.untold (map told_as l.names)
