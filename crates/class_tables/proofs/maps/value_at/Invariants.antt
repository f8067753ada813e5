use Rattle.std.proofs.Common.{◌≡◌, ◌-◌}
use Rattle.class_tables.specs.Private.Maps.{value_at}
use Rattle.class_tables.proofs.maps.value_at.Given as goal

-- what is left of the way leads where the whole leads
abbrev pub invariant-levels : goal.invariant-levels
invariant-levels l = value_at l.nodes (l.levels - l._level) l.root l.rest ≡ value_at l.nodes l.levels l.map l.key
