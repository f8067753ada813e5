-- The class or structure of which a type holds values, and its node.
use Rattle.std.specs.Prelude.{ℕ, ◌+◌, nat_lt, int_le, if◌then◌else◌, Option, Some, None, option_and_then}
use Rattle.st_types.specs.declared.st_type.StType.{StType}
use Rattle.st_types.specs.declared.st_type.StType.TheOpen.{StType-F}
use Rattle.st_types.specs.declared.st_type.StType.TheFolds.{fold-StType}
use Rattle.region_instances.specs.declared.held.Held.{Held}
use Rattle.region_instances.specs.declared.held.Held.TheVariants as held
use Rattle.region_instances.specs.declared.held.Counts.{Counts}

abbrev pub held_at_level : StType-F (Option Held) → Option Held
held_at_level (StType-F.Instance c) = Some (held.Class c)
held_at_level (StType-F.Structure n) = Some (held.Structure n)
held_at_level (StType-F.Array low high o) = if int_le low high then o else None
held_at_level _ = None

-- what a type is or, of an array that has elements, what its elements hold
unfoldable pub held_of : StType → Option Held
held_of t = fold-StType (Option Held) held_at_level t

abbrev pub node : Counts → Held → Option ℕ
node counts (held.Class c) = if nat_lt c counts.classes then Some c else None
node counts (held.Structure n) = if nat_lt n counts.structures then Some (counts.classes + n) else None

abbrev pub node_of : Counts → StType → Option ℕ
node_of counts t = option_and_then (node counts) (held_of t)
