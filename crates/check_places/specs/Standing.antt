-- What stands at a place and what a name behind `.` means, as the code tells them.
use Rattle.std.specs.Prelude.{Option, option_map}
use Rattle.st_types.specs.declared.st_type.StType.TheVariants as type
use Rattle.st_rules.specs.Places.{untold, a_value, own_instance, no_base, an_enumeration, a_field, a_member, a_method, a_prototype, a_value_of}
use Rattle.st_rules.specs.Places as places
use Rattle.check_places.specs.declared.standing.Standing.{Standing}
use Rattle.check_places.specs.declared.standing.Standing.TheVariants as stands
use Rattle.check_places.specs.declared.standing.Part.{Part}
use Rattle.check_places.specs.declared.standing.Part.TheVariants as part

abbrev pub standing : Standing → places.Standing
standing stands.Untold = untold
standing (stands.Value t) = a_value t.now
standing (stands.Instance c) = a_value (type.Instance c)
standing (stands.Enumerator n) = a_value (type.Enumeration n)
standing (stands.Own c) = own_instance c
standing stands.NoBase = no_base
standing (stands.Enumeration n) = an_enumeration n

abbrev pub named_part : Part → places.Part
named_part (part.Field k f) = a_field k f.now.kind
named_part (part.Member d v) = a_member d v.now
named_part (part.Method id) = a_method id
named_part (part.Prototype id) = a_prototype id
named_part (part.Value n k) = a_value_of n k

-- what is told of a name that may mean something
abbrev pub parted : Option Part → Option places.Part
parted o = option_map named_part o
