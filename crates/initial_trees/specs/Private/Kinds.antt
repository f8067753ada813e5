-- What the types of a program are, by their numbers.
use Rattle.std.specs.Prelude.{ℕ, Bool, true, false, List, Option, Some, None, slice_get}
use Rattle.st_values.specs.Program.{TypeBody, an_alias, an_enumeration, a_structure, TypeEntry, Program}

abbrev pub is_enumeration : TypeBody → Bool
is_enumeration an_alias = false
is_enumeration (an_enumeration values) = true
is_enumeration (a_structure fields) = false

abbrev pub enumerates : Option TypeEntry → Bool
enumerates None = false
enumerates (Some t) = is_enumeration t.body

-- whether the type of this number is an enumeration
abbrev pub is_enumeration_at : Program → ℕ → Bool
is_enumeration_at p n = enumerates (slice_get p.types n)

abbrev pub of_structure : List ℕ → TypeBody → Option (List ℕ)
of_structure name an_alias = None
of_structure name (an_enumeration values) = None
of_structure name (a_structure fields) = Some name

abbrev pub structure_name : Option TypeEntry → Option (List ℕ)
structure_name None = None
structure_name (Some t) = of_structure t.name t.body

-- the name of the structure of this number
abbrev pub structure_name_at : Program → ℕ → Option (List ℕ)
structure_name_at p n = structure_name (slice_get p.types n)
