-- Which calls were followed already.
use Rattle.std.specs.Prelude.{◌≡◌, ℕ, Bool, true, ◌&&◌, ◌⊎◌, nat_eq, List, Option, IsTrue}
use Rattle.std.specs.Cmp.Lexicographic.{pointwise}
use Rattle.std.specs.HashSet.{HashSet, contains}
use Rattle.std.specs.Option.{option_eq}
use Rattle.st_tree.specs.declared.program.Program.{Program}
use Rattle.st_values.specs.Program.{Routine, conforms}
use Rattle.st_values.specs.View.{program_of}
use Rattle.program_tables.specs.declared.routine.RoutineId.{RoutineId}
use Rattle.footprints.specs.reached_routines.Reached.{IsListed}
use Rattle.footprints.specs.reached_routines.Families.{Family, kind_of, same_family}
use Rattle.footprints.specs.reached_routines.Private.Adds.{Aims}

-- a family, and the name of a method or nothing for the body
abbrev pub Question : Type 0
Question = Family × Option (List ℕ)

abbrev pub same_question : Question → Question → Bool
same_question a b = same_family a.0 b.0 && option_eq (pointwise nat_eq) a.1 b.1

abbrev pub is_asked : {S : Type 0} → HashSet Question S → Question → Bool
is_asked asked q = contains same_question asked q

-- the set has one question more
pub record AsksOne {S T : Type 0} (q : Question) (old : HashSet Question S) (new : HashSet Question T) : Type 0 where
  pub at : (o : Question) → is_asked new o ≡ true → (o ≡ q) ⊎ (is_asked old o ≡ true)

-- what was asked stands in the list
pub record AreAsked {S : Type 0} (p : Program) (asked : HashSet Question S) (ids : List RoutineId) : Type 0 where
  pub each : (f : Family) (what : Option (List ℕ)) → is_asked asked (f, what) ≡ true → (c : ℕ) → IsTrue (conforms (program_of p) c (kind_of f)) → (r : Routine) → Aims (program_of p) what c r → IsListed p ids r
