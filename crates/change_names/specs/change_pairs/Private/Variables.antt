-- Where variables and pairs of a name stand, and old names by such places.
use Rattle.std.specs.Prelude.{ℕ, nat_eq, Bool, false, not, ◌&&◌, if◌then◌else◌, List, Option, Some, None, is_some, option_map, option_and_then, slice_get}
use Rattle.plc_text.specs.Words.{same}
use Rattle.st_change.specs.From.{is_name}
use Rattle.program_tables.specs.declared.st_initial.variables.Variable as held
use Rattle.change_names.specs.declared.change_pairs.sources.Pair.{Pair}
use Rattle.change_names.specs.change_pairs.Places.{Table, Finds, first_where, last_where}

abbrev pub has_mark : List ℕ → held.Variable → Bool
has_mark name v = is_name (option_map (λ t. t.now) v.renamed_from) name

abbrev pub is_pair_of : List ℕ → Pair → Bool
is_pair_of name a = same a.name.now name

abbrev pub comes_from : List ℕ → Pair → Bool
comes_from name a = is_name (option_map (λ t. t.now) a.from) name

-- ---- old names, where it is known which names the old declaration has, and where marks stand

abbrev pub name_at : List held.Variable → Option ℕ → Option (List ℕ)
name_at vs o = option_map (λ v. v.name.now) (option_and_then (slice_get vs) o)

module _ (declared marks : List ℕ → Option ℕ) (vs : List held.Variable) where
  abbrev pub own_by : held.Variable → Option (List ℕ)
  own_by v = if is_some (declared v.name.now) && not (is_some (name_at vs (marks v.name.now))) then Some v.name.now else None

  abbrev pub mark_by : held.Variable → Option (List ℕ) → Option (List ℕ)
  mark_by v None = own_by v
  mark_by v (Some o) = if is_some (declared o) && is_name (name_at vs (marks o)) v.name.now then Some o else own_by v

  abbrev pub from_by : held.Variable → Option (List ℕ)
  from_by v = mark_by v (option_map (λ t. t.now) v.renamed_from)

abbrev pub same_by : (List ℕ → Option ℕ) → held.Variable → Option (List ℕ)
same_by declared v = if is_some (declared v.name.now) then Some v.name.now else None

-- ---- pairs

-- the tables of pairs
pub record AreTables (ps : List Pair) (names sources : Table) : Type 0 where
  pub first : Finds names (λ name. first_where (is_pair_of name) ps)
  pub last : Finds sources (λ name. last_where (comes_from name) ps)

abbrev pub from_in : Option Pair → Option (List ℕ)
from_in None = None
from_in (Some a) = option_map (λ t. t.now) a.from

abbrev pub from_at : List Pair → ℕ → Option (List ℕ)
from_at ps k = from_in (slice_get ps k)

abbrev pub named_at : List Pair → ℕ → Option (List ℕ)
named_at ps k = option_map (λ a. a.name.now) (slice_get ps k)

abbrev pub is_at : Option ℕ → ℕ → Bool
is_at None k = false
is_at (Some n) k = nat_eq n k

-- an old name, where the last that comes from it stands at this place
abbrev pub unless_by : (List ℕ → Option ℕ) → Option (List ℕ) → ℕ → Option (List ℕ)
unless_by last None k = None
unless_by last (Some o) k = if is_at (last o) k then Some o else None
