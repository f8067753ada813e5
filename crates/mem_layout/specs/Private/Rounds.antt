-- Tables that are filled in rounds.
use Rattle.std.specs.Prelude.{◌≡◌, ℕ, ◌<◌, List, Bool, true, false, Option, Some, length, slice_get, slice_set}
use Rattle.st_values.specs.Program.{Program}
use Rattle.st_values.specs.Shape.{Shape, shape_within}
use Rattle.program_tables.specs.declared.st_initial.variables.Variable as held
use Rattle.program_tables.specs.st_initial.Members.{list_at}
use Rattle.mem_layout.specs.declared.sizes.Entry.{Entry}
use Rattle.mem_layout.specs.declared.sizes.Tables.{Tables}
use Rattle.mem_layout.specs.Private.Table.{list_of, named, members}

-- the table with this as the k-th of the classes, or of the structures
abbrev pub with_entry : Tables → Bool → ℕ → Option Entry → Tables
with_entry t true k e = record { structures = t.structures; classes = slice_set t.classes k e }
with_entry t false k e = record { structures = slice_set t.structures k e; classes = t.classes }

abbrev pub is_laid_out : Option (Option Entry) → Bool
is_laid_out (Some (Some e)) = true
is_laid_out _ = false

abbrev pub Has : Tables → Bool → ℕ → Type 0
Has t class k = (e : Entry) × (slice_get (list_of t class) k ≡ Some (Some e))

-- what was laid out is so
pub record Stays (t t' : Tables) : Type 0 where
  pub entry : (class : Bool) (k : ℕ) (e : Entry) → slice_get (list_of t class) k ≡ Some (Some e) → slice_get (list_of t' class) k ≡ Some (Some e)
  pub long : (class : Bool) → length (list_of t' class) ≡ length (list_of t class)

-- the variables of all classes and programs, or of all structures
pub record AreVariables (p : Program) (class : Bool) (lists : List (List held.Variable)) : Type 0 where
  pub each : (k : ℕ) → list_at lists k ≡ members p class k
  pub all : (k n : ℕ) (sh : Shape) → shape_within p n (named class k) ≡ Some sh → k < length lists
