-- Structures by name.
use Rattle.std.proofs.Common.{◌≡◌, ℕ, suc, Bool, true, false, List, [], ◌∷◌, map, Option, Some, None, refl, sym, ap, ap₂, ◌∙◌}
use Rattle.std.specs.Prelude.{if◌then◌else◌, option_map, option_and_then, slice_get}
use Rattle.plc_text.specs.Words.{same}
use Rattle.st_rules.specs.Named.{first_place}
use Rattle.st_tree.specs.declared.program.Program.{Program as CheckedProgram}
use Rattle.st_values.specs.Program.{Variable, TypeEntry, Program}
use Rattle.st_values.specs.Shape.{fields_of}
use Rattle.st_values.specs.View.{program_of, type_entry}
use Rattle.st_change.specs.From.{Pairs, pairs_by, same_name, structure_named, structure_pairs}
use Rattle.program_tables.specs.declared.st_initial.members.Members.{Members}
use Rattle.program_tables.specs.st_initial.Members.{list_at, Holds}
use Rattle.program_tables.specs.st_initial.Variables.{or_none}
use Rattle.change_names.specs.change_pairs.Places.{Table, found_in}
use Rattle.change_names.specs.Private.Places.{ArePlacesOf, names_of}
use Rattle.change_names.proofs.ListLaws.{map_map}

abbrev names_in : List TypeEntry → List (List ℕ)
names_in ts = map (λ t. t.name) ts

abbrev fields_there : List TypeEntry → Option ℕ → List Variable
fields_there ts o = or_none (option_and_then (λ t. fields_of t.body) (option_and_then (slice_get ts) o))

behind : (t : TypeEntry) (ts : List TypeEntry) (o : Option ℕ) → fields_there (t ∷ ts) (option_map suc o) ≡ fields_there ts o
behind t ts None = refl
behind t ts (Some k) = refl

-- the fields of the first type of the name
named_by : (ts : List TypeEntry) (name : List ℕ) → fields_there ts (first_place name (names_in ts)) ≡ structure_named ts name
named_by [] name = refl
named_by (t ∷ ts) name = at (named_by ts name) (same t.name name)
  where
    at : fields_there ts (first_place name (names_in ts)) ≡ structure_named ts name → (b : Bool) → fields_there (t ∷ ts) (if b then Some 0 else option_map suc (first_place name (names_in ts))) ≡ (if b then or_none (fields_of t.body) else structure_named ts name)
    at f true = refl
    at f false = behind t ts (first_place name (names_in ts)) ∙ f

names_same : (p : CheckedProgram) → names_of p.types ≡ names_in (program_of p).types
names_same p = sym (map_map type_entry (λ t. t.name) p.types)

module _ (p : CheckedProgram) (table : Table) (are : ArePlacesOf table (names_of p.types)) (name : List ℕ) where
  there_is : (o : Option ℕ) → o ≡ found_in table name → fields_there (program_of p).types o ≡ structure_named (program_of p).types name
  there_is o e = ap (fields_there (program_of p).types) (e ∙ are.by name ∙ ap (first_place name) (names_same p)) ∙ named_by (program_of p).types name

  pub no_structure : None ≡ found_in table name → [] ≡ structure_named (program_of p).types name
  no_structure e = there_is None e

  -- the fields that the tables of the program have
  pub structure_there : (m : Members) (k : ℕ) → Holds (program_of p) m → Some k ≡ found_in table name → list_at m.structures k ≡ structure_named (program_of p).types name
  structure_there m k holds e = holds.structures k ∙ there_is (Some k) e

-- ---- the pairs of a name

module _ (old new : Program) (name : List ℕ) where
  pub pairs_with : (vs ws : List Variable) → vs ≡ structure_named new.types name → ws ≡ structure_named old.types name → pairs_by (same_name ws) vs ≡ structure_pairs old new name
  unfolding structure_pairs
  pairs_with vs ws e f = ap₂ (λ a b. pairs_by (same_name b) a) e f

  pub pairs_none : [] ≡ structure_named new.types name → [] ≡ structure_pairs old new name
  unfolding structure_pairs
  pairs_none e = ap (λ vs. pairs_by (same_name (structure_named old.types name)) vs) e

-- ---- all types

pub by_types : (f : List ℕ → Pairs) (p : CheckedProgram) → map (λ d. f d.name.text) p.types ≡ map (λ t. f t.name) (program_of p).types
by_types f p = sym (map_map type_entry (λ t. f t.name) p.types)
