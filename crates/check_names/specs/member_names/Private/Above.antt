-- The names that stand in some classes, by tables.
use Rattle.std.specs.Prelude.{ℕ, Bool, ◌||◌, List, [], flat_map, Option, Some, None, slice_get}
use Rattle.plc_text.specs.declared.code.Code.TheVariants.{E04}
use Rattle.st_tree.specs.declared.name.Name.{Name}
use Rattle.st_rules.specs.Faults.{Faults, when}
use Rattle.st_unit_rules.specs.NameRules.{is_named}

abbrev pub names_there : Option (List (List ℕ)) → List (List ℕ)
names_there None = []
names_there (Some held) = held

abbrev pub held_at : List (List (List ℕ)) → ℕ → List (List ℕ)
held_at tables c = names_there (slice_get tables c)

abbrev pub names_above : List (List (List ℕ)) → List ℕ → List (List ℕ)
names_above tables above = flat_map (held_at tables) above

abbrev pub is_taken : List (List ℕ) → List (List ℕ) → List ℕ → Bool
is_taken variables methods name = is_named name variables || is_named name methods

abbrev pub variable_above : List (List ℕ) → List (List ℕ) → Name → Faults
variable_above variables methods n = when (is_taken variables methods n.text) E04 n.line
