-- Names that are held.
use Rattle.std.specs.Prelude.{◌≡◌, ℕ, List}
use Rattle.st_unit_rules.specs.NameRules.{is_named}

-- both lists have the same names
pub record Holds (held names : List (List ℕ)) : Type 0 where
  pub same : (name : List ℕ) → is_named name held ≡ is_named name names
