-- All that tables keep of a unit's interfaces.
use Rattle.std.specs.Prelude.{◌≡◌, ℕ, List, map}
use Rattle.st_tree.specs.declared.unit.Unit.{Unit}
use Rattle.st_rules.specs.Interfaces.{interfaces_in, prototype_names}
use Rattle.iface_tables.specs.Private.Declarers.{Table, ids_in, ids_named}

pub record AreTables (unit : Unit) (prototypes : List (List (List ℕ))) (table : Table) : Type 0 where
  pub names : prototypes ≡ map prototype_names (interfaces_in unit.decls)
  pub declarers : (q : List ℕ) → ids_in table q ≡ ids_named prototypes q
