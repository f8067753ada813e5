-- The marks of the graph of a unit.
use Rattle.std.specs.Prelude.{◌≡◌, ℕ, Bool, List}
use Rattle.st_unit_rules.specs.declared_names.Declarations.{Declaration}
use Rattle.st_unit_rules.specs.Cycles.{is_type, contains_itself, leads_to_cycle, needs_itself}
use Rattle.graph_cycles.specs.Graph.{marked}
use Rattle.declared_graph.specs.Private.Known.{Table, IsTableOf}

pub record AreMarks (ds : List Declaration) (table : Table) (contain lead need : List Bool) : Type 0 where
  pub types : IsTableOf is_type table ds
  pub containing : (i : ℕ) → marked contain i ≡ contains_itself ds i
  pub leading : (i : ℕ) → marked lead i ≡ leads_to_cycle ds i
  pub needing : (i : ℕ) → marked need i ≡ needs_itself ds i
