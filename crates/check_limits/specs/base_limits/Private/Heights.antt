-- How high interfaces stand.
use Rattle.std.specs.Prelude.{◌≡◌, ℕ, suc, Bool, List, length}
use Rattle.st_tree.specs.declared.declaration.InterfaceDecl.{InterfaceDecl}
use Rattle.st_rules.specs.Interfaces.{extended}
use Rattle.st_unit_rules.specs.Limits.{most_steps, has_way}
use Rattle.graph_cycles.specs.Graph.{marked}

-- more steps lead up than may
pub record AreHigh (interfaces : List (InterfaceDecl ℕ)) (marks : List Bool) : Type 0 where
  pub high : (i : ℕ) → marked marks i ≡ has_way (extended interfaces) (length interfaces) (suc most_steps) i
