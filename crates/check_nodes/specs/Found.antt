-- What is found out about an expression.
use Rattle.std.specs.Prelude.{◌≡◌, ℕ, Option}
use Rattle.st_types.specs.declared.st_type.StType.{StType}
use Rattle.st_tree.specs.declared.program.Note.{Note}
use Rattle.st_tree.specs.Expression.{Expression, expression_of}
use Rattle.st_rules.specs.declared.asked.Asked.{Asked}
use Rattle.st_rules.specs.Faults.{Faults, least}
use Rattle.st_rules.specs.Scope.{Scope}
use Rattle.st_rules.specs.Expressions.{type_of, faults, typed}
use Rattle.check_nodes.specs.declared.found.Checked.{Checked}

-- the type, the least of these faults, and the typed tree
pub record Finds (c : Checked) (t : Option StType) (fs : Faults) (e : Expression Note) : Type 0 where
  pub told : c.told ≡ t
  pub least : c.least ≡ least fs
  pub tree : expression_of c.tree ≡ e

-- those of an expression at a place that asks for something
abbrev pub Checks : Checked → Scope → Asked → Expression ℕ → Type 0
Checks c s asked e = Finds c (type_of s asked e) (faults s asked e) (typed s asked e)
