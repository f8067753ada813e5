-- Parentheses, NOT and signs, from what they stand around.
use Rattle.std.specs.Prelude.{◌≡◌, ℕ}
use Rattle.st_tree.specs.declared.program.Target.TheVariants.{Nothing}
use Rattle.st_tree.specs.Expression.{expression_of, Paren, Not, Negate}
use Rattle.st_rules.specs.Faults.{least, earlier}
use Rattle.st_rules.specs.Kinds.{unary_type, takes_not, takes_minus}
use Rattle.st_rules.specs.Expressions.{note, operand_unsuited}
use Rattle.check_nodes.specs.declared.found.Checked.{Checked}

pub record Encloses (c : Checked) (line : ℕ) (x : Checked) : Type 0 where
  pub told : c.told ≡ x.told
  pub least : c.least ≡ x.least
  pub tree : expression_of c.tree ≡ Paren (note line x.told Nothing) (expression_of x.tree)

pub record Denies (c : Checked) (line operand_line : ℕ) (x : Checked) : Type 0 where
  pub told : c.told ≡ unary_type takes_not x.told
  pub least : c.least ≡ earlier x.least (least (operand_unsuited operand_line takes_not x.told))
  pub tree : expression_of c.tree ≡ Not (note line (unary_type takes_not x.told) Nothing) (expression_of x.tree)

pub record Negates (c : Checked) (line operand_line : ℕ) (x : Checked) : Type 0 where
  pub told : c.told ≡ unary_type takes_minus x.told
  pub least : c.least ≡ earlier x.least (least (operand_unsuited operand_line takes_minus x.told))
  pub tree : expression_of c.tree ≡ Negate (note line (unary_type takes_minus x.told) Nothing) (expression_of x.tree)
