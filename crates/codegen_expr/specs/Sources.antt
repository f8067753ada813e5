-- Which expressions are places, in parentheses or not.
use Rattle.std.specs.Prelude.{◌≡◌, ℕ, true}
use Rattle.st_tree.specs.declared.expression.Root.{Root}
use Rattle.st_tree.specs.declared.program.Note.{Note}
use Rattle.st_tree.specs.Expression.{Expression, Selectors}
use Rattle.code_rules.specs.Plan.{Plan}
use Rattle.code_rules.specs.Code.{is_source, place_code, source_code}

-- the expression is this place
pub record IsSource (e : Expression Note) (r : Root Note) (ss : Selectors Note) : Type 0 where
  pub source : is_source e ≡ true
  pub code : (w : Plan) (line free : ℕ) → source_code w line free e ≡ place_code w line free r ss
