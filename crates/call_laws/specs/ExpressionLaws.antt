-- Expressions that break no rule are as the meaning asks.
use Rattle.std.specs.Prelude.{◌≡◌, ℕ, []}
use Rattle.st_tree.specs.Expression.{Expression}
use Rattle.st_rules.specs.declared.asked.Asked.{Asked}
use Rattle.st_rules.specs.declared.asked.Asked.TheVariants.{Untold}
use Rattle.st_rules.specs.Scope.{Scope}
use Rattle.st_rules.specs.Expressions.{faults, typed}
use Rattle.st_values.specs.Program.{Program}
use Rattle.st_meaning.specs.st_frame.Promise.Names.{Scope as Around}
use Rattle.st_meaning.specs.st_frame.Promise.Expressions.{ExpressionIs}
use Rattle.accepted_texts.specs.formed_units.Formed.{Formed}
use Rattle.place_laws.specs.Agrees.{Agrees}

pub record ExpressionLaws : Type 0 where
  -- of which something is asked that can be told
  pub expressions : (s : Scope) (p : Program) (g : Around) (asked : Asked) (e : Expression ℕ) → Agrees s p g → Formed e → (asked ≡ Untold → ⊥) → faults s asked e ≡ [] → ExpressionIs p g (typed s asked e)
