-- What the functions over declarations promise.
use Rattle.std.specs.Prelude.{◌≡◌, ℕ, ◌≤◌, Bool, true, false, List, [], ◌∷◌, Option, Some, None, length}
use Rattle.st_tree.specs.declared.terminal.Terminal.{Terminal}
use Rattle.st_tree.specs.Grammar.{Lexeme, Phrase}
use Rattle.st_parser_expr.specs.declared.stop.Stop.{Stop}
use Rattle.st_parser_expr.specs.declared.stop.Stop.TheVariants.{Left}
use Rattle.st_parser_decl.specs.Private.Form.{Form, State, starts, machine}

-- whether the first lexeme is one of these
abbrev pub first_in : (Terminal → Bool) → List Lexeme → Bool
first_in S [] = false
first_in S (t ∷ ts) = S t.terminal

-- ts, up to rest, are the phrase, and the machine passes the form there
pub record Parses (P : Phrase) (a : Form) (ts rest : List Lexeme) : Type 0 where
  pub spelled : P ts rest
  pub passes : (K : State) → machine (a ∷ K) ts ≡ machine K rest
  pub shorter : length rest ≤ length ts

-- where the form is wanted, the machine stops with so many lexemes left
pub record Fails (a : Form) (ts : List Lexeme) (stop : Stop) : Type 0 where
  pub stops : (n : ℕ) → stop ≡ Left n → (K : State) → machine (a ∷ K) ts ≡ (false, n)

-- the same of a form that begins there
pub record FailsInside (a : Form) (ts : List Lexeme) (stop : Stop) : Type 0 where
  pub begins : (n : ℕ) → stop ≡ Left n → first_in (starts a) ts ≡ true
  pub fails : Fails a ts stop

-- one v where the form begins, and nothing else
abbrev pub Perhaps : {X : Type 0} → (X → Phrase) → Form → Option X → List Lexeme → List Lexeme → Type 0
Perhaps P a None ts rest = (rest ≡ ts) × (first_in (starts a) ts ≡ false)
Perhaps P a (Some v) ts rest = (first_in (starts a) ts ≡ true) × Parses (P v) a ts rest
