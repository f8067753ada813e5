-- What a call answers, handed on as it is.
use Rattle.std.proofs.Common.{◌≡◌, ℕ, Ok, Err, sym, subst}
use Rattle.std.specs.Prelude.{Result, IfOk}
use Rattle.plc_text.specs.declared.memory.NoMemory.{NoMemory}
use Rattle.st_tree.specs.declared.expression.Expr.{Expr}
use Rattle.st_tree.specs.Expression.{Expression, expression_of}
use Rattle.st_rules.specs.declared.asked.Asked.{Asked}
use Rattle.st_rules.specs.Scope.{Scope}
use Rattle.check_nodes.specs.declared.found.Checked.{Checked}
use Rattle.check_nodes.specs.Found.{Checks}

pub when_ok : {A E : Type 0} {P Q : A → Type 0} (r : Result A E) → IfOk r P → ((x : A) → P x → Q x) → IfOk r Q
when_ok (Ok x) h f = f x h
when_ok (Err e) h f = tt

pub all_seen : (r : Result Checked NoMemory) (s : Scope) (asked : Asked) (e : Expr ℕ) (x : Expression ℕ) → expression_of e ≡ x → IfOk r (λ c. Checks c s asked x) → IfOk r (λ c. Checks c s asked (expression_of e))
all_seen r s asked e x h f = subst (λ (y : Expression ℕ). IfOk r (λ c. Checks c s asked y)) (sym h) f
