-- Operations by a divisor other than 0 are done.
use Rattle.std.proofs.Common.{◌≡◌, ◌≢◌, ℕ, ℤ, zero, suc, pos, negsuc, refl}
use Rattle.st_types.specs.declared.elem.Elem.{Elem}
use Rattle.st_values.specs.Value.{number}
use Rattle.st_meaning.specs.Operation.{divided}
use Rattle.st_meaning.specs.State.{State, Done}

pub divides : (f : Elem → ℤ → ℤ → ℤ) (e : Elem) (a b : ℤ) (line : ℕ) (s : State) → b ≢ pos 0 → divided f e a b line s ≡ Done (number (f e a b)) s
divides f e a (pos zero) line s h = absurd (h refl)
divides f e a (pos (suc n)) line s h = refl
divides f e a (negsuc n) line s h = refl
