-- Kinds are compared by their names.
use Rattle.std.proofs.Common.{◌≡◌, refl, true}
use Rattle.stack_code.specs.declared.op.Kind.{Kind}
use Rattle.stack_code.specs.declared.op.Kind.TheVariants.{Num, Addr}
use Rattle.stack_code.specs.contracts.op.KindPartialEq.TheImpl as eq

pub kind_decides : (x y : Kind) → ((eq.eq-value).it x y ≡ true → x ≡ y) × (x ≡ y → (eq.eq-value).it x y ≡ true)
kind_decides Num Num = (λ e. refl, λ e. refl)
kind_decides Num Addr = (λ e. absurd (cc), λ e. absurd (cc))
kind_decides Addr Num = (λ e. absurd (cc), λ e. absurd (cc))
kind_decides Addr Addr = (λ e. refl, λ e. refl)
