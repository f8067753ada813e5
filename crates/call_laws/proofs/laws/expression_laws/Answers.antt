use Rattle.std.proofs.Common.{◌≡◌, refl}
use Rattle.st_rules.specs.declared.asked.Asked.{Asked}
use Rattle.st_rules.specs.declared.asked.Asked.TheVariants.{Anything, Wanted, Untold}
use Rattle.place_laws.proofs.Literals.{AsksForTold}
use Rattle.call_laws.proofs.Expressions as Expr
use Rattle.call_laws.proofs.laws.expression_laws.Goals as goal

asks : (asked : Asked) → (asked ≡ Untold → ⊥) → AsksForTold asked
asks Anything h = tt
asks (Wanted t) h = tt
asks Untold h = absurd (h refl)

pub returns : goal.returns
returns c = record { expressions = λ s p g asked e a i h f. (Expr.expression s p g a asked e i (asks asked h) f).is }
