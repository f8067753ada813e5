-- The least of faults that stand one after the other.
use Rattle.std.proofs.Common.{◌≡◌, ◌++◌, ℕ, Bool, Option, sym, ap, ◌∙◌}
use Rattle.plc_text.specs.declared.code.Code.{Code}
use Rattle.st_rules.specs.Faults.{Faults, least, earlier, when}
use Rattle.st_rules.proofs.FaultLaws.{earlier-none, earlier-assoc, least-append}

pub ruleset joins = (earlier-none, earlier-assoc, least-append)

pub joined : (r a b : Option (Code × ℕ)) (xs ys : Faults) → r ≡ earlier a b → a ≡ least xs → b ≡ least ys → r ≡ least (xs ++ ys)
joined r a b xs ys e p q = e ∙ ap (λ x. earlier x b) p ∙ ap (earlier (least xs)) q ∙ sym (least-append xs ys)

pub tested : (r : Option (Code × ℕ)) (b d : Bool) (c : Code) (l : ℕ) → r ≡ least (when b c l) → b ≡ d → r ≡ least (when d c l)
tested r b d c l e h = e ∙ ap (λ t. least (when t c l)) h
