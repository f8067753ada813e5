-- The least of rules that are joined.
use Rattle.std.proofs.Common.{◌≡◌, ℕ, ◌++◌, Option, sym, ap, ◌∙◌}
use Rattle.plc_text.specs.declared.code.Code.{Code}
use Rattle.st_rules.specs.Faults.{Faults, earlier, least}
use Rattle.st_rules.proofs.FaultLaws.{least-append}

pub two_joined : (a b r : Option (Code × ℕ)) (xs ys : Faults) → a ≡ least xs → b ≡ least ys → r ≡ earlier a b → r ≡ least (xs ++ ys)
two_joined a b r xs ys h k e = e ∙ ap (λ x. earlier x b) h ∙ ap (earlier (least xs)) k ∙ sym (least-append xs ys)

pub three_joined : (a b c p r : Option (Code × ℕ)) (xs ys zs : Faults) → a ≡ least xs → b ≡ least ys → c ≡ least zs → p ≡ earlier a b → r ≡ earlier p c → r ≡ least (xs ++ ys ++ zs)
three_joined a b c p r xs ys zs h k l e f = two_joined p c r (xs ++ ys) zs (two_joined a b p xs ys h k e) l f

pub four_joined : (a b c d p q r : Option (Code × ℕ)) (xs ys zs ws : Faults) → a ≡ least xs → b ≡ least ys → c ≡ least zs → d ≡ least ws → p ≡ earlier a b → q ≡ earlier p c → r ≡ earlier q d
    → r ≡ least (xs ++ ys ++ zs ++ ws)
four_joined a b c d p q r xs ys zs ws h k l m e f g = two_joined q d r (xs ++ ys ++ zs) ws (three_joined a b c p q xs ys zs h k l e f) m g
