-- The least of rules that are broken one part after the other.
use Rattle.std.proofs.Common.{◌≡◌, ℕ, ◌++◌, Option, sym, ap, ◌∙◌}
use Rattle.plc_text.specs.declared.code.Code.{Code}
use Rattle.st_rules.specs.Faults.{Faults, least, earlier}
use Rattle.st_rules.proofs.FaultLaws.{least-append, earlier-assoc}

-- the least of parts, each as it is told
pub joined : (r a b : Option (Code × ℕ)) (xs ys : Faults) → r ≡ earlier a b → a ≡ least xs → b ≡ least ys → r ≡ least (xs ++ ys)
joined r a b xs ys e p q = e ∙ ap (λ x. earlier x b) p ∙ ap (earlier (least xs)) q ∙ sym (least-append xs ys)

-- one part more of what is broken
pub more_broken : (x before one : Option (Code × ℕ)) (fs rest : Faults) (w : Option (Code × ℕ)) → x ≡ earlier before one → one ≡ least fs → earlier before (least (fs ++ rest)) ≡ w → earlier x (least rest) ≡ w
more_broken x before one fs rest w a f p =
    ap (λ r. earlier r (least rest)) (a ∙ ap (earlier before) f) ∙ sym (earlier-assoc before (least fs) (least rest)) ∙ ap (earlier before) (sym (least-append fs rest)) ∙ p
