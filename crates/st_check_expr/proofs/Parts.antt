-- The least of rules that are broken one part after the other.
use Rattle.std.proofs.Common.{◌≡◌, ℕ, ◌++◌, Option, sym, ap, ◌∙◌}
use Rattle.plc_text.specs.declared.code.Code.{Code}
use Rattle.st_rules.specs.Faults.{Faults, least, earlier}
use Rattle.st_rules.proofs.FaultLaws.{least-append, earlier-assoc}

abbrev pub pair : {A B : Type 0} → A → B → A × B
pair a b = (a, b)

pub both : {A B : Type 0} {a a' : A} {b b' : B} → a ≡ a' → b ≡ b' → pair a b ≡ pair a' b'
both {A = A} {B = B} {a = a} {a' = a'} {b = b} {b' = b'} p q = ap (λ (x : A). pair x b) p ∙ ap (λ (y : B). pair a' y) q

-- parts behind what was broken before
pub two_parts : (r : Option (Code × ℕ)) (xs ys : Faults) → earlier r (least (xs ++ ys)) ≡ earlier (earlier r (least xs)) (least ys)
two_parts r xs ys = ap (earlier r) (least-append xs ys) ∙ earlier-assoc r (least xs) (least ys)

pub three_parts : (r : Option (Code × ℕ)) (xs ys zs : Faults) → earlier r (least (xs ++ ys ++ zs)) ≡ earlier (earlier (earlier r (least xs)) (least ys)) (least zs)
three_parts r xs ys zs = two_parts r (xs ++ ys) zs ∙ ap (λ x. earlier x (least zs)) (two_parts r xs ys)

-- the least of parts, each as it is told
pub joined : (r a b : Option (Code × ℕ)) (xs ys : Faults) → r ≡ earlier a b → a ≡ least xs → b ≡ least ys → r ≡ least (xs ++ ys)
joined r a b xs ys e p q = e ∙ ap (λ x. earlier x b) p ∙ ap (earlier (least xs)) q ∙ sym (least-append xs ys)
