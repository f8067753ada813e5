-- The least of rules that are broken one part after the other, and nothing broken in any part where none is in the whole.
use Rattle.std.proofs.Common.{◌≡◌, ℕ, ◌++◌, Option, Some, None, refl, sym, ap, ◌∙◌}
use Rattle.plc_text.specs.declared.code.Code.{Code}
use Rattle.st_rules.specs.Faults.{Faults, least, earlier}
use Rattle.st_rules.proofs.FaultLaws.{least-append, earlier-assoc}

abbrev pub pair : {A B : Type 0} → A → B → A × B
pair a b = (a, b)

pub both : {A B : Type 0} {a a' : A} {b b' : B} → a ≡ a' → b ≡ b' → pair a b ≡ pair a' b'
both {A = A} {B = B} {a = a} {a' = a'} {b = b} {b' = b'} p q = ap (λ (x : A). pair x b) p ∙ ap (λ (y : B). pair a' y) q

-- the least of parts, each as it is told
pub joined : (r a b : Option (Code × ℕ)) (xs ys : Faults) → r ≡ earlier a b → a ≡ least xs → b ≡ least ys → r ≡ least (xs ++ ys)
joined r a b xs ys e p q = e ∙ ap (λ x. earlier x b) p ∙ ap (earlier (least xs)) q ∙ sym (least-append xs ys)

pub none_before : (a b : Option (Code × ℕ)) → earlier a b ≡ None → a ≡ None
none_before None b h = refl
none_before (Some x) None h = absurd (cc h)
none_before (Some x) (Some y) h = absurd (cc h)

pub none_behind : (a b : Option (Code × ℕ)) → earlier a b ≡ None → b ≡ None
none_behind None b h = h
none_behind (Some x) None h = absurd (cc h)
none_behind (Some x) (Some y) h = absurd (cc h)

-- one part more of what is broken
pub more_broken : (x before one : Option (Code × ℕ)) (fs rest : Faults) (w : Option (Code × ℕ)) → x ≡ earlier before one → one ≡ least fs → earlier before (least (fs ++ rest)) ≡ w → earlier x (least rest) ≡ w
more_broken x before one fs rest w a f p =
    ap (λ r. earlier r (least rest)) (a ∙ ap (earlier before) f) ∙ sym (earlier-assoc before (least fs) (least rest)) ∙ ap (earlier before) (sym (least-append fs rest)) ∙ p
