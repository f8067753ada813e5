-- What a name means in a table of distinct names.
use Rattle.std.proofs.Common.{◌≡◌, ℕ, zero, suc, Bool, true, false, cond, List, [], ◌∷◌, Some, None, refl, sym, ap, ◌∙◌, arith}
use Rattle.std.specs.Map.{lookup}
use Rattle.std.specs.Str.{bytes_eq}
use Rattle.std.specs.Cmp.Lexicographic.{bytes_decides}
use Rattle.st_names.specs.Names.{IsAt, IsValueAt, HasName, AreDistinct}
use Rattle.st_names.proofs.NameLaws.{fresh}

-- what has no such name
pub unnamed : {V : Type 0} (pairs : List (List ℕ × V)) (name : List ℕ) → (HasName pairs name → ⊥) → None ≡ lookup (bytes_eq name) pairs
unnamed pairs name h = sym (fresh pairs name h)

onward : {V : Type 0} (pairs : List (List ℕ × V)) (p : List ℕ × V) (name : List ℕ) (v : V) → (bytes_eq name p.0 ≡ true → ⊥) → Some v ≡ lookup (bytes_eq name) pairs → Some v ≡ lookup (bytes_eq name) (p ∷ pairs)
onward pairs p name v n h = by (bytes_eq name p.0) refl
  where
    by : (b : Bool) → bytes_eq name p.0 ≡ b → Some v ≡ cond (bytes_eq name p.0) (Some p.1) (lookup (bytes_eq name) pairs)
    by true e = absurd (n e)
    by false e = h ∙ ap (λ b. cond b (Some p.1) (lookup (bytes_eq name) pairs)) (sym e)

-- the value that stands beside a name
pub named : {V : Type 0} (pairs : List (List ℕ × V)) (n : ℕ) (name : List ℕ) (v : V) → AreDistinct pairs → IsAt pairs n name → IsValueAt pairs n v → Some v ≡ lookup (bytes_eq name) pairs
named [] n name v d h k = cc
named (p ∷ pairs) zero name v d h k =
    let first : Some p.0 ≡ Some name = h in
    let same : p.0 ≡ name = cc in
    let value : Some p.1 ≡ Some v = k in
    sym value ∙ ap (λ b. cond b (Some p.1) (lookup (bytes_eq name) pairs)) (sym ((bytes_decides name p.0).1 (sym same)))
named (p ∷ pairs) (suc n) name v d h k =
    onward pairs p name v
    (λ e.
    let same : Some p.0 ≡ Some name = ap Some (sym ((bytes_decides name p.0).0 e)) in
    let clash : zero ≡ suc n = d zero (suc n) name same h in
    absurd cc)
    (named pairs n name v (λ i j x a b. let e : suc i ≡ suc j = d (suc i) (suc j) x a b in omega (arith, e)) h k)
