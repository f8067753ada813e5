-- For callers: what a clause says once the bytes that were told before the call are known.
use Rattle.std.proofs.Common.{◌≡◌, List, None, Option, Some, refl, subst, ℕ}
use Rattle.plc_io.specs.Told.{WhereTold}

pub WhereTold-at_some : (old new : Option (List ℕ)) (P : List ℕ → List ℕ → Type 0) (was : List ℕ) → old ≡ Some was → WhereTold old new P
    → (is : List ℕ) × (new ≡ Some is) × P was is
WhereTold-at_some None new P was e h = cc
WhereTold-at_some (Some x) None P was e h = absurd h
WhereTold-at_some (Some x) (Some y) P was e h = let same : x ≡ was = cc in (y, refl, subst (λ z. P z y) same h)
