-- One entry more of a table.
use Rattle.std.proofs.Common.{◌≡◌, ℕ, Bool, true, false, ◌||◌, ◌&&◌, refl}
use Rattle.std.specs.Prelude.{cond, Option, if◌then◌else◌}

-- whether it was found or is still to come
pub found_or_left : (t old rest new all : Bool) → new ≡ cond t true old → (old || (t || rest)) ≡ all → (new || rest) ≡ all
found_or_left true true rest new all n e = rw n e
found_or_left true false rest new all n e = rw n e
found_or_left false true rest new all n e = rw n e
found_or_left false false rest new all n e = rw n e

-- three tests, however they are grouped
pub grouped : (a b d : Bool) (x y : Option ℕ) → cond (a && (b && d)) x y ≡ (if a && b && d then x else y)
grouped true true d x y = refl
grouped true false d x y = refl
grouped false b d x y = refl
