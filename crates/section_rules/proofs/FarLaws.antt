-- What lies far behind passes each image.
use Rattle.std.proofs.Common.{◌≡◌, ℕ, zero, suc, ◌+◌, ◌*◌, ◌≤◌, true, arith}
use Rattle.std.specs.Prelude.{nat_lt}
use Rattle.std.proofs.lemmas.Bool.{lt-ltb}

wide : (i w : ℕ) → 1 ≤ w → i ≤ i * w
wide i zero l = absurd (omega arith)
wide i (suc w) l = let e : i * suc w ≡ i * w + i = omega arith in omega arith

pub far : (i w limit : ℕ) → 1 ≤ w → limit ≤ 4_096 → 4_096 ≤ i → nat_lt limit (i * w + w) ≡ true
far i w limit l few h = let m = wide i w l in lt-ltb limit (i * w + w) (omega arith)
