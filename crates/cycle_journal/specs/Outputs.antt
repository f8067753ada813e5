-- Output bytes in room for 256.
use Rattle.std.specs.Prelude.{◌≡◌, ℕ, ◌-◌, ◌≤◌, List, ◌++◌, length, take, drop, replicate}
use Rattle.std.proofs.Common.{sym, ap, ◌∙◌, subst, take-append-drop, length-take-le}

-- In room for 256 bytes so many stand, and all that are behind them are 0.
pub record IsPadded (room : List ℕ) (len : ℕ) : Type 0 where
  pub few : len ≤ 256
  pub size : length room ≡ 256
  pub rest : drop len room ≡ replicate (256 - len) 0

-- the bytes that stand determine the room
pub len_again : (room : List ℕ) (len : ℕ) → IsPadded room len → length (take len room) ≡ len
len_again room len h = length-take-le len room (subst (λ (n : ℕ). len ≤ n) (sym h.size) h.few)

pub room_again : (room : List ℕ) (len : ℕ) → IsPadded room len → take len room ++ replicate (256 - length (take len room)) 0 ≡ room
room_again room len h =
    ap (λ (n : ℕ). take len room ++ replicate (256 - n) 0) (len_again room len h) ∙ ap (λ (rest : List ℕ). take len room ++ rest) (sym h.rest) ∙ take-append-drop len room
