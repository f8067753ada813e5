-- Whole numbers wrapped to a kind: two's complement for the signed kinds, unsigned for all others (IEC 61131-3:2013, 6.4.2).
use Rattle.std.specs.Prelude.{◌≡◌, ◌^◌, ℤ, pos, ◌+ℤ◌, ◌-ℤ◌, ◌*ℤ◌}
use Rattle.std.specs.Int.{int_rem_euclid}
use Rattle.st_types.specs.declared.elem.Elem.{Elem}
use Rattle.st_types.specs.Elem.{bits}
use Rattle.st_types.specs.Range.{Fits, lowest}

-- r is the value of the kind that differs from v by a multiple of two to the width
pub record Wraps (e : Elem) (v r : ℤ) : Type 0 where
  pub fits : Fits e r
  pub turns : ℤ
  pub differ : v ≡ r +ℤ turns *ℤ pos (2 ^ bits e)

-- that value: as far above the least one as v is, by a count that begins again after the greatest
unfoldable pub wrapped : Elem → ℤ → ℤ
wrapped e v = lowest e +ℤ int_rem_euclid (v -ℤ lowest e) (pos (2 ^ bits e))
