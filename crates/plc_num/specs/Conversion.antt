-- Conversions between kinds, and the order of numbers (IEC 61131-3:2013, tables 22 and 31).
use Rattle.std.specs.Prelude.{◌≡◌, zero, ℤ, pos, ◌<ℤ◌}
use Rattle.std.specs.declared.cmp.Ordering.{Ordering}
use Rattle.std.specs.declared.cmp.Ordering.TheVariants.{Less, Equal, Greater}
use Rattle.st_types.specs.declared.elem.Elem.{Elem}
use Rattle.st_types.specs.declared.elem.Elem.TheVariants as kind
use Rattle.plc_num.specs.Wrapping.{wrapped}

-- a conversion wraps; to BOOL it means not zero
abbrev pub converted : Elem → ℤ → ℤ
converted kind.Bool (pos zero) = pos 0
converted kind.Bool v = pos 1
converted e v = wrapped e v

-- the order of two numbers
abbrev pub Compares : ℤ → ℤ → Ordering → Type 0
Compares a b Less = a <ℤ b
Compares a b Equal = a ≡ b
Compares a b Greater = b <ℤ a
