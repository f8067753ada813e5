-- Sums, products and quotients of values of a kind: on whole numbers, then wrapped (IEC 61131-3:2013, table 29).
use Rattle.std.specs.Prelude.{ℤ, ◌+ℤ◌, ◌-ℤ◌, ◌*ℤ◌, int_div}
use Rattle.st_types.specs.declared.elem.Elem.{Elem}
use Rattle.plc_num.specs.Wrapping.{wrapped}

abbrev pub sum : Elem → ℤ → ℤ → ℤ
sum e a b = wrapped e (a +ℤ b)

abbrev pub difference : Elem → ℤ → ℤ → ℤ
difference e a b = wrapped e (a -ℤ b)

abbrev pub product : Elem → ℤ → ℤ → ℤ
product e a b = wrapped e (a *ℤ b)

-- `int_div` is the quotient toward zero
abbrev pub quotient : Elem → ℤ → ℤ → ℤ
quotient e a b = wrapped e (int_div a b)

-- what the quotient leaves
abbrev pub rest : ℤ → ℤ → ℤ
rest a b = a -ℤ int_div a b *ℤ b

abbrev pub remainder : Elem → ℤ → ℤ → ℤ
remainder e a b = wrapped e (rest a b)
