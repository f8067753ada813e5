-- The names of the rules by which a program is refused.
use Rattle.std.specs.Prelude.{ℕ, List, codes, Bool, true, false}
use Rattle.plc_text.specs.declared.code.Code.{Code}
use Rattle.plc_text.specs.declared.code.Code.TheVariants.{E01, E02, E03, E04, E05, E06, E07, E08, E09, E10, E11, E12, E13, E14, E15, E16, E17}

-- the name of a code, as it is printed
abbrev pub code_name : Code → List ℕ
code_name E01 = codes "E01"
code_name E02 = codes "E02"
code_name E03 = codes "E03"
code_name E04 = codes "E04"
code_name E05 = codes "E05"
code_name E06 = codes "E06"
code_name E07 = codes "E07"
code_name E08 = codes "E08"
code_name E09 = codes "E09"
code_name E10 = codes "E10"
code_name E11 = codes "E11"
code_name E12 = codes "E12"
code_name E13 = codes "E13"
code_name E14 = codes "E14"
code_name E15 = codes "E15"
code_name E16 = codes "E16"
code_name E17 = codes "E17"

-- whether the code is E17, whose refusals alone name a kind of fault
abbrev pub is_e17 : Code → Bool
is_e17 E17 = true
is_e17 _ = false
