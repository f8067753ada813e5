-- Declarations of places by example: PROGRAM, CLASS FINAL ABSTRACT P, 5.
use Rattle.std.proofs.Common.{◌≡◌, List, [], ◌∷◌, refl, codes}
use Rattle.st_tree.specs.declared.terminal.Terminal.TheVariants as x
use Rattle.st_tree.specs.Reads.{no_marks}
use Rattle.st_tree.specs.Grammar.{Lexeme}
use Rattle.st_tree.specs.Headings.{declaration_of}

abbrev places : List Lexeme
places =
    record { terminal = x.Program; text = codes "PROGRAM"; line = 1; marks = no_marks } ∷
    record { terminal = x.Class; text = codes "CLASS"; line = 1; marks = no_marks } ∷
    record { terminal = x.Final; text = codes "FINAL"; line = 1; marks = no_marks } ∷
    record { terminal = x.Abstract; text = codes "ABSTRACT"; line = 1; marks = no_marks } ∷
    record { terminal = x.Word; text = codes "P"; line = 1; marks = no_marks } ∷
    record { terminal = x.Int; text = codes "5"; line = 1; marks = no_marks } ∷
    []

-- no heading stands before the place
first : declaration_of 0 places ≡ codes "-"
first = refl

-- no name follows
without_name : declaration_of 1 places ≡ codes "-"
without_name = refl

-- the name stands behind the place
name_behind : declaration_of 3 places ≡ codes "P"
name_behind = refl

last : declaration_of 6 places ≡ codes "P"
last = refl
