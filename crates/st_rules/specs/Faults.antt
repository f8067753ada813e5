-- Rules that a declaration breaks, with the lines, and the least of them.
use Rattle.std.specs.Prelude.{◌≡◌, ℕ, nat_lt, nat_eq, Bool, true, false, ◌&&◌, ◌||◌, ◌⊎◌, if◌then◌else◌, List, [], ◌∷◌, Option, Some, None}
use Rattle.plc_text.specs.declared.code.Code.{Code}
use Rattle.plc_text.specs.declared.code.Code.TheVariants.{E01, E02, E03, E04, E05, E06, E07, E08, E09, E10, E11, E12, E13, E14, E15, E16, E17}

-- the codes of the rules that are broken, each with the line
abbrev pub Faults : Type 0
Faults = List (Code × ℕ)

-- codes in their order
abbrev pub rank : Code → ℕ
rank E01 = 1
rank E02 = 2
rank E03 = 3
rank E04 = 4
rank E05 = 5
rank E06 = 6
rank E07 = 7
rank E08 = 8
rank E09 = 9
rank E10 = 10
rank E11 = 11
rank E12 = 12
rank E13 = 13
rank E14 = 14
rank E15 = 15
rank E16 = 16
rank E17 = 17

-- a lesser code, or the same code at a lesser line
abbrev pub comes_before : Code × ℕ → Code × ℕ → Bool
comes_before a b = nat_lt (rank a.0) (rank b.0) || nat_eq (rank a.0) (rank b.0) && nat_lt a.1 b.1

-- the first of both
abbrev pub earlier : Option (Code × ℕ) → Option (Code × ℕ) → Option (Code × ℕ)
earlier None b = b
earlier (Some a) None = Some a
earlier (Some a) (Some b) = Some (if comes_before b a then b else a)

-- the least code, at its least line
abbrev pub least : Faults → Option (Code × ℕ)
least [] = None
least (f ∷ fs) = earlier (Some f) (least fs)

-- the rule is broken at the line
abbrev pub at : Code → ℕ → Faults
at code line = (code, line) ∷ []

-- it is broken where the test holds
abbrev pub when : Bool → Code → ℕ → Faults
when true code line = at code line
when false code line = []

-- a rule of that code is broken at that line
abbrev pub Breaks : Faults → Code → ℕ → Type 0
Breaks [] code line = ⊥
Breaks (f ∷ fs) code line = (f ≡ (code, line)) ⊎ Breaks fs code line

-- this rule is broken, and none with a lesser code, nor this one at a lesser line
pub record BreaksFirst (fs : Faults) (code : Code) (line : ℕ) : Type 0 where
  pub broken : Breaks fs code line
  pub first : (code' : Code) (line' : ℕ) → Breaks fs code' line' → comes_before (code', line') (code, line) ≡ false
