-- Widening: which kinds a value of a kind may be taken in without losing anything, and the kind that two operands take.
use Rattle.std.specs.Prelude.{ℕ, ◌≤◌}
use Rattle.st_types.specs.declared.elem.Elem.{Elem}
use Rattle.st_types.specs.declared.elem.Elem.TheVariants as kind

-- one step
pub data Widens : Elem → Elem → Type 0 where
  sint_int : Widens kind.Sint kind.Int
  int_dint : Widens kind.Int kind.Dint
  dint_lint : Widens kind.Dint kind.Lint
  usint_uint : Widens kind.Usint kind.Uint
  uint_udint : Widens kind.Uint kind.Udint
  udint_ulint : Widens kind.Udint kind.Ulint
  usint_int : Widens kind.Usint kind.Int
  uint_dint : Widens kind.Uint kind.Dint
  udint_lint : Widens kind.Udint kind.Lint
  byte_word : Widens kind.Byte kind.Word
  word_dword : Widens kind.Word kind.Dword
  dword_lword : Widens kind.Dword kind.Lword

-- any number of steps
pub data Reaches : Elem → Elem → Type 0 where
  itself : {e : Elem} → Reaches e e
  through : {a b c : Elem} → Widens a b → Reaches b c → Reaches a c

-- the place in the order in which two operands take a kind; BOOL and TIME are reached by themselves alone
abbrev pub place : Elem → ℕ
place kind.Bool = 0
place kind.Time = 1
place kind.Sint = 2
place kind.Usint = 3
place kind.Int = 4
place kind.Uint = 5
place kind.Dint = 6
place kind.Udint = 7
place kind.Lint = 8
place kind.Ulint = 9
place kind.Byte = 10
place kind.Word = 11
place kind.Dword = 12
place kind.Lword = 13

-- the first kind that both reach
pub record IsCommon (a b k : Elem) : Type 0 where
  pub left : Reaches a k
  pub right : Reaches b k
  pub first : (other : Elem) → Reaches a other → Reaches b other → place k ≤ place other
