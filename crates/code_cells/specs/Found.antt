-- The operand kinds that each cell finds, told from the last cell to the first, and when they fit.
use Rattle.std.specs.Prelude.{◌≡◌, ℕ, zero, suc, List, [], ◌∷◌, Option, Some, None, slice_get}
use Rattle.stack_code.specs.declared.op.Kind.{Kind}
use Rattle.stack_code.specs.declared.op.Kind.TheVariants.{Num, Addr}
use Rattle.stack_code.specs.declared.op.Op.{Op}
use Rattle.stack_code.specs.declared.op.Op.TheVariants as op
use Rattle.stack_code.specs.Validity.{after}
use Rattle.code_cells.specs.declared.cell.Cell.{Cell}
use Rattle.code_cells.specs.declared.cell.Cell.TheVariants.{Does as does, Skips as skips, SkipsAt0 as skips_at_0, Returns as returns, ReturnsAt0 as returns_at_0}
use Rattle.code_cells.specs.Cell.{Targets}

abbrev pub below : List Kind → List Kind
below [] = []
below (k ∷ ks) = ks

-- what an instruction finds, by what the next one finds
abbrev pub before : Op → List Kind → List Kind
before (op.Push n) ks = below ks
before op.Null ks = below ks
before op.Drop ks = Num ∷ ks
before op.Dup ks = below ks
before (op.Local n) ks = below ks
before (op.This n) ks = below ks
before (op.Region r n) ks = below ks
before (op.Offset n) ks = ks
before (op.Index lo hi size) ks = Num ∷ ks
before op.Deref ks = ks
before (op.Load e) ks = Addr ∷ below ks
before (op.Store e) ks = Addr ∷ Num ∷ ks
before op.LoadRef ks = ks
before op.StoreRef ks = Addr ∷ Addr ∷ ks
before (op.Copy n) ks = Addr ∷ Addr ∷ ks
before (op.Add e) ks = Num ∷ ks
before (op.Sub e) ks = Num ∷ ks
before (op.Mul e) ks = Num ∷ ks
before (op.Div e) ks = Num ∷ ks
before (op.Mod e) ks = Num ∷ ks
before (op.Neg e) ks = ks
before (op.AddC e) ks = ks
before op.Eq ks = Num ∷ ks
before op.Ne ks = Num ∷ ks
before op.Lt ks = Num ∷ ks
before op.Le ks = Num ∷ ks
before op.Gt ks = Num ∷ ks
before op.Ge ks = Num ∷ ks
before op.Same ks = Addr ∷ Addr ∷ below ks
before (op.And e) ks = Num ∷ ks
before (op.Or e) ks = Num ∷ ks
before (op.Xor e) ks = Num ∷ ks
before (op.Not e) ks = ks
before (op.Conv e f) ks = ks
before op.NoZero ks = ks
before (op.Jump to) ks = ks
before (op.JumpF to) ks = Num ∷ ks
before op.Tick ks = ks
before (op.Call k n) ks = Addr ∷ Addr ∷ ks
before (op.CallM c s n) ks = Addr ∷ Addr ∷ ks
before (op.CallI i m n) ks = Addr ∷ Addr ∷ ks
before (op.Try target) ks = ks
before op.Now ks = below ks
before (op.Ret n) ks = []
before op.End ks = []

-- what is found from a cell on: by it, by the next, and so on; None behind the end of a routine
abbrev pub Stream : Type 0
Stream = ℕ → Option (List Kind)

abbrev pub ended : Stream
ended n = None

abbrev pub then_found : List Kind → Stream → Stream
then_found ks next zero = Some ks
then_found ks next (suc n) = next n

abbrev pub kinds_or_none : Option (List Kind) → List Kind
kinds_or_none None = []
kinds_or_none (Some ks) = ks

-- what a cell finds, by what is found behind it
abbrev pub found : Cell → Stream → List Kind
found (does o line) next = before o (kinds_or_none (next 0))
found (skips n line) next = kinds_or_none (next n)
found (skips_at_0 n line) next = Num ∷ kinds_or_none (next 0)
found (returns n line) next = kinds_or_none (next 0)
found (returns_at_0 n line) next = Num ∷ kinds_or_none (next 0)

-- what is found from code on
abbrev pub from : List Cell → Stream → Stream
from [] out = out
from (c ∷ cs) out = let next = from cs out in then_found (found c next) next

-- what each cell of code finds
abbrev pub all_found : List Cell → Stream → List (List Kind)
all_found [] out = []
all_found (c ∷ cs) out = found c (from cs out) ∷ all_found cs out

-- ---- when they fit

-- a cell, with what it finds
abbrev pub Mark : Type 0
Mark = Cell × List Kind

-- a TICK that finds this stands so many cells back, the cell itself counted as 0
pub record TicksAt (marks : List Mark) (n : ℕ) (ks : List Kind) : Type 0 where
  pub line : ℕ
  pub there : slice_get marks n ≡ Some (does op.Tick line, ks)

-- a cell goes on where what it leaves is found
pub record GoesOn (left : Option (List Kind)) (next : Option (List Kind)) : Type 0 where
  pub ks : List Kind
  pub leaves : left ≡ Some ks
  pub finds : next ≡ Some ks

-- a call finds an address above another, and leaves what is below them
pub record Calls (n : ℕ) (ks : List Kind) (next : Option (List Kind)) : Type 0 where
  pub left : List Kind
  pub count : n ≡ 1
  pub args : ks ≡ Addr ∷ Addr ∷ left
  pub finds : next ≡ Some left

-- what is to hold of an instruction that finds kinds
abbrev pub Does : Op → List Kind → Option (List Kind) → Type 0
Does (op.Jump to) ks next = ⊥
Does (op.JumpF to) ks next = ⊥
Does (op.Ret n) ks next = (ks ≡ []) × (n ≡ 0)
Does op.End ks next = ks ≡ []
Does (op.Call k n) ks next = Calls n ks next
Does (op.CallM c s n) ks next = Calls n ks next
Does (op.CallI i m n) ks next = Calls n ks next
Does o ks next = GoesOn (after o ks) next

-- what is to hold of a cell that finds kinds, with the marks back from it and what is found behind it
abbrev pub Fits : List Mark → Cell → List Kind → Stream → Type 0
Fits marks (does o line) ks next = Does o ks (next 0)
Fits marks (skips n line) ks next = GoesOn (Some ks) (next n)
Fits marks (skips_at_0 n line) ks next = GoesOn (after (op.JumpF 0) ks) (next 0) × GoesOn (after (op.JumpF 0) ks) (next n)
Fits marks (returns n line) ks next = TicksAt marks n ks
Fits marks (returns_at_0 n line) ks next = GoesOn (after (op.JumpF 0) ks) (next 0) × TicksAt marks n (kinds_or_none (next 0))

-- code of which every cell fits, behind marks, the nearest first
abbrev pub AllFit : List Mark → List Cell → Stream → Type 0
AllFit marks [] out = Unit {0}
AllFit marks (c ∷ cs) out =
    let next = from cs out in
    Fits ((c, found c next) ∷ marks) c (found c next) next × AllFit ((c, found c next) ∷ marks) cs out

-- the marks behind code
abbrev pub marks_behind : List Mark → List Cell → Stream → List Mark
marks_behind marks [] out = marks
marks_behind marks (c ∷ cs) out = marks_behind ((c, found c (from cs out)) ∷ marks) cs out

-- code that leads from operand kinds to others, wherever it stands
pub record Takes (cs : List Cell) (ks left : List Kind) : Type 0 where
  pub finds : (out : Stream) → out 0 ≡ Some left → from cs out 0 ≡ Some ks
  pub fits : (marks : List Mark) (out : Stream) → out 0 ≡ Some left → AllFit marks cs out

-- behind code no operands are left, nor where EXIT, CONTINUE and RETURN lead
pub record Free (to : Targets) (out : Stream) : Type 0 where
  pub goes_on : out 0 ≡ Some []
  pub exits : out to.to_exit ≡ Some []
  pub continues : out to.to_continue ≡ Some []
  pub returns : out to.to_return ≡ Some []
