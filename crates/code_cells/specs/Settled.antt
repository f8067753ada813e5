-- A routine that cells become.
use Rattle.std.specs.Prelude.{◌≡◌, ◌≤◌, ℕ, List, [], ◌∷◌, map, length, reverse, Some, slice_get}
use Rattle.stack_code.specs.declared.op.Kind.{Kind}
use Rattle.stack_code.specs.declared.op.Kind.TheVariants.{Addr}
use Rattle.stack_code.specs.declared.op.Op.TheVariants as op
use Rattle.stack_code.specs.declared.code.RoutineCode.{RoutineCode}
use Rattle.stack_code.specs.declared.code.MachineCode.{MachineCode}
use Rattle.stack_code.specs.Validity.{MayEnterMethod, MayEnterTarget}
use Rattle.code_cells.specs.declared.cell.Cell.{Cell}
use Rattle.code_cells.specs.Cell.{settled_from}
use Rattle.code_cells.specs.Found.{from, ended, all_found, AllFit}

-- instructions, lines and kinds are those of the cells
pub record Settles (r : RoutineCode) (cells : List Cell) : Type 0 where
  pub ops : r.ops ≡ map (λ x. x.0) (settled_from 0 cells)
  pub lines : r.lines ≡ map (λ x. x.1) (settled_from 0 cells)
  pub kinds : r.kinds ≡ map (λ ks. Some (reverse ks)) (all_found cells ended)
  pub room : (n : ℕ) (ks : List Kind) → slice_get (all_found cells ended) n ≡ Some ks → length ks ≤ r.room

-- of a routine that calls enter: the block is its one argument, and it leaves no words
pub record IsCalled (x : RoutineCode) : Type 0 where
  pub args : x.args ≡ Addr ∷ []
  pub rets : x.rets ≡ []

-- what calls may enter is such
pub record EntersCalled (code : MachineCode) (r : RoutineCode) : Type 0 where
  pub call : (at k n : ℕ) (x : RoutineCode) → slice_get r.ops at ≡ Some (op.Call k n) → slice_get code.routines k ≡ Some x → IsCalled x
  pub method : (at c s n k : ℕ) (x : RoutineCode) → slice_get r.ops at ≡ Some (op.CallM c s n) → MayEnterMethod code c s k → slice_get code.routines k ≡ Some x → IsCalled x
  pub target : (at i m n k : ℕ) (x : RoutineCode) → slice_get r.ops at ≡ Some (op.CallI i m n) → MayEnterTarget code i m k → slice_get code.routines k ≡ Some x → IsCalled x

-- code of a whole routine
pub record Whole (cells : List Cell) : Type 0 where
  pub starts : from cells ended 0 ≡ Some []
  pub fits : AllFit [] cells ended
