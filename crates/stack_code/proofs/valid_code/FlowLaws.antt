-- The rule for an instruction, by where a run goes behind it.
use Rattle.std.proofs.Common.{◌↔◌, ℕ, List}
use Rattle.stack_code.specs.declared.op.Kind.{Kind}
use Rattle.stack_code.specs.declared.op.Op.{Op}
use Rattle.stack_code.specs.declared.op.Op.TheVariants as op
use Rattle.stack_code.specs.declared.code.RoutineCode.{RoutineCode}
use Rattle.stack_code.specs.declared.code.MachineCode.{MachineCode}
use Rattle.stack_code.specs.Validity.{IsFine}
use Rattle.stack_code.specs.valid_code.Private.Checks.{IsFineFlow, flow_of}

module _ (code : MachineCode) (r : RoutineCode) (at : ℕ) (ks : List Kind) where
  pub fine_flow : (o : Op) → IsFineFlow code r at o ks (flow_of o) ↔ IsFine code r at o ks
  fine_flow (op.Push n) = (λ f. f, λ f. f)
  fine_flow op.Null = (λ f. f, λ f. f)
  fine_flow op.Drop = (λ f. f, λ f. f)
  fine_flow op.Dup = (λ f. f, λ f. f)
  fine_flow (op.Local n) = (λ f. f, λ f. f)
  fine_flow (op.This n) = (λ f. f, λ f. f)
  fine_flow (op.Region i n) = (λ f. f, λ f. f)
  fine_flow (op.Offset n) = (λ f. f, λ f. f)
  fine_flow (op.Index lo hi size) = (λ f. f, λ f. f)
  fine_flow op.Deref = (λ f. f, λ f. f)
  fine_flow (op.Load e) = (λ f. f, λ f. f)
  fine_flow (op.Store e) = (λ f. f, λ f. f)
  fine_flow op.LoadRef = (λ f. f, λ f. f)
  fine_flow op.StoreRef = (λ f. f, λ f. f)
  fine_flow (op.Copy n) = (λ f. f, λ f. f)
  fine_flow (op.Add e) = (λ f. f, λ f. f)
  fine_flow (op.Sub e) = (λ f. f, λ f. f)
  fine_flow (op.Mul e) = (λ f. f, λ f. f)
  fine_flow (op.Div e) = (λ f. f, λ f. f)
  fine_flow (op.Mod e) = (λ f. f, λ f. f)
  fine_flow (op.Neg e) = (λ f. f, λ f. f)
  fine_flow (op.AddC e) = (λ f. f, λ f. f)
  fine_flow op.Eq = (λ f. f, λ f. f)
  fine_flow op.Ne = (λ f. f, λ f. f)
  fine_flow op.Lt = (λ f. f, λ f. f)
  fine_flow op.Le = (λ f. f, λ f. f)
  fine_flow op.Gt = (λ f. f, λ f. f)
  fine_flow op.Ge = (λ f. f, λ f. f)
  fine_flow op.Same = (λ f. f, λ f. f)
  fine_flow (op.And e) = (λ f. f, λ f. f)
  fine_flow (op.Or e) = (λ f. f, λ f. f)
  fine_flow (op.Xor e) = (λ f. f, λ f. f)
  fine_flow (op.Not e) = (λ f. f, λ f. f)
  fine_flow (op.Conv e f) = (λ f. f, λ f. f)
  fine_flow op.NoZero = (λ f. f, λ f. f)
  fine_flow (op.Jump to) = (λ f. f, λ f. f)
  fine_flow (op.JumpF to) = (λ f. f, λ f. f)
  fine_flow op.Tick = (λ f. f, λ f. f)
  fine_flow (op.Call k n) = (λ f. f, λ f. f)
  fine_flow (op.CallM c s n) = (λ f. f, λ f. f)
  fine_flow (op.CallI i m n) = (λ f. f, λ f. f)
  fine_flow (op.Try t) = (λ f. f, λ f. f)
  fine_flow op.Now = (λ f. f, λ f. f)
  fine_flow (op.Ret n) = (λ f. f, λ f. f)
  fine_flow op.End = (λ f. f, λ f. f)
