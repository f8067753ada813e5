-- What is asked at one place of a routine.
use Rattle.std.proofs.Common.{◌≡◌, ◌↔◌, ◌≤◌, ℕ, Bool, List, length, reverse, IsTrue, sym, ap, subst, ◌∙◌, arith}
use Rattle.std.specs.Prelude.{Some, slice_get}
use Rattle.std.proofs.lemmas.List.{length-reverse}
use Rattle.stack_code.specs.declared.op.Kind.{Kind}
use Rattle.stack_code.specs.declared.op.Op.{Op}
use Rattle.stack_code.specs.declared.code.RoutineCode.{RoutineCode}
use Rattle.stack_code.specs.declared.code.MachineCode.{MachineCode}
use Rattle.stack_code.specs.Validity.{kinds_at, listed, IsFine}
use Rattle.stack_code.specs.valid_code.Private.Checks.{IsFineAt, IsFineFlow, flow_of}
use Rattle.stack_code.proofs.valid_code.FlowLaws.{fine_flow}

some_op : (a b : Op) → Some a ≡ Some b → a ≡ b
some_op a b e = cc

some_list : (a b : List Kind) → Some a ≡ Some b → a ≡ b
some_list a b e = cc

module _ (code : MachineCode) (r : RoutineCode) (at : ℕ) (o : Op) (list : List Kind) (op : slice_get r.ops at ≡ Some o) (kinds : slice_get r.kinds at ≡ Some (Some list)) where
  found : kinds_at r at ≡ Some (reverse list)
  found = ap listed kinds

  pub fine_at : (b : Bool) → length list ≤ r.room → (IsTrue b ↔ IsFineFlow code r at o (reverse list) (flow_of o)) → (IsTrue b ↔ IsFineAt code r at)
  fine_at b room e = (λ t o' ks eo ek. by o' ks (some_op o o' (sym op ∙ eo)) (some_list (reverse list) ks (sym found ∙ ek)) (e.0 t), λ all. e.1 ((fine_flow code r at (reverse list) o).1 (all o (reverse list) op found).1))
    where
      by : (o' : Op) (ks : List Kind) → o ≡ o' → reverse list ≡ ks → IsFineFlow code r at o (reverse list) (flow_of o) → (length ks ≤ r.room) × IsFine code r at o' ks
      by o' ks eo ek f =
          (subst (λ l. length l ≤ r.room) ek (omega (arith, room, length-reverse list)), subst (λ x. IsFine code r at x ks) eo (subst (λ l. IsFine code r at o l) ek ((fine_flow code r at (reverse list) o).0 f)))

  pub within_room : IsFineAt code r at → length list ≤ r.room
  within_room all = let h = (all o (reverse list) op found).0 in omega (arith, h, length-reverse list)
