-- A routine's rules, place by place.
use Rattle.std.proofs.Common.{◌≡◌, ◌↔◌, ◌<◌, ℕ, Bool, List, [], length, IsTrue, refl, subst}
use Rattle.std.specs.Prelude.{Option, Some, None, slice_get, get_or}
use Rattle.std.proofs.lemmas.Option.{slice_get_within, slice_get-get_or}
use Rattle.stack_code.specs.declared.op.Kind.{Kind}
use Rattle.stack_code.specs.declared.op.Op.TheVariants as op
use Rattle.stack_code.specs.declared.code.RoutineCode.{RoutineCode}
use Rattle.stack_code.specs.declared.code.MachineCode.{MachineCode}
use Rattle.stack_code.specs.Validity.{kinds_at, listed, IsValidRoutine}
use Rattle.stack_code.specs.valid_code.Private.Checks.{IsFineAt}

-- where there is a list there is an instruction
list_within : (r : RoutineCode) (at : ℕ) (ks : List Kind) → length r.kinds ≡ length r.ops → kinds_at r at ≡ Some ks → at < length r.ops
list_within r at ks same e = subst (λ n. at < n) same (by (slice_get r.kinds at) refl e)
  where
    by : (o : Option (Option (List Kind))) → slice_get r.kinds at ≡ o → listed o ≡ Some ks → at < length r.kinds
    by None is e = absurd (cc)
    by (Some x) is e = slice_get_within r.kinds at x is

pub valid_routine : (code : MachineCode) (r : RoutineCode) (b : Bool) → length r.kinds ≡ length r.ops → length r.lines ≡ length r.ops → kinds_at r 0 ≡ Some [] → (IsTrue b ↔ ((at : ℕ) → at < length r.ops → IsFineAt code r at))
    → (IsTrue b ↔ IsValidRoutine code r)
valid_routine code r b lists lines start e = (λ t. valid (e.0 t), λ v. e.1 (λ at lt o ks eo ek. (v.room at ks ek, v.each at o ks eo ek)))
  where
    valid : ((at : ℕ) → at < length r.ops → IsFineAt code r at) → IsValidRoutine code r
    valid all = record {
      lists = lists;
      lines = lines;
      start = start;
      room = λ at ks ek. (let lt = list_within r at ks lists ek in (all at lt (get_or r.ops at op.Null) ks (slice_get-get_or r.ops at op.Null lt) ek).0);
      each = λ at o ks eo ek. (all at (slice_get_within r.ops at o eo) o ks eo ek).1;
    }
