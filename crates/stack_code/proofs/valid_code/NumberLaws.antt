-- What each number of a routine below their number means for the code.
use Rattle.std.proofs.Common.{◌≡◌, ◌<◌, ℕ, zero, suc, Bool, true, false, ◌&&◌, List, [], ◌∷◌, Option, Some, None, refl, sym, ap, subst, ◌∙◌, length}
use Rattle.std.specs.Prelude.{slice_get, nat_lt}
use Rattle.std.specs.List.{list_all}
use Rattle.std.proofs.lemmas.Bool.{ltb-true, lt-ltb}
use Rattle.stack_code.specs.declared.op.Op.{Op}
use Rattle.stack_code.specs.declared.op.Op.TheVariants as op
use Rattle.stack_code.specs.declared.code.RoutineCode.{RoutineCode}
use Rattle.stack_code.specs.declared.code.MachineCode.{MachineCode}
use Rattle.stack_code.specs.Validity.{IsValidRoutine, IsValid}
use Rattle.stack_code.specs.valid_code.Private.Calls.{slot_in, option_joined, in_slot_of}
use Rattle.stack_code.specs.valid_code.Private.Checks.{op_within, calls_within, slot_within, slots_within, AreWithin}
use Rattle.stack_code.proofs.valid_code.MayLaws.{slot_told, slot_goes}

and_both : (a b : Bool) → (a && b) ≡ true → (a ≡ true) × (b ≡ true)
and_both true true e = (refl, refl)
and_both true false e = absurd (cc)
and_both false b e = absurd (cc)

-- what all pass, each passes
pub each_of : {A : Type 0} (f : A → Bool) (xs : List A) (i : ℕ) (x : A) → list_all f xs ≡ true → slice_get xs i ≡ Some x → f x ≡ true
each_of f [] i x all e = absurd (cc)
each_of f (y ∷ ys) zero x all e = let same : y ≡ x = cc in ap f (sym same) ∙ (and_both (f y) (list_all f ys) all).0
each_of f (y ∷ ys) (suc i) x all e = each_of f ys i x (and_both (f y) (list_all f ys) all).1 e

-- what each passes, all pass
pub all_of : {A : Type 0} (f : A → Bool) (xs : List A) → ((i : ℕ) (x : A) → slice_get xs i ≡ Some x → f x ≡ true) → list_all f xs ≡ true
all_of f [] each = refl
all_of f (y ∷ ys) each = let first : f y ≡ true = each 0 y refl in let rest : list_all f ys ≡ true = all_of f ys (λ i x e. each (suc i) x e) in rw (first, rest) refl

within_op : (count : ℕ) (o : Op) → ((k n : ℕ) → o ≡ op.Call k n → k < count) → op_within count o ≡ true
within_op count (op.Call k n) each = lt-ltb k count (each k n refl)
within_op count (op.Push n) each = refl
within_op count op.Null each = refl
within_op count op.Drop each = refl
within_op count op.Dup each = refl
within_op count (op.Local n) each = refl
within_op count (op.This n) each = refl
within_op count (op.Region r n) each = refl
within_op count (op.Offset n) each = refl
within_op count (op.Index lo hi size) each = refl
within_op count op.Deref each = refl
within_op count (op.Load e) each = refl
within_op count (op.Store e) each = refl
within_op count op.LoadRef each = refl
within_op count op.StoreRef each = refl
within_op count (op.Copy n) each = refl
within_op count (op.Add e) each = refl
within_op count (op.Sub e) each = refl
within_op count (op.Mul e) each = refl
within_op count (op.Div e) each = refl
within_op count (op.Mod e) each = refl
within_op count (op.Neg e) each = refl
within_op count (op.AddC e) each = refl
within_op count op.Eq each = refl
within_op count op.Ne each = refl
within_op count op.Lt each = refl
within_op count op.Le each = refl
within_op count op.Gt each = refl
within_op count op.Ge each = refl
within_op count op.Same each = refl
within_op count (op.And e) each = refl
within_op count (op.Or e) each = refl
within_op count (op.Xor e) each = refl
within_op count (op.Not e) each = refl
within_op count (op.Conv e f) each = refl
within_op count op.NoZero each = refl
within_op count (op.Jump to) each = refl
within_op count (op.JumpF to) each = refl
within_op count op.Tick each = refl
within_op count (op.CallM target s n) each = refl
within_op count (op.CallI i m n) each = refl
within_op count (op.Try target) each = refl
within_op count op.Now each = refl
within_op count (op.Ret n) each = refl
within_op count op.End each = refl

module _ (code : MachineCode) where
  slot_below : (w : AreWithin code) (class s k : ℕ) → in_slot_of code class s ≡ Some k → k < length code.routines
  slot_below w class s k e = by (slice_get code.slots class) refl e
    where
      inner : (slots : List (Option ℕ)) → list_all (slot_within (length code.routines)) slots ≡ true → (o : Option (Option ℕ)) → slice_get slots s ≡ o → option_joined o ≡ Some k → k < length code.routines
      inner slots all None is e = absurd (cc)
      inner slots all (Some None) is e = absurd (cc)
      inner slots all (Some (Some j)) is e = let same : j ≡ k = cc in subst (λ x. x < length code.routines) same (ltb-true j (length code.routines) (each_of (slot_within (length code.routines)) slots s (Some j) all is))

      by : (o : Option (List (Option ℕ))) → slice_get code.slots class ≡ o → slot_in o s ≡ Some k → k < length code.routines
      by None is e = absurd (cc)
      by (Some slots) is e = inner slots (each_of (slots_within (length code.routines)) code.slots class slots w.slots is) (slice_get slots s) refl e

  -- code whose numbers and routines are fine is valid
  pub valid_of : AreWithin code → ((k : ℕ) (r : RoutineCode) → slice_get code.routines k ≡ Some r → IsValidRoutine code r) → IsValid code
  valid_of w routines = record {
    routines = routines;
    calls = λ j r at k n er eo. ltb-true k (length code.routines) (each_of (op_within (length code.routines)) r.ops at (op.Call k n) (each_of (calls_within (length code.routines)) code.routines j r w.calls er) eo);
    slots = λ class s k e. slot_below w class s k (slot_told code class s k e);
    targets = λ i t e. ltb-true t.routine (length code.routines) (each_of (λ x. nat_lt x.routine (length code.routines)) code.targets i t w.targets e);
    bodies = λ i b e. ltb-true b.routine (length code.routines) (each_of (λ x. nat_lt x.routine (length code.routines)) code.bodies i b w.bodies e);
    methods = λ i m e. ltb-true m.routine (length code.routines) (each_of (λ x. nat_lt x.routine (length code.routines)) code.methods i m w.methods e);
  }

  pub within_of : IsValid code → AreWithin code
  within_of v = record { calls = calls; slots = slots; targets = targets; bodies = bodies; methods = methods }
    where
      slot : (class : ℕ) (slots : List (Option ℕ)) (s : ℕ) (o : Option ℕ) → slice_get code.slots class ≡ Some slots → slice_get slots s ≡ Some o → slot_within (length code.routines) o ≡ true
      slot class slots s None es eo = refl
      slot class slots s (Some k) es eo = lt-ltb k (length code.routines) (v.slots class s k (slot_goes code class s k (ap (λ o. slot_in o s) es ∙ ap option_joined eo)))

      calls : list_all (calls_within (length code.routines)) code.routines ≡ true
      calls = all_of (calls_within (length code.routines)) code.routines (λ j r er. all_of (op_within (length code.routines)) r.ops (λ at o eo. within_op (length code.routines) o (λ k n same. v.calls j r at k n er (eo ∙ ap Some same))))

      slots : list_all (slots_within (length code.routines)) code.slots ≡ true
      slots = all_of (slots_within (length code.routines)) code.slots (λ class slots es. all_of (slot_within (length code.routines)) slots (λ s o eo. slot class slots s o es eo))

      targets : list_all (λ t. nat_lt t.routine (length code.routines)) code.targets ≡ true
      targets = all_of (λ t. nat_lt t.routine (length code.routines)) code.targets (λ i t e. lt-ltb t.routine (length code.routines) (v.targets i t e))

      bodies : list_all (λ b. nat_lt b.routine (length code.routines)) code.bodies ≡ true
      bodies = all_of (λ b. nat_lt b.routine (length code.routines)) code.bodies (λ i b e. lt-ltb b.routine (length code.routines) (v.bodies i b e))

      methods : list_all (λ m. nat_lt m.routine (length code.routines)) code.methods ≡ true
      methods = all_of (λ m. nat_lt m.routine (length code.routines)) code.methods (λ i m e. lt-ltb m.routine (length code.routines) (v.methods i m e))
