-- Which routines a call may enter, as a list.
use Rattle.std.proofs.Common.{◌≡◌, ℕ, Bool, true, false, ◌&&◌, ◌||◌, List, [], ◌∷◌, Option, Some, None, refl, sym, ap, subst, ◌∙◌, ⊎_elim, inl, inr}
use Rattle.std.specs.Prelude.{◌⊎◌, nat_eq, slice_get, if◌then◌else◌}
use Rattle.std.proofs.lemmas.Bool.{eqb-true}
use Rattle.std.proofs.Common.{eq-eqb}
use Rattle.stack_code.specs.declared.op.Kind.{Kind}
use Rattle.stack_code.specs.declared.code.Conformance.{Conformance}
use Rattle.stack_code.specs.declared.code.InterfaceTarget.{InterfaceTarget}
use Rattle.stack_code.specs.declared.code.RoutineCode.{RoutineCode}
use Rattle.stack_code.specs.declared.code.MachineCode.{MachineCode}
use Rattle.stack_code.specs.Steps.{Goes, ◌>>=◌, some_or_stuck}
use Rattle.stack_code.specs.Machine.{in_slot, first_target}
use Rattle.stack_code.specs.Validity.{IsCall, MayEnterMethod, MayEnterTarget}
use Rattle.stack_code.specs.valid_code.Private.Calls.{IsAmong, with_some, slot_in, option_joined, in_slot_of, methods_of}
use Rattle.stack_code.specs.valid_code.Private.Tables.{is_conforming, conformers}
use Rattle.stack_code.specs.valid_code.Private.Entered.{methods_at, targets_of}

-- a call that may enter fewer routines is fine too
pub fewer : (code : MachineCode) (r : RoutineCode) (at n : ℕ) (ks : List Kind) (may less : ℕ → Type 0) → ((k : ℕ) → less k → may k) → IsCall code r at n ks may → IsCall code r at n ks less
fewer code r at n ks may less all l = record { args = l.args; below = l.below; finds = l.finds; count = l.count; enters = λ k routine m is. l.enters k routine (all k m) is }

pub among_one : (j k : ℕ) → IsAmong j (k ∷ []) → j ≡ k
among_one j k m = ⊎_elim (λ e. e) (λ n. absurd n) m

-- ---- slots

pub slot_is : (code : MachineCode) (class s : ℕ) → in_slot code class s ≡ some_or_stuck (in_slot_of code class s)
slot_is code class s = by (slice_get code.slots class)
  where
    joined : (o : Option (Option ℕ)) → (some_or_stuck o >>= λ slot. some_or_stuck slot) ≡ some_or_stuck (option_joined o)
    joined None = refl
    joined (Some None) = refl
    joined (Some (Some j)) = refl

    by : (o : Option (List (Option ℕ))) → (some_or_stuck o >>= λ slots. some_or_stuck (slice_get slots s) >>= λ slot. some_or_stuck slot) ≡ some_or_stuck (slot_in o s)
    by None = refl
    by (Some slots) = joined (slice_get slots s)

told : (o : Option ℕ) (k : ℕ) → some_or_stuck o ≡ Goes k → o ≡ Some k
told None k e = absurd (cc)
told (Some j) k e = cc

pub slot_told : (code : MachineCode) (class s k : ℕ) → in_slot code class s ≡ Goes k → in_slot_of code class s ≡ Some k
slot_told code class s k e = told (in_slot_of code class s) k (sym (slot_is code class s) ∙ e)

pub slot_goes : (code : MachineCode) (class s k : ℕ) → in_slot_of code class s ≡ Some k → in_slot code class s ≡ Goes k
slot_goes code class s k e = slot_is code class s ∙ ap some_or_stuck e

-- ---- classes that conform

conforming_among : (table : List Conformance) (class target : ℕ) → is_conforming class target table ≡ true → IsAmong class (conformers table target)
conforming_among [] class target e = absurd (cc)
conforming_among (p ∷ ps) class target e = by (λ f. conforming_among ps class target f) (nat_eq p.class class) (nat_eq p.target target) refl refl e
  where
    by : (is_conforming class target ps ≡ true → IsAmong class (conformers ps target)) → (a b : Bool) → nat_eq p.class class ≡ a → nat_eq p.target target ≡ b → (a && b || is_conforming class target ps) ≡ true → IsAmong class (if b then p.class ∷ conformers ps target else conformers ps target)
    by rest true true ea eb e = inl (sym (eqb-true p.class class ea))
    by rest false true ea eb e = inr (rest e)
    by rest true false ea eb e = rest e
    by rest false false ea eb e = rest e

among_conforming : (table : List Conformance) (class target : ℕ) → IsAmong class (conformers table target) → is_conforming class target table ≡ true
among_conforming [] class target m = absurd m
among_conforming (p ∷ ps) class target m = by (λ n. among_conforming ps class target n) (nat_eq p.target target) refl m
  where
    or_true : (a : Bool) → (a || true) ≡ true
    or_true true = refl
    or_true false = refl

    here : class ≡ p.class → (nat_eq p.class class && true || is_conforming class target ps) ≡ true
    here e = let same : nat_eq p.class class ≡ true = subst (λ x. nat_eq p.class x ≡ true) (sym e) (eq-eqb p.class p.class refl) in rw same refl

    by : (IsAmong class (conformers ps target) → is_conforming class target ps ≡ true) → (b : Bool) → nat_eq p.target target ≡ b → IsAmong class (if b then p.class ∷ conformers ps target else conformers ps target) → (nat_eq p.class class && b || is_conforming class target ps) ≡ true
    by rest true eb m = ⊎_elim here (λ n. rw (rest n) (or_true (nat_eq p.class class && true))) m
    by rest false eb m = rw (rest m) (or_true (nat_eq p.class class && false))

-- ---- methods by slots

method_among : (code : MachineCode) (classes : List ℕ) (s class k : ℕ) → IsAmong class classes → in_slot_of code class s ≡ Some k → IsAmong k (methods_of code classes s)
method_among code [] s class k m e = absurd m
method_among code (x ∷ xs) s class k m e = by (λ n. method_among code xs s class k n e) (in_slot_of code x s) refl m
  where
    by : (IsAmong class xs → IsAmong k (methods_of code xs s)) → (o : Option ℕ) → in_slot_of code x s ≡ o → (class ≡ x) ⊎ IsAmong class xs → IsAmong k (with_some o (methods_of code xs s))
    by rest None eo m = ⊎_elim (λ f. absurd (let g : in_slot_of code x s ≡ Some k = subst (λ y. in_slot_of code y s ≡ Some k) f e in cc)) rest m
    by rest (Some j) eo m = ⊎_elim (λ f. inl (let g : in_slot_of code x s ≡ Some k = subst (λ y. in_slot_of code y s ≡ Some k) f e in cc)) (λ n. inr (rest n)) m

among_method : (code : MachineCode) (classes : List ℕ) (s k : ℕ) → IsAmong k (methods_of code classes s) → (class : ℕ) × IsAmong class classes × (in_slot_of code class s ≡ Some k)
among_method code [] s k m = absurd m
among_method code (x ∷ xs) s k m = by (λ n. (let r = among_method code xs s k n in (r.0, inr r.1, r.2))) (in_slot_of code x s) refl m
  where
    by : (IsAmong k (methods_of code xs s) → (class : ℕ) × IsAmong class (x ∷ xs) × (in_slot_of code class s ≡ Some k)) → (o : Option ℕ) → in_slot_of code x s ≡ o → IsAmong k (with_some o (methods_of code xs s)) → (class : ℕ) × IsAmong class (x ∷ xs) × (in_slot_of code class s ≡ Some k)
    by later None eo m = later m
    by later (Some j) eo m = ⊎_elim (λ f. (x, inl refl, eo ∙ ap Some (sym f))) later m

pub may_method : (code : MachineCode) (target s k : ℕ) → MayEnterMethod code target s k → IsAmong k (methods_at code target s)
may_method code target s k m = method_among code (conformers code.conforms target) s m.0 k (conforming_among code.conforms m.0 target m.1) (slot_told code m.0 s k m.2)

pub method_may : (code : MachineCode) (target s k : ℕ) → IsAmong k (methods_at code target s) → MayEnterMethod code target s k
method_may code target s k n = let r = among_method code (conformers code.conforms target) s k n in (r.0, among_conforming code.conforms r.0 target r.1, slot_goes code r.0 s k r.2)

-- ---- methods of interfaces

target_among : (table ts : List InterfaceTarget) (class i m k j : ℕ) → first_target ts class i m ≡ Some j → first_target table class i m ≡ Some k → IsAmong k (targets_of table ts i m)
target_among table [] class i m k j found e = absurd (cc)
target_among table (t ∷ ts) class i m k j found e = by (λ f. target_among table ts class i m k j f e) (nat_eq t.class class) (nat_eq t.interface i) (nat_eq t.method m) refl found
  where
    one : (o : Option ℕ) (js : List ℕ) → o ≡ Some k → IsAmong k (with_some o js)
    one None js e = absurd (cc)
    one (Some x) js e = inl (cc)

    more : (o : Option ℕ) (js : List ℕ) → IsAmong k js → IsAmong k (with_some o js)
    more None js n = n
    more (Some x) js n = inr n

    by : (first_target ts class i m ≡ Some j → IsAmong k (targets_of table ts i m)) → (a b d : Bool) → nat_eq t.class class ≡ a → (if a && b && d then Some t.routine else first_target ts class i m) ≡ Some j
        → IsAmong k (if b && d then with_some (first_target table t.class i m) (targets_of table ts i m) else targets_of table ts i m)
    by rest true true true ea f = one (first_target table t.class i m) (targets_of table ts i m) (ap (λ c. first_target table c i m) (eqb-true t.class class ea) ∙ e)
    by rest true true false ea f = rest f
    by rest true false d ea f = rest f
    by rest false true true ea f = more (first_target table t.class i m) (targets_of table ts i m) (rest f)
    by rest false true false ea f = rest f
    by rest false false d ea f = rest f

among_target : (table ts : List InterfaceTarget) (i m k : ℕ) → IsAmong k (targets_of table ts i m) → (class : ℕ) × (first_target table class i m ≡ Some k)
among_target table [] i m k n = absurd n
among_target table (t ∷ ts) i m k n = by (λ l. among_target table ts i m k l) (nat_eq t.interface i && nat_eq t.method m) n
  where
    one : (IsAmong k (targets_of table ts i m) → (class : ℕ) × (first_target table class i m ≡ Some k)) → (o : Option ℕ) → first_target table t.class i m ≡ o → IsAmong k (with_some o (targets_of table ts i m)) → (class : ℕ) × (first_target table class i m ≡ Some k)
    one rest None eo n = rest n
    one rest (Some x) eo n = ⊎_elim (λ f. (t.class, eo ∙ ap Some (sym f))) rest n

    by : (IsAmong k (targets_of table ts i m) → (class : ℕ) × (first_target table class i m ≡ Some k)) → (b : Bool) → IsAmong k (if b then with_some (first_target table t.class i m) (targets_of table ts i m) else targets_of table ts i m) → (class : ℕ) × (first_target table class i m ≡ Some k)
    by rest true n = one rest (first_target table t.class i m) refl n
    by rest false n = rest n

pub may_target : (code : MachineCode) (i m k : ℕ) → MayEnterTarget code i m k → IsAmong k (targets_of code.targets code.targets i m)
may_target code i m k t = let e = told (first_target code.targets t.0 i m) k t.1 in target_among code.targets code.targets t.0 i m k k e e

pub target_may : (code : MachineCode) (i m k : ℕ) → IsAmong k (targets_of code.targets code.targets i m) → MayEnterTarget code i m k
target_may code i m k n = let r = among_target code.targets code.targets i m k n in (r.0, ap some_or_stuck r.1)
