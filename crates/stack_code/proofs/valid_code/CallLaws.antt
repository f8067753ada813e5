-- What the routines of a call have in common, one by one; and what that says of the call.
use Rattle.std.proofs.Common.{◌≡◌, ℕ, List, [], ◌∷◌, ◌++◌, Option, Some, None, refl, sym, ap, ◌∙◌, ⊎_elim, inl, inr, append_assoc}
use Rattle.std.proofs.lemmas.List.{append-nil}
use Rattle.std.specs.Prelude.{◌⊎◌, slice_get}
use Rattle.stack_code.specs.declared.code.RoutineCode.{RoutineCode}
use Rattle.stack_code.specs.declared.code.MachineCode.{MachineCode}
use Rattle.stack_code.specs.declared.valid_code.calls.Common.{Common}
use Rattle.stack_code.specs.declared.valid_code.calls.Common.TheVariants.{Nobody, Like, Mixed}
use Rattle.stack_code.specs.valid_code.Private.Calls.{IsAmong, SameSignature, IsEntered, Differ, AreLike, Shares, with_some}

pub among_left : (k : ℕ) (xs ys : List ℕ) → IsAmong k xs → IsAmong k (xs ++ ys)
among_left k [] ys m = absurd m
among_left k (x ∷ xs) ys m = ⊎_elim (λ e. inl e) (λ n. inr (among_left k xs ys n)) m

pub among_last : (k : ℕ) (xs : List ℕ) → IsAmong k (xs ++ k ∷ [])
among_last k [] = inl refl
among_last k (x ∷ xs) = inr (among_last k xs)

pub among_either : (k j : ℕ) (xs : List ℕ) → IsAmong k (xs ++ j ∷ []) → IsAmong k xs ⊎ (k ≡ j)
among_either k j [] m = ⊎_elim (λ e. inr e) (λ n. absurd n) m
among_either k j (x ∷ xs) m = ⊎_elim (λ e. inl (inl e)) (λ n. ⊎_elim (λ i. inl (inr i)) (λ e. inr e) (among_either k j xs n)) m

module _ (code : MachineCode) (ks : List ℕ) (k : ℕ) where
  still : (j : ℕ) (q : RoutineCode) → IsEntered code ks j q → IsEntered code (ks ++ k ∷ []) j q
  still j q e = record { among = among_left j ks (k ∷ []) e.among; is = e.is }

  -- a number that is no routine's changes nothing
  pub shares_absent : slice_get code.routines k ≡ None → (common : Common) → Shares code ks common → Shares code (ks ++ k ∷ []) common
  shares_absent none common s = by common s
    where
      back : (j : ℕ) (q : RoutineCode) → IsEntered code (ks ++ k ∷ []) j q → IsEntered code ks j q
      back j q e = ⊎_elim (λ m. record { among = m; is = e.is }) (λ same. absurd (let f : slice_get code.routines k ≡ Some q = ap (λ i. slice_get code.routines i) (sym same) ∙ e.is in cc)) (among_either j k ks e.among)

      by : (common : Common) → Shares code ks common → Shares code (ks ++ k ∷ []) common
      by Nobody s = λ j q e. s j q (back j q e)
      by (Like i) s = record { r = s.r; one = still i s.r s.one; all = λ j q e. s.all j q (back j q e) }
      by Mixed s = record { j = s.j; k = s.k; q = s.q; r = s.r; one = still s.j s.q s.one; other = still s.k s.r s.other; differ = s.differ }

  module _ (r : RoutineCode) (is : slice_get code.routines k ≡ Some r) where
    entered : IsEntered code (ks ++ k ∷ []) k r
    entered = record { among = among_last k ks; is = is }

    same_routine : (j : ℕ) (q : RoutineCode) → j ≡ k → slice_get code.routines j ≡ Some q → q ≡ r
    same_routine j q e f = let g : Some q ≡ Some r = sym f ∙ ap (λ i. slice_get code.routines i) e ∙ is in cc

    -- the first routine
    pub shares_first : Shares code ks Nobody → AreLike code (ks ++ k ∷ []) k
    shares_first none = record {
      r = r;
      one = entered;
      all = λ j q e. ⊎_elim (λ m. absurd (none j q (record { among = m; is = e.is }))) (λ same. (ap (λ x. x.args) (same_routine j q same e.is), ap (λ x. x.rets) (same_routine j q same e.is))) (among_either j k ks e.among);
    }

    -- one more with the same signature
    pub shares_like : (i : ℕ) (q : RoutineCode) → slice_get code.routines i ≡ Some q → SameSignature r q → AreLike code ks i → AreLike code (ks ++ k ∷ []) i
    shares_like i q isi same s = record {
      r = s.r;
      one = still i s.r s.one;
      all = λ j p e. ⊎_elim (λ m. s.all j p (record { among = m; is = e.is }))
          (λ f. (ap (λ x. x.args) (same_routine j p f e.is) ∙ same.0 ∙ ap (λ x. x.args) found, ap (λ x. x.rets) (same_routine j p f e.is) ∙ same.1 ∙ ap (λ x. x.rets) found)) (among_either j k ks e.among);
    }
      where
        found : q ≡ s.r
        found = let g : Some q ≡ Some s.r = sym isi ∙ s.one.is in cc

    -- one more with another signature
    pub shares_unlike : (i : ℕ) (q : RoutineCode) → slice_get code.routines i ≡ Some q → (SameSignature r q → ⊥) → AreLike code ks i → Differ code (ks ++ k ∷ [])
    shares_unlike i q isi differ s = record { j = k; k = i; q = r; r = q; one = entered; other = record { among = among_left i ks (k ∷ []) s.one.among; is = isi }; differ = differ }

  pub shares_mixed : Differ code ks → Differ code (ks ++ k ∷ [])
  shares_mixed s = record { j = s.j; k = s.k; q = s.q; r = s.r; one = still s.j s.q s.one; other = still s.k s.r s.other; differ = s.differ }

pub with_some_append : (o : Option ℕ) (ks js : List ℕ) → (ks ++ with_some o []) ++ js ≡ ks ++ with_some o js
with_some_append None ks js = ap (λ l. l ++ js) (append-nil ks)
with_some_append (Some k) ks js = append_assoc ks (k ∷ []) js

-- nothing is among none
pub shares_nothing : (code : MachineCode) → Shares code [] Nobody
shares_nothing code = λ k r e. absurd e.among
