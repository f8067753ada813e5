-- Lists of kits that grow.
use Rattle.std.proofs.Common.{◌≡◌, ℕ, zero, suc, ◌<◌, ◌+◌, ◌++◌, List, [], ◌∷◌, length, Option, Some, None, slice_index_or, refl, sym, ◌∙◌, ap, subst, arith, length-append}
use mathlib.Core.Logic.{dite}
use native.Mathlib.Decide.{ℕ_discrete}
use Rattle.plant_rules.specs.Next.{AllKits}

at_last : {A : Type 0} (xs : List A) (x d : A) → slice_index_or (xs ++ x ∷ []) (length xs) d ≡ x
at_last [] x d = refl
at_last (y ∷ ys) x d = at_last ys x d

at_before : {A : Type 0} (xs : List A) (x d : A) (i : ℕ) → i < length xs → slice_index_or (xs ++ x ∷ []) i d ≡ slice_index_or xs i d
at_before [] x d i h = absurd (omega arith)
at_before (y ∷ ys) x d zero h = refl
at_before (y ∷ ys) x d (suc i) h = at_before ys x d i (omega arith)

pub all_more : {K : Type 0} (ks : List (Option K)) (n : ℕ) (good : ℕ → K → Type 0) (k : K) → AllKits ks n good → good n k → AllKits (ks ++ Some k ∷ []) (n + 1) good
all_more ks n good k a g =
    let e = a.total in
    record {
      total = let l : length (ks ++ Some k ∷ []) ≡ length ks + 1 = length-append ks (Some k ∷ []) in omega (arith, e, l);
      each = λ t h. dite (ℕ_discrete t n)
          (λ i. (k, ap (λ z. slice_index_or (ks ++ Some k ∷ []) z None) (i ∙ sym e) ∙ at_last ks (Some k) None, subst (λ (z : ℕ). good z k) (sym i) g))
          (λ ne. let x = a.each t (omega (arith, h, ne)) in (x.0, at_before ks (Some k) None t (omega (arith, h, ne, e)) ∙ x.1, x.2));
    }
