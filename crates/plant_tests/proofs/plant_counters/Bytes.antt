-- Contents whose places are read, emptied and filled.
use Rattle.std.proofs.Common.{◌≡◌, ◌<◌, false, length, ℕ, zero, suc, List, [], ◌∷◌, Option, Some, None, slice_set, refl, sym, ap, ◌∙◌, subst, arith}
use Rattle.std.specs.Prelude.{slice_get}
use Rattle.std.proofs.lemmas.List.{set-set}
use Rattle.mem_image.specs.Image.{replaced}
use Rattle.plant_rules.specs.Meaning.{Contents, bytes_at, Whole}
use Rattle.plant_rules.specs.Next.{IsSupplied, IsNextWhole}
use Rattle.plant_tests.specs.declared.plant_counters.counters.Counters.{Counters}
use Rattle.plant_tests.specs.plant_counters.Counting.{IsCounter, counters, total}

got : (c : Contents) (r : ℕ) (o : Option (List ℕ)) → slice_get c r ≡ Some o → bytes_at c r ≡ o
got [] r o e = cc
got (x ∷ xs) zero o e = cc
got (x ∷ xs) (suc r) o e = got xs r o e

empty_again : (c : Contents) (r : ℕ) → bytes_at c r ≡ None → slice_set c r None ≡ c
empty_again [] r e = refl
empty_again (x ∷ xs) zero e = ap (λ z. z ∷ xs) (sym e)
empty_again (x ∷ xs) (suc r) e = ap (λ zs. x ∷ zs) (empty_again xs r e)

pub left_empty : (from to : Contents) (r : ℕ) → slice_get from r ≡ Some None → bytes_at to r ≡ None → to ≡ slice_set to r (bytes_at from r)
left_empty from to r e f = sym (ap (λ o. slice_set to r o) (got from r None e) ∙ empty_again to r f)

one_byte : (image : List ℕ) (byte : ℕ) → IsCounter image → replaced image 0 (byte ∷ []) ≡ byte ∷ []
unfolding replaced
one_byte image byte f = ap (λ i. replaced i 0 (byte ∷ [])) f.1

some_same : (a b : List ℕ) → Some a ≡ Some b → a ≡ b
some_same a b e = cc

pub put_byte : (c : Contents) (r byte : ℕ) (image bytes : List ℕ) → slice_get c r ≡ Some (Some image) → bytes_at c r ≡ Some bytes → IsCounter bytes
    → slice_set (slice_set c r None) r (Some (replaced image 0 (byte ∷ []))) ≡ slice_set c r (Some (byte ∷ []))
put_byte c r byte image bytes e f g =
    let same : image ≡ bytes = some_same image bytes (sym (got c r (Some image) e) ∙ f) in
    rw set-set (ap (λ b. slice_set c r (Some b)) (one_byte image byte (subst (λ (b : List ℕ). IsCounter b) (sym same) g)))

zeros_fit : (r : ℕ) → r < 3 → (bytes : List ℕ) × (bytes_at (Some (0 ∷ []) ∷ Some (0 ∷ []) ∷ Some (0 ∷ []) ∷ []) r ≡ Some bytes) × IsCounter bytes
zeros_fit zero h = (0 ∷ [], refl, (0, refl))
zeros_fit (suc zero) h = (0 ∷ [], refl, (0, refl))
zeros_fit (suc (suc zero)) h = (0 ∷ [], refl, (0, refl))
zeros_fit (suc (suc (suc r))) h = absurd (omega arith)

zeros_whole : Whole (λ r. IsCounter) 3 (Some (0 ∷ []) ∷ Some (0 ∷ []) ∷ Some (0 ∷ []) ∷ [])
zeros_whole = (refl, zeros_fit)

pub first_whole : {K : Type 0} (good : ℕ → K → Type 0) (p other : Counters) (c : Contents) (kits : List (Option K)) → p.wide ≡ false → c ≡ Some (0 ∷ []) ∷ Some (0 ∷ []) ∷ Some (0 ∷ []) ∷ [] → IsSupplied counters good p other kits → IsNextWhole counters good p other c kits
first_whole good p other c kits narrow is supplied = record {
  right = tt;
  whole = rw (narrow, is) zeros_whole;
  supplied = supplied;
}
