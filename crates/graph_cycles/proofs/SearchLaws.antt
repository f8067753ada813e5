-- What is marked in rounds until nothing changes is where the root leads.
use Rattle.std.proofs.Common.{◌≡◌, ◌<◌, ◌≤◌, ℕ, zero, suc, ◌+◌, nat_eq, Bool, true, false, List, [], ◌∷◌, Some, refl, sym, ap, ◌∙◌, arith, length, subst, ◌⊎◌, inl, inr, replicate, get_or, below_more}
use Rattle.std.proofs.lemmas.Option.{get_or_from_slice_get}
use Rattle.std.specs.Prelude.{◌||◌, slice_set}
use Rattle.std.specs.Bool.{Decides}
use Rattle.std.specs.List.{slice_get}
use Rattle.std.proofs.lemmas.Bool.{eqb-true}
use Rattle.graph_reach.specs.declared.threads.Edge.{Edge}
use Rattle.graph_cycles.specs.Graph.{HasEdge, marked}
use Rattle.graph_cycles.specs.Private.Ways.{Way, along, onward, IsTurning, mark_count, Sound, IsClosedAt}
use Rattle.graph_cycles.proofs.CycleLaws.{snoc, marked_set, marked_none, either_of}

no_false : false ≡ true → ⊥
no_false h = cc

pub count_le : (marks : List Bool) → mark_count marks ≤ length marks
count_le [] = omega arith
count_le (true ∷ ms) = let r = count_le ms in omega arith
count_le (false ∷ ms) = let r = count_le ms in omega arith

pub count_set : (marks : List Bool) (i : ℕ) → i < length marks → marked marks i ≡ false → mark_count (slice_set marks i true) ≡ suc (mark_count marks)
count_set [] i h m = absurd (omega arith)
count_set (true ∷ ms) zero h m = absurd (no_false (sym m))
count_set (false ∷ ms) zero h m = omega arith
count_set (true ∷ ms) (suc i) h m = let r = count_set ms i (omega arith) m in omega arith
count_set (false ∷ ms) (suc i) h m = count_set ms i (omega arith) m

pub none_sound : (edges : List Edge) (root n : ℕ) → Sound edges root (replicate n false)
none_sound edges root n = record { leads = λ i h. absurd (no_false (sym (marked_none n i) ∙ h)) }

pub sound_set : (edges : List Edge) (root : ℕ) (marks : List Bool) (i j : ℕ) → j < length marks → HasEdge edges i j → nat_eq i root || marked marks i ≡ true → Sound edges root marks → Sound edges root (slice_set marks j true)
sound_set edges root marks i j h e c s = record { leads = λ k m. each k (either_of (marked marks k) (nat_eq j k) (sym (marked_set marks j k h) ∙ m)) }
  where
    there : Way edges root j
    there = elim (either_of (nat_eq i root) (marked marks i) c) [
      | inl q ↦ subst (λ (n : ℕ). Way edges n j) (eqb-true i root q) (along i j e)
      | inr q ↦ snoc edges root i j (s.leads i q) e
    ]

    each : (k : ℕ) → (marked marks k ≡ true) ⊎ (nat_eq j k ≡ true) → Way edges root k
    each k (inl q) = s.leads k q
    each k (inr q) = subst (λ (n : ℕ). Way edges root n) (eqb-true j k q) there

module _ (edges : List Edge) (root : ℕ) (marks : List Bool) (closed : (k : ℕ) (e : Edge) → slice_get edges k ≡ Some e → IsClosedAt root marks e) where
  reached : (i j : ℕ) → Way edges i j → marked marks i ≡ true → marked marks j ≡ true
  reached _ _ (along i j e) m = (closed e.at _ e.is).marked_marked m
  reached _ _ (onward i m j e r) h = reached m j r ((closed e.at _ e.is).marked_marked h)

  pub reached_all : (i j : ℕ) → Way edges i j → i ≡ root → marked marks j ≡ true
  reached_all _ _ (along i j e) q = (closed e.at _ e.is).root_marked q
  reached_all _ _ (onward i m j e r) q = reached m j r ((closed e.at _ e.is).root_marked q)

  pub decided : Sound edges root marks → Decides (marked marks root) (IsTurning edges root)
  decided s = (s.leads root, λ p. reached_all root root p refl)

pub closed_more : (edges : List Edge) (root : ℕ) (old marks : List Bool) (i : ℕ) (d : Edge) → old ≡ marks → ((k : ℕ) → k < i → (e : Edge) → slice_get edges k ≡ Some e → IsClosedAt root marks e) → IsClosedAt root old (get_or edges i d) → (k : ℕ) → k < i + 1 → (e : Edge) → slice_get edges k ≡ Some e → IsClosedAt root marks e
closed_more edges root old marks i d q below here =
    below_more (λ k. (e : Edge) → slice_get edges k ≡ Some e → IsClosedAt root marks e) i below
    (λ e g. subst (λ (f : Edge). IsClosedAt root marks f) (get_or_from_slice_get edges i e d g) (subst (λ (m : List Bool). IsClosedAt root m (get_or edges i d)) q here))

pub decided_by : (edges : List Edge) (root : ℕ) (old new : List Bool) (b : Bool) → new ≡ old → ((k : ℕ) (e : Edge) → slice_get edges k ≡ Some e → IsClosedAt root old e) → Sound edges root old → b ≡ marked new root → Decides b (IsTurning edges root)
decided_by edges root old new b q closed s e =
    let h : marked old root ≡ b = ap (λ m. marked m root) (sym q) ∙ sym e in
    subst (λ (x : Bool). Decides x (IsTurning edges root)) h (decided edges root old closed s)
