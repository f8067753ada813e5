-- A chain, one class after the other.
use Rattle.std.proofs.Common.{◌≡◌, ◌<◌, ℕ, zero, suc, ◌+◌, ◌-◌, nat_eq, Bool, true, false, List, [], ◌∷◌, ◌++◌, Option, Some, None, refl, sym, ap, ◌∙◌, arith, append_assoc}
use Rattle.std.specs.Prelude.{if◌then◌else◌, ◌||◌}
use Rattle.st_rules.specs.Chains.{is_among, climb}
use Rattle.declared_symbols.specs.class_chains.Private.Chain.{Held, is_held}

-- what stands in the chain so far, with what is climbed on from the next, is the whole chain
pub record ClimbsOn (above : ℕ → Option ℕ) (count class : ℕ) (held : Held) (so_far : List ℕ) (left : ℕ) (next : Option ℕ) : Type 0 where
  pub among : List ℕ
  pub are_held : (c : ℕ) → is_held held c ≡ is_among c among
  pub whole : so_far ++ climb above left among next ≡ climb above (count + 1) [] (Some class)

append_none : (xs : List ℕ) → xs ++ [] ≡ xs
append_none [] = refl
append_none (x ∷ xs) = ap (λ ys. x ∷ ys) (append_none xs)

module _ (above : ℕ → Option ℕ) (count class : ℕ) (held : Held) (so_far : List ℕ) (left : ℕ) where
  at_once : (k : ℕ) (x : ℕ) (ns : List ℕ) (b : Bool) → is_among x ns ≡ b → climb above (suc k) ns (Some x) ≡ (if b then [] else x ∷ climb above k (x ∷ ns) (above x))
  at_once k x ns b e = ap (λ t. if t then [] else x ∷ climb above k (x ∷ ns) (above x)) e

  none_left : (n : ℕ) (ns : List ℕ) → climb above n ns None ≡ []
  none_left zero ns = refl
  none_left (suc n) ns = refl

  down : 0 < left → left ≡ suc (left - 1)
  down h = omega arith

  pub ends_at_top : ClimbsOn above count class held so_far left None → so_far ≡ climb above (count + 1) [] (Some class)
  ends_at_top on = sym (append_none so_far) ∙ sym (ap (λ ys. so_far ++ ys) (none_left left on.among)) ∙ on.whole

  pub ends_at_held : (x : ℕ) → 0 < left → is_held held x ≡ true → ClimbsOn above count class held so_far left (Some x) → so_far ≡ climb above (count + 1) [] (Some class)
  ends_at_held x h is on =
      sym (append_none so_far)
      ∙ sym (ap (λ ys. so_far ++ ys) (ap (λ n. climb above n on.among (Some x)) (down h) ∙ at_once (left - 1) x on.among true (sym (on.are_held x) ∙ is)))
      ∙ on.whole

  pub ends_by_count : left ≡ 0 → (next : Option ℕ) → ClimbsOn above count class held so_far left next → so_far ≡ climb above (count + 1) [] (Some class)
  ends_by_count e next on = sym (append_none so_far) ∙ sym (ap (λ n. so_far ++ climb above n on.among next) e) ∙ on.whole

  pub goes_on : (x : ℕ) (new : Held) (longer : List ℕ) (next : Option ℕ) → 0 < left → is_held held x ≡ false → ((c : ℕ) → is_held new c ≡ (nat_eq c x || is_held held c)) → longer ≡ so_far ++ x ∷ [] → next ≡ above x
      → ClimbsOn above count class held so_far left (Some x) → ClimbsOn above count class new longer (left - 1) next
  goes_on x new longer next h is holds l b on = record {
    among = x ∷ on.among;
    are_held = λ c. holds c ∙ ap (λ t. nat_eq c x || t) (on.are_held c);
    whole = ap (λ ys. ys ++ climb above (left - 1) (x ∷ on.among) next) l
        ∙ append_assoc so_far (x ∷ []) (climb above (left - 1) (x ∷ on.among) next)
        ∙ ap (λ n. so_far ++ x ∷ climb above (left - 1) (x ∷ on.among) n) b
        ∙ sym (ap (λ ys. so_far ++ ys) (ap (λ n. climb above n on.among (Some x)) (down h) ∙ at_once (left - 1) x on.among false (sym (on.are_held x) ∙ is)))
        ∙ on.whole;
  }
