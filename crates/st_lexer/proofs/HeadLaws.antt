-- Fronts with a head.
use Rattle.std.proofs.Common.{◌≡◌, ℕ, zero, suc, ◌+◌, ◌-◌, ◌<◌, ◌≤◌, Bool, true, false, ◌&&◌, ◌||◌, List, [], length, take, drop, refl, sym, ap, ◌∙◌, inl, inr, max, nat_eq, length-take, length-drop, arith}
use Rattle.std.proofs.lemmas.List.{take-take, drop-take, drop_all, length-map}
use Rattle.std.proofs.lemmas.Bool.{and_from, and_left, and_right, or_from, or_left, or_right, both_ways, false_from_ne_true, cases_lt, or_cases, cond-false, ne_eqb}
use Rattle.std.specs.Char.{to_ascii_uppercase}
use lib.Pointwise.{pointwise_long}
use Rattle.plc_text.specs.Words.{spells, opens}
use Rattle.st_lexer.specs.Private.Piece.{IsLongest, IsLongestFront}
use Rattle.st_lexer.specs.Private.Reach.{with_head}

pub with_head_some : (k n : ℕ) → 0 < n → with_head k n ≡ k + n
with_head_some k n some = cond-false _ _ _ (ne_eqb n 0 (λ e. omega arith))

pub spells_long : (word text : List ℕ) → spells word text ≡ true → length text ≡ length word
spells_long word text h = sym (length-map text to_ascii_uppercase) ∙ pointwise_long nat_eq _ word h

pub opens_take : (word text : List ℕ) (m : ℕ) → length word ≤ m → opens word (take m text) ≡ opens word text
opens_take word text m h = ap (spells word) (take-take (length word) m text h)

pub opens_long : (word text : List ℕ) → opens word text ≡ true → length word ≤ length text
opens_long word text h = omega (arith, spells_long word (take (length word) text) h, length-take (length word) text)

pub opens_short : (word text : List ℕ) → length text < length word → opens word text ≡ false
opens_short word text short = false_from_ne_true _ (λ h. omega (arith, opens_long word text h))

-- what a text does not begin with no front of it begins with
pub opens_front : (word text : List ℕ) (m : ℕ) → opens word text ≡ false → opens word (take m text) ≡ false
opens_front word text m h = elim (cases_lt m (length word)) [
  | inl short ↦ opens_short word (take m text) (omega (arith, length-take m text))
  | inr long ↦ opens_take word text m long ∙ h
]

-- a test that sees the first k characters alone
pub record IsHead (head : List ℕ → Bool) (k : ℕ) (text : List ℕ) : Type 0 where
  pub keeps : (m : ℕ) → k ≤ m → head (take m text) ≡ head text
  pub short : (m : ℕ) → m < k → m ≤ length text → head (take m text) ≡ false
  pub long : head text ≡ true → k ≤ length text

pub word_head : (word text : List ℕ) → IsHead (opens word) (length word) text
word_head word text = record {
  keeps = opens_take word text;
  short = λ m less within. opens_short word (take m text) (omega (arith, length-take m text));
  long = opens_long word text;
}

pub either_head : (s t : List ℕ → Bool) (k : ℕ) (text : List ℕ) → IsHead s k text → IsHead t k text → IsHead (λ x. s x || t x) k text
either_head s t k text one other = record {
  keeps = λ m h. ap (λ b. b || t (take m text)) (one.keeps m h) ∙ ap (λ b. s text || b) (other.keeps m h);
  short = λ m less within. or_from _ _ (one.short m less within) (other.short m less within);
  long = λ h. elim (or_cases (s text) (t text) h) [ inl p ↦ one.long p | inr p ↦ other.long p ];
}

pub no_head : (k : ℕ) (text : List ℕ) → IsHead (λ x. false) k text
no_head k text = record { keeps = λ m h. refl; short = λ m less within. refl; long = λ h. absurd (both_ways false refl h) }

module _ (head tail : List ℕ → Bool) (k : ℕ) (text : List ℕ) (is : IsHead head k text) where
  abbrev pub headed : List ℕ → Bool
  headed front = head front && tail (drop k front)

  behind : (m : ℕ) → k ≤ m → drop k (take m text) ≡ take (m - k) (drop k text)
  behind m h = let e : m ≡ k + (m - k) = omega arith in ap (λ n. drop k (take n text)) e ∙ drop-take k (m - k) text

  beyond : (n m : ℕ) → IsLongest tail (drop k text) n → k + n < m → m ≤ length text → headed (take m text) ≡ false
  beyond n m front past within =
      and_right _ _ (ap tail (behind m (omega arith)) ∙ front.longest (m - k) (omega arith) (omega (arith, length-drop k text)))

  pub front_without : head text ≡ false → IsLongest headed text 0
  front_without h = record {
    within = omega arith;
    passes = λ p. absurd (omega arith);
    longest = λ m past within. elim (cases_lt m k) [ inl less ↦ and_left _ _ (is.short m less within) | inr more ↦ and_left _ _ (is.keeps m more ∙ h) ];
  }

  -- a tail that may be empty
  pub front_any : (n : ℕ) → head text ≡ true → IsLongest tail (drop k text) n → (n ≡ 0 → tail [] ≡ true) → IsLongest headed text (k + n)
  front_any n h front none = record {
    within = omega (arith, front.within, is.long h, length-drop k text);
    passes = λ p. and_from _ _ (is.keeps (k + n) (omega arith) ∙ h) (ap tail (drop-take k n text) ∙ passes n front none);
    longest = λ m past within. beyond n m front past within;
  }
    where
      passes : (n : ℕ) → IsLongest tail (drop k text) n → (n ≡ 0 → tail [] ≡ true) → tail (take n (drop k text)) ≡ true
      passes zero front none = none refl
      passes (suc n) front none = front.passes (omega arith)

  -- a tail that may not
  pub front_some : (n : ℕ) → head text ≡ true → tail [] ≡ false → IsLongest tail (drop k text) n → IsLongest headed text (with_head k n)
  front_some zero h none front = record {
    within = omega arith;
    passes = λ p. absurd (omega arith);
    longest = λ m past within. elim (cases_lt k m) [
      | inl more ↦ beyond 0 m front (omega arith) within
      | inr less ↦ and_right _ _ (ap tail (drop_all k (take m text) (omega (arith, length-take m text))) ∙ none)
    ];
  }
  front_some (suc n) h none front = rw (with_head_some k (suc n) (omega arith)) (front_any (suc n) h front (λ e. absurd (omega arith)))

-- the longest front that passes one of two tests is the longer one
pub either : (s t : List ℕ → Bool) (text : List ℕ) (a b : ℕ) → IsLongest s text a → IsLongest t text b → IsLongest (λ front. s front || t front) text (max a b)
either s t text a b one other = elim (cases_lt a b) [
  | inl less ↦ let e : max a b ≡ b = omega arith in rw e (record {
    within = other.within;
    passes = λ h. or_right _ _ (other.passes h);
    longest = λ m past within. or_from _ _ (one.longest m (omega arith) within) (other.longest m past within);
  })
  | inr more ↦ let e : max a b ≡ a = omega arith in rw e (record {
    within = one.within;
    passes = λ h. or_left _ _ (one.passes h);
    longest = λ m past within. or_from _ _ (one.longest m past within) (other.longest m (omega arith) within);
  })
]

pub either_front : (s t : List ℕ → List ℕ → Bool) (text : List ℕ) (a b : ℕ) → IsLongestFront s text a → IsLongestFront t text b → IsLongestFront (λ front rest. s front rest || t front rest) text (max a b)
either_front s t text a b one other = elim (cases_lt a b) [
  | inl less ↦ let e : max a b ≡ b = omega arith in rw e (record {
    within = other.within;
    passes = λ h. or_right _ _ (other.passes h);
    longest = λ m past within. or_from _ _ (one.longest m (omega arith) within) (other.longest m past within);
  })
  | inr more ↦ let e : max a b ≡ a = omega arith in rw e (record {
    within = one.within;
    passes = λ h. or_left _ _ (one.passes h);
    longest = λ m past within. or_from _ _ (one.longest m past within) (other.longest m (omega arith) within);
  })
]

pub alone : (test : List ℕ → Bool) (text : List ℕ) (n : ℕ) → IsLongest test text n → IsLongestFront (λ front rest. test front) text n
alone test text n front = record { within = front.within; passes = front.passes; longest = front.longest }
