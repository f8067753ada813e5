-- Fronts that are found character by character.
use Rattle.std.proofs.Common.{◌≡◌, ℕ, zero, suc, ◌+◌, ◌<◌, ◌≤◌, Bool, true, false, ◌&&◌, List, [], ◌∷◌, length, take, refl, sym, ap, ◌∙◌, inl, inr, nat_eq, cond, length-take, arith}
use Rattle.std.proofs.lemmas.Bool.{and_parts, and_left, and_right, both_ways, cases_Bool, cases_lt, cond-true, cond-false, or_left, false_from_ne_true, and_cases, ne_eqb, eq-eqb}
use Rattle.std.specs.List.{list_all, prefix_len}
use Rattle.plc_text.specs.Words.{spells, opens, begins, is_digit, is_letter, is_word_character, is_word, is_number}
use Rattle.st_tree.specs.Pieces.{ends_first, are_spaced, is_underscore}
use Rattle.st_lexer.specs.Private.Piece.{IsLongest}
use Rattle.st_lexer.specs.Private.Reach.{with_head, closing_from, spaced_from, digits_len}
use Rattle.st_lexer.proofs.HeadLaws.{with_head_some, spells_long, opens_take, opens_front, opens_long}

-- no front passes
pub none : (test : List ℕ → Bool) (text : List ℕ) → ((m : ℕ) → 0 < m → m ≤ length text → test (take m text) ≡ false) → IsLongest test text 0
none test text h = record { within = omega arith; passes = λ p. absurd (omega arith); longest = h }

pub with_heads : (i k n : ℕ) → with_head i (with_head k n) ≡ with_head (i + k) n
with_heads i k zero = refl
with_heads i k (suc n) =
    ap (with_head i) (with_head_some k (suc n) (omega arith))
    ∙ with_head_some i (k + suc n) (omega arith)
    ∙ (let e : i + (k + suc n) ≡ (i + k) + suc n = omega arith in e)
    ∙ sym (with_head_some (i + k) (suc n) (omega arith))

-- a character, and a front of the rest, which may be empty
pub cons_any : (f g : List ℕ → Bool) (c : ℕ) (cs : List ℕ) (n : ℕ) → ((m : ℕ) → m ≤ length cs → f (c ∷ take m cs) ≡ g (take m cs)) → (n ≡ 0 → g [] ≡ true) → IsLongest g cs n → IsLongest f (c ∷ cs) (suc n)
cons_any f g c cs n same empty front = record {
  within = omega (arith, front.within);
  passes = λ p. same n front.within ∙ passes n empty front;
  longest = longest;
}
  where
    passes : (n : ℕ) → (n ≡ 0 → g [] ≡ true) → IsLongest g cs n → g (take n cs) ≡ true
    passes zero empty front = empty refl
    passes (suc n) empty front = front.passes (omega arith)

    longest : (m : ℕ) → suc n < m → m ≤ length (c ∷ cs) → f (take m (c ∷ cs)) ≡ false
    longest zero past within = absurd (omega arith)
    longest (suc m) past within = same m (omega arith) ∙ front.longest m (omega arith) (omega arith)

-- a character, and a front of the rest, which may not be empty
pub cons_some : (f g : List ℕ → Bool) (c : ℕ) (cs : List ℕ) (n : ℕ) → ((m : ℕ) → m ≤ length cs → f (c ∷ take m cs) ≡ g (take m cs)) → g [] ≡ false → IsLongest g cs n → IsLongest f (c ∷ cs) (with_head 1 n)
cons_some f g c cs zero same empty front = none f (c ∷ cs) longest
  where
    longest : (m : ℕ) → 0 < m → m ≤ length (c ∷ cs) → f (take m (c ∷ cs)) ≡ false
    longest zero some within = absurd (omega arith)
    longest (suc zero) some within = same 0 (omega arith) ∙ empty
    longest (suc (suc m)) some within = same (suc m) (omega arith) ∙ front.longest (suc m) (omega arith) (omega arith)
cons_some f g c cs (suc n) same empty front =
    let e : with_head 1 (suc n) ≡ suc (suc n) = with_head_some 1 (suc n) (omega arith) ∙ omega arith in
    rw e (cons_any f g c cs (suc n) same (λ e. absurd (omega arith)) front)

-- a character that begins no front
pub cons_none : (f : List ℕ → Bool) (c : ℕ) (cs : List ℕ) → ((m : ℕ) → m ≤ length cs → f (c ∷ take m cs) ≡ false) → IsLongest f (c ∷ cs) 0
cons_none f c cs fails = none f (c ∷ cs) longest
  where
    longest : (m : ℕ) → 0 < m → m ≤ length (c ∷ cs) → f (take m (c ∷ cs)) ≡ false
    longest zero some within = absurd (omega arith)
    longest (suc m) some within = fails m (omega arith)

pub nil_none : (f : List ℕ → Bool) → IsLongest f [] 0
nil_none f = none f [] (λ m some within. absurd (omega arith))

-- runs

pub run_front : (test : ℕ → Bool) (text : List ℕ) → IsLongest (list_all test) text (prefix_len test text)
run_front test [] = nil_none _
run_front test (c ∷ cs) = elim (cases_Bool (test c)) [
  | inl holds ↦
      let e : prefix_len test (c ∷ cs) ≡ suc (prefix_len test cs) = cond-true (test c) _ _ holds ∙ omega arith in
      rw e (cons_any (list_all test) (list_all test) c cs (prefix_len test cs) (λ m h. ap (λ b. b && list_all test (take m cs)) holds) (λ e. refl) (run_front test cs))
  | inr fails ↦ rw (cond-false (test c) (1 + prefix_len test cs) 0 fails) (cons_none (list_all test) c cs (λ m h. and_left _ _ fails))
]

-- a test that a longer test ends in, where a front that is not empty passes both or neither
pub same_front : (f g : List ℕ → Bool) (text : List ℕ) (n : ℕ) → ((m : ℕ) → 0 < m → m ≤ length text → f (take m text) ≡ g (take m text)) → IsLongest g text n → IsLongest f text n
same_front f g text n same front = record {
  within = front.within;
  passes = λ p. same n p front.within ∙ front.passes p;
  longest = λ m past within. same m (omega arith) within ∙ front.longest m past within;
}

pub number_front : (text : List ℕ) → IsLongest is_number text (prefix_len is_digit text)
number_front text = same_front is_number (list_all is_digit) text _ (same text) (run_front is_digit text)
  where
    same : (text : List ℕ) (m : ℕ) → 0 < m → m ≤ length text → is_number (take m text) ≡ list_all is_digit (take m text)
    same text zero some within = absurd (omega arith)
    same [] (suc m) some within = absurd (omega arith)
    same (c ∷ cs) (suc m) some within = refl

-- words

letter_in_word : (c : ℕ) → is_letter c ≡ true → is_word_character c ≡ true
letter_in_word c h = or_left _ _ h

pub word_front : (text : List ℕ) → begins is_letter text ≡ true → IsLongest is_word text (prefix_len is_word_character text)
word_front [] h = absurd (both_ways false refl h)
word_front (c ∷ cs) h =
    let e : prefix_len is_word_character (c ∷ cs) ≡ suc (prefix_len is_word_character cs) = cond-true (is_word_character c) _ _ (letter_in_word c h) ∙ omega arith in
    rw e (cons_any is_word (list_all is_word_character) c cs (prefix_len is_word_character cs) (λ m w. ap (λ b. b && list_all is_word_character (take m cs)) h) (λ e. refl) (run_front is_word_character cs))

pub no_word : (text : List ℕ) → begins is_letter text ≡ false → IsLongest is_word text 0
no_word [] h = nil_none _
no_word (c ∷ cs) h = cons_none is_word c cs (λ m w. and_left _ _ h)

-- up to the first mark

pub closing_front : (mark : List ℕ) → 0 < length mark → (passed : ℕ) (text : List ℕ) → (n : ℕ) × (closing_from mark passed text ≡ with_head passed n) × IsLongest (ends_first mark) text n
closing_front mark some passed [] = (0, refl, nil_none _)
closing_front mark some passed (c ∷ cs) = elim (cases_Bool (opens mark (c ∷ cs))) [
  | inl holds ↦ (
    length mark,
    cond-true (opens mark (c ∷ cs)) _ _ holds ∙ sym (with_head_some passed (length mark) some),
    record {
      within = opens_long mark (c ∷ cs) holds;
      passes = λ p. ends mark c cs (length mark) some (opens_take mark (c ∷ cs) (length mark) (omega arith) ∙ holds) ∙ holds;
      longest = λ m past within. ends mark c cs m (omega arith) (opens_take mark (c ∷ cs) m (omega arith) ∙ holds)
          ∙ false_from_ne_true _ (λ h. omega (arith, spells_long mark (take m (c ∷ cs)) h, length-take m (c ∷ cs)));
    },
  )
  | inr fails ↦
      let rest = closing_front mark some (passed + 1) cs in (
        with_head 1 rest.0,
        cond-false (opens mark (c ∷ cs)) _ _ fails ∙ rest.1 ∙ sym (with_heads passed 1 rest.0),
        cons_some (ends_first mark) (ends_first mark) c cs rest.0 (λ m w. cond-false (opens mark (c ∷ take m cs)) _ _ (opens_front mark (c ∷ cs) (suc m) fails)) refl rest.2,
      )
]
  where
    ends : (mark : List ℕ) (c : ℕ) (cs : List ℕ) (m : ℕ) → 0 < m → opens mark (take m (c ∷ cs)) ≡ true → ends_first mark (take m (c ∷ cs)) ≡ spells mark (take m (c ∷ cs))
    ends mark c cs zero some holds = absurd (omega arith)
    ends mark c cs (suc m) some holds = cond-true (opens mark (c ∷ take m cs)) _ _ holds

-- digits with underscores

-- the length that was read, or more of it
abbrev pub later : ℕ → ℕ → ℕ → ℕ
later passed len n = cond (nat_eq n 0) len (passed + n)

later_some : (passed len n : ℕ) → 0 < n → later passed len n ≡ passed + n
later_some passed len n some = cond-false _ _ _ (ne_eqb n 0 (λ e. omega arith))

later_digit : (passed len n : ℕ) → later (passed + 1) (passed + 1) n ≡ later passed len (suc n)
later_digit passed len zero = (let e : passed + 1 ≡ passed + suc zero = omega arith in e) ∙ sym (later_some passed len (suc zero) (omega arith))
later_digit passed len (suc n) =
    later_some (passed + 1) (passed + 1) (suc n) (omega arith)
    ∙ (let e : passed + 1 + suc n ≡ passed + suc (suc n) = omega arith in e)
    ∙ sym (later_some passed len (suc (suc n)) (omega arith))

later_gap : (passed len n : ℕ) → later (passed + 1) len n ≡ later passed len (with_head 1 n)
later_gap passed len zero = refl
later_gap passed len (suc n) =
    later_some (passed + 1) len (suc n) (omega arith)
    ∙ (let e : passed + 1 + suc n ≡ passed + (1 + suc n) = omega arith in e)
    ∙ sym (later_some passed len (1 + suc n) (omega arith))
    ∙ ap (later passed len) (sym (with_head_some 1 (suc n) (omega arith)))

pub spaced_front : (test : ℕ → Bool) (passed len : ℕ) (after : Bool) (text : List ℕ) → (n : ℕ) × (spaced_from test passed len after text ≡ later passed len n) × IsLongest (are_spaced test after) text n
spaced_front test passed len after [] = (0, refl, nil_none _)
spaced_front test passed len after (c ∷ cs) = elim (cases_Bool (test c)) [
  | inl holds ↦
      let rest = spaced_front test (passed + 1) (passed + 1) true cs in (
        suc rest.0,
        cond-true (test c) _ _ holds ∙ rest.1 ∙ later_digit passed len rest.0,
        cons_any (are_spaced test after) (are_spaced test true) c cs rest.0 (λ m w. cond-true (test c) _ _ holds) (λ e. refl) rest.2,
      )
  | inr fails ↦ elim (cases_Bool (is_underscore c && after)) [
    | inl gap ↦
        let rest = spaced_front test (passed + 1) len false cs in
        let parts = and_parts (is_underscore c) after gap in (
          with_head 1 rest.0,
          cond-false (test c) _ _ fails ∙ cond-true (is_underscore c && after) _ _ gap ∙ rest.1 ∙ later_gap passed len rest.0,
          cons_some (are_spaced test after) (are_spaced test false) c cs rest.0
              (λ m w. cond-false (test c) _ _ fails ∙ ap (λ b. b && (after && are_spaced test false (take m cs))) parts.0 ∙ ap (λ b. b && are_spaced test false (take m cs)) parts.1) refl rest.2,
        )
    | inr other ↦ (
      0,
      cond-false (test c) _ _ fails ∙ cond-false (is_underscore c && after) _ _ other,
      cons_none (are_spaced test after) c cs (λ m w. cond-false (test c) _ _ fails ∙ stops (is_underscore c) after _ other),
    )
  ]
]
  where
    stops : (a b x : Bool) → (a && b) ≡ false → (a && (b && x)) ≡ false
    stops a b x h = elim (and_cases a b h) [ inl p ↦ and_left _ _ p | inr p ↦ and_right _ _ (and_left _ _ p) ]

pub digits_front : (test : ℕ → Bool) (text : List ℕ) → IsLongest (are_spaced test false) text (digits_len test text)
digits_front test text = let found = spaced_front test 0 0 false text in rw (found.1 ∙ whole found.0) found.2
  where
    whole : (n : ℕ) → later 0 0 n ≡ n
    whole zero = refl
    whole (suc n) = later_some 0 0 (suc n) (omega arith) ∙ omega arith

-- whether a front of the greatest length passes a test is whether the test reaches it
pub reaches : (test : List ℕ → Bool) (text : List ℕ) (a n : ℕ) → IsLongest test text a → 0 < n → a ≤ n → n ≤ length text → nat_eq a n ≡ test (take n text)
reaches test text a n front some least within = elim (cases_lt a n) [
  | inl less ↦ ne_eqb a n (λ e. omega arith) ∙ sym (front.longest n less within)
  | inr more ↦ let e : a ≡ n = omega arith in eq-eqb a n e ∙ sym (let h = front.passes (omega arith) in rw e at h)
]
