-- Fronts that are the parts of a time.
use Rattle.std.proofs.Common.{◌≡◌, ℕ, zero, suc, ◌+◌, ◌-◌, ◌<◌, ◌≤◌, Bool, true, false, ◌&&◌, ◌||◌, not, List, [], ◌∷◌, length, take, drop, refl, sym, ap, ◌∙◌, inl, inr, nat_eq, cond, codes, min, length-take, length-drop, arith}
use Rattle.std.proofs.lemmas.Bool.{and_parts, and_from, and_left, and_right, or_from, or_left, or_right, or_parts, both_ways, cases_Bool, cases_lt, cases_eq, cond-true, cond-false, eqb-true, ne_eqb, eq-eqb, not_from_true, not_from_false}
use Rattle.std.proofs.lemmas.List.{drop-take, drop_all, drop-drop}
use Rattle.std.proofs.lemmas.Bool.Decides.{nat_tests}
use Rattle.std.specs.List.{list_any, prefix_len}
use Rattle.std.specs.Char.{to_ascii_uppercase}
use Rattle.std.proofs.lemmas.List.Sums.{prefix_len-le-length}
use Rattle.plc_text.specs.Words.{is_one_of, opens, begins, behind_all, is_digit}
use Rattle.st_tree.specs.Pieces.{begins_part, behind_part, behind_underscore, is_empty, is_underscore, are_parts, units}
use Rattle.st_lexer.specs.Private.Piece.{IsLongest}
use Rattle.st_lexer.specs.Private.Reach.{with_head, part_len, parts_len}
use Rattle.st_lexer.proofs.HeadLaws.{with_head_some, opens_front, opens_take, opens_long}
use Rattle.st_lexer.proofs.RunLaws.{none}

prefix_len-take : (test : ℕ → Bool) (text : List ℕ) (m : ℕ) → prefix_len test (take m text) ≡ min m (prefix_len test text)
prefix_len-take test text zero = omega arith
prefix_len-take test [] (suc m) = omega arith
prefix_len-take test (c ∷ cs) (suc m) = by_test (test c) (prefix_len-take test cs m)
  where
    by_test : (b : Bool) → prefix_len test (take m cs) ≡ min m (prefix_len test cs) → cond b (1 + prefix_len test (take m cs)) 0 ≡ min (suc m) (cond b (1 + prefix_len test cs) 0)
    by_test true h = omega arith
    by_test false h = omega arith

pub behind_all_is : (test : ℕ → Bool) (text : List ℕ) → behind_all test text ≡ drop (prefix_len test text) text
behind_all_is test [] = refl
behind_all_is test (c ∷ cs) = by_test (test c) (behind_all_is test cs)
  where
    by_test : (b : Bool) → behind_all test cs ≡ drop (prefix_len test cs) cs → cond b (behind_all test cs) (c ∷ cs) ≡ drop (cond b (1 + prefix_len test cs) 0) (c ∷ cs)
    by_test true h = let e : 1 + prefix_len test cs ≡ suc (prefix_len test cs) = omega arith in rw e h
    by_test false h = refl

-- what is behind the characters of a front that pass
behind_all_front : (test : ℕ → Bool) (text : List ℕ) (m : ℕ) → behind_all test (take m text) ≡ take (m - prefix_len test text) (drop (prefix_len test text) text)
behind_all_front test text m = behind_all_is test (take m text) ∙ ap (λ n. drop n (take m text)) (prefix_len-take test text m) ∙ elim (cases_lt (prefix_len test text) m) [
  | inl more ↦
      let d = prefix_len test text in
      let e : min m d ≡ d = omega arith in
      let f : m ≡ d + (m - d) = omega arith in
      ap (λ n. drop n (take m text)) e ∙ ap (λ n. drop d (take n text)) f ∙ drop-take d (m - d) text
  | inr less ↦
      let d = prefix_len test text in
      let e : m - d ≡ 0 = omega arith in
      drop_all (min m d) (take m text) (omega (arith, length-take m text)) ∙ ap (λ n. take n (drop d text)) (sym e)
]

begins_front : (test : ℕ → Bool) (text : List ℕ) (m : ℕ) → 0 < m → begins test (take m text) ≡ begins test text
begins_front test text zero some = absurd (omega arith)
begins_front test [] (suc m) some = refl
begins_front test (c ∷ cs) (suc m) some = refl

begins_run : (test : ℕ → Bool) (text : List ℕ) → 0 < prefix_len test text → begins test text ≡ true
begins_run test [] h = absurd (omega arith)
begins_run test (c ∷ cs) h = elim (cases_Bool (test c)) [ inl holds ↦ holds | inr fails ↦ absurd (let e : prefix_len test (c ∷ cs) ≡ 0 = cond-false (test c) _ _ fails in omega arith) ]

begins_no_run : (test : ℕ → Bool) (text : List ℕ) → prefix_len test text ≡ 0 → begins test text ≡ false
begins_no_run test [] h = refl
begins_no_run test (c ∷ cs) h = elim (cases_Bool (test c)) [ inl holds ↦ absurd (let e : prefix_len test (c ∷ cs) ≡ 1 + prefix_len test cs = cond-true (test c) _ _ holds in omega arith) | inr fails ↦ fails ]

-- the digits at the front, and what is behind them
abbrev pub digits : List ℕ → ℕ
digits text = prefix_len is_digit text

abbrev pub behind : List ℕ → List ℕ
behind text = drop (digits text) text

-- a part with the unit and parts with smaller units behind it
abbrev pub with_part : List ℕ → List (List ℕ) → List ℕ → Bool
with_part unit smaller text = begins_part unit text && (is_empty (behind_part unit text) || are_parts smaller (behind_underscore (behind_part unit text)))

-- no digit begins the text
digitless : (smaller : List (List ℕ)) (text : List ℕ) → begins is_digit text ≡ false → are_parts smaller text ≡ false
digitless [] text h = refl
digitless (unit ∷ smaller) text h = or_from _ _ (digitless smaller text h) (and_left _ _ (and_left _ _ h))

no_parts_nil : (smaller : List (List ℕ)) → are_parts smaller [] ≡ false
no_parts_nil smaller = digitless smaller [] refl

-- this unit does not stand behind the digits
unitless : (unit : List ℕ) (smaller : List (List ℕ)) (text : List ℕ) (m : ℕ) → opens unit (behind text) ≡ false → with_part unit smaller (take m text) ≡ false
unitless unit smaller text m h = and_left _ _ (and_right _ _ (ap (opens unit) (behind_all_front is_digit text m) ∙ opens_front unit (behind text) (m - digits text) h))

-- no unit of the list does
pub no_units : (smaller : List (List ℕ)) (text : List ℕ) (m : ℕ) → list_any (λ unit. opens unit (behind text)) smaller ≡ false → are_parts smaller (take m text) ≡ false
no_units [] text m h = refl
no_units (unit ∷ smaller) text m h =
    let parts = or_parts (opens unit (behind text)) _ h in
    or_from _ _ (no_units smaller text m parts.1) (unitless unit smaller text m parts.0)

-- where no part with this unit makes a longer front
skip : (unit : List ℕ) (smaller : List (List ℕ)) (text : List ℕ) (n : ℕ) → IsLongest (are_parts smaller) text n → ((m : ℕ) → n < m → m ≤ length text → with_part unit smaller (take m text) ≡ false) → IsLongest (are_parts (unit ∷ smaller)) text n
skip unit smaller text n front fails = record {
  within = front.within;
  passes = λ p. or_left _ _ (front.passes p);
  longest = λ m past within. or_from _ _ (front.longest m past within) (fails m past within);
}

abbrev gap_of : List ℕ → ℕ
gap_of rest = cond (begins is_underscore rest) 1 0

underscore_front : (rest : List ℕ) (j : ℕ) → 0 < j → behind_underscore (take j rest) ≡ take (j - gap_of rest) (drop (gap_of rest) rest)
underscore_front rest zero some = absurd (omega arith)
underscore_front [] (suc j) some = let e : suc j - 0 ≡ suc j = omega arith in ap (λ n. take n []) (sym e)
underscore_front (c ∷ cs) (suc j) some = by_test (is_underscore c)
  where
    by_test : (b : Bool) → cond b (take j cs) (c ∷ take j cs) ≡ take (suc j - cond b 1 0) (drop (cond b 1 0) (c ∷ cs))
    by_test true = let e : suc j - 1 ≡ j = omega arith in ap (λ n. take n cs) (sym e)
    by_test false = let e : suc j - 0 ≡ suc j = omega arith in ap (λ n. take n (c ∷ cs)) (sym e)

-- behind the first part
part_behind : (unit text : List ℕ) (j : ℕ) → behind_part unit (take (digits text + length unit + j) text) ≡ take j (drop (digits text + length unit) text)
part_behind unit text j =
    ap (drop (length unit)) (behind_all_front is_digit text (digits text + length unit + j) ∙ (let e : digits text + length unit + j - digits text ≡ length unit + j = omega arith in ap (λ n. take n (behind text)) e))
    ∙ drop-take (length unit) j (behind text)
    ∙ ap (take j) (drop-drop (length unit) (digits text) text)

not_empty : (rest : List ℕ) (j : ℕ) → 0 < j → j ≤ length rest → is_empty (take j rest) ≡ false
not_empty rest zero some within = absurd (omega arith)
not_empty [] (suc j) some within = absurd (omega arith)
not_empty (c ∷ cs) (suc j) some within = refl

module _ (unit : List ℕ) (smaller : List (List ℕ)) (text : List ℕ) where
  abbrev part : ℕ
  part = digits text + length unit

  abbrev gap : ℕ
  gap = gap_of (drop part text)

  -- what may stand behind the first part
  abbrev tail : ℕ → Bool
  tail j = is_empty (take j (drop part text)) || are_parts smaller (behind_underscore (take j (drop part text)))

  tail_is : (j : ℕ) → (is_empty (behind_part unit (take (part + j) text)) || are_parts smaller (behind_underscore (behind_part unit (take (part + j) text)))) ≡ tail j
  tail_is j = ap (λ rest. is_empty rest || are_parts smaller (behind_underscore rest)) (part_behind unit text j)

  begins_with_part : 0 < digits text → 0 < length unit → opens unit (behind text) ≡ true → (m : ℕ) → part ≤ m → begins_part unit (take m text) ≡ true
  begins_with_part some long holds m past = and_from _ _
      (begins_front is_digit text m (omega arith) ∙ begins_run is_digit text some)
      (ap (opens unit) (behind_all_front is_digit text m) ∙ opens_take unit (behind text) (m - digits text) (omega arith) ∙ holds)

  tail_passes : (n : ℕ) → IsLongest (are_parts smaller) (drop gap (drop part text)) n → tail (with_head gap n) ≡ true
  tail_passes zero front = refl
  tail_passes (suc n) front =
      let e : with_head gap (suc n) ≡ gap + suc n = with_head_some gap (suc n) (omega arith) in
      let f : gap + suc n - gap ≡ suc n = omega arith in
      ap tail e ∙ or_right _ _ (ap (are_parts smaller) (underscore_front (drop part text) (gap + suc n) (omega arith) ∙ ap (λ k. take k (drop gap (drop part text))) f) ∙ front.passes (omega arith))

  tail_fails : (n j : ℕ) → IsLongest (are_parts smaller) (drop gap (drop part text)) n → with_head gap n < j → j ≤ length (drop part text) → tail j ≡ false
  tail_fails n j front past within = or_from _ _ (not_empty (drop part text) j (omega arith) within)
      (ap (are_parts smaller) (underscore_front (drop part text) j (omega arith)) ∙ elim (cases_lt gap j) [
        | inl more ↦ front.longest (j - gap) (beyond n past more) (omega (arith, length-drop gap (drop part text)))
        | inr less ↦ let e : j - gap ≡ 0 = omega arith in ap (λ k. are_parts smaller (take k (drop gap (drop part text)))) e ∙ no_parts_nil smaller
      ])
    where
      beyond : (n : ℕ) → with_head gap n < j → gap < j → n < j - gap
      beyond zero past more = omega arith
      beyond (suc n) past more = let e : with_head gap (suc n) ≡ gap + suc n = with_head_some gap (suc n) (omega arith) in omega arith

  -- where the text begins with a part, and none of the smaller units stands behind its digits
  taken : (n : ℕ) → 0 < digits text → 0 < length unit → opens unit (behind text) ≡ true → part ≤ length text → list_any (λ other. opens other (behind text)) smaller ≡ false → IsLongest (are_parts smaller) (drop gap (drop part text)) n → IsLongest (are_parts (unit ∷ smaller)) text (part + with_head gap n)
  taken n some long holds room others front = record {
    within = omega (arith, head_within n front, length-drop part text);
    passes = λ p. or_right _ _ (and_from _ _ (begins_with_part some long holds (part + with_head gap n) (omega arith)) (tail_is (with_head gap n) ∙ tail_passes n front));
    longest = λ m past within.
        (let e : m ≡ part + (m - part) = omega arith in
        or_from _ _ (no_units smaller text m others)
        (and_right _ _ (ap (λ k. is_empty (behind_part unit (take k text)) || are_parts smaller (behind_underscore (behind_part unit (take k text)))) e
        ∙ tail_is (m - part) ∙ tail_fails n (m - part) front (omega arith) (omega (arith, length-drop part text)))));
  }
    where
      head_within : (n : ℕ) → IsLongest (are_parts smaller) (drop gap (drop part text)) n → with_head gap n ≤ length (drop part text)
      head_within zero front = omega arith
      head_within (suc n) front =
          let e : with_head gap (suc n) ≡ gap + suc n = with_head_some gap (suc n) (omega arith) in
          omega (arith, front.within, length-drop gap (drop part text))

-- `M` before `S`
abbrev guard : List ℕ → List ℕ → Bool
guard unit text = is_one_of (codes "M" ∷ []) unit && opens (codes "MS") (behind text)

abbrev with_len : List (List ℕ) → List ℕ → ℕ → ℕ
with_len smaller text part =
    let gap = cond (begins is_underscore (drop part text)) 1 0 in
    cond (nat_eq part 0) (parts_len smaller text) (part + with_head gap (parts_len smaller (drop (part + gap) text)))

with_len-none : (smaller : List (List ℕ)) (text : List ℕ) (part : ℕ) → part ≡ 0 → with_len smaller text part ≡ parts_len smaller text
with_len-none smaller text part e = cond-true (nat_eq part 0) _ _ (eq-eqb part 0 e)

with_len-some : (smaller : List (List ℕ)) (text : List ℕ) (part : ℕ) → 0 < part → with_len smaller text part ≡ part + with_head (gap_of (drop part text)) (parts_len smaller (drop (gap_of (drop part text)) (drop part text)))
with_len-some smaller text part some =
    cond-false (nat_eq part 0) _ _ (ne_eqb part 0 (λ e. omega arith))
    ∙ ap (λ rest. part + with_head (gap_of (drop part text)) (parts_len smaller rest)) (sym (drop-drop (gap_of (drop part text)) part text))

step : (unit : List ℕ) (smaller : List (List ℕ)) → 0 < length unit → (text : List ℕ) → ((rest : List ℕ) → IsLongest (are_parts smaller) rest (parts_len smaller rest))
    → (opens unit (behind text) ≡ true → guard unit text ≡ false → list_any (λ other. opens other (behind text)) smaller ≡ false)
    → (0 < digits text → guard unit text ≡ true → (m : ℕ) → parts_len smaller text < m → m ≤ length text → with_part unit smaller (take m text) ≡ false)
    → IsLongest (are_parts (unit ∷ smaller)) text (parts_len (unit ∷ smaller) text)
step unit smaller long text ih others special = elim (cases_eq (digits text) 0) [
  | inl none ↦
      let e : part_len unit text ≡ 0 = cond-true (nat_eq (digits text) 0) _ _ (eq-eqb _ 0 none) in
      rw (with_len-none smaller text (part_len unit text) e) (skip unit smaller text _ (ih text) (λ m past within.
      and_left _ _ (and_left _ _ (begins_front is_digit text m (omega arith) ∙ begins_no_run is_digit text none))))
  | inr some ↦ elim (cases_Bool (opens unit (behind text))) [
    | inr fails ↦
        let e : part_len unit text ≡ 0 = first some ∙ cond-true (not (opens unit (behind text))) _ _ (not_from_false _ fails) in
        rw (with_len-none smaller text (part_len unit text) e) (skip unit smaller text _ (ih text) (λ m past within. unitless unit smaller text m fails))
    | inl holds ↦ elim (cases_Bool (guard unit text)) [
      | inl guards ↦
          let e : part_len unit text ≡ 0 = first some ∙ second holds ∙ cond-true (guard unit text) _ _ guards in
          rw (with_len-none smaller text (part_len unit text) e) (skip unit smaller text _ (ih text) (special (omega arith) guards))
      | inr free ↦
          let e : part_len unit text ≡ digits text + length unit = first some ∙ second holds ∙ cond-false (guard unit text) _ _ free in
          let f : with_len smaller text (digits text + length unit) ≡ _ = with_len-some smaller text (digits text + length unit) (omega arith) in
          rw (e, f) (taken unit smaller text _ (omega arith) long holds (room holds) (others holds free) (ih _))
    ]
  ]
]
  where
    first : (digits text ≡ 0 → ⊥) → part_len unit text ≡ cond (not (opens unit (behind text))) 0 (cond (guard unit text) 0 (digits text + length unit))
    first some = cond-false (nat_eq (digits text) 0) _ _ (ne_eqb _ 0 some)

    second : opens unit (behind text) ≡ true → cond (not (opens unit (behind text))) 0 (cond (guard unit text) 0 (digits text + length unit)) ≡ cond (guard unit text) 0 (digits text + length unit)
    second holds = cond-false (not (opens unit (behind text))) _ _ (not_from_true _ holds)

    room : opens unit (behind text) ≡ true → digits text + length unit ≤ length text
    room holds = omega (arith, opens_long unit (behind text) holds, length-drop (digits text) text, prefix_len-le-length is_digit text, long)

-- what a text begins with, it begins with no word of another first letter

other_first : (x y : ℕ) (word other text : List ℕ) → nat_eq x y ≡ false → opens (x ∷ word) text ≡ true → opens (y ∷ other) text ≡ false
other_first x y word other [] apart h = absurd (both_ways false refl h)
other_first x y word other (c ∷ cs) apart h =
    let e : to_ascii_uppercase c ≡ x = eqb-true _ _ (and_parts (nat_eq (to_ascii_uppercase c) x) _ h).0 in
    and_left _ _ (ap (λ d. nat_eq d y) e ∙ apart)

pub ms_front : (text : List ℕ) → IsLongest (are_parts (codes "MS" ∷ [])) text (parts_len (codes "MS" ∷ []) text)
ms_front text = step (codes "MS") [] (omega arith) text (λ rest. none _ rest (λ m some within. refl)) (λ _ _. refl) (λ _ h m past within. absurd (both_ways false refl h))

pub s_front : (text : List ℕ) → IsLongest (are_parts (codes "S" ∷ codes "MS" ∷ [])) text (parts_len (codes "S" ∷ codes "MS" ∷ []) text)
s_front text = step (codes "S") (codes "MS" ∷ []) (omega arith) text ms_front
    (λ h _. or_from _ _ (other_first 83 77 [] (83 ∷ []) (behind text) refl h) refl)
    (λ _ h m past within. absurd (both_ways false refl h))

-- behind digits and `MS` no part goes on with `M`, since no digit stands before `S`

s_digit : (c : ℕ) → nat_eq (to_ascii_uppercase c) 83 ≡ true → is_digit c ≡ false
s_digit c h = grind (arith, nat_tests)

s_underscore : (c : ℕ) → nat_eq (to_ascii_uppercase c) 83 ≡ true → is_underscore c ≡ false
s_underscore c h = grind (arith, nat_tests)

before_s : (rest : List ℕ) (j : ℕ) → 0 < j → j ≤ length rest → (length rest ≡ 0 → ⊥) → (opens (codes "S") rest ≡ true) → (is_empty (take j rest) || are_parts (codes "S" ∷ codes "MS" ∷ []) (behind_underscore (take j rest))) ≡ false
before_s [] j some within full h = absurd (full refl)
before_s (c ∷ cs) zero some within full h = absurd (omega arith)
before_s (c ∷ cs) (suc j) some within full h =
    let s = (and_parts (nat_eq (to_ascii_uppercase c) 83) true h).0 in
    ap (are_parts (codes "S" ∷ codes "MS" ∷ [])) (cond-false (is_underscore c) _ _ (s_underscore c s))
    ∙ digitless (codes "S" ∷ codes "MS" ∷ []) (c ∷ take j cs) (s_digit c s)

second_of : (text : List ℕ) → opens (codes "MS") text ≡ true → (2 ≤ length text) × (opens (codes "S") (drop 1 text) ≡ true) × (opens (codes "M") text ≡ true)
second_of [] h = absurd (both_ways false refl h)
second_of (c ∷ []) h = absurd (both_ways false refl (and_parts (nat_eq (to_ascii_uppercase c) 77) false h).1)
second_of (c ∷ d ∷ cs) h =
    let parts = and_parts (nat_eq (to_ascii_uppercase c) 77) (nat_eq (to_ascii_uppercase d) 83 && true) h in
    (omega arith, parts.1, and_from _ _ parts.0 refl)

-- the front with `MS` is longer than that with `M`
ms_reaches : (text : List ℕ) → 0 < digits text → opens (codes "MS") (behind text) ≡ true → digits text + 2 ≤ parts_len (codes "S" ∷ codes "MS" ∷ []) text
ms_reaches text some h =
    let no_s : opens (codes "S") (behind text) ≡ false = other_first 77 83 (83 ∷ []) [] (behind text) refl h in
    let more = ne_eqb (digits text) 0 (λ e. omega arith) in
    let first : part_len (codes "S") text ≡ 0 = cond-false (nat_eq (digits text) 0) _ _ more ∙ cond-true (not (opens (codes "S") (behind text))) _ _ (not_from_false _ no_s) in
    let second : part_len (codes "MS") text ≡ digits text + 2 = cond-false (nat_eq (digits text) 0) _ _ more ∙ cond-false (not (opens (codes "MS") (behind text))) _ _ (not_from_true _ h) in
    let e : parts_len (codes "S" ∷ codes "MS" ∷ []) text ≡ with_len [] text (part_len (codes "MS") text) = with_len-none (codes "MS" ∷ []) text (part_len (codes "S") text) first in
    let f : with_len [] text (digits text + 2) ≡ _ = with_len-some [] text (digits text + 2) (omega arith) in
    rw (e, second, f) (omega arith)

m_special : (text : List ℕ) → 0 < digits text → guard (codes "M") text ≡ true → (m : ℕ) → parts_len (codes "S" ∷ codes "MS" ∷ []) text < m → m ≤ length text → with_part (codes "M") (codes "S" ∷ codes "MS" ∷ []) (take m text) ≡ false
m_special text some h m past within =
    let reach = ms_reaches text some h in
    let second = second_of (behind text) h in
    let e : m ≡ digits text + 1 + (m - (digits text + 1)) = omega arith in
    let s : opens (codes "S") (drop (digits text + 1) text) ≡ true = ap (opens (codes "S")) (sym (drop-drop 1 (digits text) text)) ∙ second.1 in
    and_right _ _ (ap (λ k. is_empty (behind_part (codes "M") (take k text)) || are_parts (codes "S" ∷ codes "MS" ∷ []) (behind_underscore (behind_part (codes "M") (take k text)))) e
    ∙ tail_is (codes "M") (codes "S" ∷ codes "MS" ∷ []) text (m - (digits text + 1))
    ∙ before_s (drop (digits text + 1) text) (m - (digits text + 1)) (omega arith) (omega (arith, length-drop (digits text + 1) text)) (λ e. omega (arith, length-drop (digits text + 1) text)) s)

pub m_front : (text : List ℕ) → IsLongest (are_parts (codes "M" ∷ codes "S" ∷ codes "MS" ∷ [])) text (parts_len (codes "M" ∷ codes "S" ∷ codes "MS" ∷ []) text)
m_front text = step (codes "M") (codes "S" ∷ codes "MS" ∷ []) (omega arith) text s_front
    (λ h free. or_from _ _ (other_first 77 83 [] [] (behind text) refl h) (or_from _ _ free refl))
    (m_special text)

pub h_front : (text : List ℕ) → IsLongest (are_parts (codes "H" ∷ codes "M" ∷ codes "S" ∷ codes "MS" ∷ [])) text (parts_len (codes "H" ∷ codes "M" ∷ codes "S" ∷ codes "MS" ∷ []) text)
h_front text = step (codes "H") (codes "M" ∷ codes "S" ∷ codes "MS" ∷ []) (omega arith) text m_front
    (λ h _. or_from _ _ (other_first 72 77 [] [] (behind text) refl h) (or_from _ _ (other_first 72 83 [] [] (behind text) refl h) (or_from _ _ (other_first 72 77 [] (83 ∷ []) (behind text) refl h) refl)))
    (λ _ h m past within. absurd (both_ways false refl h))

pub parts_front : (text : List ℕ) → IsLongest (are_parts units) text (parts_len units text)
parts_front text = step (codes "D") (codes "H" ∷ codes "M" ∷ codes "S" ∷ codes "MS" ∷ []) (omega arith) text h_front
    (λ h _. or_from _ _ (other_first 68 72 [] [] (behind text) refl h) (or_from _ _ (other_first 68 77 [] [] (behind text) refl h) (or_from _ _ (other_first 68 83 [] [] (behind text) refl h) (or_from _ _ (other_first 68 77 [] (83 ∷ []) (behind text) refl h) refl))))
    (λ _ h m past within. absurd (both_ways false refl h))
