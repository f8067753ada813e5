-- Fronts of each form.
use Rattle.std.proofs.Common.{◌≡◌, ℕ, zero, suc, ◌+◌, ◌<◌, ◌≤◌, Bool, true, false, ◌&&◌, not, List, [], ◌∷◌, length, take, drop, refl, sym, ap, ◌∙◌, inl, inr, nat_eq, cond, codes, arith}
use Rattle.std.proofs.lemmas.Bool.{and_left, and_right, cases_Bool, cond-true, cond-false, and_cases, ne_eqb}
use Rattle.std.proofs.lemmas.Bool.Decides.{nat_tests}
use Rattle.std.specs.List.{list_all, prefix_len}
use Rattle.std.specs.Char.{to_ascii_uppercase}
use Rattle.plc_text.specs.Words.{opens, is_digit, is_binary_digit, is_octal_digit, is_hexadecimal_digit, is_number}
use Rattle.st_tree.specs.Pieces.{ends_first, is_comment, is_no_line_feed, is_pragma, are_spaced, are_split, is_bit_place, is_int, is_time, is_address, is_location, opens_one_of, is_point, are_parts, units}
use Rattle.st_lexer.specs.Private.Piece.{IsLongest}
use Rattle.st_lexer.specs.Private.Reach.{with_head, closing_from, block_len, line_len, comment_len, pragma_len, based_len, int_len, bit_len, wide_len, bit_with_width_len, location_len, address_len, timed_len, time_len}
use Rattle.st_lexer.proofs.HeadLaws.{with_head_some, IsHead, word_head, either_head, no_head, front_without, front_any, front_some, either}
use Rattle.st_lexer.proofs.RunLaws.{with_heads, nil_none, cons_none, cons_some, run_front, number_front, closing_front, digits_front}
use Rattle.st_lexer.proofs.PartLaws.{parts_front}

-- heads and tails that may not be empty

choose : (head tail : List ℕ → Bool) (k : ℕ) (text : List ℕ) (n : ℕ) → IsHead head k text → tail [] ≡ false → IsLongest tail (drop k text) n → IsLongest (λ front. head front && tail (drop k front)) text (cond (head text) (with_head k n) 0)
choose head tail k text n is empty front = elim (cases_Bool (head text)) [
  | inl holds ↦ rw (cond-true (head text) (with_head k n) 0 holds) (front_some head tail k text is n holds empty front)
  | inr fails ↦ rw (cond-false (head text) (with_head k n) 0 fails) (front_without head tail k text is fails)
]

-- comments and pragmas

pub closing_is : (mark : List ℕ) → 0 < length mark → (text : List ℕ) → IsLongest (ends_first mark) text (closing_from mark 0 text)
closing_is mark some text = let found = closing_front mark some 0 text in rw (found.1 ∙ whole found.0) found.2
  where
    whole : (n : ℕ) → with_head 0 n ≡ n
    whole zero = refl
    whole (suc n) = with_head_some 0 (suc n) (omega arith) ∙ omega arith

block_front : (head mark text : List ℕ) → 0 < length mark → IsLongest (λ front. opens head front && ends_first mark (drop (length head) front)) text (block_len head mark text)
block_front head mark text some = choose (opens head) (ends_first mark) (length head) text _ (word_head head text) refl (closing_is mark some _)

line_front : (text : List ℕ) → IsLongest (λ front. opens (codes "//") front && list_all is_no_line_feed (drop 2 front)) text (line_len text)
line_front text = elim (cases_Bool (opens (codes "//") text)) [
  | inl holds ↦ rw (cond-true (opens (codes "//") text) (2 + prefix_len is_no_line_feed (drop 2 text)) 0 holds)
      (front_any (opens (codes "//")) (list_all is_no_line_feed) 2 text (word_head (codes "//") text) _ holds (run_front is_no_line_feed (drop 2 text)) (λ e. refl))
  | inr fails ↦ rw (cond-false (opens (codes "//") text) (2 + prefix_len is_no_line_feed (drop 2 text)) 0 fails)
      (front_without (opens (codes "//")) (list_all is_no_line_feed) 2 text (word_head (codes "//") text) fails)
]

pub comment_front : (text : List ℕ) → IsLongest is_comment text (comment_len text)
unfolding is_comment
comment_front text =
    either _ _ text _ _ (block_front (codes "(*") (codes "*)") text (omega arith))
    (either _ _ text _ _ (block_front (codes "/*") (codes "*/") text (omega arith)) (line_front text))

pub pragma_front : (text : List ℕ) → IsLongest is_pragma text (pragma_len text)
unfolding is_pragma
pragma_front text = block_front (codes "{") (codes "}") text (omega arith)

-- numbers

based_front : (head : List ℕ) (test : ℕ → Bool) (text : List ℕ) → IsLongest (λ front. opens head front && are_spaced test false (drop (length head) front)) text (based_len head test text)
based_front head test text = choose (opens head) (are_spaced test false) (length head) text _ (word_head head text) refl (digits_front test _)

pub int_front : (text : List ℕ) → IsLongest is_int text (int_len text)
unfolding is_int
int_front text =
    either _ _ text _ _ (digits_front is_digit text)
    (either _ _ text _ _ (based_front (codes "2#") is_binary_digit text)
    (either _ _ text _ _ (based_front (codes "8#") is_octal_digit text) (based_front (codes "16#") is_hexadecimal_digit text)))

-- addresses

upper_point : (c : ℕ) → nat_eq (to_ascii_uppercase c) 46 ≡ is_point c
upper_point c = grind (arith, nat_tests)

and_true : (b : Bool) → (b && true) ≡ b
and_true true = refl
and_true false = refl

point_is : (c : ℕ) (cs : List ℕ) → opens (codes ".") (c ∷ cs) ≡ is_point c
point_is c cs = and_true (nat_eq (to_ascii_uppercase c) 46) ∙ upper_point c

-- what reaches behind digits, which may be missing where a digit stands before
abbrev behind_digits : Bool → ℕ → List ℕ → ℕ
behind_digits after digits text =
    cond (nat_eq digits 0 && not after) 0
    (cond (opens (codes ".") (drop digits text)) (with_head (digits + 1) (prefix_len is_digit (drop (digits + 1) text))) 0)

more_digits : (after : Bool) (c : ℕ) (cs : List ℕ) (digits : ℕ) → behind_digits after (suc digits) (c ∷ cs) ≡ with_head 1 (behind_digits true digits cs)
more_digits after c cs digits =
    cond-false (nat_eq (suc digits) 0 && not after) _ _ (and_left _ _ (ne_eqb (suc digits) 0 (λ e. omega arith)))
    ∙ inner (opens (codes ".") (drop digits cs))
    ∙ ap (with_head 1) (sym (cond-false (nat_eq digits 0 && false) _ _ (and_right _ _ refl)))
  where
    inner : (b : Bool) → cond b (with_head (suc digits + 1) (prefix_len is_digit (drop (suc digits + 1) (c ∷ cs)))) 0 ≡ with_head 1 (cond b (with_head (digits + 1) (prefix_len is_digit (drop (digits + 1) cs))) 0)
    inner true =
        (let e : suc digits + 1 ≡ suc (digits + 1) = omega arith in ap (λ n. with_head n (prefix_len is_digit (drop n (c ∷ cs)))) e)
        ∙ (let e : suc (digits + 1) ≡ 1 + (digits + 1) = omega arith in ap (λ n. with_head n (prefix_len is_digit (drop (digits + 1) cs))) e)
        ∙ sym (with_heads 1 (digits + 1) (prefix_len is_digit (drop (digits + 1) cs)))
    inner false = refl

pub split_front : (after : Bool) (text : List ℕ) → IsLongest (are_split after) text (behind_digits after (prefix_len is_digit text) text)
split_front true [] = nil_none _
split_front false [] = nil_none _
split_front after (c ∷ cs) = elim (cases_Bool (is_digit c)) [
  | inl digit ↦
      let e : prefix_len is_digit (c ∷ cs) ≡ suc (prefix_len is_digit cs) = cond-true (is_digit c) _ _ digit ∙ omega arith in
      rw (e, more_digits after c cs (prefix_len is_digit cs))
      (cons_some (are_split after) (are_split true) c cs _ (λ m w. cond-true (is_digit c) _ _ digit) refl (split_front true cs))
  | inr other ↦
      let e : prefix_len is_digit (c ∷ cs) ≡ 0 = cond-false (is_digit c) _ _ other in
      rw (e, point_is c cs) (point after (is_point c) refl other)
]
  where
    fails : (after point : Bool) → is_point c ≡ point → is_digit c ≡ false → (point && after) ≡ false → (m : ℕ) → m ≤ length cs → are_split after (c ∷ take m cs) ≡ false
    fails after point e other h m w = cond-false (is_digit c) _ _ other ∙ ap (λ b. b && (after && is_number (take m cs))) e ∙ stops point after _ h
      where
        stops : (a b x : Bool) → (a && b) ≡ false → (a && (b && x)) ≡ false
        stops a b x h = elim (and_cases a b h) [ inl p ↦ and_left _ _ p | inr p ↦ and_right _ _ (and_left _ _ p) ]

    point : (after point : Bool) → is_point c ≡ point → is_digit c ≡ false → IsLongest (are_split after) (c ∷ cs) (cond (not after) 0 (cond point (with_head 1 (prefix_len is_digit cs)) 0))
    point true true e other = cons_some (are_split true) is_number c cs _ (λ m w. cond-false (is_digit c) _ _ other ∙ ap (λ b. b && is_number (take m cs)) e) refl (number_front cs)
    point true false e other = cons_none (are_split true) c cs (fails true false e other refl)
    point false true e other = cons_none (are_split false) c cs (fails false true e other refl)
    point false false e other = cons_none (are_split false) c cs (fails false false e other refl)

pub bit_front : (text : List ℕ) → IsLongest is_bit_place text (bit_len text)
bit_front text = rw (same (nat_eq (prefix_len is_digit text) 0) _) (split_front false text)
  where
    same : (b : Bool) (n : ℕ) → cond b 0 n ≡ cond (b && true) 0 n
    same true n = refl
    same false n = refl

bit_with_width_front : (text : List ℕ) → IsLongest (λ front. opens (codes "X") front && is_bit_place (drop 1 front)) text (bit_with_width_len text)
bit_with_width_front text = choose (opens (codes "X")) is_bit_place 1 text _ (word_head (codes "X") text) refl (bit_front _)

wide_front : (text : List ℕ) → IsLongest (λ front. opens_one_of (codes "B" ∷ codes "W" ∷ codes "D" ∷ codes "L" ∷ []) front && is_number (drop 1 front)) text (wide_len text)
wide_front text = choose (opens_one_of (codes "B" ∷ codes "W" ∷ codes "D" ∷ codes "L" ∷ [])) is_number 1 text _
    (either_head _ _ 1 text (word_head (codes "B") text)
    (either_head _ _ 1 text (word_head (codes "W") text)
    (either_head _ _ 1 text (word_head (codes "D") text)
    (either_head _ _ 1 text (word_head (codes "L") text) (no_head 1 text))))) refl (number_front _)

pub location_front : (text : List ℕ) → IsLongest is_location text (location_len text)
unfolding is_location
location_front text = either _ _ text _ _ (bit_front text) (either _ _ text _ _ (bit_with_width_front text) (wide_front text))

no_location : is_location [] ≡ false
unfolding is_location
no_location = refl

pub address_front : (text : List ℕ) → IsLongest is_address text (address_len text)
unfolding is_address
address_front text = choose (opens_one_of (codes "%I" ∷ codes "%Q" ∷ codes "%M" ∷ [])) is_location 2 text _
    (either_head _ _ 2 text (word_head (codes "%I") text)
    (either_head _ _ 2 text (word_head (codes "%Q") text)
    (either_head _ _ 2 text (word_head (codes "%M") text) (no_head 2 text)))) no_location (location_front _)

-- times

timed_front : (head text : List ℕ) → IsLongest (λ front. opens head front && are_parts units (drop (length head) front)) text (timed_len head text)
timed_front head text = choose (opens head) (are_parts units) (length head) text _ (word_head head text) refl (parts_front _)

pub time_front : (text : List ℕ) → IsLongest is_time text (time_len text)
unfolding is_time
time_front text = either _ _ text _ _ (timed_front (codes "T#") text) (timed_front (codes "TIME#") text)

pub no_pragma_nil : (text : List ℕ) → length text ≡ 0 → is_pragma text ≡ false
unfolding is_pragma
no_pragma_nil [] e = refl
no_pragma_nil (c ∷ cs) e = absurd (omega arith)
