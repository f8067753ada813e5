-- Only the address of a single bit has a number behind a point.
use Rattle.std.proofs.Common.{◌≡◌, ℕ, zero, suc, ◌+◌, Bool, true, false, List, [], ◌∷◌, drop, Some, None, refl, sym, ap, ◌∙◌, subst, inl, inr, arith}
use Rattle.std.specs.Prelude.{◌⊎◌, ◌&&◌, ◌||◌, nat_eq, nat_lt, codes, cond, if◌then◌else◌}
use Rattle.std.specs.Char.{to_ascii_uppercase}
use Rattle.std.specs.List.{list_all, prefix_len}
use Rattle.std.proofs.lemmas.Bool.{and_parts, both_ways}
use Rattle.std.proofs.lemmas.Bool.Decides.{nat_tests}
use Rattle.plc_text.specs.Text.{folded}
use Rattle.plc_text.specs.Words.{opens, is_digit, is_number, is_word}
use Rattle.st_tree.specs.declared.address.Width.{Width}
use Rattle.st_tree.specs.declared.address.Width.TheVariants as width
use Rattle.st_tree.specs.declared.token.TokenKind.TheVariants.{Word, Keyword, Int, Time, Address, Symbol, Mark}
use Rattle.st_tree.specs.Address.{behind_width, is_no_point}
use Rattle.st_tree.specs.Number.{digits_value}
use Rattle.st_tree.specs.Marks.{is_mark}
use Rattle.st_tree.specs.Pieces.{is_white_space, is_comment, is_pragma, is_int, is_time, is_point, are_split, is_bit_place, opens_one_of, is_location, is_address}
use Rattle.st_tree.specs.Terminal.{is_keyword}
use Rattle.st_tree.specs.Token.{piece_kind}
use Rattle.accepted_texts.specs.formed_units.Formed.{FormedAddress}

-- ---- characters

-- a letter is no digit, in upper case neither
no_digit : (c x : ℕ) → nat_lt 57 x ≡ true → nat_eq (to_ascii_uppercase c) x ≡ true → is_digit c ≡ false
no_digit c x l h = grind (arith, nat_tests)

upper_digit : (c : ℕ) → is_digit c ≡ true → is_digit (to_ascii_uppercase c) ≡ true
upper_digit c h = grind (arith, nat_tests)

no_point : (c : ℕ) → is_digit c ≡ true → is_no_point (to_ascii_uppercase c) ≡ true
no_point c h = grind (arith, nat_tests)

letter_is : (c x : ℕ) → nat_eq x 88 ≡ false → nat_eq (to_ascii_uppercase (to_ascii_uppercase c)) x ≡ true → nat_eq (to_ascii_uppercase c) 88 ≡ false
letter_is c x n h = grind (arith, nat_tests)

-- ---- what stands behind the area

abbrev width_in : List ℕ → Width
width_in rest =
    if opens (codes "B") rest then width.Byte
    else if opens (codes "W") rest then width.Word
    else if opens (codes "D") rest then width.DoubleWord
    else if opens (codes "L") rest then width.LongWord
    else width.Bit

abbrev bit_in : List ℕ → ℕ
bit_in location = digits_value 10 (drop (prefix_len is_no_point location + 1) location)

abbrev FormedRest : List ℕ → Type 0
FormedRest rest = (width_in rest ≡ width.Bit) ⊎ (bit_in (behind_width rest) ≡ 0)

-- no point stands among digits
all_digits : (cs : List ℕ) → list_all is_digit cs ≡ true → drop (prefix_len is_no_point (folded cs) + 1) (folded cs) ≡ []
all_digits [] e = refl
all_digits (d ∷ ds) e =
    let b = and_parts (is_digit d) (list_all is_digit ds) e in
    let n = prefix_len is_no_point (folded ds) in
    let q : 1 + n + 1 ≡ suc (n + 1) = omega arith in
    ap (λ z. drop (cond z (1 + n) 0 + 1) (folded (d ∷ ds))) (no_point d b.0) ∙ (ap (λ k. drop k (folded (d ∷ ds))) q ∙ all_digits ds b.1)

number_digits : (cs : List ℕ) → is_number cs ≡ true → list_all is_digit cs ≡ true
number_digits [] e = absurd (both_ways false refl e)
number_digits (d ∷ ds) e = e

module _ (c : ℕ) (cs : List ℕ) where
  abbrev upper : ℕ
  upper = to_ascii_uppercase c

  not_digit : (x : ℕ) → nat_lt 57 x ≡ true → nat_eq (to_ascii_uppercase upper) x ≡ true → is_digit c ≡ false
  not_digit x l h = by (is_digit c) refl
    where
      by : (b : Bool) → is_digit c ≡ b → b ≡ false
      by false q = refl
      by true q = absurd (both_ways (is_digit upper) (no_digit upper x l h) (upper_digit c q))

  split_none : is_digit c ≡ false → is_bit_place (c ∷ cs) ≡ false
  split_none h = ap (λ b. if b then are_split true cs else (is_point c && false)) h ∙ never (is_point c)
    where
      never : (b : Bool) → (b && false) ≡ false
      never true = refl
      never false = refl

  -- behind a letter of a width stand digits alone
  wide : (x : ℕ) → nat_lt 57 x ≡ true → nat_eq x 88 ≡ false → nat_eq (to_ascii_uppercase upper) x ≡ true → is_location (c ∷ cs) ≡ true → bit_in (behind_width (folded (c ∷ cs))) ≡ 0
  unfolding is_location
  wide x l m h e =
      let digit = no_digit upper x l h in
      let plain = split_none (not_digit x l h) in
      let one : opens (codes "X") (c ∷ cs) ≡ false = ap (λ b. b && true) (letter_is c x m h) in
      let rest = opens_one_of (codes "B" ∷ codes "W" ∷ codes "D" ∷ codes "L" ∷ []) (c ∷ cs) in
      let number : (rest && is_number cs) ≡ true = sym (ap (λ b. b || (opens (codes "X") (c ∷ cs) && is_bit_place cs || rest && is_number cs)) plain ∙ ap (λ b. b && is_bit_place cs || rest && is_number cs) one) ∙ e in
      ap (λ b. bit_in (if b then folded (c ∷ cs) else folded cs)) digit ∙ ap (digits_value 10) (all_digits cs (number_digits cs (and_parts rest (is_number cs) number).1))

  rest_formed : is_location (c ∷ cs) ≡ true → FormedRest (folded (c ∷ cs))
  rest_formed e = by (nat_eq (to_ascii_uppercase upper) 66) (nat_eq (to_ascii_uppercase upper) 87) (nat_eq (to_ascii_uppercase upper) 68) (nat_eq (to_ascii_uppercase upper) 76) refl refl refl refl
    where
      by : (b w d l : Bool) → nat_eq (to_ascii_uppercase upper) 66 ≡ b → nat_eq (to_ascii_uppercase upper) 87 ≡ w → nat_eq (to_ascii_uppercase upper) 68 ≡ d → nat_eq (to_ascii_uppercase upper) 76 ≡ l
          → ((if b && true then width.Byte else if w && true then width.Word else if d && true then width.DoubleWord else if l && true then width.LongWord else width.Bit) ≡ width.Bit) ⊎ (bit_in (behind_width (folded (c ∷ cs))) ≡ 0)
      by true w d l p q r s = inr (wide 66 refl refl p e)
      by false true d l p q r s = inr (wide 87 refl refl q e)
      by false false true l p q r s = inr (wide 68 refl refl r e)
      by false false false true p q r s = inr (wide 76 refl refl s e)
      by false false false false p q r s = inl refl

location_formed : (rest : List ℕ) → is_location rest ≡ true → FormedRest (folded rest)
location_formed [] e = inr refl
location_formed (c ∷ cs) e = rest_formed c cs e

-- ---- addresses

folded_drop : (n : ℕ) (text : List ℕ) → folded (drop n text) ≡ drop n (folded text)
folded_drop zero text = refl
folded_drop (suc n) [] = refl
folded_drop (suc n) (c ∷ cs) = folded_drop n cs

address_formed : (text : List ℕ) → is_address text ≡ true → FormedAddress (folded text)
unfolding is_address
address_formed text e = subst FormedRest (folded_drop 2 text) (location_formed (drop 2 text) (and_parts _ (is_location (drop 2 text)) e).1)

-- what a piece is that is an address
piece_is_address : (piece : List ℕ) → piece_kind piece ≡ Some Address → is_address piece ≡ true
unfolding piece_kind
piece_is_address piece e = by (is_white_space piece || is_comment piece) (is_pragma piece) (is_mark piece) (is_int piece) (is_time piece) (is_address piece) (is_word piece) (is_keyword piece) e
  where
    by : (passed pragma mark int time address word key : Bool)
        → (if passed then None
        else if pragma then (if mark then Some Mark else None)
        else if int then Some Int
        else if time then Some Time
        else if address then Some Address
        else if word then Some (if key then Keyword else Word)
        else Some Symbol) ≡ Some Address → address ≡ true
    by true p m i t a w k e = cc
    by false true true i t a w k e = cc
    by false true false i t a w k e = cc
    by false false m true t a w k e = cc
    by false false m false true a w k e = cc
    by false false m false false true w k e = refl
    by false false m false false false true true e = cc
    by false false m false false false true false e = cc
    by false false m false false false false k e = cc

pub piece_formed : (piece : List ℕ) → piece_kind piece ≡ Some Address → FormedAddress (folded piece)
piece_formed piece e = address_formed piece (piece_is_address piece e)
