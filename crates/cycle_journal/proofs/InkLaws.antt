-- Texts of bytes above a number: fields are of bytes above the space (32), and lines of bytes above LF.
use Rattle.std.proofs.Common.{◌≡◌, ◌⊎◌, inl, inr, ⊎_elim, ℕ, zero, suc, ◌+◌, ◌%◌, ◌/◌, ◌<◌, ◌≤◌, Bool, true, false, ◌&&◌, ◌||◌, List, [], ◌∷◌, ◌++◌, refl, sym, subst, arith}
use Rattle.std.specs.Prelude.{codes, nat_lt, nat_eq, cond, not}
use Rattle.std.specs.Fmt.{decimal, digits, digits_onto, digit_glyph}
use Rattle.std.specs.List.{list_all, AllByRecursion}
use Rattle.std.specs.Str.{bytes_eq}
use Rattle.std.proofs.lemmas.Bool.{and_parts, false≢true, ltb-true, lt-ltb}
use Rattle.std.proofs.lemmas.Bool.Decides.{nat_tests}
use Rattle.std.proofs.lemmas.List.Sums.{list_all-from_AllPass}
use Rattle.std.proofs.lemmas.Slice.Eq.{bytes_eq-Decides}
use Rattle.hex.specs.Hex.{encode_lower, is_hex_digit, IsBytes}
use Rattle.hex.proofs.HexLemmas.{decode_of-encode_lower, decode_of-ok}
use Rattle.plc_text.specs.Code.{code_name}
use Rattle.plc_text.specs.Fault.{fault_name}
use Rattle.plc_text.specs.declared.code.Code.{Code}
use Rattle.plc_text.specs.declared.code.Code.TheVariants.{E01}
use Rattle.plc_text.specs.declared.fault.FaultKind.{FaultKind}
use Rattle.plc_text.specs.declared.fault.FaultKind.TheVariants.{Divide}
use Rattle.plc_text.specs.Text.{folded}
use Rattle.plc_text.specs.Words.{same, is_letter, is_word_character, is_word, is_upper_word}
use Rattle.st_tree.specs.Terminal.{is_keyword}
use Rattle.cycle_journal.specs.Writing.{image}
use Rattle.cycle_journal.specs.Fits.{is_declaration}
use Rattle.plc_text.proofs.LineLaws.{HoldsNo}

abbrev pub Above : ℕ → List ℕ → Type 0
Above n text = list_all (nat_lt n) text ≡ true

both_true : (a b : Bool) → a ≡ true → b ≡ true → (a && b) ≡ true
both_true true b h k = k
both_true false b h k = absurd (false≢true h)

one_true : (a b : Bool) → (a || b) ≡ true → (a ≡ true) ⊎ (b ≡ true)
one_true true b h = inl refl
one_true false b h = inr h

pub above_append : (n : ℕ) (xs ys : List ℕ) → Above n xs → Above n ys → Above n (xs ++ ys)
above_append n [] ys h k = k
above_append n (x ∷ xs) ys h k =
    let parts = and_parts (nat_lt n x) (list_all (nat_lt n) xs) h in
    both_true (nat_lt n x) (list_all (nat_lt n) (xs ++ ys)) parts.0 (above_append n xs ys parts.1 k)

-- no byte up to the number stands in such a text
pub above_no : (n c : ℕ) → c ≤ n → (text : List ℕ) → Above n text → HoldsNo c text
above_no n c l [] h = tt
above_no n c l (b ∷ text) h =
    let parts = and_parts (nat_lt n b) (list_all (nat_lt n) text) h in
    let above = ltb-true n b parts.0 in
    (λ e. omega (arith, e), above_no n c l text parts.1)

-- what passes another test of bytes
all_above : (n : ℕ) (p : ℕ → Bool) → ((b : ℕ) → p b ≡ true → n < b) → (text : List ℕ) → list_all p text ≡ true → Above n text
all_above n p f [] h = refl
all_above n p f (b ∷ text) h =
    let parts = and_parts (p b) (list_all p text) h in
    both_true (nat_lt n b) (list_all (nat_lt n) text) (lt-ltb n b (f b parts.0)) (all_above n p f text parts.1)

-- a field's bytes may stand in a line
pub above_less : (text : List ℕ) → Above 32 text → Above 31 text
above_less text h = all_above 31 (nat_lt 32) (λ b t. let l = ltb-true 32 b t in omega arith) text h

-- a number in decimal is a field
glyph_above : (d : ℕ) → d < 10 → nat_lt 32 (digit_glyph false d) ≡ true
glyph_above d h =
    let small = lt-ltb d 10 h in
    rw small (lt-ltb 32 (48 + d) (omega arith))

onto_above : (k n : ℕ) (rest : List ℕ) → Above 32 rest → Above 32 (digits_onto k 10 false n rest)
onto_above zero n rest h = h
onto_above (suc k) n rest h =
    let first = both_true (nat_lt 32 (digit_glyph false (n % 10))) (list_all (nat_lt 32) rest) (glyph_above (n % 10) (omega arith)) h in
    let P : List ℕ → Type 0 = λ text. Above 32 text in
    elim (nat_eq (n / 10) 0) as (λ b. P (cond b (digit_glyph false (n % 10) ∷ rest) (digits_onto k 10 false (n / 10) (digit_glyph false (n % 10) ∷ rest)))) [
      | true ↦ first
      | false ↦ onto_above k (n / 10) (digit_glyph false (n % 10) ∷ rest) first
    ]

pub decimal_above : (n : ℕ) → Above 32 (decimal n)
unfolding digits
decimal_above n = onto_above 64 n [] refl

-- a name is one
letter_above : (b : ℕ) → is_letter b ≡ true → 32 < b
letter_above b h = grind (arith, nat_tests)

character_above : (b : ℕ) → is_word_character b ≡ true → 32 < b
character_above b h = grind (arith, nat_tests)

word_above : (text : List ℕ) → is_word text ≡ true → Above 32 text
word_above [] h = absurd (false≢true h)
word_above (b ∷ text) h =
    let parts = and_parts (is_letter b) (list_all is_word_character text) h in
    both_true (nat_lt 32 b) (list_all (nat_lt 32) text) (lt-ltb 32 b (letter_above b parts.0)) (all_above 32 is_word_character character_above text parts.1)

pub name_above : (text : List ℕ) → is_upper_word text ≡ true → Above 32 text
name_above text h = word_above text (and_parts (is_word text) (same (folded text) text) h).0

-- a text of a name or a dash
pub declaration_above : (text : List ℕ) → is_declaration text ≡ true → Above 32 text
declaration_above text h =
    ⊎_elim (λ e. let same = (bytes_eq-Decides text (codes "-")).0 e in subst (Above 32) (sym same) refl)
    (λ e. name_above text (and_parts (is_upper_word text) (not (is_keyword text)) e).0)
    (one_true (bytes_eq text (codes "-")) (is_upper_word text && not (is_keyword text)) h)

-- a hexadecimal digit is above the space
hex_digit_above : (b : ℕ) → is_hex_digit b ≡ true → 32 < b
hex_digit_above b h = grind (arith, nat_tests)

-- a list whose elements are all bytes, seen place by place
pub IsBytes-from_all : (xs : List ℕ) → AllByRecursion (λ b. b < 256) xs → IsBytes xs
IsBytes-from_all [] h i = omega arith
IsBytes-from_all (x ∷ xs) h zero = h.0
IsBytes-from_all (x ∷ xs) h (suc i) = IsBytes-from_all xs h.1 i

hex_above : (xs : List ℕ) → IsBytes xs → Above 32 (encode_lower xs)
hex_above xs h =
    all_above 32 is_hex_digit hex_digit_above (encode_lower xs)
    (list_all-from_AllPass is_hex_digit (encode_lower xs) (decode_of-ok (encode_lower xs) xs (decode_of-encode_lower xs h)).1)

pub image_above : (xs : List ℕ) → AllByRecursion (λ b. b < 256) xs → Above 32 (image xs)
image_above [] h = refl
image_above (x ∷ xs) h = hex_above (x ∷ xs) (IsBytes-from_all (x ∷ xs) h)

pub code_above : (code : Code) → Above 32 (code_name code)
code_above E01 = refl
code_above _ = refl

pub fault_above : (kind : FaultKind) → Above 32 (fault_name kind)
fault_above Divide = refl
fault_above _ = refl
