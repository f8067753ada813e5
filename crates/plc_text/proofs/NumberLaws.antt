-- Numbers in decimal, read and written.
use Rattle.std.proofs.Common.{◌≡◌, ℕ, ◌+◌, ◌-◌, ◌*◌, ◌<◌, ◌^◌, Bool, true, false, ◌&&◌, fold, List, [], ◌∷◌, length, Option, Some, None, Result, Ok, Err, refl, sym, ap, ◌∙◌, arith, rules}
use Rattle.std.specs.Prelude.{OkIff, SomeIff, nat_lt, if◌then◌else◌}
use Rattle.std.specs.Fmt.{decimal}
use Rattle.std.specs.List.{list_all}
use Rattle.std.specs.Result.{result_ok}
use Rattle.std.proofs.lemmas.Bool.{and_parts, lt-ltb, ltb-true}
use Rattle.std.proofs.lemmas.Str.Parse.{IsNumeralModel, numerals_by_fold}
use Rattle.std.proofs.lemmas.Fmt.{decimal_nonempty, digits_decimal, digits_value-decimal}
use Rattle.plc_text.specs.Words.{is_digit, is_number}
use Rattle.plc_text.specs.Numbers.{number, IsNumber32, number_in}

-- digits and their number, as std reads them
pub numerals : IsNumeralModel (λ ds. list_all is_digit ds ≡ true) number
numerals = numerals_by_fold _ (search rules) (λ n ds. fold (λ m c. 10 * m + (c - 48)) n ds) (search rules)

pub all_digits : (word : List ℕ) → is_number word ≡ true → list_all is_digit word ≡ true
all_digits [] h = absurd cc
all_digits (c ∷ cs) h = h

is_number-from_digits : (digits : List ℕ) → 0 < length digits → list_all is_digit digits ≡ true → is_number digits ≡ true
is_number-from_digits [] l h = absurd (omega arith)
is_number-from_digits (c ∷ cs) l h = h

long : (word : List ℕ) → is_number word ≡ true → 0 < length word
long [] h = absurd cc
long (c ∷ cs) h = omega arith

-- what `parse` answers for digits is their number, if it is one of 32 bits
pub number-parse : {E : Type 0} (word : List ℕ) (r : Result ℕ E) → OkIff r ((0 < length word) × (number word < 2 ^ 32)) (number word) → is_number word ≡ true
    → SomeIff (result_ok r) (IsNumber32 word) (number word)
number-parse word (Ok n) h is = ((is, h.0.1), h.1)
number-parse word (Err e) h is = λ fits. h (long word is, fits.1)

-- the digits of a number stand for it
pub is_number-decimal : (n : ℕ) → n < 2 ^ 64 → is_number (decimal n) ≡ true
is_number-decimal n h = is_number-from_digits (decimal n) (decimal_nonempty n h) (digits_decimal numerals n h)

pub number-decimal : (n : ℕ) → n < 2 ^ 64 → number (decimal n) ≡ n
number-decimal n h = digits_value-decimal numerals n h

-- what `number` answers is the number in the word
some_where : {X : Type 0} (b : Bool) (x : X) → b ≡ true → (if b then Some x else None) ≡ Some x
some_where true x h = refl
some_where false x h = absurd cc

none_where_not : {X : Type 0} (b : Bool) (x : X) → (b ≡ true → ⊥) → (if b then Some x else None) ≡ None
none_where_not true x h = absurd (h refl)
none_where_not false x h = refl

both : (a b : Bool) → a ≡ true → b ≡ true → (a && b) ≡ true
both true b h k = k
both false b h k = absurd cc

is_number32 : (word : List ℕ) → (is_number word && nat_lt (number word) (2 ^ 32)) ≡ true → IsNumber32 word
is_number32 word h =
    let parts = and_parts (is_number word) (nat_lt (number word) (2 ^ 32)) h in
    (parts.0, ltb-true (number word) (2 ^ 32) parts.1)

pub number_in-is : (word : List ℕ) → IsNumber32 word → number_in word ≡ Some (number word)
unfolding number_in
number_in-is word h =
    some_where (is_number word && nat_lt (number word) (2 ^ 32)) (number word)
    (both (is_number word) (nat_lt (number word) (2 ^ 32)) h.0 (lt-ltb (number word) (2 ^ 32) h.1))

pub number_in-not : (word : List ℕ) → (IsNumber32 word → ⊥) → number_in word ≡ None
unfolding number_in
number_in-not word h = none_where_not (is_number word && nat_lt (number word) (2 ^ 32)) (number word) (λ e. h (is_number32 word e))

pub number_in-from : (word : List ℕ) (r : Option ℕ) → SomeIff r (IsNumber32 word) (number word) → number_in word ≡ r
number_in-from word (Some n) h = number_in-is word h.0 ∙ ap Some (sym h.1)
number_in-from word None h = number_in-not word h

some_only : {X : Type 0} (b : Bool) (x y : X) → (if b then Some x else None) ≡ Some y → (b ≡ true) × (x ≡ y)
some_only true x y h = (refl, cc)
some_only false x y h = absurd cc

pub number_in-some : (word : List ℕ) (n : ℕ) → number_in word ≡ Some n → IsNumber32 word × (n ≡ number word)
unfolding number_in
number_in-some word n h =
    let is = some_only (is_number word && nat_lt (number word) (2 ^ 32)) (number word) n h in
    (is_number32 word is.0, sym is.1)

-- a number in decimal is read as itself
pub number_in-decimal : (n : ℕ) → n < 2 ^ 32 → number_in (decimal n) ≡ Some n
number_in-decimal n h =
    let is = is_number-decimal n (omega arith) in
    let value = number-decimal n (omega arith) in
    number_in-is (decimal n) (is, rw value h) ∙ ap Some value
