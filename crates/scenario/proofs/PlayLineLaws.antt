-- What is read from a line is the play whose line it is.
use Rattle.std.proofs.Common.{◌≡◌, ◌≢◌, ◌⊎◌, inl, inr, ⊎_elim, ℕ, ◌≤◌, Bool, true, false, ◌&&◌, List, [], ◌∷◌, ◌++◌, length, drop, Option, Some, None, Result, Ok, Err, refl, sym, ap, ◌∙◌, subst, arith, append_assoc}
use Rattle.std.specs.Prelude.{codes, nat_eq, nat_le, if◌then◌else◌}
use Rattle.std.specs.List.{list_all, starts_with}
use Rattle.std.specs.Result.{result_ok}
use Rattle.std.proofs.lemmas.Bool.{and_parts, false≢true, leb-true}
use Rattle.std.proofs.lemmas.Bool.Decides.{nat_tests, Decides-eqb}
use Rattle.std.proofs.lemmas.Slice.Eq.{bytes_eq-Decides, starts_is}
use Rattle.hex.specs.Hex.{decode_of}
use Rattle.hex.proofs.HexLemmas.{decode_of-ok}
use Rattle.plc_text.specs.Fields.{first_field, behind_field}
use Rattle.plc_text.specs.Numbers.{number, IsNumber32, number_in}
use Rattle.plc_text.specs.Text.{folded}
use Rattle.plc_text.specs.Words.{same, is_digit, is_letter, is_word_character, is_word, is_number}
use Rattle.plc_text.proofs.FieldLaws.{first_field-space, behind_field-space}
use Rattle.plc_text.proofs.LineLaws.{HoldsNo}
use Rattle.plc_text.proofs.NumberLaws.{number_in-is, number_in-some}
use Rattle.st_names.specs.Names.{IsAt, AreDistinct}
use Rattle.cycle_journal.specs.declared.play.Play.{Play}
use Rattle.cycle_journal.specs.declared.play.Play.TheVariants.{Cycle, Change, Reset}
use Rattle.scenario.specs.Reading.{IsInput, IsPlayLine}
use Rattle.scenario.specs.Private.PlayLine.{◌>>=◌, place_of, bytes_in, input_in, cycle_at, cycle_in, change_in, reset_in, play_in}
use Rattle.scenario.proofs.PlaceLaws.{place_of-at, place_of-some}

-- readings that gave something
pub bound : {X Y : Type 0} (r : Option X) (f : X → Option Y) (y : Y) → (r >>= f) ≡ Some y → (x : X) × (r ≡ Some x) × (f x ≡ Some y)
bound None f y e = absurd cc
bound (Some x) f y e = (x, refl, e)

pub chosen : {X : Type 0} (b : Bool) (r : Option X) (x : X) → (if b then r else None) ≡ Some x → (b ≡ true) × (r ≡ Some x)
chosen true r x e = (refl, e)
chosen false r x e = absurd cc

some_ok : {X E : Type 0} (r : Result X E) (x : X) → result_ok r ≡ Some x → r ≡ Ok x
some_ok (Ok y) x e = let same : y ≡ x = cc in ap Ok same
some_ok (Err d) x e = absurd cc

-- words and numbers hold no space
all_unspaced : (p : ℕ → Bool) → ((b : ℕ) → p b ≡ true → b ≢ 32) → (text : List ℕ) → list_all p text ≡ true → HoldsNo 32 text
all_unspaced p f [] h = tt
all_unspaced p f (b ∷ text) h =
    let parts = and_parts (p b) (list_all p text) h in
    (f b parts.0, all_unspaced p f text parts.1)

character_apart : (b : ℕ) → is_word_character b ≡ true → b ≢ 32
character_apart b h e = grind (arith, nat_tests)

letter_apart : (b : ℕ) → is_letter b ≡ true → b ≢ 32
letter_apart b h e = grind (arith, nat_tests)

digit_apart : (b : ℕ) → is_digit b ≡ true → b ≢ 32
digit_apart b h e = grind (arith, nat_tests)

word_unspaced : (text : List ℕ) → is_word text ≡ true → HoldsNo 32 text
word_unspaced [] h = absurd cc
word_unspaced (b ∷ text) h =
    let parts = and_parts (is_letter b) (list_all is_word_character text) h in
    (letter_apart b parts.0, all_unspaced is_word_character character_apart text parts.1)

number_unspaced : (text : List ℕ) → is_number text ≡ true → HoldsNo 32 text
number_unspaced [] h = absurd cc
number_unspaced (b ∷ text) h =
    let parts = and_parts (is_digit b) (list_all is_digit text) h in
    (digit_apart b parts.0, all_unspaced is_digit digit_apart text parts.1)

-- a line is its first field, a space and what stands behind it, or nothing stands behind it
abbrev IsSplit : List ℕ → List ℕ → List ℕ → Type 0
IsSplit line first behind = (line ≡ first ++ 32 ∷ behind) ⊎ (behind ≡ [])

split_further : (b : ℕ) (line first behind : List ℕ) → IsSplit line first behind → IsSplit (b ∷ line) (b ∷ first) behind
split_further b line first behind s = ⊎_elim (λ (e : line ≡ first ++ 32 ∷ behind). inl (ap (λ rest. b ∷ rest) e)) inr s

split_at : (b : ℕ) (line first behind : List ℕ) (is : Bool) → nat_eq b 32 ≡ is → IsSplit line first behind
    → IsSplit (b ∷ line) (if is then [] else b ∷ first) (if is then line else behind)
split_at b line first behind true e s =
    let space : b ≡ 32 = grind (arith, nat_tests) in
    inl (ap (λ (x : ℕ). x ∷ line) space)
split_at b line first behind false e s = split_further b line first behind s

is_split : (line : List ℕ) → IsSplit line (first_field line) (behind_field line)
is_split [] = inr refl
is_split (b ∷ line) = split_at b line (first_field line) (behind_field line) (nat_eq b 32) refl (is_split line)

pub split_whole : (line : List ℕ) → behind_field line ≢ [] → line ≡ first_field line ++ 32 ∷ behind_field line
split_whole line some = ⊎_elim (λ e. e) (λ none. absurd (some none)) (is_split line)

-- inputs
within : (n : ℕ) → 1 ≤ n → n ≤ 512 → (nat_le 1 n && nat_le n 512) ≡ true
within n l k = grind (arith, nat_tests)

bytes_in-is : (field : List ℕ) (b : ℕ) (bytes : List ℕ) → decode_of field ≡ Ok (b ∷ bytes) → length (b ∷ bytes) ≤ 256 → bytes_in field ≡ Some (b ∷ bytes)
unfolding bytes_in
bytes_in-is field b bytes e l =
    let long = (decode_of-ok field (b ∷ bytes) e).2 in
    let fits = within (length field) (omega (arith, long)) (omega (arith, long)) in
    rw (fits, e)

other_than_dash : (field : List ℕ) (b : ℕ) (bytes : List ℕ) → decode_of field ≡ Ok (b ∷ bytes) → (is : Bool) → same field (codes "-") ≡ is → is ≡ false
other_than_dash field b bytes e false h = refl
other_than_dash field b bytes e true h =
    let dash = (bytes_eq-Decides field (codes "-")).0 h in
    let long = (decode_of-ok field (b ∷ bytes) e).2 in
    absurd (omega (arith, long, ap length dash))

pub input_in-is : (field input : List ℕ) → IsInput field input → input_in field ≡ Some input
unfolding input_in
input_in-is field [] h = ap input_in h
input_in-is field (b ∷ bytes) h =
    let apart = other_than_dash field b bytes h.0 (same field (codes "-")) refl in
    rw apart (bytes_in-is field b bytes h.0 h.1)

decoded : (field input : List ℕ) → 1 ≤ length field → length field ≤ 512 → decode_of field ≡ Ok input → IsInput field input
decoded field [] l k e = let long = (decode_of-ok field [] e).2 in absurd (omega (arith, long))
decoded field (b ∷ bytes) l k e = let long = (decode_of-ok field (b ∷ bytes) e).2 in (e, omega (arith, long))

bytes_in-some : (field input : List ℕ) → bytes_in field ≡ Some input → IsInput field input
unfolding bytes_in
bytes_in-some field input e =
    let is = chosen (nat_le 1 (length field) && nat_le (length field) 512) (result_ok (decode_of field)) input e in
    let parts = and_parts (nat_le 1 (length field)) (nat_le (length field) 512) is.0 in
    decoded field input (leb-true 1 (length field) parts.0) (leb-true (length field) 512 parts.1) (some_ok (decode_of field) input is.1)

dash_or_bytes : (field input : List ℕ) (is : Bool) → same field (codes "-") ≡ is → (if is then Some [] else bytes_in field) ≡ Some input → IsInput field input
dash_or_bytes field [] true h e = (bytes_eq-Decides field (codes "-")).0 h
dash_or_bytes field (b ∷ bytes) true h e = absurd cc
dash_or_bytes field input false h e = bytes_in-some field input e

pub input_in-some : (field input : List ℕ) → input_in field ≡ Some input → IsInput field input
unfolding input_in
input_in-some field input e = dash_or_bytes field input (same field (codes "-")) refl e

-- a play's line is read as the play
cycle_fields : (name digits hex : List ℕ) → (((name ++ codes " ") ++ digits) ++ codes " ") ++ hex ≡ name ++ 32 ∷ (digits ++ 32 ∷ hex)
cycle_fields name digits hex = simp append_assoc

cycle_at-is : (task digits hex input : List ℕ) → IsNumber32 digits → input_in hex ≡ Some input → cycle_at task (digits ++ 32 ∷ hex) ≡ Some (Cycle task (number digits) input)
unfolding cycle_at
cycle_at-is task digits hex input n i =
    let first = first_field-space digits hex (number_unspaced digits n.0) in
    let behind = behind_field-space digits hex (number_unspaced digits n.0) in
    let now = number_in-is digits n in
    rw (first, behind, now, i)

cycle_in-is : (name digits hex input : List ℕ) → is_word name ≡ true → IsNumber32 digits → input_in hex ≡ Some input
    → cycle_in (name ++ 32 ∷ (digits ++ 32 ∷ hex)) ≡ Some (Cycle (folded name) (number digits) input)
unfolding cycle_in
cycle_in-is name digits hex input w n i =
    let first = first_field-space name (digits ++ 32 ∷ hex) (word_unspaced name w) in
    let behind = behind_field-space name (digits ++ 32 ∷ hex) (word_unspaced name w) in
    rw (first, behind, w) (cycle_at-is (folded name) digits hex input n i)

change_in-is : (sources : List (List ℕ × List ℕ)) (name : List ℕ) (n : ℕ) → AreDistinct sources → is_word name ≡ true → IsAt sources n (folded name)
    → change_in sources name ≡ Some (Change (folded name) n)
unfolding change_in
change_in-is sources name n distinct w at =
    let place = place_of-at sources n (folded name) distinct at in
    rw (w, place)

reset_in-is : (name : List ℕ) → is_word name ≡ true → reset_in name ≡ Some (Reset (folded name))
unfolding reset_in
reset_in-is name w = rw w

pub play_in-is : (sources : List (List ℕ × List ℕ)) (line : List ℕ) (play : Play) → AreDistinct sources → IsPlayLine sources line play → play_in sources line ≡ Some play
unfolding play_in
play_in-is sources line (Cycle task now input) distinct h =
    ap (play_in sources) h.3 ∙ ap cycle_in (cycle_fields h.0 h.1 h.2) ∙ cycle_in-is h.0 h.1 h.2 input h.4 h.6 (input_in-is h.2 input h.8)
    ∙ ap (λ (t : List ℕ). Some (Cycle t (number h.1) input)) (sym h.5) ∙ ap (λ (n : ℕ). Some (Cycle task n input)) (sym h.7)
play_in-is sources line (Change source n) distinct h =
    ap (play_in sources) h.1 ∙ change_in-is sources h.0 n distinct h.2 (subst (λ (s : List ℕ). IsAt sources n s) h.3 h.4)
    ∙ ap (λ (s : List ℕ). Some (Change s n)) (sym h.3)
play_in-is sources line (Reset task) distinct h =
    ap (play_in sources) h.1 ∙ reset_in-is h.0 h.2 ∙ ap (λ (t : List ℕ). Some (Reset t)) (sym h.3)

-- what is read is the line's play
nothing_behind : (text : List ℕ) (n : ℕ) → number_in (first_field text) ≡ Some n → text ≢ []
nothing_behind text n e none =
    let small = (number_in-some (first_field text) n e).0.0 in
    let empty : first_field text ≡ [] = ap first_field none in
    let wrong : false ≡ true = subst (λ (t : List ℕ). is_number t ≡ true) empty small in
    false≢true wrong

no_input : (field input : List ℕ) → input_in field ≡ Some input → field ≢ []
no_input field input e none = let is = input_in-some field input e in some_field field input is none
  where
    some_field : (field input : List ℕ) → IsInput field input → field ≢ []
    some_field field [] is none = let dash : codes "-" ≡ [] = sym is ∙ none in cc
    some_field field (b ∷ bytes) is none = let long = (decode_of-ok field (b ∷ bytes) is.0).2 in omega (arith, long, ap length none)

cycle_line : (sources : List (List ℕ × List ℕ)) (line text : List ℕ) (play : Play) → line ≡ codes "cycle " ++ text → cycle_in text ≡ Some play → IsPlayLine sources line play
unfolding cycle_in cycle_at
cycle_line sources line text play e r =
    let word = chosen (is_word (first_field text)) (cycle_at (folded (first_field text)) (behind_field text)) play r in
    let rest = behind_field text in
    let task = folded (first_field text) in
    let now = bound (number_in (first_field rest)) (λ n. input_in (behind_field rest) >>= λ input. Some (Cycle task n input)) play word.1 in
    let input = bound (input_in (behind_field rest)) (λ i. Some (Cycle task now.0 i)) play now.2 in
    let is : Cycle task now.0 input.0 ≡ play = cc in
    let small = number_in-some (first_field rest) now.0 now.1 in
    let text_is = split_whole text (nothing_behind rest now.0 now.1) in
    let rest_is = split_whole rest (no_input (behind_field rest) input.0 input.1) in
    let fields = e ∙ ap (λ (t : List ℕ). codes "cycle " ++ t) (text_is ∙ ap (λ (t : List ℕ). first_field text ++ 32 ∷ t) rest_is ∙ sym (cycle_fields (first_field text) (first_field rest) (behind_field rest))) in
    subst (IsPlayLine sources line) is
    (first_field text, first_field rest, behind_field rest, fields, word.0, refl, small.0, small.1, input_in-some (behind_field rest) input.0 input.1)

change_line : (sources : List (List ℕ × List ℕ)) (line name : List ℕ) (play : Play) → line ≡ codes "change " ++ name → change_in sources name ≡ Some play → IsPlayLine sources line play
unfolding change_in
change_line sources line name play e r =
    let word = chosen (is_word name) (place_of sources (folded name) >>= λ n. Some (Change (folded name) n)) play r in
    let place = bound (place_of sources (folded name)) (λ n. Some (Change (folded name) n)) play word.1 in
    let is : Change (folded name) place.0 ≡ play = cc in
    subst (IsPlayLine sources line) is (name, e, word.0, refl, place_of-some sources (folded name) place.0 place.1)

reset_line : (sources : List (List ℕ × List ℕ)) (line name : List ℕ) (play : Play) → line ≡ codes "reset " ++ name → reset_in name ≡ Some play → IsPlayLine sources line play
unfolding reset_in
reset_line sources line name play e r =
    let word = chosen (is_word name) (Some (Reset (folded name))) play r in
    let is : Reset (folded name) ≡ play = cc in
    subst (IsPlayLine sources line) is (name, e, word.0, refl)

begun_so : (line front : List ℕ) → starts_with nat_eq line front ≡ true → line ≡ front ++ drop (length front) line
begun_so line front e = (starts_is Decides-eqb line front (starts_with nat_eq line front) refl).0 e

by_front : (sources : List (List ℕ × List ℕ)) (line : List ℕ) (play : Play) (cycle change reset : Bool)
    → starts_with nat_eq line (codes "cycle ") ≡ cycle → starts_with nat_eq line (codes "change ") ≡ change → starts_with nat_eq line (codes "reset ") ≡ reset
    → (if cycle then cycle_in (drop 6 line) else if change then change_in sources (drop 7 line) else if reset then reset_in (drop 6 line) else None) ≡ Some play
    → IsPlayLine sources line play
by_front sources line play true change reset c h r e = cycle_line sources line (drop 6 line) play (begun_so line (codes "cycle ") c) e
by_front sources line play false true reset c h r e = change_line sources line (drop 7 line) play (begun_so line (codes "change ") h) e
by_front sources line play false false true c h r e = reset_line sources line (drop 6 line) play (begun_so line (codes "reset ") r) e
by_front sources line play false false false c h r e = absurd cc

pub play_in-some : (sources : List (List ℕ × List ℕ)) (line : List ℕ) (play : Play) → play_in sources line ≡ Some play → IsPlayLine sources line play
unfolding play_in
play_in-some sources line play e =
    by_front sources line play (starts_with nat_eq line (codes "cycle ")) (starts_with nat_eq line (codes "change ")) (starts_with nat_eq line (codes "reset ")) refl refl refl e
