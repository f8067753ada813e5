-- A text is its lines, and a line of a text holds no LF.
use Rattle.std.proofs.Common.{◌≡◌, ◌≢◌, ℕ, suc, ◌-◌, ◌<◌, ◌≤◌, eqb, Bool, true, false, List, [], ◌∷◌, ◌++◌, length, map, take, get_or, refl, sym, ap, ◌∙◌, subst, arith, append_assoc, length-append}
use Rattle.std.specs.Prelude.{nat_eq, if◌then◌else◌}
use Rattle.std.proofs.lemmas.Bool.Decides.{nat_tests}
use Rattle.std.proofs.lemmas.List.{append-nil}
use Rattle.std.proofs.lemmas.List.Elements.{recursion_from_All, All-from_get_or}
use Rattle.std.specs.List.{AllByRecursion, flat_map}
use Rattle.plc_text.specs.Lines.{lines_of, begun_with, ended, text_of, FirstBad}

-- the text of lines that are made of items, and of one more
pub text_of-last : {X : Type 0} (line : X → List ℕ) (xs : List X) (last : List ℕ)
    → text_of (map line xs ++ last ∷ []) ≡ flat_map (λ x. ended (line x)) xs ++ ended last
text_of-last line [] last = append-nil (ended last)
text_of-last line (x ∷ xs) last =
    ap (λ rest. ended (line x) ++ rest) (text_of-last line xs last) ∙ sym (append_assoc (ended (line x)) _ (ended last))

-- the byte stands nowhere in these
abbrev pub HoldsNo : ℕ → List ℕ → Type 0
HoldsNo c bytes = AllByRecursion (λ b. b ≢ c) bytes

pub HoldsNo-from_places : (c : ℕ) (bytes : List ℕ) → ((i : ℕ) → i < length bytes → get_or bytes i 0 ≢ c) → HoldsNo c bytes
HoldsNo-from_places c bytes h =
    let P : ℕ → Type 0 = λ b. b ≢ c in
    recursion_from_All P bytes (All-from_get_or P bytes 0 h)

differs : (a b : ℕ) → a ≢ b → eqb a b ≡ false
differs a b h = grind (arith, nat_tests)

pub lines_of-ended : (line rest : List ℕ) → HoldsNo 10 line → lines_of (line ++ 10 ∷ rest) ≡ line ∷ lines_of rest
lines_of-ended [] rest h = refl
lines_of-ended (b ∷ line) rest h =
    let no = differs b 10 h.0 in
    rw no (ap (begun_with b) (lines_of-ended line rest h.1))

pub lines_of-last : (b : ℕ) (line : List ℕ) → HoldsNo 10 (b ∷ line) → lines_of (b ∷ line) ≡ (b ∷ line) ∷ []
lines_of-last b [] h =
    let no = differs b 10 h.0 in
    rw no
lines_of-last b (c ∷ line) h =
    let no = differs b 10 h.0 in
    rw no (ap (begun_with b) (lines_of-last c line h.1))

pub lines_of-unended : (line : List ℕ) → 0 < length line → HoldsNo 10 line → lines_of line ≡ line ∷ []
lines_of-unended [] l h = absurd (omega arith)
lines_of-unended (b ∷ line) l h = lines_of-last b line h

-- ended lines in which LF does not stand are the lines of their text
pub lines_of-text_of : (lines : List (List ℕ)) → AllByRecursion (HoldsNo 10) lines → lines_of (text_of lines) ≡ lines
lines_of-text_of [] h = refl
lines_of-text_of (line ∷ lines) h =
    ap lines_of (append_assoc line (10 ∷ []) (text_of lines)) ∙ lines_of-ended line (text_of lines) h.0 ∙ ap (λ ls. line ∷ ls) (lines_of-text_of lines h.1)

-- a text that LF ends is the text of its lines
text_of-begun : (b : ℕ) (lines : List (List ℕ)) (text : List ℕ) → text_of lines ≡ text → 0 < length text → text_of (begun_with b lines) ≡ b ∷ text
text_of-begun b [] text e l = let none : text ≡ [] = sym e in absurd (omega (arith, ap length none))
text_of-begun b (line ∷ lines) text e l = ap (λ t. b ∷ t) e

begin_line : (b : ℕ) (lines : List (List ℕ)) (text : List ℕ) → text_of lines ≡ text → 0 < length text → (is : Bool) → nat_eq b 10 ≡ is
    → text_of (if is then [] ∷ lines else begun_with b lines) ≡ b ∷ text
begin_line b lines text e l true t =
    let same : 10 ≡ b = grind (arith, nat_tests) in
    ap (λ rest. 10 ∷ rest) e ∙ ap (λ (x : ℕ). x ∷ text) same
begin_line b lines text e l false t = text_of-begun b lines text e l

pub text_of-lines_of : (front : List ℕ) → text_of (lines_of (front ++ 10 ∷ [])) ≡ front ++ 10 ∷ []
text_of-lines_of [] = refl
text_of-lines_of (b ∷ front) =
    let rest = text_of-lines_of front in
    let long : 0 < length (front ++ 10 ∷ []) = omega (arith, length-append front (10 ∷ [])) in
    begin_line b (lines_of (front ++ 10 ∷ [])) (front ++ 10 ∷ []) rest long (nat_eq b 10) refl

-- a text has no more lines than bytes
begun_few : (b : ℕ) (lines : List (List ℕ)) → length (begun_with b lines) ≤ suc (length lines)
begun_few b [] = omega arith
begun_few b (line ∷ lines) = omega arith

lines_few_from : (b : ℕ) (lines : List (List ℕ)) (n : ℕ) → length lines ≤ n → (is : Bool) → length (if is then [] ∷ lines else begun_with b lines) ≤ suc n
lines_few_from b lines n l true = omega arith
lines_few_from b lines n l false = omega (arith, begun_few b lines)

pub lines_few : (text : List ℕ) → length (lines_of text) ≤ length text
lines_few [] = omega arith
lines_few (b ∷ text) = lines_few_from b (lines_of text) (length text) (lines_few text) (nat_eq b 10)

-- behind these lines, with which something begins, nothing goes on with the first of the rest
abbrev pub NoNext : (List (List ℕ) → Type 0) → List (List ℕ) → List (List ℕ) → Type 0
NoNext CanBegin front [] = Unit {0}
NoNext CanBegin front (line ∷ more) = CanBegin (front ++ line ∷ []) → ⊥

take_front : {X : Type 0} (front rest : List X) → take (length front) (front ++ rest) ≡ front
take_front [] rest = refl
take_front (x ∷ front) rest = ap (λ xs. x ∷ xs) (take_front front rest)

take_one_more : {X : Type 0} (front rest : List X) (x : X) → take (suc (length front)) (front ++ x ∷ rest) ≡ front ++ x ∷ []
take_one_more [] rest x = refl
take_one_more (y ∷ front) rest x = ap (λ xs. y ∷ xs) (take_one_more front rest x)

stops_behind : (CanBegin : List (List ℕ) → Type 0) (lines front rest : List (List ℕ)) (line : ℕ) → lines ≡ front ++ rest → line ≡ suc (length front)
    → NoNext CanBegin front rest → line ≤ length lines → CanBegin (take line lines) → ⊥
stops_behind CanBegin lines front [] line split number none l can = omega (arith, ap length split, length-append front [])
stops_behind CanBegin lines front (next ∷ more) line split number none l can =
    let taken : take line lines ≡ front ++ next ∷ [] = ap (λ n. take n lines) number ∙ ap (take (suc (length front))) split ∙ take_one_more front more next in
    none (subst CanBegin taken can)

pub first_bad : (CanBegin : List (List ℕ) → Type 0) (lines front rest : List (List ℕ)) (line : ℕ) → lines ≡ front ++ rest → line ≡ suc (length front)
    → CanBegin front → NoNext CanBegin front rest → FirstBad CanBegin lines line
first_bad CanBegin lines front rest line split number can none =
    let before : line - 1 ≡ length front = omega arith in
    let taken : take (line - 1) lines ≡ front = ap (λ n. take n lines) before ∙ ap (take (length front)) split ∙ take_front front rest in
    record {
      counted = omega arith;
      within = omega (arith, ap length split, length-append front rest);
      stands = subst CanBegin (sym taken) can;
      stops = stops_behind CanBegin lines front rest line split number none;
    }
