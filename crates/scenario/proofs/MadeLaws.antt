-- Rounds, turns and phases of the scenario that is made.
use Rattle.std.proofs.Common.{◌≡◌, ℕ, zero, suc, ◌+◌, ◌*◌, List, [], ◌∷◌, ◌++◌, map, Option, None, Some, refl, sym, ap, ◌∙◌, arith, append_assoc}
use Rattle.std.specs.Prelude.{codes, slice_get}
use Rattle.std.specs.List.{flat_map, range_with_len}
use Rattle.std.proofs.lemmas.List.{append-nil, map-append}
use Rattle.std.proofs.lemmas.Grind.{flat_map-append}
use Rattle.plc_text.specs.Lines.{text_of}
use Rattle.st_names.specs.Names.{HasName}
use Rattle.cycle_journal.specs.Interleaving.{Phase}
use Rattle.scenario.specs.Reading.{phases_from}
use Rattle.scenario.specs.Made.{source_a, source_b, made_phases}
use Rattle.scenario.specs.Private.Made.{source_rest, source_text}

-- the sources, piece by piece
pub source_a-pieces : source_text (codes "sum : UDINT;") [] ≡ text_of source_a
unfolding source_a source_rest
source_a-pieces = refl

pub source_b-pieces : source_text (codes "count : UDINT; sum : UDINT;") (codes "count := count + 1; ") ≡ text_of source_b
unfolding source_b source_rest
source_b-pieces = refl

abbrev first_byte : Option (List ℕ) → ℕ
first_byte None = 0
first_byte (Some []) = 0
first_byte (Some (b ∷ bytes)) = b

apart : (a b : ℕ) → a ≡ 65 → b ≡ 66 → a ≡ b → ⊥
apart a b l k e = omega arith

nowhere : (n : ℕ) → slice_get (codes "A" ∷ []) n ≡ Some (codes "B") → ⊥
nowhere zero at = apart 65 66 refl refl (ap first_byte at)
nowhere (suc n) at = cc

pub is_apart : (text : List ℕ) → HasName ((codes "A", text) ∷ []) (codes "B") → ⊥
is_apart text h = nowhere h.0 h.1

-- one more number
range_more : (n first : ℕ) → range_with_len first (n + 1) ≡ range_with_len first n ++ (first + n) ∷ []
range_more zero first = let e : first ≡ first + 0 = omega arith in ap (λ (k : ℕ). k ∷ []) e
range_more (suc n) first =
    let e : suc n + 1 ≡ suc (n + 1) = omega arith in
    let k : first + 1 + n ≡ first + suc n = omega arith in
    ap (range_with_len first) e ∙ ap (λ (ns : List ℕ). first ∷ ns) (range_more n (first + 1) ∙ ap (λ (k : ℕ). range_with_len (first + 1) n ++ k ∷ []) k)

from_one : (n : ℕ) → range_with_len 1 (n + 1) ≡ range_with_len 1 n ++ (n + 1) ∷ []
from_one n = let e : 1 + n ≡ n + 1 = omega arith in range_more n 1 ∙ ap (λ (k : ℕ). range_with_len 1 n ++ k ∷ []) e

pub map-one_more : {X : Type 0} (f : ℕ → X) (before : List X) (n : ℕ) → (before ++ map f (range_with_len 1 n)) ++ f (n + 1) ∷ [] ≡ before ++ map f (range_with_len 1 (n + 1))
map-one_more f before n =
    append_assoc before (map f (range_with_len 1 n)) (f (n + 1) ∷ [])
    ∙ ap (λ xs. before ++ xs) (sym (ap (map f) (from_one n) ∙ map-append f (range_with_len 1 n) ((n + 1) ∷ [])))

flat-one_more : {X : Type 0} (f : ℕ → List X) (n : ℕ) → flat_map f (range_with_len 1 (n + 1)) ≡ flat_map f (range_with_len 1 n) ++ f (n + 1)
flat-one_more f n =
    ap (flat_map f) (from_one n) ∙ flat_map-append f (range_with_len 1 n) ((n + 1) ∷ []) ∙ ap (λ xs. flat_map f (range_with_len 1 n) ++ xs) (append-nil (f (n + 1)))

pub flat_map-one_more : {X : Type 0} (f : ℕ → List X) (before : List X) (n : ℕ) → (before ++ flat_map f (range_with_len 1 n)) ++ f (n + 1) ≡ before ++ flat_map f (range_with_len 1 (n + 1))
flat_map-one_more f before n = append_assoc before (flat_map f (range_with_len 1 n)) (f (n + 1)) ∙ ap (λ xs. before ++ xs) (sym (flat-one_more f n))

-- phases behind phases
abbrev total : List ℕ → ℕ
total [] = 0
total (count ∷ counts) = count + total counts

phases_from-append : (counts more : List ℕ) (first : ℕ) → phases_from first (counts ++ more) ≡ phases_from first counts ++ phases_from (first + total counts) more
phases_from-append [] more first = let e : first ≡ first + 0 = omega arith in ap (λ (n : ℕ). phases_from n more) e
phases_from-append (count ∷ counts) more first =
    let e : first + count + total counts ≡ first + (count + total counts) = omega arith in
    ap (λ (ps : List Phase). (first, first + count) ∷ ps) (phases_from-append counts more (first + count) ∙ ap (λ (n : ℕ). phases_from (first + count) counts ++ phases_from n more) e)

abbrev pub counts_of : ℕ → List ℕ
counts_of rounds = flat_map (λ (round : ℕ). 32 ∷ 1 ∷ []) (range_with_len 1 rounds)

total-counts : (len first : ℕ) → total (flat_map (λ (round : ℕ). 32 ∷ 1 ∷ []) (range_with_len first len)) ≡ 33 * len
total-counts zero first = refl
total-counts (suc len) first = let rest = total-counts len (first + 1) in omega (arith, rest)

pub phases-one_more : (rounds first : ℕ) → first ≡ 33 * rounds + 1
    → (phases_from 1 (counts_of rounds) ++ (first, first + 32) ∷ []) ++ (first + 32, first + 33) ∷ [] ≡ phases_from 1 (counts_of (rounds + 1))
phases-one_more rounds first e =
    let at : 1 + total (counts_of rounds) ≡ first = let sum = total-counts rounds 1 in omega (arith, sum) in
    let last : first + 32 + 1 ≡ first + 33 = omega arith in
    append_assoc (phases_from 1 (counts_of rounds)) ((first, first + 32) ∷ []) ((first + 32, first + 33) ∷ [])
    ∙ sym (ap (phases_from 1) (flat-one_more (λ (round : ℕ). 32 ∷ 1 ∷ []) rounds) ∙ phases_from-append (counts_of rounds) (32 ∷ 1 ∷ []) 1
    ∙ ap (λ (n : ℕ). phases_from 1 (counts_of rounds) ++ (n, n + 32) ∷ (n + 32, n + 32 + 1) ∷ []) at
    ∙ ap (λ (n : ℕ). phases_from 1 (counts_of rounds) ++ (first, first + 32) ∷ (first + 32, n) ∷ []) last)

pub phases-behind : (rounds behind : ℕ) → behind ≡ 33 * rounds + 1 → phases_from 1 (counts_of rounds) ++ (behind, behind) ∷ [] ≡ made_phases rounds
phases-behind rounds behind e =
    let at : 1 + total (counts_of rounds) ≡ behind = let sum = total-counts rounds 1 in omega (arith, sum) in
    let none : behind + 0 ≡ behind = omega arith in
    sym (phases_from-append (counts_of rounds) (0 ∷ []) 1 ∙ ap (λ (n : ℕ). phases_from 1 (counts_of rounds) ++ (n, n + 0) ∷ []) at
    ∙ ap (λ (n : ℕ). phases_from 1 (counts_of rounds) ++ (behind, n) ∷ []) none)
