-- A CR before LF goes with the line's end.
use Rattle.std.proofs.Common.{Bor, ◌≡◌, ◌≢◌, ⊎_elim, ℕ, suc, ◌+◌, ◌<◌, ◌≤◌, Bool, true, false, ◌&&◌, List, [], ◌∷◌, ◌++◌, length, take, drop, get_or, Option, None, Some, refl, sym, ap, ◌∙◌, arith, take-append-drop, length-take, length-drop, drop-cons}
use Rattle.std.specs.Prelude.{nat_eq, nat_lt, cond, MatchOption, if◌then◌else◌}
use Rattle.std.specs.Option.{unwrap_or}
use Rattle.std.specs.List.{position, position_or_len, starts_with}
use Rattle.std.proofs.lemmas.Bool.{cases_lt, lt-ltb}
use Rattle.std.proofs.lemmas.Bool.Decides.{nat_tests}
use Rattle.std.proofs.lemmas.List.{get_or-take}
use Rattle.std.proofs.lemmas.List.Sums.{fails_before_first}
use Rattle.std.proofs.lemmas.List.Quantifiers.{position-Some}
use Rattle.plc_text.specs.Lines.{lines_of}
use Rattle.plc_text.proofs.LineLaws.{HoldsNo, HoldsNo-from_places, lines_of-ended, lines_of-unended, lines_few}
use Rattle.plc_text.specs.Words.{begins}
use Rattle.scenario.specs.Reading.{without_returns, unmarked, scenario_lines}
use Rattle.scenario.specs.Private.Lines.{without_return}

differs : (a b : ℕ) → a ≢ b → nat_eq a b ≡ false
differs a b h = grind (arith, nat_tests)

and_no : (b : Bool) → (b && false) ≡ false
and_no true = refl
and_no false = refl

-- the last byte before LF
last_byte : (is : Bool) (b : ℕ) (rest : List ℕ) → (if is && true then 10 ∷ rest else b ∷ 10 ∷ rest) ≡ (if is then [] else b ∷ []) ++ 10 ∷ rest
last_byte true b rest = refl
last_byte false b rest = refl

-- a byte that stays
kept : (is : Bool) (b : ℕ) (dropped rest : List ℕ) → (if is && false then dropped else b ∷ rest) ≡ b ∷ rest
kept true b dropped rest = refl
kept false b dropped rest = refl

without_returns-line : (front rest : List ℕ) → HoldsNo 10 front → without_returns (front ++ 10 ∷ rest) ≡ without_return front ++ 10 ∷ without_returns rest
without_returns-line [] rest h = refl
without_returns-line (b ∷ []) rest h = last_byte (nat_eq b 13) b (without_returns rest)
without_returns-line (b ∷ c ∷ front) rest h =
    let no = differs c 10 h.1.0 in
    rw no (kept (nat_eq b 13) b (without_returns (c ∷ front ++ 10 ∷ rest)) (without_returns (c ∷ front ++ 10 ∷ rest))
    ∙ ap (λ bytes. b ∷ bytes) (without_returns-line (c ∷ front) rest h.1))

without_returns-none : (bytes : List ℕ) → HoldsNo 10 bytes → without_returns bytes ≡ bytes
without_returns-none [] h = refl
without_returns-none (b ∷ []) h = kept (nat_eq b 13) b [] []
without_returns-none (b ∷ c ∷ bytes) h =
    let no = differs c 10 h.1.0 in
    rw no (kept (nat_eq b 13) b (without_returns (c ∷ bytes)) (without_returns (c ∷ bytes)) ∙ ap (λ rest. b ∷ rest) (without_returns-none (c ∷ bytes) h.1))

holds_none-if : (is : Bool) (b : ℕ) → b ≢ 10 → HoldsNo 10 (if is then [] else b ∷ [])
holds_none-if true b h = tt
holds_none-if false b h = (h, tt)

HoldsNo-without_return : (bytes : List ℕ) → HoldsNo 10 bytes → HoldsNo 10 (without_return bytes)
HoldsNo-without_return [] h = tt
HoldsNo-without_return (b ∷ []) h = holds_none-if (nat_eq b 13) b h.0
HoldsNo-without_return (b ∷ c ∷ bytes) h = (h.0, HoldsNo-without_return (c ∷ bytes) h.1)

pub first-ended : (front rest : List ℕ) → HoldsNo 10 front → lines_of (without_returns (front ++ 10 ∷ rest)) ≡ without_return front ∷ lines_of (without_returns rest)
first-ended front rest h =
    ap lines_of (without_returns-line front rest h) ∙ lines_of-ended (without_return front) (without_returns rest) (HoldsNo-without_return front h)

pub last-unended : (bytes : List ℕ) → 0 < length bytes → HoldsNo 10 bytes → lines_of (without_returns bytes) ≡ bytes ∷ []
last-unended bytes l h = ap lines_of (without_returns-none bytes h) ∙ lines_of-unended bytes l h

-- the bytes before a CR at the end, and bytes without one
pub without_return-of : (front : List ℕ) → without_return (front ++ 13 ∷ []) ≡ front
without_return-of [] = refl
without_return-of (b ∷ []) = refl
without_return-of (b ∷ c ∷ front) = ap (λ bytes. b ∷ bytes) (without_return-of (c ∷ front))

pub without_return-none : (bytes : List ℕ) → ((front : List ℕ) → bytes ≢ front ++ 13 ∷ []) → without_return bytes ≡ bytes
without_return-none [] h = refl
without_return-none (b ∷ []) h =
    let apart : b ≢ 13 = λ e. h [] (ap (λ (x : ℕ). x ∷ []) e) in
    let no = differs b 13 apart in
    rw no
without_return-none (b ∷ c ∷ bytes) h =
    ap (λ rest. b ∷ rest) (without_return-none (c ∷ bytes) (λ front e. h (b ∷ front) (ap (λ rest. b ∷ rest) e)))

-- what `strip_suffix` leaves
pub stripped : (bytes : Bor (List ℕ)) (r : Option (Bor (List ℕ))) → MatchOption r ((front : List ℕ) → bytes.now ≢ front ++ 13 ∷ []) (λ x. bytes.now ≡ x.now ++ 13 ∷ [])
    → (unwrap_or r bytes).now ≡ without_return bytes.now
stripped bytes None h = sym (without_return-none bytes.now h)
stripped bytes (Some front) h = sym (ap without_return h ∙ without_return-of front.now)

-- the first LF
no_place : (bytes : List ℕ) (k : ℕ) → nat_eq (get_or bytes k 0) 10 ≡ false → get_or bytes k 0 ≢ 10
no_place bytes k e same = grind (arith, nat_tests)

pub first_place : (bytes : List ℕ) (end : ℕ) → position (λ b. nat_eq b 10) bytes ≡ Some end
    → (bytes ≡ take end bytes ++ 10 ∷ drop (end + 1) bytes) × HoldsNo 10 (take end bytes)
first_place bytes end e =
    let at = position-Some (λ b. nat_eq b 10) bytes end 0 e in
    let here : get_or bytes end 0 ≡ 10 = let is = at.1 in grind (arith, nat_tests) in
    let next : suc end ≡ end + 1 = omega arith in (
      sym (take-append-drop end bytes) ∙ ap (λ (rest : List ℕ). take end bytes ++ rest) (drop-cons bytes end 0 at.0)
          ∙ ap (λ (b : ℕ). take end bytes ++ b ∷ drop (suc end) bytes) here ∙ ap (λ (n : ℕ). take end bytes ++ 10 ∷ drop n bytes) next,
      HoldsNo-from_places 10 (take end bytes)
          (λ i l.
          let below : i < end = omega (arith, length-take {A = ℕ}) in
          let same = get_or-take end bytes i 0 below in
          rw same (no_place bytes i (at.2 i below))),
    )

no_first : (bytes : List ℕ) (n : ℕ) → cond (nat_lt n (length bytes)) (Some n) None ≡ None → length bytes ≤ n
no_first bytes n e = ⊎_elim (λ (l : n < length bytes). let is = lt-ltb n (length bytes) l in let wrong : Some n ≡ None = rw is at e in absurd cc) (λ l. l) (cases_lt n (length bytes))

pub no_first_place : (bytes : List ℕ) → position (λ b. nat_eq b 10) bytes ≡ None → HoldsNo 10 bytes
no_first_place bytes e =
    let behind = no_first bytes (position_or_len (λ b. nat_eq b 10) bytes) e in
    HoldsNo-from_places 10 bytes (λ i l. no_place bytes i (fails_before_first (λ b. nat_eq b 10) bytes i 0 (omega arith)))

-- there are no more lines than bytes
shorter : (is : Bool) (b : ℕ) (bytes rest : List ℕ) (n : ℕ) → length rest ≤ n → length (if is then rest else b ∷ rest) ≤ suc n
shorter true b bytes rest n l = omega arith
shorter false b bytes rest n l = omega arith

fewer : (bytes : List ℕ) → length (without_returns bytes) ≤ length bytes
fewer [] = omega arith
fewer (b ∷ bytes) = shorter (nat_eq b 13 && begins (λ c. nat_eq c 10) bytes) b bytes (without_returns bytes) (length bytes) (fewer bytes)

unmarked_shorter : (is : Bool) (bytes : List ℕ) → length (if is then drop 3 bytes else bytes) ≤ length bytes
unmarked_shorter true bytes = omega (arith, length-drop {A = ℕ})
unmarked_shorter false bytes = omega arith

pub few_lines : (bytes : List ℕ) → length (scenario_lines bytes) ≤ length bytes
few_lines bytes =
    let lines = lines_few (without_returns (unmarked bytes)) in
    let returns = fewer (unmarked bytes) in
    let mark = unmarked_shorter (starts_with nat_eq bytes (239 ∷ 187 ∷ 191 ∷ [])) bytes in
    omega (arith, lines, returns, mark)
