-- How often a play's number stands in an interleaving.
use Rattle.std.proofs.Common.{◌≡◌, ⊎_elim, ℕ, zero, suc, ◌+◌, ◌-◌, ◌<◌, ◌≤◌, Bool, true, false, List, [], ◌∷◌, ◌++◌, length, refl, sym, ap, ◌∙◌, arith, length-append}
use Rattle.std.specs.Prelude.{nat_eq, nat_le, if◌then◌else◌}
use Rattle.std.specs.List.{filter, range_with_len}
use Rattle.std.proofs.lemmas.Bool.Decides.{nat_tests}
use Rattle.std.proofs.lemmas.Bool.{cases_lt, cases_order}
use Rattle.std.proofs.lemmas.List.{append-nil}
use Rattle.std.proofs.lemmas.List.Elements.{filter-append}
use Rattle.cycle_journal.specs.declared.play.Play.{Play}
use Rattle.cycle_journal.specs.declared.entry.Entry.{Entry}
use Rattle.cycle_journal.specs.Interleaving.{Phase, in_lane, has_play, times, numbers_of_phase, IsPhase, InPhases, numbers_of, Interleaves, InOrder, Follow}

times_append : (n : ℕ) (xs ys : List ℕ) → times n (xs ++ ys) ≡ times n xs + times n ys
times_append n xs ys = ap length (filter-append (λ m. nat_eq m n) xs ys) ∙ length-append (filter (λ m. nat_eq m n) xs) (filter (λ m. nat_eq m n) ys)

length_if : {X : Type 0} (x : X) (xs : List X) (is : Bool) → (if is then 1 else 0) + length xs ≡ length (if is then x ∷ xs else xs)
length_if x xs true = omega arith
length_if x xs false = omega arith

in_phases : (plays : List Play) (phases : List Phase) (numbers : List ℕ) (n : ℕ) → InPhases plays phases numbers → times n numbers ≡ length (filter (has_play n) phases)
in_phases plays [] numbers n h = ap (times n) h
in_phases plays (phase ∷ phases) numbers n h =
    let rest = in_phases plays phases h.1 n h.4 in
    let parts = ap (times n) h.2 ∙ times_append n h.0 h.1 in
    parts ∙ ap (λ k. k + times n h.1) (h.3.once n) ∙ ap (λ k. (if has_play n phase then 1 else 0) + k) rest ∙ length_if phase (filter (has_play n) phases) (has_play n phase)

pub phases_lem : (plays : List Play) (phases : List Phase) (entries : List Entry) (n : ℕ) → Interleaves plays phases entries
    → times n (numbers_of entries) ≡ length (filter (has_play n) phases)
phases_lem plays phases entries n h = in_phases plays phases (numbers_of entries) n h

-- phases that follow one another have each play once, and none before the first
has_it : (n : ℕ) (phase : Phase) → phase.0 ≤ n → n < phase.1 → has_play n phase ≡ true
has_it n phase l k = grind (arith, nat_tests)

has_not_before : (n : ℕ) (phase : Phase) → n < phase.0 → has_play n phase ≡ false
has_not_before n phase l = grind (arith, nat_tests)

has_not_behind : (n : ℕ) (phase : Phase) → phase.1 ≤ n → has_play n phase ≡ false
has_not_behind n phase l = grind (arith, nat_tests)

none_before : (phases : List Phase) (first behind n : ℕ) → Follow first phases behind → n < first → length (filter (has_play n) phases) ≡ 0
none_before [] first behind n h l = refl
none_before (phase ∷ phases) first behind n h l =
    let not = has_not_before n phase (omega (arith, h.0)) in
    rw not (none_before phases phase.1 behind n h.2 (omega (arith, h.1)))

one_phase-if : (phase : Phase) (phases : List Phase) (behind n : ℕ) → phase.0 ≤ n → Follow phase.1 phases behind
    → (phase.1 ≤ n → length (filter (has_play n) phases) ≡ 1) → length (filter (has_play n) (phase ∷ phases)) ≡ 1
one_phase-if phase phases behind n l follow later =
    ⊎_elim
    (λ (k : n < phase.1).
    let has = has_it n phase l k in
    let others = none_before phases phase.1 behind n follow k in
    rw has (ap suc others))
    (λ (k : phase.1 ≤ n).
    let not = has_not_behind n phase k in
    rw not (later k)) (cases_lt n phase.1)

one_phase : (phases : List Phase) (first behind n : ℕ) → Follow first phases behind → first ≤ n → n < behind → length (filter (has_play n) phases) ≡ 1
one_phase [] first behind n h l k = absurd (omega (arith, h))
one_phase (phase ∷ phases) first behind n h l k =
    one_phase-if phase phases behind n (omega (arith, h.0)) h.2 (λ m. one_phase phases phase.1 behind n h.2 m k)

pub once_lem : (plays : List Play) (phases : List Phase) (entries : List Entry) (first behind n : ℕ) → Interleaves plays phases entries
    → Follow first phases behind → first ≤ n → n < behind → times n (numbers_of entries) ≡ 1
once_lem plays phases entries first behind n h follow l k = phases_lem plays phases entries n h ∙ one_phase phases first behind n follow l k

-- the plays in order are one phase
-- the choice of a range from the next number on
goes_on : (first behind n : ℕ) → first < n → has_play n (first, behind) ≡ has_play n (suc first, behind)
goes_on first behind n l =
    let here : nat_le first n ≡ true = grind (arith, nat_tests) in
    let next : nat_le (suc first) n ≡ true = grind (arith, nat_tests) in
    rw (here, next)

times_more : (first behind n : ℕ) (rest : List ℕ) → first < behind → times n rest ≡ (if has_play n (suc first, behind) then 1 else 0)
    → times n (first ∷ rest) ≡ (if has_play n (first, behind) then 1 else 0)
times_more first behind n rest room h =
    ⊎_elim
    (λ (e : first ≡ n).
    let is : nat_eq first n ≡ true = grind (arith, nat_tests) in
    let before = has_not_before n (suc first, behind) (omega arith) in
    let has = has_it n (first, behind) (omega arith) (omega arith) in
    let none : times n rest ≡ 0 = rw before at h in
    rw (is, has) (ap suc none))
    (λ apart.
    let is : nat_eq first n ≡ false = ⊎_elim (λ (l : first < n). grind (arith, nat_tests)) (λ (l : n < first). grind (arith, nat_tests)) apart in
    let same : has_play n (suc first, behind) ≡ has_play n (first, behind) =
    ⊎_elim (λ (l : first < n). sym (goes_on first behind n l))
    (λ (l : n < first). has_not_before n (suc first, behind) (omega arith) ∙ sym (has_not_before n (first, behind) l)) apart in
    rw is (h ∙ ap (λ has. if has then 1 else 0) same)) (cases_order first n)

times_range : (len first behind n : ℕ) → behind ≡ first + len → times n (range_with_len first len) ≡ (if has_play n (first, behind) then 1 else 0)
times_range zero first behind n e =
    let none : has_play n (first, behind) ≡ false = ⊎_elim (λ (l : n < first). has_not_before n (first, behind) l) (λ (l : first ≤ n). has_not_behind n (first, behind) (omega arith)) (cases_lt n first) in
    rw none
times_range (suc len) first behind n e =
    times_more first behind n (range_with_len (first + 1) len) (omega arith)
    (let next : first + 1 ≡ suc first = omega arith in times_range len (first + 1) behind n (omega arith) ∙ ap (λ f. if has_play n (f, behind) then 1 else 0) next)

pub in_order_lem : (plays : List Play) (entries : List Entry) → InOrder plays entries → Interleaves plays ((1, length plays + 1) ∷ []) entries
in_order_lem plays entries h =
    let len : length plays + 1 - 1 ≡ length plays = omega arith in
    let whole : numbers_of entries ≡ numbers_of_phase (1, length plays + 1) = h ∙ ap (range_with_len 1) (sym len) in
    let is : IsPhase plays (1, length plays + 1) (numbers_of entries) = record {
      once = λ n. ap (times n) h ∙ times_range (length plays) 1 (length plays + 1) n (omega arith);
      in_order = λ lane. ap (filter (in_lane plays lane)) whole;
    } in
    (numbers_of entries, [], sym (append-nil (numbers_of entries)), is, refl)
