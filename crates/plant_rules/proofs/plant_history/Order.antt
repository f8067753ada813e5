-- Entries that keep the order of phases and lists, and that all plays have, interleave the phases.
use Rattle.std.proofs.Common.{◌≡◌, ◌≤◌, ◌<◌, ℕ, zero, suc, ◌+◌, ◌-◌, Bool, true, false, List, [], ◌∷◌, ◌++◌, length, Option, Some, None, refl, sym, ap, ◌∙◌, subst, inl, inr, ⊎_elim, arith}
use Rattle.std.specs.Prelude.{◌⊎◌, nat_eq, nat_lt, if◌then◌else◌}
use Rattle.std.specs.List.{filter, range_with_len}
use Rattle.std.specs.Str.{bytes_eq}
use Rattle.std.proofs.lemmas.Bool.{eqb-true, ltb-true, eq-eqb}
use Rattle.std.proofs.lemmas.Bool.Decides.{nat_tests}
use Rattle.std.proofs.lemmas.Slice.Eq.{bytes_eq-Decides}
use Rattle.cycle_journal.specs.Play.{play_numbered}
use Rattle.cycle_journal.specs.declared.play.Play.{Play}
use Rattle.cycle_journal.specs.Interleaving.{Phase, Lane, changes, task_named, lane_of, same_lane, is_in, in_lane, has_play, times, numbers_of_phase, IsPhase, InPhases, Follow}
use Rattle.plant_rules.specs.Meaning.{Has, Rising}
use Rattle.plant_rules.specs.History.{Script, same_list, phase_of, Before}
use Rattle.plant_rules.specs.plant_history.Running.{InTurn}

-- ---- lists

dichotomy : (a b : ℕ) → (a < b) ⊎ (b ≤ a)
dichotomy zero zero = inr (omega arith)
dichotomy zero (suc b) = inl (omega arith)
dichotomy (suc a) zero = inr (omega arith)
dichotomy (suc a) (suc b) = ⊎_elim (λ h. inl (omega arith)) (λ h. inr (omega arith)) (dichotomy a b)

has_front : (xs ys : List ℕ) (r : ℕ) → Has xs r → Has (xs ++ ys) r
has_front [] ys r h = absurd h
has_front (x ∷ xs) ys r (inl e) = inl e
has_front (x ∷ xs) ys r (inr h) = inr (has_front xs ys r h)

has_back : (xs ys : List ℕ) (r : ℕ) → Has ys r → Has (xs ++ ys) r
has_back [] ys r h = h
has_back (x ∷ xs) ys r h = inr (has_back xs ys r h)

has_either : (xs ys : List ℕ) (r : ℕ) → Has (xs ++ ys) r → (Has xs r) ⊎ (Has ys r)
has_either [] ys r h = inr h
has_either (x ∷ xs) ys r (inl e) = inl (inl e)
has_either (x ∷ xs) ys r (inr h) = ⊎_elim (λ k. inl (inr k)) (λ k. inr k) (has_either xs ys r h)

has_filter : (f : ℕ → Bool) (xs : List ℕ) (r : ℕ) → Has xs r → f r ≡ true → Has (filter f xs) r
has_filter f [] r h e = absurd h
has_filter f (x ∷ xs) r h e = by (f x) refl h (λ k. has_filter f xs r k e)
  where
    by : (b : Bool) → f x ≡ b → (r ≡ x) ⊎ Has xs r → (Has xs r → Has (filter f xs) r) → Has (if b then x ∷ filter f xs else filter f xs) r
    by true q (inl i) rest = inl i
    by true q (inr k) rest = inr (rest k)
    by false q (inl i) rest = let w : true ≡ false = sym e ∙ (ap f i ∙ q) in cc
    by false q (inr k) rest = rest k

filter_has : (f : ℕ → Bool) (xs : List ℕ) (r : ℕ) → Has (filter f xs) r → Has xs r × (f r ≡ true)
filter_has f [] r h = absurd h
filter_has f (x ∷ xs) r h = by (f x) refl h (λ k. filter_has f xs r k)
  where
    by : (b : Bool) → f x ≡ b → Has (if b then x ∷ filter f xs else filter f xs) r → (Has (filter f xs) r → Has xs r × (f r ≡ true)) → ((r ≡ x) ⊎ Has xs r) × (f r ≡ true)
    by true q (inl i) rest = (inl i, ap f i ∙ q)
    by true q (inr k) rest = let y = rest k in (inr y.0, y.1)
    by false q k rest = let y = rest k in (inr y.0, y.1)

rising_filter : (f : ℕ → Bool) (xs : List ℕ) → Rising xs → Rising (filter f xs)
rising_filter f [] h = tt
rising_filter f (x ∷ xs) h = by (f x) (rising_filter f xs h.1)
  where
    by : (b : Bool) → Rising (filter f xs) → Rising (if b then x ∷ filter f xs else filter f xs)
    by true k = (λ r m. h.0 r (filter_has f xs r m).0, k)
    by false k = k

-- rising lists with the same members are the same
rising_same : (xs ys : List ℕ) → Rising xs → Rising ys → ((r : ℕ) → Has xs r → Has ys r) → ((r : ℕ) → Has ys r → Has xs r) → xs ≡ ys
rising_same [] [] h k f g = refl
rising_same [] (y ∷ ys) h k f g = absurd (g y (inl refl))
rising_same (x ∷ xs) [] h k f g = absurd (f x (inl refl))
rising_same (x ∷ xs) (y ∷ ys) h k f g =
    let first : x ≡ y = same (f x (inl refl)) (g y (inl refl)) in
    let rest : xs ≡ ys = rising_same xs ys h.1 k.1
    (λ r m. ⊎_elim (λ (e : r ≡ y). let low = h.0 r m in absurd (omega arith)) (λ n. n) (f r (inr m)))
    (λ r m. ⊎_elim (λ (e : r ≡ x). let low = k.0 r m in absurd (omega arith)) (λ n. n) (g r (inr m))) in
    ap (λ z. z ∷ xs) first ∙ ap (λ zs. y ∷ zs) rest
  where
    same : (x ≡ y) ⊎ Has ys x → (y ≡ x) ⊎ Has xs y → x ≡ y
    same (inl e) m = e
    same (inr m) (inl e) = sym e
    same (inr m) (inr n) = let a = k.0 x m in let b = h.0 y n in absurd (omega arith)

has_range : (n a r : ℕ) → a ≤ r → r < a + n → Has (range_with_len a n) r
has_range zero a r l h = absurd (omega arith)
has_range (suc n) a r l h = ⊎_elim (λ (m : a < r). inr (has_range n (a + 1) r (omega arith) (omega arith))) (λ (m : r ≤ a). let e : r ≡ a = omega arith in inl e) (dichotomy a r)

range_has : (n a r : ℕ) → Has (range_with_len a n) r → (a ≤ r) × (r < a + n)
range_has zero a r h = absurd h
range_has (suc n) a r (inl e) = (omega arith, omega arith)
range_has (suc n) a r (inr h) = let k = range_has n (a + 1) r h in (omega (arith, k.0), omega (arith, k.1))

rising_range : (n a : ℕ) → Rising (range_with_len a n)
rising_range zero a = tt
rising_range (suc n) a = (λ r h. let k = range_has n (a + 1) r h in omega (arith, k.0), rising_range n (a + 1))

-- each stands once
abbrev Distinct : List ℕ → Type 0
Distinct [] = Unit {0}
Distinct (x ∷ xs) = (Has xs x → ⊥) × Distinct xs

times_none : (n : ℕ) (xs : List ℕ) → (Has xs n → ⊥) → times n xs ≡ 0
times_none n [] h = refl
times_none n (x ∷ xs) h = by (nat_eq x n) refl (times_none n xs (λ k. h (inr k)))
  where
    by : (b : Bool) → nat_eq x n ≡ b → times n xs ≡ 0 → length (if b then x ∷ filter (λ m. nat_eq m n) xs else filter (λ m. nat_eq m n) xs) ≡ 0
    by true q k = absurd (h (inl (sym (eqb-true x n q))))
    by false q k = k

times_one : (n : ℕ) (xs : List ℕ) → Distinct xs → Has xs n → times n xs ≡ 1
times_one n [] d h = absurd h
times_one n (x ∷ xs) d h = by (nat_eq x n) refl h (λ k. times_one n xs d.1 k)
  where
    by : (b : Bool) → nat_eq x n ≡ b → (n ≡ x) ⊎ Has xs n → (Has xs n → times n xs ≡ 1) → length (if b then x ∷ filter (λ m. nat_eq m n) xs else filter (λ m. nat_eq m n) xs) ≡ 1
    by true q k rest = let e = eqb-true x n q in ap suc (times_none n xs (λ m. d.0 (subst (λ z. Has xs z) (sym e) m)))
    by false q (inl e) rest = let w : nat_eq x n ≡ true = eq-eqb x n (sym e) in let f : true ≡ false = sym w ∙ q in cc
    by false q (inr k) rest = rest k

-- ---- the first numbers, up to one that is not below b

abbrev front : ℕ → List ℕ → List ℕ
front b [] = []
front b (p ∷ ps) = if nat_lt p b then p ∷ front b ps else []

abbrev back : ℕ → List ℕ → List ℕ
back b [] = []
back b (p ∷ ps) = if nat_lt p b then back b ps else p ∷ ps

split : (b : ℕ) (ns : List ℕ) → ns ≡ front b ns ++ back b ns
split b [] = refl
split b (p ∷ ps) = by (nat_lt p b) (split b ps)
  where
    by : (x : Bool) → ps ≡ front b ps ++ back b ps → (p ∷ ps) ≡ (if x then p ∷ front b ps else []) ++ (if x then back b ps else p ∷ ps)
    by true e = ap (λ z. p ∷ z) e
    by false e = refl

front_has : (b : ℕ) (ns : List ℕ) (x : ℕ) → Has (front b ns) x → Has ns x × (x < b)
front_has b [] x h = absurd h
front_has b (p ∷ ps) x h = by (nat_lt p b) refl h (λ k. front_has b ps x k)
  where
    by : (y : Bool) → nat_lt p b ≡ y → Has (if y then p ∷ front b ps else []) x → (Has (front b ps) x → Has ps x × (x < b)) → ((x ≡ p) ⊎ Has ps x) × (x < b)
    by true q (inl e) rest = let l = ltb-true p b q in (inl e, omega arith)
    by true q (inr k) rest = let y = rest k in (inr y.0, y.1)
    by false q h rest = absurd h

distinct_front : (b : ℕ) (ns : List ℕ) → Distinct ns → Distinct (front b ns)
distinct_front b [] d = tt
distinct_front b (p ∷ ps) d = by (nat_lt p b) (distinct_front b ps d.1)
  where
    by : (x : Bool) → Distinct (front b ps) → Distinct (if x then p ∷ front b ps else [])
    by true k = (λ m. d.0 (front_has b ps p m).0, k)
    by false k = tt

-- ---- phases

phase_in : (phase : Phase) (phases : List Phase) (p : ℕ) → p < phase.1 → phase_of (phase ∷ phases) p ≡ 0
phase_in phase phases p h = let e : nat_lt p phase.1 ≡ true = grind (arith, nat_tests) in ap (λ b. if b then 0 else suc (phase_of phases p)) e

phase_later : (phase : Phase) (phases : List Phase) (p : ℕ) → phase.1 ≤ p → phase_of (phase ∷ phases) p ≡ suc (phase_of phases p)
phase_later phase phases p h = let e : nat_lt p phase.1 ≡ false = grind (arith, nat_tests) in ap (λ b. if b then 0 else suc (phase_of phases p)) e

follow_rises : (phases : List Phase) (first behind : ℕ) → Follow first phases behind → first ≤ behind
follow_rises [] first behind h = omega (arith, h)
follow_rises (phase ∷ phases) first behind h = let k = follow_rises phases phase.1 behind h.2 in omega (arith, h.1)

has_it : (n : ℕ) (phase : Phase) → phase.0 ≤ n → n < phase.1 → has_play n phase ≡ true
has_it n phase l k = grind (arith, nat_tests)

has_not_before : (n : ℕ) (phase : Phase) → n < phase.0 → has_play n phase ≡ false
has_not_before n phase l = grind (arith, nat_tests)

has_not_behind : (n : ℕ) (phase : Phase) → phase.1 ≤ n → has_play n phase ≡ false
has_not_behind n phase l = grind (arith, nat_tests)

-- ---- lanes

same_lanes : (lane a b : Lane) → same_lane lane a ≡ true → same_lane lane b ≡ true → same_lane a b ≡ true
same_lanes changes changes changes e f = refl
same_lanes changes changes (task_named n) e f = cc
same_lanes changes (task_named n) b e f = cc
same_lanes (task_named n) changes b e f = cc
same_lanes (task_named n) (task_named m) changes e f = cc
same_lanes (task_named n) (task_named m) (task_named k) e f = (bytes_eq-Decides m k).1 (sym ((bytes_eq-Decides n m).0 e) ∙ (bytes_eq-Decides n k).0 f)

one_lane : (lane : Lane) (x y : Option Play) → is_in lane x ≡ true → is_in lane y ≡ true → same_list x y ≡ true
one_lane lane None y e f = cc
one_lane lane (Some a) None e f = cc
one_lane lane (Some a) (Some b) e f = same_lanes lane (lane_of a) (lane_of b) e f

module _ (plays : List Play) where
  abbrev BeforeIn : List Phase → ℕ → ℕ → Type 0
  BeforeIn phases q p = (phase_of phases q < phase_of phases p) ⊎ ((phase_of phases q ≡ phase_of phases p) × (same_list (play_numbered plays q) (play_numbered plays p) ≡ true) × (q < p))

  -- each once, within a range, and behind those of the range that come before it
  abbrev Ordered : List Phase → ℕ → ℕ → List ℕ → List ℕ → Type 0
  Ordered phases first behind earlier [] = Unit {0}
  Ordered phases first behind earlier (p ∷ ps) =
      (Has earlier p → ⊥) × ((q : ℕ) → first ≤ q → q < behind → BeforeIn phases q p → Has earlier q) × (first ≤ p) × (p < behind) × Ordered phases first behind (p ∷ earlier) ps

  never_earlier : (phases : List Phase) (first behind : ℕ) (earlier ns : List ℕ) → Ordered phases first behind earlier ns → (x : ℕ) → Has earlier x → Has ns x → ⊥
  never_earlier phases first behind earlier [] o x h k = k
  never_earlier phases first behind earlier (p ∷ ps) o x h (inl e) = o.0 (subst (λ z. Has earlier z) e h)
  never_earlier phases first behind earlier (p ∷ ps) o x h (inr k) = never_earlier phases first behind (p ∷ earlier) ps o.4 x (inr h) k

  are_distinct : (phases : List Phase) (first behind : ℕ) (earlier ns : List ℕ) → Ordered phases first behind earlier ns → Distinct ns
  are_distinct phases first behind earlier [] o = tt
  are_distinct phases first behind earlier (p ∷ ps) o = (λ h. never_earlier phases first behind (p ∷ earlier) ps o.4 p (inl refl) h, are_distinct phases first behind (p ∷ earlier) ps o.4)

  are_within : (phases : List Phase) (first behind : ℕ) (earlier ns : List ℕ) → Ordered phases first behind earlier ns → (x : ℕ) → Has ns x → (first ≤ x) × (x < behind)
  are_within phases first behind earlier [] o x h = absurd h
  are_within phases first behind earlier (p ∷ ps) o x (inl e) = (subst (λ z. first ≤ z) (sym e) o.2, subst (λ z. z < behind) (sym e) o.3)
  are_within phases first behind earlier (p ∷ ps) o x (inr h) = are_within phases first behind (p ∷ earlier) ps o.4 x h

  module _ (phase : Phase) (rest : List Phase) (first behind : ℕ) (low : first ≤ phase.1) (high : phase.1 ≤ behind) where
    abbrev phases : List Phase
    phases = phase ∷ rest

    earlier_phase : (q p : ℕ) → q < phase.1 → phase.1 ≤ p → BeforeIn phases q p
    earlier_phase q p h k = let a = phase_in phase rest q h in let b = phase_later phase rest p k in inl (omega arith)

    -- once all of the first phase have been, the others are of later ones
    later_all : (earlier ns : List ℕ) → Ordered phases first behind earlier ns → ((q : ℕ) → first ≤ q → q < phase.1 → Has earlier q) → (x : ℕ) → Has ns x → phase.1 ≤ x
    later_all earlier ns o seen x h = ⊎_elim (λ l. absurd (never_earlier phases first behind earlier ns o x (seen x (are_within phases first behind earlier ns o x h).0 l) h)) (λ k. k) (dichotomy x phase.1)

    -- what stands behind the first phase
    pub record Behind (ns : List ℕ) : Type 0 where
      pub earlier : List ℕ
      pub ordered : Ordered rest phase.1 behind earlier (back phase.1 ns)
      pub later : (x : ℕ) → Has (back phase.1 ns) x → phase.1 ≤ x

    fewer : (earlier ns : List ℕ) → Ordered phases first behind earlier ns → ((x : ℕ) → Has ns x → phase.1 ≤ x) → Ordered rest phase.1 behind earlier ns
    fewer earlier [] o l = tt
    fewer earlier (p ∷ ps) o l = (
      o.0,
      λ q a b c. o.1 q (omega arith) b (more q p a (l p (inl refl)) c),
      l p (inl refl),
      o.3,
      fewer (p ∷ earlier) ps o.4 (λ x h. l x (inr h)),
    )
      where
        more : (q p : ℕ) → phase.1 ≤ q → phase.1 ≤ p → BeforeIn rest q p → BeforeIn phases q p
        more q p a b (inl h) = let x = phase_later phase rest q a in let y = phase_later phase rest p b in inl (omega arith)
        more q p a b (inr h) = inr (phase_later phase rest q a ∙ (ap suc h.0 ∙ sym (phase_later phase rest p b)), h.1, h.2)

    behind_first : (earlier ns : List ℕ) → Ordered phases first behind earlier ns → Behind ns
    behind_first earlier [] o = record { earlier = []; ordered = tt; later = λ x h. absurd h }
    behind_first earlier (p ∷ ps) o = by (dichotomy p phase.1) (behind_first (p ∷ earlier) ps o.4)
      where
        by : (p < phase.1) ⊎ (phase.1 ≤ p) → Behind ps → Behind (p ∷ ps)
        by (inl h) k =
            let e : nat_lt p phase.1 ≡ true = grind (arith, nat_tests) in
            let same : back phase.1 ps ≡ back phase.1 (p ∷ ps) = sym (ap (λ b. if b then back phase.1 ps else p ∷ ps) e) in
            record {
              earlier = k.earlier;
              ordered = subst (λ z. Ordered rest phase.1 behind k.earlier z) same k.ordered;
              later = λ x m. k.later x (subst (λ z. Has z x) (sym same) m);
            }
        by (inr h) k =
            let e : nat_lt p phase.1 ≡ false = grind (arith, nat_tests) in
            let same : (p ∷ ps) ≡ back phase.1 (p ∷ ps) = sym (ap (λ b. if b then back phase.1 ps else p ∷ ps) e) in
            let all : (x : ℕ) → Has (p ∷ ps) x → phase.1 ≤ x = λ x m. later_all earlier (p ∷ ps) o (λ q a b. o.1 q a (omega arith) (earlier_phase q p b h)) x m in
            record {
              earlier = earlier;
              ordered = subst (λ z. Ordered rest phase.1 behind earlier z) same (fewer earlier (p ∷ ps) o all);
              later = λ x m. all x (subst (λ z. Has z x) (sym same) m);
            }

    -- those of a lane rise
    lane_rises : (lane : Lane) (earlier ns : List ℕ) → Ordered phases first behind earlier ns → Rising (filter (in_lane plays lane) (front phase.1 ns))
    lane_rises lane earlier [] o = tt
    lane_rises lane earlier (p ∷ ps) o = by (nat_lt p phase.1) refl (lane_rises lane (p ∷ earlier) ps o.4)
      where
        above : p < phase.1 → in_lane plays lane p ≡ true → (r : ℕ) → Has (filter (in_lane plays lane) (front phase.1 ps)) r → p < r
        above h e r m =
            let f = filter_has (in_lane plays lane) (front phase.1 ps) r m in
            let g = front_has phase.1 ps r f.0 in
            let w = are_within phases first behind (p ∷ earlier) ps o.4 r g.0 in
            ⊎_elim (λ (l : p < r). l)
            (λ (l : r ≤ p).
            absurd (⊎_elim
            (λ (s : r < p).
            let zero-r = phase_in phase rest r g.1 in
            let zero-p = phase_in phase rest p h in
            never_earlier phases first behind (p ∷ earlier) ps o.4 r (inr (o.1 r w.0 w.1 (inr (zero-r ∙ sym zero-p, one_lane lane (play_numbered plays r) (play_numbered plays p) f.1 e, s)))) g.0)
            (λ (s : p ≤ r). never_earlier phases first behind (p ∷ earlier) ps o.4 r (inl (omega arith)) g.0)
            (dichotomy r p)))
            (dichotomy p r)

        inner : (b : Bool) → in_lane plays lane p ≡ b → p < phase.1 → Rising (filter (in_lane plays lane) (front phase.1 ps))
            → Rising (if b then p ∷ filter (in_lane plays lane) (front phase.1 ps) else filter (in_lane plays lane) (front phase.1 ps))
        inner true q h k = (above h q, k)
        inner false q h k = k

        by : (b : Bool) → nat_lt p phase.1 ≡ b → Rising (filter (in_lane plays lane) (front phase.1 ps)) → Rising (filter (in_lane plays lane) (if b then p ∷ front phase.1 ps else []))
        by true q k = inner (in_lane plays lane p) refl (ltb-true p phase.1 q) k
        by false q k = tt

  pub in_phases : (phases : List Phase) (first behind : ℕ) (earlier ns : List ℕ) → Follow first phases behind → Ordered phases first behind earlier ns → ((q : ℕ) → first ≤ q → q < behind → Has ns q) → InPhases plays phases ns
  in_phases [] first behind earlier [] f o all = refl
  in_phases [] first behind earlier (p ∷ ps) f o all = absurd (omega (arith, f, o.2, o.3))
  in_phases (phase ∷ rest) first behind earlier ns f o all =
      let high = follow_rises rest phase.1 behind f.2 in
      let b = behind_first phase rest first behind f.1 high earlier ns o in
      let parts = split phase.1 ns in
      let where_is : (q : ℕ) → first ≤ q → q < behind → (Has (front phase.1 ns) q) ⊎ (Has (back phase.1 ns) q) = λ q l h. has_either (front phase.1 ns) (back phase.1 ns) q (subst (λ z. Has z q) parts (all q l h)) in
      let in_front : (q : ℕ) → first ≤ q → q < phase.1 → Has (front phase.1 ns) q = λ q l h. ⊎_elim (λ k. k) (λ k. let m = b.later q k in absurd (omega arith)) (where_is q l (omega arith)) in
      let in_back : (q : ℕ) → phase.1 ≤ q → q < behind → Has (back phase.1 ns) q = λ q l h. ⊎_elim (λ k. let m = (front_has phase.1 ns q k).1 in absurd (omega arith)) (λ k. k) (where_is q (omega (arith, f.1)) h) in
      let distinct = distinct_front phase.1 ns (are_distinct (phase ∷ rest) first behind earlier ns o) in
      let low : (q : ℕ) → Has (front phase.1 ns) q → first ≤ q = λ q h. (are_within (phase ∷ rest) first behind earlier ns o q (front_has phase.1 ns q h).0).0 in (
        front phase.1 ns,
        back phase.1 ns,
        parts,
        record {
          once = λ n. once_at n distinct in_front low (dichotomy n phase.0) (dichotomy n phase.1);
          in_order = λ lane.
              rising_same (filter (in_lane plays lane) (front phase.1 ns)) (filter (in_lane plays lane) (numbers_of_phase phase)) (lane_rises phase rest first behind f.1 high lane earlier ns o)
              (rising_filter (in_lane plays lane) (numbers_of_phase phase) (rising_range (phase.1 - phase.0) phase.0))
              (λ r h.
              let x = filter_has (in_lane plays lane) (front phase.1 ns) r h in
              let y = front_has phase.1 ns r x.0 in
              let z = low r x.0 in
              has_filter (in_lane plays lane) (numbers_of_phase phase) r (has_range (phase.1 - phase.0) phase.0 r (omega (arith, f.0)) (omega arith)) x.1)
              (λ r h.
              let x = filter_has (in_lane plays lane) (numbers_of_phase phase) r h in
              let y = range_has (phase.1 - phase.0) phase.0 r x.0 in
              has_filter (in_lane plays lane) (front phase.1 ns) r (in_front r (omega (arith, f.0, y.0)) (omega (arith, f.0, f.1, y.0, y.1))) x.1);
        },
        in_phases rest phase.1 behind b.earlier (back phase.1 ns) f.2 b.ordered in_back,
      )
    where
      once_at : (n : ℕ) → Distinct (front phase.1 ns) → ((q : ℕ) → first ≤ q → q < phase.1 → Has (front phase.1 ns) q) → ((q : ℕ) → Has (front phase.1 ns) q → first ≤ q)
          → (n < phase.0) ⊎ (phase.0 ≤ n) → (n < phase.1) ⊎ (phase.1 ≤ n) → times n (front phase.1 ns) ≡ (if has_play n phase then 1 else 0)
      once_at n d i l (inl h) k = times_none n (front phase.1 ns) (λ m. let x = l n m in absurd (omega (arith, f.0))) ∙ ap (λ b. if b then 1 else 0) (sym (has_not_before n phase h))
      once_at n d i l (inr h) (inr k) = times_none n (front phase.1 ns) (λ m. let x = (front_has phase.1 ns n m).1 in absurd (omega arith)) ∙ ap (λ b. if b then 1 else 0) (sym (has_not_behind n phase k))
      once_at n d i l (inr h) (inl k) = times_one n (front phase.1 ns) d (i n (omega (arith, f.0)) k) ∙ ap (λ b. if b then 1 else 0) (sym (has_it n phase h k))

  ordered_turn : (phases : List Phase) (earlier ns : List ℕ) (sources : List (List ℕ)) → InTurn (record { plays = plays; sources = sources; phases = phases }) earlier ns → Ordered phases 1 (length plays + 1) earlier ns
  ordered_turn phases earlier [] sources h = tt
  ordered_turn phases earlier (p ∷ ps) sources h = (h.0, λ q a b c. h.1 q a (omega arith) c, h.2, omega (arith, h.3), ordered_turn phases (p ∷ earlier) ps sources h.4)

-- numbers in turn, with every play among them, are those of the phases one after another
pub interleaved : (script : Script) (ns : List ℕ) → Follow 1 script.phases (length script.plays + 1) → InTurn script [] ns → ((q : ℕ) → 1 ≤ q → q ≤ length script.plays → Has ns q) → InPhases script.plays script.phases ns
interleaved script ns f turn all =
    in_phases script.plays script.phases 1 (length script.plays + 1) [] ns f (ordered_turn script.plays script.phases [] ns script.sources turn) (λ q a b. all q a (omega arith))
