-- Which play comes next, by the tables.
use Rattle.std.proofs.Common.{◌≡◌, ℕ, zero, suc, ◌<◌, ◌≤◌, ◌+◌, ◌-◌, ◌^◌, List, [], ◌∷◌, length, replicate, slice_get, slice_index_or, slice_set, Option, Some, None, Bool, true, false, nat_lt, if◌then◌else◌, refl, sym, ap, ◌∙◌, subst, arith, length-set, ⊎_elim, inl, inr}
use Rattle.std.specs.Map.{keys_of}
use Rattle.std.proofs.lemmas.List.{get_or-set_other, get_or-set_same, length-replicate}
use Rattle.std.proofs.lemmas.Bool.Decides.{nat_tests}
use Rattle.std.proofs.lemmas.Slice.Eq.{bytes_eq-Decides}
use mathlib.Core.Logic.{dite}
use native.Mathlib.Decide.{ℕ_discrete, dec_lt}
use Rattle.cycle_journal.specs.Interleaving.{Phase, Lane, changes, task_named, lane_of, same_lane}
use Rattle.cycle_journal.specs.Play.{play_numbered}
use Rattle.cycle_journal.specs.declared.play.Play.{Play}
use Rattle.cycle_journal.specs.declared.play.Play.TheVariants as play
use Rattle.plant_rules.specs.History.{Script, Before, phase_of, same_list, is_change, task_of}
use Rattle.plant_core.specs.play_order.Progress.{Standing, standing, none_done, Misses, MissesFirst, IsNamed}
use Rattle.plant_core.specs.play_order.Private.Tables.{IsLane, HasLane, HaveLanes, HavePhases, IsEarlier, number_at, HaveNext, IsLeft, IsLeast, StillAt, AreLinked, IsOrdered}
use Rattle.plant_core.proofs.play_order.Lanes.{lanes_below}

true_false : true ≡ false → ⊥
true_false e = cc

some_same : {A : Type 0} (a b : A) → Some a ≡ Some b → a ≡ b
some_same a b e = cc

-- ---- phases never fall

one_up : (x q p a b : ℕ) (c d : Bool) → nat_lt q x ≡ c → nat_lt p x ≡ d → q ≤ p → a ≤ b → (if c then 0 else suc a) ≤ (if d then 0 else suc b)
one_up x q p a b true d e f h k = omega arith
one_up x q p a b false false e f h k = omega (arith, k)
one_up x q p a b false true e f h k = absurd (let i : p < x = grind (arith, nat_tests, f) in let j : x ≤ q = grind (arith, nat_tests, e) in omega (arith, i, j, h))

pub phase_up : (phases : List Phase) (q p : ℕ) → q ≤ p → phase_of phases q ≤ phase_of phases p
phase_up [] q p h = omega arith
phase_up (x ∷ xs) q p h = one_up x.1 q p (phase_of xs q) (phase_of xs p) (nat_lt q x.1) (nat_lt p x.1) refl refl h (phase_up xs q p h)

pub before_less : (script : Script) (q p : ℕ) → Before script q p → q < p
before_less script q p w =
    ⊎_elim (λ x. dite (dec_lt q p) (λ i. i) (λ far. absurd (let k = phase_up script.phases p q (omega (arith, far)) in omega (arith, k, x)))) (λ x. x.2) w

-- ---- one list has one number

module _ (names : List (List ℕ)) (distinct : (i j : ℕ) (name : List ℕ) → slice_get names i ≡ Some name → slice_get names j ≡ Some name → i ≡ j) where
  lane_forth : (a b : Lane) (l k : ℕ) → IsLane names a l → IsLane names b k → same_lane a b ≡ true → l ≡ k
  lane_forth changes changes l k e f same = e ∙ sym f
  lane_forth (task_named a) (task_named b) l k e f same =
      let ab = (bytes_eq-Decides a b).0 same in
      let i = distinct e.0 f.0 b (e.2 ∙ ap Some ab) f.2 in
      let x = e.1 in let y = f.1 in omega (arith, i, x, y)
  lane_forth changes (task_named b) l k e f same = absurd (true_false (sym same))
  lane_forth (task_named a) changes l k e f same = absurd (true_false (sym same))

  lane_back : (a b : Lane) (l k : ℕ) → IsLane names a l → IsLane names b k → l ≡ k → same_lane a b ≡ true
  lane_back changes changes l k e f same = refl
  lane_back (task_named a) (task_named b) l k e f same =
      let x = e.1 in let y = f.1 in
      let i : e.0 ≡ f.0 = omega (arith, x, y, same) in
      (bytes_eq-Decides a b).1 (some_same a b (sym e.2 ∙ (ap (slice_get names) i ∙ f.2)))
  lane_back changes (task_named b) l k e f same = absurd (let y = f.1 in omega (arith, e, y, same))
  lane_back (task_named a) changes l k e f same = absurd (let x = e.1 in omega (arith, f, x, same))

  list_forth : (a b : Option Play) (l k : ℕ) → HasLane names a l → HasLane names b k → same_list a b ≡ true → l ≡ k
  list_forth None b l k e f same = absurd (true_false (sym same))
  list_forth (Some a) None l k e f same = absurd (true_false (sym same))
  list_forth (Some a) (Some b) l k e f same = lane_forth (lane_of a) (lane_of b) l k e f same

  list_back : (a b : Option Play) (l k : ℕ) (x y : Play) → a ≡ Some x → b ≡ Some y → HasLane names a l → HasLane names b k → l ≡ k → same_list a b ≡ true
  list_back None b l k x y i j e f same = absurd (let z : None ≡ Some x = i in cc)
  list_back (Some a) None l k x y i j e f same = absurd (let z : None ≡ Some y = j in cc)
  list_back (Some a) (Some b) l k x y i j e f same = lane_back (lane_of a) (lane_of b) l k e f same

there : (plays : List Play) (p : ℕ) → 1 ≤ p → p ≤ length plays → (x : Play) × (play_numbered plays p ≡ Some x)
there plays zero a b = absurd (omega (arith, a))
there [] (suc p) a b = absurd (omega (arith, b))
there (x ∷ xs) (suc zero) a b = (x, refl)
there (x ∷ xs) (suc (suc p)) a b = there xs (suc p) (omega arith) (omega (arith, b))

-- ---- which play is early

module _ (v : Standing) (lanes numbers following next : List ℕ) (first : ℕ) (k : IsOrdered v lanes numbers following next first) where
  abbrev l_of : ℕ → ℕ
  l_of p = number_at lanes p

  next_of : ℕ → ℕ
  next_of p = number_at next (number_at lanes p)

  pub lane_low : (p : ℕ) → p ≤ length v.script.plays → p < length lanes
  lane_low p h = let a = k.lanes-are.total in omega (arith, a, h)

  pub list_low : (p : ℕ) → number_at lanes p < length next
  list_low p = let a = k.lists in by (play_numbered v.script.plays p) (k.lanes-are.each p) a
    where
      by : (o : Option Play) → HasLane v.names o (number_at lanes p) → length next ≡ length v.names + 1 → number_at lanes p < length next
      by o e a = let b = lanes_below v.names v.script.plays lanes p k.lanes-are in omega (arith, a, b)

  phase_is : (p : ℕ) → p ≤ length v.script.plays → number_at numbers p ≡ phase_of v.script.phases p
  phase_is p h = k.numbers-are.each p (omega (arith, h))

  -- no play before this number stands in the way
  none_early : (p : ℕ) → 1 ≤ p → p ≤ length v.script.plays → (IsEarlier numbers first p → ⊥) → (q : ℕ) → q < number_at next (number_at lanes p) → Misses v q p → ⊥
  none_early p from to calm q low misses =
      let less = before_less v.script q p misses.before in
      ⊎_elim
      (λ earlier.
      dite (dec_lt q first)
      (λ a. true_false (sym (k.first-is.passed q a) ∙ misses.still))
      (λ a.
      let here : first < p = omega (arith, a, less) in
      let up = phase_up v.script.phases first q (omega (arith, a)) in
      let x = phase_is first (omega (arith, here, to)) in
      let y = phase_is p to in
      calm record { low = here; phase = omega (arith, x, y, up, earlier) }))
      (λ beside.
      let same = list_forth v.names k.distinct (play_numbered v.script.plays q) (play_numbered v.script.plays p) (number_at lanes q) (number_at lanes p) (k.lanes-are.each q) (k.lanes-are.each p) beside.1 in
      true_false (sym ((k.next-are (number_at lanes p) (list_low p)).passed q low same) ∙ misses.still))
      misses.before

  pub early_first : (p : ℕ) → p ≤ length v.script.plays → IsEarlier numbers first p → MissesFirst v p first
  early_first p to earlier =
      let low = earlier.low in
      let less = earlier.phase in
      let x = phase_is first (omega (arith, low, to)) in
      let y = phase_is p to in
      let all = k.done-total in
      record {
        misses = record { before = inl (omega (arith, x, y, less)); still = k.first-still (omega (arith, low, to, all)) };
        least = λ q h m. true_false (sym (k.first-is.passed q h) ∙ m.still);
      }

  some_next : (l : ℕ) → l < length next → 1 ≤ number_at next l
  some_next l h = by (number_at next l) refl
    where
      by : (q : ℕ) → number_at next l ≡ q → 1 ≤ number_at next l
      by zero e = absurd (let all = k.done-total in true_false (sym k.none-done ∙ (ap (λ z. slice_index_or v.done z true) (sym e) ∙ k.next-still l h (omega (arith, e, all)))))
      by (suc q) e = omega (arith, e)

  pub early_next : (p q : ℕ) → 1 ≤ p → p ≤ length v.script.plays → (IsEarlier numbers first p → ⊥) → q ≡ number_at next (number_at lanes p) → q < p → MissesFirst v p q
  early_next p q from to calm is low =
      let l = number_at lanes p in
      let all = k.done-total in
      let total = k.lanes-are.total in
      let some : 1 ≤ q = let s = some_next l (list_low p) in omega (arith, s, is) in
      let left : IsLeft lanes v.done l q = subst (λ z. IsLeft lanes v.done l z) (sym is) (k.next-are l (list_low p)) in
      let still : StillAt v.done q = subst (λ z. StillAt v.done z) (sym is) (k.next-still l (list_low p)) in
      let xq = there v.script.plays q some (omega (arith, low, to)) in
      let xp = there v.script.plays p from to in
      let same = list_back v.names k.distinct (play_numbered v.script.plays q) (play_numbered v.script.plays p) (number_at lanes q) l xq.0 xp.0 xq.1 xp.1 (k.lanes-are.each q) (k.lanes-are.each p) (left.in_lane (omega (arith, low, to, total))) in
      let up = phase_up v.script.phases q p (omega (arith, low)) in
      record {
        misses = record {
          before = dite (dec_lt (phase_of v.script.phases q) (phase_of v.script.phases p)) (λ a. inl a) (λ a. inr (omega (arith, a, up), same, low));
          still = still (omega (arith, low, to, all));
        };
        least = λ j h m. none_early p from to calm j (omega (arith, h, is)) m;
      }

  pub early_none : (p : ℕ) → 1 ≤ p → p ≤ length v.script.plays → (IsEarlier numbers first p → ⊥) → p ≤ number_at next (number_at lanes p) → (q : ℕ) → Misses v q p → ⊥
  early_none p from to calm far q m = let less = before_less v.script q p m.before in none_early p from to calm q (omega (arith, less, far)) m

  -- ---- a play has its entry

  done_on : (p q : ℕ) → slice_index_or v.done q true ≡ true → slice_index_or (slice_set v.done p true) q true ≡ true
  done_on p q e = dite (ℕ_discrete q p)
      (λ i. dite (dec_lt p (length v.done)) (λ h. ap (λ z. slice_index_or (slice_set v.done p true) z true) i ∙ get_or-set_same v.done p true true h) (λ far. past_true (slice_set v.done p true) q (let l = length-set v.done p true in omega (arith, l, far, i))))
      (λ ne. get_or-set_other v.done p q true true ne ∙ e)
    where
      past_true : (ds : List Bool) (n : ℕ) → length ds ≤ n → slice_index_or ds n true ≡ true
      past_true [] n h = refl
      past_true (d ∷ ds) zero h = absurd (omega (arith, h))
      past_true (d ∷ ds) (suc n) h = past_true ds n (omega (arith, h))

  pub left_on : (p l q : ℕ) (done' : List Bool) → done' ≡ slice_set v.done p true → IsLeft lanes v.done l q → IsLeft lanes done' l q
  left_on p l q done' e was = record { passed = λ j h i. ap (λ z. slice_index_or z j true) e ∙ done_on p j (was.passed j h i); in_lane = was.in_lane; within = was.within }

  pub least_on : (p : ℕ) (done' : List Bool) → done' ≡ slice_set v.done p true → IsLeast done' first
  least_on p done' e =
      let l = ap length e ∙ length-set v.done p true in
      let was = k.first-is.within in
      record { passed = λ j h. ap (λ z. slice_index_or z j true) e ∙ done_on p j (k.first-is.passed j h); within = omega (arith, l, was) }

  pub left_at : (p : ℕ) (done' : List Bool) → done' ≡ slice_set v.done p true → (1 ≤ number_at next (number_at lanes p)) × IsLeft lanes done' (number_at lanes p) (number_at next (number_at lanes p))
  left_at p done' e = (some_next (number_at lanes p) (list_low p), left_on p (number_at lanes p) (number_at next (number_at lanes p)) done' e (k.next-are (number_at lanes p) (list_low p)))

  pub ordered_marked : (p x first' : ℕ) (done' : List Bool) (next' : List ℕ) → done' ≡ slice_set v.done p true → IsLeft lanes done' (number_at lanes p) x → StillAt done' x → next' ≡ slice_set next (number_at lanes p) x
      → IsLeast done' first' → StillAt done' first' → IsOrdered (standing v.script v.names done') lanes numbers following next' first'
  ordered_marked p x first' done' next' e left still f least-is least-still =
      let l = number_at lanes p in
      let all : length done' ≡ length v.done = ap length e ∙ length-set v.done p true in
      let lists : length next' ≡ length next = ap length f ∙ length-set next l x in
      let at : number_at next' l ≡ x = ap (λ z. number_at z l) f ∙ get_or-set_same next l x 0 (list_low p) in
      let other : (j : ℕ) → (j ≡ l → ⊥) → number_at next' j ≡ number_at next j = λ j ne. ap (λ z. number_at z j) f ∙ get_or-set_other next l j x 0 ne in
      let total = k.lanes-are.total in
      let many = k.done-total in
      record {
        few = k.few;
        done-total = all ∙ k.done-total;
        none-done = ap (λ z. slice_index_or z 0 true) e ∙ done_on p 0 k.none-done;
        distinct = k.distinct;
        lanes-are = k.lanes-are;
        numbers-are = k.numbers-are;
        following-total = k.following-total;
        following-are = k.following-are;
        following-rise = k.following-rise;
        lists = lists ∙ k.lists;
        next-are = λ j h. dite (ℕ_discrete j l)
            (λ i. subst (λ z. IsLeft lanes done' z (number_at next' z)) (sym i) (subst (λ z. IsLeft lanes done' l z) (sym at) left))
            (λ ne. subst (λ z. IsLeft lanes done' j z) (sym (other j ne)) (left_on p j (number_at next j) done' e (k.next-are j (omega (arith, h, lists)))));
        next-still = λ j h. dite (ℕ_discrete j l)
            (λ i. subst (λ z. StillAt done' (number_at next' z)) (sym i) (subst (λ z. StillAt done' z) (sym at) still))
            (λ ne. subst (λ z. StillAt done' z) (sym (other j ne)) (λ low.
            let here : number_at next j < length v.done = omega (arith, low, all) in
            let apart : number_at next j ≡ p → ⊥ = λ i. ne (sym ((k.next-are j (omega (arith, h, lists))).in_lane (omega (arith, here, total, many))) ∙ ap (number_at lanes) i) in
            ap (λ z. slice_index_or z (number_at next j) true) e ∙ (get_or-set_other v.done p (number_at next j) true true apart ∙ k.next-still j (omega (arith, h, lists)) here)));
        first-is = least-is;
        first-still = least-still;
      }

  -- ---- names

  pub named_at : (p n : ℕ) → 1 ≤ p → p ≤ length v.script.plays → is_change (play_numbered v.script.plays p) ≡ false → n ≡ number_at lanes p - 1 → (1 ≤ number_at lanes p) × IsNamed v p n
  named_at p n from to task is =
      let x = there v.script.plays p from to in
      by (play_numbered v.script.plays p) x.0 x.1 task (k.lanes-are.each p) (λ o. o)
    where
      by : (o : Option Play) (x : Play) → o ≡ Some x → is_change o ≡ false → HasLane v.names o (number_at lanes p) → (slice_get v.names n ≡ Some (task_of o) → slice_get v.names n ≡ Some (task_of (play_numbered v.script.plays p)))
          → (1 ≤ number_at lanes p) × IsNamed v p n
      by None x i t e back = absurd (let z : None ≡ Some x = i in cc)
      by (Some (play.Cycle name now input)) x i t e back = let y = e.1 in (omega (arith, y), record { at = back (ap (slice_get v.names) (omega (arith, is, y)) ∙ e.2); distinct = k.distinct })
      by (Some (play.Reset name)) x i t e back = let y = e.1 in (omega (arith, y), record { at = back (ap (slice_get v.names) (omega (arith, is, y)) ∙ e.2); distinct = k.distinct })
      by (Some (play.Change name source)) x i t e back = absurd (true_false t)

at_zero : (xs : List ℕ) (i x : ℕ) → i < length xs → x ≡ slice_index_or xs i x → x ≡ number_at xs i
at_zero xs i x h e = e ∙ by xs i x h
  where
    by : (xs : List ℕ) (i x : ℕ) → i < length xs → slice_index_or xs i x ≡ slice_index_or xs i 0
    by [] i x h = absurd (omega (arith, h))
    by (y ∷ ys) zero x h = refl
    by (y ∷ ys) (suc i) x h = by ys i x (omega (arith, h))

pub ordered_at : (v v0 : Standing) (lanes numbers following next : List ℕ) (first : ℕ) → v ≡ v0 → IsOrdered v lanes numbers following next first → IsOrdered v0 lanes numbers following next first
ordered_at v v0 lanes numbers following next first e k = subst (λ z. IsOrdered z lanes numbers following next first) e k

-- what is found by the tables
pub early_by_list : (v : Standing) (lanes numbers following next : List ℕ) (first : ℕ) → IsOrdered v lanes numbers following next first → (p l q : ℕ) → 1 ≤ p → p ≤ length v.script.plays → (IsEarlier numbers first p → ⊥)
    → l ≡ slice_index_or lanes p l → q ≡ slice_index_or next l q → q < p → MissesFirst v p q
early_by_list v lanes numbers following next first k p l q from to calm a b low =
    let lane = at_zero lanes p l (lane_low v lanes numbers following next first k p to) a in
    let here : l < length next = subst (λ (z : ℕ). z < length next) (sym lane) (list_low v lanes numbers following next first k p) in
    early_next v lanes numbers following next first k p q from to calm (at_zero next l q here b ∙ ap (number_at next) lane) low

pub none_by_list : (v : Standing) (lanes numbers following next : List ℕ) (first : ℕ) → IsOrdered v lanes numbers following next first → (p l q : ℕ) → 1 ≤ p → p ≤ length v.script.plays → (IsEarlier numbers first p → ⊥)
    → l ≡ slice_index_or lanes p l → q ≡ slice_index_or next l q → p ≤ q → (j : ℕ) → Misses v j p → ⊥
none_by_list v lanes numbers following next first k p l q from to calm a b far =
    let lane = at_zero lanes p l (lane_low v lanes numbers following next first k p to) a in
    let here : l < length next = subst (λ (z : ℕ). z < length next) (sym lane) (list_low v lanes numbers following next first k p) in
    early_none v lanes numbers following next first k p from to calm (subst (λ (z : ℕ). p ≤ z) (at_zero next l q here b ∙ ap (number_at next) lane) far)

pub lane_there : (v : Standing) (lanes numbers following next : List ℕ) (first : ℕ) → IsOrdered v lanes numbers following next first → (p l : ℕ) → p ≤ length v.script.plays → l ≡ slice_index_or lanes p l → l < length next
lane_there v lanes numbers following next first k p l to a =
    subst (λ (z : ℕ). z < length next) (sym (at_zero lanes p l (lane_low v lanes numbers following next first k p to) a)) (list_low v lanes numbers following next first k p)

pub mark_ordered : (v : Standing) (lanes numbers following next : List ℕ) (first : ℕ) → IsOrdered v lanes numbers following next first → (p l q x first' : ℕ) (ds : List Bool) (fs : List ℕ) → p ≤ length v.script.plays
    → l ≡ slice_index_or lanes p l → q ≡ slice_index_or next l q → ds ≡ slice_set v.done p true → fs ≡ following
    → ((lanes' : List ℕ) (l' : ℕ) → length lanes' ≡ length ds → HaveNext lanes' fs 1 → 1 ≤ q → IsLeft lanes' ds l' q → IsLeft lanes' ds l' x) → StillAt ds x
    → (IsLeast ds first → IsLeast ds first') → StillAt ds first' → IsOrdered (standing v.script v.names (slice_set v.done p true)) lanes numbers following (slice_set next l x) first'
mark_ordered v lanes numbers following next first k p l q x first' ds fs to a b e f walk still least least-still =
    let lane = at_zero lanes p l (lane_low v lanes numbers following next first k p to) a in
    let here : l < length next = lane_there v lanes numbers following next first k p l to a in
    let at : q ≡ number_at next (number_at lanes p) = at_zero next l q here b ∙ ap (number_at next) lane in
    let was = left_at v lanes numbers following next first k p ds e in
    let all : length lanes ≡ length ds = let i = k.lanes-are.total in let j = k.done-total in let z : length ds ≡ length v.done = ap length e ∙ length-set v.done p true in omega (arith, i, j, z) in
    let left = walk lanes (number_at lanes p) all (subst (λ (z : List ℕ). HaveNext lanes z 1) (sym f) k.following-are) (subst (λ (z : ℕ). 1 ≤ z) (sym at) was.0) (subst (λ (z : ℕ). IsLeft lanes ds (number_at lanes p) z) (sym at) was.1) in
    subst (λ (z : List Bool). IsOrdered (standing v.script v.names z) lanes numbers following (slice_set next l x) first') e
    (ordered_marked v lanes numbers following next first k p x first' ds (slice_set next l x) e left still (ap (λ z. slice_set next z x) lane) (least (least_on v lanes numbers following next first k p ds e)) least-still)

-- ---- the beginning

at_false : (n q : ℕ) → q < n → slice_index_or (replicate n false) q true ≡ false
at_false zero q h = absurd (omega (arith, h))
at_false (suc n) zero h = refl
at_false (suc n) (suc q) h = at_false n q (omega (arith, h))

still_none : (n q : ℕ) → 1 ≤ q → q < n + 1 → slice_index_or (true ∷ replicate n false) q true ≡ false
still_none n zero a b = absurd (omega (arith, a))
still_none n (suc q) a b = at_false n q (omega (arith, b))

pub ordered_begun : (script : Script) (names : List (List ℕ)) (done : List Bool) (lanes numbers following next : List ℕ) → length script.plays + 1 < 2 ^ 32 → done ≡ none_done script
    → ((i j : ℕ) (name : List ℕ) → slice_get names i ≡ Some name → slice_get names j ≡ Some name → i ≡ j) → HaveLanes names script.plays lanes → HavePhases script.phases numbers (length script.plays + 1)
    → AreLinked lanes (length names + 1) 1 following next → IsOrdered (standing script names done) lanes numbers following next 1
ordered_begun script names done lanes numbers following next few is distinct lanes-are numbers-are link =
    let n = length script.plays in
    let all : length done ≡ n + 1 = ap length is ∙ (let r = length-replicate n false in omega (arith, r)) in
    let total = lanes-are.total in
    let lists = link.next-total in
    let zero-is : slice_index_or done 0 true ≡ true = ap (λ z. slice_index_or z 0 true) is in
    let still : (q : ℕ) → 1 ≤ q → StillAt done q = λ q a b. ap (λ z. slice_index_or z q true) is ∙ still_none n q a (omega (arith, b, all)) in
    record {
      few = few;
      done-total = all;
      none-done = zero-is;
      distinct = distinct;
      lanes-are = lanes-are;
      numbers-are = numbers-are;
      following-total = link.following-total ∙ total;
      following-are = link.following-are;
      following-rise = link.rises;
      lists = lists;
      next-are = λ l h. let first = link.first-are l h in record {
        passed = λ q low e. dite (ℕ_discrete q 0) (λ i. ap (λ z. slice_index_or done z true) i ∙ zero-is) (λ ne. absurd (first.none q (omega (arith, ne)) low e));
        in_lane = first.in_lane;
        within = first.within;
      };
      next-still = λ l h. still (number_at next l) (link.first-are l h).from;
      first-is = record { passed = λ q h. ap (λ z. slice_index_or done z true) (omega (arith, h)) ∙ zero-is; within = omega (arith, all) };
      first-still = still 1 (omega arith);
    }

set_first : (xs : List Bool) (n : ℕ) → xs ≡ replicate (n + 1) false → slice_set xs 0 true ≡ true ∷ replicate n false
set_first xs n e = ap (λ z. slice_set z 0 true) (e ∙ ap (λ (k : ℕ). replicate k false) (plus_one n))
  where
    plus_one : (n : ℕ) → n + 1 ≡ suc n
    plus_one n = omega arith

keys_all : {V : Type 0} (pairs : List (List ℕ × V)) → length (keys_of pairs) ≡ length pairs
keys_all [] = refl
keys_all (x ∷ xs) = let k = keys_all xs in omega (arith, k)

pub ordered_made : {V : Type 0} (script : Script) (pairs : List (List ℕ × V)) (done : List Bool) (lanes numbers following next : List ℕ) (count lists : ℕ) (plays : List Play) (phases : List Phase) (lanes' : List ℕ) → count ≡ length script.plays → count + 1 < 2 ^ 32
    → done ≡ replicate (count + 1) false → ((i j : ℕ) (name : List ℕ) → slice_get (keys_of pairs) i ≡ Some name → slice_get (keys_of pairs) j ≡ Some name → i ≡ j) → plays ≡ script.plays → HaveLanes (keys_of pairs) plays lanes
    → phases ≡ script.phases → HavePhases phases numbers (count + 1) → lists ≡ length pairs → lanes' ≡ lanes → AreLinked lanes' (lists + 1) 1 following next → IsOrdered (standing script (keys_of pairs) (slice_set done 0 true)) lanes numbers following next 1
ordered_made script pairs done lanes numbers following next count lists plays phases lanes' total few none distinct a lanes-are b numbers-are all d link =
    let keys = keys_all pairs in
    ordered_begun script (keys_of pairs) (slice_set done 0 true) lanes numbers following next (omega (arith, total, few)) (set_first done count none ∙ ap (λ (k : ℕ). true ∷ replicate k false) total) distinct
    (subst (λ (z : List Play). HaveLanes (keys_of pairs) z lanes) a lanes-are)
    (subst (λ (k : ℕ). HavePhases script.phases numbers (k + 1)) total (subst (λ (z : List Phase). HavePhases z numbers (count + 1)) b numbers-are))
    (subst (λ (k : ℕ). AreLinked lanes (k + 1) 1 following next) (all ∙ sym keys) (subst (λ (z : List ℕ). AreLinked z (lists + 1) 1 following next) d link))
