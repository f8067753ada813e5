-- The lists of plays as numbers, and the next play of each list.
use Rattle.std.proofs.Common.{◌≡◌, ℕ, zero, suc, ◌<◌, ◌≤◌, ◌+◌, ◌++◌, List, [], ◌∷◌, length, replicate, slice_get, slice_index_or, slice_set, Option, Some, None, Bool, true, refl, sym, ap, ◌∙◌, subst, arith, length-append, length-set}
use Rattle.std.specs.Map.{keys_of}
use Rattle.std.proofs.lemmas.List.{get_or-set_other, get_or-set_same, length-replicate, get_or_append_left}
use Rattle.std.proofs.lemmas.Option.{slice_get_within, slice_get_past}
use Rattle.std.proofs.Math.Seq.{get_or-append_seam}
use mathlib.Core.Logic.{dite}
use native.Mathlib.Decide.{ℕ_discrete, dec_lt}
use Rattle.cycle_journal.specs.Interleaving.{Lane, changes, task_named, lane_of}
use Rattle.cycle_journal.specs.Play.{play_numbered}
use Rattle.cycle_journal.specs.declared.play.Play.{Play}
use Rattle.plant_core.specs.play_order.Private.Tables.{Grows, IsLane, HasLane, HaveLanes, number_at, IsFirst, HaveNext, IsLeft, IsLeast, AreLinked}

-- ---- numbers of lists

get_more : {A : Type 0} (xs ys : List A) (n : ℕ) (x : A) → slice_get xs n ≡ Some x → slice_get (xs ++ ys) n ≡ Some x
get_more [] ys n x e = absurd (let k : None ≡ Some x = e in cc)
get_more (y ∷ xs) ys zero x e = e
get_more (y ∷ xs) ys (suc n) x e = get_more xs ys n x e

pub grows_none : (names : List (List ℕ)) → Grows names names
grows_none names = ([], sym (append_nil names))
  where
    append_nil : (xs : List (List ℕ)) → xs ++ [] ≡ xs
    append_nil [] = refl
    append_nil (x ∷ xs) = ap (λ z. x ∷ z) (append_nil xs)

lane_more : (names names' : List (List ℕ)) (lane : Lane) (l : ℕ) → Grows names names' → IsLane names lane l → IsLane names' lane l
lane_more names names' changes l g e = e
lane_more names names' (task_named name) l g k = (k.0, k.1, ap (λ z. slice_get z k.0) g.1 ∙ get_more names g.0 k.0 name k.2)

has_more : (names names' : List (List ℕ)) (o : Option Play) (l : ℕ) → Grows names names' → HasLane names o l → HasLane names' o l
has_more names names' None l g e = e
has_more names names' (Some play) l g e = lane_more names names' (lane_of play) l g e

keys_more : {V : Type 0} (a : List (List ℕ × V)) (key : List ℕ) (x : V) → keys_of (a ++ (key, x) ∷ []) ≡ keys_of a ++ key ∷ []
keys_more [] key x = refl
keys_more (y ∷ ys) key x = ap (λ z. y.0 ∷ z) (keys_more ys key x)

-- a name that was added
pub names_grow : {V : Type 0} (a b : List (List ℕ × V)) (key : List ℕ) (x : V) → b ≡ a ++ (key, x) ∷ [] → Grows (keys_of a) (keys_of b)
names_grow a b key x e = (key ∷ [], ap keys_of e ∙ keys_more a key x)

pub name_added : {V : Type 0} (a b : List (List ℕ × V)) (key name : List ℕ) (x : V) (n : ℕ) → n ≡ length a → b ≡ a ++ (key, x) ∷ [] → key ≡ name → slice_get (keys_of b) n ≡ Some name
name_added a b key name x n is e same = rw (is, e, same) (at_end a name x)
  where
    at_end : {V : Type 0} (a : List (List ℕ × V)) (name : List ℕ) (x : V) → slice_get (keys_of (a ++ (name, x) ∷ [])) (length a) ≡ Some name
    at_end [] name x = refl
    at_end (y ∷ ys) name x = at_end ys name x

-- the first plays have the numbers of their lists
pub record Naming (names : List (List ℕ)) (plays : List Play) (i : ℕ) (lanes : List ℕ) : Type 0 where
  pub total : length lanes ≡ i + 1
  pub each : (p : ℕ) → p ≤ i → HasLane names (play_numbered plays p) (number_at lanes p)

pub naming_begun : (names : List (List ℕ)) (plays : List Play) (lanes : List ℕ) → lanes ≡ 0 ∷ [] → Naming names plays 0 lanes
naming_begun names plays lanes e = record { total = ap length e; each = λ p h. by p h }
  where
    by : (p : ℕ) → p ≤ 0 → HasLane names (play_numbered plays p) (number_at lanes p)
    by zero h = ap (λ z. number_at z 0) e
    by (suc p) h = absurd (omega (arith, h))

pub naming_next : (names names' : List (List ℕ)) (plays : List Play) (i : ℕ) (play : Play) (lane : ℕ) (lanes lanes' : List ℕ) → Naming names plays i lanes → slice_get plays i ≡ Some play → Grows names names' → IsLane names' (lane_of play) lane
    → lanes' ≡ lanes ++ lane ∷ [] → Naming names' plays (i + 1) lanes'
naming_next names names' plays i play lane lanes lanes' k here g is added =
    let total = k.total in
    record {
      total = ap length added ∙ (rw length-append (omega (arith, total)));
      each = λ p h. dite (ℕ_discrete p (i + 1))
          (λ e.
          let at : number_at lanes' p ≡ lane = ap (λ z. number_at z p) added ∙ (ap (λ z. number_at (lanes ++ lane ∷ []) z) (e ∙ sym total) ∙ get_or-append_seam lanes lane [] 0) in
          let played : play_numbered plays p ≡ Some play = ap (play_numbered plays) (e ∙ plus_one i) ∙ here in
          subst (λ z. HasLane names' z (number_at lanes' p)) (sym played) (subst (λ z. IsLane names' (lane_of play) z) (sym at) is))
          (λ ne.
          let low : p ≤ i = omega (arith, h, ne) in
          let at : number_at lanes' p ≡ number_at lanes p = ap (λ z. number_at z p) added ∙ get_or_append_left lanes (lane ∷ []) 0 p (omega (arith, low, total)) in
          subst (λ z. HasLane names' (play_numbered plays p) z) (sym at) (has_more names names' (play_numbered plays p) (number_at lanes p) g (k.each p low)));
    }
  where
    plus_one : (n : ℕ) → n + 1 ≡ suc n
    plus_one n = omega arith

past_none : (plays : List Play) (p : ℕ) → length plays < p → play_numbered plays p ≡ None
past_none plays zero h = absurd (omega (arith, h))
past_none plays (suc p) h = slice_get_past plays p (omega (arith, h))

past_zero : (xs : List ℕ) (p : ℕ) → length xs ≤ p → number_at xs p ≡ 0
past_zero [] p h = refl
past_zero (x ∷ xs) zero h = absurd (omega (arith, h))
past_zero (x ∷ xs) (suc p) h = past_zero xs p (omega (arith, h))

pub naming_ended : (names : List (List ℕ)) (plays : List Play) (i : ℕ) (lanes : List ℕ) → Naming names plays i lanes → i ≡ length plays → HaveLanes names plays lanes
naming_ended names plays i lanes k e =
    let total = k.total in
    record {
      total = total ∙ ap (λ z. z + 1) e;
      each = λ p. dite (dec_lt i p)
          (λ far. subst (λ z. HasLane names z (number_at lanes p)) (sym (past_none plays p (omega (arith, far, e)))) (past_zero lanes p (omega (arith, far, total))))
          (λ near. k.each p (omega (arith, near)));
    }

lane_below : (names : List (List ℕ)) (o : Option Play) (l : ℕ) → HasLane names o l → l < length names + 1
lane_below names None l e = omega (arith, e)
lane_below names (Some play) l e = by (lane_of play) e
  where
    by : (lane : Lane) → IsLane names lane l → l < length names + 1
    by changes e = omega (arith, e)
    by (task_named name) k = let low = slice_get_within names k.0 name k.2 in let i = k.1 in omega (arith, low, i)

pub lanes_below : (names : List (List ℕ)) (plays : List Play) (lanes : List ℕ) (p : ℕ) → HaveLanes names plays lanes → number_at lanes p < length names + 1
lanes_below names plays lanes p k = lane_below names (play_numbered plays p) (number_at lanes p) (k.each p)

-- ---- the next play of each list

at_replicate : (n d k : ℕ) → k < n → number_at (replicate n d) k ≡ d
at_replicate zero d k h = absurd (omega (arith, h))
at_replicate (suc n) d zero h = refl
at_replicate (suc n) d (suc k) h = at_replicate n d k (omega (arith, h))

pub linking_begun : (lanes following next : List ℕ) (lists : ℕ) → 1 ≤ length lanes → following ≡ replicate (length lanes) (length lanes) → next ≡ replicate lists (length lanes) → AreLinked lanes lists (length lanes) following next
linking_begun lanes following next lists some e f =
    let total : length following ≡ length lanes = ap length e ∙ length-replicate (length lanes) (length lanes) in
    let all : length next ≡ lists = ap length f ∙ length-replicate lists (length lanes) in
    record {
      from = some;
      to = omega arith;
      following-total = total;
      next-total = all;
      following-are = λ p h low. absurd (omega (arith, h, low));
      rises = λ p h. let low : p < length lanes = omega (arith, h, total) in subst (λ z. p < number_at z p) (sym e) (subst (λ z. p < z) (sym (at_replicate (length lanes) (length lanes) p low)) low);
      first-are = λ l h.
          let is : number_at next l ≡ length lanes = ap (λ z. number_at z l) f ∙ at_replicate lists (length lanes) l (omega (arith, h, all)) in
          subst (λ z. IsFirst lanes (length lanes) l z) (sym is) record { from = omega arith; none = λ k a b e. absurd (omega (arith, a, b)); in_lane = λ h. absurd (omega (arith, h)); within = omega arith };
    }

pub linking_next : (lanes : List ℕ) (lists p q lane : ℕ) (following next : List ℕ) → AreLinked lanes lists p following next → p ≡ q + 1 → 1 ≤ q → lane ≡ number_at lanes q → lane < lists
    → AreLinked lanes lists q (slice_set following q (number_at next lane)) (slice_set next lane q)
linking_next lanes lists p q lane following next k step some is low =
    let following' = slice_set following q (number_at next lane) in
    let next' = slice_set next lane q in
    let e : following' ≡ slice_set following q (number_at next lane) = refl in
    let f : next' ≡ slice_set next lane q = refl in
    let to = k.to in
    let total = k.following-total in
    let all = k.next-total in
    let here : q < length lanes = omega (arith, to, step) in
    let after : IsFirst lanes (q + 1) lane (number_at next lane) = subst (λ z. IsFirst lanes z lane (number_at next lane)) step (k.first-are lane (omega (arith, low, all))) in
    let same : number_at following' q ≡ number_at next lane = ap (λ z. number_at z q) e ∙ get_or-set_same following q (number_at next lane) 0 (omega (arith, here, total)) in
    let other : (r : ℕ) → (r ≡ q → ⊥) → number_at following' r ≡ number_at following r = λ r ne. ap (λ z. number_at z r) e ∙ get_or-set_other following q r (number_at next lane) 0 ne in
    let total' : length following' ≡ length following = ap length e ∙ length-set following q (number_at next lane) in
    let all' : length next' ≡ length next = ap length f ∙ length-set next lane q in
    record {
      from = some;
      to = omega (arith, to, step);
      following-total = total' ∙ total;
      next-total = all' ∙ all;
      following-are = λ r h below. dite (ℕ_discrete r q)
          (λ i. subst (λ z. IsFirst lanes (z + 1) (number_at lanes z) (number_at following' z)) (sym i) (subst (λ z. IsFirst lanes (q + 1) (number_at lanes q) z) (sym same) (subst (λ z. IsFirst lanes (q + 1) z (number_at next lane)) is after)))
          (λ ne. subst (λ z. IsFirst lanes (r + 1) (number_at lanes r) z) (sym (other r ne)) (k.following-are r (omega (arith, h, ne, step)) below));
      rises = λ r h. dite (ℕ_discrete r q)
          (λ i. let past = after.from in omega (arith, past, same, i, ap (number_at following') i))
          (λ ne. subst (λ z. r < z) (sym (other r ne)) (k.rises r (omega (arith, h, total'))));
      first-are = λ l h. dite (ℕ_discrete l lane)
          (λ i.
          let at : number_at next' l ≡ q = ap (λ z. number_at z l) f ∙ (ap (λ z. number_at (slice_set next lane q) z) i ∙ get_or-set_same next lane q 0 (omega (arith, low, all))) in
          subst (λ z. IsFirst lanes q l z) (sym at) record { from = omega arith; none = λ j a b e. absurd (omega (arith, a, b)); in_lane = λ h. sym is ∙ sym i; within = omega (arith, here) })
          (λ ne.
          let at : number_at next' l ≡ number_at next l = ap (λ z. number_at z l) f ∙ get_or-set_other next lane l q 0 ne in
          let was = k.first-are l (omega (arith, h, all')) in
          let past = was.from in
          subst (λ z. IsFirst lanes q l z) (sym at) record {
            from = omega (arith, past, step);
            none = λ j a b e. dite (ℕ_discrete j q)
                (λ i. ne (sym e ∙ (ap (number_at lanes) i ∙ sym is)))
                (λ apart. was.none j (omega (arith, a, apart, step)) b e);
            in_lane = was.in_lane;
            within = was.within;
          });
    }

pub linking_ended : (lanes : List ℕ) (lists p : ℕ) (following next : List ℕ) → AreLinked lanes lists p following next → p ≤ 1 → AreLinked lanes lists 1 following next
linking_ended lanes lists p following next k h = let from = k.from in subst (λ z. AreLinked lanes lists z following next) (omega (arith, from, h)) k

-- ---- the first play that is left

pub marked_at : (ds : List Bool) (i : ℕ) (d : Bool) → i < length ds → slice_index_or ds i d ≡ true → slice_index_or ds i true ≡ true
marked_at [] i d h e = absurd (omega (arith, h))
marked_at (x ∷ xs) zero d h e = e
marked_at (x ∷ xs) (suc i) d h e = marked_at xs i d (omega (arith, h)) e

pub record LeftFrom (following : List ℕ) (done : List Bool) (start next : ℕ) : Type 0 where
  pub left : (lanes : List ℕ) (l : ℕ) → length lanes ≡ length done → HaveNext lanes following 1 → 1 ≤ start → IsLeft lanes done l start → (1 ≤ next) × IsLeft lanes done l next

pub left_begun : (following : List ℕ) (done : List Bool) (start : ℕ) → LeftFrom following done start start
left_begun following done start = record { left = λ lanes l same have some k. (some, k) }

pub left_next : (following : List ℕ) (done : List Bool) (start next next' : ℕ) → LeftFrom following done start next → next < length done → slice_index_or done next true ≡ true → next' ≡ number_at following next → LeftFrom following done start next'
left_next following done start next next' k low is step = record {
  left = λ lanes l same have some start-is.
      let was = k.left lanes l same have some start-is in
      let here : next < length lanes = omega (arith, low, same) in
      let in-lane = was.1.in_lane here in
      let after : IsFirst lanes (next + 1) (number_at lanes next) next' = subst (λ z. IsFirst lanes (next + 1) (number_at lanes next) z) (sym step) (have next was.0 here) in
      let past = after.from in (
        omega (arith, past),
        record {
          passed = λ j h e. dite (ℕ_discrete j next)
              (λ i. ap (λ z. slice_index_or done z true) i ∙ is)
              (λ ne. dite (dec_lt j next) (λ before. was.1.passed j before e) (λ behind. absurd (after.none j (omega (arith, ne, behind)) h (e ∙ sym in-lane))));
          in_lane = λ h. after.in_lane h ∙ in-lane;
          within = after.within;
        },
      );
}

pub record LeastFrom (done : List Bool) (start first : ℕ) : Type 0 where
  pub left : IsLeast done start → IsLeast done first

pub least_begun : (done : List Bool) (start : ℕ) → LeastFrom done start start
least_begun done start = record { left = λ k. k }

pub least_next : (done : List Bool) (start first : ℕ) → LeastFrom done start first → first < length done → slice_index_or done first true ≡ true → LeastFrom done start (first + 1)
least_next done start first k low is = record {
  left = λ start-is. let was = k.left start-is in record {
    passed = λ j h. dite (ℕ_discrete j first) (λ i. ap (λ z. slice_index_or done z true) i ∙ is) (λ ne. was.passed j (omega (arith, h, ne)));
    within = omega (arith, low);
  };
}
