-- The steps on numbers keep the rule of the table.
use Rattle.std.proofs.Common.{◌≡◌, ℕ, zero, suc, ◌+◌, ◌<◌, ◌≤◌, List, [], ◌∷◌, ◌++◌, length, Bool, true, false, ◌==◌, ne_eqb, eq-eqb, Option, Some, slice_set, set, refl, sym, ap, ◌∙◌, subst, ⊎_elim, ◌⊎◌, inl, inr, arith}
use Rattle.std.specs.Prelude.{slice_index, MatchBool, nat_lt}
use Rattle.std.proofs.lemmas.Bool.Decides.{nat_tests}
use Rattle.std.specs.Option.{option_to_list}
use Rattle.std.proofs.lemmas.List.{length-append}
use mathlib.Core.Option.{some, none, some-injective, some-ne-none}
use lib.ListN.{get_elem?}
use prog.Atomic.{either}
use Rattle.atomic_table.specs.Table.{State as Table, Me, Act, keeps, Valid, stepped, carried_after, Allows, Splits, Joins, step}
use Rattle.atomic_table.proofs.Lists.{at_set, exchanged}
use Rattle.plant_rules.specs.Meaning.{Meaning, Has, Once}
use Rattle.plant_rules.specs.History.{Past, Step}
use Rattle.plant_cell.specs.Known.{Known, AllBelow, Since, looked, drawn, left_with, handed_on, joined, spent_pass, longer_of, others_of, last_of}
use Rattle.plant_cell.specs.Rule.{Fits, Apart, Kept, Looked, Looks, Draws}
use Rattle.plant_cell.specs.Plant.{AtRest}
use Rattle.plant_cell.specs.Split.{Provided, HandsOn}
use Rattle.plant_cell.proofs.NumberLists.{has_left, has_right, has_either, has_one, once_joined, once_left, once_right, once_apart, cut_whole, none_empty, none_both, none_above, below_behind, below_more, none_shorter, since_fewer, cut_snoc, once_few}
use Rattle.plant_cell.proofs.TurnSteps.{each_after, apart_set, stays}

last_place : {A : Type 0} (l : List A) (a b : A) (j : ℕ) → get_elem? (l ++ a ∷ []) j ≡ some b → (get_elem? l j ≡ some b) ⊎ ((j ≡ length l) × (a ≡ b))
last_place [] a b zero e = inr (refl, some-injective a b e)
last_place [] a b (suc j) e = absurd (some-ne-none b (sym e))
last_place (x ∷ xs) a b zero e = inl e
last_place (x ∷ xs) a b (suc j) e = ⊎_elim (λ t. inl t) (λ t. inr (ap suc t.0, t.1)) (last_place xs a b j e)

pub more_than_one : (numbers all : List ℕ) (least limit : ℕ) → Provided numbers least limit all → 1 < length all
more_than_one numbers all least limit p =
    ⊎_elim (λ q. (let e : length all ≡ length numbers = ap length q.0 in let l = q.1 in omega arith))
    (λ q. (let e : length all ≡ length (numbers ++ q.1.0 ∷ []) = ap length q.1.1 in let f = length-append numbers (q.1.0 ∷ []) in let l = q.0 in omega arith)) p

pub hands_on : (numbers ns xs ys zs : List ℕ) (least limit : ℕ) (r : Option ℕ) (n : ℕ) → Provided numbers least limit ns → ns ≡ xs ++ option_to_list r → r ≡ Some n → ys ≡ zs ++ n ∷ [] → zs ≡ [] → HandsOn numbers least limit xs ys
hands_on numbers ns xs ys zs least limit r n p is e fill bare =
    let ys' : ys ≡ n ∷ [] = fill ∙ ap (λ (z : List ℕ). z ++ n ∷ []) bare in
    record {
      all = ns;
      from = p;
      whole = ap (λ (z : List ℕ). xs ++ z) ys' ∙ sym (is ∙ ap (λ (o : Option ℕ). xs ++ option_to_list o) e);
      one = ap length ys';
    }

module _ {W : Type 0} where
  -- the count becomes another, and one view with it
  recount : (start : Past W) (limit : ℕ) (s : Table (Option (Past W)) (Known W)) (k : Kept start limit s) (id n made' : ℕ) (v w : Known W) → get_elem? s.views id ≡ some v → n ≡ made' → k.made ≤ made' → made' ≤ limit
      → w.holds ≡ v.holds → Fits start limit k.log made' k.turn k.holder id w → Apart (set s.views id w)
      → Kept start limit record { words = slice_set s.words 2 n; homes = s.homes; views = slice_set s.views id w }
  recount start limit s k id n made' v w at is le few same fit apart =
      record {
        log = k.log;
        turn = k.turn;
        made = made';
        holder = k.holder;
        words = ap (λ ws. slice_set ws 2 n) k.words ∙ ap (λ z. k.turn ∷ length k.log ∷ z ∷ []) is;
        home = k.home;
        away = k.away;
        idle = λ z. each_after (λ j u. u.holds ≡ false) s.views id w (same ∙ k.idle z id v at) (λ j u out e. k.idle z j u e);
        fits = each_after (Fits start limit k.log made' k.turn k.holder) s.views id w fit
            (λ j u out e. stays start limit k.log k.made made' k.turn k.turn k.holder k.holder j u le (k.fits j u e) (k.fits j u e).in-turn);
        apart = apart;
        authors = below_more k.made made' k.log le k.authors;
        few = few;
      }

  looks_step : (start : Past W) (limit : ℕ) (s : Table (Option (Past W)) (Known W)) (k : Kept start limit s) (id n : ℕ) (v : Known W) → get_elem? s.views id ≡ some v → n ≡ k.made
      → Kept start limit record { words = slice_set s.words 2 n; homes = s.homes; views = slice_set s.views id (looked v n) }
  looks_step start limit s k id n v at is =
      let f = k.fits id v at in
      recount start limit s k id n k.made v (looked v n) at is (omega arith) k.few refl
      record { start-is = f.start-is; numbers-made = f.numbers-made; once = f.once; since = f.since; least-is = (let i = is in omega arith); in-turn = f.in-turn }
      (apart_set s.views id v (looked v n) at k.apart (λ m h. inl h))

  looks_told : (start : Past W) (limit : ℕ) (s : Table (Option (Past W)) (Known W)) (k : Kept start limit s) (id n : ℕ) (v : Known W) (c : List (ℕ × Option (Past W))) → get_elem? s.views id ≡ some v → n ≡ k.made
      → Looked (v, c) n (looked v n, c)
  looks_told start limit s k id n v c at is =
      let f = k.fits id v at in
      let i : n ≡ k.made = is in
      record {
        now = refl;
        least-is = (let l = f.least-is in omega arith);
        few = λ st has. (let b : v.limit ≡ limit = (f.start-is st has).1 in let l = k.few in omega arith);
        once = f.once;
        below = λ m h. (let l = f.numbers-made m h in omega arith);
      }

  pub looks_allowed : (start : Past W) (limit slots id : ℕ) (me : Me (Option (Past W)) (Known W))
      → Allows (Kept start limit) slots id me 2 (λ n. n) (Looks (step slots 2 0 0 none) me)
  looks_allowed start limit slots id me s k count at fits =
      let here : slice_index s.words 2 ≡ k.made = ap (λ ws. slice_index ws 2) k.words in
      (looked me.0 (slice_index s.words 2), keeps, tt, looks_step start limit s k id (slice_index s.words 2) me.0 at here, looks_told start limit s k id (slice_index s.words 2) me.0 me.1 at here)

  draws_step : (start : Past W) (limit : ℕ) (s : Table (Option (Past W)) (Known W)) (k : Kept start limit s) (id n m : ℕ) (v : Known W) → get_elem? s.views id ≡ some v → n ≡ k.made → m ≡ n + 1 → n < limit
      → Kept start limit record { words = slice_set s.words 2 m; homes = s.homes; views = slice_set s.views id (drawn v n) }
  draws_step start limit s k id n m v at is more room =
      let f = k.fits id v at in
      let i : n ≡ k.made = is in
      let below : AllBelow n f.since.more = below_behind n v.seen f.since.more (subst (λ (z : List (Step W)). AllBelow n z) f.since.is (subst (λ (z : ℕ). AllBelow z k.log) (sym is) k.authors)) in
      recount start limit s k id m (n + 1) v (drawn v n) at more (omega arith) (omega arith) refl
      record {
        start-is = f.start-is;
        numbers-made = λ a h. ⊎_elim (λ o. (let l = f.numbers-made a o in omega arith)) (λ t. (let e : a ≡ n = has_one n a t in omega arith)) (has_either v.numbers (n ∷ []) a h);
        once = once_joined v.numbers (n ∷ []) f.once ((λ h. h), tt) (λ a h t. (let e : a ≡ n = has_one n a t in let l = f.numbers-made a h in omega arith));
        since = record { more = f.since.more; is = f.since.is; others = none_both v.numbers (n ∷ []) f.since.more f.since.others (none_above n f.since.more below) };
        least-is = omega arith;
        in-turn = f.in-turn;
      }
      (apart_set s.views id v (drawn v n) at k.apart (λ a h. ⊎_elim (λ o. inl o)
      (λ t. inr (λ j u e b. (let q : a ≡ n = has_one n a t in let l = (k.fits j u e).numbers-made a b in omega arith)))
      (has_either v.numbers (n ∷ []) a h)))

  drawn_told : (n old : ℕ) (v w : Me (Option (Past W)) (Known W)) → n ≡ old → w ≡ (drawn v.0 n, v.1) → MatchBool (n == old) (w ≡ (drawn v.0 n, v.1)) (Looked v n w)
  drawn_told n old v w e t = rw (eq-eqb n old e) t

  pub draws_allowed : (start : Past W) (limit slots id old : ℕ) (me : Me (Option (Past W)) (Known W)) (st : Past W) → me.0.start ≡ Some st → old < me.0.limit
      → Allows (Kept start limit) slots id me 2 (λ n. either (n == old) (old + 1) n) (Draws (step slots 2 old (old + 1) none) me)
  draws_allowed start limit slots id old me st has below s k count at fits =
      let b : me.0.limit ≡ limit = ((k.fits id me.0 at).start-is st has).1 in
      let room : old < limit = omega arith in
      let here : slice_index s.words 2 ≡ k.made = ap (λ ws. slice_index ws 2) k.words in
      exchanged (slice_index s.words 2) old (old + 1)
      (λ n. (w : Known W) × (a : Act (Option (Past W))) × Valid s.homes me.1 a × Kept start limit (stepped s 2 n id me.1 w a) × Draws (step slots 2 old (old + 1) none) me (slice_index s.words 2) (w, carried_after me.1 a))
      (λ e. (
        drawn me.0 (slice_index s.words 2),
        keeps,
        tt,
        draws_step start limit s k id (slice_index s.words 2) (old + 1) me.0 at here (ap (λ (z : ℕ). z + 1) (sym e)) (subst (λ (z : ℕ). z < limit) (sym e) room),
        drawn_told (slice_index s.words 2) old me (drawn me.0 (slice_index s.words 2), me.1) e refl,
      ))
      (λ ne. (
        looked me.0 (slice_index s.words 2),
        keeps,
        tt,
        looks_step start limit s k id (slice_index s.words 2) me.0 at here,
        rw (ne_eqb (slice_index s.words 2) old ne) (looks_told start limit s k id (slice_index s.words 2) me.0 me.1 at here),
      ))

  -- ---- split

  own_left : (v : Known W) (n : ℕ) → Has (others_of v.numbers) n → Has v.numbers n
  own_left v n h = subst (λ (z : List ℕ). Has z n) (cut_whole v.numbers) (has_left (others_of v.numbers) (last_of v.numbers) n h)

  own_right : (v : Known W) (n : ℕ) → Has (last_of v.numbers) n → Has v.numbers n
  own_right v n h = subst (λ (z : List ℕ). Has z n) (cut_whole v.numbers) (has_right (others_of v.numbers) (last_of v.numbers) n h)

  apart_cut : (l : List (Known W)) (id : ℕ) (v : Known W) → get_elem? l id ≡ some v → Once v.numbers → Apart l → Apart (set l id (left_with v) ++ handed_on v ∷ [])
  apart_cut l id v at once apart i j n a b e f h k =
      let whole : Once (others_of v.numbers ++ last_of v.numbers) = subst (λ (z : List ℕ). Once z) (sym (cut_whole v.numbers)) once in
      let l' = set l id (left_with v) in
      let none_has : (x : ℕ) (u : Known W) → get_elem? l' x ≡ some u → Has u.numbers n → Has (last_of v.numbers) n → ⊥ =
      λ x u q hu hr. ⊎_elim (λ t. once_apart (others_of v.numbers) (last_of v.numbers) whole n (subst (λ (z : Known W). Has z.numbers n) (sym t.1) hu) hr)
      (λ t. t.0 (apart x id n u v t.1 at hu (own_right v n hr))) (at_set l id x (left_with v) u q) in
      ⊎_elim
      (λ p. ⊎_elim (λ q. apart_set l id v (left_with v) at apart (λ m hm. inl (own_left v m hm)) i j n a b p q h k)
      (λ q. absurd (none_has i a p h (subst (λ (z : Known W). Has z.numbers n) (sym q.1) k))) (last_place l' (handed_on v) b j f))
      (λ p. ⊎_elim (λ q. absurd (none_has j b q k (subst (λ (z : Known W). Has z.numbers n) (sym p.1) h)))
      (λ q. p.0 ∙ sym q.0) (last_place l' (handed_on v) b j f))
      (last_place l' (handed_on v) a i e)

  pub splits : (start : Past W) (limit id : ℕ) (v : Known W) → Splits (Kept start limit) id v (left_with v) (handed_on v)
  splits start limit id v s k at =
      let f = k.fits id v at in
      let whole : Once (others_of v.numbers ++ last_of v.numbers) = subst (λ (z : List ℕ). Once z) (sym (cut_whole v.numbers)) f.once in
      let l' = set s.views id (left_with v) in
      let fit_left : Fits start limit k.log k.made k.turn k.holder id (left_with v) = record {
        start-is = f.start-is;
        numbers-made = λ n h. f.numbers-made n (own_left v n h);
        once = once_left (others_of v.numbers) (last_of v.numbers) whole;
        since = since_fewer (others_of v.numbers) v.numbers v.seen k.log (own_left v) f.since;
        least-is = f.least-is;
        in-turn = f.in-turn;
      } in
      let fit_right : (j : ℕ) → Fits start limit k.log k.made k.turn k.holder j (handed_on v) = λ j. record {
        start-is = f.start-is;
        numbers-made = λ n h. f.numbers-made n (own_right v n h);
        once = once_right (others_of v.numbers) (last_of v.numbers) whole;
        since = since_fewer (last_of v.numbers) v.numbers v.seen k.log (own_right v) f.since;
        least-is = f.least-is;
        in-turn = λ h. absurd cc;
      } in
      record {
        log = k.log;
        turn = k.turn;
        made = k.made;
        holder = k.holder;
        words = k.words;
        home = k.home;
        away = k.away;
        idle = λ z j u e. ⊎_elim (λ p. each_after (λ x y. y.holds ≡ false) s.views id (left_with v) (k.idle z id v at) (λ x y out q. k.idle z x y q) j u p)
            (λ p. ap (λ (y : Known W). y.holds) (sym p.1)) (last_place l' (handed_on v) u j e);
        fits = λ j u e. ⊎_elim (λ p. each_after (Fits start limit k.log k.made k.turn k.holder) s.views id (left_with v) fit_left (λ x y out q. k.fits x y q) j u p)
            (λ p. subst (λ (y : Known W). Fits start limit k.log k.made k.turn k.holder j y) p.1 (fit_right j)) (last_place l' (handed_on v) u j e);
        apart = apart_cut s.views id v at f.once k.apart;
        authors = k.authors;
        few = k.few;
      }

  -- ---- join

  longer_is : (a b : List (Step W)) (c : Bool) → nat_lt (length a) (length b) ≡ c → ((longer_of a b ≡ b) × (length a ≤ length b)) ⊎ ((longer_of a b ≡ a) × (length b ≤ length a))
  longer_is a b true e = inl (rw e refl, grind (arith, nat_tests))
  longer_is a b false e = inr (rw e refl, grind (arith, nat_tests))

  since_longer : (ns ms : List ℕ) (a b log : List (Step W)) → Since ns a log → Since ms b log → Since (ns ++ ms) (longer_of a b) log
  since_longer ns ms a b log s t =
      ⊎_elim
      (λ p. subst (λ (z : List (Step W)). Since (ns ++ ms) z log) (sym p.0)
      record { more = t.more; is = t.is; others = none_both ns ms t.more (none_shorter ns a b s.more t.more (sym s.is ∙ t.is) p.1 s.others) t.others })
      (λ p. subst (λ (z : List (Step W)). Since (ns ++ ms) z log) (sym p.0)
      record { more = s.more; is = s.is; others = none_both ns ms s.more s.others (none_shorter ms b a t.more s.more (sym t.is ∙ s.is) p.1 t.others) })
      (longer_is a b (nat_lt (length a) (length b)) refl)

  -- where a number of a view stands, once two views are one
  place_of : (l : List (Known W)) (id other : ℕ) (x y : Known W) (i : ℕ) (a : Known W) → get_elem? (set (set l id x) other y) i ≡ some a
      → ((i ≡ other) × (y ≡ a)) ⊎ (((i ≡ other → ⊥) × ((i ≡ id) × (x ≡ a))) ⊎ ((i ≡ other → ⊥) × ((i ≡ id → ⊥) × (get_elem? l i ≡ some a))))
  place_of l id other x y i a e = ⊎_elim (λ t. inl t) (λ t. inr (⊎_elim (λ p. inl (t.0, p)) (λ p. inr (t.0, p)) (at_set l id i x a t.1))) (at_set (set l id x) other i y a e)

  apart_joined : (l : List (Known W)) (id other : ℕ) (v w : Known W) → get_elem? l id ≡ some v → get_elem? l other ≡ some w → Apart l → Apart (set (set l id (joined v w)) other spent_pass)
  apart_joined l id other v w at there apart i j n a b e f h k =
      let clash : (x : ℕ) (u : Known W) → (x ≡ other → ⊥) → (x ≡ id → ⊥) → get_elem? l x ≡ some u → Has u.numbers n → Has (v.numbers ++ w.numbers) n → ⊥ =
      λ x u far away q hu hj. ⊎_elim (λ o. away (apart x id n u v q at hu o)) (λ o. far (apart x other n u w q there hu o)) (has_either v.numbers w.numbers n hj) in
      let both_has : (z : Known W) → joined v w ≡ z → Has z.numbers n → Has (v.numbers ++ w.numbers) n = λ z q hz. subst (λ (y : Known W). Has y.numbers n) (sym q) hz in
      let none_has : (z : Known W) → spent_pass ≡ z → Has z.numbers n → ⊥ = λ z q hz. subst (λ (y : Known W). Has y.numbers n) (sym q) hz in
      ⊎_elim (λ p. absurd (none_has a p.1 h))
      (λ p. ⊎_elim (λ q. absurd (none_has b q.1 k))
      (λ q. ⊎_elim
      (λ s. ⊎_elim (λ t. s.1.0 ∙ sym t.1.0) (λ t. absurd (clash j b t.0 t.1.0 t.1.1 k (both_has a s.1.1 h))) q)
      (λ s. ⊎_elim (λ t. absurd (clash i a s.0 s.1.0 s.1.1 h (both_has b t.1.1 k))) (λ t. apart i j n a b s.1.1 t.1.1 h k) q) p)
      (place_of l id other (joined v w) spent_pass j b f))
      (place_of l id other (joined v w) spent_pass i a e)

  pub joins : (start : Past W) (limit id other : ℕ) (v w : Known W) → Joins (Kept start limit) id v other w (joined v w) spent_pass
  joins start limit id other v w s k at apart_seats after =
      let there : get_elem? s.views other ≡ some w = ⊎_elim (λ t. absurd (apart_seats t.0)) (λ t. t.1) (at_set s.views id other (joined v w) w after) in
      let f = k.fits id v at in
      let o = k.fits other w there in
      let both : Fits start limit k.log k.made k.turn k.holder id (joined v w) = record {
        start-is = f.start-is;
        numbers-made = λ n h. ⊎_elim (f.numbers-made n) (o.numbers-made n) (has_either v.numbers w.numbers n h);
        once = once_joined v.numbers w.numbers f.once o.once (λ n h i. apart_seats (sym (k.apart id other n v w at there h i)));
        since = since_longer v.numbers w.numbers v.seen w.seen k.log f.since o.since;
        least-is = f.least-is;
        in-turn = f.in-turn;
      } in
      let bare : (j : ℕ) → Fits start limit k.log k.made k.turn k.holder j spent_pass = λ j. record {
        start-is = λ st e. absurd cc;
        numbers-made = λ n h. absurd h;
        once = tt;
        since = record { more = k.log; is = refl; others = none_empty k.log };
        least-is = omega arith;
        in-turn = λ h. absurd cc;
      } in
      record {
        log = k.log;
        turn = k.turn;
        made = k.made;
        holder = k.holder;
        words = k.words;
        home = k.home;
        away = k.away;
        idle = λ z. each_after (λ x y. y.holds ≡ false) (set s.views id (joined v w)) other spent_pass refl
            (λ j u out e. each_after (λ x y. y.holds ≡ false) s.views id (joined v w) (k.idle z id v at) (λ x y far q. k.idle z x y q) j u e);
        fits = each_after (Fits start limit k.log k.made k.turn k.holder) (set s.views id (joined v w)) other spent_pass (bare other)
            (λ j u out e. each_after (Fits start limit k.log k.made k.turn k.holder) s.views id (joined v w) both (λ x y far q. k.fits x y q) j u e);
        apart = apart_joined s.views id other v w at there k.apart;
        authors = k.authors;
        few = k.few;
      }

  -- ---- what the calls ask for

  pub looked_again : (v w u : Me (Option (Past W)) (Known W)) (n m : ℕ) → Looked v n w → Looked w m u → Looked v m u
  looked_again v w u n m a b =
      let same : (w.0.numbers ≡ v.0.numbers) × (w.0.start ≡ v.0.start) × (w.0.limit ≡ v.0.limit) × (w.0.least ≡ n) =
      (ap (λ (z : Me (Option (Past W)) (Known W)). z.0.numbers) a.now, ap (λ (z : Me (Option (Past W)) (Known W)). z.0.start) a.now, ap (λ (z : Me (Option (Past W)) (Known W)). z.0.limit) a.now, ap (λ (z : Me (Option (Past W)) (Known W)). z.0.least) a.now) in
      record {
        now = b.now ∙ ap (λ (z : Me (Option (Past W)) (Known W)). (looked z.0 m, z.1)) a.now;
        least-is = (let x = a.least-is in let y = b.least-is in let e = same.3 in omega arith);
        few = λ st has. (let x = b.few st (same.1 ∙ has) in let e = same.2 in omega arith);
        once = a.once;
        below = λ k h. b.below k (subst (λ (z : List ℕ). Has z k) (sym same.0) h);
      }

  pub drawn_after : (v w u : Me (Option (Past W)) (Known W)) (n m old : ℕ) → Looked v n w → m ≡ old → MatchBool (m == old) (u ≡ (drawn w.0 m, w.1)) (Looked w m u) → u ≡ (drawn v.0 m, v.1)
  drawn_after v w u n m old a e t =
      let h : MatchBool true (u ≡ (drawn w.0 m, w.1)) (Looked w m u) = subst (λ (b : Bool). MatchBool b (u ≡ (drawn w.0 m, w.1)) (Looked w m u)) (eq-eqb m old e) t in
      h ∙ ap (λ (z : Me (Option (Past W)) (Known W)). (drawn z.0 m, z.1)) a.now

  pub missed_after : (v w u : Me (Option (Past W)) (Known W)) (n m old : ℕ) → Looked v n w → (m ≡ old → ⊥) → MatchBool (m == old) (u ≡ (drawn w.0 m, w.1)) (Looked w m u) → Looked w m u
  missed_after v w u n m old a ne t = subst (λ (b : Bool). MatchBool b (u ≡ (drawn w.0 m, w.1)) (Looked w m u)) (ne_eqb m old ne) t

  pub draws_asks : (start : Past W) (limit slots id old passes n : ℕ) (v w : Me (Option (Past W)) (Known W)) (st : Past W) → Looked v n w → v.0.start ≡ Some st → v.0.limit ≡ passes → old < passes
      → Allows (Kept start limit) slots id w 2 (λ m. either (m == old) (old + 1) m) (Draws (step slots 2 old (old + 1) none) w)
  draws_asks start limit slots id old passes n v w st a has is below =
      let same : w.0.limit ≡ passes = ap (λ (z : Me (Option (Past W)) (Known W)). z.0.limit) a.now ∙ is in
      draws_allowed start limit slots id old w st (ap (λ (z : Me (Option (Past W)) (Known W)). z.0.start) a.now ∙ has) (omega arith)

-- ---- passes at rest

module _ {W : Type 0} (m : Meaning W) where
  pub rest_left : (st : Past W) (limit : ℕ) (ns xs : List ℕ) (r : Option ℕ) (n : ℕ) (me me' : Me (Option (Past W)) (Known W)) → AtRest m st limit ns me → 1 < length ns → ns ≡ xs ++ option_to_list r → r ≡ Some n → me' ≡ (left_with me.0, me.1)
      → AtRest m st limit xs me'
  rest_left st limit ns xs r n me me' a some_more is e now =
      let ns' : ns ≡ xs ++ n ∷ [] = is ∙ ap (λ (o : Option ℕ). xs ++ option_to_list o) e in
      let l : length ns ≡ length (xs ++ n ∷ []) = ap length ns' in
      subst (λ (z : Me (Option (Past W)) (Known W)). AtRest m st limit xs z) (sym now)
      record {
        pass = record {
          start-is = a.pass.start-is;
          limit-is = a.pass.limit-is;
          numbers-are = ap others_of (a.pass.numbers-are ∙ ns') ∙ (cut_snoc xs n).0;
          some-number = (let f = length-append xs (n ∷ []) in omega (arith, some_more, l, f));
          right = a.pass.right;
        };
        slots = a.slots;
        no-turn = a.no-turn;
      }

  pub rest_right : (st : Past W) (limit : ℕ) (ns xs ys zs : List ℕ) (r : Option ℕ) (n : ℕ) (me me' : Me (Option (Past W)) (Known W)) → AtRest m st limit ns me → ns ≡ xs ++ option_to_list r → r ≡ Some n → ys ≡ zs ++ n ∷ [] → zs ≡ [] → me' ≡ (handed_on me.0, [])
      → AtRest m st limit ys me'
  rest_right st limit ns xs ys zs r n me me' a is e fill bare now =
      let ns' : ns ≡ xs ++ n ∷ [] = is ∙ ap (λ (o : Option ℕ). xs ++ option_to_list o) e in
      let ys' : ys ≡ n ∷ [] = fill ∙ ap (λ (z : List ℕ). z ++ n ∷ []) bare in
      subst (λ (z : Me (Option (Past W)) (Known W)). AtRest m st limit ys z) (sym now)
      record {
        pass = record {
          start-is = a.pass.start-is;
          limit-is = a.pass.limit-is;
          numbers-are = ap last_of (a.pass.numbers-are ∙ ns') ∙ ((cut_snoc xs n).1 ∙ sym ys');
          some-number = subst (λ (z : List ℕ). 0 < length z) (sym ys') (omega arith);
          right = a.pass.right;
        };
        slots = refl;
        no-turn = refl;
      }

  pub rest_provided : (st : Past W) (limit : ℕ) (ns xs : List ℕ) (n : ℕ) (me me' : Me (Option (Past W)) (Known W)) → AtRest m st limit ns me → xs ≡ ns ++ n ∷ [] → me' ≡ (drawn me.0 n, me.1) → AtRest m st limit xs me'
  rest_provided st limit ns xs n me me' a is now =
      subst (λ (z : Me (Option (Past W)) (Known W)). AtRest m st limit xs z) (sym now)
      record {
        pass = record {
          start-is = a.pass.start-is;
          limit-is = a.pass.limit-is;
          numbers-are = ap (λ (z : List ℕ). z ++ n ∷ []) a.pass.numbers-are ∙ sym is;
          some-number = (let f = length-append ns (n ∷ []) in let l : length xs ≡ length (ns ++ n ∷ []) = ap length is in omega (arith, f, l));
          right = a.pass.right;
        };
        slots = a.slots;
        no-turn = a.no-turn;
      }

  pub rest_looked : (st : Past W) (limit : ℕ) (ns : List ℕ) (n : ℕ) (me me' : Me (Option (Past W)) (Known W)) → AtRest m st limit ns me → me' ≡ (looked me.0 n, me.1) → AtRest m st limit ns me'
  rest_looked st limit ns n me me' a now =
      subst (λ (z : Me (Option (Past W)) (Known W)). AtRest m st limit ns z) (sym now)
      record {
        pass = record { start-is = a.pass.start-is; limit-is = a.pass.limit-is; numbers-are = a.pass.numbers-are; some-number = a.pass.some-number; right = a.pass.right };
        slots = a.slots;
        no-turn = a.no-turn;
      }

  pub rest_joined : (st : Past W) (limit : ℕ) (ns ms xs : List ℕ) (n : ℕ) (me other me' me'' : Me (Option (Past W)) (Known W)) → AtRest m st limit ns me → AtRest m st limit ms other → me' ≡ (joined me.0 other.0, me.1) → Looked me' n me'' → xs ≡ ns ++ ms
      → AtRest m st limit xs me''
  rest_joined st limit ns ms xs n me other me' me'' a b now told is =
      let j : AtRest m st limit xs (joined me.0 other.0, me.1) = record {
        pass = record {
          start-is = a.pass.start-is;
          limit-is = a.pass.limit-is;
          numbers-are = ap (λ (z : List ℕ). z ++ other.0.numbers) a.pass.numbers-are ∙ (ap (λ (z : List ℕ). ns ++ z) b.pass.numbers-are ∙ sym is);
          some-number = (let f = length-append ns ms in let s = a.pass.some-number in let l : length xs ≡ length (ns ++ ms) = ap length is in omega (arith, f, s, l));
          right = a.pass.right;
        };
        slots = a.slots;
        no-turn = a.no-turn;
      } in
      rest_looked st limit xs n me' me'' (subst (λ (z : Me (Option (Past W)) (Known W)). AtRest m st limit xs z) (sym now) j) told.now

  pub room_joined : (st : Past W) (limit : ℕ) (ns ms : List ℕ) (n : ℕ) (me other me' me'' : Me (Option (Past W)) (Known W)) → AtRest m st limit ns me → AtRest m st limit ms other → me' ≡ (joined me.0 other.0, me.1) → Looked me' n me'' → limit ≤ 64
      → length ns + length ms ≤ 64
  room_joined st limit ns ms n me other me' me'' a b now told few =
      let all : me'.0.numbers ≡ ns ++ ms = ap (λ (z : Me (Option (Past W)) (Known W)). z.0.numbers) now ∙ (ap (λ (z : List ℕ). z ++ other.0.numbers) a.pass.numbers-are ∙ ap (λ (z : List ℕ). ns ++ z) b.pass.numbers-are) in
      let l : length me'.0.numbers ≤ n = once_few n me'.0.numbers told.once told.below in
      let e : length me'.0.numbers ≡ length (ns ++ ms) = ap length all in
      let f = length-append ns ms in
      let k : me'.0.limit ≡ limit = ap (λ (z : Me (Option (Past W)) (Known W)). z.0.limit) now ∙ a.pass.limit-is in
      let h : n ≤ me'.0.limit = told.few st (ap (λ (z : Me (Option (Past W)) (Known W)). z.0.start) now ∙ a.pass.start-is) in
      omega (arith, l, e, f, k, h, few)
