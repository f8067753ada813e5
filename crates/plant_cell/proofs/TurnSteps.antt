-- The steps of a turn keep the rule of the table.
use Rattle.std.proofs.Common.{◌≡◌, ◌≢◌, ℕ, zero, suc, ◌<◌, ◌≤◌, List, [], ◌∷◌, ◌++◌, length, Bool, true, false, ◌==◌, ne_eqb, Option, Some, None, slice_set, set, refl, sym, ap, ◌∙◌, subst, ⊎_elim, ◌⊎◌, inl, arith}
use Rattle.std.specs.Prelude.{slice_index, MatchBool}
use mathlib.Core.Option.{some, none, some-injective, some-ne-none}
use lib.ListN.{get_elem?}
use prog.Atomic.{either}
use Rattle.atomic_table.specs.Table.{State as Table, Me, Act, keeps, takes, gives, Valid, stepped, carried_after, Allows, opening, step, rest}
use Rattle.atomic_table.proofs.Lists.{at_set, set_again, exchanged}
use Rattle.plant_rules.specs.Meaning.{Has}
use Rattle.plant_rules.specs.History.{Past, Step}
use Rattle.plant_cell.specs.Known.{Known, newcomer, AllBelow, Since, past_at, past_in, in_turn, counted, out_of_turn}
use Rattle.plant_cell.specs.Rule.{Fits, Apart, Kept, Took, Takes, Counts, Releases, log_in}
use Rattle.plant_cell.specs.Plant.{Grown}
use Rattle.plant_cell.proofs.NumberLists.{has_one, none_by, below_append, below_by, since_all, since_more}

pub each_after : {A : Type 0} (P : ℕ → A → Type 0) (l : List A) (id : ℕ) (w : A) → P id w → ((j : ℕ) (v : A) → j ≢ id → get_elem? l j ≡ some v → P j v)
    → (j : ℕ) (v : A) → get_elem? (set l id w) j ≡ some v → P j v
each_after {A} P l id w mine others j v e =
    ⊎_elim (λ t. subst (λ (z : A). P j z) t.1 (subst (λ (k : ℕ). P k w) (sym t.0) mine)) (λ t. others j v t.0 t.1) (at_set l id j w v e)

not_true : (b : Bool) → (b ≡ true → ⊥) → b ≡ false
not_true true h = absurd (h refl)
not_true false h = refl

only : {A : Type 0} (x v : A) (id : ℕ) → get_elem? (x ∷ []) id ≡ some v → (id ≡ 0) × (x ≡ v)
only x v zero e = (refl, some-injective x v e)
only x v (suc id) e = absurd (some-ne-none v (sym e))

abbrev or_else : {A : Type 0} → A → Option A → A
or_else a (Some b) = b
or_else a None = a

module _ {W : Type 0} where
  -- a view is set whose numbers were its own, or nobody's
  pub apart_set : (l : List (Known W)) (id : ℕ) (v w : Known W) → get_elem? l id ≡ some v → Apart l
      → ((n : ℕ) → Has w.numbers n → Has v.numbers n ⊎ ((j : ℕ) (u : Known W) → get_elem? l j ≡ some u → Has u.numbers n → ⊥))
      → Apart (set l id w)
  apart_set l id v w at apart from i j n a b e f h k =
      ⊎_elim
      (λ t. let hw : Has w.numbers n = subst (λ (z : Known W). Has z.numbers n) (sym t.1) h in
      ⊎_elim (λ s. t.0 ∙ sym s.0)
      (λ s. ⊎_elim (λ old. t.0 ∙ apart id j n v b at s.1 old k) (λ nobody. absurd (nobody j b s.1 k)) (from n hw))
      (at_set l id j w b f))
      (λ t. ⊎_elim
      (λ s. let kw : Has w.numbers n = subst (λ (z : Known W). Has z.numbers n) (sym s.1) k in
      ⊎_elim (λ old. apart i id n a v t.1 at h old ∙ sym s.0) (λ nobody. absurd (nobody i a t.1 h)) (from n kw))
      (λ s. apart i j n a b t.1 s.1 h k)
      (at_set l id j w b f))
      (at_set l id i w a e)

  -- of a seat that does not step
  pub stays : (start : Past W) (limit : ℕ) (log : List (Step W)) (made made' turn turn' holder holder' j : ℕ) (u : Known W) → made ≤ made' → Fits start limit log made turn holder j u
      → (u.holds ≡ true → (j ≡ holder') × (u.found ≡ log)) → Fits start limit log made' turn' holder' j u
  stays start limit log made made' turn turn' holder holder' j u le f hold =
      record { start-is = f.start-is; numbers-made = λ n h. (let l = f.numbers-made n h in omega arith); once = f.once; since = f.since; least-is = (let l = f.least-is in omega arith); in-turn = hold }

  take_free : (start : Past W) (limit : ℕ) (s : Table (Option (Past W)) (Known W)) (k : Kept start limit s) (id new : ℕ) (v : Known W) → get_elem? s.views id ≡ some v → k.turn ≡ 0 → 0 < new
      → Kept start limit record { words = slice_set s.words 0 new; homes = slice_set s.homes 0 none; views = slice_set s.views id (in_turn v k.log) }
  take_free start limit s k id new v at free some_new =
      let mine = k.fits id v at in
      record {
        log = k.log;
        turn = new;
        made = k.made;
        holder = id;
        words = ap (λ ws. slice_set ws 0 new) k.words;
        home = λ z. absurd (omega arith);
        away = λ z. ap (λ hs. slice_set hs 0 none) (k.home free);
        idle = λ z. absurd (omega arith);
        fits = each_after (Fits start limit k.log k.made new id) s.views id (in_turn v k.log)
            record { start-is = mine.start-is; numbers-made = mine.numbers-made; once = mine.once; since = mine.since; least-is = mine.least-is; in-turn = λ h. (refl, refl) }
            (λ j u out e. let f = k.fits j u e in let off = k.idle free j u e in stays start limit k.log k.made k.made k.turn new k.holder id j u (omega arith) f (λ h. absurd (cc)));
        apart = apart_set s.views id v (in_turn v k.log) at k.apart (λ n h. inl h);
        authors = k.authors;
        few = k.few;
      }

  unchanged : (start : Past W) (limit : ℕ) (s : Table (Option (Past W)) (Known W)) (k : Kept start limit s) (id : ℕ) (v : Known W) → get_elem? s.views id ≡ some v
      → Kept start limit record { words = slice_set s.words 0 (slice_index s.words 0); homes = s.homes; views = slice_set s.views id v }
  unchanged start limit s k id v at =
      let e : slice_set s.words 0 (slice_index s.words 0) ≡ s.words = rw k.words refl in
      rw (e, set_again s.views id v at) k

  took_at : (n : ℕ) (v w : Me (Option (Past W)) (Known W)) → n ≡ 0 → Took v w → MatchBool (n == 0) (Took v w) (w ≡ v)
  took_at n v w e t = rw e t

  takes_allowed : (start : Past W) (limit slots id new : ℕ) (v : Known W) (st : Past W) → v.start ≡ Some st → 0 < new
      → Allows (Kept start limit) slots id (v, []) 0 (λ n. either (n == 0) new n) (Takes (step slots 0 0 new none) (v, []))
  takes_allowed start limit slots id new v st has some_new s k count at fits =
      let here : slice_index s.words 0 ≡ k.turn = ap (λ ws. slice_index ws 0) k.words in
      exchanged (slice_index s.words 0) 0 new
      (λ n. (w : Known W) × (a : Act (Option (Past W))) × Valid s.homes [] a × Kept start limit (stepped s 0 n id [] w a) × Takes (step slots 0 0 new none) (v, []) (slice_index s.words 0) (w, carried_after [] a))
      (λ e. let free : k.turn ≡ 0 = sym here ∙ e in
      let f = k.fits id v at in
      let is : v.start ≡ Some start = has ∙ ap (λ (z : Past W). Some z) (f.start-is st has).0 in (
        in_turn v k.log,
        takes 0 (Some (past_at start k.log)),
        ap (λ hs. get_elem? hs 0) (k.home free),
        take_free start limit s k id new v at free some_new,
        took_at (slice_index s.words 0) (v, []) (in_turn v k.log, (0, Some (past_at start k.log)) ∷ []) e
            record { log = k.log; since = f.since; now = ap (λ (o : Option (Past W)). (in_turn v k.log, (0, past_in o k.log) ∷ [])) (sym is) },
      ))
      (λ ne. (v, keeps, tt, unchanged start limit s k id v at, rw (ne_eqb (slice_index s.words 0) 0 ne) refl))

  counts_allowed : (start : Past W) (limit slots id n : ℕ) (v : Known W) (p st : Past W) (first : ℕ) → v.holds ≡ true → Has v.numbers first → Grown st first v.found p → n ≡ length p.history
      → Allows (Kept start limit) slots id (v, (0, Some p) ∷ []) 1 (λ _. n) (λ _. Counts (step slots 1 n 0 none) (v, (0, Some p) ∷ []) n)
  counts_allowed start limit slots id n v p st first holds own g len s k count at fits =
      let mine = k.fits id v at in
      let found = (mine.in-turn holds).1 in
      let busy : k.turn ≡ 0 → ⊥ = λ z. let off = k.idle z id v at in cc in
      let log : p.history ≡ k.log ++ g.added = ap (λ q. q.history) g.is ∙ ap (λ z. z ++ g.added) found in (
        counted v p.history,
        keeps,
        tt,
        record {
          log = p.history;
          turn = k.turn;
          made = k.made;
          holder = k.holder;
          words = ap (λ ws. slice_set ws 1 n) k.words ∙ ap (λ z. k.turn ∷ z ∷ k.made ∷ []) len;
          home = λ z. absurd (busy z);
          away = k.away;
          idle = λ z. absurd (busy z);
          fits = each_after (Fits start limit p.history k.made k.turn k.holder) s.views id (counted v p.history)
              record { start-is = mine.start-is; numbers-made = mine.numbers-made; once = mine.once; since = since_all v.numbers p.history; least-is = mine.least-is; in-turn = λ h. ((mine.in-turn holds).0, refl) }
              (λ j u out e. let f = k.fits j u e in
              record {
                start-is = f.start-is;
                numbers-made = f.numbers-made;
                once = f.once;
                since = subst (λ (z : List (Step W)). Since u.numbers u.seen z) (sym log) (since_more u.numbers u.seen k.log g.added f.since (none_by u.numbers first g.added (λ h. out (k.apart j id first u v e at h own)) g.own));
                least-is = f.least-is;
                in-turn = λ h. absurd (out ((f.in-turn h).0 ∙ sym (mine.in-turn holds).0));
              });
          apart = apart_set s.views id v (counted v p.history) at k.apart (λ n h. inl h);
          authors = subst (λ (z : List (Step W)). AllBelow k.made z) (sym log) (below_append k.made k.log g.added k.authors (below_by k.made first g.added (mine.numbers-made first own) g.own));
          few = k.few;
        },
        refl,
      )

  releases_allowed : (start : Past W) (limit slots id : ℕ) (v : Known W) (p st : Past W) → v.start ≡ Some st → v.holds ≡ true → p ≡ past_at st v.found
      → Allows (Kept start limit) slots id (v, (0, Some p) ∷ []) 0 (λ _. 0) (λ _. Releases (step slots 0 0 0 none) (v, (0, Some p) ∷ []) 0)
  releases_allowed start limit slots id v p st has holds is s k count at fits =
      let mine = k.fits id v at in
      let busy : k.turn ≡ 0 → ⊥ = λ z. let off = k.idle z id v at in cc in
      let back : p ≡ past_at start k.log = is ∙ (ap (λ q. past_at q v.found) (mine.start-is st has).0 ∙ ap (λ l. past_at start l) (mine.in-turn holds).1) in (
        out_of_turn v,
        gives,
        tt,
        record {
          log = k.log;
          turn = 0;
          made = k.made;
          holder = 0;
          words = ap (λ ws. slice_set ws 0 0) k.words;
          home = λ z. ap (λ hs. slice_set hs 0 (some (Some p))) (k.away busy) ∙ ap (λ q. some (Some q) ∷ []) back;
          away = λ z. absurd (z refl);
          idle = λ z. each_after (λ j u. u.holds ≡ false) s.views id (out_of_turn v) refl
              (λ j u out e. not_true u.holds (λ h. out (((k.fits j u e).in-turn h).0 ∙ sym (mine.in-turn holds).0)));
          fits = each_after (Fits start limit k.log k.made 0 0) s.views id (out_of_turn v)
              record { start-is = mine.start-is; numbers-made = mine.numbers-made; once = mine.once; since = mine.since; least-is = mine.least-is; in-turn = λ h. absurd cc }
              (λ j u out e. let f = k.fits j u e in stays start limit k.log k.made k.made k.turn 0 k.holder 0 j u (omega arith) f (λ h. absurd (out ((f.in-turn h).0 ∙ sym (mine.in-turn holds).0))));
          apart = apart_set s.views id v (out_of_turn v) at k.apart (λ n h. inl h);
          authors = k.authors;
          few = k.few;
        },
        refl,
      )

  -- the same, as the calls ask for it
  pub take_asks : (start : Past W) (limit slots id new : ℕ) (me : Me (Option (Past W)) (Known W)) (st : Past W) → me.0.start ≡ Some st → me.1 ≡ [] → 0 < new
      → Allows (Kept start limit) slots id me 0 (λ n. either (n == 0) new n) (Takes (step slots 0 0 new none) me)
  take_asks start limit slots id new me st has e h =
      let F : List (ℕ × Option (Past W)) → Type 0 = λ c. Allows (Kept start limit) slots id (me.0, c) 0 (λ n. either (n == 0) new n) (Takes (step slots 0 0 new none) (me.0, c)) in
      subst F (sym e) (takes_allowed start limit slots id new me.0 st has h)

  count_asks : (start : Past W) (limit slots id n : ℕ) (me : Me (Option (Past W)) (Known W)) (p st : Past W) (first : ℕ) → me.1 ≡ (0, Some p) ∷ [] → me.0.holds ≡ true → Has me.0.numbers first → Grown st first me.0.found p → n ≡ length p.history
      → Allows (Kept start limit) slots id me 1 (λ _. n) (λ _. Counts (step slots 1 n 0 none) me n)
  count_asks start limit slots id n me p st first e holds own g len =
      let F : List (ℕ × Option (Past W)) → Type 0 = λ c. Allows (Kept start limit) slots id (me.0, c) 1 (λ _. n) (λ _. Counts (step slots 1 n 0 none) (me.0, c) n) in
      subst F (sym e) (counts_allowed start limit slots id n me.0 p st first holds own g len)

  release_asks : (start : Past W) (limit slots id : ℕ) (me : Me (Option (Past W)) (Known W)) (p st : Past W) → me.1 ≡ (0, Some p) ∷ [] → me.0.start ≡ Some st → me.0.holds ≡ true → p ≡ past_at st me.0.found
      → Allows (Kept start limit) slots id me 0 (λ _. 0) (λ _. Releases (step slots 0 0 0 none) me 0)
  release_asks start limit slots id me p st e has holds is =
      let F : List (ℕ × Option (Past W)) → Type 0 = λ c. Allows (Kept start limit) slots id (me.0, c) 0 (λ _. 0) (λ _. Releases (step slots 0 0 0 none) (me.0, c) 0) in
      subst F (sym e) (releases_allowed start limit slots id me.0 p st has holds is)

  -- the core is back in the slot
  back_at : (me me' : Me (Option (Past W)) (Known W)) (p : Past W) → me' ≡ (me.0, (0, Some p) ∷ rest me.1) → me.1 ≡ (0, None) ∷ [] → (me'.1 ≡ (0, Some p) ∷ []) × (me'.0 ≡ me.0)
  back_at me me' p e out = (ap (λ (m : Me (Option (Past W)) (Known W)). m.1) e ∙ ap (λ l. (0, Some p) ∷ rest l) out, ap (λ (m : Me (Option (Past W)) (Known W)). m.0) e)

  grown_same : (st : Past W) (first : ℕ) (found : List (Step W)) (p : Past W) (g : Grown st first found p) → p ≡ past_at st p.history
  grown_same st first found p g = g.is ∙ ap (λ l. past_at st l) (sym (ap (λ q. q.history) g.is))

  pub count_back : (start : Past W) (limit slots id n : ℕ) (me me' : Me (Option (Past W)) (Known W)) (p st : Past W) (first : ℕ) → me' ≡ (me.0, (0, Some p) ∷ rest me.1) → me.1 ≡ (0, None) ∷ [] → me.0.holds ≡ true → Has me.0.numbers first
      → Grown st first me.0.found p → n ≡ length p.history → Allows (Kept start limit) slots id me' 1 (λ _. n) (λ _. Counts (step slots 1 n 0 none) me' n)
  count_back start limit slots id n me me' p st first e out holds own g len =
      let b = back_at me me' p e out in
      count_asks start limit slots id n me' p st first b.0 (ap (λ v. v.holds) b.1 ∙ holds) (subst (λ (v : Known W). Has v.numbers first) (sym b.1) own) (subst (λ (v : Known W). Grown st first v.found p) (sym b.1) g) len

  pub release_back : (start : Past W) (limit slots id : ℕ) (me me' me'' : Me (Option (Past W)) (Known W)) (p st : Past W) (first : ℕ) → me' ≡ (me.0, (0, Some p) ∷ rest me.1) → me.1 ≡ (0, None) ∷ [] → me.0.start ≡ Some st
      → Grown st first me.0.found p → me'' ≡ (counted me'.0 (log_in me'.1), me'.1) → Allows (Kept start limit) slots id me'' 0 (λ _. 0) (λ _. Releases (step slots 0 0 0 none) me'' 0)
  release_back start limit slots id me me' me'' p st first e out has g f =
      let b = back_at me me' p e out in
      let h : log_in me'.1 ≡ p.history = ap log_in b.0 in
      release_asks start limit slots id me'' p st (ap (λ (m : Me (Option (Past W)) (Known W)). m.1) f ∙ b.0)
      (ap (λ (m : Me (Option (Past W)) (Known W)). m.0.start) f ∙ (ap (λ v. v.start) b.1 ∙ has))
      (ap (λ (m : Me (Option (Past W)) (Known W)). m.0.holds) f)
      (grown_same st first me.0.found p g ∙ (ap (λ l. past_at st l) (sym h) ∙ ap (λ (m : Me (Option (Past W)) (Known W)). past_at st m.0.found) (sym f)))

  -- what a pass knows behind its turn
  pub left_turn : (me me' me'' w : Me (Option (Past W)) (Known W)) (p : Past W) → me' ≡ (me.0, (0, Some p) ∷ rest me.1) → me.1 ≡ (0, None) ∷ [] → me'' ≡ (counted me'.0 (log_in me'.1), me'.1) → w ≡ (out_of_turn me''.0, [])
      → w ≡ (out_of_turn (counted me.0 p.history), [])
  left_turn me me' me'' w p e out f r =
      let b = back_at me me' p e out in
      r ∙ (ap (λ (z : Me (Option (Past W)) (Known W)). (out_of_turn z.0, [])) f ∙ (ap (λ (v : Known W). (out_of_turn (counted v (log_in me'.1)), [])) b.1 ∙ ap (λ (l : List (ℕ × Option (Past W))). (out_of_turn (counted me.0 (log_in l)), [])) b.0))

  took_turn : (b : Bool) (v w : Me (Option (Past W)) (Known W)) → b ≡ true → MatchBool b (Took v w) (w ≡ v) → Took v w
  took_turn true v w e t = t
  took_turn false v w e t = absurd cc

  pub took_out : (b : Bool) (v w : Me (Option (Past W)) (Known W)) → b ≡ true → MatchBool b (Took v w) (w ≡ v) → (x : Option (Past W)) × (w.1 ≡ (0, x) ∷ rest w.1)
  took_out b v w e t = let k = took_turn b v w e t in
      let h : w.1 ≡ (0, past_in v.0.start k.log) ∷ [] = ap (λ (m : Me (Option (Past W)) (Known W)). m.1) k.now in
      (past_in v.0.start k.log, h ∙ ap (λ l. (0, past_in v.0.start k.log) ∷ rest l) (sym h))

  pub some_start : (a b : Past W) → Some a ≡ Some b → a ≡ b
  some_start a b e = ap (λ (o : Option (Past W)). or_else a o) e

  fits_first : (start : Past W) (limit : ℕ) → Fits start limit [] 1 0 0 0 (newcomer start limit)
  fits_first start limit =
      record {
        start-is = λ st e. (sym (some_start start st e), refl);
        numbers-made = λ n h. (let i = has_one 0 n h in omega arith);
        once = ((λ h. h), tt);
        since = since_all (0 ∷ []) [];
        least-is = omega arith;
        in-turn = λ h. absurd cc;
      }

  pub kept_first : (start : Past W) (limit : ℕ) → start.history ≡ [] → 1 ≤ limit → Kept start limit record { words = 0 ∷ 0 ∷ 1 ∷ []; homes = some (Some start) ∷ []; views = newcomer start limit ∷ [] }
  kept_first start limit bare few =
      record {
        log = [];
        turn = 0;
        made = 1;
        holder = 0;
        words = refl;
        home = λ z. ap (λ (l : List (Step W)). some (Some (past_at start l)) ∷ []) bare;
        away = λ z. absurd (z refl);
        idle = λ z id v e. ap (λ (u : Known W). u.holds) (sym (only (newcomer start limit) v id e).1);
        fits = λ id v e. (let o = only (newcomer start limit) v id e in
            subst (λ (u : Known W). Fits start limit [] 1 0 0 id u) o.1 (subst (λ (k : ℕ). Fits start limit [] 1 0 0 k (newcomer start limit)) (sym o.0) (fits_first start limit)));
        apart = λ i j n v w e f h k. (only (newcomer start limit) v i e).0 ∙ sym (only (newcomer start limit) w j f).0;
        authors = tt;
        few = few;
      }

  abbrev slot_of : List (ℕ × Option (Past W)) → Option (Past W)
  slot_of [] = None
  slot_of (x ∷ xs) = x.1

  -- what a turn found once the core is out of the slot
  pub record Began (st : Past W) (v w : Me (Option (Past W)) (Known W)) (core : Past W) : Type 0 where
    pub now : w ≡ (in_turn v.0 core.history, (0, None) ∷ [])
    pub is : core ≡ past_at st core.history
    pub since : Since v.0.numbers v.0.seen core.history

  pub began : (b : Bool) (v0 v1 m w : Me (Option (Past W)) (Known W)) (st core : Past W) (r : Option (Past W)) → v0.0.start ≡ Some st → v1 ≡ v0 → b ≡ true → MatchBool b (Took v1 m) (m ≡ v1)
      → m.1 ≡ (0, r) ∷ rest m.1 → r ≡ Some core → w ≡ (m.0, (0, None) ∷ rest m.1) → Began st v0 w core
  began b v0 v1 m w st core r has same e t there is now =
      let k : Took v0 m = subst (λ (z : Me (Option (Past W)) (Known W)). Took z m) same (took_turn b v1 m e t) in
      let h : m.1 ≡ (0, past_in v0.0.start k.log) ∷ [] = ap (λ (x : Me (Option (Past W)) (Known W)). x.1) k.now in
      let c : Some core ≡ Some (past_at st k.log) = sym is ∙ (ap slot_of (sym there ∙ h) ∙ ap (λ (o : Option (Past W)). past_in o k.log) has) in
      let core-is : core ≡ past_at st k.log = some_start core (past_at st k.log) c in
      let log : core.history ≡ k.log = ap (λ (z : Past W). z.history) core-is in
      record {
        now = now ∙ (ap (λ (l : List (ℕ × Option (Past W))). (m.0, (0, None) ∷ rest l)) h ∙ (ap (λ (x : Me (Option (Past W)) (Known W)). (x.0, (0, None) ∷ [])) k.now ∙ ap (λ (l : List (Step W)). (in_turn v0.0 l, (0, None) ∷ [])) (sym log)));
        is = core-is ∙ ap (λ (l : List (Step W)). past_at st l) (sym log);
        since = subst (λ (l : List (Step W)). Since v0.0.numbers v0.0.seen l) (sym log) k.since;
      }

  pub kept_opening : (start : Past W) (limit : ℕ) (xs : List (Option (Past W))) → start.history ≡ [] → 1 ≤ limit → xs ≡ Some start ∷ [] → Kept start limit (opening (0 ∷ 0 ∷ 1 ∷ []) xs (newcomer start limit))
  kept_opening start limit xs bare few e =
      subst (λ (l : List (Option (Past W))). Kept start limit (opening (0 ∷ 0 ∷ 1 ∷ []) l (newcomer start limit))) (sym e) (kept_first start limit bare few)
