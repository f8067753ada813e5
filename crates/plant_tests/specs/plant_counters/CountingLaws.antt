-- Counters keep the laws of what a core asks of a program.
use Rattle.std.specs.Prelude.{◌≡◌, ℕ, ◌+◌, ◌-◌, ◌%◌, ◌<◌, ◌==◌, List, [], ◌∷◌, length, Option, Some, None, Result, Ok, Err, slice_set, if◌then◌else◌, Bool, true, false, nat_lt, nat_eq}
use Rattle.std.proofs.Common.{refl, sym, ap, ◌∙◌, arith, inl, inr, length-set, ⊎_elim, ◌⊎◌, subst, zero, suc, ◌≤◌}
use Rattle.std.proofs.lemmas.Bool.Decides.{nat_tests}
use Rattle.std.proofs.lemmas.Bool.{eqb-false}
use Rattle.std.proofs.lemmas.List.{get_or-set_other, get_or-set_same}
use Rattle.plc_text.specs.declared.refusal.Refusal.{Refusal}
use Rattle.cycle_journal.specs.declared.entry.CycleReply.{CycleReply}
use Rattle.plant_tests.specs.declared.plant_counters.counters.Counters.{Counters}
use Rattle.plant_tests.specs.plant_counters.Counting.{IsCounter, byte_in, byte_of, total_by, total, named_by, reads_by, reads_of, writes_of, counted, reply_by, left_when, reply_after, after_cycle, is_wide, empty_refusal, stop_refusal, fourth, fourth_by, resized, changed_when, change_by, counters, places_by, carrier_by}
use Rattle.plant_rules.specs.Meaning.{Contents, Meaning, Frames, bytes_at, Has, Rising, AgreeOn, ChangesOnly, FitOn, Whole, last_moment}
use Rattle.plant_rules.specs.Next.{Spare}

there_below : (c : Contents) (r : ℕ) (bytes : List ℕ) → bytes_at c r ≡ Some bytes → r < length c
there_below [] r bytes e = cc
there_below (x ∷ xs) zero bytes e = omega arith
there_below (x ∷ xs) (suc r) bytes e = let h = there_below xs r bytes e in omega arith

-- ---- names

letter_is : (n b t : ℕ) → named_by n (b ∷ []) ≡ Some t → (b ≡ t + 65) × (t < n)
letter_is n b t h = (grind (arith, nat_tests), grind (arith, nat_tests))

named_low : (n : ℕ) (name : List ℕ) (t : ℕ) → named_by n name ≡ Some t → t < n
named_low n [] t h = absurd cc
named_low n (b ∷ []) t h = (letter_is n b t h).1
named_low n (b ∷ c ∷ bs) t h = absurd cc

named_one : (n : ℕ) (a b : List ℕ) (t : ℕ) → named_by n a ≡ Some t → named_by n b ≡ Some t → a ≡ b
named_one n [] b t h k = absurd cc
named_one n (x ∷ y ∷ xs) b t h k = absurd cc
named_one n (x ∷ []) [] t h k = absurd cc
named_one n (x ∷ []) (y ∷ z ∷ ys) t h k = absurd cc
named_one n (x ∷ []) (y ∷ []) t h k = let e = (letter_is n x t h).0 in let f = (letter_is n y t k).0 in ap (λ z. z ∷ []) (e ∙ sym f)

-- ---- footprints

three_up : (b : Bool) → 3 ≤ total_by b
three_up true = omega arith
three_up false = omega arith

own_by : (a b : Bool) (t : ℕ) → Has (reads_by a b t) t
own_by true b t = inl refl
own_by false true t = inl refl
own_by false false t = inr (inl refl)

two_by : (a b : Bool) (t : ℕ) → nat_eq t 2 ≡ b → Has (reads_by a b t) 2
two_by true b t e = inr (inl refl)
two_by false true t e = inl (grind (arith, nat_tests))
two_by false false t e = inl refl

pub own_read : (t : ℕ) → Has (reads_of t) t
own_read t = own_by (nat_lt t 2) (nat_eq t 2) t

pub two_read : (t : ℕ) → Has (reads_of t) 2
two_read t = two_by (nat_lt t 2) (nat_eq t 2) t refl

below_by : (a b : Bool) (t r n : ℕ) → t < n → 3 ≤ n → Has (reads_by a b t) r → r < n
below_by true b t r n h k w = ⊎_elim (λ i. omega arith) (λ v. ⊎_elim (λ i. omega arith) absurd v) w
below_by false true t r n h k w = ⊎_elim (λ i. omega arith) absurd w
below_by false false t r n h k w = ⊎_elim (λ i. omega arith) (λ v. ⊎_elim (λ i. omega arith) absurd v) w

rising_by : (a b : Bool) (t : ℕ) → nat_lt t 2 ≡ a → nat_eq t 2 ≡ b → Rising (reads_by a b t)
rising_by true b t e f = let h : t < 2 = grind (arith, nat_tests) in ((λ r w. ⊎_elim (λ i. omega arith) absurd w), ((λ r w. absurd w), tt))
rising_by false true t e f = ((λ r w. absurd w), tt)
rising_by false false t e f = let h : 2 ≤ t = grind (arith, nat_tests) in let g = eqb-false t 2 f in ((λ r w. ⊎_elim (λ i. omega arith) absurd w), ((λ r w. absurd w), tt))

-- ---- cycles

set_elsewhere : (c : Contents) (t r : ℕ) (x : Option (List ℕ)) → (r ≡ t → ⊥) → bytes_at (slice_set c t x) r ≡ bytes_at c r
set_elsewhere c t r x apart = get_or-set_other c t r x None apart

frame_by : (b : Bool) (t : ℕ) (c : Contents) (x : Option (List ℕ)) → ChangesOnly (writes_of t) c (left_when b c (slice_set c t x))
frame_by true t c x = (refl, λ r out. refl)
frame_by false t c x = (length-set c t x, λ r out. set_elsewhere c t r x (λ e. out (inl e)))

stopped_by : (b : Bool) (n : ℕ) (c d : Contents) (f : _) → reply_by b n ≡ Rattle.cycle_journal.specs.declared.entry.CycleReply.TheVariants.Fault f → left_when b c d ≡ c
stopped_by true n c d f e = refl
stopped_by false n c d f e = absurd cc

both_set : (c d : Contents) (t x y : ℕ) → t < length c → t < length d → x ≡ y → bytes_at (slice_set c t (Some (x ∷ []))) t ≡ bytes_at (slice_set d t (Some (y ∷ []))) t
both_set c d t x y m n q = get_or-set_same c t (Some (x ∷ [])) None m ∙ (ap (λ z. Some (z ∷ [])) q ∙ sym (get_or-set_same d t (Some (y ∷ [])) None n))

local_by : (b : Bool) (t : ℕ) (c d : Contents) (x y : ℕ) → bytes_at c t ≡ bytes_at d t → t < length c → t < length d → x ≡ y
    → (reply_by b x ≡ reply_by b y) × AgreeOn (writes_of t) (left_when b c (slice_set c t (Some (x ∷ [])))) (left_when b d (slice_set d t (Some (y ∷ []))))
local_by true t c d x y e m n q = (refl, λ r h. ⊎_elim (λ i. rw i e) absurd h)
local_by false t c d x y e m n q = (ap (λ z. reply_by false z) q, λ r h. ⊎_elim (λ i. rw i (both_set c d t x y m n q)) absurd h)

cycle_local : (t now : ℕ) (input : List ℕ) (c d : Contents) → FitOn (λ r. IsCounter) (reads_of t) c → AgreeOn (reads_of t) c d
    → (reply_after t now input c ≡ reply_after t now input d) × AgreeOn (writes_of t) (after_cycle t now input c) (after_cycle t now input d)
cycle_local t now input c d fit a =
    let own = fit t (own_read t) in
    let same = a t (own_read t) in
    rw (← a 2 (two_read t))
    (local_by (byte_of (bytes_at c 2) == 255) t c d (counted t now input c) (counted t now input d) same (there_below c t own.0 own.1) (there_below d t own.0 (sym same ∙ own.1)) (ap (λ o. (byte_of o + now + byte_in input) % 256) same))

abbrev FitAt : Contents → ℕ → Type 0
FitAt c r = (bytes : List ℕ) × (bytes_at c r ≡ Some bytes) × IsCounter bytes

keeps_at : (b : Bool) (t r x : ℕ) (c : Contents) → t < length c → nat_eq r t ≡ b → FitAt c r → FitAt (slice_set c t (Some (x ∷ []))) r
keeps_at true t r x c m e f = let i : r ≡ t = grind (arith, nat_tests) in rw i (x ∷ [], get_or-set_same c t (Some (x ∷ [])) None m, (x, refl))
keeps_at false t r x c m e f = (f.0, set_elsewhere c t r _ (λ i. eqb-false r t e i) ∙ f.1, f.2)

keeps_by : (b : Bool) (t x : ℕ) (c : Contents) → t < length c → FitOn (λ r. IsCounter) (reads_of t) c → FitOn (λ r. IsCounter) (reads_of t) (left_when b c (slice_set c t (Some (x ∷ []))))
keeps_by true t x c m f = f
keeps_by false t x c m f = λ r h. keeps_at (nat_eq r t) t r x c m refl (f r h)

one_length : (a b : List ℕ) → IsCounter a → IsCounter b → length a ≡ length b
one_length a b f g = ap length f.1 ∙ sym (ap length g.1)

-- ---- changes

ok_is : (x y : Counters × Contents) → ◌≡◌ {A = Result (Counters × Contents) Refusal} (Ok x) (Ok y) → x ≡ y
ok_is x y e = cc

changed_is : (b wide : Bool) (n : ℕ) (c : Contents) (q : Counters) (d : Contents) → changed_when b wide n c ≡ Ok (q, d) → (q ≡ record { number = n + 1; wide = wide }) × (d ≡ resized wide c)
changed_is true wide n c q d e = absurd cc
changed_is false wide n c q d e = let pair = ok_is (q, d) (record { number = n + 1; wide = wide }, resized wide c) (sym e) in (ap (λ z. z.0) pair, ap (λ z. z.1) pair)

change_is : (text : List ℕ) (n : ℕ) (c : Contents) (q : Counters) (d : Contents) → change_by text n c ≡ Ok (q, d) → (q ≡ record { number = n + 1; wide = is_wide text }) × (d ≡ resized (is_wide text) c)
change_is [] n c q d e = absurd cc
change_is (x ∷ xs) n c q d e = changed_is (byte_of (bytes_at c 0) == 7) (is_wide (x ∷ xs)) n c q d e

fourth_fit : (o : Option (List ℕ)) → ((bytes : List ℕ) → o ≡ Some bytes → IsCounter bytes) → (bytes : List ℕ) × (fourth o ≡ Some bytes) × IsCounter bytes
fourth_fit None h = (0 ∷ [], refl, (0, refl))
fourth_fit (Some bytes) h = (bytes, refl, h bytes refl)

whole_at : (wide : Bool) (c : Contents) → ((r : ℕ) → r < 3 → FitAt c r) → ((bytes : List ℕ) → bytes_at c 3 ≡ Some bytes → IsCounter bytes) → (r : ℕ) → r < total_by wide → FitAt (resized wide c) r
whole_at wide c f g zero h = f 0 (omega arith)
whole_at wide c f g (suc zero) h = f 1 (omega arith)
whole_at wide c f g (suc (suc zero)) h = f 2 (omega arith)
whole_at true c f g (suc (suc (suc zero))) h = fourth_fit (bytes_at c 3) g
whole_at false c f g (suc (suc (suc zero))) h = absurd (omega arith)
whole_at true c f g (suc (suc (suc (suc r)))) h = absurd (omega arith)
whole_at false c f g (suc (suc (suc (suc r)))) h = absurd (omega arith)

resized_long : (wide : Bool) (c : Contents) → length (resized wide c) ≡ total_by wide
resized_long true c = refl
resized_long false c = refl

some_same : (a b : List ℕ) → Some a ≡ Some b → a ≡ b
some_same a b e = cc

fourth_there : (n : ℕ) (c : Contents) → Whole (λ r. IsCounter) n c → (bytes : List ℕ) → bytes_at c 3 ≡ Some bytes → IsCounter bytes
fourth_there n c w bytes e =
    let h = w.1 3 (subst (λ (k : ℕ). 3 < k) w.0 (there_below c 3 bytes e)) in
    subst (λ (b : List ℕ). IsCounter b) (some_same h.0 bytes (sym h.1 ∙ e)) h.2

next_whole : (p q : Counters) (text : List ℕ) (c d : Contents) → Whole (λ r. IsCounter) (total p) c → change_by text p.number c ≡ Ok (q, d) → Whole (λ r. IsCounter) (total q) d
next_whole p q text c d w e =
    let k = change_is text p.number c q d e in
    subst (λ (z : Counters). Whole (λ r. IsCounter) (total z) d) (sym k.0)
    (subst (λ (z : Contents). Whole (λ r. IsCounter) (total_by (is_wide text)) z) (sym k.1)
    (resized_long (is_wide text) c, whole_at (is_wide text) c (λ r h. w.1 r (let u = three_up p.wide in omega (arith, u, h))) (fourth_there (total p) c w)))

pub counters_frame : Frames counters
counters_frame = record {
  named-below = λ p name t right h. named_low (total p) name t h;
  named-one = λ p a b t right e f. named_one (total p) a b t e f;
  writes-read = λ p t r right h w. ⊎_elim (λ i. subst (λ (z : ℕ). Has (reads_of t) z) (sym i) (own_read t)) absurd w;
  reads-rising = λ p t right h. rising_by (nat_lt t 2) (nat_eq t 2) t refl refl;
  writes-rising = λ p t right h. ((λ r w. absurd w), tt);
  owns-some = λ p t right h. (t, inl refl);
  reads-below = λ p t r right h w. below_by (nat_lt t 2) (nat_eq t 2) t r (total p) h (three_up p.wide) w;
  one-length = λ p r a b f g. one_length a b f g;
  elsewhere = λ p t now input c. frame_by (byte_of (bytes_at c 2) == 255) t c _;
  stopped = λ p t now input c f e. stopped_by (byte_of (bytes_at c 2) == 255) (counted t now input c) c _ f e;
  local = λ p t now input c d right h moment fit a. cycle_local t now input c d fit a;
  keeps = λ p t now input c right h moment f. let own = f t (own_read t) in keeps_by (byte_of (bytes_at c 2) == 255) t (counted t now input c) c (there_below c t own.0 own.1) f;
  next-number = λ p q text c d e. ap (λ (z : Counters). z.number) (change_is text p.number c q d e).0;
  next-right = λ p q text c d e. tt;
  next-whole = λ p q text c d right w e. next_whole p q text c d w e;
  prompt = λ p text c r h. ap (λ z. change_by z p.number c) h.0 ∙ ap Err (sym h.1);
}

-- ---- carriers

-- no more than the gate is there
only_gate : (wide : Bool) (r : ℕ) → (r ≡ 2 → ⊥) → bytes_at (carrier_by wide false) r ≡ None
only_gate wide zero h = by wide
  where
    by : (b : Bool) → bytes_at (carrier_by b false) 0 ≡ None
    by true = refl
    by false = refl
only_gate wide (suc zero) h = by wide
  where
    by : (b : Bool) → bytes_at (carrier_by b false) 1 ≡ None
    by true = refl
    by false = refl
only_gate wide (suc (suc zero)) h = absurd (h refl)
only_gate true (suc (suc (suc zero))) h = refl
only_gate false (suc (suc (suc zero))) h = refl
only_gate true (suc (suc (suc (suc r)))) h = refl
only_gate false (suc (suc (suc (suc r)))) h = refl

gate_there : (wide : Bool) → bytes_at (carrier_by wide false) 2 ≡ Some (0 ∷ [])
gate_there true = refl
gate_there false = refl

nothing_there : (wide : Bool) (r : ℕ) → bytes_at (places_by wide) r ≡ None
nothing_there true zero = refl
nothing_there true (suc zero) = refl
nothing_there true (suc (suc zero)) = refl
nothing_there true (suc (suc (suc zero))) = refl
nothing_there true (suc (suc (suc (suc r)))) = refl
nothing_there false zero = refl
nothing_there false (suc zero) = refl
nothing_there false (suc (suc zero)) = refl
nothing_there false (suc (suc (suc r))) = refl

carrier_long : (wide b : Bool) → length (carrier_by wide b) ≡ total_by wide
carrier_long true true = refl
carrier_long false true = refl
carrier_long true false = refl
carrier_long false false = refl

-- what a task reads and does not write is the gate
gate_only : (a b : Bool) (t r : ℕ) → Has (reads_by a b t) r → (Has (writes_of t) r → ⊥) → r ≡ 2
gate_only true b t r w out = ⊎_elim (λ i. absurd (out (inl i))) (λ v. ⊎_elim (λ i. i) absurd v) w
gate_only false true t r w out = ⊎_elim (λ i. absurd (out (inl i))) absurd w
gate_only false false t r w out = ⊎_elim (λ i. i) (λ v. ⊎_elim (λ i. absurd (out (inl i))) absurd v) w

pub spare_by : (q : Counters) (t : ℕ) (b : Bool) (c : Contents) → nat_eq t 2 ≡ b → c ≡ carrier_by q.wide b → Spare counters q t c
spare_by q t true c f e =
    let i : t ≡ 2 = grind (arith, nat_tests) in
    record {
      total = ap length e ∙ carrier_long q.wide true;
      images = λ r h out. let g = gate_only (nat_lt t 2) (nat_eq t 2) t r h out in absurd (out (inl (g ∙ sym i)));
      written = λ r h. ap (λ z. bytes_at z r) e ∙ nothing_there q.wide r;
      others = λ r h. ap (λ z. bytes_at z r) e ∙ nothing_there q.wide r;
    }
spare_by q t false c f e =
    let ne = eqb-false t 2 f in
    record {
      total = ap length e ∙ carrier_long q.wide false;
      images = λ r h out. let g = gate_only (nat_lt t 2) (nat_eq t 2) t r h out in (0 ∷ [], ap (λ z. bytes_at z r) e ∙ (ap (λ z. bytes_at (carrier_by q.wide false) z) g ∙ gate_there q.wide), λ other k. sym (ap length k.1));
      written = λ r h. ap (λ z. bytes_at z r) e ∙ only_gate q.wide r (λ i. ⊎_elim (λ j. ne (sym j ∙ i)) absurd h);
      others = λ r h. ap (λ z. bytes_at z r) e ∙ only_gate q.wide r (λ i. h (subst (λ (z : ℕ). Has (reads_of t) z) (sym i) (two_read t)));
    }
