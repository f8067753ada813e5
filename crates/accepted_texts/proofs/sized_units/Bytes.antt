-- Outputs that share no bit take at most 256 bytes, and in a good store what they leave in each is a byte.
use Rattle.std.proofs.Common.{◌≡◌, ◌≤◌, ◌<◌, ℕ, zero, suc, ◌+◌, ◌-◌, ◌*◌, ◌^◌, ℤ, pos, negsuc, Bool, true, false, List, [], ◌∷◌, length, Option, Some, None, refl, sym, ap, ◌∙◌, subst, inl, inr, arith, mod-lt, le-leb, lt-ltb, leb-true, ltb-true, eqb-true}
use Rattle.std.specs.Prelude.{if◌then◌else◌, ◌&&◌, ◌||◌, nat_eq, nat_le, nat_lt, filter, unsigned_abs}
use Rattle.std.specs.List.{list_any}
use Rattle.std.proofs.lemmas.Int.{ints}
use mathlib.Core.Logic.{dite}
use native.Mathlib.Decide.{ℕ_discrete}
use Rattle.st_types.specs.declared.elem.Elem.TheVariants as kind
use Rattle.st_types.specs.Range.{Fits}
use Rattle.st_tree.specs.Address.{width_of, bit_of}
use Rattle.st_tree.specs.declared.address.Area.TheVariants as area
use Rattle.st_rules.specs.Chains.{is_among}
use Rattle.st_rules.proofs.Booleans.{true≢false, some-same, either, both, and-both}
use Rattle.st_values.specs.Program.{Program}
use Rattle.st_values.specs.Shape.{Elementary, region_shape, path_shape, shape_at}
use Rattle.st_values.specs.Value.{Value, number, reference, array, structure, instance, Store, member, value_at, at}
use Rattle.st_values.proofs.ValueLaws.{then_some}
use Rattle.st_meaning.specs.Operation.{number_in}
use Rattle.st_meaning.specs.ProcessImage.{Located, located_of, is_in, is_bit, size_of, first_byte, byte_of, share, number_or_zero, is_shown, output_byte, covered}
use Rattle.st_meaning.specs.st_frame.Footprint.{Has}
use Rattle.st_meaning.specs.st_frame.Good.{Fit, GoodOn}
use Rattle.st_meaning.specs.st_frame.Promise.Programs.{ProgramIs}
use Rattle.st_meaning.proofs.st_frame.Values.{fit_at}
use Rattle.mem_layout.specs.loaded_meaning.Outputs.{first_bit, bit_count, has_bit, OutputsAre}

-- ---- the places that pass, each with its weight

module _ (w : ℕ → ℕ) where
  abbrev weight : ℕ → (ℕ → Bool) → ℕ
  weight zero t = 0
  weight (suc n) t = weight n t + (if t n then w n else 0)

  one_weighs : (t : ℕ → Bool) (n k : ℕ) → k < n → t k ≡ true → w k ≤ weight n t
  one_weighs t zero k l h = absurd (omega (arith, l))
  one_weighs t (suc n) k l h = dite (ℕ_discrete k n) same (other (λ m. one_weighs t n k m h))
    where
      same : k ≡ n → w k ≤ weight n t + (if t n then w n else 0)
      same e =
          let i : (if t n then w n else 0) ≡ w n = ap (λ b. if b then w n else 0) (sym (ap t e) ∙ h) in
          let j : w k ≡ w n = ap w e in
          omega (arith, i, j)

      other : (k < n → w k ≤ weight n t) → (k ≡ n → ⊥) → w k ≤ weight n t + (if t n then w n else 0)
      other f d = let r = f (omega (arith, l, d)) in omega (arith, r)

  parts_weigh : (t u v : ℕ → Bool) → ((k : ℕ) → t k ≡ (u k || v k)) → ((k : ℕ) → u k ≡ true → v k ≡ false) → (n : ℕ) → weight n t ≡ weight n u + weight n v
  parts_weigh t u v e d zero = omega arith
  parts_weigh t u v e d (suc n) = let k = parts_weigh t u v e d n in let i = one (t n) (u n) (v n) (e n) (d n) (w n) in omega (arith, k, i)
    where
      one : (a b c : Bool) → a ≡ (b || c) → (b ≡ true → c ≡ false) → (m : ℕ) → (if a then m else 0) ≡ (if b then m else 0) + (if c then m else 0)
      one a true true q f m = absurd (true≢false (f refl))
      one a true false q f m = let z : m ≡ m + 0 = omega arith in ap (λ x. if x then m else 0) q ∙ z
      one a false true q f m = let z : m ≡ 0 + m = omega arith in ap (λ x. if x then m else 0) q ∙ z
      one a false false q f m = let z : 0 ≡ 0 + 0 = omega arith in ap (λ x. if x then m else 0) q ∙ z

  at_most_all : (t : ℕ → Bool) (n : ℕ) → weight n t ≤ weight n (λ k. true)
  at_most_all t zero = omega arith
  at_most_all t (suc n) = let k = at_most_all t n in let i = by (t n) in omega (arith, k, i)
    where
      by : (b : Bool) → (if b then w n else 0) ≤ w n
      by true = omega arith
      by false = omega arith

  all_weigh : (t : ℕ → Bool) (n : ℕ) → ((k : ℕ) → k < n → t k ≡ true) → weight n t ≡ weight n (λ k. true)
  all_weigh t zero h = refl
  all_weigh t (suc n) h =
      let k = all_weigh t n (λ j l. h j (omega (arith, l))) in
      let i : (if t n then w n else 0) ≡ w n = ap (λ b. if b then w n else 0) (h n (omega arith)) in
      omega (arith, k, i)

abbrev power : ℕ → ℕ
power k = 2 ^ k

-- eight bits make a byte
byte_weighs : weight power 8 (λ k. true) ≡ 255
byte_weighs = refl

-- ---- lists

few_behind : {X : Type 0} (test : X → Bool) (x : X) (xs : List X) → length (filter test (x ∷ xs)) ≤ 1 → length (filter test xs) ≤ 1
few_behind test x xs h = by (test x) h
  where
    by : (b : Bool) → length (if b then x ∷ filter test xs else filter test xs) ≤ 1 → length (filter test xs) ≤ 1
    by true k = omega (arith, k)
    by false k = k

none_any : {X : Type 0} (test : X → Bool) (xs : List X) → length (filter test xs) ≤ 0 → list_any test xs ≡ false
none_any test [] h = refl
none_any test (x ∷ xs) h = by (none_any test xs) (test x) refl h
  where
    by : (length (filter test xs) ≤ 0 → list_any test xs ≡ false) → (b : Bool) → test x ≡ b → length (if b then x ∷ filter test xs else filter test xs) ≤ 0 → (test x || list_any test xs) ≡ false
    by f true e k = absurd (omega (arith, k))
    by f false e k = ap (λ c. c || list_any test xs) e ∙ f k

none_behind : {X : Type 0} (test : X → Bool) (x : X) (xs : List X) → length (filter test (x ∷ xs)) ≤ 1 → test x ≡ true → list_any test xs ≡ false
none_behind test x xs h e =
    let k : length (x ∷ filter test xs) ≤ 1 = subst (λ b. length (if b then x ∷ filter test xs else filter test xs) ≤ 1) e h in
    none_any test xs (omega (arith, k))

among_has : (rs : List ℕ) (r : ℕ) → is_among r rs ≡ true → Has rs r
among_has [] r e = cc
among_has (x ∷ xs) r e = elim (either (nat_eq r x) (is_among r xs) e) [ inl h ↦ inl (eqb-true r x h) | inr h ↦ inr (among_has xs r h) ]

-- ---- values

bool_small : (z : ℤ) → Fits kind.Bool z → unsigned_abs z ≤ 1
bool_small (pos n) h = let u = h.1 in omega (arith, ints, u)
bool_small (negsuc n) h = let l = h.0 in absurd (omega (arith, ints, l))

module _ (p : Program) where
  value_small : (w : Value) → Fit p (Elementary kind.Bool) w → unsigned_abs (number_in w) ≤ 1
  value_small (number z) h = bool_small z h
  value_small (reference o) h = absurd h
  value_small (array l vs) h = absurd h
  value_small (structure m ms) h = absurd h
  value_small (instance m ms) h = absurd h

  found_small : (o : Option Value) → ((w : Value) → o ≡ Some w → Fit p (Elementary kind.Bool) w) → unsigned_abs (number_or_zero o) ≤ 1
  found_small None f = omega arith
  found_small (Some w) f = value_small w (f w refl)

times_small : (m n : ℕ) → m ≤ 1 → m * n ≤ n
times_small zero n h = omega arith
times_small (suc zero) n h = omega arith
times_small (suc (suc m)) n h = absurd (omega (arith, h))

-- ---- outputs

has_it : (n : ℕ) (x : Located) → is_in area.Output x ≡ true → first_bit x.address ≤ n → n < first_bit x.address + bit_count x.address → has_bit n x ≡ true
has_it n x out l h =
    and-both (is_in area.Output x) (nat_le (first_bit x.address) n && nat_lt n (first_bit x.address + bit_count x.address)) out
    (and-both (nat_le (first_bit x.address) n) (nat_lt n (first_bit x.address + bit_count x.address)) (le-leb (first_bit x.address) n l) (lt-ltb n (first_bit x.address + bit_count x.address) h))

module _ (p : Program) (fine : ProgramIs p) (outputs : OutputsAre p) (fs : List ℕ) (s : Store) (good : GoodOn p (Has fs) s) where
  -- the bits of byte b that an output has
  abbrev bits_of_byte : ℕ → Located → ℕ → Bool
  bits_of_byte b x k = has_bit (b * 8 + k) x

  module _ (b : ℕ) (x : Located) (there : Has (located_of p) x) (out : is_in area.Output x ≡ true) (among : is_among x.path.region fs ≡ true) where
    bool_there : x.elem ≡ kind.Bool → (w : Value) → at s x.path ≡ Some w → Fit p (Elementary kind.Bool) w
    bool_there e w q =
        let is : path_shape p x.path ≡ Some (Elementary kind.Bool) = fine.located x there ∙ ap (λ k. Some (Elementary k)) e in
        let sh = then_some (region_shape p x.path.region) (λ z. shape_at z x.path.steps) (Elementary kind.Bool) is in
        let a = then_some (member s x.path.region) (λ v. value_at v x.path.steps) w q in
        let g = (good x.path.region (among_has fs x.path.region among)).by sh.0 sh.1 in
        let same : g.0 ≡ a.0 = some-same (sym g.1 ∙ a.1) in
        fit_at p x.path.steps sh.0 a.0 (Elementary kind.Bool) w (subst (Fit p sh.0) same g.2) sh.2 a.2

    single_share : is_bit (width_of x.address) ≡ true → unsigned_abs (number_or_zero (at s x.path)) * 2 ^ bit_of x.address ≤ weight power 8 (bits_of_byte (first_byte x.address) x)
    single_share e =
        let one = outputs.single x there e in
        let z = found_small p (at s x.path) (bool_there one.1) in
        let m = times_small (unsigned_abs (number_or_zero (at s x.path))) (2 ^ bit_of x.address) z in
        let f : first_bit x.address ≡ first_byte x.address * 8 + bit_of x.address = ap (λ c. first_byte x.address * 8 + (if c then bit_of x.address else 0)) e in
        let g : bit_count x.address ≡ 1 = ap (λ c. if c then 1 else size_of x.address * 8) e in
        let h = has_it (first_byte x.address * 8 + bit_of x.address) x out (omega (arith, f)) (omega (arith, f, g)) in
        let k = one_weighs power (bits_of_byte (first_byte x.address) x) 8 (bit_of x.address) one.0 h in
        omega (arith, m, k)

    wide_share : is_bit (width_of x.address) ≡ false → first_byte x.address ≤ b → b < first_byte x.address + size_of x.address → (z : ℤ) (n k : ℕ) → byte_of z n k ≤ weight power 8 (bits_of_byte b x)
    wide_share e l h z n k =
        let f : first_bit x.address ≡ first_byte x.address * 8 + 0 = ap (λ c. first_byte x.address * 8 + (if c then bit_of x.address else 0)) e in
        let g : bit_count x.address ≡ size_of x.address * 8 = ap (λ c. if c then 1 else size_of x.address * 8) e in
        let all = all_weigh power (bits_of_byte b x) 8 (λ j m. has_it (b * 8 + j) x out (omega (arith, f, l)) (omega (arith, f, g, h, m))) in
        let whole = byte_weighs in
        let byte : byte_of z n k < 256 = mod-lt _ (omega arith) in
        omega (arith, all, whole, byte)

    share_small : share x.address (number_or_zero (at s x.path)) b ≤ weight power 8 (bits_of_byte b x)
    share_small = by (is_bit (width_of x.address)) refl
      where
        single : is_bit (width_of x.address) ≡ true → (c : Bool) → nat_eq b (first_byte x.address) ≡ c → (if c then unsigned_abs (number_or_zero (at s x.path)) * 2 ^ bit_of x.address else 0) ≤ weight power 8 (bits_of_byte b x)
        single e true q = subst (λ i. unsigned_abs (number_or_zero (at s x.path)) * 2 ^ bit_of x.address ≤ weight power 8 (bits_of_byte i x)) (sym (eqb-true b (first_byte x.address) q)) (single_share e)
        single e false q = omega arith

        wide : is_bit (width_of x.address) ≡ false → (c : Bool) → (nat_le (first_byte x.address) b && nat_lt b (first_byte x.address + size_of x.address)) ≡ c
            → (if c then byte_of (number_or_zero (at s x.path)) (size_of x.address) (b - first_byte x.address) else 0) ≤ weight power 8 (bits_of_byte b x)
        wide e true q =
            let r = both (nat_le (first_byte x.address) b) (nat_lt b (first_byte x.address + size_of x.address)) q in
            wide_share e (leb-true (first_byte x.address) b r.0) (ltb-true b (first_byte x.address + size_of x.address) r.1) (number_or_zero (at s x.path)) (size_of x.address) (b - first_byte x.address)
        wide e false q = omega arith

        by : (c : Bool) → is_bit (width_of x.address) ≡ c
            → (if c then (if nat_eq b (first_byte x.address) then unsigned_abs (number_or_zero (at s x.path)) * 2 ^ bit_of x.address else 0)
            else (if nat_le (first_byte x.address) b && nat_lt b (first_byte x.address + size_of x.address) then byte_of (number_or_zero (at s x.path)) (size_of x.address) (b - first_byte x.address) else 0)) ≤ weight power 8 (bits_of_byte b x)
        by true e = single e (nat_eq b (first_byte x.address)) refl
        by false e = wide e (nat_le (first_byte x.address) b && nat_lt b (first_byte x.address + size_of x.address)) refl

  -- the bits of byte b that some output has
  abbrev bits_of_all : ℕ → List Located → ℕ → Bool
  bits_of_all b xs k = list_any (has_bit (b * 8 + k)) xs

  sum_small : (b : ℕ) (xs : List Located) → ((x : Located) → Has xs x → Has (located_of p) x) → ((n : ℕ) → length (filter (has_bit n) xs) ≤ 1) → output_byte xs fs s b ≤ weight power 8 (bits_of_all b xs)
  sum_small b [] sub once = omega arith
  sum_small b (x ∷ xs) sub once =
      let rest = sum_small b xs (λ y h. sub y (inr h)) (λ n. few_behind (has_bit n) x xs (once n)) in
      let own = by (is_shown fs x) refl in
      let sum = parts_weigh power (bits_of_all b (x ∷ xs)) (bits_of_byte b x) (bits_of_all b xs) (λ k. refl) (λ k h. none_behind (has_bit (b * 8 + k)) x xs (once (b * 8 + k)) h) 8 in
      omega (arith, rest, own, sum)
    where
      by : (c : Bool) → is_shown fs x ≡ c → (if c then share x.address (number_or_zero (at s x.path)) b else 0) ≤ weight power 8 (bits_of_byte b x)
      by true e = let q = both (is_in area.Output x) (is_among x.path.region fs) e in share_small b x (sub x (inl refl)) q.0 q.1
      by false e = omega arith

  pub byte_small : (b : ℕ) → output_byte (located_of p) fs s b < 256
  byte_small b =
      let sum = sum_small b (located_of p) (λ x h. h) outputs.apart in
      let most = at_most_all power (bits_of_all b (located_of p)) 8 in
      let all = byte_weighs in
      omega (arith, sum, most, all)

-- ---- how many bytes there are

covered_by : (fs : List ℕ) (xs : List Located) → ((x : Located) → Has xs x → is_in area.Output x ≡ true → first_byte x.address + size_of x.address ≤ 256) → covered xs fs ≤ 256
covered_by fs [] h = omega arith
covered_by fs (x ∷ xs) h =
    let rest = covered_by fs xs (λ y k. h y (inr k)) in
    let own = by (is_shown fs x) refl in
    omega (arith, rest, own)
  where
    by : (c : Bool) → is_shown fs x ≡ c → (if c then first_byte x.address + size_of x.address else 0) ≤ 256
    by true e = h x (inl refl) (both (is_in area.Output x) (is_among x.path.region fs) e).0
    by false e = omega arith

pub covered_few : (p : Program) → OutputsAre p → (fs : List ℕ) → covered (located_of p) fs ≤ 256
covered_few p outputs fs = covered_by fs (located_of p) outputs.within
