-- What outputs add to bytes.
use Rattle.std.proofs.Common.{◌≡◌, ◌≤◌, ◌<◌, ◌+◌, ◌-◌, ◌/◌, ◌%◌, ◌^◌, ℕ, ℤ, pos, Bool, true, false, List, [], ◌∷◌, Option, map, take, replicate, refl, sym, ap, ap₂, ◌∙◌, subst, length, get_or, arith, rules, inl, inr}
use Rattle.std.specs.Prelude.{◌&&◌, nat_le, nat_lt, nat_eq, if◌then◌else◌, set}
use Rattle.std.proofs.lemmas.Bool.{cases_lt, cases_eq, eq-eqb, ne_eqb}
use Rattle.std.proofs.lemmas.List.{get_or-set_same, get_or-set_other, length-set, get_or-replicate, length-replicate, get_or_past, length-take-le, length-map, ext_get_or, get_or-take}
use Rattle.std.proofs.lemmas.List.FromFn.{get_or-map-range_with_len, length-range_with_len}
use Rattle.std.specs.List.{range_with_len}
use Rattle.st_meaning.specs.ProcessImage.{bytes_in}
use Rattle.task_ports.specs.declared.ports.Port.{Port}
use Rattle.task_ports.specs.Ports.{PortFits, PortsFit, port_number, port_share, collected_byte, collected, EndsWithin}
use Rattle.task_ports.specs.Private.Sums.{byte_at, part_share, Adds, HasSpace}
use Rattle.task_ports.proofs.PortLaws.{no_ports}

le_true : (a b : ℕ) → a ≤ b → nat_le a b ≡ true
le_true a b h = search rules

lt_true : (a b : ℕ) → a < b → nat_lt a b ≡ true
lt_true a b h = search rules

le_false : (a b : ℕ) → b < a → nat_le a b ≡ false
le_false a b h = search rules

lt_false : (a b : ℕ) → b ≤ a → nat_lt a b ≡ false
lt_false a b h = search rules

share_in : (first k n b : ℕ) → first ≤ b → b < first + k → part_share first k n b ≡ byte_at n (b - first)
share_in first k n b l h = ap₂ (λ x y. if x && y then byte_at n (b - first) else 0) (le_true first b l) (lt_true b (first + k) h)

below_none : (first k n b : ℕ) → b < first → part_share first k n b ≡ 0
below_none first k n b l = ap (λ x. if x && nat_lt b (first + k) then byte_at n (b - first) else 0) (le_false first b l)

and_false : (x : Bool) (n : ℕ) → (if x && false then n else 0) ≡ 0
and_false true n = refl
and_false false n = refl

behind_none : (first k n b : ℕ) → first + k ≤ b → part_share first k n b ≡ 0
behind_none first k n b l = ap (λ y. if nat_le first b && y then byte_at n (b - first) else 0) (lt_false b (first + k) l) ∙ and_false (nat_le first b) (byte_at n (b - first))

none_yet : (first n b : ℕ) → part_share first 0 n b ≡ 0
none_yet first n b = elim (cases_lt b first) [ inl l ↦ below_none first 0 n b l | inr g ↦ behind_none first 0 n b (omega arith) ]

same_share : (first k n b : ℕ) → (b ≡ first + k → ⊥) → part_share first (k + 1) n b ≡ part_share first k n b
same_share first k n b ne = elim (cases_lt b first) [
  | inl l ↦ below_none first (k + 1) n b l ∙ sym (below_none first k n b l)
  | inr g ↦ elim (cases_lt b (first + k)) [
    | inl l ↦ share_in first (k + 1) n b g (omega arith) ∙ sym (share_in first k n b g l)
    | inr h ↦
        let far : first + (k + 1) ≤ b = elim (cases_eq b (first + k)) [ inl e ↦ absurd (ne e) | inr d ↦ omega arith ] in
        behind_none first (k + 1) n b far ∙ sym (behind_none first k n b h)
  ]
]

module _ (old : List ℕ) (first size n : ℕ) where
  pub adds_begun : Adds old old (part_share first 0 n)
  adds_begun = record { long = refl; each = λ b. (let e = none_yet first n b in omega arith) }

  share_at : (count k left : ℕ) → left ≡ n / 256 ^ k → k < count → part_share first count n (first + k) ≡ left % 256
  share_at count k left e l =
      let m : first + k - first ≡ k = omega arith in
      share_in first count n (first + k) (omega arith) (omega arith) ∙ ap (byte_at n) m ∙ ap (λ x. x % 256) (sym e)

  pub fits_now : (bytes : List ℕ) (k left : ℕ) → HasSpace old (part_share first size n) → Adds old bytes (part_share first k n) → left ≡ n / 256 ^ k → k < size → get_or bytes (first + k) 0 + left % 256 < 256
  fits_now bytes k left s a e l =
      let none = behind_none first k n (first + k) (omega arith) in
      let full = share_at size k left e l in
      let was = a.each (first + k) in
      let space = s.each (first + k) in
      omega arith

  pub adds_next : (bytes bytes' : List ℕ) (k left x : ℕ) → Adds old bytes (part_share first k n) → left ≡ n / 256 ^ k → k < size → first + size ≤ length old
      → x ≡ get_or bytes (first + k) 0 + left % 256 → bytes' ≡ set bytes (first + k) x → Adds old bytes' (part_share first (k + 1) n)
  adds_next bytes bytes' k left x a e l room h w = record {
    long = ap length w ∙ length-set bytes (first + k) x ∙ a.long;
    each = λ b. elim (cases_eq b (first + k)) [
      | inl same ↦
          let within : first + k < length bytes = (let s = a.long in omega arith) in
          let at : get_or bytes' (first + k) 0 ≡ x = ap (λ bs. get_or bs (first + k) 0) w ∙ get_or-set_same bytes (first + k) x 0 within in
          let was = a.each (first + k) in
          let none = behind_none first k n (first + k) (omega arith) in
          let now = share_at (k + 1) k left e (omega arith) in
          subst (λ c. get_or bytes' c 0 ≡ get_or old c 0 + part_share first (k + 1) n c) (sym same) (omega arith)
      | inr ne ↦
          ap (λ bs. get_or bs b 0) w ∙ get_or-set_other bytes (first + k) b x 0 ne ∙ a.each b ∙ ap (λ c. get_or old b 0 + c) (sym (same_share first k n b ne))
    ];
  }

pub bit_here : (old : List ℕ) (first m : ℕ) → HasSpace old (λ b. if nat_eq b first then m else 0) → get_or old first 0 + m < 256
bit_here old first m s =
    let e : (if nat_eq first first then m else 0) ≡ m = ap (λ x. if x then m else 0) (eq-eqb first first refl) in
    let space = s.each first in
    omega arith

pub bit_added : (old new : List ℕ) (first m x : ℕ) → first < length old → x ≡ get_or old first 0 + m → new ≡ set old first x → Adds old new (λ b. if nat_eq b first then m else 0)
bit_added old new first m x within h w = record {
  long = ap length w ∙ length-set old first x;
  each = λ b. elim (cases_eq b first) [
    | inl same ↦
        let e : (if nat_eq first first then m else 0) ≡ m = ap (λ y. if y then m else 0) (eq-eqb first first refl) in
        subst (λ c. get_or new c 0 ≡ get_or old c 0 + (if nat_eq c first then m else 0)) (sym same) (ap (λ bs. get_or bs first 0) w ∙ get_or-set_same old first x 0 within ∙ h ∙ ap (λ y. get_or old first 0 + y) (sym e))
    | inr ne ↦
        let none : (if nat_eq b first then m else 0) ≡ 0 = ap (λ y. if y then m else 0) (ne_eqb b first ne) in
        let same : get_or new b 0 ≡ get_or old b 0 = ap (λ bs. get_or bs b 0) w ∙ get_or-set_other old first b x 0 ne in
        omega arith
  ];
}

-- one output after another
pub record Summing (images committed : List (Option (List ℕ))) (all left : List Port) (end : ℕ) (bytes : List ℕ) : Type 0 where
  pub fits : PortsFit committed left
  pub adds : (b : ℕ) → get_or bytes b 0 + collected_byte left images b ≡ collected_byte all images b
  pub ends : EndsWithin end left
  pub long : length bytes ≡ 256

zero_at : (n b : ℕ) → get_or {A = ℕ} (replicate n 0) b 0 ≡ 0
zero_at n b = elim (cases_lt b n) [
  | inl l ↦ get_or-replicate n b 0 0 l
  | inr g ↦ (let e : length (replicate {A = ℕ} n 0) ≡ n = length-replicate {A = ℕ} n 0 in get_or_past (replicate n 0) b 0 (omega arith))
]

pub summing_begun : (images committed : List (Option (List ℕ))) (all : List Port) (end : ℕ) → PortsFit committed all → EndsWithin end all → Summing images committed all all end (replicate 256 0)
summing_begun images committed all end f ends = record { fits = f; adds = λ b. ap (λ n. n + collected_byte all images b) (zero_at 256 b) ∙ omega arith; ends = ends; long = length-replicate {A = ℕ} 256 0 }

module _ (images committed : List (Option (List ℕ))) (all ps qs : List Port) (end : ℕ) (bytes : List ℕ) (x : Port) where
  summing_split : Summing images committed all ps end bytes → ps ≡ x ∷ qs → (b : ℕ) → get_or bytes b 0 + (port_share x (port_number images x) b + collected_byte qs images b) ≡ collected_byte all images b
  summing_split s e b = sym (ap (λ ys. get_or bytes b 0 + collected_byte ys images b) e) ∙ s.adds b

  pub summing_space : Summing images committed all ps end bytes → ps ≡ x ∷ qs → ((b : ℕ) → collected_byte all images b < 256) → HasSpace bytes (port_share x (port_number images x))
  summing_space s e few = record { each = λ b. (let w = summing_split s e b in let f = few b in omega arith) }

  pub summing_end : Summing images committed all ps end bytes → ps ≡ x ∷ qs → x.first + bytes_in x.width ≤ end
  summing_end s e = (subst (EndsWithin end) e s.ends).0

  pub summing_fits : Summing images committed all ps end bytes → ps ≡ x ∷ qs → PortFits committed x
  summing_fits s e = (subst (PortsFit committed) e s.fits).0

  pub summing_next : (bytes' : List ℕ) → Summing images committed all ps end bytes → ps ≡ x ∷ qs → Adds bytes bytes' (port_share x (port_number images x)) → Summing images committed all qs end bytes'
  summing_next bytes' s e a = record {
    fits = (subst (PortsFit committed) e s.fits).1;
    adds = λ b. (let w = summing_split s e b in let h = a.each b in omega arith);
    ends = (subst (EndsWithin end) e s.ends).1;
    long = a.long ∙ s.long;
  }

pub summing_ends : (images committed : List (Option (List ℕ))) (all ps : List Port) (end : ℕ) (bytes : List ℕ) → Summing images committed all ps end bytes → length ps ≡ 0 → end ≤ 256 → take end bytes ≡ collected all end images
summing_ends images committed all ps end bytes s e few =
    let f = collected_byte all images in
    let long : length (take end bytes) ≡ end = length-take-le end bytes (let l = s.long in omega arith) in
    let size : length (map f (range_with_len 0 end)) ≡ end = length-map (range_with_len 0 end) f ∙ length-range_with_len 0 end in
    ext_get_or 0 (take end bytes) (map f (range_with_len 0 end)) (long ∙ sym size)
    (λ b l.
    (let below : b < end = omega arith in
    let left = sym (ap (λ ys. get_or bytes b 0 + collected_byte ys images b) (no_ports ps e)) ∙ s.adds b in
    get_or-take end bytes b 0 below ∙ (let w : get_or bytes b 0 + 0 ≡ f b = left in omega arith) ∙ sym (get_or-map-range_with_len f 0 end b b 0 below (omega arith))))
