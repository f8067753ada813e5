-- Lists of which each item is as is said, and what stands in a list at a place.
use Rattle.std.proofs.Common.{◌≡◌, ℕ, zero, suc, ◌+◌, ◌<◌, Bool, true, false, List, [], ◌∷◌, ◌++◌, map, reverse, length, Option, Some, None, refl, sym, ap, ◌∙◌, subst, arith}
use Rattle.std.specs.Prelude.{if◌then◌else◌, filter, flat_map, slice_get}
use Rattle.std.proofs.lemmas.List.{reverse-append}
use Rattle.st_rules.specs.Numbered.{each_numbered}
use Rattle.st_rules.proofs.Booleans.{none≢some, some-same}
use Rattle.st_unit_rules.specs.Checked.{Each, EachFrom, IfThere}
use Rattle.resolution_order.specs.told_laws.ToldLaws.{Every}

-- ---- each item

pub every_append : {X : Type 0} (P : X → Type 0) (xs ys : List X) → Every P xs → Every P ys → Every P (xs ++ ys)
every_append P [] ys h k = k
every_append P (x ∷ xs) ys h k = (h.0, every_append P xs ys h.1 k)

pub every_front : {X : Type 0} (P : X → Type 0) (xs ys : List X) → Every P (xs ++ ys) → Every P xs
every_front P [] ys h = tt
every_front P (x ∷ xs) ys h = (h.0, every_front P xs ys h.1)

pub every_back : {X : Type 0} (P : X → Type 0) (xs ys : List X) → Every P (xs ++ ys) → Every P ys
every_back P [] ys h = h
every_back P (x ∷ xs) ys h = every_back P xs ys h.1

pub every_at : {X : Type 0} (P : X → Type 0) (xs : List X) (i : ℕ) (x : X) → Every P xs → slice_get xs i ≡ Some x → P x
every_at P [] i x h e = absurd (none≢some e)
every_at P (y ∷ ys) zero x h e = subst P (some-same e) h.0
every_at P (y ∷ ys) (suc i) x h e = every_at P ys i x h.1 e

pub every_one : {X : Type 0} (P : X → Type 0) → ((x : X) → P x) → (xs : List X) → Every P xs
every_one P f [] = tt
every_one P f (x ∷ xs) = (f x, every_one P f xs)

pub every_from : {X : Type 0} (P : X → Type 0) (xs : List X) → ((i : ℕ) (x : X) → slice_get xs i ≡ Some x → P x) → Every P xs
every_from P [] f = tt
every_from P (x ∷ xs) f = (f zero x refl, every_from P xs (λ i y e. f (suc i) y e))

pub every_means : {X : Type 0} (P Q : X → Type 0) → ((x : X) → P x → Q x) → (xs : List X) → Every P xs → Every Q xs
every_means P Q f [] h = tt
every_means P Q f (x ∷ xs) h = (f x h.0, every_means P Q f xs h.1)

pub every_both : {X : Type 0} (P Q R : X → Type 0) → ((x : X) → P x → Q x → R x) → (xs : List X) → Every P xs → Every Q xs → Every R xs
every_both P Q R f [] h k = tt
every_both P Q R f (x ∷ xs) h k = (f x h.0 k.0, every_both P Q R f xs h.1 k.1)

pub every_map : {X Y : Type 0} (P : Y → Type 0) (f : X → Y) (xs : List X) → Every P (map f xs) → Every (λ x. P (f x)) xs
every_map P f [] h = tt
every_map P f (x ∷ xs) h = (h.0, every_map P f xs h.1)

pub every_mapped : {X Y : Type 0} (P : Y → Type 0) (f : X → Y) (xs : List X) → Every (λ x. P (f x)) xs → Every P (map f xs)
every_mapped P f [] h = tt
every_mapped P f (x ∷ xs) h = (h.0, every_mapped P f xs h.1)

pub every_flat : {X Y : Type 0} (P : Y → Type 0) (f : X → List Y) (xs : List X) → Every P (flat_map f xs) → Every (λ x. Every P (f x)) xs
every_flat P f [] h = tt
every_flat P f (x ∷ xs) h = (every_front P (f x) (flat_map f xs) h, every_flat P f xs (every_back P (f x) (flat_map f xs) h))

pub every_joined : {X Y : Type 0} (P : Y → Type 0) (f : X → List Y) (xs : List X) → Every (λ x. Every P (f x)) xs → Every P (flat_map f xs)
every_joined P f [] h = tt
every_joined P f (x ∷ xs) h = every_append P (f x) (flat_map f xs) h.0 (every_joined P f xs h.1)

pub every_passing : {X : Type 0} (P : X → Type 0) (test : X → Bool) (xs : List X) → Every (λ x. test x ≡ true → P x) xs → Every P (filter test xs)
every_passing P test [] h = tt
every_passing P test (x ∷ xs) h = by (every_passing P test xs h.1) (test x) h.0
  where
    by : Every P (filter test xs) → (b : Bool) → (b ≡ true → P x) → Every P (if b then x ∷ filter test xs else filter test xs)
    by k true f = (f refl, k)
    by k false f = k

pub every_if_passing : {X : Type 0} (P : X → Type 0) (test : X → Bool) (xs : List X) → Every P (filter test xs) → Every (λ x. test x ≡ true → P x) xs
every_if_passing P test [] h = tt
every_if_passing P test (x ∷ xs) h = by (every_if_passing P test xs) (test x) h
  where
    by : (Every P (filter test xs) → Every (λ y. test y ≡ true → P y) xs) → (b : Bool) → Every P (if b then x ∷ filter test xs else filter test xs) → (b ≡ true → P x) × Every (λ y. test y ≡ true → P y) xs
    by f true k = (λ e. k.0, f k.1)
    by f false k = (λ e. cc, f k)

pub every_reversed : {X : Type 0} (P : X → Type 0) (xs : List X) → Every P xs → Every P (reverse xs)
every_reversed P [] h = tt
every_reversed P (x ∷ xs) h = subst (Every P) (sym (reverse-append (x ∷ []) xs)) (every_append P (reverse xs) (x ∷ []) (every_reversed P xs h.1) (h.0, tt))

-- ---- what stands at a place

pub record There (X : Type 0) (xs : List X) (i : ℕ) : Type 0 where
  pub item : X
  pub there : slice_get xs i ≡ Some item

pub there_below : {X : Type 0} (xs : List X) (i : ℕ) → i < length xs → There X xs i
there_below [] i h = absurd (omega arith)
there_below (x ∷ xs) zero h = record { item = x; there = refl }
there_below (x ∷ xs) (suc i) h = let t = there_below xs i (omega arith) in record { item = t.item; there = t.there }

pub front_get : {X : Type 0} (xs ys : List X) (i : ℕ) (x : X) → slice_get xs i ≡ Some x → slice_get (xs ++ ys) i ≡ Some x
front_get [] ys i x e = absurd (none≢some e)
front_get (y ∷ xs) ys zero x e = e
front_get (y ∷ xs) ys (suc i) x e = front_get xs ys i x e

pub back_get : {X : Type 0} (xs ys : List X) (i n : ℕ) → n ≡ length xs → slice_get (xs ++ ys) (n + i) ≡ slice_get ys i
back_get [] ys i n e = let q : n + i ≡ i = omega (arith, e) in ap (slice_get ys) q
back_get (x ∷ xs) ys i zero e = absurd (omega (arith, e))
back_get (x ∷ xs) ys i (suc n) e =
    let q : suc n + i ≡ suc (n + i) = omega arith in
    let l : n ≡ length xs = omega (arith, e) in
    ap (slice_get (x ∷ (xs ++ ys))) q ∙ back_get xs ys i n l

pub numbered_get : {X Y : Type 0} (f : ℕ → X → Y) (n : ℕ) (xs : List X) (i : ℕ) (x : X) → slice_get xs i ≡ Some x → slice_get (each_numbered (λ k y. f k y ∷ []) n xs) i ≡ Some (f (n + i) x)
numbered_get f n [] i x e = absurd (none≢some e)
numbered_get f n (y ∷ ys) zero x e =
    let q : n ≡ n + 0 = omega arith in
    ap (λ z. Some (f n z)) (some-same e) ∙ ap (λ k. Some (f k x)) q
numbered_get f n (y ∷ ys) (suc i) x e =
    let q : suc n + i ≡ n + suc i = omega arith in
    numbered_get f (suc n) ys i x e ∙ ap (λ k. Some (f k x)) q

-- what stands in a list from a number on
pub record Behind (X : Type 0) (all rest : List X) (n : ℕ) : Type 0 where
  pub items : (j : ℕ) → slice_get all (n + j) ≡ slice_get rest j

pub all_behind : {X : Type 0} (all : List X) → Behind X all all 0
all_behind all = record { items = λ j. let q : 0 + j ≡ j = omega arith in ap (slice_get all) q }

pub behind_here : {X : Type 0} (all rest : List X) (n : ℕ) (x : X) → Behind X all (x ∷ rest) n → slice_get all n ≡ Some x
behind_here all rest n x h = let q : n ≡ n + 0 = omega arith in ap (slice_get all) q ∙ h.items 0

pub behind_next : {X : Type 0} (all rest : List X) (n : ℕ) (x : X) → Behind X all (x ∷ rest) n → Behind X all rest (suc n)
behind_next all rest n x h = record { items = λ j. let q : suc n + j ≡ n + suc j = omega arith in ap (slice_get all) q ∙ h.items (suc j) }

pub behind_part : {X : Type 0} (all part rest : List X) (n : ℕ) → Behind X all (part ++ rest) n → Behind X all rest (n + length part)
behind_part {X = X} all [] rest n h = let q : n ≡ n + 0 = omega arith in subst (Behind X all rest) q h
behind_part {X = X} all (x ∷ part) rest n h =
    let q : suc n + length part ≡ n + suc (length part) = omega arith in
    subst (Behind X all rest) q (behind_part all part rest (suc n) (behind_next all (part ++ rest) n x h))

-- ---- two lists, item by item

pub if_there : {A B : Type 0} (R : A → B → Type 0) (o : Option A) (q : Option B) (a : A) → o ≡ Some a → IfThere R o q → (b : B) × (q ≡ Some b) × R a b
if_there R None q a e h = absurd (none≢some e)
if_there R (Some x) None a e h = absurd h
if_there R (Some x) (Some b) a e h = (b, refl, subst (λ y. R y b) (some-same e) h)

pub if_found : {A B : Type 0} (R : A → B → Type 0) (o : Option A) (q : Option B) (b : B) → q ≡ Some b → IfThere R o q → (a : A) × (o ≡ Some a) × R a b
if_found R o None b e h = absurd (none≢some e)
if_found R None (Some y) b e h = absurd h
if_found R (Some a) (Some y) b e h = (a, refl, subst (R a) (some-same e) h)

pub each_get : {A B : Type 0} (R : A → B → Type 0) (xs : List A) (ys : List B) (i : ℕ) → Each R xs ys → IfThere R (slice_get xs i) (slice_get ys i)
each_get R [] [] i h = tt
each_get R [] (y ∷ ys) i h = absurd h
each_get R (x ∷ xs) [] i h = absurd h
each_get R (x ∷ xs) (y ∷ ys) zero h = h.0
each_get R (x ∷ xs) (y ∷ ys) (suc i) h = each_get R xs ys i h.1

pub from_get : {A B : Type 0} (R : ℕ → A → B → Type 0) (n : ℕ) (xs : List A) (ys : List B) (i : ℕ) → EachFrom R n xs ys → IfThere (R (n + i)) (slice_get xs i) (slice_get ys i)
from_get R n [] [] i h = tt
from_get R n [] (y ∷ ys) i h = absurd h
from_get R n (x ∷ xs) [] i h = absurd h
from_get R n (x ∷ xs) (y ∷ ys) zero h = let q : n ≡ n + 0 = omega arith in subst (λ k. R k x y) q h.0
from_get R n (x ∷ xs) (y ∷ ys) (suc i) h =
    let q : suc n + i ≡ n + suc i = omega arith in
    subst (λ k. IfThere (R k) (slice_get xs i) (slice_get ys i)) q (from_get R (suc n) xs ys i h.1)

pub each_long : {A B : Type 0} (R : A → B → Type 0) (xs : List A) (ys : List B) → Each R xs ys → length ys ≡ length xs
each_long R [] [] h = refl
each_long R [] (y ∷ ys) h = absurd h
each_long R (x ∷ xs) [] h = absurd h
each_long R (x ∷ xs) (y ∷ ys) h = ap suc (each_long R xs ys h.1)

pub from_long : {A B : Type 0} (R : ℕ → A → B → Type 0) (n : ℕ) (xs : List A) (ys : List B) → EachFrom R n xs ys → length ys ≡ length xs
from_long R n [] [] h = refl
from_long R n [] (y ∷ ys) h = absurd h
from_long R n (x ∷ xs) [] h = absurd h
from_long R n (x ∷ xs) (y ∷ ys) h = ap suc (from_long R (suc n) xs ys h.1)
