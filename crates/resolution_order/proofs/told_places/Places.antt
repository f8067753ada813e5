-- Items that pass, by their places in a list and among themselves; two lists item by item.
use Rattle.std.proofs.Common.{◌≡◌, ℕ, zero, suc, Bool, true, false, List, [], ◌∷◌, ◌++◌, length, take, Some, refl, ap, subst, ◌∙◌}
use Rattle.std.specs.Prelude.{if◌then◌else◌, filter, slice_get}
use Rattle.resolution_order.specs.told_laws.ToldLaws.{Each}

-- by cases on a test, with what it says
pub by-test : {X Y : Type 0} (P : X → Y → Type 0) (b : Bool) (x x' : X) (y y' : Y) → (b ≡ true → P x y) → (b ≡ false → P x' y') → P (if b then x else x') (if b then y else y')
by-test P true x x' y y' f g = f refl
by-test P false x x' y y' f g = g refl

module _ {X : Type 0} (test : X → Bool) where
  -- the number of those that pass before a place
  abbrev pub before : List X → ℕ → ℕ
  before xs place = length (filter test (take place xs))

  -- what stands at a place and passes stands among those that pass behind those before it
  pub among : (xs : List X) (place : ℕ) (x : X) → slice_get xs place ≡ Some x → test x ≡ true → slice_get (filter test xs) (before xs place) ≡ Some x
  among [] place x h t = absurd (cc)
  among (y ∷ ys) zero x h t =
      let e : y ≡ x = cc in
      first (test y) (ap test e ∙ t) ∙ ap Some e
    where
      first : (b : Bool) → b ≡ true → slice_get (if b then y ∷ filter test ys else filter test ys) zero ≡ Some y
      first true e = refl
      first false e = absurd (cc)
  among (y ∷ ys) (suc place) x h t =
      by-test (λ zs ms. slice_get zs (length ms) ≡ Some x) (test y) (y ∷ filter test ys) (filter test ys) (y ∷ filter test (take place ys)) (filter test (take place ys))
      (λ e. among ys place x h t) (λ e. among ys place x h t)

  before-passes : (y : X) (ys : List X) (place : ℕ) → test y ≡ true → before (y ∷ ys) (suc place) ≡ suc (before ys place)
  before-passes y ys place e = ap (λ b. length (if b then y ∷ filter test (take place ys) else filter test (take place ys))) e

  before-fails : (y : X) (ys : List X) (place : ℕ) → test y ≡ false → before (y ∷ ys) (suc place) ≡ before ys place
  before-fails y ys place e = ap (λ b. length (if b then y ∷ filter test (take place ys) else filter test (take place ys))) e

  split : (Q : ℕ → X → Type 0) (b : Bool) (y x : X) (ys : List X) → (b ≡ true → Q zero y) → (b ≡ true → (p : ℕ) → slice_get ys p ≡ Some x → Q (suc p) x) → (b ≡ false → (p : ℕ) → slice_get ys p ≡ Some x → Q p x)
      → (p : ℕ) → slice_get (if b then y ∷ ys else ys) p ≡ Some x → Q p x
  split Q true y x ys here up same zero h = let e : y ≡ x = cc in subst (λ z. Q zero z) e (here refl)
  split Q true y x ys here up same (suc p) h = up refl p h
  split Q false y x ys here up same p h = same refl p h

  -- what holds of all that pass by their places holds of them by their numbers
  pub by-number : (Q : ℕ → X → Type 0) (xs : List X) → ((place : ℕ) (x : X) → slice_get xs place ≡ Some x → test x ≡ true → Q (before xs place) x)
      → (p : ℕ) (x : X) → slice_get (filter test xs) p ≡ Some x → Q p x
  by-number Q [] f p x h = absurd (cc)
  by-number Q (y ∷ ys) f p x h =
      split Q (test y) y x (filter test ys) (λ e. f zero y refl e)
      (λ e q k. by-number (λ n z. Q (suc n) z) ys (λ place z g t. subst (λ n. Q n z) (before-passes y ys place e) (f (suc place) z g t)) q x k)
      (λ e q k. by-number Q ys (λ place z g t. subst (λ n. Q n z) (before-fails y ys place e) (f (suc place) z g t)) q x k)
      p h

-- ---- two lists

-- as many, and each as is said of it and of the one in its place
abbrev pub Paired : {X Y : Type 0} → (X → Y → Type 0) → List X → List Y → Type 0
Paired R [] [] = Unit {0}
Paired R (x ∷ xs) (y ∷ ys) = R x y × Paired R xs ys
Paired R _ _ = ⊥

pub paired-append : {X Y : Type 0} (R : X → Y → Type 0) (xs : List X) (ys : List Y) (xs' : List X) (ys' : List Y) → Paired R xs ys → Paired R xs' ys' → Paired R (xs ++ xs') (ys ++ ys')
paired-append R [] [] xs' ys' h k = k
paired-append R (x ∷ xs) (y ∷ ys) xs' ys' h k = (h.0, paired-append R xs ys xs' ys' h.1 k)
paired-append R [] (y ∷ ys) xs' ys' h k = absurd h
paired-append R (x ∷ xs) [] xs' ys' h k = absurd h

-- what is paired with the item at a place
pub paired-at : {X Y : Type 0} (R : X → Y → Type 0) (xs : List X) (ys : List Y) (p : ℕ) (x : X) → Paired R xs ys → slice_get xs p ≡ Some x → (y : Y) × (slice_get ys p ≡ Some y) × R x y
paired-at R [] [] p x h e = absurd (cc)
paired-at R (z ∷ xs) (y ∷ ys) zero x h e = let same : z ≡ x = cc in (y, refl, subst (λ w. R w y) same h.0)
paired-at R (z ∷ xs) (y ∷ ys) (suc p) x h e = paired-at R xs ys p x h.1 e
paired-at R [] (y ∷ ys) p x h e = absurd h
paired-at R (z ∷ xs) [] p x h e = absurd h

-- a third list, item by item: what is known of its item by its place and by what stands in the first list
pub third : {X Y : Type 0} (R : X → Y → Type 0) (A S : Y → Y → Type 0) (Q : ℕ → X → Y → Type 0) → ((p : ℕ) (x : X) (y z : Y) → R x y → Q p x z → S z y)
    → (xs : List X) (ys zs : List Y) → Paired R xs ys → Each A zs ys → ((p : ℕ) (x : X) (z : Y) → slice_get xs p ≡ Some x → slice_get zs p ≡ Some z → Q p x z) → Each S zs ys
third R A S Q step [] [] [] h k f = tt
third R A S Q step (x ∷ xs) (y ∷ ys) (z ∷ zs) h k f =
    (step zero x y z h.0 (f zero x z refl refl), third R A S (λ p. Q (suc p)) (λ p. step (suc p)) xs ys zs h.1 k.1 (λ p. f (suc p)))
third R A S Q step [] [] (z ∷ zs) h k f = absurd k
third R A S Q step [] (y ∷ ys) zs h k f = absurd h
third R A S Q step (x ∷ xs) [] zs h k f = absurd h
third R A S Q step (x ∷ xs) (y ∷ ys) [] h k f = absurd k
