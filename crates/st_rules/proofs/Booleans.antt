-- What tests say of lists.
use Rattle.std.proofs.Common.{◌≡◌, ℕ, Bool, true, false, List, [], ◌∷◌, Some, None, refl, sym, ap, ◌∙◌, ◌⊎◌, inl, inr, nat_eq}
use Rattle.std.specs.Prelude.{◌||◌, ◌&&◌}
use Rattle.std.specs.List.{list_any}
use Rattle.std.proofs.lemmas.Bool.{eqb-true, eq-eqb}
use Rattle.st_rules.specs.Chains.{is_among}

pub true≢false : true ≡ false → ⊥
true≢false h = cc

pub false≢true : false ≡ true → ⊥
false≢true h = cc

pub none≢some : {X : Type 0} {x : X} → None ≡ Some x → ⊥
none≢some h = cc

pub some-same : {X : Type 0} {x y : X} → Some x ≡ Some y → x ≡ y
some-same h = cc

-- a test with its outcome
pub cases : (b : Bool) → (b ≡ true) ⊎ (b ≡ false)
cases true = inl refl
cases false = inr refl

pub either : (a b : Bool) → (a || b) ≡ true → (a ≡ true) ⊎ (b ≡ true)
either true b h = inl refl
either false b h = inr h

pub neither : (a b : Bool) → (a || b) ≡ false → (a ≡ false) × (b ≡ false)
neither true b h = absurd (true≢false h)
neither false b h = (refl, h)

pub or-first : (a b : Bool) → a ≡ true → (a || b) ≡ true
or-first a b h = ap (λ x. x || b) h

pub or-second : (a b : Bool) → b ≡ true → (a || b) ≡ true
or-second true b h = refl
or-second false b h = h

pub or-neither : (a b : Bool) → a ≡ false → b ≡ false → (a || b) ≡ false
or-neither a b h k = ap (λ x. x || b) h ∙ k

pub both : (a b : Bool) → (a && b) ≡ true → (a ≡ true) × (b ≡ true)
both true b h = (refl, h)
both false b h = absurd (false≢true h)

pub and-both : (a b : Bool) → a ≡ true → b ≡ true → (a && b) ≡ true
and-both a b h k = ap (λ x. x && b) h ∙ k

-- two tests that hold together are one
pub same-tests : (a b : Bool) → (a ≡ true → b ≡ true) → (b ≡ true → a ≡ true) → a ≡ b
same-tests true b h k = sym (h refl)
same-tests false true h k = k refl
same-tests false false h k = refl

pub differ_from_test : (i j : ℕ) → nat_eq i j ≡ false → i ≡ j → ⊥
differ_from_test i j h e = true≢false (sym (eq-eqb i j e) ∙ h)

-- a number among others that passes
pub record Among (test : ℕ → Bool) (ns : List ℕ) : Type 0 where
  pub number : ℕ
  pub among : is_among number ns ≡ true
  pub passes : test number ≡ true

pub any-parts : (test : ℕ → Bool) (ns : List ℕ) → list_any test ns ≡ true → Among test ns
any-parts test [] h = absurd (false≢true h)
any-parts test (n ∷ ns) h = elim (either (test n) (list_any test ns) h) [
  | inl p ↦ record { number = n; among = or-first (nat_eq n n) (is_among n ns) (eq-eqb n n refl); passes = p }
  | inr p ↦ let r : Among test ns = any-parts test ns p in record { number = r.number; among = or-second (nat_eq r.number n) (is_among r.number ns) r.among; passes = r.passes }
]

pub any-among : (test : ℕ → Bool) (ns : List ℕ) (n : ℕ) → is_among n ns ≡ true → test n ≡ true → list_any test ns ≡ true
any-among test [] n h p = absurd (false≢true h)
any-among test (m ∷ ns) n h p = elim (either (nat_eq n m) (is_among n ns) h) [
  | inl q ↦ or-first (test m) (list_any test ns) (ap test (sym (eqb-true n m q)) ∙ p)
  | inr q ↦ or-second (test m) (list_any test ns) (any-among test ns n q p)
]
