-- Steps of types, by those of structures.
use Rattle.std.proofs.Common.{◌≡◌, ℕ, zero, suc, ◌+◌, ◌<◌, ◌≤◌, ℤ, Bool, true, false, List, refl, sym, ap, ◌∙◌, ◌⊎◌, inl, inr, arith}
use Rattle.std.specs.Prelude.{◌||◌, ◌-ℤ◌, nat_le, min}
use Rattle.std.proofs.lemmas.Bool.{cases_Bool, le-leb, leb-true, leb-false}
use Rattle.st_types.specs.declared.st_type.StType.{StType, out-StType}
use Rattle.st_types.specs.declared.st_type.StType.TheVariants as type
use Rattle.st_types.specs.declared.st_type.StType.TheOpen.{StType-F}
use Rattle.st_tree.specs.declared.declaration.TypeDecl.{TypeDecl}
use Rattle.st_rules.specs.Scope.{Scope}
use Rattle.st_unit_rules.specs.Worth.{count_to}
use Rattle.default_values.specs.worth_steps.Steps.{is_zero, has_level, takes_steps}

true≢false : true ≡ false → ⊥
true≢false h = cc

pub le_same : (a b c d : ℕ) → (a ≤ b → c ≤ d) → (c ≤ d → a ≤ b) → nat_le a b ≡ nat_le c d
le_same a b c d f g =
    elim (cases_Bool (nat_le a b)) [
      | inl y ↦ y ∙ sym (le-leb c d (f (leb-true a b y)))
      | inr n ↦ elim (cases_Bool (nat_le c d)) [
        | inl y ↦ absurd (true≢false (sym (le-leb a b (g (leb-true c d y))) ∙ n))
        | inr m ↦ n ∙ sym m
      ]
    ]

pub not_below : (a b : ℕ) → b < a → nat_le a b ≡ false
not_below a b h =
    elim (cases_Bool (nat_le a b)) [
      | inl y ↦ let l : a ≤ b = leb-true a b y in absurd (omega (arith, h, l))
      | inr n ↦ n
    ]

module _ (unit : Scope) (entries : List (TypeDecl ℕ)) where
  -- ---- types without parts

  abbrev pub IsPlain : StType-F StType → Type 0
  IsPlain (StType-F.Array low high of) = ⊥
  IsPlain (StType-F.Structure n) = ⊥
  IsPlain (StType-F.Instance c) = ⊥
  IsPlain _ = Unit {0}

  plain_level : (x : StType-F StType) (test : StType → Bool) → IsPlain x → has_level unit entries test x ≡ true
  plain_level (StType-F.Elementary e) test i = refl
  plain_level (StType-F.Enumeration n) test i = refl
  plain_level (StType-F.Structure n) test i = absurd i
  plain_level (StType-F.Array low high of) test i = absurd i
  plain_level (StType-F.Instance c) test i = absurd i
  plain_level (StType-F.Reference c) test i = refl
  plain_level (StType-F.Interface k) test i = refl

  pub plain_steps : (n : ℕ) (t : StType) (x : StType-F StType) → out-StType t ≡ x → IsPlain x → takes_steps unit entries n t ≡ nat_le 1 n
  plain_steps zero t x e i = refl
  plain_steps (suc n) t x e i = ap (has_level unit entries (takes_steps unit entries n)) e ∙ plain_level x (takes_steps unit entries n) i ∙ sym (le-leb 1 (suc n) (omega arith))

  pub instance_steps : (n : ℕ) (t : StType) (c : ℕ) → t ≡ type.Instance c → n ≤ 66 → takes_steps unit entries n t ≡ nat_le 67 n
  instance_steps zero t c e l = refl
  instance_steps (suc n) t c e l =
      let o : out-StType t ≡ StType-F.Instance c = ap out-StType e ∙ type.outs-Instance c in
      ap (has_level unit entries (takes_steps unit entries n)) o ∙ sym (not_below 67 (suc n) (omega (arith, l)))

  -- ---- arrays

  array_out : (t : StType) (low high : ℤ) (of : StType) → t ≡ type.Array low high of → out-StType t ≡ StType-F.Array low high of
  array_out t low high of e = ap out-StType e ∙ type.outs-Array low high of

  pub empty_steps : (n : ℕ) (t : StType) (low high : ℤ) (of : StType) → t ≡ type.Array low high of → true ≡ is_zero (count_to (high -ℤ low)) → takes_steps unit entries n t ≡ nat_le 1 n
  empty_steps zero t low high of e z = refl
  empty_steps (suc n) t low high of e z =
      ap (has_level unit entries (takes_steps unit entries n)) (array_out t low high of e) ∙ ap (λ b. b || takes_steps unit entries n of) (sym z) ∙ sym (le-leb 1 (suc n) (omega arith))

  capped_below : (a n : ℕ) → suc n ≤ 66 → nat_le a n ≡ nat_le (min (a + 1) 67) (suc n)
  capped_below a n l = le_same a n (min (a + 1) 67) (suc n) (λ h. omega (arith, h)) (λ h. omega (arith, h, l))

  pub array_steps : (n k a steps : ℕ) (t : StType) (low high : ℤ) (of : StType) → t ≡ type.Array low high of → false ≡ is_zero (count_to (high -ℤ low)) → steps ≡ min (a + 1) 67
      → ((m : ℕ) → m < k → m ≤ 66 → takes_steps unit entries m of ≡ nat_le a m) → n < k → n ≤ 66 → takes_steps unit entries n t ≡ nat_le steps n
  array_steps zero k a steps t low high of e z q inner b l = sym (ap (λ m. nat_le m 0) q ∙ not_below (min (a + 1) 67) 0 (omega arith))
  array_steps (suc n) k a steps t low high of e z q inner b l =
      ap (has_level unit entries (takes_steps unit entries n)) (array_out t low high of e)
      ∙ ap (λ b. b || takes_steps unit entries n of) (sym z)
      ∙ inner n (omega (arith, b)) (omega (arith, l))
      ∙ capped_below a n l
      ∙ ap (λ m. nat_le m (suc n)) (sym q)
