-- Values of a program's variables, added one after the other.
use Rattle.std.proofs.Common.{◌≡◌, ℕ, suc, ◌+◌, ◌<◌, ◌≤◌, Bool, true, false, List, ◌∷◌, drop, length, get_or, refl, sym, ap, ◌∙◌, arith}
use Rattle.std.specs.Prelude.{map, filter, if◌then◌else◌}
use Rattle.st_rules.specs.declared.names.DeclaredVariable.{DeclaredVariable}
use Rattle.st_rules.specs.Scope.{Scope, is_of_instance}
use Rattle.st_rules.proofs.ListLaws.{drop-at, drop-end}
use Rattle.st_unit_rules.specs.Limits.{sum_of, values_of}
use Rattle.check_limits.specs.declared.type_sizes.sizes.TypeSizes.{TypeSizes}
use Rattle.check_limits.specs.type_sizes.Size.{capped}
use Rattle.check_limits.specs.type_sizes.Sizes.{Measures}
use Rattle.check_limits.proofs.type_sizes.NumberLaws.{capped_sum}

abbrev pub values_in : Scope → List DeclaredVariable → ℕ
values_in s vs = sum_of s (map (λ v. values_of s v.kind) vs)

-- what was added, and what is left, is all and one more
pub record Sum (s : Scope) (vs left : List DeclaredVariable) (sum : ℕ) : Type 0 where
  pub number : ℕ
  pub is : sum ≡ capped number
  pub rest : number + values_in s (filter is_of_instance left) ≡ suc (values_in s (filter is_of_instance vs))

pub record Sums (sizes : TypeSizes) (vs : List DeclaredVariable) (sum i : ℕ) : Type 0 where
  pub told : (s : Scope) → Measures sizes s → Sum s vs (drop i vs) sum

module _ (sizes : TypeSizes) (vs : List DeclaredVariable) where
  pub sums_begun : Sums sizes vs 1 0
  sums_begun = record {
    told = λ s m. record {
      number = 1;
      is = refl;
      rest = let e : 1 + values_in s (filter is_of_instance vs) ≡ suc (values_in s (filter is_of_instance vs)) = omega arith in e;
    };
  }

  module _ (sum i : ℕ) (v : DeclaredVariable) (l : i < length vs) (e : v ≡ get_or vs i v) (t : Sums sizes vs sum i) where
    split : (s : Scope) (b : Bool) → is_of_instance v ≡ b → values_in s (filter is_of_instance (drop i vs)) ≡ values_in s (if b then v ∷ filter is_of_instance (drop (i + 1) vs) else filter is_of_instance (drop (i + 1) vs))
    split s b h = ap (λ xs. values_in s (filter is_of_instance xs)) (drop-at vs i v l e) ∙ ap (λ (a : Bool). values_in s (if a then v ∷ filter is_of_instance (drop (i + 1) vs) else filter is_of_instance (drop (i + 1) vs))) h

    pub sums_added : (more own : ℕ) → is_of_instance v ≡ true → ((s : Scope) → Measures sizes s → own ≡ capped (values_of s v.kind)) → more ≡ capped (sum + own) → Sums sizes vs more (i + 1)
    sums_added more own h w f = record {
      told = λ s m.
          let r : Sum s vs (drop i vs) sum = t.told s m in
          let split_is : values_in s (filter is_of_instance (drop i vs)) ≡ values_of s v.kind + values_in s (filter is_of_instance (drop (i + 1) vs)) = split s true h in
          let before : r.number + values_in s (filter is_of_instance (drop i vs)) ≡ suc (values_in s (filter is_of_instance vs)) = r.rest in
          record {
            number = r.number + values_of s v.kind;
            is = f ∙ ap (λ a. capped (a + own)) r.is ∙ ap (λ a. capped (capped r.number + a)) (w s m) ∙ capped_sum r.number (values_of s v.kind);
            rest = omega (arith, split_is, before);
          };
    }

    pub sums_passed : (more : ℕ) → is_of_instance v ≡ false → more ≡ sum → Sums sizes vs more (i + 1)
    sums_passed more h f = record {
      told = λ s m.
          let r : Sum s vs (drop i vs) sum = t.told s m in
          record { number = r.number; is = f ∙ r.is; rest = ap (λ a. r.number + a) (sym (split s false h)) ∙ r.rest };
    }

  pub sums_ended : (sum i : ℕ) → length vs ≤ i → Sums sizes vs sum i → (s : Scope) → Measures sizes s → sum ≡ capped (suc (values_in s (filter is_of_instance vs)))
  sums_ended sum i l t s m =
      let r : Sum s vs (drop i vs) sum = t.told s m in
      let none : values_in s (filter is_of_instance (drop i vs)) ≡ 0 = ap (λ xs. values_in s (filter is_of_instance xs)) (drop-end vs i l) in
      let before : r.number + values_in s (filter is_of_instance (drop i vs)) ≡ suc (values_in s (filter is_of_instance vs)) = r.rest in
      let all : r.number ≡ suc (values_in s (filter is_of_instance vs)) = omega (arith, none, before) in
      r.is ∙ ap capped all
