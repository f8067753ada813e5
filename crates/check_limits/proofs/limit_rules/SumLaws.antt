-- Values of variables, added one after the other.
use Rattle.std.proofs.Common.{◌≡◌, ℕ, ◌+◌, ◌<◌, ◌≤◌, Bool, true, false, List, ◌∷◌, drop, length, get_or, refl, sym, ap, ◌∙◌, arith}
use Rattle.std.specs.Prelude.{filter, if◌then◌else◌}
use Rattle.st_rules.specs.declared.names.DeclaredVariable.{DeclaredVariable}
use Rattle.st_rules.specs.Scope.{Scope}
use Rattle.st_rules.proofs.ListLaws.{drop-at, drop-end}
use Rattle.st_unit_rules.specs.Limits.{all_values, variable_values}
use Rattle.check_limits.specs.declared.type_sizes.sizes.TypeSizes.{TypeSizes}
use Rattle.check_limits.specs.type_sizes.Size.{capped}
use Rattle.check_limits.specs.type_sizes.Sizes.{Measures}
use Rattle.check_limits.proofs.type_sizes.NumberLaws.{capped_sum}

-- what was added, and what is left, is all
pub record Sum (s : Scope) (test : DeclaredVariable → Bool) (n : ℕ) (vs left : List DeclaredVariable) (sum : ℕ) : Type 0 where
  pub number : ℕ
  pub is : sum ≡ capped number
  pub rest : number + all_values s (filter test left) ≡ n + all_values s (filter test vs)

pub record Sums (sizes : TypeSizes) (test : DeclaredVariable → Bool) (start : ℕ) (vs : List DeclaredVariable) (sum i : ℕ) : Type 0 where
  pub told : (s : Scope) → Measures sizes s → (n : ℕ) → start ≡ capped n → Sum s test n vs (drop i vs) sum

module _ (sizes : TypeSizes) (test : DeclaredVariable → Bool) (start : ℕ) (vs : List DeclaredVariable) where
  pub sums_begun : Sums sizes test start vs start 0
  sums_begun = record { told = λ s m n e. record { number = n; is = e; rest = refl } }

  module _ (sum i : ℕ) (v : DeclaredVariable) (l : i < length vs) (e : v ≡ get_or vs i v) (t : Sums sizes test start vs sum i) where
    split : (s : Scope) (b : Bool) → test v ≡ b → all_values s (filter test (drop i vs)) ≡ all_values s (if b then v ∷ filter test (drop (i + 1) vs) else filter test (drop (i + 1) vs))
    split s b h = ap (λ xs. all_values s (filter test xs)) (drop-at vs i v l e) ∙ ap (λ (a : Bool). all_values s (if a then v ∷ filter test (drop (i + 1) vs) else filter test (drop (i + 1) vs))) h

    pub sums_added : (more own : ℕ) → test v ≡ true → ((s : Scope) → Measures sizes s → own ≡ capped (variable_values s v)) → more ≡ capped (sum + own) → Sums sizes test start vs more (i + 1)
    sums_added more own h w f = record {
      told = λ s m n k.
          let r : Sum s test n vs (drop i vs) sum = t.told s m n k in
          let split_is : all_values s (filter test (drop i vs)) ≡ variable_values s v + all_values s (filter test (drop (i + 1) vs)) = split s true h in
          let before : r.number + all_values s (filter test (drop i vs)) ≡ n + all_values s (filter test vs) = r.rest in
          record {
            number = r.number + variable_values s v;
            is = f ∙ ap (λ a. capped (a + own)) r.is ∙ ap (λ a. capped (capped r.number + a)) (w s m) ∙ capped_sum r.number (variable_values s v);
            rest = omega (arith, split_is, before);
          };
    }

    pub sums_passed : (more : ℕ) → test v ≡ false → more ≡ sum → Sums sizes test start vs more (i + 1)
    sums_passed more h f = record {
      told = λ s m n k.
          let r : Sum s test n vs (drop i vs) sum = t.told s m n k in
          record { number = r.number; is = f ∙ r.is; rest = ap (λ a. r.number + a) (sym (split s false h)) ∙ r.rest };
    }

  pub sums_ended : (sum i : ℕ) → length vs ≤ i → Sums sizes test start vs sum i → (s : Scope) → Measures sizes s → (n : ℕ) → start ≡ capped n → sum ≡ capped (n + all_values s (filter test vs))
  sums_ended sum i l t s m n e =
      let r : Sum s test n vs (drop i vs) sum = t.told s m n e in
      let none : all_values s (filter test (drop i vs)) ≡ 0 = ap (λ xs. all_values s (filter test xs)) (drop-end vs i l) in
      let before : r.number + all_values s (filter test (drop i vs)) ≡ n + all_values s (filter test vs) = r.rest in
      let all : r.number ≡ n + all_values s (filter test vs) = omega (arith, none, before) in
      r.is ∙ ap capped all
