-- Chains of classes: the laws of chains, for bases that names lead to.
use Rattle.std.proofs.Common.{◌≡◌, ℕ, suc, ◌<◌, Bool, true, false, List, [], ◌∷◌, Option, Some, None, refl, sym, ap, ◌∙◌, arith, length, map, ◌⊎◌, inl, inr, subst}
use Rattle.std.specs.Prelude.{◌||◌, option_and_then, option_map, slice_get, if◌then◌else◌}
use Rattle.std.specs.Bool.{Decides}
use Rattle.std.specs.List.{list_any}
use Rattle.std.proofs.lemmas.Option.{slice_get_within}
use Rattle.std.proofs.lemmas.List.{length-map}
use Rattle.plc_text.specs.Words.{same}
use Rattle.st_tree.specs.declared.declaration.ClassDecl.{ClassDecl}
use Rattle.st_rules.specs.Named.{first_place}
use Rattle.st_rules.specs.Numbered.{passes_if_there}
use Rattle.st_rules.specs.Chains.{is_among, ◌or_else◌, nearest, IsAbove, directly, further}
use Rattle.st_rules.specs.Classes.{base_of, chain, own_method, lookup}
use Rattle.st_rules.specs.ClassRules.{lies_on_cycle}
use Rattle.st_rules.proofs.Booleans.{none≢some, some-same, true≢false}
use Rattle.st_rules.proofs.ChainLaws.{IsWithin, nearest-chain, any-chain, chain_holds, chain_through, chain-base, chain-top}

place_within : (length : ℕ) (b : Bool) (o : Option ℕ) (k : ℕ) → ((j : ℕ) → o ≡ Some j → j < length) → ◌≡◌ {A = Option ℕ} (if b then Some 0 else option_map (λ n. suc n) o) (Some k) → k < suc length
place_within l true o k f e = let q : 0 ≡ k = some-same e in omega arith
place_within l false None k f e = absurd (none≢some e)
place_within l false (Some j) k f e = let q : suc j ≡ k = some-same e in let l = f j refl in omega arith

pub first_place_within : (name : List ℕ) (ns : List (List ℕ)) (k : ℕ) → first_place name ns ≡ Some k → k < length ns
first_place_within name [] k e = absurd (none≢some e)
first_place_within name (n ∷ ns) k e = place_within (length ns) (same n name) (first_place name ns) k (λ j f. first_place_within name ns j f) e

then-some : {X Y : Type 0} (f : X → Option Y) (o : Option X) (y : Y) → option_and_then f o ≡ Some y → (x : X) × (o ≡ Some x) × (f x ≡ Some y)
then-some f None y e = absurd (none≢some e)
then-some f (Some x) y e = (x, refl, e)

module _ {A : Type 0} (classes : List (ClassDecl A)) where
  pub bases_within : IsWithin (base_of classes) (length classes)
  bases_within = record {
    within = λ c b e.
        let class = then-some _ (slice_get classes c) b e in
        let base = then-some _ (class.0).base b class.2 in
        let place = first_place_within (base.0).text (map (λ class. class.name.text) classes) b base.2 in
        let same_length = length-map classes (λ (class : ClassDecl A). class.name.text) in
        (slice_get_within classes c class.0 class.1, (let bound : b < length classes = omega (arith, place, same_length) in bound));
  }

  pub chain_law : (c d : ℕ) → Decides (is_among d (chain classes c)) ((d ≡ c) ⊎ IsAbove (base_of classes) d c)
  unfolding chain
  chain_law c d = chain_holds (base_of classes) (length classes) bases_within c d

  pub chain_through_law : (c d x : ℕ) → is_among d (chain classes c) ≡ true → is_among x (chain classes d) ≡ true → is_among x (chain classes c) ≡ true
  unfolding chain
  chain_through_law c d x h k = chain_through (base_of classes) (length classes) bases_within c d x h k

  pub nearest_law : {X : Type 0} (has : ℕ → Option X) (c : ℕ) → nearest has (chain classes c) ≡ (has c or_else option_and_then (λ b. nearest has (chain classes b)) (base_of classes c))
  unfolding chain
  nearest_law has c = nearest-chain (base_of classes) (length classes) bases_within has c

  pub any_law : (test : ℕ → Bool) (c : ℕ) → list_any test (chain classes c) ≡ (test c || passes_if_there (λ b. list_any test (chain classes b)) (base_of classes c))
  unfolding chain
  any_law test c = any-chain (base_of classes) (length classes) bases_within test c

  pub lookup_law : (c : ℕ) (name : List ℕ) → lookup classes c name ≡ (own_method classes name c or_else option_and_then (λ b. lookup classes b name) (base_of classes c))
  unfolding lookup
  lookup_law c name = nearest_law (own_method classes name) c

  cycle_at : (c : ℕ) (o : Option ℕ) → base_of classes c ≡ o → Decides (passes_if_there (λ b. is_among c (chain classes b)) o) (IsAbove (base_of classes) c c)
  cycle_at c None e = (λ h. absurd (true≢false (sym h)), λ r. absurd (none r))
    where
      none : IsAbove (base_of classes) c c → ⊥
      none (directly c b f) = none≢some (sym e ∙ f)
      none (further c b d f r) = none≢some (sym e ∙ f)
  cycle_at c (Some b) e = (
    λ h. elim ((chain_law b c).0 h) [
      | inl q ↦ directly c c (e ∙ ap Some (sym q))
      | inr q ↦ further c b c e q
    ],
    λ r. (chain_law b c).1 (back r),
  )
    where
      back : IsAbove (base_of classes) c c → (c ≡ b) ⊎ IsAbove (base_of classes) c b
      back (directly c x f) = inl (some-same (sym f ∙ e))
      back (further c x d f r) = inr (subst (λ (y : ℕ). IsAbove (base_of classes) d y) (some-same (sym f ∙ e)) r)

  -- a class lies on a cycle where it stands above itself
  pub cycle_law : (c : ℕ) → Decides (lies_on_cycle classes c) (IsAbove (base_of classes) c c)
  cycle_law c = cycle_at c (base_of classes c) refl

  pub chain-base_law : (c b : ℕ) → base_of classes c ≡ Some b → lies_on_cycle classes c ≡ false → chain classes c ≡ c ∷ chain classes b
  unfolding chain
  chain-base_law c b e h = chain-base (base_of classes) (length classes) bases_within c b e (sym (ap (passes_if_there (λ b. is_among c (chain classes b))) e) ∙ h)

  pub chain-top_law : (c : ℕ) → base_of classes c ≡ None → chain classes c ≡ c ∷ []
  unfolding chain
  chain-top_law c e = chain-top (base_of classes) (length classes) bases_within c e
