-- One more region, and numbers that are cut.
use Rattle.std.proofs.Common.{◌≡◌, ℕ, suc, ◌+◌, ◌≤◌, ◌<◌, List, [], ◌∷◌, ◌++◌, length, refl, sym, ap, ◌∙◌, subst, arith}
use Rattle.std.specs.Prelude.{Bool, true, false, ◌&&◌, map, flat_map, nat_eq, nat_le, nat_lt}
use Rattle.st_tree.specs.declared.unit.Decl.{Decl}
use Rattle.st_unit_rules.specs.declared_names.Declarations.{Region}
use Rattle.st_unit_rules.specs.Addresses.{Bits}
use Rattle.st_unit_rules.specs.DeclarationRules.{unit, region_bits, region_values}
use Rattle.st_unit_rules.specs.Limits.{sum_of}
use Rattle.st_rules.specs.Scope.{Scope}
use Rattle.check_regions.specs.shared_bits.Taken.{Takes}
use Rattle.check_limits.specs.type_sizes.Size.{capped}
use Rattle.check_limits.proofs.type_sizes.NumberLaws.{capped_sum}
use Rattle.check_regions.specs.declared.region_rules.taken.TakenRegions.{TakenRegions}
use Rattle.check_regions.specs.region_rules.Taken.{Holds}

append_none : {A : Type 0} (xs : List A) → xs ++ [] ≡ xs
append_none [] = refl
append_none (x ∷ xs) = ap (λ ys. x ∷ ys) (append_none xs)

flat_more : {A B : Type 0} (f : A → List B) (xs : List A) (x : A) → flat_map f (xs ++ x ∷ []) ≡ flat_map f xs ++ f x
flat_more f [] x = append_none (f x)
flat_more f (y ∷ ys) x = ap (λ zs. f y ++ zs) (flat_more f ys x) ∙ assoc (f y) (flat_map f ys) (f x)
  where
    assoc : {B : Type 0} (ks bs cs : List B) → ks ++ (bs ++ cs) ≡ ks ++ bs ++ cs
    assoc [] bs cs = refl
    assoc (k ∷ ks) bs cs = ap (λ zs. k ∷ zs) (assoc ks bs cs)

length_more : {A : Type 0} (xs : List A) (x : A) → length (xs ++ x ∷ []) ≡ suc (length xs)
length_more [] x = refl
length_more (y ∷ ys) x = ap suc (length_more ys x)

sum_more : {A : Type 0} (s : Scope) (f : A → ℕ) (xs : List A) (x : A) → sum_of s (map f (xs ++ x ∷ [])) ≡ sum_of s (map f xs) + f x
sum_more s f [] x = let e : f x + 0 ≡ 0 + f x = omega arith in e
sum_more s f (y ∷ ys) x =
    let t : sum_of s (map f (ys ++ x ∷ [])) ≡ sum_of s (map f ys) + f x = sum_more s f ys x in
    let e : f y + sum_of s (map f (ys ++ x ∷ [])) ≡ f y + sum_of s (map f ys) + f x = omega (arith, t) in
    e

pub holds_more : (old new : TakenRegions) (decls : List (Decl ℕ)) (before : List Region) (r : Region) (own : ℕ) →
    Holds old decls before →
    Takes new.bits (flat_map (region_bits decls) before ++ region_bits decls r) →
    new.count ≡ capped (old.count + 1) →
    new.values ≡ capped (old.values + own) →
    own ≡ capped (region_values decls r) →
    Holds new decls (before ++ r ∷ [])
holds_more old new decls before r own h bits count values is = record {
  bits-are = subst (λ bs. Takes new.bits bs) (sym (flat_more (region_bits decls) before r)) bits;
  count-is = count ∙ ap (λ n. capped (n + 1)) h.count-is ∙ (let e : capped (capped (length before) + 1) ≡ capped (suc (length before)) = omega arith in e) ∙ ap capped (sym (length_more before r));
  values-are = values ∙ ap (λ n. capped (n + own)) h.values-are ∙ ap (λ n. capped (capped (sum_of (unit decls) (map (region_values decls) before)) + n)) is ∙ capped_sum _ _ ∙ ap capped (sym (sum_more (unit decls) (region_values decls) before r));
}
