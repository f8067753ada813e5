-- What the rules on cycles say: nothing needs itself.
use Rattle.std.proofs.Common.{◌≡◌, ℕ, zero, suc, ◌+◌, false, List, [], ◌∷◌, ◌++◌, length, Option, Some, None, refl, sym, ap, ◌∙◌, subst, arith}
use Rattle.std.specs.Prelude.{slice_get}
use Rattle.std.specs.List.{list_any}
use Rattle.plc_text.specs.declared.code.Code.TheVariants.{E06}
use Rattle.st_rules.specs.Faults.{Faults, when}
use Rattle.st_rules.specs.Chains.{leads_within}
use Rattle.st_rules.specs.Numbered.{each_numbered}
use Rattle.st_rules.proofs.Booleans.{none≢some}
use Rattle.st_unit_rules.specs.declared_names.Declarations.{Declaration, item_line}
use Rattle.st_unit_rules.specs.declared_names.Variables.{Written}
use Rattle.accepted_texts.proofs.unfolding_laws.CycleLaws.{none_in}
use Rattle.accepted_texts.proofs.told_units.TypeLaws.{holds-not}
use Rattle.st_unit_rules.specs.Cycles.{contains_itself, needed, needed_at, needs_itself, inner_needed, inner_needed_at, needs_inner, inner_cycle}

pub declared-free : (ds : List Declaration) → ((i : ℕ) (d : Declaration) → slice_get ds i ≡ Some d → (line : ℕ) × (when (contains_itself ds i) E06 line ++ when (needs_itself ds i) E06 line ≡ [])) → (i : ℕ) → needs_itself ds i ≡ false
declared-free ds h i = by (slice_get ds i) refl
  where
    by : (o : Option Declaration) → slice_get ds i ≡ o → needs_itself ds i ≡ false
    by None e = ap (λ o. list_any (λ k. leads_within (needed_at ds) (length ds) k i) (needed ds o)) e
    by (Some d) e = let f = h i d e in holds-not (needs_itself ds i) E06 f.0 (none_in (when (contains_itself ds i) E06 f.0) (when (needs_itself ds i) E06 f.0) f.1).1

none-numbered : {X : Type 0} (f : ℕ → X → Faults) (n : ℕ) (xs : List X) (i : ℕ) (x : X) → each_numbered f n xs ≡ [] → slice_get xs i ≡ Some x → f (n + i) x ≡ []
none-numbered f n [] i x h e = absurd (none≢some e)
none-numbered f n (y ∷ ys) zero x h e = let z : n ≡ n + 0 = omega arith in subst (λ k. f k x ≡ []) z (subst (λ v. f n v ≡ []) (same e) (none_in (f n y) (each_numbered f (suc n) ys) h).0)
  where
    same : Some y ≡ Some x → y ≡ x
    same q = cc
none-numbered f n (y ∷ ys) (suc i) x h e = let z : suc n + i ≡ n + suc i = omega arith in subst (λ k. f k x ≡ []) z (none-numbered f (suc n) ys i x (none_in (f n y) (each_numbered f (suc n) ys) h).1 e)

pub inner-free : (ws : List Written) → each_numbered (inner_cycle ws) 0 ws ≡ [] → (i : ℕ) → needs_inner ws i ≡ false
inner-free ws h i = by (slice_get ws i) refl
  where
    by : (o : Option Written) → slice_get ws i ≡ o → needs_inner ws i ≡ false
    by None e = ap (λ o. list_any (λ k. leads_within (inner_needed_at ws) (length ws) k i) (inner_needed ws o)) e
    by (Some w) e =
        let z : 0 + i ≡ i = omega arith in
        ap (needs_inner ws) (sym z) ∙ holds-not (needs_inner ws (0 + i)) E06 (item_line w.item) (none-numbered (inner_cycle ws) 0 ws i w h e)
