-- The rule that is broken first is the least.
use Rattle.std.proofs.Common.{◌≡◌, ℕ, false, List, [], ◌∷◌, get_or, Option, Some, None, refl, sym, ap, ◌∙◌, subst, arith}
use Rattle.std.specs.Prelude.{nat_lt, nat_eq, ◌||◌, ◌&&◌, MatchOption}
use Rattle.std.proofs.lemmas.Grind.{common_steps}
use Rattle.plc_text.specs.declared.code.Code.{Code}
use Rattle.plc_text.specs.declared.code.Code.TheVariants.{E01, E02, E03, E04, E05, E06, E07, E08, E09, E10, E11, E12, E13, E14, E15, E16, E17}
use Rattle.st_rules.specs.Faults.{Faults, rank, least, Breaks, BreaksFirst}
use Rattle.st_rules.proofs.FaultLaws.{least_breaks_first}
use Rattle.st_check_expr.proofs.Parts.{both}

code_of : ℕ → Code
code_of n = get_or (E17 ∷ E01 ∷ E02 ∷ E03 ∷ E04 ∷ E05 ∷ E06 ∷ E07 ∷ E08 ∷ E09 ∷ E10 ∷ E11 ∷ E12 ∷ E13 ∷ E14 ∷ E15 ∷ E16 ∷ E17 ∷ []) n E17

code_again : (c : Code) → code_of (rank c) ≡ c
unfolding code_of
code_again E01 = refl
code_again E02 = refl
code_again E03 = refl
code_again E04 = refl
code_again E05 = refl
code_again E06 = refl
code_again E07 = refl
code_again E08 = refl
code_again E09 = refl
code_again E10 = refl
code_again E11 = refl
code_again E12 = refl
code_again E13 = refl
code_again E14 = refl
code_again E15 = refl
code_again E16 = refl
code_again E17 = refl

same_rank : (a b c d : ℕ) → (nat_lt a c || nat_eq a c && nat_lt b d) ≡ false → (nat_lt c a || nat_eq c a && nat_lt d b) ≡ false → a ≡ c
same_rank a b c d h k = grind (arith, common_steps)

same_line : (a b c d : ℕ) → (nat_lt a c || nat_eq a c && nat_lt b d) ≡ false → (nat_lt c a || nat_eq c a && nat_lt d b) ≡ false → b ≡ d
same_line a b c d h k = grind (arith, common_steps)

same_first : (fs : Faults) (c d : Code) (l m : ℕ) → BreaksFirst fs c l → BreaksFirst fs d m → (c ≡ d) × (l ≡ m)
same_first fs c d l m x y =
    let h = y.first c l x.broken in
    let k = x.first d m y.broken in
    (sym (code_again c) ∙ ap code_of (same_rank (rank c) l (rank d) m h k) ∙ code_again d, same_line (rank c) l (rank d) m h k)

pub first_is_least : (fs : Faults) (c : Code) (l : ℕ) → BreaksFirst fs c l → Some (c, l) ≡ least fs
first_is_least fs c l x = at (least fs) (least_breaks_first fs)
  where
    at : (o : Option (Code × ℕ)) → MatchOption o (fs ≡ []) (λ f. BreaksFirst fs f.0 f.1) → Some (c, l) ≡ o
    at None m = absurd (subst (λ (gs : Faults). Breaks gs c l) m x.broken)
    at (Some f) m = let p = same_first fs c f.0 l f.1 x m in ap (λ (g : Code × ℕ). Some g) (both p.0 p.1)
