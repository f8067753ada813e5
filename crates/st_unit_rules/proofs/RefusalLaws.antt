-- A unit is good, or is refused for one thing: the places are tried in order.
use Rattle.std.proofs.Common.{◌≡◌, ◌<◌, ◌≤◌, ◌⊎◌, ℕ, zero, suc, false, List, [], ◌∷◌, length, get_or, Option, Some, None, refl, sym, ap, ◌∙◌, subst, arith, inl, inr}
use Rattle.std.specs.Prelude.{codes, nat_lt, nat_eq, ◌||◌, ◌&&◌, slice_get, MatchOption}
use Rattle.std.proofs.lemmas.Grind.{common_steps}
use Rattle.std.proofs.lemmas.Option.{slice_get_past}
use Rattle.plc_text.specs.declared.code.Code.{Code}
use Rattle.plc_text.specs.declared.code.Code.TheVariants.{E01, E02, E03, E04, E05, E06, E07, E08, E09, E10, E11, E12, E13, E14, E15, E16, E17}
use Rattle.st_tree.specs.declared.configuration.Configuration.{Configuration}
use Rattle.st_tree.specs.declared.unit.Decl.{Decl}
use Rattle.st_rules.specs.Faults.{Faults, rank, least, Breaks, BreaksFirst}
use Rattle.st_rules.proofs.FaultLaws.{least_breaks_first}
use Rattle.st_unit_rules.specs.declared_names.Declarations.{Placed, placed, name_of, configurations_in}
use Rattle.st_unit_rules.specs.UnitRefusal.{faults_of, faults_at, IsFirstBad, BreaksNothing, UnitRefusal, first_bad, no_configuration}
use Rattle.st_unit_rules.specs.RefusalLaws.{IsGood, RefusalLaws}

-- ---- the least rule is one

code_of : ℕ → Code
code_of n = get_or (E17 ∷ E01 ∷ E02 ∷ E03 ∷ E04 ∷ E05 ∷ E06 ∷ E07 ∷ E08 ∷ E09 ∷ E10 ∷ E11 ∷ E12 ∷ E13 ∷ E14 ∷ E15 ∷ E16 ∷ E17 ∷ []) n E17

code_again : (c : Code) → code_of (rank c) ≡ c
unfolding code_of
code_again E01 = refl
code_again E02 = refl
code_again E03 = refl
code_again E04 = refl
code_again E05 = refl
code_again E06 = refl
code_again E07 = refl
code_again E08 = refl
code_again E09 = refl
code_again E10 = refl
code_again E11 = refl
code_again E12 = refl
code_again E13 = refl
code_again E14 = refl
code_again E15 = refl
code_again E16 = refl
code_again E17 = refl

same_rank : (a b c d : ℕ) → (nat_lt a c || nat_eq a c && nat_lt b d) ≡ false → (nat_lt c a || nat_eq c a && nat_lt d b) ≡ false → a ≡ c
same_rank a b c d h k = grind (arith, common_steps)

same_line : (a b c d : ℕ) → (nat_lt a c || nat_eq a c && nat_lt b d) ≡ false → (nat_lt c a || nat_eq c a && nat_lt d b) ≡ false → b ≡ d
same_line a b c d h k = grind (arith, common_steps)

pub same_first : (fs : Faults) (c d : Code) (l m : ℕ) → BreaksFirst fs c l → BreaksFirst fs d m → (c ≡ d) × (l ≡ m)
same_first fs c d l m x y =
    let h = y.first c l x.broken in
    let k = x.first d m y.broken in
    (sym (code_again c) ∙ ap code_of (same_rank (rank c) l (rank d) m h k) ∙ code_again d, same_line (rank c) l (rank d) m h k)

module _ (decls : List (Decl ℕ)) where
  -- ---- the first bad place

  there : (i : ℕ) (o : Option Placed) → slice_get (placed decls) i ≡ o → (c : Code) (l : ℕ) → Breaks (faults_of decls i o) c l → (x : Placed) × (slice_get (placed decls) i ≡ Some x)
  there i None e c l b = absurd b
  there i (Some x) e c l b = (x, e)

  -- a place whose declaration is bad, and none before it
  record Bad (i : ℕ) : Type 0 where
    code : Code
    line : ℕ
    breaks : BreaksFirst (faults_at decls i) code line
    good : (j : ℕ) → j < i → faults_at decls j ≡ []

  below : (i n : ℕ) → i < suc n → (i < n) ⊎ (i ≡ n)
  below zero zero h = inr refl
  below zero (suc n) h = inl (omega arith)
  below (suc i) zero h = absurd (omega arith)
  below (suc i) (suc n) h = elim (below i n (omega arith)) [ inl p ↦ inl (omega arith) | inr p ↦ inr (ap suc p) ]

  decide : (n : ℕ) → ((i : ℕ) → i < n → faults_at decls i ≡ []) → (o : Option (Code × ℕ)) → MatchOption o (faults_at decls n ≡ []) (λ f. BreaksFirst (faults_at decls n) f.0 f.1)
      → ((i : ℕ) → i < suc n → faults_at decls i ≡ []) ⊎ Bad n
  decide n g None m = inl (λ i h. elim (below i n h) [ inl p ↦ g i p | inr p ↦ ap (faults_at decls) p ∙ m ])
  decide n g (Some f) m = inr (record { code = f.0; line = f.1; breaks = m; good = g })

  search : (n : ℕ) → ((i : ℕ) → i < n → faults_at decls i ≡ []) ⊎ ((i : ℕ) × Bad i)
  search zero = inl (λ i h. absurd (omega arith))
  search (suc n) = elim (search n) [
    | inl g ↦ elim (decide n g (least (faults_at decls n)) (least_breaks_first (faults_at decls n))) [ inl k ↦ inl k | inr b ↦ inr (n, b) ]
    | inr b ↦ inr b
  ]

  past : (i : ℕ) → length (placed decls) ≤ i → faults_at decls i ≡ []
  past i h = ap (faults_of decls i) (slice_get_past (placed decls) i h)

  all_good : ((i : ℕ) → i < length (placed decls) → faults_at decls i ≡ []) → BreaksNothing decls
  all_good g = record { good = λ i. by i (split i (length (placed decls))) }
    where
      split : (i n : ℕ) → (i < n) ⊎ (n ≤ i)
      split zero zero = inr (omega arith)
      split zero (suc n) = inl (omega arith)
      split (suc i) zero = inr (omega arith)
      split (suc i) (suc n) = elim (split i n) [ inl p ↦ inl (omega arith) | inr p ↦ inr (omega arith) ]

      by : (i : ℕ) → (i < length (placed decls)) ⊎ (length (placed decls) ≤ i) → faults_at decls i ≡ []
      by i (inl p) = g i p
      by i (inr p) = past i p

  abbrev pub Refused : Type 0
  Refused = (code : Code) × (declaration : List ℕ) × (line : ℕ) × UnitRefusal decls code declaration line

  refused : (i : ℕ) (b : Bad i) → (x : Placed) × (slice_get (placed decls) i ≡ Some x) → Refused
  refused i b x =
      (b.code, (name_of x.0.declaration).text, b.line, first_bad (record { place = i; bad = x.0; there = x.1; breaks = b.breaks; name = refl; good = b.good }))

  configured : BreaksNothing decls → (cs : List (Configuration ℕ)) → configurations_in decls ≡ cs → IsGood decls ⊎ Refused
  configured g [] e = inr (E15, codes "-", 1, no_configuration g e)
  configured g (c ∷ cs) e = inl (record { nothing = g; configured = λ k. none (sym e ∙ k) })
    where
      none : c ∷ cs ≡ [] → ⊥
      none k = cc k

  pub decided : IsGood decls ⊎ Refused
  decided = elim (search (length (placed decls))) [
    | inl g ↦ configured (all_good g) (configurations_in decls) refl
    | inr b ↦ inr (refused b.0 b.1 (there b.0 (slice_get (placed decls) b.0) refl b.1.code b.1.line b.1.breaks.broken))
  ]

  none_broken : (fs : Faults) (c : Code) (l : ℕ) → fs ≡ [] → Breaks fs c l → ⊥
  none_broken fs c l e b = subst (λ (gs : Faults). Breaks gs c l) e b

  pub not_both : (code : Code) (declaration : List ℕ) (line : ℕ) → IsGood decls → UnitRefusal decls code declaration line → ⊥
  not_both code declaration line g (first_bad b) = none_broken _ code line (g.nothing.good b.place) b.breaks.broken
  not_both _ _ _ g (no_configuration n e) = g.configured e

  -- ---- one refusal

  abbrev pub Same : Code → Code → List ℕ → List ℕ → ℕ → ℕ → Type 0
  Same code code' declaration declaration' line line' = (code ≡ code') × (declaration ≡ declaration') × (line ≡ line')

  order : (i j : ℕ) → (i < j) ⊎ ((j < i) ⊎ (i ≡ j))
  order zero zero = inr (inr refl)
  order zero (suc j) = inl (omega arith)
  order (suc i) zero = inr (inl (omega arith))
  order (suc i) (suc j) = elim (order i j) [ inl p ↦ inl (omega arith) | inr q ↦ elim q [ inl p ↦ inr (inl (omega arith)) | inr p ↦ inr (inr (ap suc p)) ] ]

  at_one : (code code' : Code) (declaration declaration' : List ℕ) (line line' : ℕ) (a : IsFirstBad decls code declaration line) (b : IsFirstBad decls code' declaration' line') → a.place ≡ b.place → Same code code' declaration declaration' line line'
  at_one code code' declaration declaration' line line' a b e =
      let same = same_first (faults_at decls a.place) code code' line line' a.breaks (subst (λ i. BreaksFirst (faults_at decls i) code' line') (sym e) b.breaks) in
      let q : Some a.bad ≡ Some b.bad = sym a.there ∙ ap (slice_get (placed decls)) e ∙ b.there in
      let d : a.bad ≡ b.bad = cc q in
      (same.0, a.name ∙ ap (λ x. (name_of x.declaration).text) d ∙ sym b.name, same.1)

  both_bad : (code code' : Code) (declaration declaration' : List ℕ) (line line' : ℕ) → IsFirstBad decls code declaration line → IsFirstBad decls code' declaration' line' → Same code code' declaration declaration' line line'
  both_bad code code' declaration declaration' line line' a b = elim (order a.place b.place) [
    | inl p ↦ absurd (none_broken _ code line (b.good a.place p) a.breaks.broken)
    | inr q ↦ elim q [ inl p ↦ absurd (none_broken _ code' line' (a.good b.place p) b.breaks.broken) | inr p ↦ at_one code code' declaration declaration' line line' a b p ]
  ]

  pub one : (code code' : Code) (declaration declaration' : List ℕ) (line line' : ℕ) → UnitRefusal decls code declaration line → UnitRefusal decls code' declaration' line' → Same code code' declaration declaration' line line'
  one code code' declaration declaration' line line' (first_bad a) (first_bad b) = both_bad code code' declaration declaration' line line' a b
  one code _ declaration _ line _ (first_bad a) (no_configuration n e) = absurd (none_broken _ code line (n.good a.place) a.breaks.broken)
  one _ code' _ declaration' _ line' (no_configuration n e) (first_bad b) = absurd (none_broken _ code' line' (n.good b.place) b.breaks.broken)
  one _ _ _ _ _ _ (no_configuration n e) (no_configuration n' e') = (refl, refl, refl)

pub refusal_laws : RefusalLaws
refusal_laws = record { decided = decided; not_both = not_both; one = one }
