-- One more mark, one more span.
use Rattle.std.proofs.Common.{◌≡◌, ◌<◌, ◌≤◌, ℕ, zero, suc, ◌+◌, ◌-◌, nat_eq, Bool, true, false, List, [], ◌∷◌, ◌++◌, refl, sym, ap, ◌∙◌, arith, length, get_or, replicate}
use Rattle.std.specs.Prelude.{◌||◌, slice_set}
use Rattle.std.specs.List.{list_any}
use Rattle.std.proofs.lemmas.Bool.Decides.{nat_tests}
use Rattle.std.proofs.lemmas.Option.{unwrap_or-slice_get}
use Rattle.st_rules.proofs.Booleans.{or-second}
use Rattle.check_regions.specs.declared.shared_bits.span.Span.{Span}
use Rattle.check_regions.specs.shared_bits.Taken.{marked}
use Rattle.check_regions.specs.shared_bits.Private.Spans.{within, any_from, spans_over, Marks, shares}

or_false : (b c : Bool) → c ≡ false → (b || c) ≡ b
or_false true c h = refl
or_false false c h = h

or_assoc : (a b c : Bool) → ((a || b) || c) ≡ (a || (b || c))
or_assoc true b c = refl
or_assoc false b c = refl

pub marked_set : (marks : List Bool) (i j : ℕ) → i < length marks → marked (slice_set marks i true) j ≡ (marked marks j || nat_eq i j)
marked_set [] i j h = absurd (omega arith)
marked_set (m ∷ ms) zero zero h = sym (or-second m true refl)
marked_set (m ∷ ms) zero (suc j) h = sym (or_false (marked ms j) (nat_eq 0 (suc j)) (grind (arith, nat_tests)))
marked_set (m ∷ ms) (suc i) zero h = sym (or_false m (nat_eq (suc i) 0) (grind (arith, nat_tests)))
marked_set (m ∷ ms) (suc i) (suc j) h = let e : nat_eq i j ≡ nat_eq (suc i) (suc j) = grind (arith, nat_tests) in marked_set ms i j (omega arith) ∙ ap (λ b. marked ms j || b) e

marked_none : (n j : ℕ) → marked (replicate n false) j ≡ false
marked_none zero j = refl
marked_none (suc n) zero = refl
marked_none (suc n) (suc j) = marked_none n j

pub none_marks : (n : ℕ) → Marks (replicate n false) []
none_marks n = record { same = λ j. marked_none n j }

any_next : (k end : ℕ) (f : ℕ → Bool) → k < end → any_from k (end - k) f ≡ (f k || any_from (k + 1) (end - (k + 1)) f)
any_next k end f h = let e : end - k ≡ suc (end - (k + 1)) = omega arith in ap (λ n. any_from k n f) e

any_same : (k n : ℕ) (f g : ℕ → Bool) → ((j : ℕ) → f j ≡ g j) → any_from k n f ≡ any_from k n g
any_same k zero f g h = refl
any_same k (suc n) f g h = ap (λ b. b || any_from (k + 1) n f) (h k) ∙ ap (λ b. g k || b) (any_same (k + 1) n f g h)

pub any_past : (table : List Bool) (k end : ℕ) (w : Bool) → k < end → get_or table k false ≡ false → any_from k (end - k) (marked table) ≡ w → any_from (k + 1) (end - (k + 1)) (marked table) ≡ w
any_past table k end w h n e = ap (λ b. b || any_from (k + 1) (end - (k + 1)) (marked table)) (sym n ∙ sym (unwrap_or-slice_get table k false)) ∙ sym (any_next k end (marked table) h) ∙ e

within_next : (start k j : ℕ) → start ≤ k → (within start k j || nat_eq k j) ≡ within start (k + 1) j
within_next start k j h = grind (arith, nat_tests)

pub fill_next : (old table : List Bool) (start k j : ℕ) → k < length table → start ≤ k → marked table j ≡ (marked old j || within start k j) → marked (slice_set table k true) j ≡ (marked old j || within start (k + 1) j)
fill_next old table start k j h s e = marked_set table k j h ∙ ap (λ b. b || nat_eq k j) e ∙ or_assoc (marked old j) (within start k j) (nat_eq k j) ∙ ap (λ b. marked old j || b) (within_next start k j s)

pub nothing_within : (start j : ℕ) → within start start j ≡ false
nothing_within start j = grind (arith, nat_tests)

covered_push : (ss : List Span) (s : Span) (j : ℕ) → list_any (spans_over j) (ss ++ s ∷ []) ≡ (list_any (spans_over j) ss || spans_over j s)
covered_push [] s j = or_false (spans_over j s) false refl
covered_push (x ∷ ss) s j = ap (λ b. spans_over j x || b) (covered_push ss s j) ∙ sym (or_assoc (spans_over j x) (list_any (spans_over j) ss) (spans_over j s))

pub marks_next : (old new : List Bool) (taken : List Span) (s : Span) → Marks old taken → ((j : ℕ) → marked new j ≡ (marked old j || within s.start (s.start + s.width) j)) → Marks new (taken ++ s ∷ [])
marks_next old new taken s m h = record { same = λ j. h j ∙ ap (λ b. b || spans_over j s) (m.same j) ∙ sym (covered_push taken s j) }

pub shares_next : (marks : List Bool) (shared found : Bool) (taken rest : List Span) (s : Span) → Marks marks taken → found ≡ any_from s.start s.width (marked marks)
    → ((shared || found) || shares (taken ++ s ∷ []) rest) ≡ (shared || shares taken (s ∷ rest))
shares_next marks shared found taken rest s m e =
    or_assoc shared found (shares (taken ++ s ∷ []) rest)
    ∙ ap (λ b. shared || (b || shares (taken ++ s ∷ []) rest)) (e ∙ any_same s.start s.width (marked marks) (λ j. list_any (spans_over j) taken) m.same)
