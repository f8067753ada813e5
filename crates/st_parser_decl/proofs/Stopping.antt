-- Lexemes are a unit of which none is too deep, or are refused with one code at one place.
use Rattle.std.proofs.Common.{◌≡◌, ℕ, zero, suc, ◌+◌, ◌-◌, ◌<◌, ◌≤◌, ◌⊎◌, inl, inr, Bool, true, false, List, [], ◌∷◌, ◌++◌, length, take, drop, refl, sym, ◌∙◌, ap, subst, arith, append-nil, append_assoc, length-take, nat_lt, if◌then◌else◌, ltb-true, ltb-false}
use Rattle.std.proofs.lemmas.Bool.{cases_lt, cases_order}
use Rattle.std.proofs.lemmas.List.{take-append-drop}
use Rattle.plc_text.specs.declared.code.Code.{Code}
use Rattle.plc_text.specs.declared.code.Code.TheVariants as code
use Rattle.st_tree.specs.declared.unit.Unit.{Unit as ProgramText}
use Rattle.st_tree.specs.Grammar.{Lexeme}
use Rattle.st_tree.specs.Reads.{Reads, lexemes}
use Rattle.st_tree.specs.Declarations.{Derives}
use Rattle.st_tree.specs.Nesting.{nesting, NoneDeep, FirstDeep}
use Rattle.st_tree.specs.Beginnings.{Language, Begins, StopsAt, IsUnit}
use Rattle.st_tree.specs.NoUnit.{NoUnitAt, TooDeepAt, IsRefusedAt}
use Rattle.st_tree.proofs.TokenLaws.{one_tokens}
use Rattle.st_parser_expr.specs.declared.stop.Stop.{Stop}
use Rattle.st_parser_expr.specs.declared.stop.Stop.TheVariants.{Left, NoMemory}
use Rattle.st_parser_expr.proofs.Limit.{take-take}
use Rattle.st_parser_expr.specs.Parse.{DeepAt}
use Rattle.st_lexer.specs.declared.lexeme.Lexeme as code_of
use Rattle.st_lexer.specs.Lexeme.{lexeme_of, lexemes_of}
use Rattle.st_parser_decl.specs.declared.reading.Cause.TheVariants as cause
use Rattle.st_parser_decl.specs.Law.{UnitNoneDeep, IsAnswered}
use Rattle.st_parser_decl.specs.Private.Form.{machine}
use Rattle.st_parser_decl.specs.Reading.{HasCause}
use Rattle.st_parser_decl.specs.Private.Causes.{HasStop, deep_cause_of}
use Rattle.st_parser_decl.proofs.Units.{top, derived, one_unit, stopped, left-within, accepted}

-- ---- beginnings

-- a beginning of a beginning is one
pub begins-front : (L : Language) (m n : ℕ) (ts : List Lexeme) → m ≤ n → Begins L (take n ts) → Begins L (take m ts)
begins-front L m n ts le (after, h) =
    let whole : take m ts ++ drop m (take n ts) ≡ take n ts = ap (λ u. u ++ drop m (take n ts)) (sym (take-take m n ts le)) ∙ take-append-drop m (take n ts) in
    let e : take m ts ++ (drop m (take n ts) ++ after) ≡ take n ts ++ after = sym (append_assoc (take m ts) (drop m (take n ts)) after) ∙ ap (λ u. u ++ after) whole in
    (drop m (take n ts) ++ after, subst L (sym e) h)

pub begins-whole : (L : Language) (n : ℕ) (ts : List Lexeme) → L ts → Begins L (take n ts)
begins-whole L n ts h = (drop n ts, subst L (sym (take-append-drop n ts)) h)

-- what stops before its end is nothing of the language
pub stops-no : (L : Language) (p : ℕ) (ts : List Lexeme) → p < length ts → StopsAt L ts p → L ts → ⊥
stops-no L p ts less s h = s.first less (begins-whole L (suc p) ts h)

one_stop : (L : Language) (ts : List Lexeme) (p q : ℕ) → StopsAt L ts p → StopsAt L ts q → p ≡ q
one_stop L ts p q s s' = elim (cases_order p q) [
  | inl same ↦ same
  | inr other ↦ elim other [
    | inl less ↦ absurd (s.first (omega (arith, s'.within)) (begins-front L (suc p) q ts (omega arith) s'.begins))
    | inr more ↦ absurd (s'.first (omega (arith, s.within)) (begins-front L (suc q) p ts (omega arith) s.begins))
  ]
]

-- ---- the first lexeme that is too deep

one_deep : (ts : List Lexeme) (p q : ℕ) → FirstDeep ts p → FirstDeep ts q → p ≡ q
one_deep ts p q d d' = elim (cases_order p q) [
  | inl same ↦ same
  | inr other ↦ elim other [
    | inl less ↦ absurd (d'.before p less d.deep)
    | inr more ↦ absurd (d.before q more d'.deep)
  ]
]

none_deep-more : (ts : List Lexeme) (i : ℕ) → NoneDeep ts i → (nesting ts i ≡ 65 → ⊥) → NoneDeep ts (suc i)
none_deep-more ts i none_deep here j less deep = elim (cases_lt j i) [
  | inl before ↦ none_deep j before deep
  | inr from ↦ here (let same : j ≡ i = omega arith in subst (λ k. nesting ts k ≡ 65) same deep)
]

abbrev Scan : List Lexeme → ℕ → Type 0
Scan ts i = ((q : ℕ) × (q < i) × FirstDeep ts q) ⊎ NoneDeep ts i

scan : (ts : List Lexeme) (i : ℕ) → i ≤ length ts → Scan ts i
scan ts zero le = inr (λ j less deep. absurd (omega arith))
scan ts (suc i) le = elim (scan ts i (omega arith)) [
  | inl found ↦ inl (found.0, omega (arith, found.1), found.2)
  | inr none_deep ↦ elim (cases_order (nesting ts i) 65) [
    | inl deep ↦ inl (i, omega arith, record { within = omega arith; deep = deep; before = none_deep })
    | inr other ↦ inr (none_deep-more ts i none_deep (λ deep. elim other [ inl less ↦ absurd (omega arith) | inr more ↦ absurd (omega arith) ]))
  ]
]

none_deep-front : (ts : List Lexeme) (m n : ℕ) → m ≤ n → NoneDeep ts n → NoneDeep ts m
none_deep-front ts m n le none_deep j less deep = none_deep j (omega arith) deep

-- ---- one answer

not_deep : (ts : List Lexeme) (p q : ℕ) → NoUnitAt ts p → TooDeepAt ts q → ⊥
not_deep ts p q n d = elim (cases_lt q p) [
  | inl less ↦ n.none_deep q less d.first.deep
  | inr from ↦ n.stops.first (omega (arith, d.first.within)) (begins-front IsUnit (suc p) (suc q) ts (omega arith) d.begins)
]

pub one_refusal : (ts : List Lexeme) (c c' : Code) (p q : ℕ) → IsRefusedAt c ts p → IsRefusedAt c' ts q → (c ≡ c') × (p ≡ q)
one_refusal ts code.E02 code.E02 p q h h' = (refl, one_stop IsUnit ts p q h.stops h'.stops)
one_refusal ts code.E02 code.E03 p q h h' = absurd (not_deep ts p q h h')
one_refusal ts code.E03 code.E02 p q h h' = absurd (not_deep ts q p h' h)
one_refusal ts code.E03 code.E03 p q h h' = (refl, one_deep ts p q h.first h'.first)
one_refusal ts code.E02 _ p q h h' = absurd h'
one_refusal ts code.E03 _ p q h h' = absurd h'
one_refusal ts _ c' p q h h' = absurd h

pub never_both : (ts : List Lexeme) (unit : ProgramText) (c : Code) (p : ℕ) → UnitNoneDeep ts unit → IsRefusedAt c ts p → ⊥
never_both ts unit code.E02 p u h = h.no_unit (unit, u.derived)
never_both ts unit code.E03 p u h = u.none_deep p h.first.within h.first.deep
never_both ts unit _ p u h = h

-- where the machine stops, and whether it wants more there
no_unit_left : (ts : List Lexeme) (v : Bool) (left : ℕ) → machine top ts ≡ (v, left) → ((v ≡ true) × (left ≡ 0)) ⊎ (IsUnit ts → ⊥)
no_unit_left ts true zero h = inl (refl, refl)
no_unit_left ts false zero h = inr (λ u. let same : (true, 0) ≡ (false, 0) = sym (accepted ts u.0 u.1) ∙ h in let bad : true ≡ false = ap (λ p. p.0) same in cc)
no_unit_left ts v (suc n) h = inr (λ u. let same : (true, 0) ≡ (v, suc n) = sym (accepted ts u.0 u.1) ∙ h in let bad : 0 ≡ suc n = ap (λ p. p.1) same in absurd (omega arith))

pub answered : (ts : List Lexeme) → IsAnswered ts
answered ts = at (machine top ts).0 (machine top ts).1 refl (scan ts (length ts) (omega arith))
  where
    refused : (p : ℕ) → StopsAt IsUnit ts p → (IsUnit ts → ⊥) → Scan ts (length ts) → IsAnswered ts
    refused p s none (inr none_deep) = inr (inl (p, record { stops = s; no_unit = none; none_deep = none_deep-front ts p (length ts) s.within none_deep }))
    refused p s none (inl found) = elim (cases_lt found.0 p) [
      | inl less ↦ inr (inr (found.0, record { first = found.2; begins = begins-front IsUnit (suc found.0) p ts (omega arith) s.begins }))
      | inr from ↦ inr (inl (p, record { stops = s; no_unit = none; none_deep = none_deep-front ts p found.0 from found.2.before }))
    ]

    read : IsUnit ts → Scan ts (length ts) → IsAnswered ts
    read u (inr none_deep) = inl (u.0, record { derived = u.1; none_deep = none_deep })
    read u (inl found) = inr (inr (found.0, record { first = found.2; begins = begins-whole IsUnit (suc found.0) ts u }))

    at : (v : Bool) (left : ℕ) → machine top ts ≡ (v, left) → Scan ts (length ts) → IsAnswered ts
    at v left h s = elim (no_unit_left ts v left h) [
      | inl all ↦ read (derived ts (h ∙ ap (λ b. (b, left)) all.0 ∙ ap (λ n. (true, n)) all.1)) s
      | inr none ↦ refused (length ts - left) (stopped ts v left (length ts - left) h (let w = left-within ts v left h in omega arith)) none s
    ]

pub one_text : (text : List ℕ) (unit unit' : ProgramText) → Reads text unit → Reads text unit' → unit ≡ unit'
one_text text unit unit' r r' =
    let same = one_tokens text r.tokens r'.tokens r.tokens-are r'.tokens-are in
    one_unit _ unit unit' r.derived (subst (λ t. Derives (lexemes t) unit') (sym same) r'.derived)

-- ---- only a front was read

stops-within : (n p : ℕ) (ts : List Lexeme) → n ≤ length ts → p < n → StopsAt IsUnit (take n ts) p → StopsAt IsUnit ts p
stops-within n p ts fits less s =
    let many : length (take n ts) ≡ n = simp length-take (omega arith) in
    record {
      within = omega arith;
      begins = subst (Begins IsUnit) (take-take p n ts (omega arith)) s.begins;
      first = λ below begun. s.first (omega arith) (subst (Begins IsUnit) (sym (take-take (suc p) n ts less)) begun);
    }

-- up to and with the first that is too deep
pub deep_read : (ts : List Lexeme) (q : ℕ) (unit : ProgramText) → FirstDeep ts q → Derives (take (suc q) ts) unit → TooDeepAt ts q
deep_read ts q unit d h = record { first = d; begins = ([], subst IsUnit (sym (append-nil (take (suc q) ts))) (unit, h)) }

pub deep_stopped : (ts : List Lexeme) (q : ℕ) (stop : Stop) → FirstDeep ts q → HasStop (take (suc q) ts) stop → HasCause ts (deep_cause_of q stop)
deep_stopped ts q NoMemory d h = tt
deep_stopped ts q (Left n) d h = at (nat_lt 0 n) refl
  where
    fits : suc q ≤ length ts
    fits = let w = d.within in omega arith

    many : length (take (suc q) ts) ≡ suc q
    many = let f = fits in simp length-take (omega arith)

    at : (b : Bool) → nat_lt 0 n ≡ b → HasCause ts (if b then cause.NoUnit (q - (n - 1)) else cause.TooDeep q)
    at true e =
        let some : 0 < n = ltb-true 0 n e in
        let place : length (take (suc q) ts) - n ≡ q - (n - 1) = (let m = many in omega arith) in
        let inner : StopsAt IsUnit (take (suc q) ts) (q - (n - 1)) = subst (λ p. StopsAt IsUnit (take (suc q) ts) p) place h.stops in
        let s : StopsAt IsUnit ts (q - (n - 1)) = stops-within (suc q) (q - (n - 1)) ts fits (omega arith) inner in
        record { stops = s; no_unit = stops-no IsUnit (q - (n - 1)) ts (let f = fits in omega arith) s; none_deep = none_deep-front ts (q - (n - 1)) q (omega arith) d.before }
    at false e =
        let none : n ≤ 0 = ltb-false 0 n e in
        let place : length (take (suc q) ts) - n ≡ suc q = (let m = many in omega arith) in
        let inner : StopsAt IsUnit (take (suc q) ts) (suc q) = subst (λ p. StopsAt IsUnit (take (suc q) ts) p) place h.stops in
        record { first = d; begins = subst (Begins IsUnit) (take-take (suc q) (suc q) ts (omega arith)) inner.begins }

-- ---- the code's lexemes

taken : (n : ℕ) (xs : List code_of.Lexeme) → lexemes_of (take n xs) ≡ take n (lexemes_of xs)
taken zero xs = refl
taken (suc n) [] = refl
taken (suc n) (x ∷ xs) = ap (λ u. lexeme_of x ∷ u) (taken n xs)

up_to : (xs : List code_of.Lexeme) (q : ℕ) → lexemes_of (take (q + 1) xs) ≡ take (suc q) (lexemes_of xs)
up_to xs q = let e : q + 1 ≡ suc q = omega arith in taken (q + 1) xs ∙ ap (λ n. take n (lexemes_of xs)) e

deep_there : (ts : List Lexeme) (q : ℕ) → DeepAt ts 0 q → FirstDeep ts q
deep_there ts q d = let e : q - 0 ≡ q = omega arith in subst (λ i. FirstDeep ts i) e d.first

pub deep_unit : (xs : List code_of.Lexeme) (q : ℕ) (unit : ProgramText) → DeepAt (lexemes_of xs) 0 q → Derives (lexemes_of (take (q + 1) xs)) unit → TooDeepAt (lexemes_of xs) q
deep_unit xs q unit d h = deep_read (lexemes_of xs) q unit (deep_there (lexemes_of xs) q d) (subst (λ ts. Derives ts unit) (up_to xs q) h)

pub deep_stop : (xs : List code_of.Lexeme) (q : ℕ) (stop : Stop) → DeepAt (lexemes_of xs) 0 q → HasStop (lexemes_of (take (q + 1) xs)) stop → HasCause (lexemes_of xs) (deep_cause_of q stop)
deep_stop xs q stop d h = deep_stopped (lexemes_of xs) q stop (deep_there (lexemes_of xs) q d) (subst (λ ts. HasStop ts stop) (up_to xs q) h)
