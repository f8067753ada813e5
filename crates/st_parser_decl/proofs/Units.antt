-- The place where the machine stops is the first where no unit begins, and lexemes are those of one unit at most.
use Rattle.std.proofs.Common.{◌≡◌, ℕ, suc, ◌+◌, ◌<◌, ◌≤◌, Bool, true, false, List, [], ◌∷◌, ◌++◌, length, take, refl, sym, ◌∙◌, ap, subst, arith, length-append}
use Rattle.st_tree.specs.declared.unit.Unit.{Unit as ProgramText}
use Rattle.st_tree.specs.Grammar.{Lexeme}
use Rattle.st_tree.specs.Declarations.{Derives}
use Rattle.st_tree.specs.Beginnings.{Language, Begins, StopsAt, IsUnit}
use Rattle.st_parser_expr.proofs.Viable.{take-front}
use Rattle.st_parser_decl.specs.Private.Form.{State, machine}
use Rattle.st_parser_decl.specs.Private.Rules as w
use Rattle.st_parser_decl.proofs.Takes.{Takes, passes}
use Rattle.st_parser_decl.proofs.Accepted.{given_all}
use Rattle.st_parser_decl.proofs.Given.{completes, machine-front, Cut, cut}
use Rattle.st_parser_decl.proofs.OneWay.{one_way}
use Rattle.st_parser_decl.proofs.FineRules.{fine-unit}
use Rattle.st_parser_decl.proofs.RuleForms.{of_unit}

abbrev pub top : State
top = w.unit ∷ []

pub accepted : (ts : List Lexeme) (unit : ProgramText) → Derives ts unit → machine top ts ≡ (true, 0)
accepted ts unit h =
    let p = of_unit.takes unit.decls ts [] h in
    passes w.unit (λ t. false) p.0 [] ts [] fine-unit p.1 tt

pub derived : (ts : List Lexeme) → machine top ts ≡ (true, 0) → IsUnit ts
derived ts h =
    let all = given_all ts top h in
    (record { decls = of_unit.from all.0 }, of_unit.spells all.0 ts [] (subst (Takes w.unit all.0 ts) all.3 all.2))

pub one_unit : (ts : List Lexeme) (unit unit' : ProgramText) → Derives ts unit → Derives ts unit' → unit ≡ unit'
one_unit ts unit unit' h h' =
    let p = of_unit.takes unit.decls ts [] h in
    let p' = of_unit.takes unit'.decls ts [] h' in
    let same = (one_way w.unit (λ t. false) p.0 p'.0 ts ts [] [] fine-unit refl p.1 p'.1 tt tt).0 in
    ap (λ ds. record { decls = ds }) (sym p.2 ∙ ap of_unit.from same ∙ p'.2)

pub begins : (ts : List Lexeme) (v : Bool) → machine top ts ≡ (v, 0) → Begins IsUnit ts
begins ts v h =
    let more = completes ts top v (fine-unit, tt) h in
    (more.0, derived (ts ++ more.0) more.1)

pub no_begin : (ts : List Lexeme) (v : Bool) (n : ℕ) → machine top ts ≡ (v, suc n) → Begins IsUnit ts → ⊥
no_begin ts v n h (after, (unit, d)) =
    let f = machine-front ts after top true (accepted (ts ++ after) unit d) in
    let z : suc n ≡ 0 = ap (λ p. p.1) (sym h ∙ f.1) in
    omega arith

take-one_more : (a r : List Lexeme) (t : Lexeme) → take (suc (length a)) (a ++ t ∷ r) ≡ a ++ t ∷ []
take-one_more [] r t = refl
take-one_more (u ∷ a) r t = ap (λ v. u ∷ v) (take-one_more a r t)

-- the lexemes a, and behind them r, whose first may not come
stops : (L : Language) (a r : List Lexeme) → Begins L a → ((t : Lexeme) (after : List Lexeme) → r ≡ t ∷ after → Begins L (a ++ t ∷ []) → ⊥) → StopsAt L (a ++ r) (length a)
stops L a r begun stuck = record {
  within = omega (arith, length-append a r);
  begins = rw take-front begun;
  first = λ less. at r stuck less;
}
  where
    at : (r : List Lexeme) → ((t : Lexeme) (after : List Lexeme) → r ≡ t ∷ after → Begins L (a ++ t ∷ []) → ⊥) → length a < length (a ++ r) → Begins L (take (suc (length a)) (a ++ r)) → ⊥
    at [] stuck less begun = absurd (let e : length (a ++ []) ≡ length a + 0 = length-append a [] in omega arith)
    at (t ∷ r) stuck less begun = stuck t r refl (subst (Begins L) (take-one_more a r t) begun)

-- where the machine stops
pub stopped : (ts : List Lexeme) (v : Bool) (left p : ℕ) → machine top ts ≡ (v, left) → p + left ≡ length ts → StopsAt IsUnit ts p
stopped ts v left p h sum = at (cut ts top v left h)
  where
    at : Cut top ts v left → StopsAt IsUnit ts p
    at c =
        let many : p ≡ length c.before = omega (arith, c.many, ap length c.whole, length-append c.before c.rest) in
        let s = stops IsUnit c.before c.rest (begins c.before v c.passed) (λ t after w. no_begin (c.before ++ t ∷ []) v 0 (c.stuck t after w)) in
        rw (many, c.whole) s

pub left-within : (ts : List Lexeme) (v : Bool) (left : ℕ) → machine top ts ≡ (v, left) → left ≤ length ts
left-within ts v left h = at (cut ts top v left h)
  where
    at : Cut top ts v left → left ≤ length ts
    at c = omega (arith, c.many, ap length c.whole, length-append c.before c.rest)
