-- What lexemes of a form consist of, and that the machine passes them. Whether a form is fine depends on the terminals that may follow.
use Rattle.std.proofs.Common.{◌≡◌, suc, ◌⊎◌, inl, inr, Bool, true, false, ◌&&◌, ◌||◌, List, [], ◌∷◌, ◌++◌, Option, Some, None, length, refl, sym, ◌∙◌, ap, subst, arith}
use Rattle.std.specs.Prelude.{not, is_some}
use Rattle.std.specs.List.{list_all}
use Rattle.st_tree.specs.declared.terminal.Terminal.{Terminal}
use Rattle.st_tree.specs.declared.terminal.Terminal.TheVariants as x
use Rattle.st_tree.specs.declared.expression.Operator.{Operator}
use Rattle.st_tree.specs.Grammar.{Lexeme, Phrase, ◌⋆◌, nothing, each, operator_of}
use Rattle.st_parser_expr.specs.Private.Machine.{IsNoStep}
use Rattle.st_parser_stmt.specs.Private.Machine as s
use Rattle.st_parser_stmt.specs.Private.Numbers.{same_terminal, all}
use Rattle.st_parser_stmt.proofs.NumberLaws.{same-self, all-is}
use Rattle.st_parser_stmt.proofs.Passes.{Closed}
use Rattle.st_parser_decl.specs.Private.Form.{Form, one, one_of, both, may, option, several, either, inside, State, nullable, starts, machine}
use Rattle.st_parser_decl.specs.Private.Promises.{first_in}
use Rattle.st_parser_decl.proofs.FormLaws.{on-one, on-one_of, machine-both, machine-may, machine-may_not, machine-option, machine-no_option, machine-several, machine-no_several, machine-first, machine-second, inside-passes}
use Rattle.st_parser_decl.proofs.Closed.{reads-whole}

abbrev pub Parts : Form → Type 0
Parts (one s) = Lexeme
Parts (one_of S s p) = Lexeme
Parts (both a b) = Parts a × Parts b
Parts (may s) = Option Lexeme
Parts (option a) = Option (Parts a)
Parts (several a) = List (Parts a)
Parts (either a b) = Parts a ⊎ Parts b
Parts (inside k) = (ts : List Lexeme) × (s.machine k ts ≡ (true, 0))

abbrev pub perhaps : {X : Type 0} → (X → Phrase) → Option X → Phrase
perhaps P None = nothing
perhaps P (Some p) = P p

abbrev pub either_of : {X Y : Type 0} → (X → Phrase) → (Y → Phrase) → X ⊎ Y → Phrase
either_of P Q (inl p) = P p
either_of P Q (inr q) = Q q

-- the terminal, taken where it comes
abbrev pub may_be : Terminal → Option Lexeme → Phrase
may_be s None ts rest = (first_in (same_terminal s) ts ≡ false) × (ts ≡ rest)
may_be s (Some t) ts rest = (t.terminal ≡ s) × (ts ≡ t ∷ rest)

-- the parts take these lexemes
abbrev pub Takes : (a : Form) → Parts a → Phrase
Takes (one s) = λ t ts rest. (t.terminal ≡ s) × (ts ≡ t ∷ rest)
Takes (one_of S s p) = λ t ts rest. (S t.terminal ≡ true) × (ts ≡ t ∷ rest)
Takes (both a b) = λ p. Takes a p.0 ⋆ Takes b p.1
Takes (may s) = may_be s
Takes (option a) = perhaps (Takes a)
Takes (several a) = each (Takes a)
Takes (either a b) = either_of (Takes a) (Takes b)
Takes (inside k) = λ p ts rest. ts ≡ p.0 ++ rest

-- ---- what may follow

abbrev pub is_closed_step : Terminal → Bool
is_closed_step x.Dot = false
is_closed_step x.OpenBracket = false
is_closed_step x.Caret = false
is_closed_step x.Open = false
is_closed_step x.Hash = false
is_closed_step _ = true

-- with which no expression, place or call goes on
abbrev pub is_closed : Terminal → Bool
is_closed t = is_closed_step t && not (is_some (operator_of t))

-- no terminal is in both
unfoldable pub apart : (Terminal → Bool) → (Terminal → Bool) → Bool
apart S F = list_all (λ t. not (S t && F t)) all

unfoldable pub all_closed : (Terminal → Bool) → Bool
all_closed F = list_all (λ t. not (F t) || is_closed t) all

-- what may come where the form is wanted, and then these terminals
abbrev pub follow : Form → (Terminal → Bool) → Terminal → Bool
follow b F t = starts b t || (nullable b && F t)

-- one terminal tells which way the form goes, where these may follow
abbrev pub Fine : Form → (Terminal → Bool) → Type 0
Fine (one s) F = Unit {0}
Fine (one_of S s p) F = Unit {0}
Fine (both a b) F = Fine a (follow b F) × Fine b F
Fine (may s) F = Unit {0}
Fine (option a) F = Fine a F × (nullable a ≡ false) × (apart (starts a) F ≡ true)
Fine (several a) F = Fine a (follow (several a) F) × (nullable a ≡ false) × (apart (starts a) F ≡ true)
Fine (either a b) F = Fine a F × Fine b F × (nullable a ≡ false) × (apart (starts a) (follow b F) ≡ true)
Fine (inside k) F = all_closed F ≡ true

abbrev pub Followed : (Terminal → Bool) → List Lexeme → Type 0
Followed F [] = Unit {0}
Followed F (t ∷ ts) = F t.terminal ≡ true

not-and : (a b : Bool) → not (a && b) ≡ true → a ≡ true → b ≡ true → ⊥
not-and true true h i j = cc
not-and true false h i j = cc
not-and false b h i j = cc

pub apart-is : (S F : Terminal → Bool) → apart S F ≡ true → (t : Terminal) → S t ≡ true → F t ≡ true → ⊥
unfolding apart
apart-is S F h t i j = not-and (S t) (F t) (all-is (λ t. not (S t && F t)) h t) i j

bool-cases : (b : Bool) → (b ≡ true) ⊎ (b ≡ false)
bool-cases true = inl refl
bool-cases false = inr refl

-- what follows begins it not
pub not_first : (S F : Terminal → Bool) → apart S F ≡ true → (ts : List Lexeme) → Followed F ts → first_in S ts ≡ false
not_first S F h [] f = refl
not_first S F h (t ∷ ts) f = elim (bool-cases (S t.terminal)) [ inl e ↦ absurd (apart-is S F h t.terminal e f) | inr e ↦ e ]

closed-step : (t : Terminal) (b : Bool) → is_closed_step t && b ≡ true → IsNoStep t
closed-step x.Dot b h = cc
closed-step x.OpenBracket b h = cc
closed-step x.Caret b h = cc
closed-step x.Open b h = cc
closed-step x.Hash b h = cc
closed-step _ b h = tt

closed-operator : (a : Bool) (o : Option Operator) → a && not (is_some o) ≡ true → o ≡ None
closed-operator a None h = refl
closed-operator true (Some p) h = cc
closed-operator false (Some p) h = cc

or-else : (a b : Bool) → not a || b ≡ true → a ≡ true → b ≡ true
or-else true b h i = h
or-else false b h i = cc

pub closed-is : (F : Terminal → Bool) → all_closed F ≡ true → (ts : List Lexeme) → Followed F ts → Closed ts
unfolding all_closed
closed-is F h [] f = (tt, tt)
closed-is F h (t ∷ ts) f =
    let c = or-else (F t.terminal) (is_closed t.terminal) (all-is (λ t. not (F t) || is_closed t) h t.terminal) f in
    (closed-step t.terminal _ c, closed-operator (is_closed_step t.terminal) (operator_of t.terminal) c)

-- ---- how lexemes of a form begin

-- either it begins, or it takes nothing
abbrev pub Begun : Form → List Lexeme → List Lexeme → Type 0
Begun a ts rest = (first_in (starts a) ts ≡ true) ⊎ ((nullable a ≡ true) × (ts ≡ rest))

or-left : (a b : Bool) → a ≡ true → a || b ≡ true
or-left a b h = rw h refl

or-right : (a b : Bool) → b ≡ true → a || b ≡ true
or-right true b h = refl
or-right false b h = h

first-sum : (S R : Terminal → Bool) (ts : List Lexeme) → first_in S ts ≡ true → first_in (λ t. S t || R t) ts ≡ true
first-sum S R [] h = cc
first-sum S R (t ∷ ts) h = or-left (S t.terminal) (R t.terminal) h

first-both : (a b : Form) (ts : List Lexeme) → nullable a ≡ true → first_in (starts b) ts ≡ true → first_in (starts (both a b)) ts ≡ true
first-both a b [] n h = cc
first-both a b (t ∷ ts) n h = rw n (or-right (starts a t.terminal) (starts b t.terminal) h)

begun-both : (a b : Form) (ts m rest : List Lexeme) → Begun a ts m → Begun b m rest → Begun (both a b) ts rest
begun-both a b ts m rest (inl h) g = inl (first-sum (starts a) (λ t. nullable a && starts b t) ts h)
begun-both a b ts m rest (inr (n, e)) (inl h) = inl (first-both a b ts n (ap (first_in (starts b)) e ∙ h))
begun-both a b ts m rest (inr (n, e)) (inr (n', e')) = inr (rw n n', e ∙ e')

pub begun-each : (a : Form) (ps : List (Parts a)) (ts rest : List Lexeme) → ((p : Parts a) (ts rest : List Lexeme) → Takes a p ts rest → first_in (starts a) ts ≡ true)
    → each (Takes a) ps ts rest → Begun (several a) ts rest
begun-each a [] ts rest first h = inr (refl, h)
begun-each a (p ∷ ps) ts rest first (m, h, more) = inl (first p ts m h)

-- what takes some lexeme begins
pub some-begun : (a : Form) (ts rest : List Lexeme) → nullable a ≡ false → Begun a ts rest → first_in (starts a) ts ≡ true
some-begun a ts rest n (inl h) = h
some-begun a ts rest n (inr (n', e)) = absurd (let bad : true ≡ false = sym n' ∙ n in cc)

begun-inside : (k : s.State) (a ts rest : List Lexeme) → s.machine k a ≡ (true, 0) → ts ≡ a ++ rest → Begun (inside k) ts rest
begun-inside k [] ts rest h w = inr (ap (λ p. p.0) h, w)
begun-inside k (t ∷ a) ts rest h w = inl (ap (first_in (starts (inside k))) w ∙ at (s.advance k t.terminal) h)
  where
    at : (o : Option s.State) → s.go_on o (λ k'. s.machine k' a) (s.accepts k, suc (length a)) ≡ (true, 0) → is_some o ≡ true
    at None h = absurd (let z : suc (length a) ≡ 0 = ap (λ p. p.1) h in omega arith)
    at (Some k') h = refl

second-first : (a b : Form) (ts rest : List Lexeme) → Begun b ts rest → Begun (either a b) ts rest
second-first a b [] rest (inl h) = cc
second-first a b (t ∷ ts) rest (inl h) = inl (or-right (starts a t.terminal) (starts b t.terminal) h)
second-first a b ts rest (inr h) = inr h

pub begun : (a : Form) (F : Terminal → Bool) (p : Parts a) (ts rest : List Lexeme) → Fine a F → Takes a p ts rest → Begun a ts rest
begun (one s) F t ts rest fine h = inl (ap (first_in (same_terminal s)) h.1 ∙ ap (same_terminal s) h.0 ∙ same-self s)
begun (one_of S s q) F t ts rest fine h = inl (ap (first_in S) h.1 ∙ h.0)
begun (both a b) F p ts rest fine (m, h, h') = begun-both a b ts m rest (begun a (follow b F) p.0 ts m fine.0 h) (begun b F p.1 m rest fine.1 h')
begun (may s) F None ts rest fine h = inr (refl, h.1)
begun (may s) F (Some t) ts rest fine h = inl (ap (first_in (same_terminal s)) h.1 ∙ ap (same_terminal s) h.0 ∙ same-self s)
begun (option a) F None ts rest fine h = inr (refl, h)
begun (option a) F (Some p) ts rest fine h = inl (some-begun a ts rest fine.1 (begun a F p ts rest fine.0 h))
begun (several a) F ps ts rest fine h = begun-each a ps ts rest (λ p ts rest g. some-begun a ts rest fine.1 (begun a (follow (several a) F) p ts rest fine.0 g)) h
begun (either a b) F (inl p) ts rest fine h = inl (first-sum (starts a) (starts b) ts (some-begun a ts rest fine.2 (begun a F p ts rest fine.0 h)))
begun (either a b) F (inr q) ts rest fine h = second-first a b ts rest (begun b F q ts rest fine.1 h)
begun (inside k) F p ts rest fine h = begun-inside k p.0 ts rest p.1 h

-- what stands behind the form is behind the one before it
pub followed : (b : Form) (F : Terminal → Bool) (ts rest : List Lexeme) → Begun b ts rest → Followed F rest → Followed (follow b F) ts
followed b F [] rest g f = tt
followed b F (t ∷ ts) rest (inl h) f = or-left (starts b t.terminal) (nullable b && F t.terminal) h
followed b F (t ∷ ts) rest (inr (n, e)) f = or-right (starts b t.terminal) (nullable b && F t.terminal) (let g : F t.terminal ≡ true = subst (Followed F) (sym e) f in rw n g)

-- ---- the machine passes them

passes-each : (a : Form) (F : Terminal → Bool) (ps : List (Parts a)) (K : State) (ts rest : List Lexeme)
    → ((p : Parts a) (K : State) (ts rest : List Lexeme) → Takes a p ts rest → Followed (follow (several a) F) rest → machine (a ∷ K) ts ≡ machine K rest)
    → ((p : Parts a) (ts rest : List Lexeme) → Takes a p ts rest → first_in (starts a) ts ≡ true) → nullable a ≡ false → apart (starts a) F ≡ true
    → each (Takes a) ps ts rest → Followed F rest → machine (several a ∷ K) ts ≡ machine K rest
passes-each a F [] K ts rest go first n d h f = ap (machine (several a ∷ K)) h ∙ machine-no_several a K rest (not_first (starts a) F d rest f)
passes-each a F (p ∷ ps) K ts rest go first n d (m, h, more) f =
    machine-several a K ts n (first p ts m h) ∙ go p (several a ∷ K) ts m h (followed (several a) F m rest (begun-each a ps m rest first more) f)
    ∙ passes-each a F ps K m rest go first n d more f

pub passes : (a : Form) (F : Terminal → Bool) (p : Parts a) (K : State) (ts rest : List Lexeme) → Fine a F → Takes a p ts rest → Followed F rest → machine (a ∷ K) ts ≡ machine K rest
passes (one s) F t K ts rest fine h f = on-one K s ts rest (t, h.0, h.1)
passes (one_of S s q) F t K ts rest fine h f = ap (machine (one_of S s q ∷ K)) h.1 ∙ on-one_of K S s q t rest h.0
passes (both a b) F p K ts rest fine (m, h, h') f =
    machine-both a b K ts ∙ passes a (follow b F) p.0 (b ∷ K) ts m fine.0 h (followed b F m rest (begun b F p.1 m rest fine.1 h') f) ∙ passes b F p.1 K m rest fine.1 h' f
passes (may s) F None K ts rest fine h f = machine-may_not s K ts h.0 ∙ ap (machine K) h.1
passes (may s) F (Some t) K ts rest fine h f = machine-may s K ts rest (t, h.0, h.1)
passes (option a) F None K ts rest fine h f = ap (machine (option a ∷ K)) h ∙ machine-no_option a K rest (not_first (starts a) F fine.2 rest f)
passes (option a) F (Some p) K ts rest fine h f =
    machine-option a K ts (some-begun a ts rest fine.1 (begun a F p ts rest fine.0 h)) ∙ passes a F p K ts rest fine.0 h f
passes (several a) F ps K ts rest fine h f =
    passes-each a F ps K ts rest (λ p K ts rest g i. passes a (follow (several a) F) p K ts rest fine.0 g i)
    (λ p ts rest g. some-begun a ts rest fine.1 (begun a (follow (several a) F) p ts rest fine.0 g)) fine.1 fine.2 h f
passes (either a b) F (inl p) K ts rest fine h f =
    machine-first a b K ts fine.2 (some-begun a ts rest fine.2 (begun a F p ts rest fine.0 h)) ∙ passes a F p K ts rest fine.0 h f
passes (either a b) F (inr q) K ts rest fine h f =
    machine-second a b K ts (not_first (starts a) (follow b F) fine.3 ts (followed b F ts rest (begun b F q ts rest fine.1 h) f)) ∙ passes b F q K ts rest fine.1 h f
passes (inside k) F p K ts rest fine h f = ap (machine (inside k ∷ K)) h ∙ inside-passes p.0 rest k K (reads-whole p.0 rest k p.1 (closed-is F fine rest f))
