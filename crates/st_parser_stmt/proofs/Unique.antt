-- Lexemes spell at most one list of statements. Both readings begin at equal lexemes, so each part gives the next one its equation.
use Rattle.std.proofs.Common.{◌≡◌, ℕ, true, false, List, [], ◌∷◌, Option, Some, None, refl, sym, ◌∙◌, ap, subst}
use Rattle.st_tree.specs.declared.terminal.Terminal.{Terminal}
use Rattle.st_tree.specs.declared.terminal.Terminal.TheVariants as x
use Rattle.st_tree.specs.declared.expression.Literal.{Literal}
use Rattle.st_tree.specs.declared.expression.Root.{Root}
use Rattle.st_tree.specs.declared.expression.Root.TheVariants as roots
use Rattle.st_tree.specs.declared.statement.Label.{Label}
use Rattle.st_tree.specs.declared.statement.LabelEnd.{LabelEnd}
use Rattle.st_tree.specs.declared.statement.LabelEnd.TheVariants as labels
use Rattle.st_tree.specs.Expression.{Expression, Selectors, Arguments}
use Rattle.st_tree.specs.Statement as stmt
use Rattle.st_tree.specs.Statement.{Statement, Statements, no_statements, statement_then, Branches, no_branches, branch_then, Cases, no_cases, case_then, Otherwise}
use Rattle.st_tree.specs.Grammar as g
use Rattle.st_tree.specs.Grammar.{Lexeme, Phrase, ◌⋆◌, sign, spelled, word, At, at, operator_of, level, root, selectors, arguments, expression, literal, label_end, range_end, label, more_labels, first_label, step_by, statement, first_branch, more_branches, otherwise, cases}
use Rattle.st_parser_expr.specs.Private.Machine.{NoOperator, NoSelector, IsNoSelector, Looser}
use Rattle.st_parser_expr.specs.Private.Promises.{next_terminal}
use Rattle.st_parser_expr.proofs.MachineLaws.{signed}
use Rattle.st_parser_expr.proofs.Unique as u
use Rattle.st_parser_expr.proofs.Unique.{selector-sign}
use Rattle.st_parser_stmt.specs.Private.Promises.{starts_statement, ends_const, label_at}
use Rattle.st_parser_stmt.proofs.Passes.{Closed, closed-sign, next-sign, step-closed, statement-starts, statement-no_label, labels-label, more-ends, range-ends, else-no_statement, else-no_label, else-no_elsif}

-- ---- parts, at equal lexemes

pub sign-same : (s : Terminal) (ts ts' r r' : List Lexeme) → ts ≡ ts' → sign s ts r → sign s ts' r' → r ≡ r'
sign-same s ts ts' r r' q h h' = u.sign-rest s s ts r r' h (subst (λ v. sign s v r') (sym q) h')

pub sign-two : (s s' : Terminal) (ts ts' r r' : List Lexeme) → ts ≡ ts' → sign s ts r → sign s' ts' r' → s ≡ s'
sign-two s s' ts ts' r r' q h h' = u.sign-mismatch s s' ts r r' h (subst (λ v. sign s' v r') (sym q) h')

pub spelled-same : (s : Terminal) (n n' : List ℕ) (ts ts' r r' : List Lexeme) → ts ≡ ts' → spelled s n ts r → spelled s n' ts' r' → (n ≡ n') × (r ≡ r')
spelled-same s n n' ts ts' r r' q h h' = u.spelled-same s n n' ts r r' h (subst (λ v. spelled s n' v r') (sym q) h')

pub line-same : (l l' : ℕ) (ts ts' : List Lexeme) → ts ≡ ts' → At l ts → At l' ts' → l ≡ l'
line-same l l' ts ts' q a a' = u.line-same l l' ts a (subst (At l') (sym q) a')

looser : (r : List Lexeme) → NoOperator r → Looser 0 r
looser [] h = tt
looser (t ∷ ts) h = λ p is. absurd (let bad : None ≡ Some p = sym h ∙ is in cc)

pub expression-same : (v v' : Expression ℕ) (ts ts' r r' : List Lexeme) → ts ≡ ts' → expression v 0 ts r → expression v' 0 ts' r' → Closed r → Closed r' → (v ≡ v') × (r ≡ r')
expression-same v v' ts ts' r r' q h h' c c' =
    u.one-expression v 0 v' ts r r' h (subst (λ w. expression v' 0 w r') (sym q) h') (looser r c.1, c.0) (looser r' c'.1, c'.0)

-- an expression up to this terminal
to-same : (s : Terminal) (v v' : Expression ℕ) (ts ts' m m' r r' : List Lexeme) → ((ts rest : List Lexeme) → sign s ts rest → Closed ts) → ts ≡ ts' → expression v 0 ts m → sign s m r → expression v' 0 ts' m' → sign s m' r'
    → (v ≡ v') × (r ≡ r')
to-same s v v' ts ts' m m' r r' closed q h c h' c' =
    let both = expression-same v v' ts ts' m m' q h h' (closed m r c) (closed m' r' c') in
    (both.0, sign-same s m m' r r' both.1 c c')

arguments-same : (xs xs' : Arguments ℕ) (ts ts' m m' r r' : List Lexeme) → ts ≡ ts' → arguments xs ts m → sign x.Close m r → arguments xs' ts' m' → sign x.Close m' r' → (xs ≡ xs') × (r ≡ r')
arguments-same xs xs' ts ts' m m' r r' q h c h' c' = u.one-arguments xs xs' ts m r m' r' h c (subst (λ w. arguments xs' w m') (sym q) h') c'

literal-same : (v v' : Literal) (ts ts' r r' : List Lexeme) → ts ≡ ts' → literal v ts r → literal v' ts' r' → (v ≡ v') × (r ≡ r')
literal-same v v' ts ts' r r' q h h' = u.one-literal v v' ts r r' h (subst (λ w. literal v' w r') (sym q) h')

-- a place with its note
abbrev Noted : ℕ → Root ℕ → Selectors ℕ → Phrase
Noted note p s = at note (root p ⋆ selectors s)

abbrev SamePlace : ℕ → ℕ → Root ℕ → Root ℕ → Selectors ℕ → Selectors ℕ → Type 0
SamePlace note note' p p' s s' = (note ≡ note') × (p ≡ p') × (s ≡ s')

place-same : (note note' : ℕ) (p p' : Root ℕ) (s s' : Selectors ℕ) (ts ts' r r' : List Lexeme) → ts ≡ ts' → Noted note p s ts r → Noted note' p' s' ts' r' → NoSelector r → NoSelector r'
    → SamePlace note note' p p' s s' × (r ≡ r')
place-same note note' p p' s s' ts ts' r r' q (a, (m, h, hs)) (a', (m', h', hs')) c c' =
    let one = u.one-root p p' ts m m' h (subst (λ w. root p' w m') (sym q) h') in
    let two = u.one-selectors s s' m r r' hs (subst (λ w. selectors s' w r') (sym one.1) hs') c c' in
    ((line-same note note' ts ts' q a a', one.0, two.0), two.1)

-- ---- labels

data Sort : Type 0 where
  numbers : Sort
  negatives : Sort
  kinds : Sort
  words : Sort

abbrev sort_at : Option Terminal → Option Sort
sort_at (Some x.Int) = Some numbers
sort_at (Some x.Minus) = Some negatives
sort_at (Some (x.Kind k)) = Some kinds
sort_at (Some x.Word) = Some words
sort_at _ = None

abbrev sort : LabelEnd ℕ → Sort
sort (labels.Int line n) = numbers
sort (labels.Negative line n) = negatives
sort (labels.Typed line k v) = kinds
sort (labels.Name line n) = words
sort (labels.Enumerator line n later v) = words
sort (labels.Field line n later v) = words

sorted : (c : LabelEnd ℕ) (ts r : List Lexeme) → label_end c ts r → sort_at (next_terminal ts) ≡ Some (sort c)
sorted (labels.Int line n) ts r (a, h) = ap sort_at (next-sign x.Int ts r (signed x.Int n ts r h))
sorted (labels.Negative line n) ts r (a, (m, h, more)) = ap sort_at (next-sign x.Minus ts m h)
sorted (labels.Typed line k v) ts r (a, (m, h, more)) = ap sort_at (next-sign (x.Kind k) ts m h)
sorted (labels.Name line n) ts r (a, h) = ap sort_at (next-sign x.Word ts r (signed x.Word n ts r h))
sorted (labels.Enumerator line n later v) ts r (a, (m, h, more)) = ap sort_at (next-sign x.Word ts m (signed x.Word n ts m h))
sorted (labels.Field line n later v) ts r (a, (m, h, more)) = ap sort_at (next-sign x.Word ts m (signed x.Word n ts m h))

sort-same : (c c' : LabelEnd ℕ) (ts ts' r r' : List Lexeme) → ts ≡ ts' → label_end c ts r → label_end c' ts' r' → Some (sort c) ≡ Some (sort c')
sort-same c c' ts ts' r r' q h h' = sym (sorted c ts r h) ∙ ap (λ w. sort_at (next_terminal w)) q ∙ sorted c' ts' r' h'

-- what ends a label is no `#` and no `.`
end-not : (s : Terminal) (m m' r : List Lexeme) → ends_const (Some s) ≡ false → m ≡ m' → ends_const (next_terminal m) ≡ true → sign s m' r → ⊥
end-not s m m' r free q ok h =
    let bad : false ≡ true = sym free ∙ sym (ap ends_const (next-sign s m' r h)) ∙ sym (ap (λ w. ends_const (next_terminal w)) q) ∙ ok in
    cc

abbrev OneConst : LabelEnd ℕ → Type 0
OneConst c = (c' : LabelEnd ℕ) (ts ts' r r' : List Lexeme) → ts ≡ ts' → label_end c ts r → label_end c' ts' r' → ends_const (next_terminal r) ≡ true → ends_const (next_terminal r') ≡ true → (c ≡ c') × (r ≡ r')

one-const : (c : LabelEnd ℕ) → OneConst c
one-const (labels.Int line n) (labels.Int line' n') ts ts' r r' q (a, h) (a', h') ok ok' =
    let both = spelled-same x.Int n n' ts ts' r r' q h h' in
    ((let i = line-same line line' ts ts' q a a' in let j = both.0 in cc), both.1)
one-const (labels.Int line n) c' ts ts' r r' q h h' ok ok' = absurd (let bad = sort-same (labels.Int line n) c' ts ts' r r' q h h' in cc)
one-const (labels.Negative line n) (labels.Negative line' n') ts ts' r r' q (a, (m, h, d)) (a', (m', h', d')) ok ok' =
    let both = spelled-same x.Int n n' m m' r r' (sign-same x.Minus ts ts' m m' q h h') d d' in
    ((let i = line-same line line' ts ts' q a a' in let j = both.0 in cc), both.1)
one-const (labels.Negative line n) c' ts ts' r r' q h h' ok ok' = absurd (let bad = sort-same (labels.Negative line n) c' ts ts' r r' q h h' in cc)
one-const (labels.Typed line k v) (labels.Typed line' k' v') ts ts' r r' q (a, (m, h, (m2, w, d))) (a', (m', h', (m2', w', d'))) ok ok' =
    let kind_same = sign-two (x.Kind k) (x.Kind k') ts ts' m m' q h h' in
    let first = u.lexeme-rest (λ t. t.terminal ≡ x.Kind k) (λ t. t.terminal ≡ x.Kind k') ts m m' h (subst (λ z. sign (x.Kind k') z m') (sym q) h') in
    let both = literal-same v v' m2 m2' r r' (sign-same x.Hash m m' m2 m2' first w w') d d' in
    ((let i = line-same line line' ts ts' q a a' in let j = both.0 in cc), both.1)
one-const (labels.Typed line k v) c' ts ts' r r' q h h' ok ok' = absurd (let bad = sort-same (labels.Typed line k v) c' ts ts' r r' q h h' in cc)
one-const (labels.Name line n) (labels.Name line' n') ts ts' r r' q (a, h) (a', h') ok ok' =
    let both = spelled-same x.Word n n' ts ts' r r' q h h' in
    ((let i = line-same line line' ts ts' q a a' in let j = both.0 in cc), both.1)
one-const (labels.Name line n) (labels.Enumerator line' n' later' v') ts ts' r r' q (a, h) (a', (m', h', (m2', w', d'))) ok ok' =
    absurd (end-not x.Hash r m' m2' refl (spelled-same x.Word n n' ts ts' r m' q h h').1 ok w')
one-const (labels.Name line n) (labels.Field line' n' later' v') ts ts' r r' q (a, h) (a', (m', h', (m2', w', d'))) ok ok' =
    absurd (end-not x.Dot r m' m2' refl (spelled-same x.Word n n' ts ts' r m' q h h').1 ok w')
one-const (labels.Name line n) c' ts ts' r r' q h h' ok ok' = absurd (let bad = sort-same (labels.Name line n) c' ts ts' r r' q h h' in cc)
one-const (labels.Enumerator line n later v) (labels.Enumerator line' n' later' v') ts ts' r r' q (a, (m, h, (m2, w, (b, d)))) (a', (m', h', (m2', w', (b', d')))) ok ok' =
    let one = spelled-same x.Word n n' ts ts' m m' q h h' in
    let first = sign-same x.Hash m m' m2 m2' one.1 w w' in
    let two = spelled-same x.Word v v' m2 m2' r r' first d d' in
    ((let i = line-same line line' ts ts' q a a' in let j = line-same later later' m2 m2' first b b' in let k = one.0 in let l = two.0 in cc), two.1)
one-const (labels.Enumerator line n later v) (labels.Name line' n') ts ts' r r' q (a, (m, h, (m2, w, d))) (a', h') ok ok' =
    absurd (end-not x.Hash r' m m2 refl (sym (spelled-same x.Word n n' ts ts' m r' q h h').1) ok' w)
one-const (labels.Enumerator line n later v) (labels.Field line' n' later' v') ts ts' r r' q (a, (m, h, (m2, w, d))) (a', (m', h', (m2', w', d'))) ok ok' =
    absurd (let bad = sign-two x.Hash x.Dot m m' m2 m2' (spelled-same x.Word n n' ts ts' m m' q h h').1 w w' in cc)
one-const (labels.Enumerator line n later v) c' ts ts' r r' q h h' ok ok' = absurd (let bad = sort-same (labels.Enumerator line n later v) c' ts ts' r r' q h h' in cc)
one-const (labels.Field line n later v) (labels.Field line' n' later' v') ts ts' r r' q (a, (m, h, (m2, w, (b, d)))) (a', (m', h', (m2', w', (b', d')))) ok ok' =
    let one = spelled-same x.Word n n' ts ts' m m' q h h' in
    let first = sign-same x.Dot m m' m2 m2' one.1 w w' in
    let two = spelled-same x.Word v v' m2 m2' r r' first d d' in
    ((let i = line-same line line' ts ts' q a a' in let j = line-same later later' m2 m2' first b b' in let k = one.0 in let l = two.0 in cc), two.1)
one-const (labels.Field line n later v) (labels.Name line' n') ts ts' r r' q (a, (m, h, (m2, w, d))) (a', h') ok ok' =
    absurd (end-not x.Dot r' m m2 refl (sym (spelled-same x.Word n n' ts ts' m r' q h h').1) ok' w)
one-const (labels.Field line n later v) (labels.Enumerator line' n' later' v') ts ts' r r' q (a, (m, h, (m2, w, d))) (a', (m', h', (m2', w', d'))) ok ok' =
    absurd (let bad = sign-two x.Dot x.Hash m m' m2 m2' (spelled-same x.Word n n' ts ts' m m' q h h').1 w w' in cc)
one-const (labels.Field line n later v) c' ts ts' r r' q h h' ok ok' = absurd (let bad = sort-same (labels.Field line n later v) c' ts ts' r r' q h h' in cc)

-- a comma or a colon, and no `..`
abbrev Over : List Lexeme → Type 0
Over ts = (ends_const (next_terminal ts) ≡ true) × (next_terminal ts ≡ Some x.Range → ⊥)

more-over : (ls : List (Label ℕ)) (ts m r : List Lexeme) → more_labels ls ts m → sign x.Colon m r → Over ts
more-over ls ts m r h c = (more-ends ls ts m r h c, at ls h)
  where
    at : (ls : List (Label ℕ)) → more_labels ls ts m → next_terminal ts ≡ Some x.Range → ⊥
    at [] h is = let bad : Some x.Colon ≡ Some x.Range = sym (next-sign x.Colon m r c) ∙ ap next_terminal (sym h) ∙ is in cc
    at (l ∷ ls) (m', w, more) is = let bad : Some x.Comma ≡ Some x.Range = sym (next-sign x.Comma ts m' w) ∙ is in cc

one-range : (o o' : Option (LabelEnd ℕ)) (ts ts' r r' : List Lexeme) → ts ≡ ts' → range_end o ts r → range_end o' ts' r' → Over r → Over r' → (o ≡ o') × (r ≡ r')
one-range None None ts ts' r r' q h h' c c' = (refl, sym h ∙ q ∙ h')
one-range None (Some d) ts ts' r r' q h (m, w, more) c c' = absurd (c.1 (ap next_terminal (sym h ∙ q) ∙ next-sign x.Range ts' m w))
one-range (Some d) None ts ts' r r' q (m, w, more) h' c c' = absurd (c'.1 (ap next_terminal (sym h' ∙ sym q) ∙ next-sign x.Range ts m w))
one-range (Some d) (Some d') ts ts' r r' q (m, w, h) (m', w', h') c c' =
    let both = one-const d d' m m' r r' (sign-same x.Range ts ts' m m' q w w') h h' c.0 c'.0 in
    (ap Some both.0, both.1)

one-label : (l l' : Label ℕ) (ts ts' r r' : List Lexeme) → ts ≡ ts' → label l ts r → label l' ts' r' → Over r → Over r' → (l ≡ l') × (r ≡ r')
one-label l l' ts ts' r r' q (m, h, ho) (m', h', ho') c c' =
    let one = one-const l.first l'.first ts ts' m m' q h h' (range-ends l.last m r ho c.0) (range-ends l'.last m' r' ho' c'.0) in
    let two = one-range l.last l'.last m m' r r' one.1 ho ho' c c' in
    (label-same l l' one.0 two.0, two.1)
  where
    label-same : (l l' : Label ℕ) → l.first ≡ l'.first → l.last ≡ l'.last → l ≡ l'
    label-same l l' i j = ap (λ c. record { first = c; last = l.last }) i ∙ ap (λ o. record { first = l'.first; last = o }) j

one-more_labels : (ls ls' : List (Label ℕ)) (ts ts' m m' r r' : List Lexeme) → ts ≡ ts' → more_labels ls ts m → sign x.Colon m r → more_labels ls' ts' m' → sign x.Colon m' r' → (ls ≡ ls') × (r ≡ r')
one-more_labels [] [] ts ts' m m' r r' q h c h' c' = (refl, sign-same x.Colon m m' r r' (sym h ∙ q ∙ h') c c')
one-more_labels [] (l ∷ ls) ts ts' m m' r r' q h c (n, w, more) c' = absurd (let bad = sign-two x.Colon x.Comma m ts' r n (sym h ∙ q) c w in cc)
one-more_labels (l ∷ ls) [] ts ts' m m' r r' q (n, w, more) c h' c' = absurd (let bad = sign-two x.Comma x.Colon ts m' n r' (q ∙ h') w c' in cc)
one-more_labels (l ∷ ls) (l' ∷ ls') ts ts' m m' r r' q (n, w, (n2, h, hm)) c (n', w', (n2', h', hm')) c' =
    let one = one-label l l' n n' n2 n2' (sign-same x.Comma ts ts' n n' q w w') h h' (more-over ls n2 m r hm c) (more-over ls' n2' m' r' hm' c') in
    let two = one-more_labels ls ls' n2 n2' m m' r r' one.1 hm c hm' c' in
    ((let i = one.0 in let j = two.0 in cc), two.1)

one-labels : (ls ls' : List (Label ℕ)) (ts ts' m m' r r' : List Lexeme) → ts ≡ ts' → first_label ls ts m → sign x.Colon m r → first_label ls' ts' m' → sign x.Colon m' r' → (ls ≡ ls') × (r ≡ r')
one-labels [] ls' ts ts' m m' r r' q h c h' c' = absurd h
one-labels (l ∷ ls) [] ts ts' m m' r r' q h c h' c' = absurd h'
one-labels (l ∷ ls) (l' ∷ ls') ts ts' m m' r r' q (n2, h, hm) c (n2', h', hm') c' =
    let one = one-label l l' ts ts' n2 n2' q h h' (more-over ls n2 m r hm c) (more-over ls' n2' m' r' hm' c') in
    let two = one-more_labels ls ls' n2 n2' m m' r r' one.1 hm c hm' c' in
    ((let i = one.0 in let j = two.0 in cc), two.1)

one-step : (o o' : Option (Expression ℕ)) (ts ts' m m' r r' : List Lexeme) → ts ≡ ts' → step_by o ts m → sign x.Do m r → step_by o' ts' m' → sign x.Do m' r' → (o ≡ o') × (r ≡ r')
one-step None None ts ts' m m' r r' q h c h' c' = (refl, sign-same x.Do m m' r r' (sym h ∙ q ∙ h') c c')
one-step None (Some v) ts ts' m m' r r' q h c (n, w, more) c' = absurd (let bad = sign-two x.Do x.By m ts' r n (sym h ∙ q) c w in cc)
one-step (Some v) None ts ts' m m' r r' q (n, w, more) c h' c' = absurd (let bad = sign-two x.By x.Do ts m' n r' (q ∙ h') w c' in cc)
one-step (Some v) (Some v') ts ts' m m' r r' q (n, w, h) c (n', w', h') c' =
    let both = to-same x.Do v v' n n' m m' r r' (λ a b. closed-sign x.Do a b tt refl) (sign-same x.By ts ts' n n' q w w') h c h' c' in
    (ap Some both.0, both.1)

-- ---- how statements begin

data Shape : Type 0 where
  empties : Shape
  places : Shape
  exits : Shape
  continues : Shape
  returns : Shape
  ifs : Shape
  choices : Shape
  fors : Shape
  whiles : Shape
  repeats : Shape

abbrev shape_at : Option Terminal → Option Shape
shape_at (Some x.Semicolon) = Some empties
shape_at (Some x.Word) = Some places
shape_at (Some x.This) = Some places
shape_at (Some x.Super) = Some places
shape_at (Some x.Exit) = Some exits
shape_at (Some x.Continue) = Some continues
shape_at (Some x.Return) = Some returns
shape_at (Some x.If) = Some ifs
shape_at (Some x.Case) = Some choices
shape_at (Some x.For) = Some fors
shape_at (Some x.While) = Some whiles
shape_at (Some x.Repeat) = Some repeats
shape_at _ = None

abbrev shape : Statement ℕ → Shape
shape (stmt.Empty line) = empties
shape (stmt.Assign line note r s v) = places
shape (stmt.Attempt line note r s v) = places
shape (stmt.Call line note r s xs) = places
shape (stmt.Exit line) = exits
shape (stmt.Continue line) = continues
shape (stmt.Return line) = returns
shape (stmt.If line bs o) = ifs
shape (stmt.Case line v cs o) = choices
shape (stmt.For line note n from to by ss) = fors
shape (stmt.While line v ss) = whiles
shape (stmt.Repeat line ss v) = repeats

shaped-root : (p : Root ℕ) (ts m : List Lexeme) → root p ts m → shape_at (next_terminal ts) ≡ Some places
shaped-root (roots.Name line n) ts m (a, h) = ap shape_at (next-sign x.Word ts m (signed x.Word n ts m h))
shaped-root (roots.This line) ts m (a, h) = ap shape_at (next-sign x.This ts m h)
shaped-root (roots.Super line) ts m (a, h) = ap shape_at (next-sign x.Super ts m h)

shaped : (s : Statement ℕ) (ts r : List Lexeme) → statement s ts r → shape_at (next_terminal ts) ≡ Some (shape s)
shaped (stmt.Empty line) ts r (a, h) = ap shape_at (next-sign x.Semicolon ts r h)
shaped (stmt.Assign line note p s v) ts r (a, (m, (b, (m', h, hs)), more)) = shaped-root p ts m' h
shaped (stmt.Attempt line note p s v) ts r (a, (m, (b, (m', h, hs)), more)) = shaped-root p ts m' h
shaped (stmt.Call line note p s xs) ts r (a, (m, (b, (m', h, hs)), more)) = shaped-root p ts m' h
shaped (stmt.Exit line) ts r (a, (m, h, more)) = ap shape_at (next-sign x.Exit ts m h)
shaped (stmt.Continue line) ts r (a, (m, h, more)) = ap shape_at (next-sign x.Continue ts m h)
shaped (stmt.Return line) ts r (a, (m, h, more)) = ap shape_at (next-sign x.Return ts m h)
shaped (stmt.If line bs o) ts r (a, (m, h, more)) = ap shape_at (next-sign x.If ts m h)
shaped (stmt.Case line v cs o) ts r (a, (m, h, more)) = ap shape_at (next-sign x.Case ts m h)
shaped (stmt.For line note n from to by ss) ts r (a, (m, h, more)) = ap shape_at (next-sign x.For ts m h)
shaped (stmt.While line v ss) ts r (a, (m, h, more)) = ap shape_at (next-sign x.While ts m h)
shaped (stmt.Repeat line ss v) ts r (a, (m, h, more)) = ap shape_at (next-sign x.Repeat ts m h)

shape-same : (s s' : Statement ℕ) (ts ts' r r' : List Lexeme) → ts ≡ ts' → statement s ts r → statement s' ts' r' → Some (shape s) ≡ Some (shape s')
shape-same s s' ts ts' r r' q h h' = sym (shaped s ts r h) ∙ ap (λ w. shape_at (next_terminal w)) q ∙ shaped s' ts' r' h'

-- ---- statements, given their parts

abbrev OneStatement : Statement ℕ → Type 0
OneStatement s = (s' : Statement ℕ) (ts ts' r r' : List Lexeme) → ts ≡ ts' → statement s ts r → statement s' ts' r' → (s ≡ s') × (r ≡ r')

-- where no statement begins
abbrev NoMore : List Lexeme → Type 0
NoMore r = (s : Statement ℕ) (m : List Lexeme) → statement s r m → ⊥

abbrev OneBody : Statements ℕ → Type 0
OneBody ss = (ss' : Statements ℕ) (ts ts' r r' : List Lexeme) → ts ≡ ts' → g.body ss ts r → g.body ss' ts' r' → NoMore r → NoMore r' → (ss ≡ ss') × (r ≡ r')

no_more : (r : List Lexeme) → starts_statement (next_terminal r) ≡ false → NoMore r
no_more r free s m h = let bad : true ≡ false = sym (statement-starts s r m h) ∙ free in cc

pub no_more-sign : (s : Terminal) (m r : List Lexeme) → starts_statement (Some s) ≡ false → sign s m r → NoMore m
no_more-sign s m r free c = no_more m (ap starts_statement (next-sign s m r c) ∙ free)

no_more-label : (r : List Lexeme) → label_at r ≡ true → NoMore r
no_more-label r is s m h = let bad : false ≡ true = sym (statement-no_label s r m h) ∙ is in cc

-- where no branch begins
abbrev Branchless : List Lexeme → Type 0
Branchless r = (starts_statement (next_terminal r) ≡ false) × (next_terminal r ≡ Some x.Elsif → ⊥)

abbrev OneBranches : Branches ℕ → Type 0
OneBranches bs = (bs' : Branches ℕ) (ts ts' r r' : List Lexeme) → ts ≡ ts' → more_branches bs ts r → more_branches bs' ts' r' → Branchless r → Branchless r' → (bs ≡ bs') × (r ≡ r')

abbrev OneFirst : Branches ℕ → Type 0
OneFirst bs = (bs' : Branches ℕ) (ts ts' r r' : List Lexeme) → ts ≡ ts' → first_branch bs ts r → first_branch bs' ts' r' → Branchless r → Branchless r' → (bs ≡ bs') × (r ≡ r')

abbrev OneOtherwise : Otherwise ℕ → Type 0
OneOtherwise o = (s : Terminal) (o' : Otherwise ℕ) (ts ts' m m' r r' : List Lexeme) → (s ≡ x.Else → ⊥) → starts_statement (Some s) ≡ false → ts ≡ ts' → otherwise o ts m → sign s m r → otherwise o' ts' m' → sign s m' r'
    → (o ≡ o') × (r ≡ r')

-- where no label and no statement begins
abbrev Caseless : List Lexeme → Type 0
Caseless r = (starts_statement (next_terminal r) ≡ false) × (label_at r ≡ false)

abbrev OneCases : Cases ℕ → Type 0
OneCases cs = (cs' : Cases ℕ) (ts ts' r r' : List Lexeme) → ts ≡ ts' → cases cs ts r → cases cs' ts' r' → Caseless r → Caseless r' → (cs ≡ cs') × (r ≡ r')

branchless : (o : Otherwise ℕ) (ts m r : List Lexeme) → otherwise o ts m → sign x.EndIf m r → Branchless ts
branchless o ts m r h c = (else-no_statement o x.EndIf ts m r refl h c, else-no_elsif o ts m r h c)

caseless : (o : Otherwise ℕ) (ts m r : List Lexeme) → otherwise o ts m → sign x.EndCase m r → Caseless ts
caseless o ts m r h c = (else-no_statement o x.EndCase ts m r refl h c, else-no_label o ts m r h c)

branches-no_more : (bs : Branches ℕ) (ts r : List Lexeme) → more_branches bs ts r → Branchless r → NoMore ts
branches-no_more no_branches ts r h c = subst NoMore (sym h) (no_more r c.0)
branches-no_more (branch_then v ss bs) ts r (m, w, more) c = no_more-sign x.Elsif ts m refl w

cases-no_more : (cs : Cases ℕ) (ts r : List Lexeme) → cases cs ts r → Caseless r → NoMore ts
cases-no_more no_cases ts r h c = subst NoMore (sym h) (no_more r c.0)
cases-no_more (case_then ls ss cs) ts r (m, hl, (m2, w, more)) c = no_more-label ts (labels-label ls ts m m2 hl w)

-- one branch, and more of them
branch-same : (v v' : Expression ℕ) (ss : Statements ℕ) (bs : Branches ℕ) (ss' : Statements ℕ) (bs' : Branches ℕ) (ts ts' m m2 m3 r m' m2' m3' r' : List Lexeme) → OneBody ss → OneBranches bs → ts ≡ ts'
    → expression v 0 ts m → sign x.Then m m2 → g.body ss m2 m3 → more_branches bs m3 r → expression v' 0 ts' m' → sign x.Then m' m2' → g.body ss' m2' m3' → more_branches bs' m3' r' → Branchless r → Branchless r'
    → (branch_then v ss bs ≡ branch_then v' ss' bs') × (r ≡ r')
branch-same v v' ss bs ss' bs' ts ts' m m2 m3 r m' m2' m3' r' one more q hv w hs hb hv' w' hs' hb' c c' =
    let first = to-same x.Then v v' ts ts' m m' m2 m2' (λ a b. closed-sign x.Then a b tt refl) q hv w hv' w' in
    let second = one ss' m2 m2' m3 m3' first.1 hs hs' (branches-no_more bs m3 r hb c) (branches-no_more bs' m3' r' hb' c') in
    let third = more bs' m3 m3' r r' second.1 hb hb' c c' in
    ((let i = first.0 in let j = second.0 in let k = third.0 in cc), third.1)

one-empty : (line : ℕ) → OneStatement (stmt.Empty line)
one-empty line (stmt.Empty line') ts ts' r r' q (a, h) (a', h') = (ap stmt.Empty (line-same line line' ts ts' q a a'), sign-same x.Semicolon ts ts' r r' q h h')
one-empty line s' ts ts' r r' q h h' = absurd (let bad = shape-same (stmt.Empty line) s' ts ts' r r' q h h' in cc)

one-exit : (line : ℕ) → OneStatement (stmt.Exit line)
one-exit line (stmt.Exit line') ts ts' r r' q (a, (m, h, c)) (a', (m', h', c')) = (ap stmt.Exit (line-same line line' ts ts' q a a'), sign-same x.Semicolon m m' r r' (sign-same x.Exit ts ts' m m' q h h') c c')
one-exit line s' ts ts' r r' q h h' = absurd (let bad = shape-same (stmt.Exit line) s' ts ts' r r' q h h' in cc)

one-continue : (line : ℕ) → OneStatement (stmt.Continue line)
one-continue line (stmt.Continue line') ts ts' r r' q (a, (m, h, c)) (a', (m', h', c')) = (ap stmt.Continue (line-same line line' ts ts' q a a'), sign-same x.Semicolon m m' r r' (sign-same x.Continue ts ts' m m' q h h') c c')
one-continue line s' ts ts' r r' q h h' = absurd (let bad = shape-same (stmt.Continue line) s' ts ts' r r' q h h' in cc)

one-return : (line : ℕ) → OneStatement (stmt.Return line)
one-return line (stmt.Return line') ts ts' r r' q (a, (m, h, c)) (a', (m', h', c')) = (ap stmt.Return (line-same line line' ts ts' q a a'), sign-same x.Semicolon m m' r r' (sign-same x.Return ts ts' m m' q h h') c c')
one-return line s' ts ts' r r' q h h' = absurd (let bad = shape-same (stmt.Return line) s' ts ts' r r' q h h' in cc)

-- a place and a value
valued-same : (s : Terminal) (note note' : ℕ) (p p' : Root ℕ) (z z' : Selectors ℕ) (v v' : Expression ℕ) (ts ts' m m' m2 m2' m3 m3' r r' : List Lexeme)
    → ((ts rest : List Lexeme) → sign s ts rest → NoSelector ts) → ts ≡ ts' → Noted note p z ts m → sign s m m2 → expression v 0 m2 m3 → sign x.Semicolon m3 r → Noted note' p' z' ts' m' → sign s m' m2' → expression v' 0 m2' m3' → sign x.Semicolon m3' r'
    → SamePlace note note' p p' z z' × (v ≡ v') × (r ≡ r')
valued-same s note note' p p' z z' v v' ts ts' m m' m2 m2' m3 m3' r r' free q hp w hv c hp' w' hv' c' =
    let first = place-same note note' p p' z z' ts ts' m m' q hp hp' (free m m2 w) (free m' m2' w') in
    let second = to-same x.Semicolon v v' m2 m2' m3 m3' r r' (λ a b. closed-sign x.Semicolon a b tt refl) (sign-same s m m' m2 m2' first.1 w w') hv c hv' c' in
    (first.0, second.0, second.1)

-- places with different terminals behind them
place-two : (s s' : Terminal) (note note' : ℕ) (p p' : Root ℕ) (z z' : Selectors ℕ) (ts ts' m m' m2 m2' : List Lexeme) → IsNoSelector s → IsNoSelector s' → ts ≡ ts' → Noted note p z ts m → sign s m m2 → Noted note' p' z' ts' m' → sign s' m' m2' → s ≡ s'
place-two s s' note note' p p' z z' ts ts' m m' m2 m2' n n' q hp w hp' w' =
    sign-two s s' m m' m2 m2' (place-same note note' p p' z z' ts ts' m m' q hp hp' (selector-sign s m m2 n w) (selector-sign s' m' m2' n' w')).1 w w'

one-assign : (line note : ℕ) (p : Root ℕ) (z : Selectors ℕ) (v : Expression ℕ) → OneStatement (stmt.Assign line note p z v)
one-assign line note p z v (stmt.Assign line' note' p' z' v') ts ts' r r' q (a, (m, hp, (m2, w, (m3, hv, c)))) (a', (m', hp', (m2', w', (m3', hv', c')))) =
    let all = valued-same x.Assign note note' p p' z z' v v' ts ts' m m' m2 m2' m3 m3' r r' (λ a b. selector-sign x.Assign a b tt) q hp w hv c hp' w' hv' c' in
    ((let i = line-same line line' ts ts' q a a' in let j = all.0.0 in let k = all.0.1 in let l = all.0.2 in let n = all.1 in cc), all.2)
one-assign line note p z v (stmt.Attempt line' note' p' z' v') ts ts' r r' q (a, (m, hp, (m2, w, more))) (a', (m', hp', (m2', w', more'))) =
    absurd (let bad = place-two x.Assign x.Attempt note note' p p' z z' ts ts' m m' m2 m2' tt tt q hp w hp' w' in cc)
one-assign line note p z v (stmt.Call line' note' p' z' xs') ts ts' r r' q (a, (m, hp, (m2, w, more))) (a', (m', hp', (m2', w', more'))) =
    absurd (let bad = place-two x.Assign x.Open note note' p p' z z' ts ts' m m' m2 m2' tt tt q hp w hp' w' in cc)
one-assign line note p z v s' ts ts' r r' q h h' = absurd (let bad = shape-same (stmt.Assign line note p z v) s' ts ts' r r' q h h' in cc)

one-attempt : (line note : ℕ) (p : Root ℕ) (z : Selectors ℕ) (v : Expression ℕ) → OneStatement (stmt.Attempt line note p z v)
one-attempt line note p z v (stmt.Attempt line' note' p' z' v') ts ts' r r' q (a, (m, hp, (m2, w, (m3, hv, c)))) (a', (m', hp', (m2', w', (m3', hv', c')))) =
    let all = valued-same x.Attempt note note' p p' z z' v v' ts ts' m m' m2 m2' m3 m3' r r' (λ a b. selector-sign x.Attempt a b tt) q hp w hv c hp' w' hv' c' in
    ((let i = line-same line line' ts ts' q a a' in let j = all.0.0 in let k = all.0.1 in let l = all.0.2 in let n = all.1 in cc), all.2)
one-attempt line note p z v (stmt.Assign line' note' p' z' v') ts ts' r r' q (a, (m, hp, (m2, w, more))) (a', (m', hp', (m2', w', more'))) =
    absurd (let bad = place-two x.Attempt x.Assign note note' p p' z z' ts ts' m m' m2 m2' tt tt q hp w hp' w' in cc)
one-attempt line note p z v (stmt.Call line' note' p' z' xs') ts ts' r r' q (a, (m, hp, (m2, w, more))) (a', (m', hp', (m2', w', more'))) =
    absurd (let bad = place-two x.Attempt x.Open note note' p p' z z' ts ts' m m' m2 m2' tt tt q hp w hp' w' in cc)
one-attempt line note p z v s' ts ts' r r' q h h' = absurd (let bad = shape-same (stmt.Attempt line note p z v) s' ts ts' r r' q h h' in cc)

one-call : (line note : ℕ) (p : Root ℕ) (z : Selectors ℕ) (xs : Arguments ℕ) → OneStatement (stmt.Call line note p z xs)
one-call line note p z xs (stmt.Call line' note' p' z' xs') ts ts' r r' q (a, (m, hp, (m2, w, (m3, ha, (m4, hc, c))))) (a', (m', hp', (m2', w', (m3', ha', (m4', hc', c'))))) =
    let first = place-same note note' p p' z z' ts ts' m m' q hp hp' (selector-sign x.Open m m2 tt w) (selector-sign x.Open m' m2' tt w') in
    let second = arguments-same xs xs' m2 m2' m3 m3' m4 m4' (sign-same x.Open m m' m2 m2' first.1 w w') ha hc ha' hc' in
    ((let i = line-same line line' ts ts' q a a' in let j = first.0.0 in let k = first.0.1 in let l = first.0.2 in let n = second.0 in cc), sign-same x.Semicolon m4 m4' r r' second.1 c c')
one-call line note p z xs (stmt.Assign line' note' p' z' v') ts ts' r r' q (a, (m, hp, (m2, w, more))) (a', (m', hp', (m2', w', more'))) =
    absurd (let bad = place-two x.Open x.Assign note note' p p' z z' ts ts' m m' m2 m2' tt tt q hp w hp' w' in cc)
one-call line note p z xs (stmt.Attempt line' note' p' z' v') ts ts' r r' q (a, (m, hp, (m2, w, more))) (a', (m', hp', (m2', w', more'))) =
    absurd (let bad = place-two x.Open x.Attempt note note' p p' z z' ts ts' m m' m2 m2' tt tt q hp w hp' w' in cc)
one-call line note p z xs s' ts ts' r r' q h h' = absurd (let bad = shape-same (stmt.Call line note p z xs) s' ts ts' r r' q h h' in cc)

one-if : (line : ℕ) (bs : Branches ℕ) (o : Otherwise ℕ) → OneFirst bs → OneOtherwise o → OneStatement (stmt.If line bs o)
one-if line bs o first other (stmt.If line' bs' o') ts ts' r r' q (a, (m, h, (m2, hb, (m3, ho, c)))) (a', (m', h', (m2', hb', (m3', ho', c')))) =
    let one = first bs' m m' m2 m2' (sign-same x.If ts ts' m m' q h h') hb hb' (branchless o m2 m3 r ho c) (branchless o' m2' m3' r' ho' c') in
    let two = other x.EndIf o' m2 m2' m3 m3' r r' (λ e. cc) refl one.1 ho c ho' c' in
    ((let i = line-same line line' ts ts' q a a' in let j = one.0 in let k = two.0 in cc), two.1)
one-if line bs o first other s' ts ts' r r' q h h' = absurd (let bad = shape-same (stmt.If line bs o) s' ts ts' r r' q h h' in cc)

one-case : (line : ℕ) (v : Expression ℕ) (cs : Cases ℕ) (o : Otherwise ℕ) → OneCases cs → OneOtherwise o → OneStatement (stmt.Case line v cs o)
one-case line v cs o every other (stmt.Case line' v' cs' o') ts ts' r r' q (a, (m, h, (m2, hv, (m3, w, (m4, hc, (m5, ho, c)))))) (a', (m', h', (m2', hv', (m3', w', (m4', hc', (m5', ho', c')))))) =
    let zero = to-same x.Of v v' m m' m2 m2' m3 m3' (λ a b. closed-sign x.Of a b tt refl) (sign-same x.Case ts ts' m m' q h h') hv w hv' w' in
    let one = every cs' m3 m3' m4 m4' zero.1 hc hc' (caseless o m4 m5 r ho c) (caseless o' m4' m5' r' ho' c') in
    let two = other x.EndCase o' m4 m4' m5 m5' r r' (λ e. cc) refl one.1 ho c ho' c' in
    ((let i = line-same line line' ts ts' q a a' in let j = zero.0 in let k = one.0 in let l = two.0 in cc), two.1)
one-case line v cs o every other s' ts ts' r r' q h h' = absurd (let bad = shape-same (stmt.Case line v cs o) s' ts ts' r r' q h h' in cc)

one-for : (line note : ℕ) (n : List ℕ) (from to : Expression ℕ) (by : Option (Expression ℕ)) (ss : Statements ℕ) → OneBody ss → OneStatement (stmt.For line note n from to by ss)
one-for line note n from to by ss one (stmt.For line' note' n' from' to' by' ss') ts ts' r r' q (a, (m, h, (m2, (b, hn), (m3, w, (m4, hf, (m5, z, (m6, ht, (m7, hb, (m8, d, (m9, hs, c)))))))))) (a', (m', h', (m2', (b', hn'), (m3', w', (m4', hf', (m5', z', (m6', ht', (m7', hb', (m8', d', (m9', hs', c')))))))))) =
    let start = sign-same x.For ts ts' m m' q h h' in
    let name' = spelled-same x.Word n n' m m' m2 m2' start hn hn' in
    let from' = to-same x.To from from' m3 m3' m4 m4' m5 m5' (λ a b. closed-sign x.To a b tt refl) (sign-same x.Assign m2 m2' m3 m3' name'.1 w w') hf z hf' z' in
    let to' = expression-same to to' m5 m5' m6 m6' from'.1 ht ht' (step-closed by m6 m7 m8 hb d) (step-closed by' m6' m7' m8' hb' d') in
    let by' = one-step by by' m6 m6' m7 m7' m8 m8' to'.1 hb d hb' d' in
    let body' = one ss' m8 m8' m9 m9' by'.1 hs hs' (no_more-sign x.EndFor m9 r refl c) (no_more-sign x.EndFor m9' r' refl c') in
    ((let i = line-same line line' ts ts' q a a' in let j = line-same note note' m m' start b b' in let k = name'.0 in let l = from'.0 in let o = to'.0 in let p = by'.0 in let s = body'.0 in cc), sign-same x.EndFor m9 m9' r r' body'.1 c c')
one-for line note n from to by ss one s' ts ts' r r' q h h' = absurd (let bad = shape-same (stmt.For line note n from to by ss) s' ts ts' r r' q h h' in cc)

one-while : (line : ℕ) (v : Expression ℕ) (ss : Statements ℕ) → OneBody ss → OneStatement (stmt.While line v ss)
one-while line v ss one (stmt.While line' v' ss') ts ts' r r' q (a, (m, h, (m2, hv, (m3, d, (m4, hs, c))))) (a', (m', h', (m2', hv', (m3', d', (m4', hs', c'))))) =
    let first = to-same x.Do v v' m m' m2 m2' m3 m3' (λ a b. closed-sign x.Do a b tt refl) (sign-same x.While ts ts' m m' q h h') hv d hv' d' in
    let second = one ss' m3 m3' m4 m4' first.1 hs hs' (no_more-sign x.EndWhile m4 r refl c) (no_more-sign x.EndWhile m4' r' refl c') in
    ((let i = line-same line line' ts ts' q a a' in let j = first.0 in let k = second.0 in cc), sign-same x.EndWhile m4 m4' r r' second.1 c c')
one-while line v ss one s' ts ts' r r' q h h' = absurd (let bad = shape-same (stmt.While line v ss) s' ts ts' r r' q h h' in cc)

one-repeat : (line : ℕ) (ss : Statements ℕ) (v : Expression ℕ) → OneBody ss → OneStatement (stmt.Repeat line ss v)
one-repeat line ss v one (stmt.Repeat line' ss' v') ts ts' r r' q (a, (m, h, (m2, hs, (m3, z, (m4, hv, c))))) (a', (m', h', (m2', hs', (m3', z', (m4', hv', c'))))) =
    let first = one ss' m m' m2 m2' (sign-same x.Repeat ts ts' m m' q h h') hs hs' (no_more-sign x.Until m2 m3 refl z) (no_more-sign x.Until m2' m3' refl z') in
    let second = to-same x.EndRepeat v v' m3 m3' m4 m4' r r' (λ a b. closed-sign x.EndRepeat a b tt refl) (sign-same x.Until m2 m2' m3 m3' first.1 z z') hv c hv' c' in
    ((let i = line-same line line' ts ts' q a a' in let j = first.0 in let k = second.0 in cc), second.1)
one-repeat line ss v one s' ts ts' r r' q h h' = absurd (let bad = shape-same (stmt.Repeat line ss v) s' ts ts' r r' q h h' in cc)

mutual
  one-statement : (s : Statement ℕ) → OneStatement s
  one-statement (stmt.Empty line) = one-empty line
  one-statement (stmt.Assign line note p z v) = one-assign line note p z v
  one-statement (stmt.Attempt line note p z v) = one-attempt line note p z v
  one-statement (stmt.Call line note p z xs) = one-call line note p z xs
  one-statement (stmt.Exit line) = one-exit line
  one-statement (stmt.Continue line) = one-continue line
  one-statement (stmt.Return line) = one-return line
  one-statement (stmt.If line bs o) = one-if line bs o (one-first bs) (one-otherwise o)
  one-statement (stmt.Case line v cs o) = one-case line v cs o (one-cases cs) (one-otherwise o)
  one-statement (stmt.For line note n from to by ss) = one-for line note n from to by ss (one-body ss)
  one-statement (stmt.While line v ss) = one-while line v ss (one-body ss)
  one-statement (stmt.Repeat line ss v) = one-repeat line ss v (one-body ss)

  pub one-body : (ss : Statements ℕ) → OneBody ss
  one-body no_statements no_statements ts ts' r r' q h h' c c' = (refl, sym h ∙ q ∙ h')
  one-body no_statements (statement_then s ss) ts ts' r r' q h (m, hs, more) c c' = absurd (c s m (subst (λ w. statement s w m) (sym q ∙ h) hs))
  one-body (statement_then s ss) no_statements ts ts' r r' q (m, hs, more) h' c c' = absurd (c' s m (subst (λ w. statement s w m) (q ∙ h') hs))
  one-body (statement_then s ss) (statement_then s' ss') ts ts' r r' q (m, h, hs) (m', h', hs') c c' =
      let first = one-statement s s' ts ts' m m' q h h' in
      let second = one-body ss ss' m m' r r' first.1 hs hs' c c' in
      ((let i = first.0 in let j = second.0 in cc), second.1)

  one-first : (bs : Branches ℕ) → OneFirst bs
  one-first no_branches bs' ts ts' r r' q h h' c c' = absurd h
  one-first (branch_then v ss bs) no_branches ts ts' r r' q h h' c c' = absurd h'
  one-first (branch_then v ss bs) (branch_then v' ss' bs') ts ts' r r' q (m, hv, (m2, w, (m3, hs, hb))) (m', hv', (m2', w', (m3', hs', hb'))) c c' =
      branch-same v v' ss bs ss' bs' ts ts' m m2 m3 r m' m2' m3' r' (one-body ss) (one-branches bs) q hv w hs hb hv' w' hs' hb' c c'

  one-branches : (bs : Branches ℕ) → OneBranches bs
  one-branches no_branches no_branches ts ts' r r' q h h' c c' = (refl, sym h ∙ q ∙ h')
  one-branches no_branches (branch_then v ss bs) ts ts' r r' q h (m, w, more) c c' = absurd (c.1 (ap next_terminal (sym h ∙ q) ∙ next-sign x.Elsif ts' m w))
  one-branches (branch_then v ss bs) no_branches ts ts' r r' q (m, w, more) h' c c' = absurd (c'.1 (ap next_terminal (sym h' ∙ sym q) ∙ next-sign x.Elsif ts m w))
  one-branches (branch_then v ss bs) (branch_then v' ss' bs') ts ts' r r' q (m0, z, (m, hv, (m2, w, (m3, hs, hb)))) (m0', z', (m', hv', (m2', w', (m3', hs', hb')))) c c' =
      branch-same v v' ss bs ss' bs' m0 m0' m m2 m3 r m' m2' m3' r' (one-body ss) (one-branches bs) (sign-same x.Elsif ts ts' m0 m0' q z z') hv w hs hb hv' w' hs' hb' c c'

  one-otherwise : (o : Otherwise ℕ) → OneOtherwise o
  one-otherwise stmt.Nothing s stmt.Nothing ts ts' m m' r r' other free q h c h' c' = (refl, sign-same s m m' r r' (sym h ∙ q ∙ h') c c')
  one-otherwise stmt.Nothing s (stmt.Else ss) ts ts' m m' r r' other free q h c (n, w, more) c' = absurd (other (sign-two s x.Else m ts' r n (sym h ∙ q) c w))
  one-otherwise (stmt.Else ss) s stmt.Nothing ts ts' m m' r r' other free q (n, w, more) c h' c' = absurd (other (sym (sign-two x.Else s ts m' n r' (q ∙ h') w c')))
  one-otherwise (stmt.Else ss) s (stmt.Else ss') ts ts' m m' r r' other free q (n, w, hs) c (n', w', hs') c' =
      let both = one-body ss ss' n n' m m' (sign-same x.Else ts ts' n n' q w w') hs hs' (no_more-sign s m r free c) (no_more-sign s m' r' free c') in
      (ap stmt.Else both.0, sign-same s m m' r r' both.1 c c')

  one-cases : (cs : Cases ℕ) → OneCases cs
  one-cases no_cases no_cases ts ts' r r' q h h' c c' = (refl, sym h ∙ q ∙ h')
  one-cases no_cases (case_then ls ss cs) ts ts' r r' q h (m, hl, (m2, w, more)) c c' =
      absurd (let bad : false ≡ true = sym c.1 ∙ ap label_at (sym h ∙ q) ∙ labels-label ls ts' m m2 hl w in cc)
  one-cases (case_then ls ss cs) no_cases ts ts' r r' q (m, hl, (m2, w, more)) h' c c' =
      absurd (let bad : false ≡ true = sym c'.1 ∙ ap label_at (sym h' ∙ sym q) ∙ labels-label ls ts m m2 hl w in cc)
  one-cases (case_then ls ss cs) (case_then ls' ss' cs') ts ts' r r' q (m, hl, (m2, w, (m3, hs, hc))) (m', hl', (m2', w', (m3', hs', hc'))) c c' =
      let first = one-labels ls ls' ts ts' m m' m2 m2' q hl w hl' w' in
      let second = one-body ss ss' m2 m2' m3 m3' first.1 hs hs' (cases-no_more cs m3 r hc c) (cases-no_more cs' m3' r' hc' c') in
      let third = one-cases cs cs' m3 m3' r r' second.1 hc hc' c c' in
      ((let i = first.0 in let j = second.0 in let k = third.0 in cc), third.1)

-- lexemes spell at most one list of statements
pub statements-one : (ts : List Lexeme) (ss ss' : Statements ℕ) → g.body ss ts [] → g.body ss' ts [] → ss ≡ ss'
statements-one ts ss ss' h h' = (one-body ss ss' ts ts [] [] refl h h' (no_more [] refl) (no_more [] refl)).0
