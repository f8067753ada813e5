-- What the functions over statements and initial values promise.
use Rattle.std.specs.Prelude.{◌≡◌, ℕ, ◌≤◌, Bool, true, false, ◌&&◌, List, [], ◌∷◌, Option, Some, length, drop, refl}
use Rattle.st_tree.specs.declared.terminal.Terminal.{Terminal}
use Rattle.st_tree.specs.declared.terminal.Terminal.TheVariants as x
use Rattle.std.specs.Option.{option_map}
use Rattle.st_tree.specs.Grammar as g
use Rattle.st_tree.specs.Grammar.{Lexeme, Phrase, ◌⋆◌}
use Rattle.st_tree.specs.Expression.{expression_of}
use Rattle.st_tree.specs.Initial.{Initial}
use Rattle.st_parser_stmt.specs.declared.statement.Control.{Control}
use Rattle.st_parser_expr.specs.declared.stop.Stop.{Stop}
use Rattle.st_parser_expr.specs.declared.stop.Stop.TheVariants.{Left, NoMemory}
use Rattle.st_parser_expr.specs.Private.Machine as e
use Rattle.st_parser_expr.specs.Private.Promises.{next_terminal}
use Rattle.st_parser_stmt.specs.Private.Machine.{Ender, branches_end, until, Quiet, IsNoStatement, State, inside, need, word_next, body, statement_next, behind_place, by_or_do, branch_next, otherwise_next, first_case, case_body, const_next, behind_label, label_more, init_next, fields_more, part_next, parts_more, machine}

-- ---- how lexemes begin

abbrev pub starts_statement : Option Terminal → Bool
starts_statement (Some x.Semicolon) = true
starts_statement (Some x.Word) = true
starts_statement (Some x.This) = true
starts_statement (Some x.Super) = true
starts_statement (Some x.Exit) = true
starts_statement (Some x.Continue) = true
starts_statement (Some x.Return) = true
starts_statement (Some x.If) = true
starts_statement (Some x.Case) = true
starts_statement (Some x.For) = true
starts_statement (Some x.While) = true
starts_statement (Some x.Repeat) = true
starts_statement _ = false

-- with which a statement begins that may hold others
abbrev pub is_nested : Option Terminal → Bool
is_nested (Some x.If) = true
is_nested (Some x.Case) = true
is_nested (Some x.For) = true
is_nested (Some x.While) = true
is_nested (Some x.Repeat) = true
is_nested _ = false

abbrev pub is_jump : Option Terminal → Bool
is_jump (Some x.Exit) = true
is_jump (Some x.Continue) = true
is_jump (Some x.Return) = true
is_jump _ = false

-- what stands behind the place of a statement
abbrev pub is_behind_place : Option Terminal → Bool
is_behind_place (Some x.Assign) = true
is_behind_place (Some x.Attempt) = true
is_behind_place (Some x.Open) = true
is_behind_place _ = false

abbrev pub starts_const : Option Terminal → Bool
starts_const (Some x.Int) = true
starts_const (Some x.Minus) = true
starts_const (Some (x.Kind k)) = true
starts_const (Some x.Word) = true
starts_const _ = false

-- what stands behind a label
abbrev pub ends_const : Option Terminal → Bool
ends_const (Some x.Range) = true
ends_const (Some x.Comma) = true
ends_const (Some x.Colon) = true
ends_const _ = false

abbrev pub is_word : Option Terminal → Bool
is_word (Some x.Word) = true
is_word _ = false

-- whether a name before these begins a label
abbrev pub label_behind : Option Terminal → Option Terminal → Option Terminal → Bool
label_behind (Some x.Hash) b c = true
label_behind (Some x.Dot) b c = is_word b && ends_const c
label_behind a b c = ends_const a

abbrev pub label_by : Option Terminal → Option Terminal → Option Terminal → Option Terminal → Bool
label_by (Some x.Int) a b c = true
label_by (Some x.Minus) a b c = true
label_by (Some (x.Kind k)) a b c = true
label_by (Some x.Word) a b c = label_behind a b c
label_by _ a b c = false

-- whether a label comes next, and no statement
abbrev pub label_at : List Lexeme → Bool
label_at ts = label_by (next_terminal ts) (next_terminal (drop 1 ts)) (next_terminal (drop 2 ts)) (next_terminal (drop 3 ts))

-- ---- phrases

-- where this is wanted, it stops, unless memory runs out
abbrev pub Fails : (State → State) → List Lexeme → Stop → Type 0
Fails wanted ts (Left n) = (K : State) → machine (wanted K) ts ≡ (false, n)
Fails wanted ts NoMemory = Unit {0}

-- ts, up to rest, are the phrase, and the machine goes from the one to the other
pub record Parses (P : Phrase) (wanted later : State → State) (ts rest : List Lexeme) : Type 0 where
  pub spelled : P ts rest
  pub passes : (K : State) → machine (wanted K) ts ≡ machine (later K) rest
  pub shorter : length rest ≤ length ts

abbrev pub same : State → State
same K = K

abbrev pub for_expression : State → State
for_expression K = inside e.start ∷ K

abbrev pub for_arguments : State → State
for_arguments K = inside (e.first_argument ∷ []) ∷ K

abbrev pub for_literal : State → State
for_literal K = inside (e.literal_next ∷ []) ∷ K

abbrev pub for_word : State → State
for_word K = word_next ∷ K

abbrev pub for_statement : State → State
for_statement K = statement_next ∷ K

abbrev pub for_placed : State → State
for_placed K = behind_place ∷ K

abbrev pub for_body : Ender → State → State
for_body b K = body b ∷ K

abbrev pub for_const : State → State
for_const K = const_next ∷ K

abbrev pub for_label : State → State
for_label K = const_next ∷ behind_label ∷ K

abbrev pub for_more_labels : State → State
for_more_labels K = label_more ∷ K

abbrev pub for_case_body : State → State
for_case_body K = case_body ∷ K

abbrev pub for_cases : State → State
for_cases K = first_case ∷ K

abbrev pub for_case_end : State → State
for_case_end K = otherwise_next x.EndCase tt (refl, tt) ∷ K

abbrev pub for_branch : State → State
for_branch K = branch_next ∷ K

-- the terminal, which goes on with no expression
abbrev pub ReadsSign : Phrase → Terminal → List Lexeme → List Lexeme → Type 0
ReadsSign P s ts rest = (q : Quiet s) → Parses P (λ K. need s q ∷ K) same ts rest

abbrev pub SignFails : Terminal → List Lexeme → Stop → Type 0
SignFails s ts stop = (q : Quiet s) → Fails (λ K. need s q ∷ K) ts stop

-- statements, whatever ends them
abbrev pub ReadsBody : Phrase → List Lexeme → List Lexeme → Type 0
ReadsBody P ts rest = (b : Ender) → Parses P (for_body b) (for_body b) ts rest

abbrev pub BodyFails : List Lexeme → Stop → Type 0
BodyFails ts stop = (b : Ender) → Fails (for_body b) ts stop

-- up to this terminal, with which no statement begins
abbrev pub ReadsOtherwise : Phrase → Terminal → List Lexeme → List Lexeme → Type 0
ReadsOtherwise P s ts rest = (free : IsNoStatement s) (q : Quiet s) → Parses P (λ K. otherwise_next s free q ∷ K) same ts rest

abbrev pub OtherwiseFails : Terminal → List Lexeme → Stop → Type 0
OtherwiseFails s ts stop = (free : IsNoStatement s) (q : Quiet s) → Fails (λ K. otherwise_next s free q ∷ K) ts stop

-- an expression and this terminal
abbrev pub ReadsThen : Phrase → Terminal → List Lexeme → List Lexeme → Type 0
ReadsThen P s ts rest = (q : Quiet s) → Parses P (λ K. inside e.start ∷ need s q ∷ K) same ts rest

abbrev pub ThenFails : Terminal → List Lexeme → Stop → Type 0
ThenFails s ts stop = (q : Quiet s) → Fails (λ K. inside e.start ∷ need s q ∷ K) ts stop

-- statements and this terminal
abbrev pub ReadsUntil : Phrase → Terminal → List Lexeme → List Lexeme → Type 0
ReadsUntil P s ts rest = (free : IsNoStatement s) (q : Quiet s) → Parses P (λ K. body (until s free q) ∷ K) same ts rest

abbrev pub UntilFails : Terminal → List Lexeme → Stop → Type 0
UntilFails s ts stop = (free : IsNoStatement s) (q : Quiet s) → Fails (λ K. body (until s free q) ∷ K) ts stop

-- a branch of an IF, from its condition on
abbrev pub for_condition : State → State
for_condition K = inside e.start ∷ need x.Then (refl, tt) ∷ body branches_end ∷ K

-- where the branch of a CASE ends: no statement begins there that is no label
abbrev pub Ends : List Lexeme → Type 0
Ends ts = label_at ts ≡ false → starts_statement (next_terminal ts) ≡ false

-- the head of a FOR, from its name on
abbrev pub for_control : State → State
for_control K = word_next ∷ need x.Assign (refl, tt) ∷ inside e.start ∷ need x.To (refl, tt) ∷ inside e.start ∷ by_or_do ∷ K

abbrev pub for_turns : State → State
for_turns K = body (until x.EndFor tt (refl, tt)) ∷ K

abbrev pub for_step : State → State
for_step K = by_or_do ∷ K

abbrev pub Controlled : Control → Phrase
Controlled c =
    g.at c.note (g.word c.name) ⋆ g.sign x.Assign ⋆ g.expression (expression_of c.from) 0 ⋆ g.sign x.To ⋆ g.expression (expression_of c.to) 0 ⋆ g.step_by (option_map expression_of c.by) ⋆ g.sign x.Do

-- ---- initial values

abbrev pub is_assign : Option Terminal → Bool
is_assign (Some x.Assign) = true
is_assign _ = false

abbrev pub fields_by : Option Terminal → Option Terminal → Option Terminal → Bool
fields_by (Some x.Open) b c = is_word b && is_assign c
fields_by _ b c = false

-- whether a list of fields comes next: `(`, a name and `:=`
abbrev pub fields_at : List Lexeme → Bool
fields_at ts = fields_by (next_terminal ts) (next_terminal (drop 1 ts)) (next_terminal (drop 2 ts))

abbrev pub is_open : Option Terminal → Bool
is_open (Some x.Open) = true
is_open _ = false

abbrev pub repetition_by : Option Terminal → Option Terminal → Bool
repetition_by (Some x.Int) b = is_open b
repetition_by _ b = false

-- whether a repetition comes next: an int and `(`
abbrev pub repetition_at : List Lexeme → Bool
repetition_at ts = repetition_by (next_terminal ts) (next_terminal (drop 1 ts))

abbrev pub for_initial : State → State
for_initial K = init_next ∷ K

abbrev pub for_field : State → State
for_field K = word_next ∷ need x.Assign (refl, tt) ∷ init_next ∷ fields_more ∷ K

abbrev pub for_more_fields : State → State
for_more_fields K = fields_more ∷ K

abbrev pub for_part : State → State
for_part K = part_next ∷ K

abbrev pub for_parts : State → State
for_parts K = part_next ∷ parts_more ∷ K

abbrev pub for_more_parts : State → State
for_more_parts K = parts_more ∷ K

-- name ":=" init
abbrev pub Fielded : ℕ → List ℕ → Initial ℕ → Phrase
Fielded line n i = g.at line (g.word n) ⋆ g.sign x.Assign ⋆ g.initial i
