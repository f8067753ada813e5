-- What may follow in statements and initial values: a stack of what is still wanted, from the top. What an expression, a place or
-- arguments want is one want that holds their own stack, and gives way where that wants nothing more.
use Rattle.std.specs.Prelude.{◌≡◌, suc, Bool, true, false, ◌&&◌, List, [], ◌∷◌, Option, Some, None, length, refl}
use Rattle.st_tree.specs.declared.terminal.Terminal.{Terminal}
use Rattle.st_tree.specs.declared.terminal.Terminal.TheVariants as x
use Rattle.st_tree.specs.Grammar.{Lexeme, operator_of}
use Rattle.st_parser_expr.specs.Private.Machine as e
use Rattle.st_parser_expr.specs.Private.Machine.{IsNoSelector, Ending}
use Rattle.st_parser_stmt.specs.Private.Numbers.{same_terminal}

-- a terminal with which an expression does not go on
abbrev pub Quiet : Terminal → Type 0
Quiet t = (operator_of t ≡ None) × IsNoSelector t

-- a terminal with which no statement begins
abbrev pub IsNoStatement : Terminal → Type 0
IsNoStatement x.Semicolon = ⊥
IsNoStatement x.Word = ⊥
IsNoStatement x.This = ⊥
IsNoStatement x.Super = ⊥
IsNoStatement x.Exit = ⊥
IsNoStatement x.Continue = ⊥
IsNoStatement x.Return = ⊥
IsNoStatement x.If = ⊥
IsNoStatement x.Case = ⊥
IsNoStatement x.For = ⊥
IsNoStatement x.While = ⊥
IsNoStatement x.Repeat = ⊥
IsNoStatement _ = Unit {0}

-- what stands behind the statements of a body
pub data Ender : Type 0 where
  -- ELSIF, ELSE or END_IF
  branches_end : Ender
  -- this terminal
  until : (s : Terminal) → IsNoStatement s → Quiet s → Ender

pub data Want : Type 0 where
  -- what the machine of expressions wants
  inside : e.State → Want
  need : (s : Terminal) → Quiet s → Want
  -- statements as long as they come, and what ends them
  body : Ender → Want
  statement_next : Want
  -- `:=` or `?=` and a value, or arguments
  behind_place : Want
  -- BY and a step, or DO
  by_or_do : Want
  -- ELSIF, ELSE or END_IF
  branch_next : Want
  -- ELSE and statements, or this terminal
  otherwise_next : (s : Terminal) → IsNoStatement s → Quiet s → Want
  -- a label, or the end of CASE
  first_case : Want
  -- statements of a branch of CASE, a label, or the end of CASE
  case_body : Want
  -- the same, where a name was read, a name and `.`, a name, `.` and a name
  case_word : Want
  case_dot : Want
  case_field : Want
  const_next : Want
  -- `#` or `.` and a name, or nothing
  const_tail : Want
  -- `..`, a comma or a colon
  behind_label : Want
  label_more : Want
  -- an initial value; behind `(`, and behind `(` and a name, where one may begin
  init_next : Want
  init_open : Want
  init_word : Want
  fields_more : Want
  -- a part of a list; behind an int that may count one
  part_next : Want
  part_int : Want
  parts_more : Want

abbrev pub State : Type 0
State = List Want

abbrev pub word_next : Want
word_next = need x.Word (refl, tt)

abbrev pub on_need : Bool → State → Option State
on_need true K = Some K
on_need false K = None

-- the machine of expressions goes on, or gives way where it wants nothing more
abbrev pub on_inside : Option e.State → Bool → State → Option State → Option State
on_inside (Some k) b K other = Some (inside k ∷ K)
on_inside None true K other = other
on_inside None false K other = None

abbrev pub place_state : e.State
place_state = e.selecting e.elsewhere ∷ []

abbrev pub on_statement : Terminal → State → Option State → Option State
on_statement x.Semicolon K other = Some K
on_statement x.Word K other = Some (inside place_state ∷ behind_place ∷ K)
on_statement x.This K other = Some (inside place_state ∷ behind_place ∷ K)
on_statement x.Super K other = Some (inside place_state ∷ behind_place ∷ K)
on_statement x.Exit K other = Some (need x.Semicolon (refl, tt) ∷ K)
on_statement x.Continue K other = Some (need x.Semicolon (refl, tt) ∷ K)
on_statement x.Return K other = Some (need x.Semicolon (refl, tt) ∷ K)
on_statement x.If K other = Some (inside e.start ∷ need x.Then (refl, tt) ∷ body branches_end ∷ K)
on_statement x.Case K other = Some (inside e.start ∷ need x.Of (refl, tt) ∷ first_case ∷ K)
on_statement x.For K other = Some (word_next ∷ need x.Assign (refl, tt) ∷ inside e.start ∷ need x.To (refl, tt) ∷ inside e.start ∷ by_or_do ∷ K)
on_statement x.While K other = Some (inside e.start ∷ need x.Do (refl, tt) ∷ body (until x.EndWhile tt (refl, tt)) ∷ K)
on_statement x.Repeat K other = Some (body (until x.Until tt (refl, tt)) ∷ inside e.start ∷ need x.EndRepeat (refl, tt) ∷ K)
on_statement _ K other = other

abbrev pub on_otherwise : (s : Terminal) → IsNoStatement s → Quiet s → Terminal → State → Option State
on_otherwise s free q x.Else K = Some (body (until s free q) ∷ K)
on_otherwise s free q t K = on_need (same_terminal s t) K

abbrev pub on_branch : Terminal → State → Option State
on_branch x.Elsif K = Some (inside e.start ∷ need x.Then (refl, tt) ∷ body branches_end ∷ K)
on_branch t K = on_otherwise x.EndIf tt (refl, tt) t K

abbrev pub on_ender : Ender → Terminal → State → Option State
on_ender branches_end t K = on_branch t K
on_ender (until s free q) t K = on_need (same_terminal s t) K

abbrev pub on_placed : Terminal → State → Option State
on_placed x.Assign K = Some (inside e.start ∷ need x.Semicolon (refl, tt) ∷ K)
on_placed x.Attempt K = Some (inside e.start ∷ need x.Semicolon (refl, tt) ∷ K)
on_placed x.Open K = Some (inside (e.first_argument ∷ []) ∷ need x.Semicolon (refl, tt) ∷ K)
on_placed _ K = None

abbrev pub on_step : Terminal → State → Option State
on_step x.By K = Some (inside e.start ∷ need x.Do (refl, tt) ∷ body (until x.EndFor tt (refl, tt)) ∷ K)
on_step x.Do K = Some (body (until x.EndFor tt (refl, tt)) ∷ K)
on_step _ K = None

abbrev pub on_case_end : Terminal → State → Option State
on_case_end t K = on_otherwise x.EndCase tt (refl, tt) t K

-- a label that begins with no name
abbrev pub on_const : Terminal → State → Option State → Option State
on_const x.Int K other = Some K
on_const x.Minus K other = Some (need x.Int (refl, tt) ∷ K)
on_const (x.Kind k) K other = Some (need x.Hash (refl, tt) ∷ inside (e.literal_next ∷ []) ∷ K)
on_const _ K other = other

abbrev pub on_const_word : Terminal → State → Option State → Option State
on_const_word x.Word K other = Some (const_tail ∷ K)
on_const_word _ K other = other

abbrev pub on_const_tail : Terminal → State → Option State → Option State
on_const_tail x.Hash K other = Some (word_next ∷ K)
on_const_tail x.Dot K other = Some (word_next ∷ K)
on_const_tail _ K other = other

abbrev pub on_label_more : Terminal → State → Option State → Option State
on_label_more x.Comma K other = Some (const_next ∷ behind_label ∷ K)
on_label_more x.Colon K other = Some (case_body ∷ K)
on_label_more _ K other = other

abbrev pub on_behind_label : Terminal → State → Option State → Option State
on_behind_label x.Range K other = Some (const_next ∷ label_more ∷ K)
on_behind_label t K other = on_label_more t K other

-- behind a name in a branch of CASE: a label, or a statement
abbrev pub on_case_word : Terminal → State → Option State → Option State
on_case_word x.Hash K other = Some (word_next ∷ behind_label ∷ K)
on_case_word x.Dot K other = Some (case_dot ∷ K)
on_case_word t K other = on_behind_label t K other

abbrev pub on_case_dot : Terminal → State → Option State
on_case_dot x.Word K = Some (case_field ∷ K)
on_case_dot _ K = None

abbrev pub on_case_body : Terminal → State → Option State
on_case_body x.Word K = Some (case_word ∷ K)
on_case_body t K = on_statement t (case_body ∷ K) (on_const t (behind_label ∷ K) (on_case_end t K))

-- what is wanted in a place, and then behind it
abbrev pub on_place : Terminal → State → Option State
on_place t K = on_inside (e.advance place_state t) true (behind_place ∷ K) (on_placed t K)

-- what the machine of expressions wants behind these
abbrev pub behind_paren : e.State
behind_paren = e.operand ∷ e.more_tails ∷ e.close_next ∷ e.more_tails ∷ []

abbrev pub behind_paren_word : e.State
behind_paren_word = e.behind_name ∷ e.more_tails ∷ e.close_next ∷ e.more_tails ∷ []

abbrev pub behind_int : e.State
behind_int = e.more_tails ∷ []

abbrev pub on_init : Terminal → State → Option State
on_init x.OpenBracket K = Some (part_next ∷ parts_more ∷ K)
on_init x.Open K = Some (init_open ∷ K)
on_init t K = on_inside (e.advance e.start t) false K None

abbrev pub on_init_open : Terminal → State → Option State
on_init_open x.Word K = Some (init_word ∷ K)
on_init_open t K = on_inside (e.advance behind_paren t) false K None

abbrev pub on_init_word : Terminal → State → Option State
on_init_word x.Assign K = Some (init_next ∷ fields_more ∷ K)
on_init_word t K = on_inside (e.advance behind_paren_word t) false K None

abbrev pub on_fields : Terminal → State → Option State
on_fields x.Comma K = Some (word_next ∷ need x.Assign (refl, tt) ∷ init_next ∷ fields_more ∷ K)
on_fields x.Close K = Some K
on_fields _ K = None

abbrev pub on_part : Terminal → State → Option State
on_part x.Int K = Some (part_int ∷ K)
on_part t K = on_init t K

abbrev pub on_part_int : Terminal → State → Option State → Option State
on_part_int x.Open K other = Some (init_next ∷ need x.Close (refl, tt) ∷ K)
on_part_int t K other = on_inside (e.advance behind_int t) true K other

abbrev pub on_parts : Terminal → State → Option State
on_parts x.Comma K = Some (part_next ∷ parts_more ∷ K)
on_parts x.CloseBracket K = Some K
on_parts _ K = None

-- what is wanted after one token, or none where it may not come
abbrev pub advance : State → Terminal → Option State
advance [] t = None
advance (inside k ∷ K) t = on_inside (e.advance k t) (e.accepts k) K (advance K t)
advance (need s q ∷ K) t = on_need (same_terminal s t) K
advance (body e ∷ K) t = on_statement t (body e ∷ K) (on_ender e t K)
advance (statement_next ∷ K) t = on_statement t K None
advance (behind_place ∷ K) t = on_placed t K
advance (by_or_do ∷ K) t = on_step t K
advance (branch_next ∷ K) t = on_branch t K
advance (otherwise_next s free q ∷ K) t = on_otherwise s free q t K
advance (first_case ∷ K) t = on_const t (behind_label ∷ K) (on_const_word t (behind_label ∷ K) (on_case_end t K))
advance (case_body ∷ K) t = on_case_body t K
advance (case_word ∷ K) t = on_case_word t K (on_place t (case_body ∷ K))
advance (case_dot ∷ K) t = on_case_dot t K
advance (case_field ∷ K) t = on_behind_label t K (on_place t (case_body ∷ K))
advance (const_next ∷ K) t = on_const t K (on_const_word t K None)
advance (const_tail ∷ K) t = on_const_tail t K (advance K t)
advance (behind_label ∷ K) t = on_behind_label t K None
advance (label_more ∷ K) t = on_label_more t K None
advance (init_next ∷ K) t = on_init t K
advance (init_open ∷ K) t = on_init_open t K
advance (init_word ∷ K) t = on_init_word t K
advance (fields_more ∷ K) t = on_fields t K
advance (part_next ∷ K) t = on_part t K
advance (part_int ∷ K) t = on_part_int t K (advance K t)
advance (parts_more ∷ K) t = on_parts t K

-- nothing more is wanted
abbrev pub accepts : State → Bool
accepts [] = true
accepts (inside k ∷ K) = e.accepts k && accepts K
accepts (need s q ∷ K) = false
accepts (body e ∷ K) = false
accepts (statement_next ∷ K) = false
accepts (behind_place ∷ K) = false
accepts (by_or_do ∷ K) = false
accepts (branch_next ∷ K) = false
accepts (otherwise_next s free q ∷ K) = false
accepts (first_case ∷ K) = false
accepts (case_body ∷ K) = false
accepts (case_word ∷ K) = false
accepts (case_dot ∷ K) = false
accepts (case_field ∷ K) = false
accepts (const_next ∷ K) = false
accepts (const_tail ∷ K) = accepts K
accepts (behind_label ∷ K) = false
accepts (label_more ∷ K) = false
accepts (init_next ∷ K) = false
accepts (init_open ∷ K) = false
accepts (init_word ∷ K) = false
accepts (fields_more ∷ K) = false
accepts (part_next ∷ K) = false
accepts (part_int ∷ K) = accepts K
accepts (parts_more ∷ K) = false

abbrev pub go_on : Option State → (State → Ending) → Ending → Ending
go_on None f ending = ending
go_on (Some K) f ending = f K

-- whether nothing more is wanted at the first token that may not come, and how many are left from there
abbrev pub machine : State → List Lexeme → Ending
machine K [] = (accepts K, 0)
machine K (t ∷ ts) = go_on (advance K t.terminal) (λ K'. machine K' ts) (accepts K, suc (length ts))

-- ---- how lexemes begin

abbrev pub NoStatement : List Lexeme → Type 0
NoStatement [] = Unit {0}
NoStatement (t ∷ ts) = IsNoStatement t.terminal

abbrev pub IsQuiet : List Lexeme → Type 0
IsQuiet [] = Unit {0}
IsQuiet (t ∷ ts) = Quiet t.terminal
