-- The grammar (IEC 61131-3:2013, annex A), one case for each rule. A phrase relates the lexemes before it to those behind it.
-- The note of each node is the line of its first lexeme.
use Rattle.std.specs.Prelude.{◌≡◌, ℕ, suc, ◌<◌, ◌≤◌, ◌⊎◌, List, [], ◌∷◌, Option, Some, None}
use Rattle.st_types.specs.declared.elem.Elem.TheVariants as kind
use Rattle.st_tree.specs.declared.terminal.Terminal.{Terminal}
use Rattle.st_tree.specs.declared.terminal.Terminal.TheVariants as x
use Rattle.st_tree.specs.declared.name.Name.{Name}
use Rattle.st_tree.specs.declared.marks.Marks.{Marks}
use Rattle.st_tree.specs.declared.expression.Operator.{Operator}
use Rattle.st_tree.specs.declared.expression.Operator.TheVariants as o
use Rattle.st_tree.specs.declared.expression.Literal.{Literal}
use Rattle.st_tree.specs.declared.expression.Literal.TheVariants as literals
use Rattle.st_tree.specs.declared.expression.Root.{Root}
use Rattle.st_tree.specs.declared.expression.Root.TheVariants as roots
use Rattle.st_tree.specs.declared.statement.Label.{Label}
use Rattle.st_tree.specs.declared.statement.LabelEnd.{LabelEnd}
use Rattle.st_tree.specs.declared.statement.LabelEnd.TheVariants as labels
use Rattle.st_tree.specs.declared.type_spec.Bounds.{Bounds}
use Rattle.st_tree.specs.declared.type_spec.ArraySpec.{ArraySpec}
use Rattle.st_tree.specs.declared.type_spec.SimpleSpec.{SimpleSpec}
use Rattle.st_tree.specs.declared.type_spec.SimpleSpec.TheVariants as simple
use Rattle.st_tree.specs.declared.type_spec.TypeSpec.{TypeSpec}
use Rattle.st_tree.specs.Expression as expr
use Rattle.st_tree.specs.Expression.{Expression, Expressions, no_expressions, expression_then, Selector, Selectors, no_selectors, selector_then, Argument, Arguments, no_arguments, argument_then, Tails, no_tails, tail_then, expression_of}
use Rattle.st_tree.specs.Initial as init
use Rattle.st_tree.specs.Initial.{Initial, Part, Parts, no_parts, part_then, FieldInits, no_fields, field_then}
use Rattle.st_tree.specs.Statement as stmt
use Rattle.st_tree.specs.Statement.{Statement, Statements, no_statements, statement_then, Branches, no_branches, branch_then, Cases, no_cases, case_then, Otherwise}

-- a token without its place in the text, with the marks between the token before it and it
pub record Lexeme : Type 0 where
  pub terminal : Terminal
  -- in upper case
  pub text : List ℕ
  pub line : ℕ
  pub marks : Marks

abbrev pub Phrase : Type 1
Phrase = List Lexeme → List Lexeme → Type 0

infixr 10 ◌⋆◌
-- one after the other
abbrev pub ◌⋆◌ : Phrase → Phrase → Phrase
P ⋆ Q = λ ts rest. (mid : List Lexeme) × P ts mid × Q mid rest

abbrev pub nothing : Phrase
nothing = λ ts rest. ts ≡ rest

abbrev pub never : Phrase
never = λ ts rest. ⊥

abbrev pub lexeme : (Lexeme → Type 0) → Phrase
lexeme P = λ ts rest. (t : Lexeme) × P t × (ts ≡ t ∷ rest)

-- a keyword or a symbol
abbrev pub sign : Terminal → Phrase
sign s = lexeme (λ t. t.terminal ≡ s)

-- a lexeme with this text
abbrev pub spelled : Terminal → List ℕ → Phrase
spelled s text = lexeme (λ t. (t.terminal ≡ s) × (t.text ≡ text))

abbrev pub word : List ℕ → Phrase
word text = spelled x.Word text

-- the first lexeme stands at this line
abbrev pub At : ℕ → List Lexeme → Type 0
At line [] = ⊥
At line (t ∷ ts) = t.line ≡ line

abbrev pub at : ℕ → Phrase → Phrase
at line P = λ ts rest. At line ts × P ts rest

-- a name that is declared
abbrev pub name : Name → Phrase
name n = at n.line (word n.text)

-- the first lexeme has these marks
abbrev pub HasMarks : Marks → List Lexeme → Type 0
HasMarks marks [] = ⊥
HasMarks marks (t ∷ ts) = t.marks ≡ marks

abbrev pub marked : Marks → Phrase → Phrase
marked marks P = λ ts rest. HasMarks marks ts × P ts rest

abbrev pub NotNext : Terminal → List Lexeme → Type 0
NotNext s [] = Unit {0}
NotNext s (t ∷ ts) = t.terminal ≡ s → ⊥

-- taken where it can be
abbrev pub optional : Terminal → Phrase
optional s = λ ts rest. sign s ts rest ⊎ ((ts ≡ rest) × NotNext s ts)

-- ---- expressions

abbrev pub operator_of : Terminal → Option Operator
operator_of x.Or = Some o.Or
operator_of x.OrElse = Some o.OrElse
operator_of x.Xor = Some o.Xor
operator_of x.And = Some o.And
operator_of x.Ampersand = Some o.And
operator_of x.AndThen = Some o.AndThen
operator_of x.Equal = Some o.Equal
operator_of x.Differs = Some o.Differs
operator_of x.Less = Some o.Less
operator_of x.Greater = Some o.Greater
operator_of x.AtMost = Some o.AtMost
operator_of x.AtLeast = Some o.AtLeast
operator_of x.Plus = Some o.Plus
operator_of x.Minus = Some o.Minus
operator_of x.Times = Some o.Times
operator_of x.Slash = Some o.Divide
operator_of x.Mod = Some o.Modulo
operator_of _ = None

-- how tightly an operator binds
abbrev pub level : Operator → ℕ
level o.Or = 0
level o.OrElse = 0
level o.Xor = 1
level o.And = 2
level o.AndThen = 2
level o.Equal = 3
level o.Differs = 3
level o.Less = 4
level o.Greater = 4
level o.AtMost = 4
level o.AtLeast = 4
level o.Plus = 5
level o.Minus = 5
level o.Times = 6
level o.Divide = 6
level o.Modulo = 6

-- an operator of this level
abbrev pub operator_at : ℕ → Operator → Phrase
operator_at k p = lexeme (λ t. (operator_of t.terminal ≡ Some p) × (level p ≡ k))

-- where an expression may stand whose operators bind at least as tightly as l; 7 is that of an operand
abbrev pub some_level : ℕ → (ℕ → Phrase) → Phrase
some_level l P = λ ts rest. (k : ℕ) × (l ≤ k) × (k < 7) × P k ts rest

-- ["-"] int | TRUE | FALSE
abbrev pub literal : Literal → Phrase
literal (literals.Int digits) = spelled x.Int digits
literal (literals.Negative digits) = sign x.Minus ⋆ spelled x.Int digits
literal literals.True = sign x.True
literal literals.False = sign x.False

-- name | THIS | SUPER
abbrev pub root : Root ℕ → Phrase
root (roots.Name line n) = at line (word n)
root (roots.This line) = at line (sign x.This)
root (roots.Super line) = at line (sign x.Super)

-- the note of an operation is that of its row, whose first lexeme is its own
abbrev pub SameLine : ℕ → ℕ → Phrase → Phrase
SameLine line row P = λ ts rest. (line ≡ row) × P ts rest

abbrev mutual
  -- an expression whose operators bind at least as tightly as l
  pub expression : Expression ℕ → ℕ → Phrase
  expression (expr.Int line digits) l = at line (spelled x.Int digits)
  expression (expr.Typed line k v) l = at line (sign (x.Kind k) ⋆ sign x.Hash ⋆ literal v)
  expression (expr.Time line text) l = at line (spelled x.Duration text)
  expression (expr.True line) l = at line (sign x.True)
  expression (expr.False line) l = at line (sign x.False)
  expression (expr.Null line) l = at line (sign x.Null)
  expression (expr.Place line r s) l = at line (root r ⋆ selectors s)
  expression (expr.Call line r s xs) l = at line (root r ⋆ selectors s ⋆ sign x.Open ⋆ arguments xs ⋆ sign x.Close)
  expression (expr.Enumerator line t later n) l = at line (word t ⋆ sign x.Hash ⋆ at later (word n))
  expression (expr.Ref line r s) l = at line (sign x.Ref ⋆ sign x.Open ⋆ root r ⋆ selectors s ⋆ sign x.Close)
  expression (expr.Now line) l = at line (sign (x.Kind kind.Time) ⋆ sign x.Open ⋆ sign x.Close)
  expression (expr.Paren line e) l = at line (sign x.Open ⋆ expression e 0 ⋆ sign x.Close)
  expression (expr.Not line e) l = at line (sign x.Not ⋆ expression e 7)
  expression (expr.Negate line e) l = at line (sign x.Minus ⋆ expression e 7)
  expression (expr.Chain line e ts) l = at line (some_level l (λ k. expression e (suc k) ⋆ first_tail ts line k))

  -- one operator and operand, and more
  pub first_tail : Tails ℕ → ℕ → ℕ → Phrase
  first_tail no_tails row k = never
  first_tail (tail_then line p e ts) row k = SameLine line row (operator_at k p ⋆ expression e (suc k) ⋆ tails ts row k)

  pub tails : Tails ℕ → ℕ → ℕ → Phrase
  tails no_tails row k = nothing
  tails (tail_then line p e ts) row k = SameLine line row (operator_at k p ⋆ expression e (suc k) ⋆ tails ts row k)

  pub selectors : Selectors ℕ → Phrase
  selectors no_selectors = nothing
  selectors (selector_then s ss) = selector s ⋆ selectors ss

  -- "." name | "[" expr { "," expr } "]" | "^"
  pub selector : Selector ℕ → Phrase
  selector (expr.Field line n) = sign x.Dot ⋆ at line (word n)
  selector (expr.Index line es) = at line (sign x.OpenBracket ⋆ first_expression es ⋆ sign x.CloseBracket)
  selector (expr.Target line) = at line (sign x.Caret)

  -- expr { "," expr }
  pub first_expression : Expressions ℕ → Phrase
  first_expression no_expressions = never
  first_expression (expression_then e es) = expression e 0 ⋆ more_expressions es

  pub more_expressions : Expressions ℕ → Phrase
  more_expressions no_expressions = nothing
  more_expressions (expression_then e es) = sign x.Comma ⋆ expression e 0 ⋆ more_expressions es

  -- [ arg { "," arg } ]
  pub arguments : Arguments ℕ → Phrase
  arguments no_arguments = nothing
  arguments (argument_then a as') = argument a ⋆ more_arguments as'

  pub more_arguments : Arguments ℕ → Phrase
  more_arguments no_arguments = nothing
  more_arguments (argument_then a as') = sign x.Comma ⋆ argument a ⋆ more_arguments as'

  -- expr | name ":=" expr | name "=>" place
  pub argument : Argument ℕ → Phrase
  argument (expr.Positional e) = expression e 0
  argument (expr.Input line n e) = at line (word n) ⋆ sign x.Assign ⋆ expression e 0
  argument (expr.Output line n later r s) = at line (word n) ⋆ sign x.Sends ⋆ at later (root r ⋆ selectors s)

-- ---- types and initial values

-- parts one after another, as many as there are
abbrev pub each : {X : Type 0} → (X → Phrase) → List X → Phrase
each P [] = nothing
each P (p ∷ ps) = P p ⋆ each P ps

-- range = expr ".." expr
abbrev pub range : Bounds ℕ → Phrase
range b = expression (expression_of b.low) 0 ⋆ sign x.Range ⋆ expression (expression_of b.high) 0

abbrev pub more_ranges : List (Bounds ℕ) → Phrase
more_ranges [] = nothing
more_ranges (b ∷ bs) = sign x.Comma ⋆ range b ⋆ more_ranges bs

-- range { "," range }
abbrev pub ranges : List (Bounds ℕ) → Phrase
ranges [] = never
ranges (b ∷ bs) = range b ⋆ more_ranges bs

-- ARRAY "[" range { "," range } "]" OF
abbrev pub array_spec : ArraySpec ℕ → Phrase
array_spec a = at a.note (sign x.Array ⋆ sign x.OpenBracket ⋆ ranges a.bounds ⋆ sign x.CloseBracket ⋆ sign x.Of)

-- elementary | name | REF_TO name
abbrev pub simple_spec : SimpleSpec ℕ → Phrase
simple_spec (simple.Elementary line k) = at line (sign (x.Kind k))
simple_spec (simple.Named line n) = at line (word n)
simple_spec (simple.Reference line later n) = at line (sign x.RefTo ⋆ at later (word n))

-- type = elementary | name | ARRAY .. OF type | REF_TO name
abbrev pub type_spec : TypeSpec ℕ → Phrase
type_spec t = each array_spec t.arrays ⋆ simple_spec t.element

abbrev mutual
  -- expr | "[" part { "," part } "]" | "(" name ":=" init { "," name ":=" init } ")"
  pub initial : Initial ℕ → Phrase
  initial (init.Value e) = expression e 0
  initial (init.Array line ps) = at line (sign x.OpenBracket ⋆ first_part ps ⋆ sign x.CloseBracket)
  initial (init.Fields line fs) = at line (sign x.Open ⋆ first_field fs ⋆ sign x.Close)

  pub first_part : Parts ℕ → Phrase
  first_part no_parts = never
  first_part (part_then p ps) = part p ⋆ more_parts ps

  pub more_parts : Parts ℕ → Phrase
  more_parts no_parts = nothing
  more_parts (part_then p ps) = sign x.Comma ⋆ part p ⋆ more_parts ps

  -- init | int "(" init ")"
  pub part : Part ℕ → Phrase
  part (init.One i) = initial i
  part (init.Repeated line digits i) = at line (spelled x.Int digits ⋆ sign x.Open ⋆ initial i ⋆ sign x.Close)

  pub first_field : FieldInits ℕ → Phrase
  first_field no_fields = never
  first_field (field_then line n i fs) = at line (word n) ⋆ sign x.Assign ⋆ initial i ⋆ more_fields fs

  pub more_fields : FieldInits ℕ → Phrase
  more_fields no_fields = nothing
  more_fields (field_then line n i fs) = sign x.Comma ⋆ at line (word n) ⋆ sign x.Assign ⋆ initial i ⋆ more_fields fs

-- ---- statements

-- ["-"] int | typed | name [( "#" | "." ) name]
abbrev pub label_end : LabelEnd ℕ → Phrase
label_end (labels.Int line digits) = at line (spelled x.Int digits)
label_end (labels.Negative line digits) = at line (sign x.Minus ⋆ spelled x.Int digits)
label_end (labels.Typed line k v) = at line (sign (x.Kind k) ⋆ sign x.Hash ⋆ literal v)
label_end (labels.Name line n) = at line (word n)
label_end (labels.Enumerator line t later n) = at line (word t ⋆ sign x.Hash ⋆ at later (word n))
label_end (labels.Field line t later n) = at line (word t ⋆ sign x.Dot ⋆ at later (word n))

abbrev pub range_end : Option (LabelEnd ℕ) → Phrase
range_end None = nothing
range_end (Some last) = sign x.Range ⋆ label_end last

-- const [".." const]
abbrev pub label : Label ℕ → Phrase
label l = label_end l.first ⋆ range_end l.last

abbrev pub more_labels : List (Label ℕ) → Phrase
more_labels [] = nothing
more_labels (l ∷ ls) = sign x.Comma ⋆ label l ⋆ more_labels ls

-- label { "," label }
abbrev pub first_label : List (Label ℕ) → Phrase
first_label [] = never
first_label (l ∷ ls) = label l ⋆ more_labels ls

-- [BY expr]
abbrev pub step_by : Option (Expression ℕ) → Phrase
step_by None = nothing
step_by (Some e) = sign x.By ⋆ expression e 0

abbrev mutual
  pub statement : Statement ℕ → Phrase
  statement (stmt.Empty line) = at line (sign x.Semicolon)
  statement (stmt.Assign line note r s e) = at line (at note (root r ⋆ selectors s) ⋆ sign x.Assign ⋆ expression e 0 ⋆ sign x.Semicolon)
  statement (stmt.Attempt line note r s e) = at line (at note (root r ⋆ selectors s) ⋆ sign x.Attempt ⋆ expression e 0 ⋆ sign x.Semicolon)
  statement (stmt.Call line note r s xs) = at line (at note (root r ⋆ selectors s) ⋆ sign x.Open ⋆ arguments xs ⋆ sign x.Close ⋆ sign x.Semicolon)
  statement (stmt.Exit line) = at line (sign x.Exit ⋆ sign x.Semicolon)
  statement (stmt.Continue line) = at line (sign x.Continue ⋆ sign x.Semicolon)
  statement (stmt.Return line) = at line (sign x.Return ⋆ sign x.Semicolon)
  statement (stmt.If line bs other) = at line (sign x.If ⋆ first_branch bs ⋆ otherwise other ⋆ sign x.EndIf)
  statement (stmt.Case line e cs other) = at line (sign x.Case ⋆ expression e 0 ⋆ sign x.Of ⋆ cases cs ⋆ otherwise other ⋆ sign x.EndCase)
  statement (stmt.For line note n from to by ss) =
      at line (sign x.For ⋆ at note (word n) ⋆ sign x.Assign ⋆ expression from 0 ⋆ sign x.To ⋆ expression to 0 ⋆ step_by by ⋆ sign x.Do ⋆ body ss ⋆ sign x.EndFor)
  statement (stmt.While line e ss) = at line (sign x.While ⋆ expression e 0 ⋆ sign x.Do ⋆ body ss ⋆ sign x.EndWhile)
  statement (stmt.Repeat line ss e) = at line (sign x.Repeat ⋆ body ss ⋆ sign x.Until ⋆ expression e 0 ⋆ sign x.EndRepeat)

  pub body : Statements ℕ → Phrase
  body no_statements = nothing
  body (statement_then s ss) = statement s ⋆ body ss

  -- expr THEN body { ELSIF expr THEN body }
  pub first_branch : Branches ℕ → Phrase
  first_branch no_branches = never
  first_branch (branch_then e ss bs) = expression e 0 ⋆ sign x.Then ⋆ body ss ⋆ more_branches bs

  pub more_branches : Branches ℕ → Phrase
  more_branches no_branches = nothing
  more_branches (branch_then e ss bs) = sign x.Elsif ⋆ expression e 0 ⋆ sign x.Then ⋆ body ss ⋆ more_branches bs

  -- [ELSE body]
  pub otherwise : Otherwise ℕ → Phrase
  otherwise stmt.Nothing = nothing
  otherwise (stmt.Else ss) = sign x.Else ⋆ body ss

  -- { label { "," label } ":" body }
  pub cases : Cases ℕ → Phrase
  cases no_cases = nothing
  cases (case_then ls ss cs) = first_label ls ⋆ sign x.Colon ⋆ body ss ⋆ cases cs
