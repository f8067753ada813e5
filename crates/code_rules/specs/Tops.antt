-- Up to which offset the code of a tree uses the bytes behind the locals.
use Rattle.std.specs.Prelude.{ℕ, ◌+◌, max, length, Bool, true, false, ◌&&◌, List, Option, Some, None}
use Rattle.st_tree.specs.declared.expression.Root.{Root}
use Rattle.st_tree.specs.declared.program.Note.{Note}
use Rattle.st_tree.specs.Expression.{Expression, Int, Typed, Time, True, False, Null, Place, Call, Enumerator, Ref, Now, Paren, Not, Negate, Chain, Expressions, no_expressions, expression_then, Selector, Field, Index, Selectors, no_selectors, selector_then, Positional, Input, Output, Arguments, no_arguments, argument_then, Tails, no_tails, tail_then}
use Rattle.st_tree.specs.Expression as tree
use Rattle.st_tree.specs.Statement.{Statement, Empty, Assign, Attempt, Exit, Continue, Return, If, Case, For, While, Repeat, Statements, no_statements, statement_then, Branches, no_branches, branch_then, Cases, no_cases, case_then, Otherwise, Nothing, Else}
use Rattle.st_tree.specs.Statement as effect
use Rattle.st_values.specs.Program.{Parameter}
use Rattle.st_values.specs.Initial.{note_of}
use Rattle.st_meaning.specs.Place.{root_note}
use Rattle.st_meaning.specs.Call.{Callee, a_conversion, callee_of}
use Rattle.st_meaning.specs.st_frame.Use.{called_of, last_kind}
use Rattle.st_meaning.specs.Call.{next_parameter, behind_next, parameter_named}
use Rattle.code_rules.specs.Plan.{Plan}
use Rattle.code_rules.specs.Code.{passed_room, behind_outputs, is_source, way_is_quiet}
use Rattle.code_rules.specs.Places.{is_large, room_of, block_size}

-- of a call, or of the operand of a conversion
abbrev pub call_top : Callee → ℕ → ℕ → ℕ
call_top a_conversion operand called = operand
call_top c operand called = called

module _ (w : Plan) where
  abbrev mutual
    pub along_top : ℕ → Selectors Note → ℕ
    along_top free no_selectors = free
    along_top free (selector_then s ss) = max (selector_top free s) (along_top free ss)

    pub selector_top : ℕ → Selector Note → ℕ
    selector_top free (Field a name) = free
    selector_top free (Index a es) = index_top free es
    selector_top free (tree.Target a) = free

    pub index_top : ℕ → Expressions Note → ℕ
    index_top free no_expressions = free
    index_top free (expression_then e es) = max (value_top free e) (index_top free es)

    pub value_top : ℕ → Expression Note → ℕ
    value_top free (Int a digits) = free
    value_top free (Typed a k literal) = free
    value_top free (Time a text) = free
    value_top free (True a) = free
    value_top free (False a) = free
    value_top free (Null a) = free
    value_top free (Place a r ss) = max (along_top free ss) (free + room_of w.size_of a.kind)
    value_top free (Call a r ss xs) =
        let rooms = free + room_of w.size_of a.kind + block_size (length (w.parameters (called_of r ss))) in
        let behind = behind_outputs w rooms xs in
        call_top (callee_of r ss) (operand_top free xs) (max (along_top free ss) (max behind (max (arguments_top behind (w.parameters (called_of r ss)) (w.parameters (called_of r ss)) xs) (outputs_top behind xs))))
    value_top free (Enumerator a t b name) = free
    value_top free (Ref a r ss) = along_top free ss
    value_top free (Now a) = free
    value_top free (Paren a e) = value_top free e
    value_top free (Not a e) = value_top free e
    value_top free (Negate a e) = value_top free e
    value_top free (Chain a e ts) = max (value_top free e) (tails_top free ts)

    pub tails_top : ℕ → Tails Note → ℕ
    tails_top free no_tails = free
    tails_top free (tail_then a o e ts) = max (value_top free e) (tails_top free ts)

    pub operand_top : ℕ → Arguments Note → ℕ
    operand_top free (argument_then (Positional e) xs) = value_top free e
    operand_top free _ = free

    pub arguments_top : ℕ → List Parameter → List Parameter → Arguments Note → ℕ
    arguments_top free ps left no_arguments = free
    arguments_top free ps left (argument_then (Positional e) xs) = max (value_top free e) (arguments_top (free + passed_room w (next_parameter left) (note_of e).kind) ps (behind_next left) xs)
    arguments_top free ps left (argument_then (Input a name e) xs) = max (value_top free e) (arguments_top (free + passed_room w (parameter_named ps a) (note_of e).kind) ps left xs)
    arguments_top free ps left (argument_then (Output a name b r ss) xs) = arguments_top free ps left xs

    -- an output is read, and then its place is found
    pub outputs_top : ℕ → Arguments Note → ℕ
    outputs_top free no_arguments = free
    outputs_top free (argument_then (Output a name b r ss) xs) =
        let behind = free + room_of w.size_of (last_kind (root_note r).kind ss) in
        max behind (max (along_top behind ss) (outputs_top free xs))
    outputs_top free (argument_then x xs) = outputs_top free xs

  abbrev pub source_top : ℕ → Expression Note → ℕ
  source_top free (Place a r ss) = along_top free ss
  source_top free (Paren a e) = source_top free e
  source_top free _ = free

  -- ---- statements

  abbrev pub assigned_top : ℕ → Selectors Note → Expression Note → Bool → ℕ
  assigned_top free ss e true = max (source_top free e) (along_top free ss)
  assigned_top free ss e false = max (value_top free e) (along_top (free + room_of w.size_of (note_of e).kind) ss)

  abbrev pub step_top : ℕ → Option (Expression Note) → ℕ
  step_top free None = free
  step_top free (Some e) = value_top free e

  abbrev pub effect_call_top : ℕ → Root Note → Selectors Note → Arguments Note → ℕ
  effect_call_top free r ss xs =
      let behind = behind_outputs w (free + block_size (length (w.parameters (called_of r ss)))) xs in
      call_top (callee_of r ss) (operand_top free xs) (max (along_top free ss) (max behind (max (arguments_top behind (w.parameters (called_of r ss)) (w.parameters (called_of r ss)) xs) (outputs_top behind xs))))

  abbrev mutual
    pub effect_top : ℕ → Statement Note → ℕ
    effect_top free (Empty line) = free
    effect_top free (Assign line a r ss e) = assigned_top free ss e (is_large a.kind && (is_source e && way_is_quiet ss))
    effect_top free (Attempt line a r ss e) = max (value_top free e) (along_top free ss)
    effect_top free (effect.Call line a r ss xs) = effect_call_top free r ss xs
    effect_top free (Exit line) = free
    effect_top free (Continue line) = free
    effect_top free (Return line) = free
    effect_top free (If line branches otherwise) = max (branches_top free branches) (otherwise_top free otherwise)
    effect_top free (Case line e cases otherwise) = max (value_top free e) (max (cases_top free cases) (otherwise_top free otherwise))
    effect_top free (For line a name from end by body) =
        max (value_top free from) (max (value_top free end) (max (step_top (free + 8) by) (max (free + 16) (effects_top (free + 16) body))))
    effect_top free (While line e body) = max (value_top free e) (effects_top free body)
    effect_top free (Repeat line body e) = max (effects_top free body) (value_top free e)

    pub effects_top : ℕ → Statements Note → ℕ
    effects_top free no_statements = free
    effects_top free (statement_then s ss) = max (effect_top free s) (effects_top free ss)

    pub branches_top : ℕ → Branches Note → ℕ
    branches_top free no_branches = free
    branches_top free (branch_then e body bs) = max (value_top free e) (max (effects_top free body) (branches_top free bs))

    pub cases_top : ℕ → Cases Note → ℕ
    cases_top free no_cases = free
    cases_top free (case_then labels body cs) = max (effects_top free body) (cases_top free cs)

    pub otherwise_top : ℕ → Otherwise Note → ℕ
    otherwise_top free Nothing = free
    otherwise_top free (Else body) = effects_top free body
