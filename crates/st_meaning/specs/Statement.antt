-- Effects of statements (IEC 61131-3:2013, 7.3.3).
use Rattle.std.specs.Prelude.{zero, ℤ, pos, negsuc, ◌+ℤ◌, int_le, Bool, true, false, ◌&&◌, ◌||◌, if◌then◌else◌, List, [], ◌∷◌, Option, Some, None}
use Rattle.std.specs.Ordering.{int_eq}
use Rattle.plc_text.specs.declared.fault.FaultKind.TheVariants as fault
use Rattle.st_types.specs.declared.elem.Elem.{Elem}
use Rattle.st_types.specs.declared.st_type.StType.{StType}
use Rattle.plc_num.specs.Wrapping.{wrapped}
use Rattle.st_tree.specs.declared.path.Path.{Path}
use Rattle.st_tree.specs.declared.program.Note.{Note}
use Rattle.st_tree.specs.declared.statement.Label.{Label}
use Rattle.st_tree.specs.declared.statement.LabelEnd.{LabelEnd}
use Rattle.st_tree.specs.declared.statement.LabelEnd.TheVariants as label
use Rattle.st_tree.specs.Expression.{Expression}
use Rattle.st_tree.specs.Statement.{Statement, Empty, Assign, Attempt, Call, Exit, Continue, Return, If, Case, For, While, Repeat, Statements, no_statements, statement_then, Branches, no_branches, branch_then, Cases, no_cases, case_then, Otherwise, Nothing, Else}
use Rattle.st_values.specs.Program.{Program, conforms}
use Rattle.st_values.specs.Value.{Value, number, reference}
use Rattle.st_values.specs.Initial.{constant}
use Rattle.st_meaning.specs.State.{Spot, in_store, Run, ◌>>=◌, ◌>>◌, gives, fails, at_line, spend, read, write}
use Rattle.st_meaning.specs.Operation.{number_in, path_in, is_true, elem_of}
use Rattle.st_meaning.specs.Place.{named_spot}
use Rattle.st_meaning.specs.Call.{callee_of, Enter, call, call_effect, class_at_spot}
use Rattle.st_meaning.specs.Expression.{value, place, operand, arguments, outputs}
use Rattle.st_meaning.specs.Loop.{Flow, goes_on, exits, continues, returns, unless_left, loop, loop_until}

-- ---- CASE

abbrev pub end_note : LabelEnd Note → Note
end_note (label.Int a digits) = a
end_note (label.Negative a digits) = a
end_note (label.Typed a k literal) = a
end_note (label.Name a name) = a
end_note (label.Enumerator a t b name) = a
end_note (label.Field a t b name) = a

abbrev pub end_value : LabelEnd Note → ℤ
end_value e = constant (end_note e).target

abbrev pub up_to : ℤ → Option (LabelEnd Note) → ℤ → Bool
up_to first None z = int_eq first z
up_to first (Some last) z = int_le first z && int_le z (end_value last)

-- whether one of the labels holds the value
abbrev pub hold : List (Label Note) → ℤ → Bool
hold [] z = false
hold (l ∷ ls) z = up_to (end_value l.first) l.last z || hold ls z

-- ---- FOR

abbrev pub is_negative : ℤ → Bool
is_negative (pos n) = false
is_negative (negsuc n) = true

-- whether the variable has not passed the end
abbrev pub within : ℤ → ℤ → ℤ → Bool
within step end z = if is_negative step then int_le end z else int_le z end

abbrev pub no_zero : ℤ → Run ℤ
no_zero (pos zero) = fails fault.Step
no_zero z = gives z

-- The step is added with wrapping; where that wrapped, the loop ends.
abbrev pub add_step : Elem → ℤ → Run Spot → Run Flow
add_step e step place = do
  spot ← place
  v ← read spot
  write spot (number (wrapped e (number_in v +ℤ step)))
  gives (if int_eq (wrapped e (number_in v +ℤ step)) (number_in v +ℤ step) then goes_on else exits)

-- the step comes after a turn and after CONTINUE
abbrev pub then_step : Flow → Run Flow → Run Flow
then_step goes_on step = step
then_step continues step = step
then_step exits step = gives exits
then_step returns step = gives returns

-- The variable is read anew for each test and each step; the end and the step are kept.
abbrev pub count : Elem → Run Spot → ℤ → ℤ → Run Flow → Run Flow
count e place end step body =
    loop
    (do spot ← place; v ← read spot; gives (within step end (number_in v)))
    (do flow ← body; then_step flow (add_step e step place))

-- ---- ?=

module _ (p : Program) (enter : Enter) where
  -- what is held where its instance conforms to the type, else NULL
  abbrev pub attempted : StType → Option Path → Run Value
  attempted t None = gives (reference None)
  attempted t (Some q) = do
    c ← class_at_spot p enter (in_store q)
    gives (reference (if conforms p c t then Some q else None))

  abbrev pub step_value : Option (Expression Note) → Run ℤ
  step_value None = gives (pos 1)
  step_value (Some e) = do
    v ← value p enter e
    no_zero (number_in v)

  -- ---- statements

  abbrev mutual
    -- A tick, and then what the statement does; a lone `;` is no statement.
    pub effect : Statement Note → Run Flow
    effect (Empty line) = gives goes_on
    effect (Assign line a r ss e) = at_line line (do
      spend
      v ← value p enter e
      spot ← place p enter r ss
      write spot v
      gives goes_on)
    effect (Attempt line a r ss e) = at_line line (do
      spend
      v ← value p enter e
      w ← attempted a.kind (path_in v)
      spot ← place p enter r ss
      write spot w
      gives goes_on)
    effect (Call line a r ss xs) = at_line line (do
      spend
      call_effect (callee_of r ss) (operand p enter xs) (call p enter (callee_of r ss) (place p enter r ss) (λ ps. arguments p enter ps ps xs) (λ ps own f. outputs p enter ps own f xs))
      gives goes_on)
    effect (Exit line) = at_line line (do
      spend
      gives exits)
    effect (Continue line) = at_line line (do
      spend
      gives continues)
    effect (Return line) = at_line line (do
      spend
      gives returns)
    effect (If line branches otherwise) = at_line line (do
      spend
      first_true branches (otherwise_effect otherwise))
    effect (Case line e cases otherwise) = at_line line (do
      spend
      v ← value p enter e
      first_holding (number_in v) cases (otherwise_effect otherwise))
    effect (For line a name from to by body) = at_line line (do
      spend
      first ← value p enter from
      end ← value p enter to
      step ← step_value by
      spot ← named_spot a.target
      write spot (number (number_in first))
      count (elem_of a.kind) (named_spot a.target) (number_in end) step (effects body))
    effect (While line e body) = at_line line (do
      spend
      loop (do v ← value p enter e; gives (is_true v)) (effects body))
    effect (Repeat line body e) = at_line line (do
      spend
      loop_until (effects body) (do v ← value p enter e; gives (is_true v)))

    pub effects : Statements Note → Run Flow
    effects no_statements = gives goes_on
    effects (statement_then s ss) = do
      flow ← effect s
      unless_left flow (effects ss)

    -- the first branch whose condition holds
    pub first_true : Branches Note → Run Flow → Run Flow
    first_true no_branches otherwise = otherwise
    first_true (branch_then e body branches) otherwise = do
      v ← value p enter e
      if is_true v then effects body else first_true branches otherwise

    -- the first branch that holds the value
    pub first_holding : ℤ → Cases Note → Run Flow → Run Flow
    first_holding z no_cases otherwise = otherwise
    first_holding z (case_then labels body cases) otherwise = if hold labels z then effects body else first_holding z cases otherwise

    pub otherwise_effect : Otherwise Note → Run Flow
    otherwise_effect Nothing = gives goes_on
    otherwise_effect (Else body) = effects body
