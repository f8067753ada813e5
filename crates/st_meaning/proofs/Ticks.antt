-- Ticks are never made, so that a loop is its unrolling.
use Rattle.std.proofs.Common.{◌≡◌, ◌≤◌, ◌<◌, ℕ, zero, suc, ℤ, pos, negsuc, Bool, true, false, List, [], ◌∷◌, Option, Some, None, refl, sym, ap, ◌∙◌, arith, le_refl, le_trans}
use Rattle.std.specs.Prelude.{if◌then◌else◌}
use Rattle.plc_text.specs.declared.fault.FaultKind.{FaultKind}
use Rattle.plc_text.specs.declared.fault.FaultKind.TheVariants as fault
use Rattle.st_types.specs.declared.elem.Elem.{Elem}
use Rattle.st_types.specs.declared.st_type.StType.{StType}
use Rattle.st_types.specs.declared.st_type.StType.TheVariants as type
use Rattle.plc_num.specs.Arithmetic.{quotient, remainder}
use Rattle.st_tree.specs.declared.expression.Operator.{Operator}
use Rattle.st_tree.specs.declared.expression.Operator.TheVariants as operator
use Rattle.st_tree.specs.declared.expression.Root.{Root}
use Rattle.st_tree.specs.declared.expression.Root.TheVariants as root
use Rattle.st_tree.specs.declared.path.Path.{Path}
use Rattle.st_tree.specs.declared.program.Note.{Note}
use Rattle.st_tree.specs.declared.program.Target.{Target}
use Rattle.st_tree.specs.declared.program.Target.TheVariants as target
use Rattle.st_tree.specs.Expression.{Expression, Int, Typed, Time, True, False, Null, Place, Call, Enumerator, Ref, Now, Paren, Not, Negate, Chain, Expressions, no_expressions, expression_then, Selector, Field, Index, Selectors, no_selectors, selector_then, Argument, Positional, Input, Output, Arguments, no_arguments, argument_then, Tails, no_tails, tail_then}
use Rattle.st_tree.specs.Expression as tree
use Rattle.st_tree.specs.Statement.{Statement, Empty, Assign, Attempt, Exit, Continue, Return, If, Case, For, While, Repeat, Statements, no_statements, statement_then, Branches, no_branches, branch_then, Cases, no_cases, case_then, Otherwise, Nothing, Else}
use Rattle.st_tree.specs.Statement as effect_tree
use Rattle.st_values.specs.Program.{Recipient, to_local, to_variable, Parameter, Routine, Program}
use Rattle.st_values.specs.Value.{Value, member}
use Rattle.st_meaning.specs.State.{Spot, in_store, in_frame, Frame, State, Outcome, Done, Fault, Run, go_on, ◌>>=◌, ◌>>◌, gives, fails, at_line, some_or, spend_from, spend, moment, region_value, set_region, frame_at, frame_value, local_value, set_local, own_in, own, local_spot_in, local_spot, push, pop_from, pop, read, write}
use Rattle.st_meaning.specs.Operation.{number_in, divided, operation}
use Rattle.st_meaning.specs.Place.{named_spot, root_spot, held_spot, followed, instance_of, part_named}
use Rattle.st_meaning.specs.Call.{by_instance, from_class, Callee, a_conversion, a_function, a_method, a_body, callee_of, Given, for_local, for_variable, same_in_outs, set_variables, output_value, Enter, run_routine, class_at_spot, call, call_value, call_effect}
use Rattle.st_meaning.specs.Expression.{place_value, name_value, operated, passed, output_of, placed, along, selected, indexed, value, chained, bound_place, operand, arguments, outputs, place}
use Rattle.st_meaning.specs.Loop.{Flow, goes_on, exits, continues, returns, unless_left, after_turn, turn, turns, loop, turn_until, turns_until, loop_until}
use Rattle.st_meaning.specs.Statement.{hold, no_zero, add_step, then_step, count, attempted, step_value, effect, effects, first_true, first_holding, otherwise_effect}
use Rattle.st_meaning.specs.Enter.{most_calls, enter, run_programs, programs_of}
use Rattle.st_meaning.specs.Laws.{NoMore, TicksFall, Falls, LoopsUnroll}

lower : {A : Type 0} (n k : ℕ) (o : Outcome A) → n ≤ k → NoMore n o → NoMore k o
lower n k (Done a s) le h = le_trans h le
lower n k (Fault f line) le h = tt

then_lower : {A B : Type 0} (n : ℕ) (o : Outcome A) (f : A → State → Outcome B) → NoMore n o → ((a : A) (s : State) → NoMore s.ticks (f a s)) → NoMore n (go_on o f)
then_lower n (Done a s) f h k = lower s.ticks n (f a s) h (k a s)
then_lower n (Fault q line) f h k = tt

pub then_falls : {A B : Type 0} (m : Run A) (f : A → Run B) → Falls m → ((a : A) → Falls (f a)) → Falls (m >>= f)
then_falls m f h k = record { by = λ line s. then_lower s.ticks (m line s) (λ a. f a line) (h.by line s) (λ a. (k a).by line) }

pub gives_falls : {A : Type 0} (a : A) → Falls (gives a)
gives_falls a = record { by = λ line s. le_refl s.ticks }

pub fails_falls : {A : Type 0} (k : FaultKind) → Falls (fails {A = A} k)
fails_falls k = record { by = λ line s. tt }

pub some_falls : {A : Type 0} (k : FaultKind) (o : Option A) → Falls (some_or k o)
some_falls k None = fails_falls k
some_falls k (Some a) = gives_falls a

pub spend_lower : (n line : ℕ) (s : State) → n ≤ s.ticks → NoMore s.ticks (spend_from n line s)
spend_lower zero line s h = tt
spend_lower (suc n) line s h = omega arith

pub spend_falls : Falls spend
spend_falls = record { by = λ line s. spend_lower s.ticks line s (le_refl s.ticks) }

moment_falls : Falls moment
moment_falls = record { by = λ line s. le_refl s.ticks }

set_region_falls : (r : ℕ) (v : Value) → Falls (set_region r v)
set_region_falls r v = record { by = λ line s. le_refl s.ticks }

set_local_falls : (d n : ℕ) (v : Value) → Falls (set_local d n v)
set_local_falls d n v = record { by = λ line s. le_refl s.ticks }

region_falls : (r : ℕ) → Falls (region_value r)
region_falls r = record { by = λ line s. (some_falls fault.Null (member s.store r)).by line s }

local_falls : (d n : ℕ) → Falls (local_value d n)
local_falls d n = record { by = λ line s. (some_falls fault.Null (frame_value (frame_at s.frames d) n)).by line s }

own_falls : Falls own
own_falls = record { by = λ line s. (some_falls fault.Null (own_in s.frames)).by line s }

local_spot_falls : (n : ℕ) → Falls (local_spot n)
local_spot_falls n = record { by = λ line s. (some_falls fault.Null (local_spot_in s.frames n)).by line s }

push_falls : (f : Frame) → Falls (push f)
push_falls f = record { by = λ line s. le_refl s.ticks }

pop_lower : (fs : List Frame) (line : ℕ) (s : State) → NoMore s.ticks (pop_from fs line s)
pop_lower [] line s = tt
pop_lower (f ∷ fs) line s = le_refl s.ticks

pop_falls : Falls pop
pop_falls = record { by = λ line s. pop_lower s.frames line s }

if_falls : {A : Type 0} (b : Bool) (m n : Run A) → Falls m → Falls n → Falls (if b then m else n)
if_falls true m n h k = h
if_falls false m n h k = k

line_falls : {A : Type 0} (n : ℕ) (m : Run A) → Falls m → Falls (at_line n m)
line_falls n m h = record { by = λ line s. h.by n s }

ruleset steps = (then_falls, gives_falls, fails_falls, some_falls, spend_falls, moment_falls, set_region_falls, set_local_falls, region_falls, local_falls, own_falls, local_spot_falls, push_falls, pop_falls, if_falls)

-- ---- places and calls

pub read_falls : (spot : Spot) → Falls (read spot)
read_falls (in_store q) = search steps
read_falls (in_frame d n ss) = search steps

pub write_falls : (spot : Spot) (v : Value) → Falls (write spot v)
write_falls (in_store q) new = search steps depth 12
write_falls (in_frame d n ss) new = search steps depth 12

pub named_falls : (t : Target) → Falls (named_spot t)
named_falls (target.Local n) = search steps
named_falls (target.Region r) = search steps
named_falls (target.Variable k) = search steps
named_falls (target.Method m) = search steps
named_falls target.Nothing = search steps
named_falls (target.Field k) = search steps
named_falls (target.Function k) = search steps
named_falls target.Conversion = search steps
named_falls (target.Parameter k) = search steps
named_falls (target.Enumerator k) = search steps
named_falls (target.Constant z) = search steps

root_falls : (r : Root Note) → Falls (root_spot r)
root_falls (root.Name a name) = named_falls a.target
root_falls (root.This a) = search steps
root_falls (root.Super a) = search steps

held_falls : (spot : Spot) → Falls (held_spot spot)
held_falls spot = search (steps, read_falls) depth 12

followed_falls : (t : StType) (spot : Spot) → Falls (followed t spot)
followed_falls (type.Instance c) spot = search steps
followed_falls t spot = held_falls spot

instance_falls : (t : StType) (spot : Spot) → Falls (instance_of t spot)
instance_falls (type.Interface i) spot = held_falls spot
instance_falls t spot = search steps

part_falls : (t : StType) (spot : Spot) (x : Target) → Falls (part_named t spot x)
part_falls t spot (target.Field k) = search steps
part_falls t spot (target.Variable k) = search steps
part_falls t spot (target.Method m) = instance_falls t spot
part_falls t spot target.Nothing = search steps
part_falls t spot (target.Local n) = search steps
part_falls t spot (target.Region r) = search steps
part_falls t spot (target.Function k) = search steps
part_falls t spot target.Conversion = search steps
part_falls t spot (target.Parameter k) = search steps
part_falls t spot (target.Enumerator k) = search steps
part_falls t spot (target.Constant z) = search steps

divided_falls : (f : Elem → ℤ → ℤ → ℤ) (e : Elem) (a b : ℤ) → Falls (divided f e a b)
divided_falls f e a (pos zero) = search steps
divided_falls f e a (pos (suc n)) = search steps
divided_falls f e a (negsuc n) = search steps

operation_falls : (o : Operator) (e : Elem) (x y : Value) → Falls (operation o e x y)
operation_falls operator.Plus e x y = search steps
operation_falls operator.Minus e x y = search steps
operation_falls operator.Times e x y = search steps
operation_falls operator.Divide e x y = divided_falls quotient e (number_in x) (number_in y)
operation_falls operator.Modulo e x y = divided_falls remainder e (number_in x) (number_in y)
operation_falls operator.And e x y = search steps
operation_falls operator.Or e x y = search steps
operation_falls operator.Xor e x y = search steps
operation_falls operator.AndThen e x y = search steps
operation_falls operator.OrElse e x y = search steps
operation_falls operator.Equal e x y = search steps
operation_falls operator.Differs e x y = search steps
operation_falls operator.Less e x y = search steps
operation_falls operator.Greater e x y = search steps
operation_falls operator.AtMost e x y = search steps
operation_falls operator.AtLeast e x y = search steps

operated_falls : (o : Operator) (t : StType) (x : Value) (right : Run Value) → Falls right → Falls (operated o t x right)
operated_falls o t x right h = search (steps, operation_falls) depth 12

place_value_falls : (t : StType) (m : Run Spot) → Falls m → Falls (place_value t m)
place_value_falls (type.Instance c) m h = search steps
place_value_falls t m h = search (steps, read_falls)

name_value_falls : (x : Target) (t : StType) (m : Run Spot) → Falls m → Falls (name_value x t m)
name_value_falls (target.Constant z) t m h = search steps
name_value_falls (target.Enumerator k) t m h = search steps
name_value_falls x t m h = place_value_falls t m h

passed_falls : (o : Option Parameter) (v : Run Value) (m : Run Spot) → Falls v → Falls m → Falls (passed o v m)
passed_falls None v m h k = search steps
passed_falls (Some q) v m h k = search steps depth 12

output_value_falls : (to : Recipient) (own : Option Path) (f : Frame) → Falls (output_value to own f)
output_value_falls (to_local n) own f = search steps
output_value_falls (to_variable k) own f = search (steps, read_falls) depth 12

output_falls : (o : Option Parameter) (own : Option Path) (f : Frame) → Falls (output_of o own f)
output_falls None own f = search steps
output_falls (Some q) own f = output_value_falls q.to own f

placed_falls : (r : Root Note) (m : StType → Spot → Run Spot) → ((t : StType) (spot : Spot) → Falls (m t spot)) → Falls (placed r m)
placed_falls r m h = search (steps, root_falls) depth 12

in_outs_fall : (ps : List Parameter) → Falls (same_in_outs ps)
in_outs_fall [] = search steps
in_outs_fall (q ∷ qs) = let h = in_outs_fall qs in search steps depth 16

variables_fall : (own : Option Path) (given : List Given) → Falls (set_variables own given)
variables_fall own [] = search steps
variables_fall own (for_local n slot ∷ rest) = variables_fall own rest
variables_fall own (for_variable k v ∷ rest) = let h = variables_fall own rest in search (steps, write_falls) depth 14

pub record EnterFalls (enter : Enter) : Type 0 where
  pub by : (r : Routine) (own : Option Path) (given : List Given) → Falls (enter r own given)

module _ (p : Program) (enter : Enter) (enters : EnterFalls enter) where
  routine_falls : (r : Routine) (own : Option Path) (args : Run (List Given)) (outs : Option Path → Frame → Run (Unit {0})) → Falls args → ((own : Option Path) (f : Frame) → Falls (outs own f)) → Falls (run_routine p enter r own args outs)
  routine_falls r own args outs h k = search (steps, enters.by) depth 20

  class_falls : (spot : Spot) → Falls (class_at_spot p enter spot)
  class_falls spot = search (steps, read_falls) depth 12

  call_falls : (c : Callee) (target : Run Spot) (args : List Parameter → Run (List Given)) (outs : List Parameter → Option Path → Frame → Run (Unit {0}))
      → Falls target → ((ps : List Parameter) → Falls (args ps)) → ((ps : List Parameter) (own : Option Path) (f : Frame) → Falls (outs ps own f)) → Falls (call p enter c target args outs)
  call_falls a_conversion target args outs h k l = search steps
  call_falls (a_function n) target args outs h k l = search (steps, routine_falls) depth 16
  call_falls (a_method s name) target args outs h k l = search (steps, class_falls, routine_falls) depth 24
  call_falls (a_body by_instance) target args outs h k l = search (steps, class_falls, routine_falls) depth 24
  call_falls (a_body (from_class d)) target args outs h k l = search (steps, in_outs_fall, routine_falls) depth 24

  call_value_falls : (c : Callee) (t : StType) (operand : Run Value) (called : Run Frame) → Falls operand → Falls called → Falls (call_value c t operand called)
  call_value_falls a_conversion t operand called h k = search steps depth 12
  call_value_falls (a_function n) t operand called h k = search steps depth 12
  call_value_falls (a_method s name) t operand called h k = search steps depth 12
  call_value_falls (a_body s) t operand called h k = search steps depth 12

  call_effect_falls : (c : Callee) (operand : Run Value) (called : Run Frame) → Falls operand → Falls called → Falls (call_effect c operand called)
  call_effect_falls a_conversion operand called h k = search steps depth 12
  call_effect_falls (a_function n) operand called h k = search steps depth 12
  call_effect_falls (a_method s name) operand called h k = search steps depth 12
  call_effect_falls (a_body s) operand called h k = search steps depth 12

  mutual
    along_falls : (ss : Selectors Note) (t : StType) (spot : Spot) → Falls (along p enter ss t spot)
    along_falls no_selectors t spot = search steps
    along_falls (selector_then s ss) t spot = let h = selected_falls s t spot in let k = along_falls ss in search steps depth 12

    selected_falls : (s : Selector Note) (t : StType) (spot : Spot) → Falls (selected p enter s t spot)
    selected_falls (Field a name) t spot = part_falls t spot a.target
    selected_falls (Index a es) t spot = indexed_falls es t spot
    selected_falls (tree.Target a) t spot = followed_falls t spot

    indexed_falls : (es : Expressions Note) (t : StType) (spot : Spot) → Falls (indexed p enter es t spot)
    indexed_falls no_expressions t spot = search steps
    indexed_falls (expression_then e es) t spot = let h = value_falls e in let k = indexed_falls es in search steps depth 14

    value_falls : (e : Expression Note) → Falls (value p enter e)
    value_falls (Int a digits) = search steps
    value_falls (Typed a k literal) = search steps
    value_falls (Time a text) = search steps
    value_falls (True a) = search steps
    value_falls (False a) = search steps
    value_falls (Null a) = search steps
    value_falls (Place a r ss) = name_value_falls a.target a.kind _ (placed_falls r _ (along_falls ss))
    value_falls (Call a r ss xs) =
        call_value_falls (callee_of r ss) a.kind _ _ (operand_falls xs)
        (call_falls (callee_of r ss) _ _ _ (placed_falls r _ (along_falls ss)) (λ ps. arguments_fall xs ps ps) (λ ps own f. outputs_fall xs ps own f))
    value_falls (Enumerator a t b name) = search steps
    value_falls (Ref a r ss) = let h = placed_falls r (along p enter ss) (along_falls ss) in search steps
    value_falls (Now a) = search steps
    value_falls (Paren a e) = value_falls e
    value_falls (Not a e) = let h = value_falls e in search steps
    value_falls (Negate a e) = let h = value_falls e in search steps
    value_falls (Chain a e ts) = let h = value_falls e in let k = chained_falls ts in search steps depth 12

    chained_falls : (ts : Tails Note) (v : Value) → Falls (chained p enter v ts)
    chained_falls no_tails v = search steps
    chained_falls (tail_then a o e ts) v = let h = value_falls e in let k = chained_falls ts in search (steps, operated_falls) depth 14

    bound_falls : (e : Expression Note) → Falls (bound_place p enter e)
    bound_falls (Place a r ss) = placed_falls r _ (along_falls ss)
    bound_falls (Int a digits) = search steps
    bound_falls (Typed a k literal) = search steps
    bound_falls (Time a text) = search steps
    bound_falls (True a) = search steps
    bound_falls (False a) = search steps
    bound_falls (Null a) = search steps
    bound_falls (Call a r ss xs) = search steps
    bound_falls (Enumerator a t b name) = search steps
    bound_falls (Ref a r ss) = search steps
    bound_falls (Now a) = search steps
    bound_falls (Paren a e) = search steps
    bound_falls (Not a e) = search steps
    bound_falls (Negate a e) = search steps
    bound_falls (Chain a e ts) = search steps

    operand_falls : (xs : Arguments Note) → Falls (operand p enter xs)
    operand_falls no_arguments = search steps
    operand_falls (argument_then (Positional e) xs) = value_falls e
    operand_falls (argument_then (Input a name e) xs) = search steps
    operand_falls (argument_then (Output a name b r ss) xs) = search steps

    arguments_fall : (xs : Arguments Note) (ps left : List Parameter) → Falls (arguments p enter ps left xs)
    arguments_fall no_arguments ps left = search steps
    arguments_fall (argument_then (Positional e) xs) ps left =
        let h = value_falls e in let k = bound_falls e in let l = arguments_fall xs in search (steps, passed_falls) depth 16
    arguments_fall (argument_then (Input a name e) xs) ps left =
        let h = value_falls e in let k = bound_falls e in let l = arguments_fall xs in search (steps, passed_falls) depth 16
    arguments_fall (argument_then (Output a name b r ss) xs) ps left = arguments_fall xs ps left

    outputs_fall : (xs : Arguments Note) (ps : List Parameter) (own : Option Path) (f : Frame) → Falls (outputs p enter ps own f xs)
    outputs_fall no_arguments ps own f = search steps
    outputs_fall (argument_then (Positional e) xs) ps own f = outputs_fall xs ps own f
    outputs_fall (argument_then (Input a name e) xs) ps own f = outputs_fall xs ps own f
    outputs_fall (argument_then (Output a name b r ss) xs) ps own f =
        let h = placed_falls r (along p enter ss) (along_falls ss) in let k = outputs_fall xs in search (steps, output_falls, write_falls) depth 20

  place_falls : (r : Root Note) (ss : Selectors Note) → Falls (place p enter r ss)
  place_falls r ss = placed_falls r _ (along_falls ss)

-- ---- loops

left_falls : (f : Flow) (rest : Run Flow) → Falls rest → Falls (unless_left f rest)
left_falls goes_on rest h = h
left_falls exits rest h = gives_falls exits
left_falls continues rest h = gives_falls continues
left_falls returns rest h = gives_falls returns

after_falls : (f : Flow) (again : Run Flow) → Falls again → Falls (after_turn f again)
after_falls goes_on again h = h
after_falls continues again h = h
after_falls exits again h = gives_falls goes_on
after_falls returns again h = gives_falls returns

step_falls : (f : Flow) (step : Run Flow) → Falls step → Falls (then_step f step)
step_falls goes_on step h = h
step_falls continues step h = h
step_falls exits step h = gives_falls exits
step_falls returns step h = gives_falls returns

turn_falls : (test : Run Bool) (body again : Run Flow) → Falls test → Falls body → Falls again → Falls (turn test body again)
turn_falls test body again h k l = search (steps, after_falls) depth 14

turns_fall : (n : ℕ) (test : Run Bool) (body : Run Flow) → Falls test → Falls body → Falls (turns n test body)
turns_fall zero test body h k = fails_falls fault.Watchdog
turns_fall (suc n) test body h k = turn_falls test body (turns n test body) h k (turns_fall n test body h k)

pub loop_falls : (test : Run Bool) (body : Run Flow) → Falls test → Falls body → Falls (loop test body)
loop_falls test body h k = record { by = λ line s. (turns_fall s.ticks test body h k).by line s }

turn_until_falls : (body : Run Flow) (test : Run Bool) (again : Run Flow) → Falls body → Falls test → Falls again → Falls (turn_until body test again)
turn_until_falls body test again h k l = search (steps, after_falls) depth 16

turns_until_fall : (n : ℕ) (body : Run Flow) (test : Run Bool) → Falls body → Falls test → Falls (turns_until n body test)
turns_until_fall zero body test h k = fails_falls fault.Watchdog
turns_until_fall (suc n) body test h k = turn_until_falls body test (turns_until n body test) h k (turns_until_fall n body test h k)

pub loop_until_falls : (body : Run Flow) (test : Run Bool) → Falls body → Falls test → Falls (loop_until body test)
loop_until_falls body test h k = record { by = λ line s. (turns_until_fall (suc s.ticks) body test h k).by line s }

-- ---- statements

no_zero_falls : (z : ℤ) → Falls (no_zero z)
no_zero_falls (pos zero) = search steps
no_zero_falls (pos (suc n)) = search steps
no_zero_falls (negsuc n) = search steps

add_step_falls : (e : Elem) (step : ℤ) (m : Run Spot) → Falls m → Falls (add_step e step m)
add_step_falls e step m h = search (steps, read_falls, write_falls) depth 20

count_falls : (e : Elem) (m : Run Spot) (end step : ℤ) (body : Run Flow) → Falls m → Falls body → Falls (count e m end step body)
count_falls e m end step body h k = loop_falls _ _ (search (steps, read_falls) depth 14) (search (steps, step_falls, add_step_falls) depth 14)

module _ (p : Program) (enter : Enter) (enters : EnterFalls enter) where
  attempted_falls : (t : StType) (o : Option Path) → Falls (attempted p enter t o)
  attempted_falls t None = search steps
  attempted_falls t (Some q) = let h = class_falls p enter enters in search steps depth 12

  step_value_falls : (o : Option (Expression Note)) → Falls (step_value p enter o)
  step_value_falls None = search steps
  step_value_falls (Some e) = let h = value_falls p enter enters e in search (steps, no_zero_falls) depth 12

  mutual
    effect_falls : (s : Statement Note) → Falls (effect p enter s)
    effect_falls (Empty line) = search steps
    effect_falls (Assign line a r ss e) =
        let h = value_falls p enter enters e in let k = place_falls p enter enters r ss in search (steps, line_falls, write_falls) depth 22
    effect_falls (Attempt line a r ss e) =
        let h = value_falls p enter enters e in let k = place_falls p enter enters r ss in search (steps, line_falls, write_falls, attempted_falls) depth 26
    effect_falls (effect_tree.Call line a r ss xs) =
        let h = call_effect_falls p enter enters (callee_of r ss) (operand p enter xs) _ (operand_falls p enter enters xs) (call_falls p enter enters (callee_of r ss) (place p enter r ss) (λ ps. arguments p enter ps ps xs) (λ ps own f. outputs p enter ps own f xs) (place_falls p enter enters r ss) (λ ps. arguments_fall p enter enters xs ps ps) (λ ps own f. outputs_fall p enter enters xs ps own f)) in
        search (steps, line_falls) depth 16
    effect_falls (Exit line) = search (steps, line_falls) depth 10
    effect_falls (Continue line) = search (steps, line_falls) depth 10
    effect_falls (Return line) = search (steps, line_falls) depth 10
    effect_falls (If line branches otherwise) =
        let h = branches_fall branches (otherwise_effect p enter otherwise) (otherwise_falls otherwise) in search (steps, line_falls) depth 10
    effect_falls (Case line e cases otherwise) =
        let h = value_falls p enter enters e in let k : (z : ℤ) → Falls (first_holding p enter z cases (otherwise_effect p enter otherwise)) = λ z. cases_fall cases z (otherwise_effect p enter otherwise) (otherwise_falls otherwise) in search (steps, line_falls) depth 16
    effect_falls (For line a name from to by body) =
        let h = value_falls p enter enters from in let k = value_falls p enter enters to in let l = step_value_falls by in let b = effects_fall body in
        search (steps, line_falls, named_falls, write_falls, count_falls) depth 32
    effect_falls (While line e body) = let h = value_falls p enter enters e in let k = effects_fall body in search (steps, line_falls, loop_falls) depth 18
    effect_falls (Repeat line body e) = let h = value_falls p enter enters e in let k = effects_fall body in search (steps, line_falls, loop_until_falls) depth 18

    effects_fall : (ss : Statements Note) → Falls (effects p enter ss)
    effects_fall no_statements = search steps
    effects_fall (statement_then s ss) = let h = effect_falls s in let k = effects_fall ss in search (steps, left_falls) depth 12

    branches_fall : (bs : Branches Note) (otherwise : Run Flow) → Falls otherwise → Falls (first_true p enter bs otherwise)
    branches_fall no_branches otherwise h = h
    branches_fall (branch_then e body bs) otherwise h = let k = value_falls p enter enters e in let l = effects_fall body in let m = branches_fall bs otherwise h in search steps depth 12

    cases_fall : (cs : Cases Note) (z : ℤ) (otherwise : Run Flow) → Falls otherwise → Falls (first_holding p enter z cs otherwise)
    cases_fall no_cases z otherwise h = h
    cases_fall (case_then labels body cs) z otherwise h = if_falls (hold labels z) (effects p enter body) (first_holding p enter z cs otherwise) (effects_fall body) (cases_fall cs z otherwise h)

    otherwise_falls : (o : Otherwise Note) → Falls (otherwise_effect p enter o)
    otherwise_falls Nothing = search steps
    otherwise_falls (Else body) = effects_fall body

pub enter_falls : (p : Program) (room : ℕ) → EnterFalls (enter p room)
enter_falls p zero = record { by = λ r own given. fails_falls fault.Depth }
enter_falls p (suc room) = record { by = λ r own given. let h = effects_fall p (enter p room) (enter_falls p room) in search (steps, variables_fall) depth 20 }

programs_fall : (p : Program) (rs : List ℕ) → Falls (run_programs p rs)
programs_fall p [] = search steps
programs_fall p (r ∷ rs) =
    let h = programs_fall p rs in let k = (enter_falls p (suc most_calls)).by in search steps depth 14

pub ticks_fall : TicksFall
ticks_fall = record {
  values = λ p room e line s. (value_falls p (enter p room) (enter_falls p room) e).by line s;
  statements = λ p room body line s. (effects_fall p (enter p room) (enter_falls p room) body).by line s;
  routines = λ p room r own given line s. ((enter_falls p room).by r own given).by line s;
  tasks = λ p task line s. (programs_fall p (programs_of p task)).by line s;
}

-- ---- loops unroll

-- two ways to go on that agree wherever the first step can lead
go_on_same : {A B : Type 0} (n : ℕ) (o : Outcome A) (f g : A → State → Outcome B) → NoMore n o → ((a : A) (s : State) → s.ticks ≤ n → f a s ≡ g a s) → go_on o f ≡ go_on o g
go_on_same n (Done a s) f g h k = k a s h
go_on_same n (Fault q line) f g h k = refl

-- no turn is made without a tick
none_left : {B : Type 0} (n : ℕ) (line : ℕ) (s : State) (f : Unit {0} → State → Outcome B) → n ≡ 0 → go_on (spend_from n line s) f ≡ Fault fault.Watchdog line
none_left zero line s f e = refl
none_left (suc n) line s f e = cc

-- with one, there is one less
one_spent : {B : Type 0} (n t : ℕ) (line : ℕ) (s : State) (f : Unit {0} → State → Outcome B) → n ≡ suc t → go_on (spend_from n line s) f ≡ f tt (record s { ticks = t })
one_spent zero t line s f e = cc
one_spent (suc n) t line s f e = let h : n ≡ t = omega arith in ap (λ k. f tt (record s { ticks = k })) h

-- behind a tick two ways to go on agree where they agree at fewer ticks
spend_same : {B : Type 0} (f g : Run B) (line : ℕ) (s : State) → ((s2 : State) → s2.ticks < s.ticks → f line s2 ≡ g line s2) → (spend >> f) line s ≡ (spend >> g) line s
spend_same f g line s same = by s.ticks refl
  where
    by : (t : ℕ) → s.ticks ≡ t → (spend >> f) line s ≡ (spend >> g) line s
    by zero e = none_left s.ticks line s (λ a s2. f line s2) e ∙ sym (none_left s.ticks line s (λ a s2. g line s2) e)
    by (suc t) e =
        let lt : t < s.ticks = omega arith in
        one_spent s.ticks t line s (λ a s2. f line s2) e ∙ same (record s { ticks = t }) lt ∙ sym (one_spent s.ticks t line s (λ a s2. g line s2) e)

after_same : (f : Flow) (again once : Run Flow) (line : ℕ) (s : State) → again line s ≡ once line s → after_turn f again line s ≡ after_turn f once line s
after_same goes_on again once line s e = e
after_same continues again once line s e = e
after_same exits again once line s e = refl
after_same returns again once line s e = refl

turn_same : (test : Run Bool) (body again once : Run Flow) → Falls test → Falls body → (line : ℕ) (s : State) → ((s2 : State) → s2.ticks < s.ticks → again line s2 ≡ once line s2) → turn test body again line s ≡ turn test body once line s
turn_same test body again once ft fb line s same =
    spend_same (test >>= λ b. if b then (body >>= λ f. after_turn f again) else gives goes_on) (test >>= λ b. if b then (body >>= λ f. after_turn f once) else gives goes_on) line s
    (λ s1 lt. go_on_same s1.ticks (test line s1) _ _ (ft.by line s1) (λ b s2 le. if_same b s2 (omega arith)))
  where
    if_same : (b : Bool) (s2 : State) → s2.ticks < s.ticks → (if b then (body >>= λ f. after_turn f again) else gives goes_on) line s2 ≡ (if b then (body >>= λ f. after_turn f once) else gives goes_on) line s2
    if_same true s2 lt = go_on_same s2.ticks (body line s2) _ _ (fb.by line s2) (λ f s3 le. after_same f again once line s3 (same s3 (omega arith)))
    if_same false s2 lt = refl

-- two counts that are both enough
turns_same : (n m : ℕ) (test : Run Bool) (body : Run Flow) → Falls test → Falls body → (line : ℕ) (s : State) → s.ticks ≤ n → s.ticks ≤ m → turns n test body line s ≡ turns m test body line s
turns_same zero zero test body h k line s p q = refl
turns_same zero (suc m) test body h k line s p q = let e : s.ticks ≡ 0 = omega arith in sym (none_left s.ticks line s _ e)
turns_same (suc n) zero test body h k line s p q = let e : s.ticks ≡ 0 = omega arith in none_left s.ticks line s _ e
turns_same (suc n) (suc m) test body h k line s p q =
    turn_same test body (turns n test body) (turns m test body) h k line s (λ s2 lt. turns_same n m test body h k line s2 (omega arith) (omega arith))

first : (test : Run Bool) (body : Run Flow) → Falls test → Falls body → (line : ℕ) (s : State) → loop test body line s ≡ turn test body (loop test body) line s
first test body h k line s =
    turns_same s.ticks (suc s.ticks) test body h k line s (le_refl s.ticks) (omega arith)
    ∙ turn_same test body (turns s.ticks test body) (loop test body) h k line s (λ s2 lt. turns_same s.ticks s2.ticks test body h k line s2 (omega arith) (le_refl s2.ticks))

until_same : (body : Run Flow) (test : Run Bool) (again once : Run Flow) → Falls body → Falls test → (line : ℕ) (s : State) → ((s2 : State) → s2.ticks < s.ticks → again line s2 ≡ once line s2) → turn_until body test again line s ≡ turn_until body test once line s
until_same body test again once fb ft line s same =
    go_on_same s.ticks (body line s) _ _ (fb.by line s) (λ f s1 le. after_same f (do spend; b ← test; if b then gives goes_on else again) (do spend; b ← test; if b then gives goes_on else once) line s1
    (spend_same (test >>= λ b. if b then gives goes_on else again) (test >>= λ b. if b then gives goes_on else once) line s1 (λ s2 lt. go_on_same s2.ticks (test line s2) _ _ (ft.by line s2) (λ b s3 le3. if_same b s3 (omega arith)))))
  where
    if_same : (b : Bool) (s3 : State) → s3.ticks < s.ticks → (if b then gives goes_on else again) line s3 ≡ (if b then gives goes_on else once) line s3
    if_same true s3 lt = refl
    if_same false s3 lt = same s3 lt

-- counts that are above the ticks left
untils_same : (n m : ℕ) (body : Run Flow) (test : Run Bool) → Falls body → Falls test → (line : ℕ) (s : State) → s.ticks < n → s.ticks < m → turns_until n body test line s ≡ turns_until m body test line s
untils_same zero m body test h k line s p q = absurd (omega arith)
untils_same (suc n) zero body test h k line s p q = absurd (omega arith)
untils_same (suc n) (suc m) body test h k line s p q =
    until_same body test (turns_until n body test) (turns_until m body test) h k line s (λ s2 lt. untils_same n m body test h k line s2 (omega arith) (omega arith))

last : (body : Run Flow) (test : Run Bool) → Falls body → Falls test → (line : ℕ) (s : State) → loop_until body test line s ≡ turn_until body test (loop_until body test) line s
last body test h k line s =
    until_same body test (turns_until s.ticks body test) (loop_until body test) h k line s (λ s2 lt. untils_same s.ticks (suc s2.ticks) body test h k line s2 lt (omega arith))

pub loops_unroll : LoopsUnroll
loops_unroll = record { first = first; last = last }
