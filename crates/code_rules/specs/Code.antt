-- The code of expressions and places.
use Rattle.std.specs.Prelude.{ℕ, suc, ◌+◌, ◌^◌, pos, Bool, true, false, ◌&&◌, if◌then◌else◌, List, [], ◌∷◌, ◌++◌, length, Option, Some, None, slice_get}
use Rattle.st_types.specs.declared.elem.Elem.{Elem}
use Rattle.st_types.specs.declared.elem.Elem.TheVariants as elem
use Rattle.st_types.specs.declared.st_type.StType.{StType, out-StType}
use Rattle.st_types.specs.declared.st_type.StType.TheVariants as type
use Rattle.st_types.specs.declared.st_type.StType.TheOpen.{StType-F}
use Rattle.plc_num.specs.Arithmetic.{difference}
use Rattle.st_tree.specs.declared.expression.Operator.{Operator}
use Rattle.st_tree.specs.declared.expression.Operator.TheVariants as operator
use Rattle.st_tree.specs.declared.expression.Root.{Root}
use Rattle.st_tree.specs.declared.expression.Root.TheVariants as root
use Rattle.st_tree.specs.declared.program.Note.{Note}
use Rattle.st_tree.specs.declared.program.Target.{Target}
use Rattle.st_tree.specs.declared.program.Target.TheVariants as target
use Rattle.st_tree.specs.Duration.{milliseconds}
use Rattle.st_tree.specs.Expression.{Expression, Int, Typed, Time, True, False, Null, Place, Call, Enumerator, Ref, Now, Paren, Not, Negate, Chain, Expressions, no_expressions, expression_then, Selector, Field, Index, Selectors, no_selectors, selector_then, Positional, Input, Output, Arguments, no_arguments, argument_then, Tails, no_tails, tail_then}
use Rattle.st_tree.specs.Expression as tree
use Rattle.st_tree.specs.Number.{number_of}
use Rattle.st_values.specs.Program.{Recipient, to_local, to_variable, Parameter}
use Rattle.st_values.specs.Initial.{note_of, constant}
use Rattle.st_meaning.specs.Operation.{elem_of, literal_value}
use Rattle.st_meaning.specs.Place.{root_note, element_kind}
use Rattle.st_meaning.specs.Call.{by_instance, from_class, Callee, a_conversion, a_function, a_method, a_body, callee_of, is_in_out, parameter_number, parameter_named, next_parameter, behind_next, class_of_kind, number_to}
use Rattle.st_meaning.specs.Expression.{selector_note}
use Rattle.code_rules.specs.declared.local.LocalPlace.{LocalPlace}
use Rattle.code_rules.specs.Plan.{Plan}
use Rattle.st_meaning.specs.st_frame.Promise.Calls.{next_number}
use Rattle.st_meaning.specs.st_frame.Use.{called_of, receiver, last_kind}
use Rattle.stack_code.specs.declared.op.Op.{Op}
use Rattle.stack_code.specs.declared.op.Op.TheVariants as op
use Rattle.code_cells.specs.declared.cell.Cell.{Cell}
use Rattle.code_cells.specs.declared.cell.Cell.TheVariants.{Does as does, Skips as skips, SkipsAt0 as skips_at_0}
use Rattle.code_rules.specs.Places.{is_large, room_of, of_parameter, of_result, of_mask, of_own, block_size, result_place}

abbrev pub class_of : Option ℕ → ℕ
class_of None = 0
class_of (Some c) = c

-- the kind of the number that a value of a type is
abbrev pub number_kind : StType → Elem
number_kind (type.Elementary e) = e
number_kind t = elem.Udint

-- an address or a reference stands for it
abbrev pub is_held : StType → Bool
is_held (type.Elementary e) = false
is_held (type.Enumeration n) = false
is_held t = true

-- ---- arguments

-- which parameters a call gives, as bits: outputs too, where their values are large, and the result
abbrev pub bit : ℕ → ℕ
bit i = 2 ^ i

abbrev pub given_bits : List Parameter → ℕ → List Parameter → Arguments Note → ℕ
given_bits ps i left no_arguments = 0
given_bits ps i left (argument_then (Positional e) xs) = bit (next_number i left) + given_bits ps (suc (next_number i left)) (behind_next left) xs
given_bits ps i left (argument_then (Input a name e) xs) = bit (parameter_number a.target) + given_bits ps i left xs
given_bits ps i left (argument_then (Output a name b r ss) xs) = bit (parameter_number a.target) + given_bits ps i left xs

-- by the type of the left operand and that of the result
abbrev pub operator_code : Operator → StType → StType → Op
operator_code operator.Plus t u = op.Add (elem_of u)
operator_code operator.Minus t u = op.Sub (elem_of u)
operator_code operator.Times t u = op.Mul (elem_of u)
operator_code operator.Divide t u = op.Div (elem_of u)
operator_code operator.Modulo t u = op.Mod (elem_of u)
operator_code operator.And t u = op.And (elem_of u)
operator_code operator.Or t u = op.Or (elem_of u)
operator_code operator.Xor t u = op.Xor (elem_of u)
operator_code operator.Equal t u = if is_held t then op.Same else op.Eq
operator_code operator.Differs t u = if is_held t then op.Same else op.Ne
operator_code operator.Less t u = op.Lt
operator_code operator.Greater t u = op.Gt
operator_code operator.AtMost t u = op.Le
operator_code operator.AtLeast t u = op.Ge
operator_code operator.AndThen t u = op.Drop
operator_code operator.OrElse t u = op.Drop

abbrev pub keeps_own : Callee → Bool
keeps_own (a_body s) = true
keeps_own c = false

-- ---- what calls nothing, so that it changes nothing either

abbrev pub is_conversion : Callee → Bool
is_conversion a_conversion = true
is_conversion c = false

abbrev mutual
  pub way_is_quiet : Selectors Note → Bool
  way_is_quiet no_selectors = true
  way_is_quiet (selector_then s ss) = step_is_quiet s && way_is_quiet ss

  pub step_is_quiet : Selector Note → Bool
  step_is_quiet (Field a name) = true
  step_is_quiet (Index a es) = are_quiet es
  step_is_quiet (tree.Target a) = true

  pub are_quiet : Expressions Note → Bool
  are_quiet no_expressions = true
  are_quiet (expression_then e es) = is_quiet e && are_quiet es

  pub is_quiet : Expression Note → Bool
  is_quiet (Int a digits) = true
  is_quiet (Typed a k literal) = true
  is_quiet (Time a text) = true
  is_quiet (True a) = true
  is_quiet (False a) = true
  is_quiet (Null a) = true
  is_quiet (Place a r ss) = way_is_quiet ss
  is_quiet (Call a r ss xs) = is_conversion (callee_of r ss) && operand_is_quiet xs
  is_quiet (Enumerator a t b name) = true
  is_quiet (Ref a r ss) = way_is_quiet ss
  is_quiet (Now a) = true
  is_quiet (Paren a e) = is_quiet e
  is_quiet (Not a e) = is_quiet e
  is_quiet (Negate a e) = is_quiet e
  is_quiet (Chain a e ts) = is_quiet e && tails_are_quiet ts

  pub tails_are_quiet : Tails Note → Bool
  tails_are_quiet no_tails = true
  tails_are_quiet (tail_then a o e ts) = is_quiet e && tails_are_quiet ts

  pub operand_is_quiet : Arguments Note → Bool
  operand_is_quiet (argument_then (Positional e) xs) = is_quiet e
  operand_is_quiet _ = false

-- what stands at a place
abbrev pub is_source : Expression Note → Bool
is_source (Place a r ss) = true
is_source (Paren a e) = is_source e
is_source _ = false

-- ---- the mask: which parameters a call gives

abbrev pub same_bits : ℕ → List Parameter → ℕ
same_bits i [] = 0
same_bits i (q ∷ qs) = (if is_in_out q.sort then bit i else 0) + same_bits (suc i) qs

abbrev pub result_bit : Bool → ℕ
result_bit true = bit result_place
result_bit false = 0

-- which are given
abbrev pub mask_of : Callee → List Parameter → Bool → Arguments Note → ℕ
mask_of (a_body (from_class d)) ps result xs = same_bits 0 ps
mask_of c ps result xs = given_bits ps 0 ps xs + result_bit result

-- SUPER() has no arguments
abbrev pub arguments_by : Callee → List Cell → List Cell → List Cell
arguments_by (a_body (from_class d)) given same = same
arguments_by c given same = given

module _ (w : Plan) where
  abbrev pub index_op : StType-F StType → Op
  index_op (StType-F.Array low high of) = op.Index low high (w.size_of of)
  index_op _ = op.Drop

  abbrev pub method_call : StType → List ℕ → Op
  method_call (type.Interface i) name = op.CallI i (w.tables.method_number i name) 1
  method_call t name = op.CallM (class_of_kind t) (w.tables.method_slot (class_of_kind t) name) 1

  -- by the type on which a method is called, and that of the whole place
  abbrev pub call_op : Callee → StType → StType → Op
  call_op a_conversion t whole = op.Drop
  call_op (a_function k) t whole = op.Call (w.tables.function_routine k) 1
  call_op (a_method by_instance name) t whole = method_call t name
  call_op (a_method (from_class d) name) t whole = op.Call (w.tables.method_routine d name) 1
  call_op (a_body by_instance) t whole = op.CallM (class_of_kind whole) w.tables.body_slot 1
  call_op (a_body (from_class d)) t whole = op.Call (w.tables.body_routine d) 1

  abbrev pub behind_outputs : ℕ → Arguments Note → ℕ
  behind_outputs free no_arguments = free
  behind_outputs free (argument_then (Output a name b r ss) xs) = behind_outputs (free + room_of w.size_of (last_kind (root_note r).kind ss)) xs
  behind_outputs free (argument_then x xs) = behind_outputs free xs

  -- what a value that is given takes behind the block; a place takes nothing
  abbrev pub passed_room : Option Parameter → StType → ℕ
  passed_room None t = 0
  passed_room (Some q) t = if is_in_out q.sort then 0 else room_of w.size_of t

module _ (line : ℕ) where
  abbrev pub named_value_code : Target → StType → List Cell → List Cell
  named_value_code (target.Constant z) t place = does (op.Push z) line ∷ []
  named_value_code (target.Enumerator k) t place = does (op.Push (pos k)) line ∷ []
  named_value_code _ t place = place

  abbrev pub local_code : Option LocalPlace → List Cell
  local_code None = []
  local_code (Some v) = if v.in_out then does (op.Local v.offset) line ∷ (does op.LoadRef line ∷ (does op.Deref line ∷ [])) else does (op.Local v.offset) line ∷ []

  -- where the reference at an address leads
  abbrev pub held_code : List Cell
  held_code = does op.LoadRef line ∷ (does op.Deref line ∷ [])

  abbrev pub followed_code : StType → List Cell
  followed_code (type.Instance c) = []
  followed_code t = held_code

  abbrev pub instance_code : StType → List Cell
  instance_code (type.Interface i) = held_code
  instance_code t = []

  -- keeps the argument on top in eight bytes of the block: a number, an address or where a large value is kept
  abbrev pub give_code : ℕ → StType → List Cell
  give_code at t = does (op.Local at) line ∷ (does (if is_held t then op.StoreRef else op.Store elem.Ulint) line ∷ [])

  -- two references differ where they are not equal
  abbrev pub inverted : Operator → StType → List Cell
  inverted operator.Differs t = if is_held t then does (op.Not elem.Bool) line ∷ [] else []
  inverted _ t = []

  -- the left operand is on top, and its value stays where it decides
  abbrev pub operated_code : Operator → StType → StType → List Cell → List Cell
  operated_code operator.AndThen t u right = does op.Dup line ∷ (skips_at_0 (suc (length right)) line ∷ (does op.Drop line ∷ right))
  operated_code operator.OrElse t u right = does op.Dup line ∷ (skips_at_0 1 line ∷ (skips (suc (length right)) line ∷ (does op.Drop line ∷ right)))
  operated_code o t u right = right ++ does (operator_code o t u) line ∷ inverted o t

  abbrev pub negated_code : Note → Expression Note → List Cell → List Cell
  negated_code a (Int b digits) operand = does (op.Push (difference (elem_of a.kind) (pos 0) (pos (number_of digits)))) line ∷ []
  negated_code a e operand = operand ++ does (op.Neg (elem_of a.kind)) line ∷ []

  -- below the block: the instance, or NULL
  abbrev pub target_code : Callee → List Cell → List Cell
  target_code (a_function k) place = does op.Null line ∷ []
  target_code c place = place

  -- a value that no word holds comes to where the block says
  abbrev pub large_code : ℕ → ℕ → StType → List Cell
  large_code at free t = if is_large t then does (op.Local free) line ∷ (does (op.Local at) line ∷ (does op.StoreRef line ∷ [])) else []

  -- from the block: a word, or where a large value is kept
  abbrev pub taken_code : ℕ → StType → List Cell
  taken_code at t = does (op.Local at) line ∷ (does (if is_held t then op.LoadRef else op.Load (number_kind t)) line ∷ [])

  -- the instance is kept where outputs are read from it
  abbrev pub own_code : Callee → ℕ → List Cell
  own_code c at = if keeps_own c then does op.Dup line ∷ (does (op.Local at) line ∷ (does op.StoreRef line ∷ [])) else []

  abbrev pub mask_code : ℕ → ℕ → List Cell
  mask_code at mask = does (op.Push (pos mask)) line ∷ (does (op.Local at) line ∷ (does (op.Store elem.Ulint) line ∷ []))

  -- an argument is kept in the block: a value, or the place itself
  abbrev pub passed_code : Option Parameter → ℕ → StType → List Cell → List Cell → List Cell
  passed_code None at t value place = []
  passed_code (Some q) at t value place = if is_in_out q.sort then place ++ (does (op.Local at) line ∷ (does op.StoreRef line ∷ [])) else value ++ give_code at t

  -- a conversion
  abbrev pub converted_code : Arguments Note → StType → List Cell → List Cell
  converted_code (argument_then (Positional e) xs) t operand = operand ++ does (op.Conv (number_kind (note_of e).kind) (elem_of t)) line ∷ []
  converted_code _ t operand = []

  abbrev pub call_value_code : Callee → Arguments Note → StType → List Cell → List Cell → ℕ → List Cell
  call_value_code a_conversion xs t operand called at = converted_code xs t operand
  call_value_code c xs t operand called at = called ++ taken_code at t

module _ (w : Plan) (line : ℕ) where
  abbrev pub named_code : Target → List Cell
  named_code (target.Local n) = local_code line (slice_get w.locals n)
  named_code (target.Region r) = does (op.Region r 0) line ∷ []
  named_code (target.Variable k) = does (op.This (w.field_of (type.Instance (class_of w.class)) k)) line ∷ []
  named_code (target.Method m) = does (op.This 0) line ∷ []
  named_code _ = []

  abbrev pub root_code : Root Note → List Cell
  root_code (root.Name a name) = named_code a.target
  root_code _ = does (op.This 0) line ∷ []

  abbrev pub part_code : StType → Target → List Cell
  part_code t (target.Field k) = does (op.Offset (w.field_of t k)) line ∷ []
  part_code t (target.Variable k) = does (op.Offset (w.field_of t k)) line ∷ []
  part_code t (target.Method m) = instance_code line t
  part_code t _ = []

  -- for the address on top the value there; one that no word holds is copied behind the locals, to an offset that is free
  abbrev pub fetch_code : ℕ → StType → List Cell
  fetch_code free (type.Elementary e) = does (op.Load e) line ∷ []
  fetch_code free (type.Enumeration n) = does (op.Load elem.Udint) line ∷ []
  fetch_code free (type.Reference c) = does op.LoadRef line ∷ []
  fetch_code free (type.Interface i) = does op.LoadRef line ∷ []
  fetch_code free (type.Instance c) = []
  fetch_code free t = does (op.Local free) line ∷ (does (op.Copy (w.size_of t)) line ∷ (does (op.Local free) line ∷ []))

  -- the same for a place of this type, where a number of a kind that widens to it stands
  abbrev pub widened_code : ℕ → StType → Elem → List Cell
  widened_code free (type.Elementary e) n = does (op.Load n) line ∷ []
  widened_code free t n = fetch_code free t

  -- keeps the value below the address on top there
  abbrev pub keep_code : StType → List Cell
  keep_code (type.Elementary e) = does (op.Store e) line ∷ []
  keep_code (type.Enumeration n) = does (op.Store elem.Udint) line ∷ []
  keep_code (type.Reference c) = does op.StoreRef line ∷ []
  keep_code (type.Interface i) = does op.StoreRef line ∷ []
  keep_code t = does (op.Copy (w.size_of t)) line ∷ []

  -- where large outputs come to
  abbrev pub output_rooms : ℕ → ℕ → Arguments Note → List Cell
  output_rooms block free no_arguments = []
  output_rooms block free (argument_then (Output a name b r ss) xs) =
      large_code line (block + of_parameter (parameter_number a.target)) free (last_kind (root_note r).kind ss) ++ output_rooms block (free + room_of w.size_of (last_kind (root_note r).kind ss)) xs
  output_rooms block free (argument_then x xs) = output_rooms block free xs

  -- an output of a routine stands in the block, that of a block in the instance, with its own kind
  abbrev pub output_code : Option Parameter → ℕ → ℕ → ℕ → StType → StType → List Cell
  output_code None at own free t whole = []
  output_code (Some q) at own free t whole = by q.to
    where
      by : Recipient → List Cell
      by (to_local n) = taken_code line at t
      by (to_variable k) = does (op.Local own) line ∷ (does op.LoadRef line ∷ (does (op.Offset (w.field_of whole k)) line ∷ widened_code free t (w.kind_of whole k)))

  -- a block's base with the in-outs of the block that runs
  abbrev pub same_code : ℕ → ℕ → List Parameter → List Cell
  same_code block i [] = []
  same_code block i (q ∷ qs) =
      (if is_in_out q.sort then local_code line (slice_get w.locals (number_to q.to)) ++ (does (op.Local (block + of_parameter i)) line ∷ (does op.StoreRef line ∷ [])) else []) ++ same_code block (suc i) qs

  -- The target, the arguments, a tick, the call; then the outputs. The block lies at `free`; `result` is where a large result comes to.
  abbrev pub enter_code : Callee → List Parameter → ℕ → StType → StType → List Cell → List Cell → List Cell → ℕ → List Cell → List Cell
  enter_code c ps free t whole place arguments rooms mask outputs =
      target_code line c place
      ++ (own_code line c (free + of_own)
      ++ (arguments
      ++ (rooms
      ++ (mask_code line (free + of_mask) mask
      ++ (does (op.Local free) line ∷ (does op.Tick line ∷ (does (call_op w c t whole) line ∷ outputs)))))))

  -- ---- the tree; the bytes of the locals from `free` on are free

  abbrev mutual
    pub along_code : ℕ → Selectors Note → StType → List Cell
    along_code free no_selectors t = []
    along_code free (selector_then s ss) t = selected_code free s t ++ along_code free ss (selector_note s).kind

    pub selected_code : ℕ → Selector Note → StType → List Cell
    selected_code free (Field a name) t = part_code t a.target
    selected_code free (Index a es) t = indexed_code free es t
    selected_code free (tree.Target a) t = followed_code line t

    pub indexed_code : ℕ → Expressions Note → StType → List Cell
    indexed_code free no_expressions t = []
    indexed_code free (expression_then e es) t = value_code free e ++ does (index_op w (out-StType t)) line ∷ indexed_code free es (element_kind t)

    pub value_code : ℕ → Expression Note → List Cell
    value_code free (Int a digits) = does (op.Push (pos (number_of digits))) line ∷ []
    value_code free (Typed a k literal) = does (op.Push (literal_value literal)) line ∷ []
    value_code free (Time a text) = does (op.Push (pos (milliseconds text))) line ∷ []
    value_code free (True a) = does (op.Push (pos 1)) line ∷ []
    value_code free (False a) = does (op.Push (pos 0)) line ∷ []
    value_code free (Null a) = does op.Null line ∷ []
    value_code free (Place a r ss) = named_value_code line a.target a.kind ((root_code r ++ along_code free ss (root_note r).kind) ++ fetch_code free a.kind)
    value_code free (Call a r ss xs) =
        let c = callee_of r ss in
        let ps = w.parameters (called_of r ss) in
        let whole = last_kind (root_note r).kind ss in
        let block = free + room_of w.size_of a.kind in
        let rooms = block + block_size (length ps) in
        call_value_code line c xs a.kind (operand_code free xs)
        (enter_code c ps block (receiver (root_note r).kind ss) whole (root_code r ++ along_code free ss (root_note r).kind)
        (arguments_by c (arguments_code block (behind_outputs w rooms xs) ps 0 ps xs) (same_code block 0 ps))
        (output_rooms block rooms xs ++ large_code line (block + of_result) free a.kind)
        (mask_of c ps true xs)
        (outputs_code block (behind_outputs w rooms xs) ps whole xs))
        (block + of_result)
    value_code free (Enumerator a t b name) = does (op.Push (constant a.target)) line ∷ []
    value_code free (Ref a r ss) = root_code r ++ along_code free ss (root_note r).kind
    value_code free (Now a) = does op.Now line ∷ []
    value_code free (Paren a e) = value_code free e
    value_code free (Not a e) = value_code free e ++ does (op.Not (elem_of a.kind)) line ∷ []
    value_code free (Negate a e) = negated_code line a e (value_code free e)
    value_code free (Chain a e ts) = value_code free e ++ chained_code free (note_of e).kind ts

    pub chained_code : ℕ → StType → Tails Note → List Cell
    chained_code free t no_tails = []
    chained_code free t (tail_then a o e ts) = operated_code line o t a.kind (value_code free e) ++ chained_code free a.kind ts

    pub bound_code : ℕ → Expression Note → List Cell
    bound_code free (Place a r ss) = root_code r ++ along_code free ss (root_note r).kind
    bound_code free _ = []

    pub operand_code : ℕ → Arguments Note → List Cell
    operand_code free (argument_then (Positional e) xs) = value_code free e
    operand_code free _ = []

    -- each argument is kept in the block as soon as it is evaluated, and a large one behind it
    pub arguments_code : ℕ → ℕ → List Parameter → ℕ → List Parameter → Arguments Note → List Cell
    arguments_code block free ps i left no_arguments = []
    arguments_code block free ps i left (argument_then (Positional e) xs) =
        passed_code line (next_parameter left) (block + of_parameter (next_number i left)) (note_of e).kind (value_code free e) (bound_code free e)
        ++ arguments_code block (free + passed_room w (next_parameter left) (note_of e).kind) ps (suc (next_number i left)) (behind_next left) xs
    arguments_code block free ps i left (argument_then (Input a name e) xs) =
        passed_code line (parameter_named ps a) (block + of_parameter (parameter_number a.target)) (note_of e).kind (value_code free e) (bound_code free e)
        ++ arguments_code block (free + passed_room w (parameter_named ps a) (note_of e).kind) ps i left xs
    arguments_code block free ps i left (argument_then (Output a name b r ss) xs) = arguments_code block free ps i left xs

    pub outputs_code : ℕ → ℕ → List Parameter → StType → Arguments Note → List Cell
    outputs_code block free ps whole no_arguments = []
    outputs_code block free ps whole (argument_then (Output a name b r ss) xs) =
        let t = last_kind (root_note r).kind ss in
        output_code (parameter_named ps a) (block + of_parameter (parameter_number a.target)) (block + of_own) free t whole
        ++ ((root_code r ++ along_code (free + room_of w.size_of t) ss (root_note r).kind)
        ++ (keep_code t
        ++ outputs_code block free ps whole xs))
    outputs_code block free ps whole (argument_then x xs) = outputs_code block free ps whole xs

  abbrev pub place_code : ℕ → Root Note → Selectors Note → List Cell
  place_code free r ss = root_code r ++ along_code free ss (root_note r).kind

  -- ---- what stands at a place, and is copied from there

  abbrev pub source_code : ℕ → Expression Note → List Cell
  source_code free (Place a r ss) = place_code free r ss
  source_code free (Paren a e) = source_code free e
  source_code free _ = []
