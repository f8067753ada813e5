-- The code of a routine calls by number only what the tables of its plan number.
use Rattle.std.proofs.Common.{◌≡◌, ℕ, zero, suc, ◌+◌, pos, negsuc, Bool, true, false, List, [], ◌∷◌, ◌++◌, length, map, Option, Some, None, subst}
use Rattle.std.specs.Prelude.{if◌then◌else◌, slice_get, ◌&&◌}
use Rattle.st_types.specs.declared.elem.Elem.{Elem}
use Rattle.st_types.specs.declared.elem.Elem.TheVariants as elem
use Rattle.st_types.specs.declared.st_type.StType.{StType, out-StType}
use Rattle.st_types.specs.declared.st_type.StType.TheVariants as type
use Rattle.st_types.specs.declared.st_type.StType.TheOpen.{StType-F}
use Rattle.st_tree.specs.declared.expression.Operator.{Operator}
use Rattle.st_tree.specs.declared.expression.Operator.TheVariants as operator
use Rattle.st_tree.specs.declared.expression.Root.{Root}
use Rattle.st_tree.specs.declared.expression.Root.TheVariants as root
use Rattle.st_tree.specs.declared.program.Note.{Note}
use Rattle.st_tree.specs.declared.program.Target.{Target}
use Rattle.st_tree.specs.declared.program.Target.TheVariants as target
use Rattle.st_tree.specs.declared.statement.Label.{Label}
use Rattle.st_tree.specs.declared.statement.LabelEnd.{LabelEnd}
use Rattle.st_tree.specs.Expression.{Expression, Int, Typed, Time, True, False, Null, Place, Call, Enumerator, Ref, Now, Paren, Not, Negate, Chain, Expressions, no_expressions, expression_then, Selector, Field, Index, Selectors, no_selectors, selector_then, Positional, Input, Output, Arguments, no_arguments, argument_then, Tails, no_tails, tail_then}
use Rattle.st_tree.specs.Expression as tree
use Rattle.st_tree.specs.Statement.{Statement, Empty, Assign, Attempt, Exit, Continue, Return, If, Case, For, While, Repeat, Statements, no_statements, statement_then, Branches, no_branches, branch_then, Cases, no_cases, case_then, Otherwise, Nothing, Else}
use Rattle.st_tree.specs.Statement as effect
use Rattle.st_values.specs.Program.{Variable, Recipient, to_local, to_variable, Parameter, Routine, Program}
use Rattle.st_values.specs.Initial.{note_of, initial_value}
use Rattle.st_values.specs.Shape.{Shape, Elementary, Enumeration, Reference, Interface, Array, Structure, Instance, Fields, no_fields, field_then, shape_of}
use Rattle.st_values.specs.Value.{Value, number, Values, no_values, value_then, Members}
use Rattle.st_meaning.specs.Operation.{elem_of}
use Rattle.st_meaning.specs.Place.{root_note, element_kind}
use Rattle.st_meaning.specs.Call.{by_instance, from_class, Callee, a_conversion, a_function, a_method, a_body, callee_of, is_in_out, is_output, parameter_number, parameter_named, next_parameter, behind_next, number_to}
use Rattle.st_meaning.specs.Expression.{selector_note}
use Rattle.st_meaning.specs.st_frame.Use.{called_of, receiver, last_kind}
use Rattle.st_meaning.specs.st_frame.Promise.Calls.{next_number}
use Rattle.stack_code.specs.declared.op.Op.{Op}
use Rattle.stack_code.specs.declared.op.Op.TheVariants as op
use Rattle.mem_layout.specs.store_bytes.Place.{size, gap, alignment}
use Rattle.mem_layout.specs.store_bytes.Image.{elements_of, members_of, first_of, rest_of}
use Rattle.code_cells.specs.declared.cell.Cell.{Cell}
use Rattle.code_cells.specs.declared.cell.Cell.TheVariants.{Does as does, Skips as skips, SkipsAt0 as skips_at_0, Returns as returns, ReturnsAt0 as returns_at_0}
use Rattle.code_cells.specs.Cell.{settled_from, Targets, behind}
use Rattle.code_rules.specs.declared.local.LocalPlace.{LocalPlace}
use Rattle.code_rules.specs.Plan.{Plan}
use Rattle.code_rules.specs.Places.{kind_in, is_large, room_of, width, locals_end, of_parameter, of_result, of_own, of_mask, block_size, result_place}
use Rattle.code_rules.specs.Code.{is_held, number_kind, operator_code, keeps_own, mask_of, arguments_by, index_op, method_call, call_op, behind_outputs, passed_room, named_value_code, local_code, held_code, followed_code, instance_code, give_code, inverted, operated_code, negated_code, target_code, large_code, taken_code, own_code, mask_code, passed_code, converted_code, call_value_code, named_code, root_code, part_code, fetch_code, widened_code, keep_code, output_rooms, output_code, same_code, enter_code, along_code, selected_code, indexed_code, value_code, chained_code, bound_code, operand_code, arguments_code, outputs_code, place_code, source_code, is_source, way_is_quiet}
use Rattle.code_rules.specs.Bodies.{label_code, labels_code, step_kind, within_code, advance_code, step_code, called_effect_code, call_code, assigned_code, effect_code, effects_code, branches_code, cases_code, otherwise_code, number_begins, each_begins, value_begins, fields_begin, shape_begins, locals_begin, in_block, guarded, in_out_in, argument_in, result_out, local_at, variable_at, own_kind, parameter_in, parameters_in, output_out, outputs_out, first_out, body_code, called_code, program_code, flags_in, hook_code}

-- of an instruction that calls by number P holds of the number
abbrev OpEnters : (ℕ → Type 0) → Op → Type 0
OpEnters P (op.Call k n) = P k
OpEnters P o = Unit {0}

abbrev CellEnters : (ℕ → Type 0) → Cell → Type 0
CellEnters P (does o line) = OpEnters P o
CellEnters P c = Unit {0}

abbrev AllEnter : (ℕ → Type 0) → List Cell → Type 0
AllEnter P [] = Unit {0}
AllEnter P (c ∷ cs) = CellEnters P c × AllEnter P cs

-- code that calls by number only what P holds of
pub record Only (P : ℕ → Type 0) (cs : List Cell) : Type 0 where
  pub all : AllEnter P cs

-- what calls by number in the instructions
pub only_called : (P : ℕ → Type 0) (pc : ℕ) (cs : List Cell) (at k n : ℕ) → Only P cs → slice_get (map (λ x. x.0) (settled_from pc cs)) at ≡ Some (op.Call k n) → P k
only_called P pc [] at k n h e = cc
only_called P pc (does o line ∷ cs) zero k n h e = let same : o ≡ op.Call k n = cc in subst (OpEnters P) same h.all.0
only_called P pc (skips m line ∷ cs) zero k n h e = cc
only_called P pc (skips_at_0 m line ∷ cs) zero k n h e = cc
only_called P pc (returns m line ∷ cs) zero k n h e = cc
only_called P pc (returns_at_0 m line ∷ cs) zero k n h e = cc
only_called P pc (c ∷ cs) (suc at) k n h e = only_called P (pc + 1) cs at k n (record { all = h.all.1 }) e

module _ (P : ℕ → Type 0) where
  nothing : Only P []
  nothing = record { all = tt }

  joined : (a b : List Cell) → AllEnter P a → AllEnter P b → AllEnter P (a ++ b)
  joined [] b h k = k
  joined (c ∷ a) b h k = (h.0, joined a b h.1 k)

  also : {a b : List Cell} → Only P a → Only P b → Only P (a ++ b)
  also {a = a} {b = b} h k = record { all = joined a b h.all k.all }

  -- a cell that calls nothing by number, or what P holds of
  cell : (c : Cell) {cs : List Cell} → CellEnters P c → Only P cs → Only P (c ∷ cs)
  cell c h k = record { all = (h, k.all) }

  last : (c : Cell) → CellEnters P c → Only P (c ∷ [])
  last c h = record { all = (h, tt) }

  one_of : (b : Bool) (x y : Op) → OpEnters P x → OpEnters P y → OpEnters P (if b then x else y)
  one_of true x y h k = h
  one_of false x y h k = k

  if_code : (b : Bool) (x y : List Cell) → Only P x → Only P y → Only P (if b then x else y)
  if_code true x y h k = h
  if_code false x y h k = k

  module _ (line : ℕ) where
    named_value_only : (a : Target) (t : StType) (place : List Cell) → Only P place → Only P (named_value_code line a t place)
    named_value_only (target.Constant z) t place h = last (does (op.Push z) line) tt
    named_value_only (target.Enumerator k) t place h = last _ tt
    named_value_only a t place h = h

    local_only : (o : Option LocalPlace) → Only P (local_code line o)
    local_only None = nothing
    local_only (Some v) = if_code v.in_out _ _ (record { all = (tt, (tt, (tt, tt))) }) (record { all = (tt, tt) })

    held_only : Only P (held_code line)
    held_only = record { all = (tt, (tt, tt)) }

    followed_only : (t : StType) → Only P (followed_code line t)
    followed_only (type.Instance c) = nothing
    followed_only t = held_only

    instance_only : (t : StType) → Only P (instance_code line t)
    instance_only (type.Interface i) = held_only
    instance_only t = nothing

    give_only : (at : ℕ) (t : StType) → Only P (give_code line at t)
    give_only at t = record { all = (tt, (one_of (is_held t) op.StoreRef (op.Store elem.Ulint) tt tt, tt)) }

    inverted_only : (o : Operator) (t : StType) → Only P (inverted line o t)
    inverted_only operator.Differs t = if_code (is_held t) _ [] (record { all = (tt, tt) }) nothing
    inverted_only o t = nothing

    operator_only : (o : Operator) (t u : StType) → OpEnters P (operator_code o t u)
    operator_only operator.Equal t u = one_of (is_held t) op.Same op.Eq tt tt
    operator_only operator.Differs t u = one_of (is_held t) op.Same op.Ne tt tt
    operator_only o t u = tt

    operated_only : (o : Operator) (t u : StType) (right : List Cell) → Only P right → Only P (operated_code line o t u right)
    operated_only operator.AndThen t u right h = record { all = (tt, (tt, (tt, h.all))) }
    operated_only operator.OrElse t u right h = record { all = (tt, (tt, (tt, (tt, h.all)))) }
    operated_only o t u right h = also h (cell (does (operator_code o t u) line) (operator_only o t u) (inverted_only o t))

    negated_only : (a : Note) (e : Expression Note) (operand : List Cell) → Only P operand → Only P (negated_code line a e operand)
    negated_only a (Int b digits) operand h = record { all = (tt, tt) }
    negated_only a e operand h = also h (last (does (op.Neg (elem_of a.kind)) line) tt)

    target_only : (c : Callee) (place : List Cell) → Only P place → Only P (target_code line c place)
    target_only (a_function k) place h = record { all = (tt, tt) }
    target_only c place h = h

    large_only : (at free : ℕ) (t : StType) → Only P (large_code line at free t)
    large_only at free t = if_code (is_large t) _ [] (record { all = (tt, (tt, (tt, tt))) }) nothing

    taken_only : (at : ℕ) (t : StType) → Only P (taken_code line at t)
    taken_only at t = record { all = (tt, (one_of (is_held t) op.LoadRef (op.Load (number_kind t)) tt tt, tt)) }

    own_only : (c : Callee) (at : ℕ) → Only P (own_code line c at)
    own_only c at = if_code (keeps_own c) _ [] (record { all = (tt, (tt, (tt, tt))) }) nothing

    mask_only : (at mask : ℕ) → Only P (mask_code line at mask)
    mask_only at mask = record { all = (tt, (tt, (tt, tt))) }

    passed_only : (o : Option Parameter) (at : ℕ) (t : StType) (value place : List Cell) → Only P value → Only P place → Only P (passed_code line o at t value place)
    passed_only None at t value place h k = nothing
    passed_only (Some q) at t value place h k =
        if_code (is_in_out q.sort) _ _ (also k (cell (does (op.Local at) line) tt (last (does op.StoreRef line) tt))) (also h (give_only at t))

    converted_only : (xs : Arguments Note) (t : StType) (operand : List Cell) → Only P operand → Only P (converted_code line xs t operand)
    converted_only (argument_then (Positional e) xs) t operand h = also h (last (does (op.Conv _ _) line) tt)
    converted_only xs t operand h = nothing

    call_value_only : (c : Callee) (xs : Arguments Note) (t : StType) (operand called : List Cell) (at : ℕ) → Only P operand → Only P called → Only P (call_value_code line c xs t operand called at)
    call_value_only a_conversion xs t operand called at h k = converted_only xs t operand h
    call_value_only c xs t operand called at h k = also k (taken_only at t)

    arguments_by_only : (c : Callee) (given same : List Cell) → Only P given → Only P same → Only P (arguments_by c given same)
    arguments_by_only (a_body (from_class d)) given same h k = k
    arguments_by_only c given same h k = h

    -- ---- CASE and FOR

    label_only : (l : Label Note) (left : ℕ) → Only P (label_code line l left)
    label_only l left = by l.last
      where
        by : (o : Option (LabelEnd Note)) → Only P (label_code line (record l { last = o }) left)
        by None = record { all = (tt, (tt, (tt, (tt, (tt, tt))))) }
        by (Some end) = record { all = (tt, (tt, (tt, (tt, (tt, (tt, (tt, (tt, (tt, tt))))))))) }

    labels_only : (ls : List (Label Note)) → Only P (labels_code line ls)
    labels_only [] = nothing
    labels_only (l ∷ ls) = also (label_only l (length (labels_code line ls))) (labels_only ls)

    within_only : (free : ℕ) (e to by : Elem) (place : List Cell) → Only P place → Only P (within_code line free e to by place)
    within_only free e to by place h =
        let test : (o : Op) → OpEnters P o → Only P (place ++ (does (op.Load e) line ∷ (does (op.Local free) line ∷ (does (op.Load to) line ∷ (does o line ∷ []))))) = λ o k. also h (record { all = (tt, (tt, (tt, (k, tt)))) }) in
        record { all = (tt, (tt, (tt, (tt, (tt, (also (test op.Ge tt) (cell (skips _ line) tt (test op.Le tt))).all))))) }

    advance_only : (free : ℕ) (e by : Elem) (place : List Cell) → Only P place → Only P (advance_code line free e by place)
    advance_only free e by place h =
        let stored : Only P (place ++ does (op.Store e) line ∷ []) = also h (last (does (op.Store e) line) tt) in
        also h (record { all = (tt, (tt, (tt, (tt, (tt, (also h (cell (does (op.Store e) line) tt (cell (skips _ line) tt stored))).all))))) })

    -- ---- initial values

    number_only : (e : Elem) (v : Value) (at : ℕ) → Only P (number_begins line e v at)
    number_only e (number (pos zero)) at = nothing
    number_only e (number (pos (suc n))) at = record { all = (tt, (tt, (tt, tt))) }
    number_only e (number (negsuc n)) at = record { all = (tt, (tt, (tt, tt))) }
    number_only e v at = nothing

    each_only : (f : Value → ℕ → List Cell) (n : ℕ) (vs : Values) (at : ℕ) → ((v : Value) (at : ℕ) → Only P (f v at)) → Only P (each_begins line f n vs at)
    each_only f n no_values at h = nothing
    each_only f n (value_then v vs) at h = also (h v at) (each_only f n vs (at + n) h)

    mutual
      begins_only : (sh : Shape) (v : Value) (at : ℕ) → Only P (value_begins line sh v at)
      begins_only (Elementary e) v at = number_only e v at
      begins_only (Enumeration name values) v at = number_only elem.Udint v at
      begins_only (Array low n sh) v at = each_only (value_begins line sh) (size sh) (elements_of v) at (λ x k. begins_only sh x k)
      begins_only (Structure name fs) v at = fields_only 0 fs (members_of v) at
      begins_only (Reference c name) v at = nothing
      begins_only (Interface i name) v at = nothing
      begins_only (Instance c name fs) v at = nothing

      fields_only : (offset : ℕ) (fs : Fields) (ms : Members) (at : ℕ) → Only P (fields_begin line offset fs ms at)
      fields_only offset no_fields ms at = nothing
      fields_only offset (field_then x sh fs) ms at = also (begins_only sh (first_of ms) (at + (offset + gap (alignment sh) offset))) (fields_only (offset + gap (alignment sh) offset + size sh) fs (rest_of ms) at)

    shaped_only : (o : Option Shape) (v : Value) (at : ℕ) → Only P (shape_begins line o v at)
    shaped_only None v at = nothing
    shaped_only (Some sh) v at = begins_only sh v at

    locals_only : (p : Program) (at : ℕ) (vs : List Variable) → Only P (locals_begin p line at vs)
    locals_only p at [] = nothing
    locals_only p at (v ∷ vs) = also (if_code (is_in_out v.sort) [] _ nothing (shaped_only (shape_of p v.kind) (initial_value p v) at)) (locals_only p (at + width p v) vs)

    block_only : (at : ℕ) → Only P (in_block line at)
    block_only at = record { all = (tt, (tt, (tt, tt))) }

    guarded_only : (mask i : ℕ) (cs : List Cell) → Only P cs → Only P (guarded line mask i cs)
    guarded_only mask i cs h = also (block_only mask) (record { all = (tt, (tt, (tt, (tt, h.all)))) })

    in_out_only : (at : ℕ) (place : List Cell) → Only P place → Only P (in_out_in line at place)
    in_out_only at place h = also (block_only at) (cell (does op.LoadRef line) tt (also h (last (does op.StoreRef line) tt)))

module _ (P : ℕ → Type 0) (w : Plan) (functions : (k : ℕ) → P (w.tables.function_routine k)) (methods : (d : ℕ) (name : List ℕ) → P (w.tables.method_routine d name)) (bodies : (c : ℕ) → P (w.tables.body_routine c)) where
  index_only : (o : StType-F StType) → OpEnters P (index_op w o)
  index_only (StType-F.Array low high of) = tt
  index_only o = tt

  method_only : (t : StType) (name : List ℕ) → OpEnters P (method_call w t name)
  method_only (type.Interface i) name = tt
  method_only t name = tt

  call_only : (c : Callee) (t whole : StType) → OpEnters P (call_op w c t whole)
  call_only a_conversion t whole = tt
  call_only (a_function k) t whole = functions k
  call_only (a_method by_instance name) t whole = method_only t name
  call_only (a_method (from_class d) name) t whole = methods d name
  call_only (a_body by_instance) t whole = tt
  call_only (a_body (from_class d)) t whole = bodies d

  module _ (line : ℕ) where
    named_only : (a : Target) → Only P (named_code w line a)
    named_only (target.Local n) = local_only P line (slice_get w.locals n)
    named_only (target.Region r) = record { all = (tt, tt) }
    named_only (target.Variable k) = record { all = (tt, tt) }
    named_only (target.Method m) = record { all = (tt, tt) }
    named_only a = nothing P

    root_only : (r : Root Note) → Only P (root_code w line r)
    root_only (root.Name a name) = named_only a.target
    root_only r = record { all = (tt, tt) }

    part_only : (t : StType) (a : Target) → Only P (part_code w line t a)
    part_only t (target.Field k) = record { all = (tt, tt) }
    part_only t (target.Variable k) = record { all = (tt, tt) }
    part_only t (target.Method m) = instance_only P line t
    part_only t a = nothing P

    fetch_only : (free : ℕ) (t : StType) → Only P (fetch_code w line free t)
    fetch_only free (type.Elementary e) = record { all = (tt, tt) }
    fetch_only free (type.Enumeration n) = record { all = (tt, tt) }
    fetch_only free (type.Reference c) = record { all = (tt, tt) }
    fetch_only free (type.Interface i) = record { all = (tt, tt) }
    fetch_only free (type.Instance c) = nothing P
    fetch_only free t = record { all = (tt, (tt, (tt, tt))) }

    widened_only : (free : ℕ) (t : StType) (n : Elem) → Only P (widened_code w line free t n)
    widened_only free (type.Elementary e) n = record { all = (tt, tt) }
    widened_only free t n = fetch_only free t

    keep_only : (t : StType) → Only P (keep_code w line t)
    keep_only (type.Elementary e) = record { all = (tt, tt) }
    keep_only (type.Enumeration n) = record { all = (tt, tt) }
    keep_only (type.Reference c) = record { all = (tt, tt) }
    keep_only (type.Interface i) = record { all = (tt, tt) }
    keep_only t = record { all = (tt, tt) }

    rooms_only : (block free : ℕ) (xs : Arguments Note) → Only P (output_rooms w line block free xs)
    rooms_only block free no_arguments = nothing P
    rooms_only block free (argument_then (Output a name b r ss) xs) =
        also P (large_only P line (block + of_parameter (parameter_number a.target)) free (last_kind (root_note r).kind ss)) (rooms_only block (free + room_of w.size_of (last_kind (root_note r).kind ss)) xs)
    rooms_only block free (argument_then (Positional e) xs) = rooms_only block free xs
    rooms_only block free (argument_then (Input a name e) xs) = rooms_only block free xs

    output_only : (o : Option Parameter) (at own free : ℕ) (t whole : StType) → Only P (output_code w line o at own free t whole)
    output_only None at own free t whole = nothing P
    output_only (Some q) at own free t whole = by q.to
      where
        by : (to : Recipient) → Only P (output_code w line (Some (record q { to = to })) at own free t whole)
        by (to_local n) = taken_only P line at t
        by (to_variable k) = record { all = (tt, (tt, (tt, (widened_only free t (w.kind_of whole k)).all))) }

    same_only : (block i : ℕ) (qs : List Parameter) → Only P (same_code w line block i qs)
    same_only block i [] = nothing P
    same_only block i (q ∷ qs) =
        also P (if_code P (is_in_out q.sort) _ [] (also P (local_only P line (slice_get w.locals (number_to q.to))) (record { all = (tt, (tt, tt)) })) (nothing P)) (same_only block (suc i) qs)

    called_cells : (c : Callee) (t whole : StType) (free : ℕ) (outputs : List Cell) → Only P outputs → Only P (does (op.Local free) line ∷ (does op.Tick line ∷ (does (call_op w c t whole) line ∷ outputs)))
    called_cells c t whole free outputs h = record { all = (tt, (tt, (call_only c t whole, h.all))) }

    enter_only : (c : Callee) (ps : List Parameter) (free : ℕ) (t whole : StType) (place arguments rooms : List Cell) (mask : ℕ) (outputs : List Cell) → Only P place → Only P arguments → Only P rooms → Only P outputs
        → Only P (enter_code w line c ps free t whole place arguments rooms mask outputs)
    enter_only c ps free t whole place arguments rooms mask outputs h k l o =
        also P (target_only P line c place h) (also P (own_only P line c (free + of_own)) (also P k (also P l (also P (mask_only P line (free + of_mask) mask) (called_cells c t whole free outputs o)))))

    mutual
      along_only : (free : ℕ) (ss : Selectors Note) (t : StType) → Only P (along_code w line free ss t)
      along_only free no_selectors t = nothing P
      along_only free (selector_then s ss) t = also P (selected_only free s t) (along_only free ss (selector_note s).kind)

      selected_only : (free : ℕ) (s : Selector Note) (t : StType) → Only P (selected_code w line free s t)
      selected_only free (Field a name) t = part_only t a.target
      selected_only free (Index a es) t = indexed_only free es t
      selected_only free (tree.Target a) t = followed_only P line t

      indexed_only : (free : ℕ) (es : Expressions Note) (t : StType) → Only P (indexed_code w line free es t)
      indexed_only free no_expressions t = nothing P
      indexed_only free (expression_then e es) t = also P (value_only free e) (cell P (does (index_op w (out-StType t)) line) (index_only (out-StType t)) (indexed_only free es (element_kind t)))

      value_only : (free : ℕ) (e : Expression Note) → Only P (value_code w line free e)
      value_only free (Int a digits) = record { all = (tt, tt) }
      value_only free (Typed a k literal) = record { all = (tt, tt) }
      value_only free (Time a text) = record { all = (tt, tt) }
      value_only free (True a) = record { all = (tt, tt) }
      value_only free (False a) = record { all = (tt, tt) }
      value_only free (Null a) = record { all = (tt, tt) }
      value_only free (Place a r ss) = named_value_only P line a.target a.kind _ (also P (also P (root_only r) (along_only free ss (root_note r).kind)) (fetch_only free a.kind))
      value_only free (Call a r ss xs) =
          let c = callee_of r ss in
          let ps = w.parameters (called_of r ss) in
          let whole = last_kind (root_note r).kind ss in
          let block = free + room_of w.size_of a.kind in
          let rooms = block + block_size (length ps) in
          call_value_only P line c xs a.kind (operand_code w line free xs) _ (block + of_result) (operand_only free xs)
          (enter_only c ps block (receiver (root_note r).kind ss) whole (root_code w line r ++ along_code w line free ss (root_note r).kind)
          (arguments_by c (arguments_code w line block (behind_outputs w rooms xs) ps 0 ps xs) (same_code w line block 0 ps))
          (output_rooms w line block rooms xs ++ large_code line (block + of_result) free a.kind)
          (mask_of c ps true xs)
          (outputs_code w line block (behind_outputs w rooms xs) ps whole xs)
          (also P (root_only r) (along_only free ss (root_note r).kind))
          (arguments_by_only P line c _ _ (arguments_only block (behind_outputs w rooms xs) ps 0 ps xs) (same_only block 0 ps))
          (also P (rooms_only block rooms xs) (large_only P line (block + of_result) free a.kind))
          (outputs_only block (behind_outputs w rooms xs) ps whole xs))
      value_only free (Enumerator a t b name) = record { all = (tt, tt) }
      value_only free (Ref a r ss) = also P (root_only r) (along_only free ss (root_note r).kind)
      value_only free (Now a) = record { all = (tt, tt) }
      value_only free (Paren a e) = value_only free e
      value_only free (Not a e) = also P (value_only free e) (record { all = (tt, tt) })
      value_only free (Negate a e) = negated_only P line a e (value_code w line free e) (value_only free e)
      value_only free (Chain a e ts) = also P (value_only free e) (chained_only free (note_of e).kind ts)

      chained_only : (free : ℕ) (t : StType) (ts : Tails Note) → Only P (chained_code w line free t ts)
      chained_only free t no_tails = nothing P
      chained_only free t (tail_then a o e ts) = also P (operated_only P line o t a.kind (value_code w line free e) (value_only free e)) (chained_only free a.kind ts)

      bound_only : (free : ℕ) (e : Expression Note) → Only P (bound_code w line free e)
      bound_only free (Place a r ss) = also P (root_only r) (along_only free ss (root_note r).kind)
      bound_only free e = nothing P

      operand_only : (free : ℕ) (xs : Arguments Note) → Only P (operand_code w line free xs)
      operand_only free (argument_then (Positional e) xs) = value_only free e
      operand_only free xs = nothing P

      arguments_only : (block free : ℕ) (ps : List Parameter) (i : ℕ) (left : List Parameter) (xs : Arguments Note) → Only P (arguments_code w line block free ps i left xs)
      arguments_only block free ps i left no_arguments = nothing P
      arguments_only block free ps i left (argument_then (Positional e) xs) =
          also P (passed_only P line (next_parameter left) (block + of_parameter (next_number i left)) (note_of e).kind (value_code w line free e) (bound_code w line free e) (value_only free e) (bound_only free e))
          (arguments_only block (free + passed_room w (next_parameter left) (note_of e).kind) ps (suc (next_number i left)) (behind_next left) xs)
      arguments_only block free ps i left (argument_then (Input a name e) xs) =
          also P (passed_only P line (parameter_named ps a) (block + of_parameter (parameter_number a.target)) (note_of e).kind (value_code w line free e) (bound_code w line free e) (value_only free e) (bound_only free e))
          (arguments_only block (free + passed_room w (parameter_named ps a) (note_of e).kind) ps i left xs)
      arguments_only block free ps i left (argument_then (Output a name b r ss) xs) = arguments_only block free ps i left xs

      outputs_only : (block free : ℕ) (ps : List Parameter) (whole : StType) (xs : Arguments Note) → Only P (outputs_code w line block free ps whole xs)
      outputs_only block free ps whole no_arguments = nothing P
      outputs_only block free ps whole (argument_then (Output a name b r ss) xs) =
          let t = last_kind (root_note r).kind ss in
          also P (output_only (parameter_named ps a) (block + of_parameter (parameter_number a.target)) (block + of_own) free t whole)
          (also P (also P (root_only r) (along_only (free + room_of w.size_of t) ss (root_note r).kind)) (also P (keep_only t) (outputs_only block free ps whole xs)))
      outputs_only block free ps whole (argument_then (Positional e) xs) = outputs_only block free ps whole xs
      outputs_only block free ps whole (argument_then (Input a name e) xs) = outputs_only block free ps whole xs

    place_only : (free : ℕ) (r : Root Note) (ss : Selectors Note) → Only P (place_code w line free r ss)
    place_only free r ss = also P (root_only r) (along_only free ss (root_note r).kind)

    source_only : (free : ℕ) (e : Expression Note) → Only P (source_code w line free e)
    source_only free (Place a r ss) = place_only free r ss
    source_only free (Paren a e) = source_only free e
    source_only free e = nothing P

    -- ---- statements without bodies

    step_only : (free : ℕ) (by : Option (Expression Note)) → Only P (step_code w line free by)
    step_only free None = record { all = (tt, tt) }
    step_only free (Some e) = also P (value_only free e) (record { all = (tt, tt) })

    called_effect_only : (free : ℕ) (c : Callee) (xs : Arguments Note) (called : List Cell) → Only P called → Only P (called_effect_code w line free c xs called)
    called_effect_only free a_conversion xs called h = also P (operand_only free xs) (record { all = (tt, tt) })
    called_effect_only free c xs called h = h

    call_effect_only : (free : ℕ) (r : Root Note) (ss : Selectors Note) (xs : Arguments Note) → Only P (call_code w line free r ss xs)
    call_effect_only free r ss xs =
        let c = callee_of r ss in
        let ps = w.parameters (called_of r ss) in
        let whole = last_kind (root_note r).kind ss in
        let rooms = free + block_size (length ps) in
        called_effect_only free c xs _
        (enter_only c ps free (receiver (root_note r).kind ss) whole (place_code w line free r ss)
        (arguments_by c (arguments_code w line free (behind_outputs w rooms xs) ps 0 ps xs) (same_code w line free 0 ps))
        (output_rooms w line free rooms xs)
        (mask_of c ps false xs)
        (outputs_code w line free (behind_outputs w rooms xs) ps whole xs)
        (place_only free r ss)
        (arguments_by_only P line c _ _ (arguments_only free (behind_outputs w rooms xs) ps 0 ps xs) (same_only free 0 ps))
        (rooms_only free rooms xs)
        (outputs_only free (behind_outputs w rooms xs) ps whole xs))

    assigned_only : (free : ℕ) (t : StType) (r : Root Note) (ss : Selectors Note) (e : Expression Note) (b : Bool) → Only P (assigned_code w line free t r ss e b)
    assigned_only free t r ss e true = also P (source_only free e) (also P (place_only free r ss) (keep_only t))
    assigned_only free t r ss e false = also P (value_only free e) (also P (place_only (free + room_of w.size_of (note_of e).kind) r ss) (keep_only t))

  -- ---- statements

  mutual
    effect_only : (to : Targets) (free : ℕ) (s : Statement Note) → Only P (effect_code w to free s)
    effect_only to free (Empty line) = nothing P
    effect_only to free (Assign line a r ss e) = cell P (does op.Tick line) tt (assigned_only line free a.kind r ss e (is_large a.kind && (is_source e && way_is_quiet ss)))
    effect_only to free (Attempt line a r ss e) =
        cell P (does op.Tick line) tt (also P (value_only line free e) (cell P (does (op.Try (w.tables.conversion_target a.kind)) line) tt (also P (place_only line free r ss) (last P (does op.StoreRef line) tt))))
    effect_only to free (effect.Call line a r ss xs) = cell P (does op.Tick line) tt (call_effect_only line free r ss xs)
    effect_only to free (Exit line) = record { all = (tt, (tt, tt)) }
    effect_only to free (Continue line) = record { all = (tt, (tt, tt)) }
    effect_only to free (Return line) = record { all = (tt, (tt, tt)) }
    effect_only to free (If line branches otherwise) = cell P (does op.Tick line) tt (branches_only line to free branches (otherwise_code w to free otherwise) (otherwise_only to free otherwise))
    effect_only to free (Case line e cases otherwise) =
        cell P (does op.Tick line) tt (also P (value_only line free e) (cases_only line to free cases (does op.Drop line ∷ otherwise_code w to free otherwise) (cell P (does op.Drop line) tt (otherwise_only to free otherwise))))
    effect_only to free (For line a name from end by body) =
        let e = elem_of a.kind in
        let place = named_code w line a.target in
        let named = named_only line a.target in
        let advance = advance_code line free e (step_kind a.kind by) place in
        let inner : Targets = record { to_exit = length advance + 1; to_continue = 0; to_return = length advance + 1 + to.to_return } in
        cell P (does op.Tick line) tt (also P (value_only line free from) (also P (value_only line free end)
        (cell P (does (op.Local free) line) tt (cell P (does (op.Store (number_kind (note_of end).kind)) line) tt
        (also P (step_only line (free + 8) by) (cell P (does (op.Local (free + 8)) line) tt (cell P (does (op.Store (step_kind a.kind by)) line) tt
        (also P named (cell P (does (op.Store e) line) tt
        (cell P (does op.Tick line) tt (also P (within_only P line free e (number_kind (note_of end).kind) (step_kind a.kind by) place named)
        (cell P (skips_at_0 _ line) tt (also P (effects_only inner (free + 16) body) (also P (advance_only P line free e (step_kind a.kind by) place named) (last P (returns _ line) tt)))))))))))))))
    effect_only to free (While line e body) =
        let inner : Targets = record { to_exit = 1; to_continue = 0; to_return = 1 + to.to_return } in
        cell P (does op.Tick line) tt (cell P (does op.Tick line) tt (also P (value_only line free e) (cell P (skips_at_0 _ line) tt (also P (effects_only inner free body) (last P (returns _ line) tt)))))
    effect_only to free (Repeat line body e) =
        let ce = value_code w line free e in
        let inner : Targets = record { to_exit = 1 + length ce + 1; to_continue = 0; to_return = 1 + length ce + 1 + to.to_return } in
        cell P (does op.Tick line) tt (also P (effects_only inner free body) (cell P (does op.Tick line) tt (also P (value_only line free e) (last P (returns_at_0 _ line) tt))))

    effects_only : (to : Targets) (free : ℕ) (ss : Statements Note) → Only P (effects_code w to free ss)
    effects_only to free no_statements = nothing P
    effects_only to free (statement_then s ss) = also P (effect_only (behind (length (effects_code w to free ss)) to) free s) (effects_only to free ss)

    branches_only : (line : ℕ) (to : Targets) (free : ℕ) (bs : Branches Note) (otherwise : List Cell) → Only P otherwise → Only P (branches_code w line to free bs otherwise)
    branches_only line to free no_branches otherwise h = h
    branches_only line to free (branch_then e body bs) otherwise h =
        let rest = branches_code w line to free bs otherwise in
        also P (value_only line free e) (cell P (skips_at_0 _ line) tt (also P (effects_only (behind (1 + length rest) to) free body) (cell P (skips _ line) tt (branches_only line to free bs otherwise h))))

    cases_only : (line : ℕ) (to : Targets) (free : ℕ) (cs : Cases Note) (otherwise : List Cell) → Only P otherwise → Only P (cases_code w line to free cs otherwise)
    cases_only line to free no_cases otherwise h = h
    cases_only line to free (case_then labels body cs) otherwise h =
        let rest = cases_code w line to free cs otherwise in
        also P (labels_only P line labels) (cell P (skips _ line) tt (cell P (does op.Drop line) tt (also P (effects_only (behind (1 + length rest) to) free body) (cell P (skips _ line) tt (cases_only line to free cs otherwise h)))))

    otherwise_only : (to : Targets) (free : ℕ) (o : Otherwise Note) → Only P (otherwise_code w to free o)
    otherwise_only to free Nothing = nothing P
    otherwise_only to free (Else body) = effects_only to free body

  -- ---- routines

  module _ (p : Program) (line : ℕ) (r : Routine) (start : ℕ) where
    argument_only : (at : ℕ) (t : StType) (place : List Cell) → Only P place → Only P (argument_in w line at t place)
    argument_only at t place h = also P (block_only P line at) (cell P (does (if is_held t then op.LoadRef else op.Load elem.Ulint) line) (one_of P (is_held t) op.LoadRef (op.Load elem.Ulint) tt tt) (also P h (keep_only line t)))

    result_only : (at : ℕ) (t : StType) (place : List Cell) → Only P place → Only P (result_out w line at t place)
    result_only at t place h =
        if_code P (is_large t) _ _ (also P h (also P (block_only P line at) (record { all = (tt, (tt, tt)) })))
        (also P h (also P (fetch_only line 0 t) (also P (block_only P line at) (last P (does (if is_held t then op.StoreRef else op.Store elem.Ulint) line) (one_of P (is_held t) op.StoreRef (op.Store elem.Ulint) tt tt)))))

    local_at_only : (n : ℕ) → Only P (local_at p w line r start n)
    local_at_only n = record { all = (tt, tt) }

    variable_at_only : (k : ℕ) → Only P (variable_at p w line r start k)
    variable_at_only k = record { all = (tt, tt) }

    parameter_only : (at : ℕ) (q : Parameter) → Only P (parameter_in p w line r start at q)
    parameter_only at q = by q.to
      where
        by : (to : Recipient) → Only P (parameter_in p w line r start at (record q { to = to }))
        by (to_local n) = if_code P (is_in_out q.sort) _ _ (in_out_only P line at (local_at p w line r start n) (local_at_only n)) (argument_only at (kind_in (slice_get r.locals n)) (local_at p w line r start n) (local_at_only n))
        by (to_variable k) = argument_only at (own_kind p w line r start k) (variable_at p w line r start k) (variable_at_only k)

    parameters_only : (i : ℕ) (qs : List Parameter) → Only P (parameters_in p w line r start i qs)
    parameters_only i [] = nothing P
    parameters_only i (q ∷ qs) = also P (if_code P (is_output q.sort) [] _ (nothing P) (guarded_only P line of_mask i _ (parameter_only (of_parameter i) q))) (parameters_only (suc i) qs)

    output_out_only : (at : ℕ) (q : Parameter) → Only P (output_out p w line r start at q)
    output_out_only at q = by q.to
      where
        by : (to : Recipient) → Only P (output_out p w line r start at (record q { to = to }))
        by (to_local n) = result_only at (kind_in (slice_get r.locals n)) (local_at p w line r start n) (local_at_only n)
        by (to_variable k) = nothing P

    outputs_out_only : (i : ℕ) (qs : List Parameter) → Only P (outputs_out p w line r start i qs)
    outputs_out_only i [] = nothing P
    outputs_out_only i (q ∷ qs) = also P (if_code P (is_output q.sort) _ [] (guarded_only P line of_mask i _ (output_out_only (of_parameter i) q)) (nothing P)) (outputs_out_only (suc i) qs)

    first_only : (o : Option Variable) → Only P (first_out p w line r start o)
    first_only None = nothing P
    first_only (Some v) = if_code P (is_in_out v.sort) [] _ (nothing P) (guarded_only P line of_mask result_place _ (result_only of_result v.kind (local_at p w line r start 0) (local_at_only 0)))

    body_only : Only P (body_code p w line r start)
    body_only = effects_only (record { to_exit = 0; to_continue = 0; to_return = 0 }) (locals_end p start r.locals) r.body

    ret_only : Only P (does (op.Ret 0) line ∷ [])
    ret_only = record { all = (tt, tt) }

    pub called_only : Only P (called_code p w line r start)
    called_only = also P (locals_only P line p start r.locals) (also P (parameters_only 0 r.parameters) (also P body_only (also P (outputs_out_only 0 r.parameters) (also P (first_only (slice_get r.locals 0)) ret_only))))

    pub program_only : Only P (program_code p w line r start)
    program_only = also P (locals_only P line p start r.locals) (also P body_only ret_only)

    flag_only : (i : ℕ) (q : Parameter) (qs : List Parameter) → Only P (flags_in p w line r start (suc i) qs) → Only P (flags_in p w line r start i (q ∷ qs))
    flag_only i q qs h = by q.to
      where
        by : (to : Recipient) → Only P (flags_in p w line r start i (record q { to = to } ∷ qs))
        by (to_local n) = record { all = (tt, (tt, (tt, (tt, h.all)))) }
        by (to_variable k) = record { all = (tt, (tt, (tt, (tt, h.all)))) }

    flags_only : (i : ℕ) (qs : List Parameter) → Only P (flags_in p w line r start i qs)
    flags_only i [] = nothing P
    flags_only i (q ∷ qs) = flag_only i q qs (flags_only (suc i) qs)

    pub hook_only : Only P (hook_code p w line r start)
    hook_only = also P (locals_only P line p start r.locals) (also P (flags_only 0 r.parameters) (also P body_only ret_only))
