-- The code of statements and routines.
use Rattle.std.specs.Prelude.{ℕ, zero, suc, ◌+◌, ◌*◌, pos, Bool, true, false, ◌&&◌, if◌then◌else◌, List, [], ◌∷◌, ◌++◌, length, Option, Some, None, slice_get}
use Rattle.st_types.specs.declared.elem.Elem.{Elem}
use Rattle.st_types.specs.declared.elem.Elem.TheVariants as elem
use Rattle.st_types.specs.declared.st_type.StType.{StType}
use Rattle.st_types.specs.declared.st_type.StType.TheVariants as type
use Rattle.st_tree.specs.declared.program.Note.{Note}
use Rattle.st_tree.specs.declared.statement.Label.{Label}
use Rattle.st_tree.specs.declared.statement.LabelEnd.{LabelEnd}
use Rattle.st_tree.specs.Expression.{Expression, Arguments, Selectors}
use Rattle.st_tree.specs.declared.expression.Root.{Root}
use Rattle.st_tree.specs.Statement.{Statement, Empty, Assign, Attempt, Call, Exit, Continue, Return, If, Case, For, While, Repeat, Statements, no_statements, statement_then, Branches, no_branches, branch_then, Cases, no_cases, case_then, Otherwise, Nothing, Else}
use Rattle.st_values.specs.Program.{Variable, Recipient, to_local, to_variable, Parameter, Routine, Program, class_variables}
use Rattle.st_values.specs.Value.{Value, number, Values, no_values, value_then, Members}
use Rattle.st_values.specs.Shape.{Shape, Elementary, Enumeration, Array, Structure, Instance, Fields, no_fields, field_then, shape_of}
use Rattle.mem_layout.specs.store_bytes.Place.{size, gap, alignment}
use Rattle.mem_layout.specs.store_bytes.Image.{elements_of, members_of, first_of, rest_of}
use Rattle.st_values.specs.Initial.{note_of, initial_value}
use Rattle.st_meaning.specs.Operation.{elem_of}
use Rattle.st_meaning.specs.Place.{root_note}
use Rattle.st_meaning.specs.Call.{Callee, a_conversion, callee_of, is_in_out, is_output}
use Rattle.st_meaning.specs.Statement.{end_value}
use Rattle.code_rules.specs.Plan.{Plan}
use Rattle.st_meaning.specs.st_frame.Use.{called_of, receiver, last_kind}
use Rattle.stack_code.specs.declared.op.Op.{Op}
use Rattle.stack_code.specs.declared.op.Op.TheVariants as op
use Rattle.code_cells.specs.declared.cell.Cell.{Cell}
use Rattle.code_cells.specs.declared.cell.Cell.TheVariants.{Does as does, Skips as skips, SkipsAt0 as skips_at_0, Returns as returns, ReturnsAt0 as returns_at_0}
use Rattle.code_cells.specs.Cell.{Targets, behind}
use Rattle.code_rules.specs.Places.{kind_in, is_large, room_of, local_offset, locals_end, width, of_parameter, of_result, of_mask, block_size, result_place}
use Rattle.code_rules.specs.Code.{number_kind, is_held, bit, value_code, place_code, named_code, keep_code, fetch_code, enter_code, arguments_by, arguments_code, outputs_code, output_rooms, behind_outputs, same_code, mask_of, operand_code, class_of, source_code, is_source, way_is_quiet}

-- ---- CASE: the selector's value is on top

-- goes past the code behind the labels' where one holds
abbrev pub label_code : ℕ → Label Note → ℕ → List Cell
label_code line l left = by l.last
  where
    by : Option (LabelEnd Note) → List Cell
    by None = does op.Dup line ∷ (does (op.Push (end_value l.first)) line ∷ (does op.Eq line ∷ (skips_at_0 1 line ∷ (skips (suc left) line ∷ []))))
    by (Some last) =
        does op.Dup line ∷ (does (op.Push (end_value l.first)) line ∷ (does op.Ge line ∷ (skips_at_0 5 line ∷
        (does op.Dup line ∷ (does (op.Push (end_value last)) line ∷ (does op.Le line ∷ (skips_at_0 1 line ∷ (skips (suc left) line ∷ []))))))))

abbrev pub labels_code : ℕ → List (Label Note) → List Cell
labels_code line [] = []
labels_code line (l ∷ ls) = let rest = labels_code line ls in label_code line l (length rest) ++ rest

-- ---- FOR: the end and the step are kept behind the locals

abbrev pub step_kind : StType → Option (Expression Note) → Elem
step_kind t None = elem_of t
step_kind t (Some e) = number_kind (note_of e).kind

-- whether the variable has not passed the end
abbrev pub within_code : ℕ → ℕ → Elem → Elem → Elem → List Cell → List Cell
within_code line free e to by place =
    let test : Op → List Cell = λ o. place ++ (does (op.Load e) line ∷ (does (op.Local free) line ∷ (does (op.Load to) line ∷ (does o line ∷ [])))) in
    does (op.Local (free + 8)) line ∷ (does (op.Load by) line ∷ (does (op.Push (pos 0)) line ∷ (does op.Lt line ∷ (skips_at_0 (suc (length (test op.Ge))) line ∷
    (test op.Ge ++ (skips (length (test op.Le)) line ∷ test op.Le))))))

-- the step; where it wrapped, past the code behind
abbrev pub advance_code : ℕ → ℕ → Elem → Elem → List Cell → List Cell
advance_code line free e by place =
    place ++ (does (op.Load e) line ∷ (does (op.Local (free + 8)) line ∷ (does (op.Load by) line ∷ (does (op.AddC e) line ∷
    (skips_at_0 (length place + 2) line ∷ (place ++ (does (op.Store e) line ∷ (skips (length place + 2) line ∷ (place ++ does (op.Store e) line ∷ [])))))))))

module _ (w : Plan) where
  abbrev pub step_code : ℕ → ℕ → Option (Expression Note) → List Cell
  step_code line free None = does (op.Push (pos 1)) line ∷ []
  step_code line free (Some e) = value_code w line free e ++ does op.NoZero line ∷ []

  -- ---- calls

  -- a conversion as a statement, or a call
  abbrev pub called_effect_code : ℕ → ℕ → Callee → Arguments Note → List Cell → List Cell
  called_effect_code line free a_conversion xs called = operand_code w line free xs ++ does op.Drop line ∷ []
  called_effect_code line free c xs called = called

  abbrev pub call_code : ℕ → ℕ → Root Note → Selectors Note → Arguments Note → List Cell
  call_code line free r ss xs =
      let c = callee_of r ss in
      let ps = w.parameters (called_of r ss) in
      let whole = last_kind (root_note r).kind ss in
      let rooms = free + block_size (length ps) in
      called_effect_code line free c xs
      (enter_code w line c ps free (receiver (root_note r).kind ss) whole (place_code w line free r ss)
      (arguments_by c (arguments_code w line free (behind_outputs w rooms xs) ps 0 ps xs) (same_code w line free 0 ps))
      (output_rooms w line free rooms xs)
      (mask_of c ps false xs)
      (outputs_code w line free (behind_outputs w rooms xs) ps whole xs))

  -- ---- assignments

  -- A whole array or structure is copied from where it stands where finding the target calls nothing; else it is kept behind the locals while the target is found.
  abbrev pub assigned_code : ℕ → ℕ → StType → Root Note → Selectors Note → Expression Note → Bool → List Cell
  assigned_code line free t r ss e true = source_code w line free e ++ (place_code w line free r ss ++ keep_code w line t)
  assigned_code line free t r ss e false = value_code w line free e ++ (place_code w line (free + room_of w.size_of (note_of e).kind) r ss ++ keep_code w line t)

  -- ---- statements

  abbrev mutual
    pub effect_code : Targets → ℕ → Statement Note → List Cell
    effect_code to free (Empty line) = []
    effect_code to free (Assign line a r ss e) =
        does op.Tick line ∷ assigned_code line free a.kind r ss e (is_large a.kind && (is_source e && way_is_quiet ss))
    effect_code to free (Attempt line a r ss e) =
        does op.Tick line ∷ (value_code w line free e ++ (does (op.Try (w.tables.conversion_target a.kind)) line ∷ (place_code w line free r ss ++ does op.StoreRef line ∷ [])))
    effect_code to free (Call line a r ss xs) = does op.Tick line ∷ call_code line free r ss xs
    effect_code to free (Exit line) = does op.Tick line ∷ (skips to.to_exit line ∷ [])
    effect_code to free (Continue line) = does op.Tick line ∷ (skips to.to_continue line ∷ [])
    effect_code to free (Return line) = does op.Tick line ∷ (skips to.to_return line ∷ [])
    effect_code to free (If line branches otherwise) = does op.Tick line ∷ branches_code line to free branches (otherwise_code to free otherwise)
    effect_code to free (Case line e cases otherwise) =
        does op.Tick line ∷ (value_code w line free e ++ cases_code line to free cases (does op.Drop line ∷ otherwise_code to free otherwise))
    effect_code to free (For line a name from end by body) =
        let e = elem_of a.kind in
        let place = named_code w line a.target in
        let advance = advance_code line free e (step_kind a.kind by) place in
        let cb = effects_code (record { to_exit = length advance + 1; to_continue = 0; to_return = length advance + 1 + to.to_return }) (free + 16) body in
        let test = within_code line free e (number_kind (note_of end).kind) (step_kind a.kind by) place in
        does op.Tick line ∷ (value_code w line free from ++ (value_code w line free end
        ++ (does (op.Local free) line ∷ (does (op.Store (number_kind (note_of end).kind)) line ∷
        (step_code line (free + 8) by ++ (does (op.Local (free + 8)) line ∷ (does (op.Store (step_kind a.kind by)) line ∷
        (place ++ (does (op.Store e) line ∷
        (does op.Tick line ∷ (test ++ (skips_at_0 (length cb + length advance + 1) line ∷ (cb ++ (advance ++ returns (1 + length test + 1 + length cb + length advance) line ∷ []))))))))))))))
    effect_code to free (While line e body) =
        let ce = value_code w line free e in
        let cb = effects_code (record { to_exit = 1; to_continue = 0; to_return = 1 + to.to_return }) free body in
        does op.Tick line ∷ (does op.Tick line ∷ (ce ++ (skips_at_0 (suc (length cb)) line ∷ (cb ++ returns (1 + length ce + 1 + length cb) line ∷ []))))
    effect_code to free (Repeat line body e) =
        let ce = value_code w line free e in
        let cb = effects_code (record { to_exit = 1 + length ce + 1; to_continue = 0; to_return = 1 + length ce + 1 + to.to_return }) free body in
        does op.Tick line ∷ (cb ++ (does op.Tick line ∷ (ce ++ returns_at_0 (length cb + 1 + length ce) line ∷ [])))

    pub effects_code : Targets → ℕ → Statements Note → List Cell
    effects_code to free no_statements = []
    effects_code to free (statement_then s ss) = let rest = effects_code to free ss in effect_code (behind (length rest) to) free s ++ rest

    pub branches_code : ℕ → Targets → ℕ → Branches Note → List Cell → List Cell
    branches_code line to free no_branches otherwise = otherwise
    branches_code line to free (branch_then e body bs) otherwise =
        let rest = branches_code line to free bs otherwise in
        let cb = effects_code (behind (1 + length rest) to) free body in
        value_code w line free e ++ (skips_at_0 (suc (length cb)) line ∷ (cb ++ skips (length rest) line ∷ rest))

    pub cases_code : ℕ → Targets → ℕ → Cases Note → List Cell → List Cell
    cases_code line to free no_cases otherwise = otherwise
    cases_code line to free (case_then labels body cs) otherwise =
        let rest = cases_code line to free cs otherwise in
        let cb = effects_code (behind (1 + length rest) to) free body in
        labels_code line labels ++ (skips (2 + length cb) line ∷ (does op.Drop line ∷ (cb ++ skips (length rest) line ∷ rest)))

    pub otherwise_code : Targets → ℕ → Otherwise Note → List Cell
    otherwise_code to free Nothing = []
    otherwise_code to free (Else body) = effects_code to free body

-- ---- routines: the locals, the arguments, the body, the results

module _ (line : ℕ) where
  -- a number at an offset of the locals, which begin as zeros
  abbrev pub number_begins : Elem → Value → ℕ → List Cell
  number_begins e (number (pos zero)) at = []
  number_begins e (number z) at = does (op.Push z) line ∷ (does (op.Local at) line ∷ (does (op.Store e) line ∷ []))
  number_begins e v at = []

  abbrev pub each_begins : (Value → ℕ → List Cell) → ℕ → Values → ℕ → List Cell
  each_begins f n no_values at = []
  each_begins f n (value_then v vs) at = f v at ++ each_begins f n vs (at + n)

  abbrev mutual
    pub value_begins : Shape → Value → ℕ → List Cell
    value_begins (Elementary e) v at = number_begins e v at
    value_begins (Enumeration name values) v at = number_begins elem.Udint v at
    value_begins (Array low n sh) v at = each_begins (value_begins sh) (size sh) (elements_of v) at
    value_begins (Structure name fs) v at = fields_begin 0 fs (members_of v) at
    value_begins sh v at = []

    pub fields_begin : ℕ → Fields → Members → ℕ → List Cell
    fields_begin offset no_fields ms at = []
    fields_begin offset (field_then x sh fs) ms at =
        value_begins sh (first_of ms) (at + (offset + gap (alignment sh) offset)) ++ fields_begin (offset + gap (alignment sh) offset + size sh) fs (rest_of ms) at

  abbrev pub shape_begins : Option Shape → Value → ℕ → List Cell
  shape_begins None v at = []
  shape_begins (Some sh) v at = value_begins sh v at

  -- a place in the block of the call; its address is the call's argument
  abbrev pub in_block : ℕ → List Cell
  in_block at = does (op.Local 0) line ∷ (does op.LoadRef line ∷ (does (op.Offset at) line ∷ []))

  -- what is done where a bit of the mask is set
  abbrev pub guarded : ℕ → ℕ → List Cell → List Cell
  guarded mask i code =
      in_block mask ++ (does (op.Load elem.Ulint) line ∷ (does (op.Push (pos (bit i))) line ∷ (does (op.And elem.Ulint) line ∷ (skips_at_0 (length code) line ∷ code))))

  abbrev pub in_out_in : ℕ → List Cell → List Cell
  in_out_in at place = in_block at ++ (does op.LoadRef line ∷ (place ++ does op.StoreRef line ∷ []))

module _ (p : Program) (line : ℕ) where
  abbrev pub locals_begin : ℕ → List Variable → List Cell
  locals_begin at [] = []
  locals_begin at (v ∷ vs) = (if is_in_out v.sort then [] else shape_begins line (shape_of p v.kind) (initial_value p v) at) ++ locals_begin (at + width p v) vs

module _ (w : Plan) (line : ℕ) where
  -- the argument in the block to where it belongs
  abbrev pub argument_in : ℕ → StType → List Cell → List Cell
  argument_in at t place =
      in_block line at ++ (does (if is_held t then op.LoadRef else op.Load elem.Ulint) line ∷ (place ++ keep_code w line t))

  -- a result or output to the block, or to where the block says
  abbrev pub result_out : ℕ → StType → List Cell → List Cell
  result_out at t place =
      if is_large t then place ++ (in_block line at ++ (does op.LoadRef line ∷ (does (op.Copy (w.size_of t)) line ∷ [])))
      else place ++ (fetch_code w line 0 t ++ (in_block line at ++ (does (if is_held t then op.StoreRef else op.Store elem.Ulint) line ∷ [])))

module _ (p : Program) (w : Plan) (line : ℕ) (r : Routine) (start : ℕ) where
  abbrev pub local_at : ℕ → List Cell
  local_at n = does (op.Local (local_offset p start r.locals n)) line ∷ []

  abbrev pub variable_at : ℕ → List Cell
  variable_at k = does (op.This (w.field_of (type.Instance (class_of r.class)) k)) line ∷ []

  abbrev pub own_kind : ℕ → StType
  own_kind k = kind_in (slice_get (class_variables p (class_of r.class)) k)

  abbrev pub parameter_in : ℕ → Parameter → List Cell
  parameter_in at q = by q.to
    where
      by : Recipient → List Cell
      by (to_local n) = if is_in_out q.sort then in_out_in line at (local_at n) else argument_in w line at (kind_in (slice_get r.locals n)) (local_at n)
      by (to_variable k) = argument_in w line at (own_kind k) (variable_at k)

  abbrev pub parameters_in : ℕ → List Parameter → List Cell
  parameters_in i [] = []
  parameters_in i (q ∷ qs) = (if is_output q.sort then [] else guarded line of_mask i (parameter_in (of_parameter i) q)) ++ parameters_in (suc i) qs

  abbrev pub output_out : ℕ → Parameter → List Cell
  output_out at q = by q.to
    where
      by : Recipient → List Cell
      by (to_local n) = result_out w line at (kind_in (slice_get r.locals n)) (local_at n)
      by (to_variable k) = []

  abbrev pub outputs_out : ℕ → List Parameter → List Cell
  outputs_out i [] = []
  outputs_out i (q ∷ qs) = (if is_output q.sort then guarded line of_mask i (output_out (of_parameter i) q) else []) ++ outputs_out (suc i) qs

  abbrev pub first_out : Option Variable → List Cell
  first_out None = []
  first_out (Some v) = if is_in_out v.sort then [] else guarded line of_mask result_place (result_out w line of_result v.kind (local_at 0))

  abbrev pub body_code : List Cell
  body_code = effects_code w (record { to_exit = 0; to_continue = 0; to_return = 0 }) (locals_end p start r.locals) r.body

  -- what a call enters: the address of the block is its argument
  abbrev pub called_code : List Cell
  called_code =
      locals_begin p line start r.locals ++ (parameters_in 0 r.parameters ++ (body_code ++ (outputs_out 0 r.parameters ++ (first_out (slice_get r.locals 0) ++ does (op.Ret 0) line ∷ []))))

  -- the body of a program, which no call enters
  abbrev pub program_code : List Cell
  program_code = locals_begin p line start r.locals ++ (body_code ++ does (op.Ret 0) line ∷ [])

  -- a hook, whose flags are its arguments
  abbrev pub flags_in : ℕ → List Parameter → List Cell
  flags_in i [] = []
  flags_in i (q ∷ qs) = (does (op.Local (8 * i)) line ∷ (does (op.Load elem.Ulint) line ∷ (by q.to ++ does (op.Store elem.Bool) line ∷ []))) ++ flags_in (suc i) qs
    where
      by : Recipient → List Cell
      by (to_local n) = local_at n
      by (to_variable k) = variable_at k

  abbrev pub hook_code : List Cell
  hook_code = locals_begin p line start r.locals ++ (flags_in 0 r.parameters ++ (body_code ++ does (op.Ret 0) line ∷ []))
