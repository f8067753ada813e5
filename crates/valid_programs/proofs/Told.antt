-- Plans that are alike give a routine the same code.
use Rattle.std.proofs.Common.{◌≡◌, ℕ, suc, ◌+◌, ◌*◌, max, Bool, true, false, List, [], ◌∷◌, ◌++◌, length, Option, Some, None, refl, sym, ap, ap₂, ◌∙◌, subst}
use Rattle.std.specs.Prelude.{if◌then◌else◌, slice_get, ◌&&◌}
use Rattle.st_types.specs.declared.elem.Elem.{Elem}
use Rattle.st_types.specs.declared.elem.Elem.TheVariants as elem
use Rattle.st_types.specs.declared.st_type.StType.{StType, out-StType, roll-StType, roll-out-StType}
use Rattle.st_types.specs.declared.st_type.StType.TheVariants as type
use Rattle.st_types.specs.declared.st_type.StType.TheOpen.{StType-F}
use Rattle.st_tree.specs.declared.expression.Root.{Root}
use Rattle.st_tree.specs.declared.expression.Root.TheVariants as root
use Rattle.st_tree.specs.declared.program.Note.{Note}
use Rattle.st_tree.specs.declared.program.Target.{Target}
use Rattle.st_tree.specs.declared.program.Target.TheVariants as target
use Rattle.st_tree.specs.Expression.{Expression, Int, Typed, Time, True, False, Null, Place, Call, Enumerator, Ref, Now, Paren, Not, Negate, Chain, Expressions, no_expressions, expression_then, Selector, Field, Index, Selectors, no_selectors, selector_then, Positional, Input, Output, Arguments, no_arguments, argument_then, Tails, no_tails, tail_then}
use Rattle.st_tree.specs.Expression as tree
use Rattle.st_tree.specs.Statement.{Statement, Empty, Assign, Attempt, Exit, Continue, Return, If, Case, For, While, Repeat, Statements, no_statements, statement_then, Branches, no_branches, branch_then, Cases, no_cases, case_then, Otherwise, Nothing, Else}
use Rattle.st_tree.specs.Statement as effect
use Rattle.st_values.specs.Program.{Variable, Recipient, to_local, to_variable, Parameter, Routine, Program, class_variables}
use Rattle.st_values.specs.Initial.{note_of}
use Rattle.st_meaning.specs.Operation.{elem_of}
use Rattle.st_meaning.specs.Place.{root_note, element_kind, elements_of}
use Rattle.st_meaning.specs.Call.{by_instance, from_class, Callee, a_conversion, a_function, a_method, a_body, callee_of, is_in_out, is_output, parameter_number, parameter_named, next_parameter, behind_next, number_to, class_of_kind}
use Rattle.st_meaning.specs.Expression.{selector_note}
use Rattle.st_meaning.specs.st_frame.Use.{called_of, called_by, receiver, last_kind}
use Rattle.st_meaning.specs.st_frame.Promise.Calls.{next_number, IsDeclared}
use Rattle.stack_code.specs.declared.op.Op.TheVariants as op
use Rattle.code_cells.specs.declared.cell.Cell.{Cell}
use Rattle.code_cells.specs.declared.cell.Cell.TheVariants.{Does as does, Skips as skips, SkipsAt0 as skips_at_0, Returns as returns, ReturnsAt0 as returns_at_0}
use Rattle.code_cells.specs.Cell.{Targets, behind}
use Rattle.code_rules.specs.Plan.{Plan}
use Rattle.code_rules.specs.Places.{kind_in, is_large, room_of, locals_end, of_parameter, of_result, of_own, of_mask, block_size, result_place}
use Rattle.code_rules.specs.Code.{is_held, number_kind, class_of, mask_of, arguments_by, target_code, own_code, mask_code, index_op, method_call, call_op, behind_outputs, passed_room, named_value_code, local_code, operated_code, negated_code, large_code, passed_code, call_value_code, named_code, root_code, part_code, fetch_code, widened_code, keep_code, output_rooms, output_code, same_code, enter_code, along_code, selected_code, indexed_code, value_code, chained_code, bound_code, operand_code, arguments_code, outputs_code, place_code, source_code, is_source, way_is_quiet}
use Rattle.code_rules.specs.Bodies.{labels_code, step_kind, within_code, advance_code, step_code, called_effect_code, call_code, assigned_code, effect_code, effects_code, branches_code, cases_code, otherwise_code, locals_begin, in_block, guarded, in_out_in, argument_in, result_out, local_at, variable_at, own_kind, parameter_in, parameters_in, output_out, outputs_out, first_out, body_code, called_code, program_code, flags_in, hook_code}
use Rattle.code_rules.specs.Tops.{call_top, along_top, selector_top, index_top, value_top, tails_top, operand_top, arguments_top, outputs_top, source_top, assigned_top, step_top, effect_top, effects_top, branches_top, cases_top, otherwise_top}
use Rattle.valid_programs.specs.Told.{Alike, Covers, IfLarge, CallCovered, WayCovered, StepCovered, AreCovered, IsCovered, PlaceCovered, TailsCovered, GivenCovered, ByCovered, EffectCovered, EffectsCovered, BranchesCovered, CasesCovered, OtherwiseCovered, RoutineCovered}

both : {a b c d : List Cell} → a ≡ b → c ≡ d → a ++ c ≡ b ++ d
both e f = ap₂ (λ x y. x ++ y) e f

after : (a : List Cell) {c d : List Cell} → c ≡ d → a ++ c ≡ a ++ d
after a e = ap (λ x. a ++ x) e

before : {a b : List Cell} → a ≡ b → (c : List Cell) → a ++ c ≡ b ++ c
before e c = ap (λ x. x ++ c) e

most : {a b c d : ℕ} → a ≡ b → c ≡ d → max a c ≡ max b d
most e f = ap₂ max e f

-- the type of an array by what it is made of
array_is : (t : StType) (low high : _) (of : StType) → out-StType t ≡ StType-F.Array low high of → t ≡ type.Array low high of
array_is t low high of e = sym (roll-out-StType t) ∙ (ap roll-StType e ∙ type.rolls-Array low high of)

module _ (p : Program) (K : StType → Type 0) (covers : Covers p K) (w v : Plan) (alike : Alike p K w v) where
  elements_large : (o : StType-F StType) (t : StType) → out-StType t ≡ o → IfLarge K t → IfLarge K (elements_of o t)
  elements_large (StType-F.Array low high of) t e f l = let a = array_is t low high of e in covers.elements low high of (subst K a (f (ap is_large a)))
  elements_large (StType-F.Elementary x) t e f l = f l
  elements_large (StType-F.Enumeration n) t e f l = f l
  elements_large (StType-F.Structure n) t e f l = f l
  elements_large (StType-F.Instance c) t e f l = f l
  elements_large (StType-F.Reference c) t e f l = f l
  elements_large (StType-F.Interface i) t e f l = f l

  last_large : (t : StType) (ss : Selectors Note) → IfLarge K t → WayCovered p K ss → IfLarge K (last_kind t ss)
  last_large t no_selectors f h = f
  last_large t (selector_then s ss) f h = last_large (selector_note s).kind ss h.0 h.2

  place_large : (r : Root Note) (ss : Selectors Note) → PlaceCovered p K r ss → IfLarge K (last_kind (root_note r).kind ss)
  place_large r ss h = last_large (root_note r).kind ss h.0 h.1

  variable_large : (c k : ℕ) → IfLarge K (kind_in (slice_get (class_variables p c) k))
  variable_large c k = by (slice_get (class_variables p c) k) refl
    where
      by : (o : Option Variable) → slice_get (class_variables p c) k ≡ o → IfLarge K (kind_in o)
      by None e l = let x : false ≡ true = l in absurd cc
      by (Some x) e l = covers.variables c k x e

  -- ---- sizes

  room_same : (t : StType) → IfLarge K t → room_of w.size_of t ≡ room_of v.size_of t
  room_same t f = by (is_large t) refl
    where
      by : (b : Bool) → is_large t ≡ b → (if b then w.size_of t else 0) ≡ (if b then v.size_of t else 0)
      by true e = alike.sizes t (f e)
      by false e = refl

  passed_room_same : (o : Option Parameter) (t : StType) → IfLarge K t → passed_room w o t ≡ passed_room v o t
  passed_room_same None t f = refl
  passed_room_same (Some q) t f = ap (λ n. if is_in_out q.sort then 0 else n) (room_same t f)

  behind_same : (free : ℕ) (xs : Arguments Note) → GivenCovered p K xs → behind_outputs w free xs ≡ behind_outputs v free xs
  behind_same free no_arguments h = refl
  behind_same free (argument_then (Positional e) xs) h = behind_same free xs h.1
  behind_same free (argument_then (Input a name e) xs) h = behind_same free xs h.1
  behind_same free (argument_then (Output a name b r ss) xs) h = ap (λ n. behind_outputs w (free + n) xs) (room_same (last_kind (root_note r).kind ss) (place_large r ss h.0)) ∙ behind_same (free + room_of v.size_of (last_kind (root_note r).kind ss)) xs h.1

  -- ---- what calls name

  method_same : (t : StType) (name : List ℕ) → IsDeclared p t name → method_call w t name ≡ method_call v t name
  method_same (type.Instance d) name h = ap (λ n. op.CallM d n 1) (alike.slots d name h)
  method_same (type.Interface i) name h = ap (λ n. op.CallI i n 1) (alike.numbers i name h)
  method_same t name h = absurd h

  call_op_same : (c : Callee) (t whole : StType) → CallCovered p c (called_by c t whole) → call_op w c t whole ≡ call_op v c t whole
  call_op_same a_conversion t whole h = refl
  call_op_same (a_function k) t whole h = ap (λ n. op.Call n 1) (alike.functions k h.0 h.1)
  call_op_same (a_method by_instance name) t whole h = method_same t name h.0
  call_op_same (a_method (from_class d) name) t whole h = ap (λ n. op.Call n 1) (alike.methods d name h.0 h.1)
  call_op_same (a_body by_instance) t whole h = ap (λ n. op.CallM (class_of_kind whole) n 1) alike.body_slot
  call_op_same (a_body (from_class d)) t whole h = ap (λ n. op.Call n 1) (alike.bodies d h.0 h.1)

  module _ (line : ℕ) where
    named_same : (a : Target) → named_code w line a ≡ named_code v line a
    named_same (target.Local n) = ap (λ ls. local_code line (slice_get ls n)) alike.locals
    named_same (target.Region r) = refl
    named_same (target.Variable k) = ap (λ n. does (op.This n) line ∷ []) (ap (λ o. w.field_of (type.Instance (class_of o)) k) alike.class ∙ alike.fields (type.Instance (class_of v.class)) k)
    named_same (target.Method m) = refl
    named_same a = refl

    root_same : (r : Root Note) → root_code w line r ≡ root_code v line r
    root_same (root.Name a name) = named_same a.target
    root_same (root.This a) = refl
    root_same (root.Super a) = refl

    part_same : (t : StType) (a : Target) → part_code w line t a ≡ part_code v line t a
    part_same t (target.Field k) = ap (λ n. does (op.Offset n) line ∷ []) (alike.fields t k)
    part_same t (target.Variable k) = ap (λ n. does (op.Offset n) line ∷ []) (alike.fields t k)
    part_same t (target.Method m) = refl
    part_same t a = refl

    index_same : (o : StType-F StType) (t : StType) → out-StType t ≡ o → IfLarge K t → index_op w o ≡ index_op v o
    index_same (StType-F.Array low high of) t e f = let a = array_is t low high of e in ap (op.Index low high) (alike.sizes of (covers.elements low high of (subst K a (f (ap is_large a)))))
    index_same o t e f = refl

    fetch_same : (free : ℕ) (t : StType) → IfLarge K t → fetch_code w line free t ≡ fetch_code v line free t
    fetch_same free (type.Elementary e) f = refl
    fetch_same free (type.Enumeration n) f = refl
    fetch_same free (type.Reference c) f = refl
    fetch_same free (type.Interface i) f = refl
    fetch_same free (type.Instance c) f = refl
    fetch_same free t f = ap (λ n. does (op.Local free) line ∷ (does (op.Copy n) line ∷ (does (op.Local free) line ∷ []))) (alike.sizes t (f refl))

    widened_same : (free : ℕ) (t : StType) (n : Elem) → IfLarge K t → widened_code w line free t n ≡ widened_code v line free t n
    widened_same free (type.Elementary e) n f = refl
    widened_same free t n f = fetch_same free t f

    keep_same : (t : StType) → IfLarge K t → keep_code w line t ≡ keep_code v line t
    keep_same (type.Elementary e) f = refl
    keep_same (type.Enumeration n) f = refl
    keep_same (type.Reference c) f = refl
    keep_same (type.Interface i) f = refl
    keep_same (type.Instance c) f = ap (λ n. does (op.Copy n) line ∷ []) (alike.instances c)
    keep_same t f = ap (λ n. does (op.Copy n) line ∷ []) (alike.sizes t (f refl))

    rooms_same : (block free : ℕ) (xs : Arguments Note) → GivenCovered p K xs → output_rooms w line block free xs ≡ output_rooms v line block free xs
    rooms_same block free no_arguments h = refl
    rooms_same block free (argument_then (Positional e) xs) h = rooms_same block free xs h.1
    rooms_same block free (argument_then (Input a name e) xs) h = rooms_same block free xs h.1
    rooms_same block free (argument_then (Output a name b r ss) xs) h =
        after (large_code line (block + of_parameter (parameter_number a.target)) free (last_kind (root_note r).kind ss))
        (ap (λ n. output_rooms w line block (free + n) xs) (room_same (last_kind (root_note r).kind ss) (place_large r ss h.0)) ∙ rooms_same block (free + room_of v.size_of (last_kind (root_note r).kind ss)) xs h.1)

    output_same : (o : Option Parameter) (at own free : ℕ) (t whole : StType) → IfLarge K t → output_code w line o at own free t whole ≡ output_code v line o at own free t whole
    output_same None at own free t whole f = refl
    output_same (Some q) at own free t whole f = by q.to
      where
        by : (to : Recipient) → output_code w line (Some (record q { to = to })) at own free t whole ≡ output_code v line (Some (record q { to = to })) at own free t whole
        by (to_local n) = refl
        by (to_variable k) =
            ap₂ (λ n cs. does (op.Local own) line ∷ (does op.LoadRef line ∷ (does (op.Offset n) line ∷ cs))) (alike.fields whole k) (ap (widened_code w line free t) (alike.kinds whole k) ∙ widened_same free t (v.kind_of whole k) f)

    same_same : (block i : ℕ) (qs : List Parameter) → same_code w line block i qs ≡ same_code v line block i qs
    same_same block i [] = refl
    same_same block i (q ∷ qs) =
        both (ap (λ ls. if is_in_out q.sort then local_code line (slice_get ls (number_to q.to)) ++ (does (op.Local (block + of_parameter i)) line ∷ (does op.StoreRef line ∷ [])) else []) alike.locals) (same_same block (suc i) qs)

    enter_same : (c : Callee) (ps : List Parameter) (free : ℕ) (t whole : StType) (place place' given given' rooms rooms' : List Cell) (mask : ℕ) (outputs outputs' : List Cell) → place ≡ place' → given ≡ given' → rooms ≡ rooms'
        → call_op w c t whole ≡ call_op v c t whole → outputs ≡ outputs' → enter_code w line c ps free t whole place given rooms mask outputs ≡ enter_code v line c ps free t whole place' given' rooms' mask outputs'
    enter_same c ps free t whole place place' given given' rooms rooms' mask outputs outputs' pe ge re ce oe =
        ap (λ x. enter_code w line c ps free t whole x given rooms mask outputs) pe
        ∙ (ap (λ x. enter_code w line c ps free t whole place' x rooms mask outputs) ge
        ∙ (ap (λ x. enter_code w line c ps free t whole place' given' x mask outputs) re
        ∙ (ap (λ x. enter_code w line c ps free t whole place' given' rooms' mask x) oe
        ∙ after (target_code line c place') (after (own_code line c (free + of_own)) (after given' (after rooms' (after (mask_code line (free + of_mask) mask) (ap (λ o. does (op.Local free) line ∷ (does op.Tick line ∷ (does o line ∷ outputs'))) ce))))))))

    mutual
      along_same : (free : ℕ) (ss : Selectors Note) (t : StType) → IfLarge K t → WayCovered p K ss → along_code w line free ss t ≡ along_code v line free ss t
      along_same free no_selectors t f h = refl
      along_same free (selector_then s ss) t f h = both (selected_same free s t f h.1) (along_same free ss (selector_note s).kind h.0 h.2)

      selected_same : (free : ℕ) (s : Selector Note) (t : StType) → IfLarge K t → StepCovered p K s → selected_code w line free s t ≡ selected_code v line free s t
      selected_same free (Field a name) t f h = part_same t a.target
      selected_same free (Index a es) t f h = indexed_same free es t f h
      selected_same free (tree.Target a) t f h = refl

      indexed_same : (free : ℕ) (es : Expressions Note) (t : StType) → IfLarge K t → AreCovered p K es → indexed_code w line free es t ≡ indexed_code v line free es t
      indexed_same free no_expressions t f h = refl
      indexed_same free (expression_then e es) t f h =
          both (value_same free e h.0) (ap₂ (λ o cs. does o line ∷ cs) (index_same (out-StType t) t refl f) (indexed_same free es (element_kind t) (elements_large (out-StType t) t refl f) h.1))

      value_same : (free : ℕ) (e : Expression Note) → IsCovered p K e → value_code w line free e ≡ value_code v line free e
      value_same free (Int a digits) h = refl
      value_same free (Typed a n literal) h = refl
      value_same free (Time a text) h = refl
      value_same free (True a) h = refl
      value_same free (False a) h = refl
      value_same free (Null a) h = refl
      value_same free (Place a r ss) h = ap (named_value_code line a.target a.kind) (both (both (root_same r) (along_same free ss (root_note r).kind h.1.0 h.1.1)) (fetch_same free a.kind h.0))
      value_same free (Call a r ss xs) h =
          let c = callee_of r ss in
          let t = receiver (root_note r).kind ss in
          let whole = last_kind (root_note r).kind ss in
          let called : Plan → List Parameter → ℕ → List Cell = λ u ps block.
          enter_code u line c ps block t whole (root_code u line r ++ along_code u line free ss (root_note r).kind)
          (arguments_by c (arguments_code u line block (behind_outputs u (block + block_size (length ps)) xs) ps 0 ps xs) (same_code u line block 0 ps))
          (output_rooms u line block (block + block_size (length ps)) xs ++ large_code line (block + of_result) free a.kind)
          (mask_of c ps true xs)
          (outputs_code u line block (behind_outputs u (block + block_size (length ps)) xs) ps whole xs) in
          let qs = v.parameters (called_of r ss) in
          let block = free + room_of v.size_of a.kind in
          let rooms = block + block_size (length qs) in
          let more = behind_same rooms xs h.1.2 in
          ap₂ (λ ps b. call_value_code line c xs a.kind (operand_code w line free xs) (called w ps b) (b + of_result)) (alike.parameters (called_of r ss)) (ap (λ n. free + n) (room_same a.kind h.0))
          ∙ ap₂ (λ x y. call_value_code line c xs a.kind x y (block + of_result)) (operand_same free xs h.1.2)
          (enter_same c qs block t whole _ _ _ _ _ _ (mask_of c qs true xs) _ _ (both (root_same r) (along_same free ss (root_note r).kind h.1.1.0 h.1.1.1))
          (ap₂ (arguments_by c) (ap (λ n. arguments_code w line block n qs 0 qs xs) more ∙ arguments_same block (behind_outputs v rooms xs) qs 0 qs xs h.1.2) (same_same block 0 qs))
          (before (rooms_same block rooms xs h.1.2) (large_code line (block + of_result) free a.kind))
          (call_op_same c t whole h.1.0)
          (ap (λ n. outputs_code w line block n qs whole xs) more ∙ outputs_same block (behind_outputs v rooms xs) qs whole xs h.1.2))
      value_same free (Enumerator a t b name) h = refl
      value_same free (Ref a r ss) h = both (root_same r) (along_same free ss (root_note r).kind h.1.0 h.1.1)
      value_same free (Now a) h = refl
      value_same free (Paren a e) h = value_same free e h.1
      value_same free (Not a e) h = before (value_same free e h.1) (does (op.Not (elem_of a.kind)) line ∷ [])
      value_same free (Negate a e) h = ap (negated_code line a e) (value_same free e h.1)
      value_same free (Chain a e ts) h = both (value_same free e h.1.0) (chained_same free (note_of e).kind ts h.1.1)

      chained_same : (free : ℕ) (t : StType) (ts : Tails Note) → TailsCovered p K ts → chained_code w line free t ts ≡ chained_code v line free t ts
      chained_same free t no_tails h = refl
      chained_same free t (tail_then a o e ts) h = both (ap (operated_code line o t a.kind) (value_same free e h.0)) (chained_same free a.kind ts h.1)

      bound_same : (free : ℕ) (e : Expression Note) → IsCovered p K e → bound_code w line free e ≡ bound_code v line free e
      bound_same free (Place a r ss) h = both (root_same r) (along_same free ss (root_note r).kind h.1.0 h.1.1)
      bound_same free e h = refl

      operand_same : (free : ℕ) (xs : Arguments Note) → GivenCovered p K xs → operand_code w line free xs ≡ operand_code v line free xs
      operand_same free (argument_then (Positional e) xs) h = value_same free e h.0
      operand_same free xs h = refl

      arguments_same : (block free : ℕ) (ps : List Parameter) (i : ℕ) (left : List Parameter) (xs : Arguments Note) → GivenCovered p K xs → arguments_code w line block free ps i left xs ≡ arguments_code v line block free ps i left xs
      arguments_same block free ps i left no_arguments h = refl
      arguments_same block free ps i left (argument_then (Positional e) xs) h =
          both (ap₂ (passed_code line (next_parameter left) (block + of_parameter (next_number i left)) (note_of e).kind) (value_same free e h.0) (bound_same free e h.0))
          (ap (λ n. arguments_code w line block (free + n) ps (suc (next_number i left)) (behind_next left) xs) (passed_room_same (next_parameter left) (note_of e).kind h.0.0) ∙ arguments_same block (free + passed_room v (next_parameter left) (note_of e).kind) ps (suc (next_number i left)) (behind_next left) xs h.1)
      arguments_same block free ps i left (argument_then (Input a name e) xs) h =
          both (ap₂ (passed_code line (parameter_named ps a) (block + of_parameter (parameter_number a.target)) (note_of e).kind) (value_same free e h.0) (bound_same free e h.0))
          (ap (λ n. arguments_code w line block (free + n) ps i left xs) (passed_room_same (parameter_named ps a) (note_of e).kind h.0.0) ∙ arguments_same block (free + passed_room v (parameter_named ps a) (note_of e).kind) ps i left xs h.1)
      arguments_same block free ps i left (argument_then (Output a name b r ss) xs) h = arguments_same block free ps i left xs h.1

      outputs_same : (block free : ℕ) (ps : List Parameter) (whole : StType) (xs : Arguments Note) → GivenCovered p K xs → outputs_code w line block free ps whole xs ≡ outputs_code v line block free ps whole xs
      outputs_same block free ps whole no_arguments h = refl
      outputs_same block free ps whole (argument_then (Positional e) xs) h = outputs_same block free ps whole xs h.1
      outputs_same block free ps whole (argument_then (Input a name e) xs) h = outputs_same block free ps whole xs h.1
      outputs_same block free ps whole (argument_then (Output a name b r ss) xs) h =
          let t = last_kind (root_note r).kind ss in
          let f = place_large r ss h.0 in
          both (output_same (parameter_named ps a) (block + of_parameter (parameter_number a.target)) (block + of_own) free t whole f)
          (both (both (root_same r) (ap (λ n. along_code w line (free + n) ss (root_note r).kind) (room_same t f) ∙ along_same (free + room_of v.size_of t) ss (root_note r).kind h.0.0 h.0.1))
          (both (keep_same t f) (outputs_same block free ps whole xs h.1)))

    placed_same : (free : ℕ) (r : Root Note) (ss : Selectors Note) → PlaceCovered p K r ss → root_code w line r ++ along_code w line free ss (root_note r).kind ≡ root_code v line r ++ along_code v line free ss (root_note r).kind
    placed_same free r ss h = both (root_same r) (along_same free ss (root_note r).kind h.0 h.1)

    source_same : (free : ℕ) (e : Expression Note) → IsCovered p K e → source_code w line free e ≡ source_code v line free e
    source_same free (Place a r ss) h = placed_same free r ss h.1
    source_same free (Paren a e) h = source_same free e h.1
    source_same free e h = refl

    step_same : (free : ℕ) (by : Option (Expression Note)) → ByCovered p K by → step_code w line free by ≡ step_code v line free by
    step_same free None h = refl
    step_same free (Some e) h = before (value_same free e h) (does op.NoZero line ∷ [])

    called_effect_same : (free : ℕ) (c : Callee) (xs : Arguments Note) (x y : List Cell) → GivenCovered p K xs → x ≡ y → called_effect_code w line free c xs x ≡ called_effect_code v line free c xs y
    called_effect_same free a_conversion xs x y h e = before (operand_same free xs h) (does op.Drop line ∷ [])
    called_effect_same free c xs x y h e = e

    call_effect_same : (free : ℕ) (r : Root Note) (ss : Selectors Note) (xs : Arguments Note) → CallCovered p (callee_of r ss) (called_of r ss) → PlaceCovered p K r ss → GivenCovered p K xs → call_code w line free r ss xs ≡ call_code v line free r ss xs
    call_effect_same free r ss xs f h k =
        let c = callee_of r ss in
        let t = receiver (root_note r).kind ss in
        let whole = last_kind (root_note r).kind ss in
        let called : Plan → List Parameter → List Cell = λ u ps.
        enter_code u line c ps free t whole (root_code u line r ++ along_code u line free ss (root_note r).kind)
        (arguments_by c (arguments_code u line free (behind_outputs u (free + block_size (length ps)) xs) ps 0 ps xs) (same_code u line free 0 ps))
        (output_rooms u line free (free + block_size (length ps)) xs)
        (mask_of c ps false xs)
        (outputs_code u line free (behind_outputs u (free + block_size (length ps)) xs) ps whole xs) in
        let qs = v.parameters (called_of r ss) in
        let rooms = free + block_size (length qs) in
        let more = behind_same rooms xs k in
        ap (λ ps. called_effect_code w line free c xs (called w ps)) (alike.parameters (called_of r ss))
        ∙ called_effect_same free c xs (called w qs) (called v qs) k
        (enter_same c qs free t whole _ _ _ _ _ _ (mask_of c qs false xs) _ _ (placed_same free r ss h)
        (ap₂ (arguments_by c) (ap (λ n. arguments_code w line free n qs 0 qs xs) more ∙ arguments_same free (behind_outputs v rooms xs) qs 0 qs xs k) (same_same free 0 qs))
        (rooms_same free rooms xs k)
        (call_op_same c t whole f)
        (ap (λ n. outputs_code w line free n qs whole xs) more ∙ outputs_same free (behind_outputs v rooms xs) qs whole xs k))

    assigned_same : (free : ℕ) (t : StType) (r : Root Note) (ss : Selectors Note) (e : Expression Note) (b : Bool) → IfLarge K t → PlaceCovered p K r ss → IsCovered p K e → assigned_code w line free t r ss e b ≡ assigned_code v line free t r ss e b
    assigned_same free t r ss e true f h k = both (source_same free e k) (both (placed_same free r ss h) (keep_same t f))
    assigned_same free t r ss e false f h k = both (value_same free e k) (both (ap (λ n. place_code w line (free + n) r ss) (room_same (note_of e).kind k.0) ∙ placed_same (free + room_of v.size_of (note_of e).kind) r ss h) (keep_same t f))

  -- ---- statements

  mutual
    effect_same : (to : Targets) (free : ℕ) (s : Statement Note) → EffectCovered p K s → effect_code w to free s ≡ effect_code v to free s
    effect_same to free (Empty line) h = refl
    effect_same to free (Assign line a r ss e) h = ap (λ cs. does op.Tick line ∷ cs) (assigned_same line free a.kind r ss e (is_large a.kind && (is_source e && way_is_quiet ss)) h.0 h.1 h.2)
    effect_same to free (Attempt line a r ss e) h =
        ap (λ cs. does op.Tick line ∷ cs) (both (value_same line free e h.1) (ap₂ (λ n cs. does (op.Try n) line ∷ cs) (alike.targets a.kind) (before (placed_same line free r ss h.0) (does op.StoreRef line ∷ []))))
    effect_same to free (effect.Call line a r ss xs) h = ap (λ cs. does op.Tick line ∷ cs) (call_effect_same line free r ss xs h.0 h.1 h.2)
    effect_same to free (Exit line) h = refl
    effect_same to free (Continue line) h = refl
    effect_same to free (Return line) h = refl
    effect_same to free (If line branches otherwise) h = ap (λ cs. does op.Tick line ∷ cs) (branches_same line to free branches _ _ h.0 (otherwise_same to free otherwise h.1))
    effect_same to free (Case line e cases otherwise) h =
        ap (λ cs. does op.Tick line ∷ cs) (both (value_same line free e h.0) (cases_same line to free cases _ _ h.1 (ap (λ cs. does op.Drop line ∷ cs) (otherwise_same to free otherwise h.2))))
    effect_same to free (For line a name from end by body) h =
        let e = elem_of a.kind in
        let last = number_kind (note_of end).kind in
        let step = step_kind a.kind by in
        let inner : List Cell → Targets = λ place. let advance = advance_code line free e step place in record { to_exit = length advance + 1; to_continue = 0; to_return = length advance + 1 + to.to_return } in
        let whole : List Cell → List Cell → List Cell → List Cell → List Cell → List Cell = λ place cf ce cs cb.
        let advance = advance_code line free e step place in
        let test = within_code line free e last step place in
        does op.Tick line ∷ (cf ++ (ce ++ (does (op.Local free) line ∷ (does (op.Store last) line ∷
        (cs ++ (does (op.Local (free + 8)) line ∷ (does (op.Store step) line ∷
        (place ++ (does (op.Store e) line ∷
        (does op.Tick line ∷ (test ++ (skips_at_0 (length cb + length advance + 1) line ∷ (cb ++ (advance ++ returns (1 + length test + 1 + length cb + length advance) line ∷ [])))))))))))))) in
        let place = named_code v line a.target in
        ap (λ x. whole x (value_code w line free from) (value_code w line free end) (step_code w line (free + 8) by) (effects_code w (inner x) (free + 16) body)) (named_same line a.target)
        ∙ (ap₂ (λ x y. whole place x y (step_code w line (free + 8) by) (effects_code w (inner place) (free + 16) body)) (value_same line free from h.0) (value_same line free end h.1)
        ∙ ap₂ (λ x y. whole place (value_code v line free from) (value_code v line free end) x y) (step_same line (free + 8) by h.2) (effects_same (inner place) (free + 16) body h.3))
    effect_same to free (While line e body) h =
        ap₂ (λ ce cb. does op.Tick line ∷ (does op.Tick line ∷ (ce ++ (skips_at_0 (suc (length cb)) line ∷ (cb ++ returns (1 + length ce + 1 + length cb) line ∷ [])))))
        (value_same line free e h.0) (effects_same (record { to_exit = 1; to_continue = 0; to_return = 1 + to.to_return }) free body h.1)
    effect_same to free (Repeat line body e) h =
        let inner : List Cell → Targets = λ ce. record { to_exit = 1 + length ce + 1; to_continue = 0; to_return = 1 + length ce + 1 + to.to_return } in
        let whole : List Cell → List Cell → List Cell = λ ce cb. does op.Tick line ∷ (cb ++ (does op.Tick line ∷ (ce ++ returns_at_0 (length cb + 1 + length ce) line ∷ []))) in
        ap (λ ce. whole ce (effects_code w (inner ce) free body)) (value_same line free e h.1) ∙ ap (whole (value_code v line free e)) (effects_same (inner (value_code v line free e)) free body h.0)

    effects_same : (to : Targets) (free : ℕ) (ss : Statements Note) → EffectsCovered p K ss → effects_code w to free ss ≡ effects_code v to free ss
    effects_same to free no_statements h = refl
    effects_same to free (statement_then s ss) h =
        ap (λ rest. effect_code w (behind (length rest) to) free s ++ rest) (effects_same to free ss h.1) ∙ before (effect_same (behind (length (effects_code v to free ss)) to) free s h.0) (effects_code v to free ss)

    branches_same : (line : ℕ) (to : Targets) (free : ℕ) (bs : Branches Note) (x y : List Cell) → BranchesCovered p K bs → x ≡ y → branches_code w line to free bs x ≡ branches_code v line to free bs y
    branches_same line to free no_branches x y h q = q
    branches_same line to free (branch_then e body bs) x y h q =
        let rest = branches_code v line to free bs y in
        both (value_same line free e h.0)
        (ap (λ rest. let cb = effects_code w (behind (1 + length rest) to) free body in skips_at_0 (suc (length cb)) line ∷ (cb ++ skips (length rest) line ∷ rest)) (branches_same line to free bs x y h.2 q)
        ∙ ap (λ cb. skips_at_0 (suc (length cb)) line ∷ (cb ++ skips (length rest) line ∷ rest)) (effects_same (behind (1 + length rest) to) free body h.1))

    cases_same : (line : ℕ) (to : Targets) (free : ℕ) (cs : Cases Note) (x y : List Cell) → CasesCovered p K cs → x ≡ y → cases_code w line to free cs x ≡ cases_code v line to free cs y
    cases_same line to free no_cases x y h q = q
    cases_same line to free (case_then labels body cs) x y h q =
        let rest = cases_code v line to free cs y in
        ap (λ rest. let cb = effects_code w (behind (1 + length rest) to) free body in labels_code line labels ++ (skips (2 + length cb) line ∷ (does op.Drop line ∷ (cb ++ skips (length rest) line ∷ rest)))) (cases_same line to free cs x y h.1 q)
        ∙ ap (λ cb. labels_code line labels ++ (skips (2 + length cb) line ∷ (does op.Drop line ∷ (cb ++ skips (length rest) line ∷ rest)))) (effects_same (behind (1 + length rest) to) free body h.0)

    otherwise_same : (to : Targets) (free : ℕ) (o : Otherwise Note) → OtherwiseCovered p K o → otherwise_code w to free o ≡ otherwise_code v to free o
    otherwise_same to free Nothing h = refl
    otherwise_same to free (Else body) h = effects_same to free body h

  -- ---- how far the bytes behind the locals are used

  mutual
    along_top_same : (free : ℕ) (ss : Selectors Note) → WayCovered p K ss → along_top w free ss ≡ along_top v free ss
    along_top_same free no_selectors h = refl
    along_top_same free (selector_then s ss) h = most (selector_top_same free s h.1) (along_top_same free ss h.2)

    selector_top_same : (free : ℕ) (s : Selector Note) → StepCovered p K s → selector_top w free s ≡ selector_top v free s
    selector_top_same free (Field a name) h = refl
    selector_top_same free (Index a es) h = index_top_same free es h
    selector_top_same free (tree.Target a) h = refl

    index_top_same : (free : ℕ) (es : Expressions Note) → AreCovered p K es → index_top w free es ≡ index_top v free es
    index_top_same free no_expressions h = refl
    index_top_same free (expression_then e es) h = most (value_top_same free e h.0) (index_top_same free es h.1)

    value_top_same : (free : ℕ) (e : Expression Note) → IsCovered p K e → value_top w free e ≡ value_top v free e
    value_top_same free (Int a digits) h = refl
    value_top_same free (Typed a n literal) h = refl
    value_top_same free (Time a text) h = refl
    value_top_same free (True a) h = refl
    value_top_same free (False a) h = refl
    value_top_same free (Null a) h = refl
    value_top_same free (Place a r ss) h = most (along_top_same free ss h.1.1) (ap (λ n. free + n) (room_same a.kind h.0))
    value_top_same free (Call a r ss xs) h =
        let c = callee_of r ss in
        let called : Plan → List Parameter → ℕ → ℕ = λ u ps behind. max (along_top u free ss) (max behind (max (arguments_top u behind ps ps xs) (outputs_top u behind xs))) in
        let qs = v.parameters (called_of r ss) in
        let rooms = free + room_of v.size_of a.kind + block_size (length qs) in
        ap₂ (λ ps n. call_top c (operand_top w free xs) (called w ps (behind_outputs w (free + n + block_size (length ps)) xs))) (alike.parameters (called_of r ss)) (room_same a.kind h.0)
        ∙ (ap (λ n. call_top c (operand_top w free xs) (called w qs n)) (behind_same rooms xs h.1.2)
        ∙ ap₂ (call_top c) (operand_top_same free xs h.1.2) (most (along_top_same free ss h.1.1.1) (most refl (most (arguments_top_same (behind_outputs v rooms xs) qs qs xs h.1.2) (outputs_top_same (behind_outputs v rooms xs) xs h.1.2)))))
    value_top_same free (Enumerator a t b name) h = refl
    value_top_same free (Ref a r ss) h = along_top_same free ss h.1.1
    value_top_same free (Now a) h = refl
    value_top_same free (Paren a e) h = value_top_same free e h.1
    value_top_same free (Not a e) h = value_top_same free e h.1
    value_top_same free (Negate a e) h = value_top_same free e h.1
    value_top_same free (Chain a e ts) h = most (value_top_same free e h.1.0) (tails_top_same free ts h.1.1)

    tails_top_same : (free : ℕ) (ts : Tails Note) → TailsCovered p K ts → tails_top w free ts ≡ tails_top v free ts
    tails_top_same free no_tails h = refl
    tails_top_same free (tail_then a o e ts) h = most (value_top_same free e h.0) (tails_top_same free ts h.1)

    operand_top_same : (free : ℕ) (xs : Arguments Note) → GivenCovered p K xs → operand_top w free xs ≡ operand_top v free xs
    operand_top_same free (argument_then (Positional e) xs) h = value_top_same free e h.0
    operand_top_same free xs h = refl

    arguments_top_same : (free : ℕ) (ps left : List Parameter) (xs : Arguments Note) → GivenCovered p K xs → arguments_top w free ps left xs ≡ arguments_top v free ps left xs
    arguments_top_same free ps left no_arguments h = refl
    arguments_top_same free ps left (argument_then (Positional e) xs) h =
        most (value_top_same free e h.0) (ap (λ n. arguments_top w (free + n) ps (behind_next left) xs) (passed_room_same (next_parameter left) (note_of e).kind h.0.0) ∙ arguments_top_same (free + passed_room v (next_parameter left) (note_of e).kind) ps (behind_next left) xs h.1)
    arguments_top_same free ps left (argument_then (Input a name e) xs) h =
        most (value_top_same free e h.0) (ap (λ n. arguments_top w (free + n) ps left xs) (passed_room_same (parameter_named ps a) (note_of e).kind h.0.0) ∙ arguments_top_same (free + passed_room v (parameter_named ps a) (note_of e).kind) ps left xs h.1)
    arguments_top_same free ps left (argument_then (Output a name b r ss) xs) h = arguments_top_same free ps left xs h.1

    outputs_top_same : (free : ℕ) (xs : Arguments Note) → GivenCovered p K xs → outputs_top w free xs ≡ outputs_top v free xs
    outputs_top_same free no_arguments h = refl
    outputs_top_same free (argument_then (Positional e) xs) h = outputs_top_same free xs h.1
    outputs_top_same free (argument_then (Input a name e) xs) h = outputs_top_same free xs h.1
    outputs_top_same free (argument_then (Output a name b r ss) xs) h =
        ap (λ n. max (free + n) (max (along_top w (free + n) ss) (outputs_top w free xs))) (room_same (last_kind (root_note r).kind ss) (place_large r ss h.0))
        ∙ most refl (most (along_top_same (free + room_of v.size_of (last_kind (root_note r).kind ss)) ss h.0.1) (outputs_top_same free xs h.1))

  source_top_same : (free : ℕ) (e : Expression Note) → IsCovered p K e → source_top w free e ≡ source_top v free e
  source_top_same free (Place a r ss) h = along_top_same free ss h.1.1
  source_top_same free (Paren a e) h = source_top_same free e h.1
  source_top_same free e h = refl

  assigned_top_same : (free : ℕ) (ss : Selectors Note) (e : Expression Note) (b : Bool) → WayCovered p K ss → IsCovered p K e → assigned_top w free ss e b ≡ assigned_top v free ss e b
  assigned_top_same free ss e true h k = most (source_top_same free e k) (along_top_same free ss h)
  assigned_top_same free ss e false h k = most (value_top_same free e k) (ap (λ n. along_top w (free + n) ss) (room_same (note_of e).kind k.0) ∙ along_top_same (free + room_of v.size_of (note_of e).kind) ss h)

  step_top_same : (free : ℕ) (by : Option (Expression Note)) → ByCovered p K by → step_top w free by ≡ step_top v free by
  step_top_same free None h = refl
  step_top_same free (Some e) h = value_top_same free e h

  mutual
    effect_top_same : (free : ℕ) (s : Statement Note) → EffectCovered p K s → effect_top w free s ≡ effect_top v free s
    effect_top_same free (Empty line) h = refl
    effect_top_same free (Assign line a r ss e) h = assigned_top_same free ss e (is_large a.kind && (is_source e && way_is_quiet ss)) h.1.1 h.2
    effect_top_same free (Attempt line a r ss e) h = most (value_top_same free e h.1) (along_top_same free ss h.0.1)
    effect_top_same free (effect.Call line a r ss xs) h =
        let c = callee_of r ss in
        let called : Plan → List Parameter → ℕ → ℕ = λ u ps behind. max (along_top u free ss) (max behind (max (arguments_top u behind ps ps xs) (outputs_top u behind xs))) in
        let qs = v.parameters (called_of r ss) in
        ap (λ ps. call_top c (operand_top w free xs) (called w ps (behind_outputs w (free + block_size (length ps)) xs))) (alike.parameters (called_of r ss))
        ∙ (ap (λ n. call_top c (operand_top w free xs) (called w qs n)) (behind_same (free + block_size (length qs)) xs h.2)
        ∙ ap₂ (call_top c) (operand_top_same free xs h.2) (most (along_top_same free ss h.1.1) (most refl (most (arguments_top_same (behind_outputs v (free + block_size (length qs)) xs) qs qs xs h.2) (outputs_top_same (behind_outputs v (free + block_size (length qs)) xs) xs h.2)))))
    effect_top_same free (Exit line) h = refl
    effect_top_same free (Continue line) h = refl
    effect_top_same free (Return line) h = refl
    effect_top_same free (If line branches otherwise) h = most (branches_top_same free branches h.0) (otherwise_top_same free otherwise h.1)
    effect_top_same free (Case line e cases otherwise) h = most (value_top_same free e h.0) (most (cases_top_same free cases h.1) (otherwise_top_same free otherwise h.2))
    effect_top_same free (For line a name from end by body) h =
        most (value_top_same free from h.0) (most (value_top_same free end h.1) (most (step_top_same (free + 8) by h.2) (most refl (effects_top_same (free + 16) body h.3))))
    effect_top_same free (While line e body) h = most (value_top_same free e h.0) (effects_top_same free body h.1)
    effect_top_same free (Repeat line body e) h = most (effects_top_same free body h.0) (value_top_same free e h.1)

    pub effects_top_same : (free : ℕ) (ss : Statements Note) → EffectsCovered p K ss → effects_top w free ss ≡ effects_top v free ss
    effects_top_same free no_statements h = refl
    effects_top_same free (statement_then s ss) h = most (effect_top_same free s h.0) (effects_top_same free ss h.1)

    branches_top_same : (free : ℕ) (bs : Branches Note) → BranchesCovered p K bs → branches_top w free bs ≡ branches_top v free bs
    branches_top_same free no_branches h = refl
    branches_top_same free (branch_then e body bs) h = most (value_top_same free e h.0) (most (effects_top_same free body h.1) (branches_top_same free bs h.2))

    cases_top_same : (free : ℕ) (cs : Cases Note) → CasesCovered p K cs → cases_top w free cs ≡ cases_top v free cs
    cases_top_same free no_cases h = refl
    cases_top_same free (case_then labels body cs) h = most (effects_top_same free body h.0) (cases_top_same free cs h.1)

    otherwise_top_same : (free : ℕ) (o : Otherwise Note) → OtherwiseCovered p K o → otherwise_top w free o ≡ otherwise_top v free o
    otherwise_top_same free Nothing h = refl
    otherwise_top_same free (Else body) h = effects_top_same free body h

  -- ---- routines

  module _ (line : ℕ) (r : Routine) (start : ℕ) (covered : RoutineCovered p K r) where
    local_large : (n : ℕ) → IfLarge K (kind_in (slice_get r.locals n))
    local_large n = by (slice_get r.locals n) refl
      where
        by : (o : Option Variable) → slice_get r.locals n ≡ o → IfLarge K (kind_in o)
        by None e l = let x : false ≡ true = l in absurd cc
        by (Some x) e l = covered.locals n x e

    argument_same : (at : ℕ) (t : StType) (x y : List Cell) → IfLarge K t → x ≡ y → argument_in w line at t x ≡ argument_in v line at t y
    argument_same at t x y f e = after (in_block line at) (ap (λ cs. does (if is_held t then op.LoadRef else op.Load elem.Ulint) line ∷ cs) (both e (keep_same line t f)))

    result_same : (at : ℕ) (t : StType) (x : List Cell) → IfLarge K t → result_out w line at t x ≡ result_out v line at t x
    result_same at t x f = by (is_large t) refl
      where
        by : (b : Bool) → is_large t ≡ b
            → (if b then x ++ (in_block line at ++ (does op.LoadRef line ∷ (does (op.Copy (w.size_of t)) line ∷ []))) else x ++ (fetch_code w line 0 t ++ (in_block line at ++ (does (if is_held t then op.StoreRef else op.Store elem.Ulint) line ∷ []))))
            ≡ (if b then x ++ (in_block line at ++ (does op.LoadRef line ∷ (does (op.Copy (v.size_of t)) line ∷ []))) else x ++ (fetch_code v line 0 t ++ (in_block line at ++ (does (if is_held t then op.StoreRef else op.Store elem.Ulint) line ∷ []))))
        by true e = after x (after (in_block line at) (ap (λ n. does op.LoadRef line ∷ (does (op.Copy n) line ∷ [])) (alike.sizes t (f e))))
        by false e = after x (before (fetch_same line 0 t f) (in_block line at ++ (does (if is_held t then op.StoreRef else op.Store elem.Ulint) line ∷ [])))

    variable_same : (k : ℕ) → variable_at p w line r start k ≡ variable_at p v line r start k
    variable_same k = ap (λ n. does (op.This n) line ∷ []) (alike.fields (type.Instance (class_of r.class)) k)

    parameter_same : (at : ℕ) (q : Parameter) → parameter_in p w line r start at q ≡ parameter_in p v line r start at q
    parameter_same at q = by q.to
      where
        by : (to : Recipient) → parameter_in p w line r start at (record q { to = to }) ≡ parameter_in p v line r start at (record q { to = to })
        by (to_local n) =
            ap (λ cs. if is_in_out q.sort then in_out_in line at (local_at p w line r start n) else cs) (argument_same at (kind_in (slice_get r.locals n)) (local_at p w line r start n) (local_at p v line r start n) (local_large n) refl)
        by (to_variable k) = argument_same at (own_kind p w line r start k) (variable_at p w line r start k) (variable_at p v line r start k) (variable_large (class_of r.class) k) (variable_same k)

    parameters_same : (i : ℕ) (qs : List Parameter) → parameters_in p w line r start i qs ≡ parameters_in p v line r start i qs
    parameters_same i [] = refl
    parameters_same i (q ∷ qs) = both (ap (λ cs. if is_output q.sort then [] else guarded line of_mask i cs) (parameter_same (of_parameter i) q)) (parameters_same (suc i) qs)

    output_out_same : (at : ℕ) (q : Parameter) → output_out p w line r start at q ≡ output_out p v line r start at q
    output_out_same at q = by q.to
      where
        by : (to : Recipient) → output_out p w line r start at (record q { to = to }) ≡ output_out p v line r start at (record q { to = to })
        by (to_local n) = result_same at (kind_in (slice_get r.locals n)) (local_at p w line r start n) (local_large n)
        by (to_variable k) = refl

    outputs_out_same : (i : ℕ) (qs : List Parameter) → outputs_out p w line r start i qs ≡ outputs_out p v line r start i qs
    outputs_out_same i [] = refl
    outputs_out_same i (q ∷ qs) = both (ap (λ cs. if is_output q.sort then guarded line of_mask i cs else []) (output_out_same (of_parameter i) q)) (outputs_out_same (suc i) qs)

    first_same : (o : Option Variable) → slice_get r.locals 0 ≡ o → first_out p w line r start o ≡ first_out p v line r start o
    first_same None e = refl
    first_same (Some x) e = ap (λ cs. if is_in_out x.sort then [] else guarded line of_mask result_place cs) (result_same of_result x.kind (local_at p w line r start 0) (λ l. covered.locals 0 x e))

    body_same : body_code p w line r start ≡ body_code p v line r start
    body_same = effects_same (record { to_exit = 0; to_continue = 0; to_return = 0 }) (locals_end p start r.locals) r.body covered.body

    pub called_same : called_code p w line r start ≡ called_code p v line r start
    called_same = after (locals_begin p line start r.locals) (both (parameters_same 0 r.parameters) (both body_same (both (outputs_out_same 0 r.parameters) (before (first_same (slice_get r.locals 0) refl) (does (op.Ret 0) line ∷ [])))))

    pub program_same : program_code p w line r start ≡ program_code p v line r start
    program_same = after (locals_begin p line start r.locals) (before body_same (does (op.Ret 0) line ∷ []))

    flag_same : (i : ℕ) (q : Parameter) (qs : List Parameter) → flags_in p w line r start (suc i) qs ≡ flags_in p v line r start (suc i) qs → flags_in p w line r start i (q ∷ qs) ≡ flags_in p v line r start i (q ∷ qs)
    flag_same i q qs h = by q.to
      where
        by : (to : Recipient) → flags_in p w line r start i (record q { to = to } ∷ qs) ≡ flags_in p v line r start i (record q { to = to } ∷ qs)
        by (to_local n) = after (does (op.Local (8 * i)) line ∷ (does (op.Load elem.Ulint) line ∷ (local_at p w line r start n ++ does (op.Store elem.Bool) line ∷ []))) h
        by (to_variable k) = both (ap (λ cs. does (op.Local (8 * i)) line ∷ (does (op.Load elem.Ulint) line ∷ (cs ++ does (op.Store elem.Bool) line ∷ []))) (variable_same k)) h

    flags_same : (i : ℕ) (qs : List Parameter) → flags_in p w line r start i qs ≡ flags_in p v line r start i qs
    flags_same i [] = refl
    flags_same i (q ∷ qs) = flag_same i q qs (flags_same (suc i) qs)

    pub hook_same : hook_code p w line r start ≡ hook_code p v line r start
    hook_same = after (locals_begin p line start r.locals) (both (flags_same 0 r.parameters) (before body_same (does (op.Ret 0) line ∷ [])))
