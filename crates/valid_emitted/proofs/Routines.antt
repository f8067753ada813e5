-- The code of whole routines.
use Rattle.std.proofs.Common.{◌≡◌, ℕ, zero, suc, ◌+◌, ◌*◌, ℤ, pos, negsuc, Bool, true, false, List, [], ◌∷◌, ◌++◌, length, Option, Some, None, refl, ap, ◌∙◌, arith}
use Rattle.std.specs.Prelude.{if◌then◌else◌, slice_get}
use Rattle.st_types.specs.declared.elem.Elem.{Elem}
use Rattle.st_types.specs.declared.elem.Elem.TheVariants as elem
use Rattle.st_types.specs.declared.st_type.StType.{StType}
use Rattle.st_values.specs.Program.{Variable, Recipient, to_local, to_variable, Parameter, Routine, Program}
use Rattle.st_values.specs.Initial.{initial_value}
use Rattle.st_values.specs.Shape.{Shape, Elementary, Enumeration, Reference, Interface, Array, Structure, Instance, Fields, no_fields, field_then, shape_of}
use Rattle.st_values.specs.Value.{Value, number, reference, array, structure, instance, Values, no_values, value_then, Members}
use Rattle.st_meaning.specs.Call.{is_in_out, is_output}
use Rattle.st_meaning.specs.st_frame.Promise.Names.{Scope}
use Rattle.stack_code.specs.declared.op.Kind.{Kind}
use Rattle.stack_code.specs.declared.op.Kind.TheVariants.{Num, Addr}
use Rattle.stack_code.specs.declared.op.Op.TheVariants as op
use Rattle.code_cells.specs.declared.cell.Cell.{Cell}
use Rattle.code_cells.specs.declared.cell.Cell.TheVariants.{Does as does, SkipsAt0 as skips_at_0}
use Rattle.code_cells.specs.Cell.{Targets}
use Rattle.code_cells.specs.Found.{Stream, kinds_or_none, from, ended, Mark, AllFit, Takes, Free}
use Rattle.code_cells.proofs.Flow.{nothing, both, does_takes, from_append, from_at, all_fit_append}
use Rattle.code_cells.proofs.Forms.{Leaves}
use Rattle.mem_layout.specs.store_bytes.Place.{size, gap, alignment}
use Rattle.mem_layout.specs.store_bytes.Image.{elements_of, members_of, first_of, rest_of}
use Rattle.code_rules.specs.Plan.{Plan}
use Rattle.code_rules.specs.Places.{kind_in, is_large, of_parameter, of_result, of_mask, result_place, width}
use Rattle.code_rules.specs.Code.{is_held, fetch_code}
use Rattle.code_rules.specs.Bodies.{number_begins, each_begins, value_begins, fields_begin, shape_begins, locals_begin, in_block, guarded, argument_in, in_out_in, result_out, local_at, variable_at, own_kind, parameter_in, parameters_in, body_code, output_out, outputs_out, first_out, called_code, program_code, flags_in, hook_code}
use Rattle.valid_emitted.specs.Kinds.{kind_of_held, kind_at, PlanIs}
use Rattle.code_cells.specs.Settled.{Whole}
use Rattle.valid_emitted.proofs.Values.{fetch_takes, keep_takes}

-- code behind which none is reached
pub record Ends (cs : List Cell) (ks : List Kind) : Type 0 where
  pub finds : (out : Stream) → from cs out 0 ≡ Some ks
  pub fits : (marks : List Mark) (out : Stream) → AllFit marks cs out

ret_ends : (line : ℕ) → Ends (does (op.Ret 0) line ∷ []) []
ret_ends line = record { finds = λ out. refl; fits = λ marks out. ((refl, refl), tt) }

before_ends : {a b : List Cell} {ks mid : List Kind} → Takes a ks mid → Ends b mid → Ends (a ++ b) ks
before_ends {a = a} {b = b} h k = record {
  finds = λ out. ap (λ s. s 0) (from_append a b out) ∙ h.finds (from b out) (k.finds out);
  fits = λ marks out. all_fit_append marks a b out (h.fits marks (from b out) (k.finds out)) (k.fits _ out);
}

abbrev pub at_end : Targets
at_end = record { to_exit = 0; to_continue = 0; to_return = 0 }

body_ends : {a b : List Cell} {ks : List Kind} → Leaves at_end a ks → Ends b [] → Ends (a ++ b) ks
body_ends {a = a} {b = b} h k = record {
  finds = λ out. ap (λ s. s 0) (from_append a b out) ∙ h.finds (from b out) (free out);
  fits = λ marks out. all_fit_append marks a b out (h.fits marks (from b out) (free out)) (k.fits _ out);
}
  where
    free : (out : Stream) → Free at_end (from b out)
    free out = record { goes_on = k.finds out; exits = k.finds out; continues = k.finds out; returns = k.finds out }

pub whole : {cs : List Cell} → Ends cs [] → Whole cs
whole h = record { starts = h.finds ended; fits = h.fits [] ended }

-- past code where the number on top is 0
skip_takes : (cs : List Cell) (line : ℕ) (ks : List Kind) → Takes cs ks ks → Takes (skips_at_0 (length cs) line ∷ cs) (Num ∷ ks) ks
skip_takes cs line ks h = record {
  finds = λ out e. ap (λ x. Some (Num ∷ kinds_or_none x)) (h.finds out e);
  fits = λ marks out e.
      let here = h.finds out e in
      ((record { ks = ks; leaves = ap (λ x. Some (kinds_or_none x)) here; finds = here }, record { ks = ks; leaves = ap (λ x. Some (kinds_or_none x)) here; finds = from_at cs out (length cs) 0 (omega arith) ∙ e }), h.fits _ out e);
}

module _ (p : Program) (g : Scope) (w : Plan) (plan : PlanIs p g w) (line : ℕ) where
  -- ---- locals begin

  stored : (e : Elem) (z : ℤ) (at : ℕ) → Takes (does (op.Push z) line ∷ (does (op.Local at) line ∷ (does (op.Store e) line ∷ []))) [] []
  stored e z at = both (does_takes (op.Push z) line [] (Num ∷ []) refl refl (λ next h. h)) (both (does_takes (op.Local at) line (Num ∷ []) (Addr ∷ Num ∷ []) refl refl (λ next h. h)) (does_takes (op.Store e) line (Addr ∷ Num ∷ []) [] refl refl (λ next h. h)))

  number_takes : (e : Elem) (v : Value) (at : ℕ) → Takes (number_begins line e v at) [] []
  number_takes e (number (pos zero)) at = nothing []
  number_takes e (number (pos (suc n))) at = stored e (pos (suc n)) at
  number_takes e (number (negsuc n)) at = stored e (negsuc n) at
  number_takes e (reference o) at = nothing []
  number_takes e (array l vs) at = nothing []
  number_takes e (structure m ms) at = nothing []
  number_takes e (instance m ms) at = nothing []

  each_takes : (f : Value → ℕ → List Cell) (n : ℕ) (vs : Values) (at : ℕ) → ((v : Value) (at : ℕ) → Takes (f v at) [] []) → Takes (each_begins line f n vs at) [] []
  each_takes f n no_values at h = nothing []
  each_takes f n (value_then v vs) at h = both (h v at) (each_takes f n vs (at + n) h)

  mutual
    value_takes_none : (sh : Shape) (v : Value) (at : ℕ) → Takes (value_begins line sh v at) [] []
    value_takes_none (Elementary e) v at = number_takes e v at
    value_takes_none (Enumeration name values) v at = number_takes elem.Udint v at
    value_takes_none (Array low n sh) v at = each_takes (value_begins line sh) (size sh) (elements_of v) at (λ x k. value_takes_none sh x k)
    value_takes_none (Structure name fs) v at = fields_take 0 fs (members_of v) at
    value_takes_none (Reference c name) v at = nothing []
    value_takes_none (Interface i name) v at = nothing []
    value_takes_none (Instance c name fs) v at = nothing []

    fields_take : (offset : ℕ) (fs : Fields) (ms : Members) (at : ℕ) → Takes (fields_begin line offset fs ms at) [] []
    fields_take offset no_fields ms at = nothing []
    fields_take offset (field_then x sh fs) ms at = both (value_takes_none sh (first_of ms) (at + (offset + gap (alignment sh) offset))) (fields_take (offset + gap (alignment sh) offset + size sh) fs (rest_of ms) at)

  shaped_takes : (o : Option Shape) (v : Value) (at : ℕ) → Takes (shape_begins line o v at) [] []
  shaped_takes None v at = nothing []
  shaped_takes (Some sh) v at = value_takes_none sh v at

  pub locals_take : (at : ℕ) (vs : List Variable) → Takes (locals_begin p line at vs) [] []
  locals_take at [] = nothing []
  locals_take at (v ∷ vs) = both (by (is_in_out v.sort)) (locals_take (at + width p v) vs)
    where
      by : (b : Bool) → Takes (if b then [] else shape_begins line (shape_of p v.kind) (initial_value p v) at) [] []
      by true = nothing []
      by false = shaped_takes (shape_of p v.kind) (initial_value p v) at

  -- ---- the block

  block_takes : (at : ℕ) (ks : List Kind) → Takes (in_block line at) ks (Addr ∷ ks)
  block_takes at ks =
      both (does_takes (op.Local 0) line ks (Addr ∷ ks) refl refl (λ next h. h)) (both (does_takes op.LoadRef line (Addr ∷ ks) (Addr ∷ ks) refl refl (λ next h. h)) (does_takes (op.Offset at) line (Addr ∷ ks) (Addr ∷ ks) refl refl (λ next h. h)))

  guarded_takes : (mask i : ℕ) (cs : List Cell) → Takes cs [] [] → Takes (guarded line mask i cs) [] []
  guarded_takes mask i cs h =
      both (block_takes mask []) (both (does_takes (op.Load elem.Ulint) line (Addr ∷ []) (Num ∷ []) refl refl (λ next h. h)) (both (does_takes (op.Push _) line (Num ∷ []) (Num ∷ Num ∷ []) refl refl (λ next h. h))
      (both (does_takes (op.And elem.Ulint) line (Num ∷ Num ∷ []) (Num ∷ []) refl refl (λ next h. h)) (skip_takes cs line [] h))))

  argument_takes : (at : ℕ) (t : StType) (place : List Cell) → ((ks : List Kind) → Takes place ks (Addr ∷ ks)) → Takes (argument_in w line at t place) [] []
  argument_takes at t place f = both (block_takes at []) (both (by (is_held t)) (both (f (kind_at t ∷ [])) (keep_takes p g w plan line t [])))
    where
      by : (b : Bool) → Takes (does (if b then op.LoadRef else op.Load elem.Ulint) line ∷ []) (Addr ∷ []) (kind_of_held b ∷ [])
      by true = does_takes op.LoadRef line (Addr ∷ []) (Addr ∷ []) refl refl (λ next h. h)
      by false = does_takes (op.Load elem.Ulint) line (Addr ∷ []) (Num ∷ []) refl refl (λ next h. h)

  in_out_takes : (at : ℕ) (place : List Cell) → ((ks : List Kind) → Takes place ks (Addr ∷ ks)) → Takes (in_out_in line at place) [] []
  in_out_takes at place f = both (block_takes at []) (both (does_takes op.LoadRef line (Addr ∷ []) (Addr ∷ []) refl refl (λ next h. h)) (both (f (Addr ∷ [])) (does_takes op.StoreRef line (Addr ∷ Addr ∷ []) [] refl refl (λ next h. h))))

  result_takes : (at : ℕ) (t : StType) (place : List Cell) → ((ks : List Kind) → Takes place ks (Addr ∷ ks)) → Takes (result_out w line at t place) [] []
  result_takes at t place f = by (is_large t)
    where
      kept : (b : Bool) → Takes (does (if b then op.StoreRef else op.Store elem.Ulint) line ∷ []) (Addr ∷ kind_of_held b ∷ []) []
      kept true = does_takes op.StoreRef line (Addr ∷ Addr ∷ []) [] refl refl (λ next h. h)
      kept false = does_takes (op.Store elem.Ulint) line (Addr ∷ Num ∷ []) [] refl refl (λ next h. h)

      by : (b : Bool) → Takes (if b then place ++ (in_block line at ++ (does op.LoadRef line ∷ (does (op.Copy (w.size_of t)) line ∷ []))) else place ++ (fetch_code w line 0 t ++ (in_block line at ++ (does (if is_held t then op.StoreRef else op.Store elem.Ulint) line ∷ [])))) [] []
      by true = both (f []) (both (block_takes at (Addr ∷ [])) (both (does_takes op.LoadRef line (Addr ∷ Addr ∷ []) (Addr ∷ Addr ∷ []) refl refl (λ next h. h)) (does_takes (op.Copy _) line (Addr ∷ Addr ∷ []) [] refl refl (λ next h. h))))
      by false = both (f []) (both (fetch_takes p g w plan line 0 t []) (both (block_takes at (kind_at t ∷ [])) (kept (is_held t))))

  module _ (r : Routine) (start : ℕ) where
    -- where a flag is kept
    abbrev flag_place : Recipient → List Cell
    flag_place (to_local n) = local_at p w line r start n
    flag_place (to_variable k) = variable_at p w line r start k

    local_takes_at : (n : ℕ) (ks : List Kind) → Takes (local_at p w line r start n) ks (Addr ∷ ks)
    local_takes_at n ks = does_takes (op.Local _) line ks (Addr ∷ ks) refl refl (λ next h. h)

    variable_takes_at : (k : ℕ) (ks : List Kind) → Takes (variable_at p w line r start k) ks (Addr ∷ ks)
    variable_takes_at k ks = does_takes (op.This _) line ks (Addr ∷ ks) refl refl (λ next h. h)

    parameter_takes : (at : ℕ) (q : Parameter) → Takes (parameter_in p w line r start at q) [] []
    parameter_takes at q = by q.to
      where
        by : (to : Recipient) → Takes (parameter_in p w line r start at (record q { to = to })) [] []
        by (to_local n) = either (is_in_out q.sort)
          where
            either : (b : Bool) → Takes (if b then in_out_in line at (local_at p w line r start n) else argument_in w line at (kind_in (slice_get r.locals n)) (local_at p w line r start n)) [] []
            either true = in_out_takes at (local_at p w line r start n) (local_takes_at n)
            either false = argument_takes at (kind_in (slice_get r.locals n)) (local_at p w line r start n) (local_takes_at n)
        by (to_variable k) = argument_takes at (own_kind p w line r start k) (variable_at p w line r start k) (variable_takes_at k)

    parameters_take : (i : ℕ) (qs : List Parameter) → Takes (parameters_in p w line r start i qs) [] []
    parameters_take i [] = nothing []
    parameters_take i (q ∷ qs) = both (by (is_output q.sort)) (parameters_take (suc i) qs)
      where
        by : (b : Bool) → Takes (if b then [] else guarded line of_mask i (parameter_in p w line r start (of_parameter i) q)) [] []
        by true = nothing []
        by false = guarded_takes of_mask i (parameter_in p w line r start (of_parameter i) q) (parameter_takes (of_parameter i) q)

    output_takes_out : (at : ℕ) (q : Parameter) → Takes (output_out p w line r start at q) [] []
    output_takes_out at q = by q.to
      where
        by : (to : Recipient) → Takes (output_out p w line r start at (record q { to = to })) [] []
        by (to_local n) = result_takes at (kind_in (slice_get r.locals n)) (local_at p w line r start n) (local_takes_at n)
        by (to_variable k) = nothing []

    outputs_take_out : (i : ℕ) (qs : List Parameter) → Takes (outputs_out p w line r start i qs) [] []
    outputs_take_out i [] = nothing []
    outputs_take_out i (q ∷ qs) = both (by (is_output q.sort)) (outputs_take_out (suc i) qs)
      where
        by : (b : Bool) → Takes (if b then guarded line of_mask i (output_out p w line r start (of_parameter i) q) else []) [] []
        by true = guarded_takes of_mask i (output_out p w line r start (of_parameter i) q) (output_takes_out (of_parameter i) q)
        by false = nothing []

    first_takes : (o : Option Variable) → Takes (first_out p w line r start o) [] []
    first_takes None = nothing []
    first_takes (Some v) = by (is_in_out v.sort)
      where
        by : (b : Bool) → Takes (if b then [] else guarded line of_mask result_place (result_out w line of_result v.kind (local_at p w line r start 0))) [] []
        by true = nothing []
        by false = guarded_takes of_mask result_place (result_out w line of_result v.kind (local_at p w line r start 0)) (result_takes of_result v.kind (local_at p w line r start 0) (local_takes_at 0))

    -- with a body that finds no operands and leaves none
    pub called_whole : Leaves at_end (body_code p w line r start) [] → Whole (called_code p w line r start)
    called_whole h =
        whole (before_ends (locals_take start r.locals) (before_ends (parameters_take 0 r.parameters) (body_ends h (before_ends (outputs_take_out 0 r.parameters) (before_ends (first_takes (slice_get r.locals 0)) (ret_ends line))))))

    pub program_whole : Leaves at_end (body_code p w line r start) [] → Whole (program_code p w line r start)
    program_whole h = whole (before_ends (locals_take start r.locals) (body_ends h (ret_ends line)))

    -- a hook's flags are its arguments
    flags_take : (i : ℕ) (qs : List Parameter) → Takes (flags_in p w line r start i qs) [] []
    flags_take i [] = nothing []
    flags_take i (q ∷ qs) =
        both (both (does_takes (op.Local (8 * i)) line [] (Addr ∷ []) refl refl (λ next h. h)) (both (does_takes (op.Load elem.Ulint) line (Addr ∷ []) (Num ∷ []) refl refl (λ next h. h)) (by q.to))) (flags_take (suc i) qs)
      where
        by : (to : Recipient) → Takes (flag_place to ++ does (op.Store elem.Bool) line ∷ []) (Num ∷ []) []
        by (to_local n) = both (local_takes_at n (Num ∷ [])) (does_takes (op.Store elem.Bool) line (Addr ∷ Num ∷ []) [] refl refl (λ next h. h))
        by (to_variable k) = both (variable_takes_at k (Num ∷ [])) (does_takes (op.Store elem.Bool) line (Addr ∷ Num ∷ []) [] refl refl (λ next h. h))

    pub hook_whole : Leaves at_end (body_code p w line r start) [] → Whole (hook_code p w line r start)
    hook_whole h = whole (before_ends (locals_take start r.locals) (before_ends (flags_take 0 r.parameters) (body_ends h (ret_ends line))))
