-- The code of an expression leaves a value of the kind of its type, and that of a place an address.
use Rattle.std.proofs.Common.{◌≡◌, ℕ, suc, ◌+◌, ℤ, pos, Bool, true, false, List, [], ◌∷◌, ◌++◌, length, Option, Some, None, refl, sym, ap, ◌∙◌, subst}
use Rattle.std.specs.Prelude.{if◌then◌else◌, slice_get}
use Rattle.st_types.specs.declared.elem.Elem.{Elem}
use Rattle.st_types.specs.declared.elem.Elem.TheVariants as elem
use Rattle.st_types.specs.declared.st_type.StType.{StType, out-StType, roll-StType}
use Rattle.st_types.specs.declared.st_type.StType.TheFolds.{ind-StType}
use Rattle.st_types.specs.declared.st_type.StType.TheVariants as type
use Rattle.st_types.specs.declared.st_type.StType.TheOpen.{StType-F}
use Rattle.st_tree.specs.declared.expression.Operator.{Operator}
use Rattle.st_tree.specs.declared.expression.Operator.TheVariants as operator
use Rattle.st_tree.specs.declared.expression.Root.{Root}
use Rattle.st_tree.specs.declared.expression.Root.TheVariants as root
use Rattle.st_tree.specs.declared.program.Note.{Note}
use Rattle.st_tree.specs.declared.program.Target.{Target}
use Rattle.st_tree.specs.declared.program.Target.TheVariants as target
use Rattle.st_tree.specs.Expression.{Expression, Int, Typed, Time, True, False, Null, Place, Call, Enumerator, Ref, Now, Paren, Not, Negate, Chain, Expressions, no_expressions, expression_then, Selector, Field, Index, Selectors, no_selectors, selector_then, Positional, Input, Output, Arguments, no_arguments, argument_then, Tails, no_tails, tail_then}
use Rattle.st_tree.specs.Expression as tree
use Rattle.st_values.specs.Program.{Variable, Recipient, to_local, to_variable, Parameter, Routine, Program, body_of}
use Rattle.st_values.specs.Value.{number}
use Rattle.st_meaning.specs.Call.{Search, by_instance, from_class, Callee, a_conversion, a_function, a_method, a_body, callee_of, is_in_out, number_to, parameter_number, parameter_named, next_parameter, behind_next}
use Rattle.st_meaning.specs.Expression.{selector_note}
use Rattle.st_meaning.specs.Place.{root_note, elements_of}
use Rattle.st_meaning.specs.st_frame.Use.{last_kind, called_by, called_of, called_parameters, parameters_of, receiver}
use Rattle.st_meaning.specs.st_frame.Promise.Types.{NumberIs, IsElementary, IsHeld, IsPath, IsBool}
use Rattle.st_meaning.specs.st_frame.Promise.Names.{Scope, NameIs, RootIs}
use Rattle.st_meaning.specs.st_frame.Promise.Places.{PartIs, TargetIs, ElementIs, LastIs, NamedIs, IsNothing, IsPlace}
use Rattle.st_meaning.specs.st_frame.Promise.Operators.{OperationIs, Comparable, Common, NegatedIs}
use Rattle.st_meaning.specs.st_frame.Promise.Calls.{kind, recipient_variable, MayTake, MayLeave, GivenOnce, SameInOuts, CallIs, CallResultIs, ConversionIs, next_number}
use Rattle.st_meaning.specs.st_frame.Promise.Expressions.{ExpressionIs, AlongIs, SelectorIs, IndexIs, CalledAlong, TailsAre, OperandIs, ArgumentsAre, ArgumentsFit}
use Rattle.st_meaning.specs.st_frame.Promise.Declarations.{Each, IsLocal, ParameterIs}
use Rattle.st_meaning.specs.st_frame.Promise.Programs.{ProgramIs}
use Rattle.st_meaning.specs.st_frame.Good.{Fit}
use Rattle.st_meaning.proofs.st_frame.Unfolded.{opened, within_bound}
use Rattle.stack_code.specs.declared.op.Kind.{Kind}
use Rattle.stack_code.specs.declared.op.Kind.TheVariants.{Num, Addr}
use Rattle.stack_code.specs.declared.op.Op.{Op}
use Rattle.stack_code.specs.declared.op.Op.TheVariants as op
use Rattle.code_cells.specs.declared.cell.Cell.{Cell}
use Rattle.code_cells.specs.declared.cell.Cell.TheVariants.{Does as does}
use Rattle.code_cells.specs.Found.{before, kinds_or_none, Calls, Does, Takes}
use Rattle.code_cells.proofs.Flow.{nothing, both, one, does_takes}
use Rattle.code_cells.proofs.Forms.{and_then_takes, or_else_takes}
use Rattle.code_rules.specs.declared.local.LocalPlace.{LocalPlace}
use Rattle.code_rules.specs.Plan.{Plan}
use Rattle.code_rules.specs.Code.{is_held, number_kind, named_value_code, local_code, held_code, followed_code, instance_code, operated_code, negated_code, named_code, root_code, part_code, index_op, fetch_code, keep_code, converted_code, call_value_code, value_code, along_code, selected_code, indexed_code, chained_code, operand_code, keeps_own, mask_of, behind_outputs, target_code, own_code, mask_code, enter_code, arguments_by, passed_code, give_code, taken_code, large_code, output_rooms, output_code, same_code, method_call, call_op, bound_code, arguments_code, outputs_code, passed_room, widened_code}
use Rattle.code_rules.specs.Places.{is_large, room_of, of_parameter, of_result, of_own, of_mask, block_size}
use Rattle.valid_emitted.specs.Kinds.{kind_of_held, kind_at, PlanIs, SamesFit, AsksTarget, GivenFits, CallFits}

-- ---- kinds of types

pub elementary_kind : (t : StType) (e : Elem) → t ≡ type.Elementary e → kind_at t ≡ Num
elementary_kind t e q = ap kind_at q

pub an_elementary_kind : (t : StType) → IsElementary t → kind_at t ≡ Num
an_elementary_kind t h = elementary_kind t h.0 h.1

pub held_kind : (t : StType) → IsHeld t → kind_at t ≡ Addr
held_kind (type.Reference c) h = refl
held_kind (type.Interface i) h = refl
held_kind t h = absurd h

pub path_kind : (t : StType) → IsPath t → kind_at t ≡ Addr
path_kind (type.Reference c) h = refl
path_kind (type.Interface i) h = refl
path_kind (type.Instance c) h = refl
path_kind t h = absurd h

-- a type of numbers
module _ (p : Program) (z : ℤ) where
  abbrev HasNumbers : StType → Type 0
  HasNumbers t = NumberIs p t z → kind_at t ≡ Num

  refuses_structure : (n : ℕ) → HasNumbers (type.Structure n)
  refuses_structure n h =
      let o = opened p (type.Structure n) (StType-F.Structure n) h.0 (type.outs-Structure n) (within_bound p (type.Structure n) h.0 h.1) in
      absurd (subst (λ sh. Fit p sh (number z)) o.5 h.2)

  refuses_array : (low high : ℤ) (of : StType) → HasNumbers (type.Array low high of)
  refuses_array low high of h =
      let o = opened p (type.Array low high of) (StType-F.Array low high of) h.0 (type.outs-Array low high of) (within_bound p (type.Array low high of) h.0 h.1) in
      absurd (subst (λ sh. Fit p sh (number z)) o.1 h.2)

  refuses_instance : (c : ℕ) → HasNumbers (type.Instance c)
  refuses_instance c h =
      let o = opened p (type.Instance c) (StType-F.Instance c) h.0 (type.outs-Instance c) (within_bound p (type.Instance c) h.0 h.1) in
      absurd (subst (λ sh. Fit p sh (number z)) o.3 h.2)

  refuses_reference : (c : ℕ) → HasNumbers (type.Reference c)
  refuses_reference c h =
      let o = opened p (type.Reference c) (StType-F.Reference c) h.0 (type.outs-Reference c) (within_bound p (type.Reference c) h.0 h.1) in
      absurd (subst (λ sh. Fit p sh (number z)) o.1 h.2)

  refuses_interface : (i : ℕ) → HasNumbers (type.Interface i)
  refuses_interface i h =
      let o = opened p (type.Interface i) (StType-F.Interface i) h.0 (type.outs-Interface i) (within_bound p (type.Interface i) h.0 h.1) in
      absurd (subst (λ sh. Fit p sh (number z)) o.1 h.2)

  rolled_numbers : (o : StType-F StType) → HasNumbers (roll-StType o)
  rolled_numbers (StType-F.Elementary e) = subst HasNumbers (sym (type.rolls-Elementary e)) (λ h. refl)
  rolled_numbers (StType-F.Enumeration n) = subst HasNumbers (sym (type.rolls-Enumeration n)) (λ h. refl)
  rolled_numbers (StType-F.Structure n) = subst HasNumbers (sym (type.rolls-Structure n)) (refuses_structure n)
  rolled_numbers (StType-F.Array low high of) = subst HasNumbers (sym (type.rolls-Array low high of)) (refuses_array low high of)
  rolled_numbers (StType-F.Instance c) = subst HasNumbers (sym (type.rolls-Instance c)) (refuses_instance c)
  rolled_numbers (StType-F.Reference c) = subst HasNumbers (sym (type.rolls-Reference c)) (refuses_reference c)
  rolled_numbers (StType-F.Interface i) = subst HasNumbers (sym (type.rolls-Interface i)) (refuses_interface i)

  pub number_kind_is : (t : StType) → NumberIs p t z → kind_at t ≡ Num
  number_kind_is t = ind-StType HasNumbers (λ o inner is. rolled_numbers o) t

-- another name of the kind that is left
pub left_as : {cs : List Cell} {ks : List Kind} {k l : Kind} {below : List Kind} → l ≡ k → Takes cs ks (k ∷ below) → Takes cs ks (l ∷ below)
left_as {cs = cs} {ks = ks} {below = below} e h = subst (λ x. Takes cs ks (x ∷ below)) (sym e) h

pub found_as : {cs : List Cell} {left : List Kind} {k l : Kind} {below : List Kind} → l ≡ k → Takes cs (k ∷ below) left → Takes cs (l ∷ below) left
found_as {cs = cs} {left = left} {below = below} e h = subst (λ x. Takes cs (x ∷ below) left) (sym e) h

-- ---- values at addresses

module _ (line : ℕ) where
  pub local_takes : (l : LocalPlace) (ks : List Kind) → Takes (local_code line (Some l)) ks (Addr ∷ ks)
  local_takes l ks = by l.in_out
    where
      by : (b : Bool) → Takes (if b then does (op.Local l.offset) line ∷ (does op.LoadRef line ∷ (does op.Deref line ∷ [])) else does (op.Local l.offset) line ∷ []) ks (Addr ∷ ks)
      by false = does_takes (op.Local l.offset) line ks (Addr ∷ ks) refl refl (λ next h. h)
      by true = both (does_takes (op.Local l.offset) line ks (Addr ∷ ks) refl refl (λ next h. h)) (both (does_takes op.LoadRef line (Addr ∷ ks) (Addr ∷ ks) refl refl (λ next h. h)) (does_takes op.Deref line (Addr ∷ ks) (Addr ∷ ks) refl refl (λ next h. h)))

  pub held_takes : (ks : List Kind) → Takes (held_code line) (Addr ∷ ks) (Addr ∷ ks)
  held_takes ks = both (does_takes op.LoadRef line (Addr ∷ ks) (Addr ∷ ks) refl refl (λ next h. h)) (does_takes op.Deref line (Addr ∷ ks) (Addr ∷ ks) refl refl (λ next h. h))

  pub followed_takes : (t u : StType) (ks : List Kind) → TargetIs t u → Takes (followed_code line t) (Addr ∷ ks) (Addr ∷ ks)
  followed_takes (type.Instance c) u ks h = nothing (Addr ∷ ks)
  followed_takes (type.Reference c) u ks h = held_takes ks
  followed_takes t u ks h = absurd h

module _ (p : Program) (g : Scope) (w : Plan) (plan : PlanIs p g w) (line : ℕ) where
  pub named_takes : (a : Target) (t : StType) (ks : List Kind) → NameIs p g a t → Takes (named_code w line a) ks (Addr ∷ ks)
  named_takes (target.Local n) t ks h =
      let l = plan.locals n h.0 h.1 in
      subst (λ o. Takes (local_code line o) ks (Addr ∷ ks)) (sym l.1) (local_takes line l.0 ks)
  named_takes (target.Region r) t ks h = does_takes (op.Region r 0) line ks (Addr ∷ ks) refl refl (λ next h. h)
  named_takes (target.Variable k) t ks h = does_takes (op.This _) line ks (Addr ∷ ks) refl refl (λ next h. h)
  named_takes (target.Method m) t ks h = does_takes (op.This 0) line ks (Addr ∷ ks) refl refl (λ next h. h)
  named_takes target.Nothing t ks h = absurd h
  named_takes (target.Field k) t ks h = absurd h
  named_takes (target.Function k) t ks h = absurd h
  named_takes target.Conversion t ks h = absurd h
  named_takes (target.Parameter k) t ks h = absurd h
  named_takes (target.Enumerator k) t ks h = absurd h
  named_takes (target.Constant z) t ks h = absurd h

  pub root_takes : (r : Root Note) (ks : List Kind) → RootIs p g r → Takes (root_code w line r) ks (Addr ∷ ks)
  root_takes (root.Name a name) ks h = named_takes a.target a.kind ks h
  root_takes (root.This a) ks h = does_takes (op.This 0) line ks (Addr ∷ ks) refl refl (λ next h. h)
  root_takes (root.Super a) ks h = does_takes (op.This 0) line ks (Addr ∷ ks) refl refl (λ next h. h)

  pub part_takes : (t : StType) (a : Target) (u : StType) (ks : List Kind) → PartIs p t a u → Takes (part_code w line t a) (Addr ∷ ks) (Addr ∷ ks)
  part_takes t (target.Field k) u ks h = does_takes (op.Offset _) line (Addr ∷ ks) (Addr ∷ ks) refl refl (λ next h. h)
  part_takes t (target.Variable k) u ks h = does_takes (op.Offset _) line (Addr ∷ ks) (Addr ∷ ks) refl refl (λ next h. h)
  part_takes t (target.Local n) u ks h = absurd h
  part_takes t (target.Region r) u ks h = absurd h
  part_takes t (target.Method m) u ks h = absurd h
  part_takes t target.Nothing u ks h = absurd h
  part_takes t (target.Function k) u ks h = absurd h
  part_takes t target.Conversion u ks h = absurd h
  part_takes t (target.Parameter k) u ks h = absurd h
  part_takes t (target.Enumerator k) u ks h = absurd h
  part_takes t (target.Constant z) u ks h = absurd h

  pub index_takes : (o : StType-F StType) (u : StType) (ks : List Kind) → ElementIs o u → Takes (does (index_op w o) line ∷ []) (Num ∷ Addr ∷ ks) (Addr ∷ ks)
  index_takes (StType-F.Array low high of) u ks h = does_takes (op.Index low high _) line (Num ∷ Addr ∷ ks) (Addr ∷ ks) refl refl (λ next h. h)
  index_takes (StType-F.Elementary e) u ks h = absurd h
  index_takes (StType-F.Enumeration n) u ks h = absurd h
  index_takes (StType-F.Structure n) u ks h = absurd h
  index_takes (StType-F.Instance c) u ks h = absurd h
  index_takes (StType-F.Reference c) u ks h = absurd h
  index_takes (StType-F.Interface i) u ks h = absurd h

  copied_takes : (free n : ℕ) (ks : List Kind) → Takes (does (op.Local free) line ∷ (does (op.Copy n) line ∷ (does (op.Local free) line ∷ []))) (Addr ∷ ks) (Addr ∷ ks)
  copied_takes free n ks =
      both (does_takes (op.Local free) line (Addr ∷ ks) (Addr ∷ Addr ∷ ks) refl refl (λ next h. h)) (both (does_takes (op.Copy n) line (Addr ∷ Addr ∷ ks) ks refl refl (λ next h. h)) (does_takes (op.Local free) line ks (Addr ∷ ks) refl refl (λ next h. h)))

  pub fetch_takes : (free : ℕ) (t : StType) (ks : List Kind) → Takes (fetch_code w line free t) (Addr ∷ ks) (kind_at t ∷ ks)
  fetch_takes free (type.Elementary e) ks = does_takes (op.Load e) line (Addr ∷ ks) (Num ∷ ks) refl refl (λ next h. h)
  fetch_takes free (type.Enumeration n) ks = does_takes (op.Load elem.Udint) line (Addr ∷ ks) (Num ∷ ks) refl refl (λ next h. h)
  fetch_takes free (type.Reference c) ks = does_takes op.LoadRef line (Addr ∷ ks) (Addr ∷ ks) refl refl (λ next h. h)
  fetch_takes free (type.Interface i) ks = does_takes op.LoadRef line (Addr ∷ ks) (Addr ∷ ks) refl refl (λ next h. h)
  fetch_takes free (type.Instance c) ks = nothing (Addr ∷ ks)
  fetch_takes free t ks = copied_takes free (w.size_of t) ks

  widened_takes : (free : ℕ) (t : StType) (n : Elem) (ks : List Kind) → Takes (widened_code w line free t n) (Addr ∷ ks) (kind_at t ∷ ks)
  widened_takes free (type.Elementary e) n ks = does_takes (op.Load n) line (Addr ∷ ks) (Num ∷ ks) refl refl (λ next h. h)
  widened_takes free t n ks = fetch_takes free t ks

  pub keep_takes : (t : StType) (ks : List Kind) → Takes (keep_code w line t) (Addr ∷ kind_at t ∷ ks) ks
  keep_takes (type.Elementary e) ks = does_takes (op.Store e) line (Addr ∷ Num ∷ ks) ks refl refl (λ next h. h)
  keep_takes (type.Enumeration n) ks = does_takes (op.Store elem.Udint) line (Addr ∷ Num ∷ ks) ks refl refl (λ next h. h)
  keep_takes (type.Reference c) ks = does_takes op.StoreRef line (Addr ∷ Addr ∷ ks) ks refl refl (λ next h. h)
  keep_takes (type.Interface i) ks = does_takes op.StoreRef line (Addr ∷ Addr ∷ ks) ks refl refl (λ next h. h)
  keep_takes t ks = does_takes (op.Copy (w.size_of t)) line (Addr ∷ Addr ∷ ks) ks refl refl (λ next h. h)

  -- ---- operators

  module _ (fine : ProgramIs p) where
    -- ---- what is promised of a call

    -- a call of this, with what is promised of each routine that it may enter
    abbrev pub CallRight : Callee → Root Note → Selectors Note → Arguments Note → (Routine → Type 0) → Type 0
    CallRight c r ss xs P =
        let ps = called_parameters p (called_of r ss) in
        CallIs p g c (OperandIs p g xs) (RootIs p g r × CalledAlong p g ss (root_note r).kind) (last_kind (root_note r).kind ss) (called_of r ss) P (ArgumentsFit p g ps ps xs × GivenOnce ps xs)

    pub operand_of : (c : Callee) (r : Root Note) (ss : Selectors Note) (xs : Arguments Note) (P : Routine → Type 0) → c ≡ a_conversion → CallRight c r ss xs P → OperandIs p g xs
    operand_of a_conversion r ss xs P e h = h
    operand_of (a_function k) r ss xs P e h = absurd cc
    operand_of (a_method s name) r ss xs P e h = absurd cc
    operand_of (a_body s) r ss xs P e h = absurd cc

    target_of : (c : Callee) (r : Root Note) (ss : Selectors Note) (xs : Arguments Note) (P : Routine → Type 0) → CallRight c r ss xs P → AsksTarget c → RootIs p g r × CalledAlong p g ss (root_note r).kind
    target_of a_conversion r ss xs P h a = absurd a
    target_of (a_function k) r ss xs P h a = absurd a
    target_of (a_method s name) r ss xs P h a = h.0
    target_of (a_body s) r ss xs P h a = h.0

    arguments_fit : (c : Callee) (r : Root Note) (ss : Selectors Note) (xs : Arguments Note) (P : Routine → Type 0) → (c ≡ a_conversion → ⊥) → CallRight c r ss xs P
        → ArgumentsFit p g (called_parameters p (called_of r ss)) (called_parameters p (called_of r ss)) xs
    arguments_fit a_conversion r ss xs P n h = absurd (n refl)
    arguments_fit (a_function k) r ss xs P n h = h.1.0
    arguments_fit (a_method s name) r ss xs P n h = h.3.0
    arguments_fit (a_body s) r ss xs P n h = h.3.0

    -- an in-out of a base's body is a local, and one of the body that calls it
    same_place : (d : ℕ) (x : Routine) (q : Parameter) → body_of p d ≡ Some x → SameInOuts p g.locals d → ParameterIs p x q → is_in_out q.sort ≡ true → (l : LocalPlace) × (slice_get w.locals (number_to q.to) ≡ Some l)
    same_place d x q e s h i = by q.to h.1 (h.3 i)
      where
        by : (to : Recipient) → recipient_variable p x to ≡ Some h.0 → IsLocal to → (l : LocalPlace) × (slice_get w.locals (number_to to) ≡ Some l)
        by (to_local n) f l = let y = s.by x n h.0 e f (ap is_in_out h.2 ∙ i) in plan.locals n y.0 y.1
        by (to_variable k) f l = absurd l

    same_places : (d : ℕ) (x : Routine) (qs : List Parameter) → body_of p d ≡ Some x → SameInOuts p g.locals d → Each (ParameterIs p x) qs → SamesFit w qs
    same_places d x [] e s h = tt
    same_places d x (q ∷ qs) e s h = (λ i. same_place d x q e s h.0 i, same_places d x qs e s h.1)

    body_places : (d : ℕ) (o : Option Routine) → body_of p d ≡ o → SameInOuts p g.locals d → SamesFit w (parameters_of o)
    body_places d None e s = tt
    body_places d (Some x) e s = same_places d x x.parameters e s (fine.bodies d x e).parameters

    given_fits : (c : Callee) (t whole : StType) (operand target fit : Type 0) (P : Routine → Type 0) → CallIs p g c operand target whole (called_by c t whole) P fit → GivenFits w c (called_parameters p (called_by c t whole))
    given_fits (a_body (from_class d)) t whole operand target fit P h = body_places d (body_of p d) refl h.1
    given_fits (a_body by_instance) t whole operand target fit P h = tt
    given_fits (a_method s name) t whole operand target fit P h = tt
    given_fits (a_function k) t whole operand target fit P h = tt
    given_fits a_conversion t whole operand target fit P h = tt

    pub call_right : (r : Root Note) (ss : Selectors Note) (xs : Arguments Note) (P : Routine → Type 0) → (callee_of r ss ≡ a_conversion → ⊥) → CallRight (callee_of r ss) r ss xs P
        → CallFits p g w (callee_of r ss) r ss (w.parameters (called_of r ss)) xs
    call_right r ss xs P n h =
        subst (λ qs. CallFits p g w (callee_of r ss) r ss qs xs) (sym (plan.parameters (called_of r ss))) (record {
          target = target_of (callee_of r ss) r ss xs P h;
          given = given_fits (callee_of r ss) (receiver (root_note r).kind ss) (last_kind (root_note r).kind ss) (OperandIs p g xs) (RootIs p g r × CalledAlong p g ss (root_note r).kind)
              (ArgumentsFit p g (called_parameters p (called_of r ss)) (called_parameters p (called_of r ss)) xs × GivenOnce (called_parameters p (called_of r ss)) xs) P h;
          arguments = arguments_fit (callee_of r ss) r ss xs P n h;
        })

    two_numbers : (o : Op) (ks : List Kind) → Takes (does o line ∷ []) (Num ∷ Num ∷ ks) (Num ∷ ks) → {k l : Kind} → k ≡ Num → l ≡ Num → Takes (does o line ∷ []) (l ∷ k ∷ ks) (Num ∷ ks)
    two_numbers o ks h {k = k} {l = l} e f = subst (λ x. Takes (does o line ∷ []) (x ∷ k ∷ ks) (Num ∷ ks)) (sym f) (subst (λ x. Takes (does o line ∷ []) (Num ∷ x ∷ ks) (Num ∷ ks)) (sym e) h)

    common_kinds : (t u v : StType) → Common t u v → (kind_at t ≡ Num) × (kind_at u ≡ Num) × (kind_at v ≡ Num)
    common_kinds t u v h = (elementary_kind t h.0 h.3, elementary_kind u h.1 h.4, elementary_kind v h.2 h.5)

    one_kind : (t u v : StType) (right : List Cell) (ks : List Kind) (o : Op) → (kind_at t ≡ Num) × (kind_at u ≡ Num) × (kind_at v ≡ Num) → ((ks : List Kind) → Takes right ks (kind_at u ∷ ks)) → Takes (does o line ∷ []) (Num ∷ Num ∷ ks) (Num ∷ ks)
        → Takes (right ++ does o line ∷ []) (kind_at t ∷ ks) (kind_at v ∷ ks)
    one_kind t u v right ks o n r f = left_as n.2 (both (r (kind_at t ∷ ks)) (two_numbers o ks f n.0 n.1))

    held_is : (t : StType) → IsHeld t → is_held t ≡ true
    held_is (type.Reference c) h = refl
    held_is (type.Interface i) h = refl
    held_is t h = absurd h

    comparable : (t u : StType) → Comparable p t u → is_held t ≡ is_held u
    comparable (type.Elementary a) (type.Elementary b) c = refl
    comparable (type.Enumeration n) (type.Enumeration m) c = refl
    comparable t u c = held_is t c.0 ∙ sym (held_is u c.1)

    equal_takes : (b : Bool) (right : List Cell) (ks : List Kind) → Takes right (kind_of_held b ∷ ks) (kind_of_held b ∷ kind_of_held b ∷ ks) → Takes (right ++ does (if b then op.Same else op.Eq) line ∷ []) (kind_of_held b ∷ ks) (Num ∷ ks)
    equal_takes true right ks h = both h (does_takes op.Same line (Addr ∷ Addr ∷ ks) (Num ∷ ks) refl refl (λ next h. h))
    equal_takes false right ks h = both h (does_takes op.Eq line (Num ∷ Num ∷ ks) (Num ∷ ks) refl refl (λ next h. h))

    differs_takes : (b : Bool) (right : List Cell) (ks : List Kind) → Takes right (kind_of_held b ∷ ks) (kind_of_held b ∷ kind_of_held b ∷ ks)
        → Takes (right ++ does (if b then op.Same else op.Ne) line ∷ (if b then does (op.Not elem.Bool) line ∷ [] else [])) (kind_of_held b ∷ ks) (Num ∷ ks)
    differs_takes true right ks h = both h (both (does_takes op.Same line (Addr ∷ Addr ∷ ks) (Num ∷ ks) refl refl (λ next h. h)) (does_takes (op.Not elem.Bool) line (Num ∷ ks) (Num ∷ ks) refl refl (λ next h. h)))
    differs_takes false right ks h = both h (does_takes op.Ne line (Num ∷ Num ∷ ks) (Num ∷ ks) refl refl (λ next h. h))

    boolean : (t : StType) → IsBool t → kind_at t ≡ Num
    boolean t h = ap kind_at h

    alike : (t u : StType) (right : List Cell) (ks : List Kind) → Comparable p t u → ((ks : List Kind) → Takes right ks (kind_at u ∷ ks)) → Takes right (kind_at t ∷ ks) (kind_at t ∷ kind_at t ∷ ks)
    alike t u right ks c r = left_as (ap kind_of_held (comparable t u c)) (r (kind_at t ∷ ks))

    order_kinds : (t u v : StType) → IsElementary t × IsElementary u × IsBool v → (kind_at t ≡ Num) × (kind_at u ≡ Num) × (kind_at v ≡ Num)
    order_kinds t u v h = (an_elementary_kind t h.0, an_elementary_kind u h.1, boolean v h.2)

    pub operated_takes : (o : Operator) (t u v : StType) (right : List Cell) (ks : List Kind) → OperationIs p o t u v → ((ks : List Kind) → Takes right ks (kind_at u ∷ ks)) → Takes (operated_code line o t v right) (kind_at t ∷ ks) (kind_at v ∷ ks)
    operated_takes operator.AndThen t u v right ks h r = found_as (boolean t h.0) (left_as (boolean v h.2) (and_then_takes right line ks (left_as (sym (boolean u h.1)) (r ks))))
    operated_takes operator.OrElse t u v right ks h r = found_as (boolean t h.0) (left_as (boolean v h.2) (or_else_takes right line ks (left_as (sym (boolean u h.1)) (r ks))))
    operated_takes operator.Equal t u v right ks h r = left_as (boolean v h.1) (equal_takes (is_held t) right ks (alike t u right ks h.0 r))
    operated_takes operator.Differs t u v right ks h r = left_as (boolean v h.1) (differs_takes (is_held t) right ks (alike t u right ks h.0 r))
    operated_takes operator.Less t u v right ks h r = one_kind t u v right ks op.Lt (order_kinds t u v h) r (does_takes op.Lt line (Num ∷ Num ∷ ks) (Num ∷ ks) refl refl (λ next h. h))
    operated_takes operator.Greater t u v right ks h r = one_kind t u v right ks op.Gt (order_kinds t u v h) r (does_takes op.Gt line (Num ∷ Num ∷ ks) (Num ∷ ks) refl refl (λ next h. h))
    operated_takes operator.AtMost t u v right ks h r = one_kind t u v right ks op.Le (order_kinds t u v h) r (does_takes op.Le line (Num ∷ Num ∷ ks) (Num ∷ ks) refl refl (λ next h. h))
    operated_takes operator.AtLeast t u v right ks h r = one_kind t u v right ks op.Ge (order_kinds t u v h) r (does_takes op.Ge line (Num ∷ Num ∷ ks) (Num ∷ ks) refl refl (λ next h. h))
    operated_takes operator.Plus t u v right ks h r = one_kind t u v right ks (op.Add _) (common_kinds t u v h) r (does_takes (op.Add _) line (Num ∷ Num ∷ ks) (Num ∷ ks) refl refl (λ next h. h))
    operated_takes operator.Minus t u v right ks h r = one_kind t u v right ks (op.Sub _) (common_kinds t u v h) r (does_takes (op.Sub _) line (Num ∷ Num ∷ ks) (Num ∷ ks) refl refl (λ next h. h))
    operated_takes operator.Times t u v right ks h r = one_kind t u v right ks (op.Mul _) (common_kinds t u v h) r (does_takes (op.Mul _) line (Num ∷ Num ∷ ks) (Num ∷ ks) refl refl (λ next h. h))
    operated_takes operator.Divide t u v right ks h r = one_kind t u v right ks (op.Div _) (common_kinds t u v h) r (does_takes (op.Div _) line (Num ∷ Num ∷ ks) (Num ∷ ks) refl refl (λ next h. h))
    operated_takes operator.Modulo t u v right ks h r = one_kind t u v right ks (op.Mod _) (common_kinds t u v h) r (does_takes (op.Mod _) line (Num ∷ Num ∷ ks) (Num ∷ ks) refl refl (λ next h. h))
    operated_takes operator.And t u v right ks h r = one_kind t u v right ks (op.And _) (common_kinds t u v h) r (does_takes (op.And _) line (Num ∷ Num ∷ ks) (Num ∷ ks) refl refl (λ next h. h))
    operated_takes operator.Or t u v right ks h r = one_kind t u v right ks (op.Or _) (common_kinds t u v h) r (does_takes (op.Or _) line (Num ∷ Num ∷ ks) (Num ∷ ks) refl refl (λ next h. h))
    operated_takes operator.Xor t u v right ks h r = one_kind t u v right ks (op.Xor _) (common_kinds t u v h) r (does_takes (op.Xor _) line (Num ∷ Num ∷ ks) (Num ∷ ks) refl refl (λ next h. h))

    -- ---- expressions

    pushed : (t : StType) (e : Elem) (z : ℤ) (ks : List Kind) → t ≡ type.Elementary e → Takes (does (op.Push z) line ∷ []) ks (kind_at t ∷ ks)
    pushed t e z ks h = left_as (elementary_kind t e h) (does_takes (op.Push z) line ks (Num ∷ ks) refl refl (λ next h. h))

    named_value_takes : (a : Target) (t : StType) (place : List Cell) (P : Type 0) (ks : List Kind) → NamedIs p a t P → (P → Takes place ks (kind_at t ∷ ks)) → Takes (named_value_code line a t place) ks (kind_at t ∷ ks)
    named_value_takes (target.Constant z) t place P ks h f = left_as (number_kind_is p z t h) (does_takes (op.Push z) line ks (Num ∷ ks) refl refl (λ next h. h))
    named_value_takes (target.Enumerator k) t place P ks h f = left_as (number_kind_is p (pos k) t h) (does_takes (op.Push (pos k)) line ks (Num ∷ ks) refl refl (λ next h. h))
    named_value_takes a t place P ks h f = f h

    one_number : (o : Op) (t u : StType) (ks : List Kind) → kind_at t ≡ Num → kind_at u ≡ Num → Takes (does o line ∷ []) (Num ∷ ks) (Num ∷ ks) → Takes (does o line ∷ []) (kind_at t ∷ ks) (kind_at u ∷ ks)
    one_number o t u ks a b h = found_as a (left_as b h)

    negated_takes : (a : Note) (e : Expression Note) (operand : List Cell) (P : Type 0) (ks : List Kind) → NegatedIs a e P → (P → Takes operand ks (kind_at a.kind ∷ ks) × IsElementary a.kind) → Takes (negated_code line a e operand) ks (kind_at a.kind ∷ ks)
    negated_takes a (Int b digits) operand P ks h f = pushed a.kind h.0 _ ks h.1
    negated_takes a e operand P ks h f = both (f h).0 (let n = an_elementary_kind a.kind (f h).1 in one_number (op.Neg _) a.kind a.kind ks n n (does_takes (op.Neg _) line (Num ∷ ks) (Num ∷ ks) refl refl (λ next h. h)))

    -- ---- calls, in parts

    enters_takes : (o : Op) (ks : List Kind) → ((next : Option (List Kind)) → Calls 1 (Addr ∷ Addr ∷ ks) next → Does o (Addr ∷ Addr ∷ ks) next) → before o ks ≡ Addr ∷ Addr ∷ ks → Takes (does o line ∷ []) (Addr ∷ Addr ∷ ks) ks
    enters_takes o ks h b = one (does o line) (Addr ∷ Addr ∷ ks) ks (λ marks out e. (ap (λ x. before o (kinds_or_none x)) e ∙ b, h (out 0) (record { left = ks; count = refl; args = refl; finds = e })))

    method_takes : (t : StType) (name : List ℕ) (ks : List Kind) → Takes (does (method_call w t name) line ∷ []) (Addr ∷ Addr ∷ ks) ks
    method_takes (type.Interface i) name ks = enters_takes (op.CallI i _ 1) ks (λ next c. c) refl
    method_takes t name ks = enters_takes (op.CallM _ _ 1) ks (λ next c. c) refl

    call_op_takes : (c : Callee) (t whole : StType) (ks : List Kind) → (c ≡ a_conversion → ⊥) → Takes (does (call_op w c t whole) line ∷ []) (Addr ∷ Addr ∷ ks) ks
    call_op_takes a_conversion t whole ks n = absurd (n refl)
    call_op_takes (a_function k) t whole ks n = enters_takes (op.Call _ 1) ks (λ next c. c) refl
    call_op_takes (a_method by_instance name) t whole ks n = method_takes t name ks
    call_op_takes (a_method (from_class d) name) t whole ks n = enters_takes (op.Call _ 1) ks (λ next c. c) refl
    call_op_takes (a_body by_instance) t whole ks n = enters_takes (op.CallM _ _ 1) ks (λ next c. c) refl
    call_op_takes (a_body (from_class d)) t whole ks n = enters_takes (op.Call _ 1) ks (λ next c. c) refl

    kept : (at : ℕ) (ks : List Kind) → Takes (does (op.Local at) line ∷ (does op.StoreRef line ∷ [])) (Addr ∷ ks) ks
    kept at ks = both (does_takes (op.Local at) line (Addr ∷ ks) (Addr ∷ Addr ∷ ks) refl refl (λ next h. h)) (does_takes op.StoreRef line (Addr ∷ Addr ∷ ks) ks refl refl (λ next h. h))

    give_takes : (at : ℕ) (t : StType) (ks : List Kind) → Takes (give_code line at t) (kind_at t ∷ ks) ks
    give_takes at t ks = by (is_held t)
      where
        by : (b : Bool) → Takes (does (op.Local at) line ∷ (does (if b then op.StoreRef else op.Store elem.Ulint) line ∷ [])) (kind_of_held b ∷ ks) ks
        by true = kept at ks
        by false = both (does_takes (op.Local at) line (Num ∷ ks) (Addr ∷ Num ∷ ks) refl refl (λ next h. h)) (does_takes (op.Store elem.Ulint) line (Addr ∷ Num ∷ ks) ks refl refl (λ next h. h))

    taken_takes : (at : ℕ) (t : StType) (ks : List Kind) → Takes (taken_code line at t) ks (kind_at t ∷ ks)
    taken_takes at t ks = by (is_held t)
      where
        by : (b : Bool) → Takes (does (op.Local at) line ∷ (does (if b then op.LoadRef else op.Load (number_kind t)) line ∷ [])) ks (kind_of_held b ∷ ks)
        by true = both (does_takes (op.Local at) line ks (Addr ∷ ks) refl refl (λ next h. h)) (does_takes op.LoadRef line (Addr ∷ ks) (Addr ∷ ks) refl refl (λ next h. h))
        by false = both (does_takes (op.Local at) line ks (Addr ∷ ks) refl refl (λ next h. h)) (does_takes (op.Load _) line (Addr ∷ ks) (Num ∷ ks) refl refl (λ next h. h))

    passed_takes : (o : Option Parameter) (at : ℕ) (e : Expression Note) (value place : List Cell) (ks : List Kind) → MayTake o e → Takes value ks (kind_at (kind e) ∷ ks) → (IsPlace e → Takes place ks (Addr ∷ ks)) → Takes (passed_code line o at (kind e) value place) ks ks
    passed_takes None at e value place ks b h f = absurd b
    passed_takes (Some q) at e value place ks b h f = by (is_in_out q.sort) refl
      where
        by : (x : Bool) → is_in_out q.sort ≡ x → Takes (if x then place ++ (does (op.Local at) line ∷ (does op.StoreRef line ∷ [])) else value ++ give_code line at (kind e)) ks ks
        by true i = both (f (b.1 i)) (kept at ks)
        by false i = both h (give_takes at (kind e) ks)

    large_takes : (at free : ℕ) (t : StType) (ks : List Kind) → Takes (large_code line at free t) ks ks
    large_takes at free t ks = by (is_large t)
      where
        by : (x : Bool) → Takes (if x then does (op.Local free) line ∷ (does (op.Local at) line ∷ (does op.StoreRef line ∷ [])) else []) ks ks
        by true = both (does_takes (op.Local free) line ks (Addr ∷ ks) refl refl (λ next h. h)) (kept at ks)
        by false = nothing ks

    pub rooms_take : (block free : ℕ) (xs : Arguments Note) (ks : List Kind) → Takes (output_rooms w line block free xs) ks ks
    rooms_take block free no_arguments ks = nothing ks
    rooms_take block free (argument_then (Positional e) xs) ks = rooms_take block free xs ks
    rooms_take block free (argument_then (Input a n e) xs) ks = rooms_take block free xs ks
    rooms_take block free (argument_then (Output a n b r ss) xs) ks = both (large_takes (block + of_parameter (parameter_number a.target)) free (last_kind (root_note r).kind ss) ks) (rooms_take block (free + room_of w.size_of (last_kind (root_note r).kind ss)) xs ks)

    output_takes : (o : Option Parameter) (at own free : ℕ) (t whole : StType) (ks : List Kind) → MayLeave o t → Takes (output_code w line o at own free t whole) ks (kind_at t ∷ ks)
    output_takes None at own free t whole ks h = absurd h
    output_takes (Some q) at own free t whole ks h = by q.to
      where
        by : (to : Recipient) → Takes (output_code w line (Some (record q { to = to })) at own free t whole) ks (kind_at t ∷ ks)
        by (to_local n) = taken_takes at t ks
        by (to_variable k) =
            both (does_takes (op.Local own) line ks (Addr ∷ ks) refl refl (λ next h. h)) (both (does_takes op.LoadRef line (Addr ∷ ks) (Addr ∷ ks) refl refl (λ next h. h))
            (both (does_takes (op.Offset _) line (Addr ∷ ks) (Addr ∷ ks) refl refl (λ next h. h)) (widened_takes free t (w.kind_of whole k) ks)))

    same_takes : (block i : ℕ) (ps : List Parameter) (ks : List Kind) → SamesFit w ps → Takes (same_code w line block i ps) ks ks
    same_takes block i [] ks h = nothing ks
    same_takes block i (q ∷ qs) ks h = both (by (is_in_out q.sort) refl) (same_takes block (suc i) qs ks h.1)
      where
        by : (x : Bool) → is_in_out q.sort ≡ x → Takes (if x then local_code line (slice_get w.locals (number_to q.to)) ++ (does (op.Local (block + of_parameter i)) line ∷ (does op.StoreRef line ∷ [])) else []) ks ks
        by false e = nothing ks
        by true e =
            let l = h.0 e in
            both (subst (λ o. Takes (local_code line o) ks (Addr ∷ ks)) (sym l.1) (local_takes line l.0 ks)) (kept (block + of_parameter i) ks)

    own_takes : (c : Callee) (at : ℕ) (ks : List Kind) → Takes (own_code line c at) (Addr ∷ ks) (Addr ∷ ks)
    own_takes c at ks = by (keeps_own c)
      where
        by : (x : Bool) → Takes (if x then does op.Dup line ∷ (does (op.Local at) line ∷ (does op.StoreRef line ∷ [])) else []) (Addr ∷ ks) (Addr ∷ ks)
        by true = both (does_takes op.Dup line (Addr ∷ ks) (Addr ∷ Addr ∷ ks) refl refl (λ next h. h)) (kept at (Addr ∷ ks))
        by false = nothing (Addr ∷ ks)

    mask_takes : (at mask : ℕ) (ks : List Kind) → Takes (mask_code line at mask) ks ks
    mask_takes at mask ks =
        both (does_takes (op.Push _) line ks (Num ∷ ks) refl refl (λ next h. h)) (both (does_takes (op.Local at) line (Num ∷ ks) (Addr ∷ Num ∷ ks) refl refl (λ next h. h)) (does_takes (op.Store elem.Ulint) line (Addr ∷ Num ∷ ks) ks refl refl (λ next h. h)))

    target_takes : (c : Callee) (place : List Cell) (ks : List Kind) → (c ≡ a_conversion → ⊥) → (AsksTarget c → Takes place ks (Addr ∷ ks)) → Takes (target_code line c place) ks (Addr ∷ ks)
    target_takes a_conversion place ks n f = absurd (n refl)
    target_takes (a_function k) place ks n f = does_takes op.Null line ks (Addr ∷ ks) refl refl (λ next h. h)
    target_takes (a_method s name) place ks n f = f tt
    target_takes (a_body s) place ks n f = f tt

    pub entered_takes : (c : Callee) (ps : List Parameter) (free : ℕ) (t whole : StType) (place arguments rooms : List Cell) (mask : ℕ) (outputs : List Cell) (ks : List Kind) → (c ≡ a_conversion → ⊥) → (AsksTarget c → Takes place ks (Addr ∷ ks))
        → Takes arguments (Addr ∷ ks) (Addr ∷ ks) → Takes rooms (Addr ∷ ks) (Addr ∷ ks) → Takes outputs ks ks → Takes (enter_code w line c ps free t whole place arguments rooms mask outputs) ks ks
    entered_takes c ps free t whole place arguments rooms mask outputs ks n f h i j =
        both (target_takes c place ks n f) (both (own_takes c (free + of_own) ks) (both h (both i (both (mask_takes (free + of_mask) mask (Addr ∷ ks))
        (both (does_takes (op.Local free) line (Addr ∷ ks) (Addr ∷ Addr ∷ ks) refl refl (λ next h. h)) (both (does_takes op.Tick line (Addr ∷ Addr ∷ ks) (Addr ∷ Addr ∷ ks) refl refl (λ next h. h)) (both (call_op_takes c t whole ks n) j)))))))

    given_takes : (c : Callee) (ps : List Parameter) (given same : List Cell) (ks : List Kind) → GivenFits w c ps → Takes given ks ks → (SamesFit w ps → Takes same ks ks) → Takes (arguments_by c given same) ks ks
    given_takes (a_body (from_class d)) ps given same ks h f i = i h
    given_takes (a_body by_instance) ps given same ks h f i = f
    given_takes (a_method s name) ps given same ks h f i = f
    given_takes (a_function k) ps given same ks h f i = f
    given_takes a_conversion ps given same ks h f i = f

    valued_takes : (c : Callee) (xs : Arguments Note) (t : StType) (operand called : List Cell) (at : ℕ) (ks : List Kind) → (c ≡ a_conversion → ⊥) → Takes called ks ks → Takes (call_value_code line c xs t operand called at) ks (kind_at t ∷ ks)
    valued_takes a_conversion xs t operand called at ks n h = absurd (n refl)
    valued_takes (a_function k) xs t operand called at ks n h = both h (taken_takes at t ks)
    valued_takes (a_method s name) xs t operand called at ks n h = both h (taken_takes at t ks)
    valued_takes (a_body s) xs t operand called at ks n h = both h (taken_takes at t ks)

    last_takes : (t : StType) (a : Target) (u : StType) (ks : List Kind) → LastIs p t a u → Takes (part_code w line t a) (Addr ∷ ks) (Addr ∷ ks)
    last_takes t (target.Method m) u ks h = by t
      where
        by : (t : StType) → Takes (instance_code line t) (Addr ∷ ks) (Addr ∷ ks)
        by (type.Interface i) = held_takes line ks
        by t = nothing (Addr ∷ ks)
    last_takes t (target.Field k) u ks h = part_takes t (target.Field k) u ks h
    last_takes t (target.Variable k) u ks h = part_takes t (target.Variable k) u ks h
    last_takes t (target.Local n) u ks h = absurd h
    last_takes t (target.Region r) u ks h = absurd h
    last_takes t target.Nothing u ks h = absurd h
    last_takes t (target.Function k) u ks h = absurd h
    last_takes t target.Conversion u ks h = absurd h
    last_takes t (target.Parameter k) u ks h = absurd h
    last_takes t (target.Enumerator k) u ks h = absurd h
    last_takes t (target.Constant z) u ks h = absurd h

    place_named : (a : Target) (t : StType) (P : Type 0) → NamedIs p a t P → IsNothing a → P
    place_named target.Nothing t P h n = h
    place_named a t P h n = absurd n

    element_is : (o : StType-F StType) (t u : StType) → ElementIs o u → u ≡ elements_of o t
    element_is (StType-F.Array low high of) t u h = sym h
    element_is (StType-F.Elementary e) t u h = absurd h
    element_is (StType-F.Enumeration n) t u h = absurd h
    element_is (StType-F.Structure n) t u h = absurd h
    element_is (StType-F.Instance c) t u h = absurd h
    element_is (StType-F.Reference c) t u h = absurd h
    element_is (StType-F.Interface i) t u h = absurd h

    abbrev pub operand_kind : Arguments Note → Kind
    operand_kind (argument_then (Positional e) xs) = kind_at (kind e)
    operand_kind _ = Num

    -- a conversion of an operand
    converted_takes : (xs : Arguments Note) (t : StType) (operand : List Cell) (ks : List Kind) → IsElementary t → OperandIs p g xs → operand_kind xs ≡ Num → Takes operand ks (operand_kind xs ∷ ks) → Takes (converted_code line xs t operand) ks (kind_at t ∷ ks)
    converted_takes (argument_then (Positional e) xs) t operand ks n f k h = both h (one_number (op.Conv _ _) (kind e) t ks k (an_elementary_kind t n) (does_takes (op.Conv _ _) line (Num ∷ ks) (Num ∷ ks) refl refl (λ next h. h)))
    converted_takes (argument_then (Input a m e) xs) t operand ks n f k h = absurd f
    converted_takes (argument_then (Output a m b r ss) xs) t operand ks n f k h = absurd f
    converted_takes no_arguments t operand ks n f k h = absurd f

    pub number_operand : (xs : Arguments Note) → OperandIs p g xs → operand_kind xs ≡ Num
    number_operand (argument_then (Positional e) xs) h = an_elementary_kind (kind e) h.1
    number_operand (argument_then (Input b n e) xs) h = absurd h
    number_operand (argument_then (Output b n d s ss) xs) h = absurd h
    number_operand no_arguments h = absurd h

    conversion_is : (c : Callee) (xs : Arguments Note) (t : StType) (operand called : List Cell) (at : ℕ) → c ≡ a_conversion → converted_code line xs t operand ≡ call_value_code line c xs t operand called at
    conversion_is c xs t operand called at e = ap (λ d. call_value_code line d xs t operand called at) (sym e)

    clash_function : (k : ℕ) → a_function k ≡ a_conversion → ⊥
    clash_function k e = cc

    clash_method : (s : Search) (n : List ℕ) → a_method s n ≡ a_conversion → ⊥
    clash_method s n e = cc

    clash_body : (s : Search) → a_body s ≡ a_conversion → ⊥
    clash_body s e = cc

    pub called_takes : (c : Callee) (free : ℕ) (ps : List Parameter) (r : Root Note) (ss : Selectors Note) (xs : Arguments Note) (place given outputs rooms : List Cell) (mask : ℕ) (ks : List Kind) → (c ≡ a_conversion → ⊥) → CallFits p g w c r ss ps xs
        → (RootIs p g r × CalledAlong p g ss (root_note r).kind → Takes place ks (Addr ∷ ks)) → Takes given (Addr ∷ ks) (Addr ∷ ks) → Takes outputs ks ks → Takes rooms (Addr ∷ ks) (Addr ∷ ks)
        → Takes (enter_code w line c ps free (receiver (root_note r).kind ss) (last_kind (root_note r).kind ss) place (arguments_by c given (same_code w line free 0 ps)) rooms mask outputs) ks ks
    called_takes c free ps r ss xs place given outputs rooms mask ks n fits f h o i =
        entered_takes c ps free (receiver (root_note r).kind ss) (last_kind (root_note r).kind ss) place (arguments_by c given (same_code w line free 0 ps)) rooms mask outputs ks n (λ a. f (fits.target a))
        (given_takes c ps given (same_code w line free 0 ps) (Addr ∷ ks) fits.given h (λ s. same_takes free 0 ps (Addr ∷ ks) s)) i o

    call_takes : (free : ℕ) (a : Note) (r : Root Note) (ss : Selectors Note) (xs : Arguments Note) (ks : List Kind) → ExpressionIs p g (Call a r ss xs) → (c : Callee) → callee_of r ss ≡ c → (OperandIs p g xs → Takes (operand_code w line free xs) ks (operand_kind xs ∷ ks))
        → ((callee_of r ss ≡ a_conversion → ⊥) → Takes (value_code w line free (Call a r ss xs)) ks (kind_at a.kind ∷ ks))
        → Takes (value_code w line free (Call a r ss xs)) ks (kind_at a.kind ∷ ks)
    call_takes free a r ss xs ks h a_conversion e f k =
        let ps = called_parameters p (called_of r ss) in
        let operand : OperandIs p g xs = operand_of (callee_of r ss) r ss xs (CallResultIs (callee_of r ss) a.kind (λ x. ArgumentsAre p g x ps ps xs)) e h.1 in
        subst (λ cs. Takes cs ks (kind_at a.kind ∷ ks)) (conversion_is (callee_of r ss) xs a.kind (operand_code w line free xs) _ _ e)
        (converted_takes xs a.kind (operand_code w line free xs) ks (subst (λ d. ConversionIs d a.kind) e h.0) operand (number_operand xs operand) (f operand))
    call_takes free a r ss xs ks h (a_function n) e f k = k (λ q. clash_function n (sym e ∙ q))
    call_takes free a r ss xs ks h (a_method s n) e f k = k (λ q. clash_method s n (sym e ∙ q))
    call_takes free a r ss xs ks h (a_body s) e f k = k (λ q. clash_body s (sym e ∙ q))

    mutual
      pub along_takes : (free : ℕ) (ss : Selectors Note) (t : StType) (ks : List Kind) → AlongIs p g ss t → Takes (along_code w line free ss t) (Addr ∷ ks) (Addr ∷ ks)
      along_takes free no_selectors t ks h = nothing (Addr ∷ ks)
      along_takes free (selector_then s ss) t ks h = both (selected_takes free s t ks h.0) (along_takes free ss (selector_note s).kind ks h.1)

      selected_takes : (free : ℕ) (s : Selector Note) (t : StType) (ks : List Kind) → SelectorIs p g s t → Takes (selected_code w line free s t) (Addr ∷ ks) (Addr ∷ ks)
      selected_takes free (Field a name) t ks h = part_takes t a.target a.kind ks h
      selected_takes free (Index a es) t ks h = indexed_takes free es t a.kind ks h
      selected_takes free (tree.Target a) t ks h = followed_takes line t a.kind ks h

      indexed_takes : (free : ℕ) (es : Expressions Note) (t u : StType) (ks : List Kind) → IndexIs p g es t u → Takes (indexed_code w line free es t) (Addr ∷ ks) (Addr ∷ ks)
      indexed_takes free no_expressions t u ks h = nothing (Addr ∷ ks)
      indexed_takes free (expression_then e es) t u ks h =
          both (left_as (sym (an_elementary_kind (kind e) h.1)) (value_takes free e (Addr ∷ ks) h.0))
          (both (index_takes (out-StType t) h.2.0 ks h.2.1) (subst (λ x. Takes (indexed_code w line free es x) (Addr ∷ ks) (Addr ∷ ks)) (element_is (out-StType t) t h.2.0 h.2.1) (indexed_takes free es h.2.0 u ks h.2.2)))

      pub value_takes : (free : ℕ) (e : Expression Note) (ks : List Kind) → ExpressionIs p g e → Takes (value_code w line free e) ks (kind_at (kind e) ∷ ks)
      value_takes free (Int a digits) ks h = pushed a.kind h.0 _ ks h.1
      value_takes free (Typed a k literal) ks h = pushed a.kind k _ ks h.0
      value_takes free (Time a text) ks h = pushed a.kind elem.Time _ ks h.0
      value_takes free (True a) ks h = pushed a.kind elem.Bool _ ks h
      value_takes free (False a) ks h = pushed a.kind elem.Bool _ ks h
      value_takes free (Null a) ks h = left_as (held_kind a.kind h) (does_takes op.Null line ks (Addr ∷ ks) refl refl (λ next h. h))
      value_takes free (Place a r ss) ks h =
          named_value_takes a.target a.kind _ _ ks h (λ f. both (both (root_takes r ks f.0) (along_takes free ss (root_note r).kind ks f.1)) (fetch_takes free a.kind ks))
      value_takes free (Call a r ss xs) ks h =
          let c = callee_of r ss in
          let ps = w.parameters (called_of r ss) in
          let whole = last_kind (root_note r).kind ss in
          let block = free + room_of w.size_of a.kind in
          let rooms = block + block_size (length ps) in
          call_takes free a r ss xs ks h c refl (λ f. operand_takes free xs ks f)
          (λ n. let fits = call_right r ss xs (CallResultIs c a.kind (λ x. ArgumentsAre p g x (called_parameters p (called_of r ss)) (called_parameters p (called_of r ss)) xs)) n h.1 in
          valued_takes c xs a.kind (operand_code w line free xs) _ (block + of_result) ks n
          (called_takes c block ps r ss xs (root_code w line r ++ along_code w line free ss (root_note r).kind) (arguments_code w line block (behind_outputs w rooms xs) ps 0 ps xs) (outputs_code w line block (behind_outputs w rooms xs) ps whole xs)
          (output_rooms w line block rooms xs ++ large_code line (block + of_result) free a.kind) (mask_of c ps true xs) ks n fits
          (λ f. both (root_takes r ks f.0) (called_along_takes free ss (root_note r).kind ks f.1))
          (arguments_take block (behind_outputs w rooms xs) ps 0 ps xs (Addr ∷ ks) fits.arguments)
          (outputs_take block (behind_outputs w rooms xs) ps ps whole xs ks fits.arguments)
          (both (rooms_take block rooms xs (Addr ∷ ks)) (large_takes (block + of_result) free a.kind (Addr ∷ ks)))))
      value_takes free (Enumerator a t b name) ks h = left_as (number_kind_is p _ a.kind h) (does_takes (op.Push _) line ks (Num ∷ ks) refl refl (λ next h. h))
      value_takes free (Ref a r ss) ks h = left_as (ap kind_at h.2.2) (both (root_takes r ks h.0) (along_takes free ss (root_note r).kind ks h.1))
      value_takes free (Now a) ks h = left_as (elementary_kind a.kind elem.Time h) (does_takes op.Now line ks (Num ∷ ks) refl refl (λ next h. h))
      value_takes free (Paren a e) ks h = left_as (sym (ap kind_at h.1)) (value_takes free e ks h.0)
      value_takes free (Not a e) ks h =
          let n = an_elementary_kind a.kind h.2 in
          both (value_takes free e ks h.0) (one_number (op.Not _) (kind e) a.kind ks (ap kind_at h.1 ∙ n) n (does_takes (op.Not _) line (Num ∷ ks) (Num ∷ ks) refl refl (λ next h. h)))
      value_takes free (Negate a e) ks h = negated_takes a e _ _ ks h (λ f. (left_as (sym (ap kind_at f.1)) (value_takes free e ks f.0), f.2))
      value_takes free (Chain a e ts) ks h = both (value_takes free e ks h.0) (chained_takes free (kind e) ts a.kind ks h.1)

      chained_takes : (free : ℕ) (t : StType) (ts : Tails Note) (v : StType) (ks : List Kind) → TailsAre p g t ts v → Takes (chained_code w line free t ts) (kind_at t ∷ ks) (kind_at v ∷ ks)
      chained_takes free t no_tails v ks h = left_as (sym (ap kind_at h)) (nothing (kind_at t ∷ ks))
      chained_takes free t (tail_then a o e ts) v ks h =
          both (operated_takes o t (kind e) a.kind (value_code w line free e) ks h.1 (λ ls. value_takes free e ls h.0)) (chained_takes free a.kind ts v ks h.2)

      pub operand_takes : (free : ℕ) (xs : Arguments Note) (ks : List Kind) → OperandIs p g xs → Takes (operand_code w line free xs) ks (operand_kind xs ∷ ks)
      operand_takes free (argument_then (Positional e) xs) ks h = value_takes free e ks h.0
      operand_takes free (argument_then (Input a n e) xs) ks h = absurd h
      operand_takes free (argument_then (Output a n b r ss) xs) ks h = absurd h
      operand_takes free no_arguments ks h = absurd h

      pub called_along_takes : (free : ℕ) (ss : Selectors Note) (t : StType) (ks : List Kind) → CalledAlong p g ss t → Takes (along_code w line free ss t) (Addr ∷ ks) (Addr ∷ ks)
      called_along_takes free no_selectors t ks h = nothing (Addr ∷ ks)
      called_along_takes free (selector_then (Field a name) no_selectors) t ks h = both (last_takes t a.target a.kind ks h) (nothing (Addr ∷ ks))
      called_along_takes free (selector_then (Field a name) (selector_then s ss)) t ks h = both (selected_takes free (Field a name) t ks h.0) (called_along_takes free (selector_then s ss) a.kind ks h.1)
      called_along_takes free (selector_then (Index a es) ss) t ks h = both (selected_takes free (Index a es) t ks h.0) (called_along_takes free ss a.kind ks h.1)
      called_along_takes free (selector_then (tree.Target a) ss) t ks h = both (selected_takes free (tree.Target a) t ks h.0) (called_along_takes free ss a.kind ks h.1)

      bound_takes : (free : ℕ) (e : Expression Note) (ks : List Kind) → ExpressionIs p g e → IsPlace e → Takes (bound_code w line free e) ks (Addr ∷ ks)
      bound_takes free (Place a r ss) ks h n =
          let f = place_named a.target a.kind _ h n in
          both (root_takes r ks f.0) (along_takes free ss (root_note r).kind ks f.1)
      bound_takes free e ks h n = absurd n

      pub arguments_take : (block free : ℕ) (ps : List Parameter) (i : ℕ) (left : List Parameter) (xs : Arguments Note) (ks : List Kind) → ArgumentsFit p g ps left xs → Takes (arguments_code w line block free ps i left xs) ks ks
      arguments_take block free ps i left no_arguments ks h = nothing ks
      arguments_take block free ps i left (argument_then (Positional e) xs) ks h =
          both (passed_takes (next_parameter left) (block + of_parameter (next_number i left)) e (value_code w line free e) (bound_code w line free e) ks h.1 (value_takes free e ks h.0) (λ n. bound_takes free e ks h.0 n))
          (arguments_take block (free + passed_room w (next_parameter left) (kind e)) ps (suc (next_number i left)) (behind_next left) xs ks h.2)
      arguments_take block free ps i left (argument_then (Input a name e) xs) ks h =
          both (passed_takes (parameter_named ps a) (block + of_parameter (parameter_number a.target)) e (value_code w line free e) (bound_code w line free e) ks h.1 (value_takes free e ks h.0) (λ n. bound_takes free e ks h.0 n))
          (arguments_take block (free + passed_room w (parameter_named ps a) (kind e)) ps i left xs ks h.2)
      arguments_take block free ps i left (argument_then (Output a name b r ss) xs) ks h = arguments_take block free ps i left xs ks h.3

      pub outputs_take : (block free : ℕ) (ps left : List Parameter) (whole : StType) (xs : Arguments Note) (ks : List Kind) → ArgumentsFit p g ps left xs → Takes (outputs_code w line block free ps whole xs) ks ks
      outputs_take block free ps left whole no_arguments ks h = nothing ks
      outputs_take block free ps left whole (argument_then (Positional e) xs) ks h = outputs_take block free ps (behind_next left) whole xs ks h.2
      outputs_take block free ps left whole (argument_then (Input a name e) xs) ks h = outputs_take block free ps left whole xs ks h.2
      outputs_take block free ps left whole (argument_then (Output a name b r ss) xs) ks h =
          let t = last_kind (root_note r).kind ss in
          both (output_takes (parameter_named ps a) (block + of_parameter (parameter_number a.target)) (block + of_own) free t whole ks h.2)
          (both (both (root_takes r (kind_at t ∷ ks) h.0) (along_takes (free + room_of w.size_of t) ss (root_note r).kind (kind_at t ∷ ks) h.1))
          (both (keep_takes t ks) (outputs_take block free ps left whole xs ks h.3)))
