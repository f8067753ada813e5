-- Expressions, places and calls whose uses are covered stay within the footprint: by induction on the tree.
use Rattle.std.proofs.Common.{◌≡◌, ℕ, zero, suc, ℤ, pos, negsuc, Bool, true, false, List, [], ◌∷◌, ◌++◌, Option, Some, None, refl, sym, ap, ◌∙◌, subst}
use Rattle.std.specs.Prelude.{if◌then◌else◌, ◌&&◌, int_le, is_some, slice_get, IsTrue}
use Rattle.plc_text.specs.declared.fault.FaultKind.{FaultKind}
use Rattle.plc_text.specs.declared.fault.FaultKind.TheVariants as fault
use Rattle.st_types.specs.declared.elem.Elem.{Elem}
use Rattle.st_types.specs.declared.elem.Elem.TheVariants as elem
use Rattle.st_types.specs.declared.st_type.StType.{StType, out-StType}
use Rattle.st_types.specs.declared.st_type.StType.TheVariants as type
use Rattle.st_types.specs.declared.st_type.StType.TheOpen.{StType-F}
use Rattle.st_types.specs.Range.{Fits}
use Rattle.plc_num.specs.Arithmetic.{difference, quotient, remainder}
use Rattle.st_tree.specs.declared.declaration.SectionSort.TheVariants as sort
use Rattle.st_tree.specs.declared.expression.Operator.{Operator}
use Rattle.st_tree.specs.declared.expression.Operator.TheVariants as operator
use Rattle.st_tree.specs.declared.expression.Root.{Root}
use Rattle.st_tree.specs.declared.expression.Root.TheVariants as root
use Rattle.st_tree.specs.declared.path.Step.TheVariants as step
use Rattle.st_tree.specs.declared.program.Note.{Note}
use Rattle.st_tree.specs.declared.program.Target.{Target}
use Rattle.st_tree.specs.declared.program.Target.TheVariants as target
use Rattle.st_tree.specs.Expression.{Expression, Int, Typed, Time, True, False, Null, Place, Call, Enumerator, Ref, Now, Paren, Not, Negate, Chain, Expressions, no_expressions, expression_then, Selector, Field, Index, Selectors, no_selectors, selector_then, Argument, Positional, Input, Output, Arguments, no_arguments, argument_then, Tails, no_tails, tail_then}
use Rattle.st_tree.specs.Expression as tree
use Rattle.st_values.specs.Program.{Variable, Recipient, to_local, to_variable, Parameter, Routine, Region, Program, class_number, conforms, lookup, body_of}
use Rattle.st_values.specs.Value.{Path, Value, number, reference, Store, ◌>>=◌ as ◌>>?◌}
use Rattle.st_values.specs.Shape.{Shape, Instance, Fields, has_instance, shape_of, path_shape}
use Rattle.st_values.specs.ShapeLaws.{Unfolds}
use Rattle.st_values.proofs.ValueLaws.{one_some}
use Rattle.st_meaning.specs.State.{Spot, in_store, in_frame, bound, Frame, Run, ◌>>=◌, gives, fails, there, some_or, frame_value, local_spot, into, read, write, path_of}
use Rattle.st_meaning.specs.Operation.{number_in, path_in, class_in, elem_of, divided, operation, is_decided}
use Rattle.st_meaning.specs.Place.{named_spot, root_note, root_spot, held_spot, followed, instance_of, part_named, index_within, index_in, elements_of, element_kind}
use Rattle.st_meaning.specs.Call.{Search, by_instance, from_class, Callee, a_conversion, a_function, a_method, a_body, method_target, method_name, last_method, is_direct, class_of_kind, search_of, member_callee, named_callee, callee_of, Given, for_local, given_value, given_place, number_to, is_in_out, is_output, parameter_number, parameter_named, next_parameter, behind_next, same_in_outs, output_value, result_of, Enter, run_routine, class_at_spot, call, call_value, call_effect}
use Rattle.st_meaning.specs.Expression.{selector_note, place_value, name_value, operated, passed, output_of, placed, along, selected, indexed, value, chained, bound_place, operand, arguments, outputs}
use Rattle.st_meaning.specs.st_frame.Use.{Called, the_function, a_method_of, a_method_from, a_body_of, the_body_from, Owner, the_region, the_instances, Use, names, follows, calls, changes, is_instance, is_interface, is_method, is_followed, named_region, root_owner, owner_along, changed, owner_uses, name_uses, root_uses, receiver, last_kind, called_by, called_of, call_use, called_parameters, is_bound, bound_uses, along_uses, selector_uses, index_uses, expression_uses, tail_uses, argument_uses}
use Rattle.st_meaning.specs.st_frame.Footprint.{Enters, by_number, by_class, by_text, by_body, by_base}
use Rattle.st_meaning.specs.st_frame.Good.{Names, Held}
use Rattle.st_meaning.specs.st_frame.Promise.Types.{IsElementary, IsHeld, IsPath, IsNoInstance, Widens, same_type, wider_number, wider_path, Serves, IsBool}
use Rattle.st_meaning.specs.st_frame.Promise.Names.{Scope, NameIs, OwnVariableIs, RegionIs, RootIs}
use Rattle.st_meaning.specs.st_frame.Promise.Places.{MemberIs, PartIs, LastIs, TargetIs, ElementIs, IsNothing, IsPlace, NamedIs}
use Rattle.st_meaning.specs.st_frame.Promise.Operators.{NegatedIs, Common, OperationIs}
use Rattle.st_meaning.specs.st_frame.Promise.Calls.{recipient_variable, own_variable, kind, Suits, Leaves, IsLiving, Entered, SameInOuts, BodyIs, CallIs, ResultIs, CallResultIs, ConversionIs}
use Rattle.st_meaning.specs.st_frame.Promise.Expressions.{AlongIs, SelectorIs, CalledAlong, IndexIs, ExpressionIs, TailsAre, OperandIs, ArgumentsAre}
use Rattle.st_meaning.specs.st_frame.Promise.Declarations.{Each, IsLocal, ParameterIs, LocalIs, RoutineIs}
use Rattle.st_meaning.specs.st_frame.Promise.Programs.{Above, ProgramIs}
use Rattle.st_meaning.proofs.st_frame.Arguments.{arguments_longer, uses_longer}
use Rattle.st_meaning.proofs.st_frame.Unfolded.{opened, within_bound, region_is, instance_is}
use Rattle.st_meaning.proofs.st_frame.Spots.{Meets, spot_shape, exactly, Within, within_further, meets_serves, as_plain, named_by, by_name, member_meets, field_meets, element_meets, SpotIs, SlotsAre, OwnIs, slot_fits, VariableGiven, GivenIs, GivenAre}
use Rattle.st_meaning.proofs.st_frame.OfTypes.{wraps_fit, converted_fits, to_instance, to_reference, Near, OfKind, of_place, to_place, elementary_is, result_is, truth_is, number_is, null_is, path_is, widened, class_is}
use Rattle.st_meaning.proofs.st_frame.Obeys.{Anything, Obeys, then_obeys, obeys_less, gives_obeys, fails_obeys, some_obeys, test_obeys, spend_obeys, moment_obeys, OwnKnown, own_obeys, local_spot_obeys, read_obeys, write_obeys}

-- ---- uses that are covered

abbrev pub All : (Use → Type 0) → List Use → Type 0
All P [] = Unit {0}
All P (u ∷ us) = P u × All P us

pub front : (P : Use → Type 0) (us vs : List Use) → All P (us ++ vs) → All P us
front P [] vs h = tt
front P (u ∷ us) vs h = (h.0, front P us vs h.1)

pub back : (P : Use → Type 0) (us vs : List Use) → All P (us ++ vs) → All P vs
back P [] vs h = h
back P (u ∷ us) vs h = back P us vs h.1

abbrev pub Covered : Program → (ℕ → Type 0) → (ℕ → Type 0) → (Routine → Type 0) → Use → Type 0
Covered p F W R (names r) = F r
Covered p F W R (follows t) = (q : Path) → Names p q t → F q.region
Covered p F W R (calls k) = (x : Routine) → Enters p k x → R x
Covered p F W R (changes (the_region r)) = W r
Covered p F W R (changes (the_instances t)) = (q : Path) → Names p q t → W q.region

-- ---- parameters

pub next_each : (P : Parameter → Type 0) (ps : List Parameter) (q : Parameter) → Each P ps → next_parameter ps ≡ Some q → P q
next_each P [] q h e = cc
next_each P (x ∷ ps) q h e = by (is_output x.sort) (next_each P ps q h.1) e
  where
    by : (b : Bool) → (next_parameter ps ≡ Some q → P q) → (if b then next_parameter ps else Some x) ≡ Some q → P q
    by true k f = k f
    by false k f = let d : x ≡ q = cc in subst P d h.0

pub behind_each : (P : Parameter → Type 0) (ps : List Parameter) → Each P ps → Each P (behind_next ps)
behind_each P [] h = tt
behind_each P (x ∷ ps) h = by (is_output x.sort) (behind_each P ps h.1)
  where
    by : (b : Bool) → Each P (behind_next ps) → Each P (if b then behind_next ps else ps)
    by true k = k
    by false k = h.1

pub slice_each : (P : Parameter → Type 0) (ps : List Parameter) (n : ℕ) (q : Parameter) → Each P ps → slice_get ps n ≡ Some q → P q
slice_each P [] n q h e = cc
slice_each P (x ∷ ps) zero q h e = let d : x ≡ q = cc in subst P d h.0
slice_each P (x ∷ ps) (suc n) q h e = slice_each P ps n q h.1 e

-- ---- arrays

array_of : (x : StType-F StType) (w : StType) → ElementIs x w → (low high : ℤ) × (x ≡ StType-F.Array low high w)
array_of (StType-F.Array low high of) w h = (low, high, ap (StType-F.Array low high) h)
array_of (StType-F.Elementary e) w h = absurd h
array_of (StType-F.Enumeration n) w h = absurd h
array_of (StType-F.Structure n) w h = absurd h
array_of (StType-F.Instance c) w h = absurd h
array_of (StType-F.Reference c) w h = absurd h
array_of (StType-F.Interface i) w h = absurd h

-- an index that the array has
index_is : (low high z i : ℤ) (w : StType) → index_within (StType-F.Array low high w) z ≡ Some i → (int_le low i ≡ true) × (int_le i high ≡ true)
index_is low high z i w e = by (int_le low z) (int_le z high) refl refl e
  where
    by : (a b : Bool) → int_le low z ≡ a → int_le z high ≡ b → (if a && b then Some z else None) ≡ Some i → (int_le low i ≡ true) × (int_le i high ≡ true)
    by true true q r f = let d : z ≡ i = cc in (subst (λ x. int_le low x ≡ true) d q, subst (λ x. int_le x high ≡ true) d r)
    by true false q r f = cc
    by false b q r f = cc

-- ---- calls

-- the type to which the instance conforms on which a call is made
abbrev pub on : Callee → StType → StType → StType
on (a_method by_instance name) t whole = t
on (a_method (from_class d) name) t whole = type.Instance d
on (a_body (from_class d)) t whole = type.Instance d
on c t whole = whole

abbrev pub IsConversion : Callee → Type 0
IsConversion a_conversion = Unit {0}
IsConversion c = ⊥

-- a call on an instance
abbrev pub IsMember : Callee → Type 0
IsMember (a_method s name) = Unit {0}
IsMember (a_body s) = Unit {0}
IsMember c = ⊥

module _ (p : Program) (fine : ProgramIs p) where
  -- the routines that a call may enter are right
  pub entered_is : (k : Called) (x : Routine) → Enters p k x → RoutineIs p x
  entered_is k x (by_number {k = n} e) = (fine.functions n x e).0
  entered_is k x (by_class {name = name} c m e) = fine.methods c name x e
  entered_is k x (by_text {d = d} {name = name} e) = fine.methods d name x e
  entered_is k x (by_body c m e) = fine.bodies c x e
  entered_is k x (by_base {d = d} e) = fine.bodies d x e

  -- a local or a variable of a routine that is right
  pub local_kind : (x : Routine) (n : ℕ) (v : Variable) → RoutineIs p x → slice_get x.locals n ≡ Some v → is_in_out v.sort ≡ false → (sh : Shape) × (shape_of p v.kind ≡ Some sh) × (has_instance sh ≡ false)
  local_kind x n v ok e i = by x.locals n ok.locals e
    where
      by : (vs : List Variable) (m : ℕ) → Each (LocalIs p) vs → slice_get vs m ≡ Some v → (sh : Shape) × (shape_of p v.kind ≡ Some sh) × (has_instance sh ≡ false)
      by [] m h q = cc
      by (w ∷ vs) zero h q = let d : w ≡ v = cc in let l = subst (LocalIs p) d h.0 i in (l.0, l.1, l.3)
      by (w ∷ vs) (suc m) h q = by vs m h.1 q

  pub body_above : (c d : ℕ) (x : Routine) → IsTrue (conforms p c (type.Instance d)) → body_of p d ≡ Some x → Above p c x.class
  body_above c d x m e = subst (Above p c) (sym (fine.bodies_own d x e)) m

  pub above_up : (c d : ℕ) (o : Option ℕ) → IsTrue (conforms p c (type.Instance d)) → Above p d o → Above p c o
  above_up c d None m h = absurd h
  above_up c d (Some e) m h = fine.upward c d (type.Instance e) m h

  module _ (F W : ℕ → Type 0) (base base' : Store) (R : Routine → Type 0) where
    -- what a call of a reached routine does
    pub record CallsObey (enter : Enter) : Type 0 where
      pub by : (gs : List Scope) (r : Routine) (o : Option Path) (xs : List Given) → R r → OwnIs p fine F W r.class o → GivenAre p fine F W gs r.class r.locals xs
          → Obeys p fine F W base base' gs (enter r o xs) (λ f. SlotsAre p fine F W gs r.locals f.locals)

    module _ (enter : Enter) (reached : CallsObey enter) (g : Scope) (gs : List Scope) where
      abbrev pub Runs : {A : Type 0} → Run A → (A → Type 0) → Type 0
      Runs m Q = Obeys p fine F W base base' (g ∷ gs) m Q

      abbrev pub AllOf : List Use → Type 0
      AllOf us = All (Covered p F W R) us

      pub bind : {A B : Type 0} {m : Run A} {f : A → Run B} {Q : A → Type 0} {S : B → Type 0} → Runs m Q → ((a : A) → Q a → Runs (f a) S) → Runs (m >>= f) S
      bind h k = then_obeys p fine F W base base' h k

      pub give : {A : Type 0} {a : A} {Q : A → Type 0} → Q a → Runs (gives a) Q
      give q = gives_obeys p fine F W base base' q

      pub fail : {A : Type 0} {k : FaultKind} {Q : A → Type 0} → Runs (fails k) Q
      fail = fails_obeys p fine F W base base'

      pub opt : {A : Type 0} (k : FaultKind) (o : Option A) → Runs (some_or k o) (λ a. o ≡ Some a)
      opt k o = some_obeys p fine F W base base' k o

      pub less : {A : Type 0} {m : Run A} {Q S : A → Type 0} → Runs m Q → ((a : A) → Q a → S a) → Runs m S
      less h k = obeys_less p fine F W base base' h k

      pub test : {A : Type 0} {m n : Run A} {Q : A → Type 0} (b : Bool) → (b ≡ true → Runs m Q) → (b ≡ false → Runs n Q) → Runs (if b then m else n) Q
      test b h k = test_obeys p fine F W base base' b h k

      abbrev pub Spotted : Spot → StType → Type 0
      Spotted spot t = SpotIs p fine F W (g ∷ gs) spot t

      -- a place, and who owns it
      abbrev pub Found : Option Owner → StType → Spot → Type 0
      Found o t spot = Spotted spot t × (AllOf (changed o) → Within W spot)

      abbrev pub Of : StType → Value → Type 0
      Of t v = OfKind p F t v

      -- ---- what names stand for

      pub own_spot : (c : ℕ) (q : Path) → OwnKnown p fine F W base base' c q → Found None (type.Instance c) (in_store q)
      own_spot c q k = (record { is = by_name p fine q c k.0; near = k.1 }, λ _. k.2)

      pub variable_spot : (this : Option ℕ) (k : ℕ) (t : StType) → g.this ≡ this → OwnVariableIs p this k t → Runs (named_spot (target.Variable k)) (Found None t)
      variable_spot None k t e h = absurd h
      variable_spot (Some c) k t e h =
          bind (own_obeys p fine F W base base' c e) (λ q n.
          give (subst (λ u. Found None u (into (in_store q) (step.Field k))) h.2 (record { is = member_meets p fine (g ∷ gs) (in_store q) c k h.0 (by_name p fine q c n.0) h.1; near = n.1 }, λ _. n.2)))

      region_spot : (r : ℕ) (o : Option Region) (t : StType) → slice_get p.regions r ≡ o → RegionIs o t → F r → Found (Some (the_region r)) t (in_store (record { region = r; steps = [] }))
      region_spot r None t e h f = absurd h
      region_spot r (Some x) t e h f =
          let a = region_is p fine.regions r x e in
          subst (λ u. Found (Some (the_region r)) u (in_store (record { region = r; steps = [] }))) h
          (record { is = exactly a.0 a.2 (ap (λ o. o >>? λ y. Some y) a.1); near = f }, λ w. w.0)

      pub named_obeys : (x : Target) (t : StType) → NameIs p g x t → AllOf (name_uses x) → Runs (named_spot x) (Found (named_region x) t)
      named_obeys (target.Local n) t h u =
          less (local_spot_obeys p fine F W base base' n h.0 h.1) (λ spot k. subst (λ y. Found None y spot) h.2 (k.0, λ _. k.1))
      named_obeys (target.Variable k) t h u = variable_spot g.this k t refl h
      named_obeys (target.Region r) t h u = give (region_spot r (slice_get p.regions r) t refl h u.0)
      named_obeys (target.Method m) t h u =
          bind (own_obeys p fine F W base base' h.0 h.1) (λ q k. give (subst (λ y. Found None y (in_store q)) (sym h.2) (own_spot h.0 q k)))
      named_obeys x t h u = absurd h

      pub root_obeys : (r : Root Note) → RootIs p g r → AllOf (root_uses r) → Runs (root_spot r) (Found (root_owner r) (root_note r).kind)
      root_obeys (root.Name a name) h u = named_obeys a.target a.kind h u
      root_obeys (root.This a) h u =
          bind (own_obeys p fine F W base base' h.0 h.1) (λ q k. give (subst (λ y. Found None y (in_store q)) (sym h.2) (own_spot h.0 q k)))
      root_obeys (root.Super a) h u =
          bind (own_obeys p fine F W base base' h.0 h.2) (λ q k.
          let n : Names p q (type.Instance h.1) = record { class = k.0.class; name = k.0.name; fields = k.0.fields; there = k.0.there; meets = fine.upward k.0.class h.0 (type.Instance h.1) k.0.meets h.4 } in
          give (subst (λ y. Found None y (in_store q)) (sym h.3) (own_spot h.1 q (n, k.1, k.2))))

      -- ---- where references lead

      held_names : (t : StType) (v : Value) (q : Path) → IsPath t → Of t v → path_in v ≡ Some q → Names p q t
      held_names t v q i h e =
          let a = path_is p F t v i h in
          by a.0 a.2 (subst (λ x. path_in x ≡ Some q) a.1 e)
        where
          by : (o : Option Path) → Held p t o → o ≡ Some q → Names p q t
          by None n k = cc
          by (Some r) n k = let d : r ≡ q = cc in subst (λ x. Names p x t) d n

      -- what stands at a place whose type is no instance's
      pub plain_obeys : (t : StType) (spot : Spot) → IsNoInstance t → Spotted spot t → Runs (read spot) (Of t)
      plain_obeys t spot i s =
          let a = as_plain p fine (spot_shape p (g ∷ gs) spot) t i s.is in
          less (read_obeys p fine F W base base' spot a.0 a.2 s.near) (λ v f. of_place p F t a.0 v i a.1 f)

      pub write_plain : (t : StType) (spot : Spot) (v : Value) → IsNoInstance t → Spotted spot t → Within W spot → Of t v → Runs (write spot v) Anything
      write_plain t spot v i s w h =
          let a = as_plain p fine (spot_shape p (g ∷ gs) spot) t i s.is in
          write_obeys p fine F W base base' spot a.0 v a.2 s.near w (to_place p F t a.0 v i a.1 h)

      pub held_obeys : (t : StType) (spot : Spot) → IsNoInstance t → IsPath t → Spotted spot t → Runs (held_spot spot) (λ s. (q : Path) × (s ≡ in_store q) × Names p q t)
      held_obeys t spot i j s =
          bind (plain_obeys t spot i s) (λ v k.
          bind (opt fault.Null (path_in v)) (λ q e. give (q, refl, held_names t v q j k e)))

      -- `^`
      abbrev Follow : StType → List Use
      Follow t = follows t ∷ []

      pub target_obeys : (t u : StType) (o : Option Owner) (spot : Spot) → TargetIs t u → AllOf (if (if is_instance t then false else true) then Follow t else []) → Found o t spot
          → Runs (followed t spot) (Found (if (if is_instance t then false else true) then Some (the_instances t) else o) u)
      target_obeys (type.Instance c) u o spot h n f = give (subst (λ y. Found o y spot) (sym h) f)
      target_obeys (type.Reference c) u o spot h n f =
          less (held_obeys (type.Reference c) spot tt tt f.0) (λ s k.
          subst (Found (Some (the_instances (type.Reference c))) u) (sym k.1)
          (subst (λ y. Found (Some (the_instances (type.Reference c))) y (in_store k.0)) (sym h)
          (record { is = by_name p fine k.0 c (to_instance p k.0 c k.2); near = n.0 k.0 k.2 }, λ w. w.0 k.0 k.2)))
      target_obeys t u o spot h n f = absurd h

      -- ---- parts

      variable_obeys : (t u : StType) (k : ℕ) (o : Option Owner) (spot : Spot) → MemberIs p t k u → Found o t spot → Found o u (into spot (step.Field k))
      variable_obeys (type.Instance c) u k o spot h f =
          subst (λ y. Found o y (into spot (step.Field k))) h.2
          (record { is = member_meets p fine (g ∷ gs) spot c k h.0 f.0.is h.1; near = within_further F spot (step.Field k) f.0.near }, λ w. within_further W spot (step.Field k) (f.1 w))
      variable_obeys t u k o spot h f = absurd h

      pub part_obeys : (x : Target) (t u : StType) (o : Option Owner) (spot : Spot) → PartIs p t x u → Found o t spot
          → Runs (part_named t spot x) (Found (if (if is_method x then is_interface t else false) then Some (the_instances t) else o) u)
      part_obeys (target.Field k) t u o spot h f =
          give (record { is = field_meets p fine (g ∷ gs) spot t k u f.0.is h; near = within_further F spot (step.Field k) f.0.near }, λ w. within_further W spot (step.Field k) (f.1 w))
      part_obeys (target.Variable k) t u o spot h f = give (variable_obeys t u k o spot h f)
      part_obeys x t u o spot h f = absurd h

      -- a place of the store, or one of an instance's type: no local has such a one
      abbrev pub OnInstance : Spot → Type 0
      OnInstance (in_store q) = Unit {0}
      OnInstance (in_frame d n ss) = (c : ℕ) × Meets p (spot_shape p (g ∷ gs) (in_frame d n ss)) (type.Instance c)

      on_instance : (c : ℕ) (o : Option Owner) (spot : Spot) → Found o (type.Instance c) spot → OnInstance spot
      on_instance c o (in_store q) f = tt
      on_instance c o (in_frame d n ss) f = (c, f.0.is)

      -- what is found behind a method's name, and behind a part's
      abbrev Ends : Option (List ℕ) → Option Owner → StType → StType → Spot → Type 0
      Ends None o t whole spot = Found o whole spot
      Ends (Some name) o t whole spot = OnInstance spot × ((q : Path) → path_of spot ≡ Some q → Names p q t × F q.region × (AllOf (changed o) → W q.region))

      -- an instance at a place
      at_place : (c : ℕ) (o : Option Owner) (spot : Spot) (q : Path) → Found o (type.Instance c) spot → path_of spot ≡ Some q → Names p q (type.Instance c) × F q.region × (AllOf (changed o) → W q.region)
      at_place c o (in_store r) q f e = let d : r ≡ q = cc in subst (λ x. Names p x (type.Instance c) × F x.region × (AllOf (changed o) → W x.region)) d (named_by p fine r c f.0.is, f.0.near, f.1)
      at_place c o (in_frame d n ss) q f e = cc

      receiver_obeys : (t : StType) (m : ℕ) (u : StType) (name : List ℕ) (o : Option Owner) (spot : Spot) → LastIs p t (target.Method m) u → AllOf (if is_interface t then Follow t else []) → Found o t spot
          → Runs (instance_of t spot) (Ends (Some name) (if is_interface t then Some (the_instances t) else o) t u)
      receiver_obeys (type.Instance c) m u name o spot h n f = give (on_instance c o spot f, λ q e. at_place c o spot q f e)
      receiver_obeys (type.Interface i) m u name o spot h n f =
          less (held_obeys (type.Interface i) spot tt tt f.0) (λ s k. (
            subst OnInstance (sym k.1) tt,
            λ q e.
                let d : k.0 ≡ q = let x = k.1 in cc in
                subst (λ y. Names p y (type.Interface i) × F y.region × (AllOf (changed (Some (the_instances (type.Interface i)))) → W y.region)) d (k.2, n.0 k.0 k.2, λ w. w.0 k.0 k.2),
          ))
      receiver_obeys t m u name o spot h n f = absurd h

      pub last_obeys : (x : Target) (t u : StType) (name : List ℕ) (o : Option Owner) (spot : Spot) → LastIs p t x u → AllOf (if (if is_method x then is_interface t else false) then Follow t else []) → Found o t spot
          → Runs (part_named t spot x) (Ends (method_target x name) (if (if is_method x then is_interface t else false) then Some (the_instances t) else o) t u)
      last_obeys (target.Method m) t u name o spot h n f = receiver_obeys t m u name o spot h n f
      last_obeys (target.Field k) t u name o spot h n f = part_obeys (target.Field k) t u o spot h f
      last_obeys (target.Variable k) t u name o spot h n f = part_obeys (target.Variable k) t u o spot h f
      last_obeys x t u name o spot h n f = absurd h

      -- ---- values of places and names

      instance_value : (c : ℕ) (spot : Spot) → Spotted spot (type.Instance c) → Near p F c (path_of spot)
      instance_value c (in_store q) s = (named_by p fine q c s.is, s.near)
      instance_value c (in_frame d n ss) s = tt

      pub place_value_obeys : (t : StType) (place : Run Spot) → Runs place (λ spot. Spotted spot t) → Runs (place_value t place) (Of t)
      place_value_obeys (type.Instance c) place h = bind h (λ spot s. give (path_of spot, refl, instance_value c spot s))
      place_value_obeys t place h = bind h (λ spot s. plain_obeys t spot tt s)

      pub name_value_obeys : (x : Target) (t : StType) (place : Run Spot) (P : Type 0) → NamedIs p x t P → (P → Runs place (λ spot. Spotted spot t)) → Runs (name_value x t place) (Of t)
      name_value_obeys (target.Constant z) t place P h k = give (number_is p F t z h)
      name_value_obeys (target.Enumerator n) t place P h k = give (number_is p F t (pos n) h)
      name_value_obeys x t place P h k = place_value_obeys t place (k h)

      ref_value : (c : ℕ) (spot : Spot) → Spotted spot (type.Instance c) → Held p (type.Reference c) (path_of spot)
      ref_value c (in_store q) s = to_reference p q c (named_by p fine q c s.is)
      ref_value c (in_frame d n ss) s = tt

      minus_obeys : (a : Note) (m : Run Value) → IsElementary a.kind → Runs m Anything → Runs (do v ← m; gives (number (difference (elem_of a.kind) (pos 0) (number_in v)))) (Of a.kind)
      minus_obeys a m i h = bind h (λ v _. give (result_is p F a.kind _ i (wraps_fit (elem_of a.kind) _)))

      negated_obeys : (a : Note) (e : Expression Note) (P : Type 0) → NegatedIs a e P → (P → IsElementary a.kind × Runs (value p enter e) Anything)
          → Runs (do v ← value p enter e; gives (number (difference (elem_of a.kind) (pos 0) (number_in v)))) (Of a.kind)
      negated_obeys a (Int b digits) P h k = minus_obeys a (value p enter (Int b digits)) (h.0, h.1) (give tt)
      negated_obeys a e P h k = let x = k h in minus_obeys a (value p enter e) x.0 x.1

      -- ---- operators

      divided_obeys : (f : Elem → ℤ → ℤ → ℤ) (w : StType) (a b : ℤ) → ((e : Elem) → Fits e (f e a b)) → IsElementary w → Runs (divided f (elem_of w) a b) (Of w)
      divided_obeys f w a (pos zero) k i = fail
      divided_obeys f w a (pos (suc n)) k i = give (result_is p F w (f (elem_of w) a (pos (suc n))) i (k (elem_of w)))
      divided_obeys f w a (negsuc n) k i = give (result_is p F w (f (elem_of w) a (negsuc n)) i (k (elem_of w)))

      common : (t u w : StType) → Common t u w → IsElementary w
      common t u w h = (h.2, h.5)

      bool : (t u : StType) (v : Value) → IsBool t → IsBool u → Of t v → Of u v
      bool t u v a b h = subst (λ y. Of y v) (a ∙ sym b) h

      pub operation_obeys : (o : Operator) (t u w : StType) (x y : Value) → OperationIs p o t u w → Of u y → Runs (operation o (elem_of w) x y) (Of w)
      operation_obeys operator.Plus t u w x y h k = give (result_is p F w _ (common t u w h) (wraps_fit (elem_of w) _))
      operation_obeys operator.Minus t u w x y h k = give (result_is p F w _ (common t u w h) (wraps_fit (elem_of w) _))
      operation_obeys operator.Times t u w x y h k = give (result_is p F w _ (common t u w h) (wraps_fit (elem_of w) _))
      operation_obeys operator.Divide t u w x y h k = divided_obeys quotient w (number_in x) (number_in y) (λ e. wraps_fit e _) (common t u w h)
      operation_obeys operator.Modulo t u w x y h k = divided_obeys remainder w (number_in x) (number_in y) (λ e. wraps_fit e _) (common t u w h)
      operation_obeys operator.And t u w x y h k = give (result_is p F w _ (common t u w h) (wraps_fit (elem_of w) _))
      operation_obeys operator.Or t u w x y h k = give (result_is p F w _ (common t u w h) (wraps_fit (elem_of w) _))
      operation_obeys operator.Xor t u w x y h k = give (result_is p F w _ (common t u w h) (wraps_fit (elem_of w) _))
      operation_obeys operator.AndThen t u w x y h k = give (bool u w y h.1 h.2 k)
      operation_obeys operator.OrElse t u w x y h k = give (bool u w y h.1 h.2 k)
      operation_obeys operator.Equal t u w x y h k = give (truth_is p F w _ h.1)
      operation_obeys operator.Differs t u w x y h k = give (truth_is p F w _ h.1)
      operation_obeys operator.Less t u w x y h k = give (truth_is p F w _ h.2)
      operation_obeys operator.Greater t u w x y h k = give (truth_is p F w _ h.2)
      operation_obeys operator.AtMost t u w x y h k = give (truth_is p F w _ h.2)
      operation_obeys operator.AtLeast t u w x y h k = give (truth_is p F w _ h.2)

      -- where the left operand decides it is the result
      decided_is : (o : Operator) (t u w : StType) (x : Value) → OperationIs p o t u w → is_decided o x ≡ true → Of t x → Of w x
      decided_is operator.AndThen t u w x h e k = bool t w x h.0 h.2 k
      decided_is operator.OrElse t u w x h e k = bool t w x h.0 h.2 k
      decided_is o t u w x h e k = cc

      pub operated_obeys : (o : Operator) (t u w : StType) (x : Value) (right : Run Value) → OperationIs p o t u w → Of t x → Runs right (Of u) → Runs (operated o w x right) (Of w)
      operated_obeys o t u w x right h k r =
          test (is_decided o x) (λ e. give (decided_is o t u w x h e k)) (λ _. bind r (λ y l. operation_obeys o t u w x y h l))

      -- ---- the instance on which a call is made

      abbrev pub Receives : Callee → StType → StType → Spot → Type 0
      Receives c t whole spot = OnInstance spot × ((q : Path) → path_of spot ≡ Some q → Names p q (on c t whole) × F q.region × W q.region)

      owned : (o : Option Owner) (t : StType) (q : Path) → AllOf (changed o) → Names p q t × F q.region × (AllOf (changed o) → W q.region) → Names p q t × F q.region × W q.region
      owned o t q u h = (h.0, h.1, h.2 u)

      pub bare_receives : (x : Target) (name : List ℕ) (t : StType) (spot : Spot) → NameIs p g x t → BodyIs p g.locals t (named_callee x name) → AllOf (changed (named_region x)) → Found (named_region x) t spot → Receives (named_callee x name) t t spot
      bare_receives (target.Method m) name t spot h b u f = (
        on_instance h.0 None spot (subst (λ y. Found None y spot) h.2 f),
        λ q e.
            subst (λ y. Names p q y × F q.region × W q.region) (sym h.2) (owned None (type.Instance h.0) q u (at_place h.0 None spot q (subst (λ y. Found None y spot) h.2 f) e)),
      )
      bare_receives (target.Local n) name t spot h b u f = (
        on_instance b.0 None spot (subst (λ y. Found None y spot) b.1 f),
        λ q e.
            subst (λ y. Names p q y × F q.region × W q.region) (sym b.1) (owned None (type.Instance b.0) q u (at_place b.0 None spot q (subst (λ y. Found None y spot) b.1 f) e)),
      )
      bare_receives (target.Variable n) name t spot h b u f = (
        on_instance b.0 None spot (subst (λ y. Found None y spot) b.1 f),
        λ q e.
            subst (λ y. Names p q y × F q.region × W q.region) (sym b.1) (owned None (type.Instance b.0) q u (at_place b.0 None spot q (subst (λ y. Found None y spot) b.1 f) e)),
      )
      bare_receives (target.Region r) name t spot h b u f = (
        on_instance b.0 (Some (the_region r)) spot (subst (λ y. Found (Some (the_region r)) y spot) b.1 f),
        λ q e.
            subst (λ y. Names p q y × F q.region × W q.region) (sym b.1)
            (owned (Some (the_region r)) (type.Instance b.0) q u (at_place b.0 (Some (the_region r)) spot q (subst (λ y. Found (Some (the_region r)) y spot) b.1 f) e)),
      )
      bare_receives x name t spot h b u f = absurd h

      -- where the search goes from a class, the instance is one of it
      abbrev DirectIs : Search → StType → StType → Option (List ℕ) → Type 0
      DirectIs by_instance t whole m = Unit {0}
      DirectIs (from_class d) t whole m = (t ≡ type.Instance d) × (m ≡ None → whole ≡ type.Instance d)

      pub ends_receive : (s : Search) (m : Option (List ℕ)) (o : Option Owner) (t whole : StType) (spot : Spot) → DirectIs s t whole m → BodyIs p g.locals whole (member_callee s m) → AllOf (changed o) → Ends m o t whole spot
          → Receives (member_callee s m) t whole spot
      ends_receive by_instance None o t whole spot d b u f = (
        on_instance b.0 o spot (subst (λ y. Found o y spot) b.1 f),
        λ q e.
            subst (λ y. Names p q y × F q.region × W q.region) (sym b.1) (owned o (type.Instance b.0) q u (at_place b.0 o spot q (subst (λ y. Found o y spot) b.1 f) e)),
      )
      ends_receive by_instance (Some name) o t whole spot d b u f = (f.0, λ q e. owned o t q u (f.1 q e))
      ends_receive (from_class c) None o t whole spot d b u f = (on_instance c o spot (subst (λ y. Found o y spot) (d.1 refl) f), λ q e. owned o (type.Instance c) q u (at_place c o spot q (subst (λ y. Found o y spot) (d.1 refl) f) e))
      ends_receive (from_class c) (Some name) o t whole spot d b u f = (f.0, λ q e. owned o (type.Instance c) q u (subst (λ y. Names p q y × F q.region × (AllOf (changed o) → W q.region)) d.0 (f.1 q e)))

      -- nothing but `^` stands between SUPER and a method
      direct : (ss : Selectors Note) (d : ℕ) → is_direct ss ≡ true → CalledAlong p g ss (type.Instance d) → (receiver (type.Instance d) ss ≡ type.Instance d) × (last_method None ss ≡ None → last_kind (type.Instance d) ss ≡ type.Instance d)
      direct no_selectors d e h = (refl, λ _. refl)
      direct (selector_then (Field a name) no_selectors) d e h = (refl, λ n. let x : is_some (method_name (Field a name)) ≡ true = e in let y : is_some (method_name (Field a name)) ≡ false = ap is_some n in cc)
      direct (selector_then (Field a name) (selector_then s ss)) d e h = cc
      direct (selector_then (Index a es) no_selectors) d e h = cc
      direct (selector_then (Index a es) (selector_then s ss)) d e h = cc
      direct (selector_then (tree.Target a) no_selectors) d e h = (refl, λ _. h.0)
      direct (selector_then (tree.Target a) (selector_then s ss)) d e h =
          let k : a.kind ≡ type.Instance d = h.0 in
          let r = direct (selector_then s ss) d e (subst (CalledAlong p g (selector_then s ss)) k h.1) in
          (ap (λ y. receiver y (selector_then s ss)) k ∙ r.0, λ n. ap (λ y. last_kind y (selector_then s ss)) k ∙ r.1 n)

      pub direct_is : (r : Root Note) (ss : Selectors Note) → RootIs p g r → CalledAlong p g ss (root_note r).kind → DirectIs (search_of r ss) (receiver (root_note r).kind ss) (last_kind (root_note r).kind ss) (last_method None ss)
      direct_is (root.Name a name) ss h k = tt
      direct_is (root.This a) ss h k = tt
      direct_is (root.Super a) ss h k = by (is_direct ss) refl
        where
          d : ℕ
          d = class_of_kind a.kind

          is : a.kind ≡ type.Instance d
          is = h.3 ∙ ap type.Instance (sym (ap class_of_kind h.3))

          by : (b : Bool) → is_direct ss ≡ b → DirectIs (if b then from_class (class_of_kind a.kind) else by_instance) (receiver a.kind ss) (last_kind a.kind ss) (last_method None ss)
          by false e = tt
          by true e =
              let r = direct ss d e (subst (CalledAlong p g ss) is k) in
              (ap (λ y. receiver y ss) is ∙ r.0, λ n. ap (λ y. last_kind y ss) is ∙ r.1 n)

      -- ---- parameters

      -- what holds no instance is of no instance's type
      no_instance : (t : StType) (sh : Shape) → Unfolds p t sh → has_instance sh ≡ false → IsNoInstance t
      no_instance (type.Instance c) sh u e =
          let a = opened p (type.Instance c) (StType-F.Instance c) sh (type.outs-Instance c) u in
          let b : has_instance (Instance c a.0.name a.1) ≡ false = subst (λ y. has_instance y ≡ false) a.3 e in
          cc
      no_instance t sh u e = tt

      -- a value is given
      value_given : (x : Routine) (to : Recipient) (v : Variable) (w : Value) → RoutineIs p x → recipient_variable p x to ≡ Some v → is_in_out v.sort ≡ false → IsNoInstance v.kind → Of v.kind w → GivenIs p fine F W (g ∷ gs) x.class x.locals (given_value to w)
      value_given x (to_local n) v w ok e i j h =
          let l = local_kind x n v ok e i in
          (v, e, (i, (l.0, l.1, l.2, to_place p F v.kind l.0 w j (within_bound p v.kind l.0 l.1) h)))
      value_given x (to_variable k) v w ok e i j h = by x.class e
        where
          by : (o : Option ℕ) → own_variable p o k ≡ Some v → VariableGiven p fine F W o k w
          by None q = cc
          by (Some c) q = (v, q, j, h)

      -- and a place
      place_given : (x : Routine) (to : Recipient) (v : Variable) (spot : Spot) → recipient_variable p x to ≡ Some v → is_in_out v.sort ≡ true → IsLocal to → Spotted spot v.kind → Within W spot → GivenIs p fine F W (g ∷ gs) x.class x.locals (given_place to spot)
      place_given x (to_local n) v spot e i l s w = (v, e, (i, s, w))
      place_given x (to_variable k) v spot e i l s w = absurd l

      sort_is : (v : Variable) (q : Parameter) (b : Bool) → v.sort ≡ q.sort → is_in_out q.sort ≡ b → is_in_out v.sort ≡ b
      sort_is v q b e h = ap is_in_out e ∙ h

      serve : (t u : StType) (spot : Spot) → Serves p t u → Spotted spot t → Spotted spot u
      serve t u spot h s = record { is = meets_serves p fine (spot_shape p (g ∷ gs) spot) t u h s.is; near = s.near }

      bound_covered : (q : Parameter) (e : Expression Note) → is_in_out q.sort ≡ true → AllOf (bound_uses (is_in_out q.sort) e) → AllOf (bound_uses true e)
      bound_covered q e i u = subst (λ b. AllOf (bound_uses b e)) i u

      pub passed_obeys : (x : Routine) (o : Option Parameter) (e : Expression Note) (val : Run Value) (place : Run Spot) → RoutineIs p x → ((q : Parameter) → o ≡ Some q → ParameterIs p x q) → Suits p x o e → AllOf (bound_uses (is_bound o) e)
          → Runs val (Of (kind e)) → (IsPlace e → AllOf (bound_uses true e) → Runs place (λ spot. Spotted spot (kind e) × Within W spot))
          → Runs (passed o val place) (GivenIs p fine F W (g ∷ gs) x.class x.locals)
      passed_obeys x None e val place ok r h u m n = absurd h
      passed_obeys x (Some q) e val place ok r h u m n =
          let a = r q refl in
          let d : a.0 ≡ h.0 = one_some (recipient_variable p x q.to) a.0 h.0 a.1 h.1 in
          let s : h.0.sort ≡ q.sort = subst (λ v. v.sort ≡ q.sort) d a.2 in
          test (is_in_out q.sort)
          (λ i.
          let l = h.2 i in
          bind (n l.0 (bound_covered q e i u)) (λ spot k. give (place_given x q.to h.0 spot h.1 (sort_is h.0 q true s i) (a.3 i) (serve (kind e) h.0.kind spot l.1 k.0) k.1)))
          (λ i.
          bind m (λ v k. give (value_given x q.to h.0 v ok h.1 (sort_is h.0 q false s i) (subst (λ y. IsNoInstance y.kind) d (a.4 i)) (widened p F (kind e) h.0.kind v (h.3 i) k))))

      -- ---- outputs

      -- the instance of the call
      abbrev pub OwnOf : Routine → Option Path → Frame → Type 0
      OwnOf x own f = OwnIs p fine F W x.class own × SlotsAre p fine F W (g ∷ gs) x.locals f.locals

      output_in_order : (q : Parameter) → q.sort ≡ sort.Output → is_in_out q.sort ≡ false
      output_in_order q e = ap is_in_out e

      left_in_local : (x : Routine) (n : ℕ) (v : Variable) (f : Frame) → slice_get x.locals n ≡ Some v → IsNoInstance v.kind → SlotsAre p fine F W (g ∷ gs) x.locals f.locals → Runs (there (frame_value (Some f) n)) (Of v.kind)
      left_in_local x n v f e i h =
          less (opt fault.Null (frame_value (Some f) n)) (λ w k.
          let a = slot_fits p fine F W (g ∷ gs) x.locals f.locals n v w h e k in
          of_place p F v.kind a.1.0 w i (within_bound p v.kind a.1.0 a.1.1) a.1.3)

      output_obeys : (x : Routine) (to : Recipient) (v : Variable) (own : Option Path) (f : Frame) → recipient_variable p x to ≡ Some v → IsNoInstance v.kind → OwnOf x own f → Runs (output_value to own f) (Of v.kind)
      output_obeys x (to_local n) v own f e i h = left_in_local x n v f e i h.1
      output_obeys x (to_variable k) v own f e i h =
          bind (opt fault.Null own) (λ q r. by x.class q e (subst (λ o. OwnIs p fine F W x.class o) r h.0))
        where
          by : (o : Option ℕ) (q : Path) → own_variable p o k ≡ Some v → OwnIs p fine F W o (Some q) → Runs (read (into (in_store q) (step.Field k))) (Of v.kind)
          by None q s n = cc
          by (Some c) q s n = plain_obeys v.kind (into (in_store q) (step.Field k)) i (record { is = member_meets p fine (g ∷ gs) (in_store q) c k v (by_name p fine q c n.0) s; near = n.1 })

      pub left_obeys : (x : Routine) (o : Option Parameter) (t : StType) (own : Option Path) (f : Frame) → ((q : Parameter) → o ≡ Some q → ParameterIs p x q) → Leaves p x o t → OwnOf x own f → Runs (output_of o own f) (Of t)
      left_obeys x None t own f r h k = absurd h
      left_obeys x (Some q) t own f r h k =
          let a = r q refl in
          let d : a.0 ≡ h.0 = one_some (recipient_variable p x q.to) a.0 h.0 a.1 h.1 in
          let i : IsNoInstance h.0.kind = subst (λ y. IsNoInstance y.kind) d (a.4 (output_in_order q h.2)) in
          less (output_obeys x q.to h.0 own f h.1 i k) (λ v l. widened p F h.0.kind t v h.3 l)

      -- what an output is written to is no instance
      target_plain : (t u : StType) → Widens p t u → IsNoInstance t → IsNoInstance u
      target_plain t u same_type h = h
      target_plain t u (wider_number r) h = tt
      target_plain t u (wider_path i k n) h = by u k
        where
          by : (y : StType) → IsHeld y → IsNoInstance y
          by (type.Reference c) j = tt
          by (type.Interface c) j = tt
          by y j = absurd j

      pub left_plain : (x : Routine) (o : Option Parameter) (t : StType) → ((q : Parameter) → o ≡ Some q → ParameterIs p x q) → Leaves p x o t → IsNoInstance t
      left_plain x None t r h = absurd h
      left_plain x (Some q) t r h =
          let a = r q refl in
          let d : a.0 ≡ h.0 = one_some (recipient_variable p x q.to) a.0 h.0 a.1 h.1 in
          target_plain h.0.kind t h.3 (subst (λ y. IsNoInstance y.kind) d (a.4 (output_in_order q h.2)))

      -- ---- entering

      -- what a call leaves
      abbrev pub LeftBy : (Routine → Type 0) → Frame → Type 0
      LeftBy P f = (x : Routine) × P x × RoutineIs p x × SlotsAre p fine F W (g ∷ gs) x.locals f.locals

      -- arguments and outputs, for whatever may be entered
      pub record Passes (k : Called) (P : Routine → Type 0) (args : List Parameter → Run (List Given)) (outs : List Parameter → Option Path → Frame → Run (Unit {0})) : Type 0 where
        pub given : (x : Routine) (rest : List Parameter) → Enters p k x → P x → RoutineIs p x → x.parameters ≡ called_parameters p (Some k) ++ rest → Runs (args x.parameters) (GivenAre p fine F W (g ∷ gs) x.class x.locals)
        pub left : (x : Routine) (rest : List Parameter) (own : Option Path) (f : Frame) → Enters p k x → P x → RoutineIs p x → x.parameters ≡ called_parameters p (Some k) ++ rest → OwnOf x own f → Runs (outs x.parameters own f) Anything

      routine_obeys : (x : Routine) (own : Option Path) (args : Run (List Given)) (outs : Option Path → Frame → Run (Unit {0})) → R x → OwnIs p fine F W x.class own → Runs args (GivenAre p fine F W (g ∷ gs) x.class x.locals)
          → ((f : Frame) → SlotsAre p fine F W (g ∷ gs) x.locals f.locals → Runs (outs own f) Anything)
          → Runs (run_routine p enter x own args outs) (λ f. SlotsAre p fine F W (g ∷ gs) x.locals f.locals)
      routine_obeys x own args outs r o a k =
          bind a (λ given n.
          bind (spend_obeys p fine F W base base') (λ _ _.
          bind (reached.by (g ∷ gs) x own given r o n) (λ f s.
          bind (k f s) (λ _ _. give s))))

      -- the class of the instance at a place
      abbrev pub InstanceAt : Path → ℕ → Type 0
      InstanceAt q c = (name : List ℕ) × (fs : Fields) × (path_shape p q ≡ Some (Instance c name fs))

      pub class_found : (q : Path) (t : StType) → Names p q t → F q.region → Runs (class_at_spot p enter (in_store q)) (λ c. IsTrue (conforms p c t) × InstanceAt q c)
      class_found q t n f =
          let k = instance_is p fine.regions q n.class n.name n.fields n.there in
          bind (read_obeys p fine F W base base' (in_store q) (Instance n.class n.name n.fields) n.there f) (λ v h.
          less (opt fault.Null (class_in v >>? class_number p)) (λ c e.
          let a = class_some (class_in v) c e in
          let d : n.name ≡ a.0 = class_is p n.class n.name (Instance n.class n.name n.fields) v a.0 h a.1 n.fields refl in
          let b : class_number p k.0.name ≡ Some n.class = fine.numbered n.class k.0 k.1 in
          let i : n.class ≡ c = one_some (class_number p n.name) n.class c (ap (class_number p) k.2 ∙ b) (ap (class_number p) d ∙ a.2) in
          (subst (λ y. IsTrue (conforms p y t)) i n.meets, (n.name, n.fields, subst (λ y. path_shape p q ≡ Some (Instance y n.name n.fields)) i n.there))))
        where
          class_some : (o : Option (List ℕ)) (c : ℕ) → (o >>? class_number p) ≡ Some c → (name : List ℕ) × (o ≡ Some name) × (class_number p name ≡ Some c)
          class_some None c e = cc
          class_some (Some name) c e = (name, refl, e)

      pub owns : (o : Option ℕ) (q : Path) (c : ℕ) → InstanceAt q c → F q.region → W q.region → Above p c o → OwnIs p fine F W o (Some q)
      owns None q c t f w h = tt
      owns (Some d) q c t f w h = (record { class = c; name = t.0; fields = t.1; there = t.2; meets = h }, f, w)

      pub entered_obeys : (k : Called) (P : Routine → Type 0) (x : Routine) (own : Option Path) (args : List Parameter → Run (List Given)) (outs : List Parameter → Option Path → Frame → Run (Unit {0}))
          → (n : Enters p k x) → IsLiving p n → Entered p k P → AllOf (calls k ∷ []) → OwnIs p fine F W x.class own → Passes k P args outs → Runs (run_routine p enter x own (args x.parameters) (outs x.parameters)) (LeftBy P)
      entered_obeys k P x own args outs n living e u o a =
          let b = e.by x n living in
          let ok = entered_is k x n in
          less (routine_obeys x own (args x.parameters) (outs x.parameters) (u.0 x n) o (a.given x b.rest n b.suits ok b.begins) (λ f s. a.left x b.rest own f n b.suits ok b.begins (o, s))) (λ f s. (x, b.suits, ok, s))

      -- ---- a base's body

      pub base_in_outs : (x : Routine) (d : ℕ) → RoutineIs p x → SameInOuts p g.locals d → body_of p d ≡ Some x → (ps : List Parameter) → Each (ParameterIs p x) ps → Runs (same_in_outs ps) (GivenAre p fine F W (g ∷ gs) x.class x.locals)
      base_in_outs x d ok same e [] h = give tt
      base_in_outs x d ok same e (q ∷ qs) h =
          bind (base_in_outs x d ok same e qs h.1) (λ rest k.
          test (is_in_out q.sort) (λ i. in_out q.to h.0 i rest k) (λ _. give k))
        where
          in_out : (to : Recipient) → ParameterIs p x q → is_in_out q.sort ≡ true → (rest : List Given) → GivenAre p fine F W (g ∷ gs) x.class x.locals rest
              → Runs (local_spot (number_to q.to) >>= λ spot. gives (for_local (number_to q.to) (bound spot) ∷ rest)) (GivenAre p fine F W (g ∷ gs) x.class x.locals)
          in_out to a i rest k = by q.to refl (a.3 i) a.1
            where
              by : (r : Recipient) → q.to ≡ r → IsLocal q.to → recipient_variable p x q.to ≡ Some a.0 → Runs (local_spot (number_to q.to) >>= λ spot. gives (for_local (number_to q.to) (bound spot) ∷ rest)) (GivenAre p fine F W (g ∷ gs) x.class x.locals)
              by (to_variable n) r l v = absurd (subst IsLocal r l)
              by (to_local n) r l v =
                  let w : slice_get x.locals (number_to q.to) ≡ Some a.0 = ap (λ y. slice_get x.locals (number_to y)) r ∙ subst (λ y. recipient_variable p x y ≡ Some a.0) r v in
                  let s = sort_is a.0 q true a.2 i in
                  let m = same.by x (number_to q.to) a.0 e w s in
                  bind (local_spot_obeys p fine F W base base' (number_to q.to) m.0 m.1) (λ spot z. give ((a.0, w, (s, serve m.0.kind a.0.kind spot m.3 z.0, z.1)), k))

      -- ---- a call

      abbrev pub IsCall : Callee → Type 0
      IsCall a_conversion = ⊥
      IsCall c = Unit {0}

      store_spot : (spot : Spot) (q : Path) → path_of spot ≡ Some q → spot ≡ in_store q
      store_spot (in_store r) q e = let d : r ≡ q = cc in ap in_store d
      store_spot (in_frame d n ss) q e = cc

      pub class_found_at : (spot : Spot) (q : Path) (t : StType) → path_of spot ≡ Some q → Names p q t → F q.region → Runs (class_at_spot p enter spot) (λ c. IsTrue (conforms p c t) × InstanceAt q c)
      class_found_at spot q t e n f = subst (λ y. Runs (class_at_spot p enter y) (λ c. IsTrue (conforms p c t) × InstanceAt q c)) (sym (store_spot spot q e)) (class_found q t n f)

      pub base_is : (k : Called) (x : Routine) (d : ℕ) → Enters p k x → k ≡ the_body_from d → body_of p d ≡ Some x
      base_is k x d (by_base {d = b} e) q = let r : b ≡ d = cc in subst (λ y. body_of p y ≡ Some x) r e
      base_is k x d (by_number e) q = cc
      base_is k x d (by_class c m e) q = cc
      base_is k x d (by_text e) q = cc
      base_is k x d (by_body c m e) q = cc

      pub call_obeys : (c : Callee) (t whole : StType) (goal : Run Spot) (args : List Parameter → Run (List Given)) (outs : List Parameter → Option Path → Frame → Run (Unit {0})) (P : Routine → Type 0) (O G V : Type 0)
          → CallIs p g c O G whole (called_by c t whole) P V → AllOf (call_use (called_by c t whole))
          → (IsMember c → G → BodyIs p g.locals whole c → Runs goal (Receives c t whole))
          → ((k : Called) → called_by c t whole ≡ Some k → Passes k P args outs)
          → IsCall c → Runs (call p enter c goal args outs) (LeftBy P)
      call_obeys a_conversion t whole goal args outs P O G V h u to a i = absurd i
      call_obeys (a_function n) t whole goal args outs P O G V h u to a i =
          bind (opt fault.Null (slice_get p.functions n)) (λ x e.
          entered_obeys (the_function n) P x None args outs (by_number e) tt h.0 u (subst (λ o. OwnIs p fine F W o None) (sym (fine.functions n x e).1) tt) (a (the_function n) refl))
      call_obeys (a_method by_instance name) t whole goal args outs P O G V h u to a i =
          bind (to tt h.0 h.1) (λ spot z.
          bind (opt fault.Null (path_of spot)) (λ q e.
          let own = z.1 q e in
          bind (class_found_at spot q t e own.0 own.1) (λ c k.
          bind (opt fault.Null (lookup p c name)) (λ x b.
          entered_obeys (a_method_of t name) P x (Some q) args outs (by_class c k.0 b) (q, k.1.0, k.1.1, k.1.2) h.2 u (owns x.class q c k.1 own.1 own.2 (fine.methods_above c name x b)) (a (a_method_of t name) refl)))))
      call_obeys (a_method (from_class d) name) t whole goal args outs P O G V h u to a i =
          bind (to tt h.0 h.1) (λ spot z.
          bind (opt fault.Null (path_of spot)) (λ q e.
          let own = z.1 q e in
          bind (class_found_at spot q (type.Instance d) e own.0 own.1) (λ c k.
          bind (opt fault.Null (lookup p d name)) (λ x b.
          entered_obeys (a_method_from d name) P x (Some q) args outs (by_text b) tt h.2 u (owns x.class q c k.1 own.1 own.2 (above_up c d x.class k.0 (fine.methods_above d name x b))) (a (a_method_from d name) refl)))))
      call_obeys (a_body by_instance) t whole goal args outs P O G V h u to a i =
          bind (to tt h.0 h.1) (λ spot z.
          bind (opt fault.Null (path_of spot)) (λ q e.
          let own = z.1 q e in
          bind (class_found_at spot q whole e own.0 own.1) (λ c k.
          bind (opt fault.Null (body_of p c)) (λ x b.
          let l = instance_is p fine.regions q c k.1.0 k.1.1 k.1.2 in
          entered_obeys (a_body_of whole) P x (Some q) args outs (by_body c k.0 b) (q, k.1.0, k.1.1, k.1.2) h.2 u (owns x.class q c k.1 own.1 own.2 (body_above c c x (fine.itself c l.0 l.1) b)) (a (a_body_of whole) refl)))))
      call_obeys (a_body (from_class d)) t whole goal args outs P O G V h u to a i =
          let b = a (the_body_from d) refl in
          bind (to tt h.0 h.1) (λ spot z.
          bind (opt fault.Null (path_of spot)) (λ q e.
          let own = z.1 q e in
          bind (opt fault.Null (body_of p d)) (λ x m.
          entered_obeys (the_body_from d) P x (Some q) same_in_outs outs (by_base m) tt h.2 u
          (owns x.class q own.0.class (own.0.name, own.0.fields, own.0.there) own.1 own.2 (body_above own.0.class d x own.0.meets m))
          (record { given = λ y rest n r ok eq. base_in_outs y d ok h.1 (base_is (the_body_from d) y d n refl) y.parameters ok.parameters; left = b.left }))))

      pub call_result_is : (c : Callee) (t : StType) (P : Routine → Type 0) (x : Routine) → CallResultIs c t P x → P x
      call_result_is a_conversion t P x h = h
      call_result_is (a_function n) t P x h = h.1
      call_result_is (a_method s name) t P x h = h.1
      call_result_is (a_body s) t P x h = h.1

      pub result_obeys : (t : StType) (P : Routine → Type 0) (f : Frame) → LeftBy (λ x. ResultIs x t × P x) f → Runs (there (result_of f)) (Of t)
      result_obeys t P f h =
          let v = h.1.0 in
          less (opt fault.Null (frame_value (Some f) 0)) (λ w e.
          let a = slot_fits p fine F W (g ∷ gs) h.0.locals f.locals 0 v.0 w h.3 v.1 e in
          let u = within_bound p v.0.kind a.1.0 a.1.1 in
          subst (λ y. Of y w) v.2 (of_place p F v.0.kind a.1.0 w (no_instance v.0.kind a.1.0 u a.1.2) u a.1.3))

      pub call_value_obeys : (c : Callee) (t : StType) (P : Routine → Type 0) (op : Run Value) (called : Run Frame) → ConversionIs c t → (IsConversion c → Runs op Anything) → (IsCall c → Runs called (LeftBy (CallResultIs c t P))) → Runs (call_value c t op called) (Of t)
      call_value_obeys a_conversion t P op called h k l = bind (k tt) (λ v _. give (result_is p F t _ h (converted_fits (elem_of t) (number_in v))))
      call_value_obeys (a_function n) t P op called h k l = bind (l tt) (λ f m. result_obeys t P f m)
      call_value_obeys (a_method s name) t P op called h k l = bind (l tt) (λ f m. result_obeys t P f m)
      call_value_obeys (a_body s) t P op called h k l = bind (l tt) (λ f m. result_obeys t P f m)

      pub call_effect_obeys : (c : Callee) (P : Routine → Type 0) (op : Run Value) (called : Run Frame) → (IsConversion c → Runs op Anything) → (IsCall c → Runs called (LeftBy P)) → Runs (call_effect c op called) Anything
      call_effect_obeys a_conversion P op called k l = bind (k tt) (λ v _. give tt)
      call_effect_obeys (a_function n) P op called k l = bind (l tt) (λ f m. give tt)
      call_effect_obeys (a_method s name) P op called k l = bind (l tt) (λ f m. give tt)
      call_effect_obeys (a_body s) P op called k l = bind (l tt) (λ f m. give tt)

      pub operand_is : (c : Callee) (O G : Type 0) (whole : StType) (k : Option Called) (P : Routine → Type 0) (V : Type 0) → IsConversion c → CallIs p g c O G whole k P V → O
      operand_is a_conversion O G whole k P V i h = h
      operand_is c O G whole k P V i h = absurd i

      pub place_is : (x : Target) (t : StType) (P : Type 0) → IsNothing x → NamedIs p x t P → P
      place_is target.Nothing t P i h = h
      place_is x t P i h = absurd i

      -- what is called, on what it stands, where the way to it is known
      pub goal_by : (r : Root Note) (ss : Selectors Note) → RootIs p g r → CalledAlong p g ss (root_note r).kind → BodyIs p g.locals (last_kind (root_note r).kind ss) (callee_of r ss)
          → AllOf (owner_uses r ss) → AllOf (root_uses r)
          → ((spot : Spot) → Found (root_owner r) (root_note r).kind spot
          → Runs (along p enter ss (root_note r).kind spot) (Ends (last_method None ss) (owner_along (root_owner r) (root_note r).kind ss) (receiver (root_note r).kind ss) (last_kind (root_note r).kind ss)))
          → Runs (placed r (along p enter ss)) (Receives (callee_of r ss) (receiver (root_note r).kind ss) (last_kind (root_note r).kind ss))
      goal_by (root.Name a name) no_selectors h k b w u v =
          bind (root_obeys (root.Name a name) h u) (λ spot f. give (bare_receives a.target name a.kind spot h b w f))
      goal_by (root.Name a name) (selector_then s ss) h k b w u v =
          let r = root.Name a name in
          let ts = selector_then s ss in
          bind (root_obeys r h u) (λ spot f.
          less (v spot f) (λ x e.
          ends_receive by_instance (last_method None ts) (owner_along (root_owner r) a.kind ts) (receiver a.kind ts) (last_kind a.kind ts) x tt b w e))
      goal_by (root.This a) ss h k b w u v =
          bind (root_obeys (root.This a) h u) (λ spot f.
          less (v spot f) (λ x e.
          ends_receive by_instance (last_method None ss) (owner_along None a.kind ss) (receiver a.kind ss) (last_kind a.kind ss) x tt b w e))
      goal_by (root.Super a) ss h k b w u v =
          bind (root_obeys (root.Super a) h u) (λ spot f.
          less (v spot f) (λ x e.
          ends_receive (search_of (root.Super a) ss) (last_method None ss) (owner_along None a.kind ss) (receiver a.kind ss) (last_kind a.kind ss) x (direct_is (root.Super a) ss h k) b w e))

      -- arguments by the declared parameters serve a routine that has more
      pub arguments_serve : (k : Called) (r : Root Note) (ss : Selectors Note) (x : Routine) (rest : List Parameter) (xs : Arguments Note) → called_of r ss ≡ Some k → x.parameters ≡ called_parameters p (Some k) ++ rest
          → ArgumentsAre p g x (called_parameters p (called_of r ss)) (called_parameters p (called_of r ss)) xs → AllOf (argument_uses p (called_parameters p (called_of r ss)) (called_parameters p (called_of r ss)) xs)
          → ArgumentsAre p g x x.parameters x.parameters xs × AllOf (argument_uses p x.parameters x.parameters xs)
      arguments_serve k r ss x rest xs q eq h u =
          let ps = called_parameters p (called_of r ss) in
          let e : ps ++ rest ≡ x.parameters = ap (λ o. called_parameters p o ++ rest) q ∙ sym eq in (
            subst (λ l. ArgumentsAre p g x l l xs) e (arguments_longer rest p g x xs ps ps h),
            subst (λ l. AllOf (argument_uses p l l xs)) e (subst AllOf (sym (uses_longer rest p g x xs ps ps h)) u),
          )

      -- ---- the tree

      mutual
        pub along_obeys : (ss : Selectors Note) (o : Option Owner) (t : StType) (spot : Spot) → AlongIs p g ss t → AllOf (along_uses p t ss) → Found o t spot → Runs (along p enter ss t spot) (Found (owner_along o t ss) (last_kind t ss))
        along_obeys no_selectors o t spot h u f = give f
        along_obeys (selector_then s ss) o t spot h u f =
            let rest = back _ (if is_followed t s then follows t ∷ [] else []) _ u in
            bind (selected_obeys s o t spot h.0 (front _ (if is_followed t s then follows t ∷ [] else []) _ u) (front _ (selector_uses p s) _ rest) f) (λ part k.
            along_obeys ss (if is_followed t s then Some (the_instances t) else o) (selector_note s).kind part h.1 (back _ (selector_uses p s) _ rest) k)

        pub selected_obeys : (s : Selector Note) (o : Option Owner) (t : StType) (spot : Spot) → SelectorIs p g s t → AllOf (if is_followed t s then follows t ∷ [] else []) → AllOf (selector_uses p s) → Found o t spot
            → Runs (selected p enter s t spot) (Found (if is_followed t s then Some (the_instances t) else o) (selector_note s).kind)
        selected_obeys (Field a name) o t spot h n u f = part_obeys a.target t a.kind o spot h f
        selected_obeys (Index a es) o t spot h n u f = indexed_obeys es o t a.kind spot h u f
        selected_obeys (tree.Target a) o t spot h n u f = target_obeys t a.kind o spot h n f

        pub indexed_obeys : (es : Expressions Note) (o : Option Owner) (t w : StType) (spot : Spot) → IndexIs p g es t w → AllOf (index_uses p es) → Found o t spot → Runs (indexed p enter es t spot) (Found o w)
        indexed_obeys no_expressions o t w spot h u f = give (subst (λ y. Found o y spot) h f)
        indexed_obeys (expression_then e es) o t w spot h u f =
            let a = array_of (out-StType t) h.2.0 h.2.1 in
            let q : element_kind t ≡ h.2.0 = ap (λ y. elements_of y t) a.2 in
            bind (value_obeys e h.0 (front _ (expression_uses p e) _ u)) (λ v _.
            bind (opt fault.Index (index_in t (number_in v))) (λ i b.
            let c = index_is a.0 a.1 (number_in v) i h.2.0 (ap (λ y. index_within y (number_in v)) (sym a.2) ∙ b) in
            let k : Found o h.2.0 (into spot (step.Element i)) =
            (record { is = element_meets p fine (g ∷ gs) spot t a.0 a.1 h.2.0 i a.2 f.0.is c.0 c.1; near = within_further F spot (step.Element i) f.0.near }, λ n. within_further W spot (step.Element i) (f.1 n)) in
            subst (λ y. Runs (indexed p enter es y (into spot (step.Element i))) (Found o w)) (sym q) (indexed_obeys es o h.2.0 w (into spot (step.Element i)) h.2.2 (back _ (expression_uses p e) _ u) k)))

        pub called_along : (ss : Selectors Note) (o : Option Owner) (t : StType) (spot : Spot) → CalledAlong p g ss t → AllOf (along_uses p t ss) → Found o t spot
            → Runs (along p enter ss t spot) (Ends (last_method None ss) (owner_along o t ss) (receiver t ss) (last_kind t ss))
        called_along no_selectors o t spot h u f = give f
        called_along (selector_then (Field a name) no_selectors) o t spot h u f =
            bind (last_obeys a.target t a.kind name o spot h (front _ (if is_followed t (Field a name) then follows t ∷ [] else []) _ u) f) (λ part k. give k)
        called_along (selector_then (Index a es) no_selectors) o t spot h u f =
            bind (indexed_obeys es o t a.kind spot h.0 (front _ (index_uses p es) _ u) f) (λ part k. give k)
        called_along (selector_then (tree.Target a) no_selectors) o t spot h u f =
            bind (target_obeys t a.kind o spot h.0 (front _ (if is_followed t (tree.Target a) then follows t ∷ [] else []) _ u) f) (λ part k. give k)
        called_along (selector_then (Field a name) (selector_then s ss)) o t spot h u f =
            bind (part_obeys a.target t a.kind o spot h.0 f) (λ part k.
            called_along (selector_then s ss) (if is_followed t (Field a name) then Some (the_instances t) else o) a.kind part h.1 (back _ (if is_followed t (Field a name) then follows t ∷ [] else []) _ u) k)
        called_along (selector_then (Index a es) (selector_then s ss)) o t spot h u f =
            bind (indexed_obeys es o t a.kind spot h.0 (front _ (index_uses p es) _ u) f) (λ part k.
            called_along (selector_then s ss) o a.kind part h.1 (back _ (index_uses p es) _ u) k)
        called_along (selector_then (tree.Target a) (selector_then s ss)) o t spot h u f =
            bind (target_obeys t a.kind o spot h.0 (front _ (if is_followed t (tree.Target a) then follows t ∷ [] else []) _ u) f) (λ part k.
            called_along (selector_then s ss) (if is_followed t (tree.Target a) then Some (the_instances t) else o) a.kind part h.1 (back _ (if is_followed t (tree.Target a) then follows t ∷ [] else []) _ u) k)

        pub value_obeys : (e : Expression Note) → ExpressionIs p g e → AllOf (expression_uses p e) → Runs (value p enter e) (Of (kind e))
        value_obeys (Int a digits) h u = give (elementary_is p F a.kind h.0 _ h.1 h.2)
        value_obeys (Typed a k literal) h u = give (elementary_is p F a.kind k _ h.0 h.1)
        value_obeys (Time a text) h u = give (elementary_is p F a.kind elem.Time _ h.0 h.1)
        value_obeys (True a) h u = give (truth_is p F a.kind true h)
        value_obeys (False a) h u = give (truth_is p F a.kind false h)
        value_obeys (Null a) h u = give (null_is p F a.kind h)
        value_obeys (Place a r ss) h u =
            name_value_obeys a.target a.kind (placed r (along p enter ss)) _ h (λ k.
            bind (root_obeys r k.0 (front _ (root_uses r) _ u)) (λ spot f.
            less (along_obeys ss (root_owner r) (root_note r).kind spot k.1 (back _ (root_uses r) _ u) f) (λ s z. subst (Spotted s) k.2 z.0)))
        value_obeys (Call a r ss xs) h u =
            let c = callee_of r ss in
            let ps = called_parameters p (called_of r ss) in
            let own_u = back _ (call_use (called_of r ss)) _ u in
            let place_u = back _ (owner_uses r ss) _ own_u in
            let along_u = back _ (root_uses r) _ place_u in
            let args_u = back _ (along_uses p (root_note r).kind ss) _ along_u in
            call_value_obeys c a.kind (λ x. ArgumentsAre p g x ps ps xs) (operand p enter xs) _ h.0
            (λ i. operand_obeys xs ps ps (operand_is c _ _ _ _ _ _ i h.1) args_u)
            (λ i.
            call_obeys c (receiver (root_note r).kind ss) (last_kind (root_note r).kind ss) _ _ _ _ _ _ _ h.1 (front _ (call_use (called_of r ss)) _ u)
            (λ m k b. goal_by r ss k.0 k.1 b (front _ (owner_uses r ss) _ own_u) (front _ (root_uses r) _ place_u) (λ spot f. called_along ss (root_owner r) (root_note r).kind spot k.1 (front _ (along_uses p (root_note r).kind ss) _ along_u) f))
            (λ k q. record {
              given = λ x rest n b ok eq.
                  let m = arguments_serve k r ss x rest xs q eq (call_result_is c a.kind _ x b) args_u in
                  arguments_obey xs x x.parameters x.parameters ok ok.parameters ok.parameters m.0 m.1;
              left = λ x rest own f n b ok eq o.
                  let m = arguments_serve k r ss x rest xs q eq (call_result_is c a.kind _ x b) args_u in
                  outputs_obey xs x x.parameters x.parameters own f ok.parameters m.0 m.1 o;
            })
            i)
        value_obeys (Enumerator a t b name) h u = give (number_is p F a.kind _ h)
        value_obeys (Ref a r ss) h u =
            bind (bind (root_obeys r h.0 (front _ (root_uses r) _ u)) (λ spot f. along_obeys ss (root_owner r) (root_note r).kind spot h.1 (back _ (root_uses r) _ u) f)) (λ s z.
            give (subst (λ y. Of y (reference (path_of s))) (sym h.2.2) (path_of s, refl, ref_value h.2.0 s (subst (Spotted s) h.2.1 z.0))))
        value_obeys (Now a) h u = bind (moment_obeys p fine F W base base') (λ n k. give (elementary_is p F a.kind elem.Time (pos n) h k))
        value_obeys (Paren a e) h u = less (value_obeys e h.0 u) (λ v k. subst (λ y. Of y v) h.1 k)
        value_obeys (Not a e) h u = bind (value_obeys e h.0 u) (λ v k. give (result_is p F a.kind _ h.2 (wraps_fit (elem_of a.kind) _)))
        value_obeys (Negate a e) h u = negated_obeys a e _ h (λ k. (k.2, less (value_obeys e k.0 u) (λ v l. tt)))
        value_obeys (Chain a e ts) h u =
            bind (value_obeys e h.0 (front _ (expression_uses p e) _ u)) (λ v k. chained_obeys ts v (kind e) a.kind h.1 (back _ (expression_uses p e) _ u) k)

        pub chained_obeys : (ts : Tails Note) (v : Value) (t w : StType) → TailsAre p g t ts w → AllOf (tail_uses p ts) → Of t v → Runs (chained p enter v ts) (Of w)
        chained_obeys no_tails v t w h u k = give (subst (λ y. Of y v) h k)
        chained_obeys (tail_then a o e ts) v t w h u k =
            bind (operated_obeys o t (kind e) a.kind v (value p enter e) h.1 k (value_obeys e h.0 (front _ (expression_uses p e) _ u))) (λ x l.
            chained_obeys ts x a.kind w h.2 (back _ (expression_uses p e) _ u) l)

        pub bound_obeys : (e : Expression Note) → IsPlace e → ExpressionIs p g e → AllOf (bound_uses true e) → AllOf (expression_uses p e) → Runs (bound_place p enter e) (λ spot. Spotted spot (kind e) × Within W spot)
        bound_obeys (Place a r ss) i h w u =
            let k = place_is a.target a.kind _ i h in
            bind (root_obeys r k.0 (front _ (root_uses r) _ u)) (λ spot f.
            less (along_obeys ss (root_owner r) (root_note r).kind spot k.1 (back _ (root_uses r) _ u) f) (λ s z. (subst (Spotted s) k.2 z.0, z.1 w)))
        bound_obeys e i h w u = absurd i

        pub operand_obeys : (xs : Arguments Note) (ps left : List Parameter) → OperandIs p g xs → AllOf (argument_uses p ps left xs) → Runs (operand p enter xs) Anything
        operand_obeys (argument_then (Positional e) xs) ps left h u =
            less (value_obeys e h.0 (front _ (expression_uses p e) _ (back _ (bound_uses (is_bound (next_parameter left)) e) _ u))) (λ v k. tt)
        operand_obeys xs ps left h u = absurd h

        pub arguments_obey : (xs : Arguments Note) (x : Routine) (ps left : List Parameter) → RoutineIs p x → Each (ParameterIs p x) ps → Each (ParameterIs p x) left → ArgumentsAre p g x ps left xs → AllOf (argument_uses p ps left xs)
            → Runs (arguments p enter ps left xs) (GivenAre p fine F W (g ∷ gs) x.class x.locals)
        arguments_obey no_arguments x ps left ok n m h u = give tt
        arguments_obey (argument_then (Positional e) xs) x ps left ok n m h u =
            let own = front _ (bound_uses (is_bound (next_parameter left)) e) _ u in
            let rest = back _ (bound_uses (is_bound (next_parameter left)) e) _ u in
            let here = front _ (expression_uses p e) _ rest in
            bind (passed_obeys x (next_parameter left) e (value p enter e) (bound_place p enter e) ok (λ q i. next_each (ParameterIs p x) left q m i) h.1 own (value_obeys e h.0 here) (λ i w. bound_obeys e i h.0 w here)) (λ y k.
            bind (arguments_obey xs x ps (behind_next left) ok n (behind_each (ParameterIs p x) left m) h.2 (back _ (expression_uses p e) _ rest)) (λ ys l. give (k, l)))
        arguments_obey (argument_then (Input a name e) xs) x ps left ok n m h u =
            let own = front _ (bound_uses (is_bound (parameter_named ps a)) e) _ u in
            let rest = back _ (bound_uses (is_bound (parameter_named ps a)) e) _ u in
            let here = front _ (expression_uses p e) _ rest in
            bind (passed_obeys x (parameter_named ps a) e (value p enter e) (bound_place p enter e) ok (λ q i. slice_each (ParameterIs p x) ps (parameter_number a.target) q n i) h.1 own (value_obeys e h.0 here) (λ i w. bound_obeys e i h.0 w here)) (λ y k.
            bind (arguments_obey xs x ps left ok n m h.2 (back _ (expression_uses p e) _ rest)) (λ ys l. give (k, l)))
        arguments_obey (argument_then (Output a name b r ss) xs) x ps left ok n m h u =
            arguments_obey xs x ps left ok n m h.3 (back _ (along_uses p (root_note r).kind ss) _ (back _ (root_uses r) _ (back _ (owner_uses r ss) _ u)))

        pub outputs_obey : (xs : Arguments Note) (x : Routine) (ps left : List Parameter) (own : Option Path) (f : Frame) → Each (ParameterIs p x) ps → ArgumentsAre p g x ps left xs → AllOf (argument_uses p ps left xs) → OwnOf x own f
            → Runs (outputs p enter ps own f xs) Anything
        outputs_obey no_arguments x ps left own f n h u o = give tt
        outputs_obey (argument_then (Positional e) xs) x ps left own f n h u o =
            outputs_obey xs x ps (behind_next left) own f n h.2 (back _ (expression_uses p e) _ (back _ (bound_uses (is_bound (next_parameter left)) e) _ u)) o
        outputs_obey (argument_then (Input a name e) xs) x ps left own f n h u o =
            outputs_obey xs x ps left own f n h.2 (back _ (expression_uses p e) _ (back _ (bound_uses (is_bound (parameter_named ps a)) e) _ u)) o
        outputs_obey (argument_then (Output a name b r ss) xs) x ps left own f n h u o =
            let t = last_kind (root_note r).kind ss in
            let each = λ (q : Parameter) (i : parameter_named ps a ≡ Some q). slice_each (ParameterIs p x) ps (parameter_number a.target) q n i in
            let own_u = front _ (owner_uses r ss) _ u in
            let place_u = back _ (owner_uses r ss) _ u in
            let along_u = back _ (root_uses r) _ place_u in
            bind (left_obeys x (parameter_named ps a) t own f each h.2 o) (λ v k.
            bind (bind (root_obeys r h.0 (front _ (root_uses r) _ place_u)) (λ spot z. along_obeys ss (root_owner r) (root_note r).kind spot h.1 (front _ (along_uses p (root_note r).kind ss) _ along_u) z)) (λ spot z.
            bind (write_plain t spot v (left_plain x (parameter_named ps a) t each h.2) z.0 (z.1 own_u) k) (λ _ _.
            outputs_obey xs x ps left own f n h.3 (back _ (along_uses p (root_note r).kind ss) _ along_u) o)))

      pub goal_obeys : (r : Root Note) (ss : Selectors Note) → RootIs p g r → CalledAlong p g ss (root_note r).kind → BodyIs p g.locals (last_kind (root_note r).kind ss) (callee_of r ss)
          → AllOf (owner_uses r ss) → AllOf (root_uses r) → AllOf (along_uses p (root_note r).kind ss)
          → Runs (placed r (along p enter ss)) (Receives (callee_of r ss) (receiver (root_note r).kind ss) (last_kind (root_note r).kind ss))
      goal_obeys r ss h k b w u v = goal_by r ss h k b w u (λ spot f. called_along ss (root_owner r) (root_note r).kind spot k v f)
