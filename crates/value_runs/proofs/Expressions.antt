-- The code of an expression does what the expression means, and so does that of a place.
use Rattle.std.proofs.Common.{◌≡◌, ◌≤◌, ◌<◌, ℕ, zero, suc, ◌+◌, ◌-◌, ◌*◌, ℤ, pos, negsuc, Bool, true, false, List, [], ◌∷◌, ◌++◌, length, Option, Some, None, refl, sym, ap, ◌∙◌, subst, arith, length-append, inl, inr, ⊎_elim, rules, le_trans}
use Rattle.std.specs.Prelude.{slice_range, slice_set, if◌then◌else◌, ◌⊎◌, ◌-ℤ◌, int_le, int_lt, unsigned_abs, ◌&&◌, slice_get, not, max}
use Rattle.std.specs.Ordering.{int_eq}
use Rattle.std.proofs.lemmas.Bool.{eq-eqb}
use Rattle.std.proofs.lemmas.Option.{slice_get_within}
use Rattle.std.proofs.Math.Nat.{le-max_left, le-max_right}
use Rattle.std.proofs.lemmas.Int.{ints}
use Rattle.plc_text.specs.declared.fault.FaultKind.TheVariants as fault
use Rattle.st_types.specs.declared.elem.Elem.{Elem}
use Rattle.st_types.specs.Range.{Fits}
use Rattle.st_types.proofs.WideningLaws.{keeps}
use Rattle.st_types.specs.declared.st_type.StType.{StType, out-StType}
use Rattle.st_types.specs.declared.st_type.StType.TheOpen.{StType-F}
use Rattle.st_types.specs.declared.elem.Elem.TheVariants as elem
use Rattle.st_types.specs.declared.st_type.StType.TheVariants as type
use Rattle.plc_num.specs.Wrapping.{wrapped}
use Rattle.plc_num.proofs.WrappingLaws.{wrapped-fits}
use Rattle.plc_num.specs.Arithmetic.{sum, difference, product, quotient, remainder}
use Rattle.plc_num.specs.Bits.{with_bits, complement, conjunction, disjunction, exclusive_disjunction}
use Rattle.plc_num.specs.Conversion.{converted}
use Rattle.mem_image.specs.Laws.{AreApart}
use Rattle.mem_image.proofs.PartLaws.{length-range, range_of_range}
use Rattle.mem_image.specs.Image.{written, value_at as number_at}
use Rattle.st_tree.specs.declared.expression.Operator.{Operator}
use Rattle.st_tree.specs.declared.expression.Root.{Root}
use Rattle.st_tree.specs.declared.program.Note.{Note}
use Rattle.st_tree.specs.declared.program.Target.{Target}
use Rattle.st_tree.specs.Duration.{milliseconds}
use Rattle.st_tree.specs.Expression.{Expression, Int, Typed, Time, True, False, Null, Place, Call, Enumerator, Ref, Now, Paren, Not, Negate, Chain, Expressions, no_expressions, expression_then, Selector, Field, Index, Selectors, no_selectors, selector_then, Positional, Input, Output, Arguments, no_arguments, argument_then, Tails, no_tails, tail_then}
use Rattle.st_tree.specs.Number.{number_of}
use Rattle.st_tree.specs.declared.path.Path.{Path}
use Rattle.st_tree.specs.declared.expression.Operator.TheVariants as operator
use Rattle.st_tree.specs.declared.expression.Root.TheVariants as root
use Rattle.st_tree.specs.declared.path.Step.TheVariants as step
use Rattle.st_tree.specs.declared.program.Target.TheVariants as target
use Rattle.st_tree.specs.Expression as tree
use Rattle.st_values.specs.Program.{Variable, Parameter, Routine, Region, Program, Recipient, to_local, to_variable, Interface}
use Rattle.st_values.specs.Value.{Value, number, reference, array, structure, instance, Store, ◌>>=◌ as ◌>>?◌}
use Rattle.st_values.specs.Initial.{constant}
use Rattle.st_values.specs.Shape.{Shape, Elementary, Array, Instance, region_shape, Fields, path_shape, Enumeration, shape_of}
use Rattle.st_values.specs.ShapeLaws.{Unfolds}
use Rattle.st_meaning.specs.State.{own_in, path_of, Spot, in_store, in_frame, Frame, State, Outcome, Done, Fault, Run, go_on, ◌>>=◌, gives, some_or, read, into, there, holds, bound, unbound, Slot, spot_in, local_spot_in}
use Rattle.st_meaning.specs.Operation.{divided, truth, path_in, number_in, elem_of, literal_value, same_path, same_value}
use Rattle.st_meaning.specs.Place.{elements_of, index_within, root_note, root_spot, followed, held_spot, part_named, index_in, element_kind, named_spot, instance_of}
use Rattle.st_meaning.specs.Expression.{arguments, passed, bound_place, selector_note, place_value, name_value, operated, placed, along, selected, indexed, value, chained}
use Rattle.st_meaning.specs.Enter.{enter}
use Rattle.st_meaning.specs.st_frame.Use.{argument_uses, bound_uses, is_bound, Use, Owner, changed, root_uses, along_uses, expression_uses, index_uses, selector_uses, is_followed, last_kind, tail_uses, root_owner, the_instances, follows, owner_uses, called_of, called_parameters, call_use, Called}
use Rattle.st_meaning.specs.st_frame.Promise.Names.{Scope, RootIs, NameIs, OwnVariableIs, RegionIs}
use Rattle.st_meaning.specs.st_frame.Promise.Programs.{ProgramIs}
use Rattle.st_meaning.specs.st_frame.Promise.Expressions.{ExpressionIs, AlongIs, SelectorIs, IndexIs, TailsAre, ArgumentsAre, CalledAlong, OperandIs}
use Rattle.st_meaning.specs.st_frame.Promise.Operators.{OperationIs, Common, NegatedIs}
use Rattle.st_meaning.specs.st_frame.Promise.Calls.{recipient_variable, kind, Suits, ConversionIs, CallIs, next_number}
use Rattle.st_meaning.specs.st_frame.Promise.Types.{Widens, IsElementary, IsHeld, IsNumeric}
use Rattle.st_meaning.specs.st_frame.Promise.Places.{ElementIs, PartIs, TargetIs, NamedIs, IsPlace, IsNothing, HasMethods, LastIs}
use Rattle.st_meaning.specs.st_frame.Promise.Declarations.{ParameterIs, RoutineIs, Each}
use Rattle.st_meaning.specs.st_frame.Good.{Fit, Held}
use Rattle.st_meaning.proofs.st_frame.Unfolded.{within_bound, opened, region_is}
use Rattle.st_meaning.proofs.st_frame.OfTypes.{OfKind, Near, wraps_fit, path_is}
use Rattle.st_meaning.proofs.st_frame.Spots.{spot_shape, SpotIs, as_plain, Meets, exactly, below, Within as typing_within, within_further, element_meets, by_name, variable_shape}
use Rattle.st_meaning.proofs.st_frame.Obeys.{Anything, Alike, Both, Obeys, own_obeys, then_obeys, obeys_less}
use Rattle.st_meaning.proofs.st_frame.Bodies.{All, Covered, CallsObey}
use Rattle.st_meaning.specs.Call.{Given, given_value, parameter_number, next_parameter, behind_next, given_place, number_to, is_in_out, parameter_named, Callee, a_conversion, callee_of, call_value as call_value_of}
use Rattle.st_meaning.specs.State as state
use Rattle.st_meaning.proofs.st_frame.Bodies as typing
use Rattle.stack_code.specs.declared.machine.Frame.{Frame as At}
use Rattle.stack_code.specs.declared.memory.Space.TheVariants.{Regions, Locals}
use Rattle.stack_code.specs.declared.memory.Address.{Address}
use Rattle.stack_code.specs.declared.memory.Word.{Word}
use Rattle.stack_code.specs.declared.op.Op.{Op}
use Rattle.stack_code.specs.declared.code.MachineCode.{MachineCode}
use Rattle.stack_code.specs.Memory.{Memory, read as read_bytes, moved, kept as kept_word, with_image, write as write_bytes, copy as copy_bytes, same_reference}
use Rattle.stack_code.specs.Steps.{Step, Goes, some_or_stuck, faults, ◌>>=◌ as ◌>>=step◌}
use Rattle.stack_code.specs.Machine.{Config, act, on, jumps}
use Rattle.stack_code.specs.declared.memory.Word.TheVariants as word
use Rattle.stack_code.specs.declared.op.Op.TheVariants as op
use Rattle.stack_code.specs.Machine as machine
use Rattle.mem_layout.specs.store_bytes.StoreLaws.{IsNumber, IsAddress}
use Rattle.mem_layout.specs.store_bytes.Spells.{Holds, Spells}
use Rattle.mem_layout.proofs.store_bytes.Leaves.{keeps_written, holds_written, length-written, value_is}
use Rattle.mem_layout.proofs.store_bytes.Writes.{part_within}
use Rattle.mem_layout.specs.store_bytes.Place as store
use Rattle.code_cells.specs.declared.cell.Cell.{Cell}
use Rattle.code_cells.specs.declared.cell.Cell.TheVariants.{Does as does}
use Rattle.code_rules.specs.Plan.{Tables, Plan, plan_of}
use Rattle.code_rules.specs.declared.local.LocalPlace.{LocalPlace}
use Rattle.code_rules.proofs.PlanLaws.{place_found}
use Rattle.code_rules.specs.Code.{class_of, value_code, along_code, selected_code, indexed_code, root_code, named_code, chained_code, arguments_code, bound_code, passed_code, local_code, operated_code, held_code, followed_code, part_code, fetch_code, is_held, named_value_code, index_op, give_code, passed_room, number_kind, call_value_code, negated_code, instance_code, is_conversion}
use Rattle.code_rules.specs.Places.{bytes_of, field_offset, is_large, block_size, room_of, of_parameter, of_own, local_offset, width, size_in}
use Rattle.code_rules.specs.Tops.{along_top, selector_top, index_top, value_top, tails_top, arguments_top, call_top}
use Rattle.shown_memory.specs.Shown.{Kept, Open, scopes, Layout, layouts, Located, located, path_word, spot_word, word_at, value_word, FramesShown, Shown, Small, kept_number, layout_at, in_layout, SlotShown}
use Rattle.shown_memory.proofs.Geometry.{spot_located, held_shape}
use Rattle.shown_memory.proofs.Locals.{kept_joined, block_there, block_put, as_many, at_offset, slot_at, located_more, same_length}
use Rattle.shown_memory.specs.Passing.{LargeGiven, value_given, Keeps, recipient, given_word, IsPassed, ArePassed, with_block}
use Rattle.shown_memory.proofs.Levels.{within_found}
use Rattle.shown_memory.proofs.Parts.{Known, located_known, PartThere, structure_part, variable_part}
use Rattle.shown_memory.proofs.Geometry as geometry
use Rattle.memory_access.specs.Access.{Within}
use Rattle.memory_access.proofs.Likes.{local_there, load_like, loadref_like, place_room, decoded_place, compared_paths, length_set}
use Rattle.memory_access.proofs.Copies.{keep_place}
use Rattle.memory_access.proofs.Narrow.{eight}
use Rattle.memory_access.proofs.Worded.{widens_large, by_size, held_path, held_small, large_plain, large_word, number_small, numeric_value, enumeration_shape, compared_sort, operation_small, held_no_number, number_not_held, instances, NoNumber, no_number, none_in_frame}
use Rattle.memory_access.proofs.KeptAddresses.{kept_local, held_there, kept_place}
use Rattle.value_runs.proofs.Ends.{Leads, Stands}
use Rattle.memory_access.proofs.Arguments.{arguments_end, value_once, argument_numbers, IsIn, Once, eights_apart, to_recipient, local_of, next_there, behind_there}
use Rattle.value_runs.proofs.Ends as ends

none_some : (q : Path) → None ≡ Some q → ⊥
none_some q e = cc

pub goes_once : {A : Type 0} {a b : A} → Goes a ≡ Goes b → a ≡ b
goes_once e = cc

-- NOT of a truth
turned_truth : (b : Bool) → complement elem.Bool (wrapped elem.Bool (machine.truth b)) ≡ machine.truth (not b)
unfolding wrapped with_bits
turned_truth true = refl
turned_truth false = refl

-- both lie within the bound
pub both_fit : (a b n : ℕ) → max a b ≤ n → (a ≤ n) × (b ≤ n)
both_fit a b n h = (le_trans (le-max_left a b) h, le_trans (le-max_right a b) h)

module _ (p : Program) (fine : ProgramIs p) (small : Small p) (is_there : ℕ → Bool) (W : ℕ → Type 0) (first : Store) (R : Routine → Type 0) (code : MachineCode) (now base : ℕ) (tables : Tables) where
  abbrev pub F : ℕ → Type 0
  F r = is_there r ≡ true

  -- a state whose values have their types
  abbrev pub Fair : List Scope → State → Type 0
  Fair gs s = Alike p fine F W first first gs s s

  -- what the types tell of an answer
  pub told : {A : Type 0} {gs : List Scope} {Q : A → Type 0} {m : Run A} {line : ℕ} {s : State} → Obeys p fine F W first first gs m Q → Fair gs s → (a : A) (t : State) → m line s ≡ Done a t → Q a × Fair gs t
  told {A = A} {gs = gs} {Q = Q} {m = m} {line = line} {s = s} h fair a t e = last (subst (λ o. Both p fine F W first first gs Q o o) e (h.by line s s fair))
    where
      last : Both p fine F W first first gs Q (Done a t) (Done a t) → Q a × Fair gs t
      last b = (b.1, b.2)

  -- a number of an elementary type
  pub a_number : (t : StType) (e : Elem) (v : Value) → t ≡ type.Elementary e → OfKind p F t v → (z : ℤ) × (v ≡ number z) × Fits e z
  a_number t e v q h =
      let k = subst (λ x. OfKind p F x v) q h in
      let o = opened p (type.Elementary e) (StType-F.Elementary e) k.0 (type.outs-Elementary e) k.1 in
      by v (subst (λ x. Fit p x v) o k.2)
    where
      by : (x : Value) → Fit p (Elementary e) x → (z : ℤ) × (x ≡ number z) × Fits e z
      by (number z) h = (z, refl, h)
      by (reference o) h = absurd h
      by (array l vs) h = absurd h
      by (structure m ms) h = absurd h
      by (instance m ms) h = absurd h

  array_of : (x : StType-F StType) (w : StType) → ElementIs x w → (low high : ℤ) × (x ≡ StType-F.Array low high w)
  array_of (StType-F.Array low high of) w h = (low, high, ap (StType-F.Array low high) h)
  array_of (StType-F.Elementary e) w h = absurd h
  array_of (StType-F.Enumeration n) w h = absurd h
  array_of (StType-F.Structure n) w h = absurd h
  array_of (StType-F.Instance c) w h = absurd h
  array_of (StType-F.Reference c) w h = absurd h
  array_of (StType-F.Interface i) w h = absurd h

  abbrev element_of : Shape → Shape
  element_of (Array low n sh) = sh
  element_of sh = sh

  -- it is as its kind wraps it
  pub is_wrapped : (e : Elem) (z : ℤ) → Fits e z → wrapped e z ≡ z
  is_wrapped e z f = wrapped-fits e z f

  module _ (room : ℕ) (reached : CallsObey p fine F W first first R (enter p room)) (k0 : Open) (ks : List Open) (r : ℕ) (own : Option Address) (ar : List At) (line : ℕ)
      (own_there : (c : ℕ) → k0.scope.this ≡ Some c → (q : Path) × (l : Located) × (k0.own ≡ Some q) × (own ≡ Some l.address) × (located p base [] (in_store q) ≡ Some l)) where
    abbrev gs : List Scope
    gs = scopes (k0 ∷ ks)

    -- the plan of the routine that runs
    abbrev pub plan : Plan
    plan = plan_of p tables k0.scope k0.start

    abbrev ls : List Layout
    ls = layouts (k0 ∷ ks)

    abbrev kept_at : ℕ → List Kept → List Open
    kept_at free kept = record k0 { free = free; kept = kept } ∷ ks

    abbrev pub cfg : ℕ → List Word → State → Memory → Config
    cfg pc ws s m = record { here = record { routine = r; next = pc; own = own }; words = ws; around = ar; memory = m; ticks = s.ticks }

    abbrev pub lands : {A : Type 0} → ℕ → (A → List Word) → A → State → Memory → Config
    lands pc words a s m = cfg pc (words a) s m

    abbrev pub Shows : {A : Type 0} → ℕ → List Kept → A → State → Memory → Type 0
    Shows free kept a s m = Shown p base is_there now (kept_at free kept) m s

    abbrev pub Now_shown : ℕ → List Kept → State → Memory → Type 0
    Now_shown free kept s m = Shown p base is_there now (kept_at free kept) m s

    abbrev pub here_at : ℕ → Address
    here_at free = record { space = Locals; index = base + length ks; offset = free }

    abbrev pub From : {A : Type 0} → Config → (A → State → Memory → Config) → (A → State → Memory → Type 0) → Outcome A → Type 0
    From c after shown o = Leads code now (Goes c) after shown o

    abbrev pub AllOf : List Use → Type 0
    AllOf us = All (Covered p F W R) us

    -- ---- what is known of a value on top

    -- a value that no word holds is kept behind the locals
    pub record LargeKept (t : StType) (free : ℕ) (kept : List Kept) (v : Value) (s : State) (m : Memory) : Type 0 where
      pub shape : Shape
      pub unfolds : shape_of p t ≡ Some shape
      pub bytes : List ℕ
      pub long : length bytes ≡ store.size shape
      pub spells : Spells (region_shape p) shape v bytes 0
      pub shown : Now_shown (free + room_of (bytes_of p) t) (record { from = free; bytes = bytes } ∷ kept) s m

    abbrev pub Valued : StType → ℕ → List Kept → Value → State → Memory → Type 0
    Valued t free kept v s m = by_size (is_large t) (LargeKept t free kept v s m) (Now_shown free kept s m)

    pub plain_valued : (t : StType) (free : ℕ) (kept : List Kept) (v : Value) (s : State) (m : Memory) → is_large t ≡ false → Now_shown free kept s m → Valued t free kept v s m
    plain_valued t free kept v s m e h = subst (λ b. by_size b (LargeKept t free kept v s m) (Now_shown free kept s m)) (sym e) h

    pub valued_plain : (t : StType) (free : ℕ) (kept : List Kept) (v : Value) (s : State) (m : Memory) → is_large t ≡ false → Valued t free kept v s m → Now_shown free kept s m
    valued_plain t free kept v s m e h = subst (λ b. by_size b (LargeKept t free kept v s m) (Now_shown free kept s m)) e h

    pub as_valued : {c : Config} {after : Value → State → Memory → Config} {o : Outcome Value} (t : StType) (free : ℕ) (kept : List Kept) → is_large t ≡ false → From c after (Shows free kept) o → From c after (λ v s m. Valued t free kept v s m) o
    as_valued {c = c} {after = after} {o = o} t free kept e h = subst (λ b. From c after (λ v s m. by_size b (LargeKept t free kept v s m) (Now_shown free kept s m)) o) (sym e) h

    -- of a type whose values are words
    pub plainly : {c : Config} {after : Value → State → Memory → Config} {o : Outcome Value} (t : StType) (free : ℕ) (kept : List Kept) → is_large t ≡ false → From c after (λ v s m. Valued t free kept v s m) o → From c after (Shows free kept) o
    plainly {c = c} {after = after} {o = o} t free kept e h = subst (λ b. From c after (λ v s m. by_size b (LargeKept t free kept v s m) (Now_shown free kept s m)) o) e h

    abbrev pub ec : ℕ → Expression Note → List Cell
    ec free e = value_code plan line free e

    abbrev pub ac : ℕ → Selectors Note → StType → List Cell
    ac free ss t = along_code plan line free ss t

    abbrev pub rc : Root Note → List Cell
    rc q = root_code plan line q

    -- ends at a place of another name
    pub ends_at : {A : Type 0} {here : Step Config} {words : A → List Word} {shown : A → State → Memory → Type 0} {o : Outcome A} (pc pc' : ℕ) → pc ≡ pc' → Leads code now here (lands pc words) shown o → Leads code now here (lands pc' words) shown o
    ends_at {here = here} {words = words} {shown = shown} {o = o} pc pc' e h = subst (λ n. Leads code now here (lands n words) shown o) e h

    -- one step after another, with what the types tell
    pub bind : {A B : Type 0} {here : Step Config} {after : B → State → Memory → Config} {shown : B → State → Memory → Type 0} {m : Run A} {s : State} {f : A → State → Outcome B} {Q : A → Type 0} (mid : A → State → Memory → Config) (middle : A → State → Memory → Type 0)
        → Leads code now here mid middle (m line s) → Obeys p fine F W first first gs m Q → Fair gs s → ((a : A) (t : State) (x : Memory) → middle a t x → Q a → Fair gs t → Leads code now (Goes (mid a t x)) after shown (f a t)) → Leads code now here after shown (go_on (m line s) f)
    bind {m = m} {s = s} mid middle h typed fair k =
        ends.then_leads code now mid middle h (λ a t x i e. let y = told {m = m} typed fair a t e in k a t x i y.0 y.1)

    abbrev pub Typed_run : {A : Type 0} → Run A → (A → Type 0) → Type 0
    Typed_run m Q = Obeys p fine F W first first gs m Q

    abbrev pub Found : Option Owner → StType → Spot → Type 0
    Found o t spot = SpotIs p fine F W gs spot t × (AllOf (changed o) → typing_within W spot)

    -- ---- places: what the shapes tell

    -- where a place lies, and what is there
    pub record LiesAt (spot : Spot) (t : StType) : Type 0 where
      pub place : Located
      pub is : located p base ls spot ≡ Some place
      pub meets : Meets p (Some place.shape) t

    pub lies : (spot : Spot) (t : StType) → SpotIs p fine F W gs spot t → LiesAt spot t
    lies spot t h = by h.is
      where
        by : Meets p (spot_shape p gs spot) t → LiesAt spot t
        by (exactly sh u e) = let a = spot_located p base (k0 ∷ ks) spot sh e in record { place = a.0; is = a.1; meets = exactly sh u (ap Some a.2) }
        by (below c d name fs q e m) = let a = spot_located p base (k0 ∷ ks) spot (Instance d name fs) e in record { place = a.0; is = a.1; meets = below c d name fs q (ap Some a.2) m }

    pub within_is : (spot : Spot) (t : StType) → SpotIs p fine F W gs spot t → Within p base is_there now spot
    within_is (in_store q) t h = h.near
    within_is (in_frame d n ss) t h = tt

    held_address : (sh : Shape) (t : StType) → IsHeld t → Meets p (Some sh) t → IsAddress sh
    held_address sh t i m = held_shape p fine sh t i m

    pub number_shape : (sh : Shape) (t : StType) (e : Elem) → t ≡ type.Elementary e → Meets p (Some sh) t → IsNumber sh e
    number_shape sh t e q m = geometry.number_shape p fine sh t e q m

    -- a region has fewer than 2 ^ 32 bytes, and so have the locals of a call
    pub room_of_place : (free : ℕ) (kept : List Kept) (spot : Spot) (l : Located) (s : State) (m : Memory) → Now_shown free kept s m → located p base ls spot ≡ Some l → l.address.offset + store.size l.shape < 4294967296
    room_of_place free kept spot l s m sh e = place_room p base is_there now (kept_at free kept) spot l m s small sh e

    -- an element, and how large it is
    element_lies : (free : ℕ) (kept : List Kept) (s : State) (m : Memory) (spot : Spot) (t : StType) (low high : ℤ) (w : StType) (i : ℤ) (l : Located) → Now_shown free kept s m → out-StType t ≡ StType-F.Array low high w → located p base ls spot ≡ Some l → Meets p (Some l.shape) t → int_le low i ≡ true → int_le i high ≡ true
        → (moved l.address (unsigned_abs (i -ℤ low) * bytes_of p w) ≡ Goes (record l.address { offset = l.address.offset + unsigned_abs (i -ℤ low) * bytes_of p w }))
        × (located p base ls (into spot (step.Element i)) ≡ Some (record { address = record l.address { offset = l.address.offset + unsigned_abs (i -ℤ low) * bytes_of p w }; shape = geometry.element_in p fine l.shape }))
    element_lies free kept s m spot t low high w i l sh q at me a b = geometry.element_there p fine base ls spot t low high w i l q at me a b (room_of_place free kept spot l s m sh at)

    -- a field or a variable, and where it lies in the whole
    part_lies : (free : ℕ) (kept : List Kept) (s : State) (m : Memory) (spot : Spot) (t u : StType) (x : Target) (k : ℕ) (l : Located) → Now_shown free kept s m → PartIs p t x u → (x ≡ target.Field k) ⊎ (x ≡ target.Variable k) → located p base ls spot ≡ Some l → Meets p (Some l.shape) t
        → (moved l.address (field_offset p t k) ≡ Goes (record l.address { offset = l.address.offset + field_offset p t k }))
        × ((sh : Shape) × (located p base ls (into spot (step.Field k)) ≡ Some (record { address = record l.address { offset = l.address.offset + field_offset p t k }; shape = sh })))
    part_lies free kept s m spot t u x k l sh h w at me = by (⊎_elim (λ e. structure_part p fine t u k l.shape (subst (λ y. PartIs p t y u) e h) me known) (λ e. variable_part p fine t u k l.shape (subst (λ y. PartIs p t y u) e h) me known) w)
      where
        known : Known p l.shape
        known = located_known p base ls spot l at

        by : PartThere p t k l.shape → (moved l.address (field_offset p t k) ≡ Goes (record l.address { offset = l.address.offset + field_offset p t k }))
            × ((sh : Shape) × (located p base ls (into spot (step.Field k)) ≡ Some (record { address = record l.address { offset = l.address.offset + field_offset p t k }; shape = sh })))
        by y =
            let room = room_of_place free kept spot l s m sh at in
            let inside = part_within l.shape (step.Field k) y.place y.there in
            let o = y.offset in
            let next = geometry.located_into p base ls spot (step.Field k) l y.place at y.there in
            (geometry.moved_by p fine l.address (field_offset p t k) (omega (arith, room, inside, o)), (y.place.shape, next ∙ ap (λ n. Some (record { address = record l.address { offset = l.address.offset + n }; shape = y.place.shape })) (sym o)))

    pub not_zero : (b : ℤ) → (b ≡ pos 0 → ⊥) → int_eq b (pos 0) ≡ false
    not_zero (pos zero) h = absurd (h refl)
    not_zero (pos (suc n)) h = search rules
    not_zero (negsuc n) h = search rules

    go_on_again : {A : Type 0} (o : Outcome A) → go_on o (λ a s. Done a s) ≡ o
    go_on_again (Done a s) = refl
    go_on_again (Fault k line) = refl

    pub both_true : (a b : Bool) → (a && b) ≡ true → (a ≡ true) × (b ≡ true)
    both_true true true e = (refl, refl)
    both_true true false e = cc
    both_true false b e = cc

    cell_is : {x : Step (Op × ℕ)} {o o' : Op} → o ≡ o' → x ≡ Goes (o, line) → x ≡ Goes (o', line)
    cell_is e h = let f : Op → Step (Op × ℕ) = λ y. Goes (y, line) in h ∙ ap f e

    -- ---- what stands on the operands

    -- with a number on top
    pub number_leads : {B : Type 0} {after : B → State → Memory → Config} {shown : B → State → Memory → Type 0} (f : Value → Outcome B) (a : Address) (pc : ℕ) (ws : List Word) (t : State) (x : Memory) (v : Value) (z : ℤ) → v ≡ number z
        → Leads code now (Goes (cfg pc (word.Number z ∷ ws) t x)) after shown (f (number z)) → Leads code now (Goes (cfg pc (value_word p base a v ∷ ws) t x)) after shown (f v)
    number_leads {after = after} {shown = shown} f a pc ws t x v z e h = subst (λ y. Leads code now (Goes (cfg pc (value_word p base a y ∷ ws) t x)) after shown (f y)) (sym e) h

    -- with the address of a place on top
    pub spot_leads : {B : Type 0} {after : B → State → Memory → Config} {shown : B → State → Memory → Type 0} {o : Outcome B} (pc : ℕ) (ws : List Word) (t : State) (x : Memory) (spot : Spot) (l : Located) → located p base ls spot ≡ Some l
        → Leads code now (Goes (cfg pc (word.Address l.address ∷ ws) t x)) after shown o → Leads code now (Goes (cfg pc (spot_word p base ls spot ∷ ws) t x)) after shown o
    spot_leads {after = after} {shown = shown} {o = o} pc ws t x spot l e h = subst (λ (y : Option Located). Leads code now (Goes (cfg pc (word_at p base y ∷ ws) t x)) after shown o) (sym e) h

    spot_again : {B : Type 0} {after : B → State → Memory → Config} {shown : B → State → Memory → Type 0} {o : Outcome B} (pc : ℕ) (ws : List Word) (t : State) (x : Memory) (spot : Spot) (l : Located) → located p base ls spot ≡ Some l
        → Leads code now (Goes (cfg pc (spot_word p base ls spot ∷ ws) t x)) after shown o → Leads code now (Goes (cfg pc (word.Address l.address ∷ ws) t x)) after shown o
    spot_again {after = after} {shown = shown} {o = o} pc ws t x spot l e h = subst (λ (y : Option Located). Leads code now (Goes (cfg pc (word_at p base y ∷ ws) t x)) after shown o) e h

    -- an index is checked
    index_leads : {after : Spot → State → Memory → Config} {shown : Spot → State → Memory → Type 0} (low high z : ℤ) (n : ℕ) (of : StType) (a : Address) (pc : ℕ) (ws : List Word) (s : State) (m : Memory) (g : ℤ → Run Spot)
        → ((int_le low z && int_le z high) ≡ true → Leads code now (moved a (unsigned_abs (z -ℤ low) * n) >>=step λ b. on (cfg pc (word.Number z ∷ word.Address a ∷ ws) s m) (word.Address b ∷ ws)) after shown (g z line s))
        → Leads code now (act code now (op.Index low high n) line (cfg pc (word.Number z ∷ word.Address a ∷ ws) s m)) after shown ((some_or fault.Index (index_within (StType-F.Array low high of) z) >>= g) line s)
    index_leads {after = after} {shown = shown} low high z n of a pc ws s m g k = by (int_le low z && int_le z high) refl
      where
        by : (b : Bool) → (int_le low z && int_le z high) ≡ b → Leads code now (((if b then Goes (unsigned_abs (z -ℤ low)) else faults fault.Index line) >>=step λ k. moved a (k * n)) >>=step λ b. on (cfg pc (word.Number z ∷ word.Address a ∷ ws) s m) (word.Address b ∷ ws)) after shown ((some_or fault.Index (if b then Some z else None) >>= g) line s)
        by true e = k e
        by false e = ends.faults_leads code now refl

    -- where a reference leads
    pub held_runs : (t : StType) (free pc : ℕ) (kept : List Kept) (ws : List Word) (spot : Spot) (s : State) (m : Memory) → IsHeld t → SpotIs p fine F W gs spot t → Now_shown free kept s m → Stands code now r pc (held_code line)
        → From (cfg pc (spot_word p base ls spot ∷ ws) s m) (lands (pc + 1 + 1) (λ y. spot_word p base ls y ∷ ws)) (Shows free kept) (held_spot spot line s)
    held_runs t free pc kept ws spot s m i f sh has =
        let l = lies spot t f in
        let x = loadref_like p base is_there now (kept_at free kept) spot l.place m s small sh l.is (within_is spot t f) (held_address l.place.shape t i l.meets) in
        spot_leads pc ws s m spot l.place l.is
        (ends.step_leads code now (op.LoadRef, line) has.0
        (ends.goes_leads code now (read_bytes elem.Ulint m l.place.address) x.z _ x.by_bytes
        (subst (λ w. From (cfg (pc + 1) (w ∷ ws) s m) (lands (pc + 1 + 1) (λ y. spot_word p base ls y ∷ ws)) (Shows free kept) (held_spot spot line s)) (sym x.is)
        (ends.same_outcome code now (ap (λ o. go_on o (λ v t. (some_or fault.Null (path_in v) >>= λ q. gives (in_store q)) line t)) (x.by_state line))
        (ends.step_leads code now (op.Deref, line) has.1.0 (by x.o x.names))))))
      where
        by : (o : Option Path) → ((q : Path) → o ≡ Some q → (l : Located) × (located p base [] (in_store q) ≡ Some l))
            → Leads code now (act code now op.Deref line (cfg (pc + 1) (path_word p base o ∷ ws) s m)) (lands (pc + 1 + 1) (λ y. spot_word p base ls y ∷ ws)) (Shows free kept) ((some_or fault.Null o >>= λ q. gives (in_store q)) line s)
        by None k = ends.faults_leads code now refl
        by (Some q) k =
            let a = k q refl in
            subst (λ (y : Option Located). Leads code now (act code now op.Deref line (cfg (pc + 1) (word_at p base y ∷ ws) s m)) (lands (pc + 1 + 1) (λ y. spot_word p base ls y ∷ ws)) (Shows free kept) (Done (in_store q) s)) (sym a.1)
            (spot_again (pc + 1 + 1) ws s m (in_store q) a.0 a.1 (ends.stays code now (in_store q) s m sh))

    reference_run : (t : StType) (free pc : ℕ) (kept : List Kept) (ws : List Word) (spot : Spot) (s : State) (m : Memory) → IsHeld t → SpotIs p fine F W gs spot t → Now_shown free kept s m → Stands code now r pc (does op.LoadRef line ∷ [])
        → From (cfg pc (spot_word p base ls spot ∷ ws) s m) (lands (pc + 1) (λ v. value_word p base (here_at free) v ∷ ws)) (Shows free kept) (read spot line s)
    reference_run t free pc kept ws spot s m i f sh has =
        let l = lies spot t f in
        let x = loadref_like p base is_there now (kept_at free kept) spot l.place m s small sh l.is (within_is spot t f) (held_address l.place.shape t i l.meets) in
        spot_leads pc ws s m spot l.place l.is
        (ends.step_leads code now (op.LoadRef, line) has.0
        (ends.goes_leads code now (read_bytes elem.Ulint m l.place.address) x.z _ x.by_bytes
        (subst (λ w. From (cfg (pc + 1) (w ∷ ws) s m) (lands (pc + 1) (λ v. value_word p base (here_at free) v ∷ ws)) (Shows free kept) (read spot line s)) (sym x.is)
        (ends.same_outcome code now (x.by_state line) (ends.stays code now (reference x.o) s m sh)))))

    target_run : (t u : StType) (free pc : ℕ) (kept : List Kept) (ws : List Word) (spot : Spot) (s : State) (m : Memory) → TargetIs t u → SpotIs p fine F W gs spot t → Now_shown free kept s m → Stands code now r pc (followed_code line t)
        → From (cfg pc (spot_word p base ls spot ∷ ws) s m) (lands (pc + length (followed_code line t)) (λ y. spot_word p base ls y ∷ ws)) (Shows free kept) (followed t spot line s)
    target_run (type.Instance c) u free pc kept ws spot s m h f sh has = ends_at pc _ (omega arith) (ends.stays code now spot s m sh)
    target_run (type.Reference c) u free pc kept ws spot s m h f sh has = ends_at (pc + 1 + 1) _ (omega arith) (held_runs (type.Reference c) free pc kept ws spot s m tt f sh has)
    target_run t u free pc kept ws spot s m h f sh has = absurd h

    -- a part
    pub step_run : (t u : StType) (x : Target) (k free pc : ℕ) (kept : List Kept) (ws : List Word) (spot : Spot) (s : State) (m : Memory) → PartIs p t x u → (x ≡ target.Field k) ⊎ (x ≡ target.Variable k) → SpotIs p fine F W gs spot t → Now_shown free kept s m → Stands code now r pc (does (op.Offset (field_offset p t k)) line ∷ [])
        → From (cfg pc (spot_word p base ls spot ∷ ws) s m) (lands (pc + 1) (λ y. spot_word p base ls y ∷ ws)) (Shows free kept) (Done (into spot (step.Field k)) s)
    step_run t u x k free pc kept ws spot s m h w f sh has =
        let l = lies spot t f in
        let e = part_lies free kept s m spot t u x k l.place sh h w l.is l.meets in
        spot_leads pc ws s m spot l.place l.is
        (ends.step_leads code now (op.Offset (field_offset p t k), line) has.0
        (ends.goes_leads code now (moved l.place.address (field_offset p t k)) _ _ e.0
        (spot_again (pc + 1) ws s m (into spot (step.Field k)) _ e.1.1 (ends.stays code now (into spot (step.Field k)) s m sh))))

    field_run : (x : Target) (t u : StType) (free pc : ℕ) (kept : List Kept) (ws : List Word) (spot : Spot) (s : State) (m : Memory) → PartIs p t x u → SpotIs p fine F W gs spot t → Now_shown free kept s m → Stands code now r pc (part_code plan line t x)
        → From (cfg pc (spot_word p base ls spot ∷ ws) s m) (lands (pc + length (part_code plan line t x)) (λ y. spot_word p base ls y ∷ ws)) (Shows free kept) (part_named t spot x line s)
    field_run (target.Field k) t u free pc kept ws spot s m h f sh has = ends_at (pc + 1) _ (omega arith) (step_run t u (target.Field k) k free pc kept ws spot s m h (inl refl) f sh has)
    field_run (target.Variable k) t u free pc kept ws spot s m h f sh has = ends_at (pc + 1) _ (omega arith) (step_run t u (target.Variable k) k free pc kept ws spot s m h (inr refl) f sh has)
    field_run x t u free pc kept ws spot s m h f sh has = absurd h

    -- ---- what names stand for

    pub record OwnAt (c : ℕ) (s : State) : Type 0 where
      pub path : Path
      pub place : Located
      pub by_state : (line : ℕ) → state.own line s ≡ Done path s
      pub by_frame : own ≡ Some place.address
      pub is : located p base ls (in_store path) ≡ Some place
      pub typed : SpotIs p fine F W gs (in_store path) (type.Instance c)

    own_is : (c : ℕ) (free : ℕ) (kept : List Kept) (s : State) (m : Memory) → k0.scope.this ≡ Some c → Fair gs s → Now_shown free kept s m → OwnAt c s
    own_is c free kept s m e fair sh =
        let o = own_there c e in
        let q = o.0 in
        let done : (line : ℕ) → state.own line s ≡ Done q s = λ line. ap (λ x. some_or fault.Null x line s) (of s.frames sh.frames ∙ o.2) in
        let k = (told (own_obeys p fine F W first first c e) fair q s (done line)).0 in
        record { path = q; place = o.1; by_state = done; by_frame = o.3; is = o.4; typed = record { is = by_name p fine q c k.0; near = k.1 } }
      where
        of : (fs : List Frame) → FramesShown p base (kept_at free kept) fs m.locals → own_in fs ≡ k0.own
        of [] h = absurd h
        of (f ∷ fs) h = h.0.own

    this_run : (c n free pc : ℕ) (kept : List Kept) (ws : List Word) (s : State) (m : Memory) (spot : Spot) (b : Address) (o : OwnAt c s) → Now_shown free kept s m → Stands code now r pc (does (op.This n) line ∷ []) → moved o.place.address n ≡ Goes b → (l : Located) → located p base ls spot ≡ Some l → l.address ≡ b
        → From (cfg pc ws s m) (lands (pc + 1) (λ y. spot_word p base ls y ∷ ws)) (Shows free kept) (Done spot s)
    this_run c n free pc kept ws s m spot b o sh has e l at same =
        ends.step_leads code now (op.This n, line) has.0
        (ends.same_start code now (ap (λ x. some_or_stuck x >>=step λ w. moved w n >>=step λ a. on (cfg pc ws s m) (word.Address a ∷ ws)) o.by_frame)
        (ends.goes_leads code now (moved o.place.address n) b _ e
        (subst (λ x. From (cfg (pc + 1) (word.Address x ∷ ws) s m) (lands (pc + 1) (λ y. spot_word p base ls y ∷ ws)) (Shows free kept) (Done spot s)) same
        (spot_again (pc + 1) ws s m spot l at (ends.stays code now spot s m sh)))))

    -- the beginning of an instance
    moved_0 : (a : Address) → a.offset < 4294967296 → moved a 0 ≡ Goes a
    moved_0 a h = geometry.moved_by p fine a 0 (omega (arith, h)) ∙ ap (λ n. Goes (record a { offset = n })) (let e : a.offset + 0 ≡ a.offset = omega arith in e)

    low_offset : (free : ℕ) (kept : List Kept) (q : Path) (l : Located) (s : State) (m : Memory) → Now_shown free kept s m → located p base ls (in_store q) ≡ Some l → l.address.offset < 4294967296
    low_offset free kept q l s m sh e = let room = room_of_place free kept (in_store q) l s m sh e in omega (arith, room)

    own_run : (c free pc : ℕ) (kept : List Kept) (ws : List Word) (s : State) (m : Memory) → k0.scope.this ≡ Some c → Fair gs s → Now_shown free kept s m → Stands code now r pc (does (op.This 0) line ∷ [])
        → From (cfg pc ws s m) (lands (pc + 1) (λ y. spot_word p base ls y ∷ ws)) (Shows free kept) ((state.own >>= λ q. gives (in_store q)) line s)
    own_run c free pc kept ws s m e fair sh has =
        let o = own_is c free kept s m e fair sh in
        ends.same_outcome code now (ap (λ y. go_on y (λ q s. Done (in_store q) s)) (o.by_state line))
        (this_run c 0 free pc kept ws s m (in_store o.path) o.place.address o sh has (moved_0 o.place.address (low_offset free kept o.path o.place s m sh o.is)) o.place o.is refl)

    variable_run : (this : Option ℕ) (k : ℕ) (t : StType) (free pc : ℕ) (kept : List Kept) (ws : List Word) (s : State) (m : Memory) → k0.scope.this ≡ this → OwnVariableIs p this k t → Fair gs s → Now_shown free kept s m → Stands code now r pc (does (op.This (field_offset p (type.Instance (class_of this)) k)) line ∷ [])
        → From (cfg pc ws s m) (lands (pc + 1) (λ y. spot_word p base ls y ∷ ws)) (Shows free kept) (named_spot (target.Variable k) line s)
    variable_run None k t free pc kept ws s m e h fair sh has = absurd h
    variable_run (Some c) k t free pc kept ws s m e h fair sh has =
        let o = own_is c free kept s m e fair sh in
        let l = lies (in_store o.path) (type.Instance c) o.typed in
        let x = part_lies free kept s m (in_store o.path) (type.Instance c) t (target.Variable k) k o.place sh h (inr refl) o.is (subst (λ (y : Located). Meets p (Some y.shape) (type.Instance c)) (located_once l.place o.place (sym l.is ∙ o.is)) l.meets) in
        ends.same_outcome code now (ap (λ y. go_on y (λ q s. Done (into (in_store q) (step.Field k)) s)) (o.by_state line))
        (this_run c (field_offset p (type.Instance c) k) free pc kept ws s m (into (in_store o.path) (step.Field k)) _ o sh has x.0 _ x.1.1 refl)
      where
        located_once : (a b : Located) → Some a ≡ Some b → a ≡ b
        located_once a b e = cc

    region_run : (q : ℕ) (t : StType) (free pc : ℕ) (kept : List Kept) (ws : List Word) (s : State) (m : Memory) (x : Option Region) → slice_get p.regions q ≡ x → RegionIs x t → Now_shown free kept s m → Stands code now r pc (does (op.Region q 0) line ∷ [])
        → From (cfg pc ws s m) (lands (pc + 1) (λ y. spot_word p base ls y ∷ ws)) (Shows free kept) (Done (in_store (record { region = q; steps = [] })) s)
    region_run q t free pc kept ws s m None e h sh has = absurd h
    region_run q t free pc kept ws s m (Some x) e h sh has =
        let a = region_is p fine.regions q x e in
        let there : located p base ls (in_store (record { region = q; steps = [] })) ≡ Some (record { address = record { space = Regions; index = q; offset = 0 }; shape = a.0 }) = ap (λ o. (o >>? λ sh. Some (at_zero sh)) >>? λ y. Some (placed_at q y)) a.1 in
        ends.step_leads code now (op.Region q 0, line) has.0
        (spot_again (pc + 1) ws s m (in_store (record { region = q; steps = [] })) _ there (ends.stays code now (in_store (record { region = q; steps = [] })) s m sh))
      where
        at_zero : Shape → store.Place
        at_zero sh = record { offset = 0; shape = sh }

        placed_at : ℕ → store.Place → Located
        placed_at q y = record { address = record { space = Regions; index = q; offset = y.offset }; shape = y.shape }

    -- where a local lies
    abbrev local_is : ℕ → Variable → LocalPlace
    local_is n v = record { offset = local_offset p k0.start k0.scope.locals n; in_out = is_in_out v.sort }

    local_found : (n : ℕ) (v : Variable) → slice_get k0.scope.locals n ≡ Some v → slice_get plan.locals n ≡ Some (local_is n v)
    local_found n v e = place_found p k0.scope.locals k0.start n v e

    -- a local, or the place for which an in-out stands
    pub local_run : (n : ℕ) (v : Variable) (free pc : ℕ) (kept : List Kept) (ws : List Word) (s : State) (m : Memory) → slice_get k0.scope.locals n ≡ Some v → Now_shown free kept s m → Stands code now r pc (local_code line (Some (local_is n v)))
        → From (cfg pc ws s m) (lands (pc + length (local_code line (slice_get plan.locals n))) (λ y. spot_word p base ls y ∷ ws)) (Shows free kept) (state.local_spot n line s)
    local_run n v free pc kept ws s m e sh has = ends_at (pc + length (local_code line (Some (local_is n v)))) _ (ap (λ o. pc + length (local_code line o)) (sym (local_found n v e))) (of s.frames refl sh.frames)
      where
        at : ℕ
        at = local_offset p k0.start k0.scope.locals n

        deep : length m.locals - 1 ≡ base + length ks
        deep = let d : length m.locals ≡ base + length (k0 ∷ ks) = sh.deep in omega (arith, d)

        after : Spot → State → Memory → Config
        after = lands (pc + length (local_code line (Some (local_is n v)))) (λ y. spot_word p base ls y ∷ ws)

        code_by : Bool → List Cell
        code_by b = if b then does (op.Local at) line ∷ (does op.LoadRef line ∷ (does op.Deref line ∷ [])) else does (op.Local at) line ∷ []

        end_by : Bool → ℕ
        end_by b = if b then pc + 1 + 1 + 1 else pc + 1

        after_by : Bool → Spot → State → Memory → Config
        after_by b = lands (end_by b) (λ y. spot_word p base ls y ∷ ws)

        end_is : (b : Bool) → end_by b ≡ pc + length (code_by b)
        end_is true = omega arith
        end_is false = omega arith

        -- a value lies in the locals themselves
        value_there : (fs : List Frame) (w : Value) → length fs ≡ length ks → is_in_out v.sort ≡ false → (sh : Shape) → shape_of p v.kind ≡ Some sh
            → (l : Located) × (located p base ls (in_frame (length fs) n []) ≡ Some l) × (l.address ≡ record { space = Locals; index = base + length ks; offset = at })
        value_there fs w many q shape is =
            let known : variable_shape p (slice_get k0.scope.locals n) ≡ Some shape = ap (variable_shape p) e ∙ (ap (λ b. if b then None else shape_of p v.kind) q ∙ is) in
            let x = geometry.place_there p base k0.scope.locals k0.start n shape known in
            let o = at_offset p base k0.scope.locals k0.start n x.0 x.1 in
            let here : layout_at ls (length fs) ≡ Some (record { start = k0.start; locals = k0.scope.locals }) = ap (λ b. if b then Some (record { start = k0.start; locals = k0.scope.locals }) else layout_at (layouts ks) (length fs)) (eq-eqb (length fs) (length (layouts ks)) (many ∙ sym (same_length ks))) in
            let put : store.Place → Option Located = λ y. Some (record { address = record { space = Locals; index = base + length fs; offset = y.offset + 0 }; shape = y.shape }) in (
              record { address = record { space = Locals; index = base + length fs; offset = x.0.offset + 0 }; shape = x.0.shape },
              ap (λ y. in_layout p base y n >>? put) here ∙ ap (λ y. y >>? put) x.1,
              (λ i. record { space = Locals; index = base + many i; offset = (let z : x.0.offset + 0 ≡ at = (let u : x.0.offset + 0 ≡ x.0.offset = omega arith in u) ∙ o in z) i }),
            )

        -- the kept number of an address
        word_read : (z : ℤ) (image : List ℕ) → slice_get m.locals (base + length ks) ≡ Some image → at + 8 ≤ length image → Holds elem.Ulint z image at → read_bytes elem.Ulint m (record { space = Locals; index = base + length ks; offset = at }) ≡ Goes z
        word_read z image there_is fit holds_it = ap (λ x. x >>=step λ i. Goes (number_at elem.Ulint i at)) (local_there m (base + length ks) at 8 image there_is fit) ∙ ap Goes (value_is elem.Ulint z image at holds_it)

        slot_runs : (f : Frame) (fs : List Frame) (slot : Slot) (image : List ℕ) → length fs ≡ length ks → slice_get m.locals (base + length ks) ≡ Some image → at + width p v ≤ length image → SlotShown p base (layouts ks) v slot image at → (b : Bool) → is_in_out v.sort ≡ b → Stands code now r pc (code_by b)
            → From (cfg pc ws s m) (after_by b) (Shows free kept) (there (spot_in (length fs) n (Some slot)) line s)
        slot_runs f fs (holds w) image many there_is fit h true q has = absurd (clash (sym q ∙ h.0))
          where
            clash : true ≡ false → ⊥
            clash e = cc
        slot_runs f fs (holds w) image many there_is fit h false q has =
            let x = value_there fs w many q h.1.0 h.1.1 in
            ends.step_leads code now (op.Local at, line) has.0
            (subst (λ i. From (cfg (pc + 1) (word.Address (record { space = Locals; index = i; offset = at }) ∷ ws) s m) (after_by false) (Shows free kept) (Done (in_frame (length fs) n []) s)) (sym deep)
            (subst (λ a. From (cfg (pc + 1) (word.Address a ∷ ws) s m) (after_by false) (Shows free kept) (Done (in_frame (length fs) n []) s)) x.2
            (spot_again (pc + 1) ws s m (in_frame (length fs) n []) x.0 x.1 (ends.stays code now (in_frame (length fs) n []) s m sh))))
        slot_runs f fs (bound spot) image many there_is fit h false q has = absurd (clash (sym h.0 ∙ q))
          where
            clash : true ≡ false → ⊥
            clash e = cc
        slot_runs f fs (bound spot) image many there_is fit h true q has =
            let wide : width p v ≡ 8 = ap (λ b. if b then 8 else bytes_of p v.kind) q in
            let is = located_more p base (record { start = k0.start; locals = k0.scope.locals }) (layouts ks) spot h.1.there h.1.is in
            let room = room_of_place free kept spot h.1.there s m sh is in
            ends.step_leads code now (op.Local at, line) has.0
            (subst (λ i. From (cfg (pc + 1) (word.Address (record { space = Locals; index = i; offset = at }) ∷ ws) s m) (after_by true) (Shows free kept) (Done spot s)) (sym deep)
            (ends.step_leads code now (op.LoadRef, line) has.1.0
            (ends.goes_leads code now (read_bytes elem.Ulint m (record { space = Locals; index = base + length ks; offset = at })) (pos (kept_number p base h.1.there.address)) _ (word_read (pos (kept_number p base h.1.there.address)) image there_is (omega (arith, fit, wide)) h.1.holds_word)
            (subst (λ w. From (cfg (pc + 1 + 1) (w ∷ ws) s m) (after_by true) (Shows free kept) (Done spot s)) (sym (decoded_place p base is_there now ls spot h.1.there small is (omega (arith, room))))
            (ends.step_leads code now (op.Deref, line) has.1.1.0
            (spot_again (pc + 1 + 1 + 1) ws s m spot h.1.there is (ends.stays code now spot s m sh)))))))
        slot_runs f fs unbound image many there_is fit h false q has = absurd (clash (sym h.0 ∙ q))
          where
            clash : true ≡ false → ⊥
            clash e = cc
        slot_runs f fs unbound image many there_is fit h true q has =
            let wide : width p v ≡ 8 = ap (λ b. if b then 8 else bytes_of p v.kind) q in
            ends.step_leads code now (op.Local at, line) has.0
            (subst (λ i. From (cfg (pc + 1) (word.Address (record { space = Locals; index = i; offset = at }) ∷ ws) s m) (after_by true) (Shows free kept) (Fault fault.Null line)) (sym deep)
            (ends.step_leads code now (op.LoadRef, line) has.1.0
            (ends.goes_leads code now (read_bytes elem.Ulint m (record { space = Locals; index = base + length ks; offset = at })) (pos 0) _ (word_read (pos 0) image there_is (omega (arith, fit, wide)) h.1)
            (ends.step_leads code now (op.Deref, line) has.1.1.0 (ends.faults_leads code now refl)))))

        of : (fs : List Frame) → s.frames ≡ fs → FramesShown p base (kept_at free kept) fs m.locals → From (cfg pc ws s m) after (Shows free kept) (state.local_spot n line s)
        of [] q h = absurd h
        of (f ∷ fs) q h =
            let o = h.0 in
            let x = slot_at p base (layouts ks) k0.scope.locals f.locals o.image k0.start n v o.slots e in
            let many = sym (as_many p base ks fs m.locals h.1) in
            let low = o.low in
            let room = o.room in
            let long = o.long in
            let last = x.3 in
            ends.same_outcome code now (ap (λ y. there (local_spot_in y n) line s) q ∙ ap (λ y. there (spot_in (length fs) n y) line s) x.1)
            (ends_at (end_by (is_in_out v.sort)) _ (end_is (is_in_out v.sort)) (slot_runs f fs x.0 o.image many o.there (omega (arith, low, room, long, last)) x.2 (is_in_out v.sort) refl has))

    pub named_run : (x : Target) (t : StType) (free pc : ℕ) (kept : List Kept) (ws : List Word) (s : State) (m : Memory) → NameIs p k0.scope x t → Fair gs s → Now_shown free kept s m → Stands code now r pc (named_code plan line x)
        → From (cfg pc ws s m) (lands (pc + length (named_code plan line x)) (λ y. spot_word p base ls y ∷ ws)) (Shows free kept) (named_spot x line s)
    named_run (target.Local n) t free pc kept ws s m h fair sh has = local_run n h.0 free pc kept ws s m h.1 sh (subst (λ o. Stands code now r pc (local_code line o)) (local_found n h.0 h.1) has)
    named_run (target.Variable k) t free pc kept ws s m h fair sh has = ends_at (pc + 1) _ (omega arith) (variable_run k0.scope.this k t free pc kept ws s m refl h fair sh has)
    named_run (target.Region q) t free pc kept ws s m h fair sh has = ends_at (pc + 1) _ (omega arith) (region_run q t free pc kept ws s m (slice_get p.regions q) refl h sh has)
    named_run (target.Method k) t free pc kept ws s m h fair sh has = ends_at (pc + 1) _ (omega arith) (own_run h.0 free pc kept ws s m h.1 fair sh has)
    named_run x t free pc kept ws s m h fair sh has = absurd h

    root_run : (q : Root Note) (free pc : ℕ) (kept : List Kept) (ws : List Word) (s : State) (m : Memory) → RootIs p k0.scope q → Fair gs s → Now_shown free kept s m → Stands code now r pc (rc q)
        → From (cfg pc ws s m) (lands (pc + length (rc q)) (λ y. spot_word p base ls y ∷ ws)) (Shows free kept) (root_spot q line s)
    root_run (root.Name a name) free pc kept ws s m h fair sh has = named_run a.target a.kind free pc kept ws s m h fair sh has
    root_run (root.This a) free pc kept ws s m h fair sh has = ends_at (pc + 1) _ (omega arith) (own_run h.0 free pc kept ws s m h.1 fair sh has)
    root_run (root.Super a) free pc kept ws s m h fair sh has = ends_at (pc + 1) _ (omega arith) (own_run h.0 free pc kept ws s m h.2 fair sh has)

    number_fetched : (e : Elem) (free pc : ℕ) (kept : List Kept) (ws : List Word) (spot : Spot) (s : State) (m : Memory) (t : StType) (f : SpotIs p fine F W gs spot t) → Now_shown free kept s m → IsNumber (lies spot t f).place.shape e → Stands code now r pc (does (op.Load e) line ∷ [])
        → From (cfg pc (spot_word p base ls spot ∷ ws) s m) (lands (pc + length (does (op.Load e) line ∷ [])) (λ v. value_word p base (here_at free) v ∷ ws)) (Shows free kept) (read spot line s)
    number_fetched e free pc kept ws spot s m t f sh is_number has =
        let l = lies spot t f in
        let x = load_like p base is_there now (kept_at free kept) spot e l.place m s sh l.is (within_is spot t f) is_number in
        ends_at (pc + 1) _ (omega arith)
        (spot_leads pc ws s m spot l.place l.is
        (ends.step_leads code now (op.Load e, line) has.0
        (ends.goes_leads code now (read_bytes e m l.place.address) x.z _ x.by_bytes
        (ends.same_outcome code now (x.by_state line) (ends.stays code now (number x.z) s m sh)))))

    -- a whole array or structure is copied behind the locals
    large_fetched : (t : StType) (free pc : ℕ) (kept : List Kept) (ws : List Word) (spot : Spot) (s : State) (m : Memory) → is_large t ≡ true → free + room_of (bytes_of p) t ≤ k0.long → SpotIs p fine F W gs spot t → Now_shown free kept s m
        → Stands code now r pc (does (op.Local free) line ∷ (does (op.Copy (bytes_of p t)) line ∷ (does (op.Local free) line ∷ [])))
        → From (cfg pc (spot_word p base ls spot ∷ ws) s m) (lands (pc + 1 + 1 + 1) (λ v. value_word p base (here_at free) v ∷ ws)) (λ v y x. LargeKept t free kept v y x) (read spot line s)
    large_fetched t free pc kept ws spot s m large top f sh has =
        let l = lies spot t f in
        let known = located_known p base ls spot l.place l.is in
        let a = as_plain p fine (Some l.place.shape) t (large_plain t large) l.meets in
        let same = geometry.some_shape p fine l.place.shape a.0 a.2 in
        let u = subst (Unfolds p t) (sym same) a.1 in
        let found = within_found p 65 t l.place.shape u known.within in
        let n : bytes_of p t ≡ store.size l.place.shape = ap size_in found in
        let taken : room_of (bytes_of p) t ≡ store.size l.place.shape = ap (λ b. if b then bytes_of p t else 0) large ∙ n in
        let x = keep_place p base is_there now (record k0 { free = free; kept = kept }) ks spot l.place m s sh l.is (within_is spot t f) (omega (arith, top, taken)) in
        let y = x.1 in
        let after : Value → State → Memory → Config = lands (pc + 1 + 1 + 1) (λ v. value_word p base (here_at free) v ∷ ws) in
        let shown : Value → State → Memory → Type 0 = λ v y x. LargeKept t free kept v y x in
        let word_is = large_word p fine base (here_at free) t l.place.shape x.0.value y.bytes 0 large u y.spells in
        let kept_there : LargeKept t free kept x.0.value s y.memory = record { shape = l.place.shape; unfolds = found; bytes = y.bytes; long = y.long; spells = y.spells; shown = subst (λ k. Now_shown (free + k) (record { from = free; bytes = y.bytes } ∷ kept) s y.memory) (sym taken) y.shows } in
        spot_leads pc ws s m spot l.place l.is
        (ends.same_outcome code now (x.0.reads line)
        (ends.step_leads code now (op.Local free, line) has.0
        (subst (λ i. From (cfg (pc + 1) (word.Address (record { space = Locals; index = i; offset = free }) ∷ (word.Address l.place.address ∷ ws)) s m) after shown (Done x.0.value s)) (sym (let d : length m.locals ≡ base + length (k0 ∷ ks) = sh.deep in omega (arith, d)))
        (ends.step_leads code now (op.Copy (bytes_of p t), line) has.1.0
        (ends.goes_leads code now (copy_bytes (bytes_of p t) m l.place.address (here_at free)) y.memory _ (ap (λ k. copy_bytes k m l.place.address (here_at free)) n ∙ y.by_bytes)
        (ends.step_leads code now (op.Local free, line) has.1.1.0
        (subst (λ i. From (cfg (pc + 1 + 1 + 1) (word.Address (record { space = Locals; index = i; offset = free }) ∷ ws) s y.memory) after shown (Done x.0.value s)) (sym (let d : length y.memory.locals ≡ base + length (k0 ∷ ks) = y.shows.deep in omega (arith, d)))
        (subst (λ w. From (cfg (pc + 1 + 1 + 1) (w ∷ ws) s y.memory) after shown (Done x.0.value s)) word_is
        (ends.stays code now x.0.value s y.memory kept_there)))))))))

    -- what is read at a place
    pub fetch_run : (t : StType) (free pc : ℕ) (kept : List Kept) (ws : List Word) (spot : Spot) (s : State) (m : Memory) → free + room_of (bytes_of p) t ≤ k0.long → Fair gs s → SpotIs p fine F W gs spot t → Now_shown free kept s m → Stands code now r pc (fetch_code plan line free t)
        → From (cfg pc (spot_word p base ls spot ∷ ws) s m) (lands (pc + length (fetch_code plan line free t)) (λ v. value_word p base (here_at free) v ∷ ws)) (λ v y x. Valued t free kept v y x) (place_value t (gives spot) line s)
    fetch_run (type.Elementary e) free pc kept ws spot s m top fair f sh has =
        let l = lies spot (type.Elementary e) f in
        number_fetched e free pc kept ws spot s m (type.Elementary e) f sh (number_shape l.place.shape (type.Elementary e) e refl l.meets) has
    fetch_run (type.Enumeration n) free pc kept ws spot s m top fair f sh has =
        let l = lies spot (type.Enumeration n) f in
        number_fetched elem.Udint free pc kept ws spot s m (type.Enumeration n) f sh (enumeration_shape p fine n l.place.shape l.meets) has
    fetch_run (type.Reference c) free pc kept ws spot s m top fair f sh has =
        ends_at (pc + 1) _ (omega arith) (reference_run (type.Reference c) free pc kept ws spot s m tt f sh has)
    fetch_run (type.Interface i) free pc kept ws spot s m top fair f sh has =
        ends_at (pc + 1) _ (omega arith) (reference_run (type.Interface i) free pc kept ws spot s m tt f sh has)
    fetch_run (type.Instance c) free pc kept ws (in_store q) s m top fair f sh has = ends_at pc _ (omega arith) (ends.stays code now (reference (Some q)) s m sh)
    fetch_run (type.Instance c) free pc kept ws (in_frame d n ss) s m top fair f sh has = absurd (none_in_frame p fine F W gs s.frames d n ss c fair.frames f.is)
    fetch_run t free pc kept ws spot s m top fair f sh has = ends_at (pc + 1 + 1 + 1) _ (omega arith) (large_fetched t free pc kept ws spot s m refl top f sh has)

    -- what is pushed is on top
    pub push_leads : {o : Op} {shown : Value → State → Memory → Type 0} (free pc : ℕ) (before ws : List Word) (s : State) (m : Memory) (v : Value) → Stands code now r pc (does o line ∷ []) → shown v s m
        → act code now o line (cfg pc before s m) ≡ Goes (cfg (pc + 1) (value_word p base (here_at free) v ∷ ws) s m)
        → From (cfg pc before s m) (lands (pc + 1) (λ v. value_word p base (here_at free) v ∷ ws)) shown (Done v s)
    push_leads {o = o} free pc before ws s m v has sh e = ends.step_leads code now (o, line) has.0 (ends.same_start code now e (ends.stays code now v s m sh))

    -- ---- parts

    -- ---- typing of parts (these stand in Bodies, where they are private)

    indexed_typed : (es : Expressions Note) (o : Option Owner) (t w : StType) (spot : Spot) → IndexIs p k0.scope es t w → AllOf (index_uses p es) → Found o t spot → Typed_run (indexed p (enter p room) es t spot) (Found o w)
    indexed_typed es o t w spot h u f = typing.indexed_obeys p fine F W first first R (enter p room) reached k0.scope (scopes ks) es o t w spot h u f

    selected_typed : (x : Selector Note) (o : Option Owner) (t : StType) (spot : Spot) → SelectorIs p k0.scope x t → AllOf (if is_followed t x then follows t ∷ [] else []) → AllOf (selector_uses p x) → Found o t spot
        → Typed_run (selected p (enter p room) x t spot) (Found (if is_followed t x then Some (the_instances t) else o) (selector_note x).kind)
    selected_typed x o t spot h n u f = typing.selected_obeys p fine F W first first R (enter p room) reached k0.scope (scopes ks) x o t spot h n u f

    operated_typed : (o : Operator) (t u w : StType) (x : Value) (right : Run Value) → OperationIs p o t u w → OfKind p F t x → Typed_run right (OfKind p F u) → Typed_run (operated o w x right) (OfKind p F w)
    operated_typed o t u w x right h i k = typing.operated_obeys p fine F W first first R (enter p room) reached k0.scope (scopes ks) o t u w x right h i k

    -- ---- operators

    -- what the code of the right operand does, wherever it stands
    abbrev Right : ℕ → List Kept → List Cell → Run Value → Type 0
    Right free kept cr right =
        (pc : ℕ) (ws : List Word) (s : State) (m : Memory) → Fair gs s → Now_shown free kept s m → Stands code now r pc cr → From (cfg pc ws s m) (lands (pc + length cr) (λ v. value_word p base (here_at free) v ∷ ws)) (Shows free kept) (right line s)

    -- two numbers, of which the machine makes a third one
    two_numbers : (o : Op) (f : ℤ → ℤ → ℤ) (free pc : ℕ) (kept : List Kept) (ws : List Word) (x : Value) (t u : StType) (a b : Elem) (cr : List Cell) (right : Run Value) (s : State) (m : Memory)
        → t ≡ type.Elementary a → u ≡ type.Elementary b → OfKind p F t x → Fair gs s → Now_shown free kept s m → Typed_run right (OfKind p F u) → Stands code now r pc (cr ++ does o line ∷ []) → Right free kept cr right
        → ((at : ℕ) (y z : ℤ) (s1 : State) (m1 : Memory) → Fits a y → Fits b z → act code now o line (cfg at (word.Number z ∷ word.Number y ∷ ws) s1 m1) ≡ Goes (cfg (at + 1) (word.Number (f y z) ∷ ws) s1 m1))
        → From (cfg pc (value_word p base (here_at free) x ∷ ws) s m) (lands (pc + length (cr ++ does o line ∷ [])) (λ v. value_word p base (here_at free) v ∷ ws)) (Shows free kept)
        (go_on (right line s) (λ y s1. Done (number (f (number_in x) (number_in y))) s1))
    two_numbers o f free pc kept ws x t u a b cr right s m ta ub is fair sh typed has runs acts =
        let y = a_number t a x ta is in
        ends_at (pc + length cr + 1) _ (omega (arith, length-append cr (does o line ∷ [])))
        (number_leads (λ x. go_on (right line s) (λ y s1. Done (number (f (number_in x) (number_in y))) s1)) (here_at free) pc ws s m x y.0 y.1
        (bind {m = right} (lands (pc + length cr) (λ v. value_word p base (here_at free) v ∷ (word.Number y.0 ∷ ws))) (Shows free kept)
        (runs pc (word.Number y.0 ∷ ws) s m fair sh (ends.front code now r pc cr _ has)) typed fair
        (λ v s1 m1 sh1 is1 fair1.
        let z = a_number u b v ub is1 in
        number_leads (λ v. Done (number (f y.0 (number_in v))) s1) (here_at free) (pc + length cr) (word.Number y.0 ∷ ws) s1 m1 v z.0 z.1
        (push_leads free (pc + length cr) (word.Number z.0 ∷ word.Number y.0 ∷ ws) ws s1 m1 (number (f y.0 z.0)) (ends.back code now r pc cr _ has) sh1 (acts (pc + length cr) y.0 z.0 s1 m1 y.2 z.2)))))

    -- of two numbers of kinds that reach a third one the machine takes them as they are
    wraps_two : (t u w : StType) (k : Common t u w) (f : Elem → ℤ → ℤ → ℤ) (y z : ℤ) → Fits k.0 y → Fits k.1 z → f (elem_of w) (wrapped (elem_of w) y) (wrapped (elem_of w) z) ≡ f (elem_of w) y z
    wraps_two t u w k f y z fy fz =
        let q : elem_of w ≡ k.2 = ap elem_of k.5 in
        let a = is_wrapped (elem_of w) y (subst (λ e. Fits e y) (sym q) (keeps k.0 k.2 y k.6 fy)) in
        let b = is_wrapped (elem_of w) z (subst (λ e. Fits e z) (sym q) (keeps k.1 k.2 z k.7 fz)) in
        ap (λ y. f (elem_of w) y (wrapped (elem_of w) z)) a ∙ ap (λ z. f (elem_of w) y z) b

    -- a quotient or a remainder, where the divisor is not 0
    divided_run : (o : Op) (f : Elem → ℤ → ℤ → ℤ) (free pc : ℕ) (kept : List Kept) (ws : List Word) (x : Value) (t u w : StType) (cr : List Cell) (right : Run Value) (s : State) (m : Memory)
        → Common t u w → OfKind p F t x → Fair gs s → Now_shown free kept s m → Typed_run right (OfKind p F u) → Stands code now r pc (cr ++ does o line ∷ []) → Right free kept cr right
        → ((at : ℕ) (y z : ℤ) (s1 : State) (m1 : Memory) → act code now o line (cfg at (word.Number z ∷ word.Number y ∷ ws) s1 m1)
        ≡ (machine.divided (wrapped (elem_of w) z) (f (elem_of w) (wrapped (elem_of w) y) (wrapped (elem_of w) z)) line >>=step λ q. on (cfg at (word.Number z ∷ word.Number y ∷ ws) s1 m1) (word.Number q ∷ ws)))
        → From (cfg pc (value_word p base (here_at free) x ∷ ws) s m) (lands (pc + length (cr ++ does o line ∷ [])) (λ v. value_word p base (here_at free) v ∷ ws)) (Shows free kept)
        (go_on (right line s) (λ y s1. divided f (elem_of w) (number_in x) (number_in y) line s1))
    divided_run o f free pc kept ws x t u w cr right s m c is fair sh typed has runs acts =
        let y = a_number t c.0 x c.3 is in
        ends_at (pc + length cr + 1) _ (omega (arith, length-append cr (does o line ∷ [])))
        (number_leads (λ x. go_on (right line s) (λ y s1. divided f (elem_of w) (number_in x) (number_in y) line s1)) (here_at free) pc ws s m x y.0 y.1
        (bind {m = right} (lands (pc + length cr) (λ v. value_word p base (here_at free) v ∷ (word.Number y.0 ∷ ws))) (Shows free kept)
        (runs pc (word.Number y.0 ∷ ws) s m fair sh (ends.front code now r pc cr _ has)) typed fair
        (λ v s1 m1 sh1 is1 fair1.
        let z = a_number u c.1 v c.4 is1 in
        let q : elem_of w ≡ c.2 = ap elem_of c.5 in
        let wy = is_wrapped (elem_of w) y.0 (subst (λ e. Fits e y.0) (sym q) (keeps c.0 c.2 y.0 c.6 y.2)) in
        let wz = is_wrapped (elem_of w) z.0 (subst (λ e. Fits e z.0) (sym q) (keeps c.1 c.2 z.0 c.7 z.2)) in
        let at = pc + length cr in
        let words = word.Number z.0 ∷ word.Number y.0 ∷ ws in
        number_leads (λ v. divided f (elem_of w) y.0 (number_in v) line s1) (here_at free) at (word.Number y.0 ∷ ws) s1 m1 v z.0 z.1
        (ends.step_leads code now (o, line) (ends.back code now r pc cr _ has).0
        (ends.same_start code now (acts at y.0 z.0 s1 m1 ∙ ap (λ n. machine.divided n (f (elem_of w) (wrapped (elem_of w) y.0) n) line >>=step λ q. on (cfg at words s1 m1) (word.Number q ∷ ws)) wz ∙ ap (λ n. machine.divided z.0 (f (elem_of w) n z.0) line >>=step λ q. on (cfg at words s1 m1) (word.Number q ∷ ws)) wy)
        (by f y.0 z.0 at words s1 m1 sh1))))))
      where
        by : (f : Elem → ℤ → ℤ → ℤ) (y z : ℤ) (at : ℕ) (words : List Word) (s1 : State) (m1 : Memory) → Now_shown free kept s1 m1
            → Leads code now (machine.divided z (f (elem_of w) y z) line >>=step λ q. on (cfg at words s1 m1) (word.Number q ∷ ws)) (lands (at + 1) (λ v. value_word p base (here_at free) v ∷ ws)) (Shows free kept) (divided f (elem_of w) y z line s1)
        by f y (pos zero) at words s1 m1 i = ends.faults_leads code now refl
        by f y (pos (suc n)) at words s1 m1 i = goes f y (pos (suc n)) at words s1 m1 i (not_zero (pos (suc n)) (λ e. cc))
          where
            goes : (f : Elem → ℤ → ℤ → ℤ) (y z : ℤ) (at : ℕ) (words : List Word) (s1 : State) (m1 : Memory) → Now_shown free kept s1 m1 → int_eq z (pos 0) ≡ false
                → Leads code now (machine.divided z (f (elem_of w) y z) line >>=step λ q. on (cfg at words s1 m1) (word.Number q ∷ ws)) (lands (at + 1) (λ v. value_word p base (here_at free) v ∷ ws)) (Shows free kept) (Done (number (f (elem_of w) y z)) s1)
            goes f y z at words s1 m1 i e =
                ends.same_start code now (ap (λ b. (if b then faults fault.Divide line else Goes (f (elem_of w) y z)) >>=step λ q. on (cfg at words s1 m1) (word.Number q ∷ ws)) e) (ends.stays code now (number (f (elem_of w) y z)) s1 m1 i)
        by f y (negsuc n) at words s1 m1 i =
            ends.same_start code now (ap (λ b. (if b then faults fault.Divide line else Goes (f (elem_of w) y (negsuc n))) >>=step λ q. on (cfg at words s1 m1) (word.Number q ∷ ws)) (not_zero (negsuc n) (λ e. cc))) (ends.stays code now (number (f (elem_of w) y (negsuc n))) s1 m1 i)

    truth_number : (b : Bool) → truth b ≡ number (machine.truth b)
    truth_number true = refl
    truth_number false = refl

    compared : (f : ℤ → ℤ → Bool) (x : Value) (o : Outcome Value) → go_on o (λ y s1. Done (truth (f (number_in x) (number_in y))) s1) ≡ go_on o (λ y s1. Done (number (machine.truth (f (number_in x) (number_in y)))) s1)
    compared f x (Done y s1) = ap (λ v. Done v s1) (truth_number (f (number_in x) (number_in y)))
    compared f x (Fault k l) = refl

    -- two values that are numbers, of whatever kinds
    number_pair : (o : Op) (f : ℤ → ℤ → ℤ) (d : Value → Value → Value) (free pc : ℕ) (kept : List Kept) (ws : List Word) (x : Value) (t u : StType) (cr : List Cell) (right : Run Value) (s : State) (m : Memory)
        → IsNumeric t → IsNumeric u → OfKind p F t x → Fair gs s → Now_shown free kept s m → Typed_run right (OfKind p F u) → Stands code now r pc (cr ++ does o line ∷ []) → Right free kept cr right
        → ((y z : ℤ) → d (number y) (number z) ≡ number (f y z))
        → ((at : ℕ) (y z : ℤ) (s1 : State) (m1 : Memory) → act code now o line (cfg at (word.Number z ∷ word.Number y ∷ ws) s1 m1) ≡ Goes (cfg (at + 1) (word.Number (f y z) ∷ ws) s1 m1))
        → From (cfg pc (value_word p base (here_at free) x ∷ ws) s m) (lands (pc + length (cr ++ does o line ∷ [])) (λ v. value_word p base (here_at free) v ∷ ws)) (Shows free kept) (go_on (right line s) (λ y s1. Done (d x y) s1))
    number_pair o f d free pc kept ws x t u cr right s m nt nu is fair sh typed has runs same acts =
        let y = numeric_value p F t x nt is in
        ends_at (pc + length cr + 1) _ (omega (arith, length-append cr (does o line ∷ [])))
        (number_leads (λ x. go_on (right line s) (λ y s1. Done (d x y) s1)) (here_at free) pc ws s m x y.0 y.1
        (bind {m = right} (lands (pc + length cr) (λ v. value_word p base (here_at free) v ∷ (word.Number y.0 ∷ ws))) (Shows free kept)
        (runs pc (word.Number y.0 ∷ ws) s m fair sh (ends.front code now r pc cr _ has)) typed fair
        (λ v s1 m1 sh1 is1 fair1.
        let z = numeric_value p F u v nu is1 in
        number_leads (λ v. Done (d (number y.0) v) s1) (here_at free) (pc + length cr) (word.Number y.0 ∷ ws) s1 m1 v z.0 z.1
        (ends.same_outcome code now (ap (λ v. Done v s1) (same y.0 z.0))
        (push_leads free (pc + length cr) (word.Number z.0 ∷ word.Number y.0 ∷ ws) ws s1 m1 (number (f y.0 z.0)) (ends.back code now r pc cr _ has) sh1 (acts (pc + length cr) y.0 z.0 s1 m1))))))

    -- two references or interface values
    reference_pair : (d : Value → Value → Value) (f : Bool → ℤ) (behind : List Cell) (free pc : ℕ) (kept : List Kept) (ws : List Word) (x : Value) (t u : StType) (cr : List Cell) (right : Run Value) (s : State) (m : Memory)
        → IsHeld t → IsHeld u → OfKind p F t x → Fair gs s → Now_shown free kept s m → Typed_run right (OfKind p F u) → Stands code now r pc (cr ++ does op.Same line ∷ behind) → Right free kept cr right
        → ((o o' : Option Path) → d (reference o) (reference o') ≡ number (f (same_path o o')))
        → ((at : ℕ) (b : Bool) (s1 : State) (m1 : Memory) → Stands code now r at behind → Now_shown free kept s1 m1 → From (cfg at (word.Number (machine.truth b) ∷ ws) s1 m1) (lands (at + length behind) (λ v. value_word p base (here_at free) v ∷ ws)) (Shows free kept) (Done (number (f b)) s1))
        → From (cfg pc (value_word p base (here_at free) x ∷ ws) s m) (lands (pc + length (cr ++ does op.Same line ∷ behind)) (λ v. value_word p base (here_at free) v ∷ ws)) (Shows free kept) (go_on (right line s) (λ y s1. Done (d x y) s1))
    reference_pair d f behind free pc kept ws x t u cr right s m ht hu is fair sh typed has runs same rest =
        let a = path_is p F t x (held_path t ht) is in
        let ia = instances p base is_there now t a.0 a.2 in
        let has_s = ends.back code now r pc cr _ has in
        ends_at (pc + length cr + 1 + length behind) _ (omega (arith, length-append cr (does op.Same line ∷ behind)))
        (subst (λ y. From (cfg pc (value_word p base (here_at free) y ∷ ws) s m) (lands (pc + length cr + 1 + length behind) (λ v. value_word p base (here_at free) v ∷ ws)) (Shows free kept) (go_on (right line s) (λ z s1. Done (d y z) s1))) (sym a.1)
        (bind {m = right} (lands (pc + length cr) (λ v. value_word p base (here_at free) v ∷ (path_word p base a.0 ∷ ws))) (Shows free kept)
        (runs pc (path_word p base a.0 ∷ ws) s m fair sh (ends.front code now r pc cr _ has)) typed fair
        (λ v s1 m1 sh1 is1 fair1.
        let b = path_is p F u v (held_path u hu) is1 in
        let ib = instances p base is_there now u b.0 b.2 in
        subst (λ y. From (cfg (pc + length cr) (value_word p base (here_at free) y ∷ (path_word p base a.0 ∷ ws)) s1 m1) (lands (pc + length cr + 1 + length behind) (λ v. value_word p base (here_at free) v ∷ ws)) (Shows free kept) (Done (d (reference a.0) y) s1)) (sym b.1)
        (ends.same_outcome code now (ap (λ v. Done v s1) (same a.0 b.0))
        (ends.step_leads code now (op.Same, line) has_s.0
        (ends.same_start code now (same_acts (path_word p base a.0) (path_word p base b.0) (no_number p base is_there now a.0 ia) (no_number p base is_there now b.0 ib) (pc + length cr) ws s1 m1
        ∙ ap (λ y. Goes (cfg (pc + length cr + 1) (word.Number (machine.truth y) ∷ ws) s1 m1)) (compared_paths p base is_there now a.0 b.0 ia ib))
        (rest (pc + length cr + 1) (same_path a.0 b.0) s1 m1 has_s.1 sh1)))))))
      where
        same_acts : (w w' : Word) → NoNumber w → NoNumber w' → (at : ℕ) (ws : List Word) (s1 : State) (m1 : Memory) → act code now op.Same line (cfg at (w' ∷ (w ∷ ws)) s1 m1) ≡ Goes (cfg (at + 1) (word.Number (machine.truth (same_reference w w')) ∷ ws) s1 m1)
        same_acts (word.Number z) w' h k at ws s1 m1 = absurd h
        same_acts w (word.Number z) h k at ws s1 m1 = absurd k
        same_acts (word.Address a) (word.Address b) h k at ws s1 m1 = refl
        same_acts (word.Address a) word.Null h k at ws s1 m1 = refl
        same_acts word.Null (word.Address b) h k at ws s1 m1 = refl
        same_acts word.Null word.Null h k at ws s1 m1 = refl

    operated_run : (o : Operator) (free pc : ℕ) (kept : List Kept) (ws : List Word) (x : Value) (t u w : StType) (cr : List Cell) (right : Run Value) (s : State) (m : Memory) → OperationIs p o t u w → OfKind p F t x → Fair gs s → Now_shown free kept s m → Typed_run right (OfKind p F u)
        → Stands code now r pc (operated_code line o t w cr) → Right free kept cr right
        → From (cfg pc (value_word p base (here_at free) x ∷ ws) s m) (lands (pc + length (operated_code line o t w cr)) (λ v. value_word p base (here_at free) v ∷ ws)) (Shows free kept) (operated o w x right line s)
    operated_run operator.Plus free pc kept ws x t u w cr right s m h is fair sh typed has runs =
        two_numbers (op.Add (elem_of w)) (sum (elem_of w)) free pc kept ws x t u h.0 h.1 cr right s m h.3 h.4 is fair sh typed has runs
        (λ at y z s1 m1 fy fz. ap (λ n. Goes (cfg (at + 1) (word.Number n ∷ ws) s1 m1)) (wraps_two t u w h sum y z fy fz))
    operated_run operator.AndThen free pc kept ws x t u w cr right s m h is fair sh typed has runs =
        let y = a_number t elem.Bool x h.0 is in
        number_leads (λ x. operated operator.AndThen w x right line s) (here_at free) pc ws s m x y.0 y.1
        (ends.step_leads code now (op.Dup, line) has.0
        (ends.step_leads code now (op.JumpF (pc + 1 + 1 + suc (length cr)), line) has.1.0 (by y.0)))
      where
        after : Value → State → Memory → Config
        after = lands (pc + length (operated_code line operator.AndThen t w cr)) (λ v. value_word p base (here_at free) v ∷ ws)

        out : ℕ
        out = pc + 1 + 1 + suc (length cr)

        goes : (z : ℤ) → int_eq z (pos 0) ≡ false → Leads code now (act code now (op.JumpF (pc + 1 + 1 + suc (length cr))) line (cfg (pc + 1) (word.Number z ∷ (word.Number z ∷ ws)) s m)) after (Shows free kept) (go_on (right line s) (λ y t. Done y t))
        goes z e =
            ends.same_start code now (ap (λ b. if b then jumps (cfg (pc + 1) (word.Number z ∷ (word.Number z ∷ ws)) s m) (pc + 1 + 1 + suc (length cr)) (word.Number z ∷ ws) else on (cfg (pc + 1) (word.Number z ∷ (word.Number z ∷ ws)) s m) (word.Number z ∷ ws)) e)
            (ends.step_leads code now (op.Drop, line) has.1.1.0
            (ends_at (pc + 1 + 1 + 1 + length cr) _ (omega arith)
            (ends.same_outcome code now (go_on_again (right line s)) (runs (pc + 1 + 1 + 1) ws s m fair sh has.1.1.1))))

        by : (z : ℤ) → Leads code now (act code now (op.JumpF (pc + 1 + 1 + suc (length cr))) line (cfg (pc + 1) (word.Number z ∷ (word.Number z ∷ ws)) s m)) after (Shows free kept) (operated operator.AndThen w (number z) right line s)
        by (pos zero) = ends_at (pc + 1 + 1 + suc (length cr)) _ (omega arith) (ends.stays code now (number (pos 0)) s m sh)
        by (pos (suc n)) = goes (pos (suc n)) (not_zero (pos (suc n)) (λ e. cc))
        by (negsuc n) = goes (negsuc n) (not_zero (negsuc n) (λ e. cc))
    operated_run operator.OrElse free pc kept ws x t u w cr right s m h is fair sh typed has runs =
        let y = a_number t elem.Bool x h.0 is in
        number_leads (λ x. operated operator.OrElse w x right line s) (here_at free) pc ws s m x y.0 y.1
        (ends.step_leads code now (op.Dup, line) has.0
        (ends.step_leads code now (op.JumpF (pc + 1 + 1 + 1), line) has.1.0 (by y.0)))
      where
        after : Value → State → Memory → Config
        after = lands (pc + length (operated_code line operator.OrElse t w cr)) (λ v. value_word p base (here_at free) v ∷ ws)

        decided : (z : ℤ) → int_eq z (pos 0) ≡ false → Leads code now (act code now (op.JumpF (pc + 1 + 1 + 1)) line (cfg (pc + 1) (word.Number z ∷ (word.Number z ∷ ws)) s m)) after (Shows free kept) (Done (number z) s)
        decided z e =
            ends.same_start code now (ap (λ b. if b then jumps (cfg (pc + 1) (word.Number z ∷ (word.Number z ∷ ws)) s m) (pc + 1 + 1 + 1) (word.Number z ∷ ws) else on (cfg (pc + 1) (word.Number z ∷ (word.Number z ∷ ws)) s m) (word.Number z ∷ ws)) e)
            (ends.step_leads code now (op.Jump (pc + 1 + 1 + 1 + suc (length cr)), line) has.1.1.0
            (ends_at (pc + 1 + 1 + 1 + suc (length cr)) _ (omega arith) (ends.stays code now (number z) s m sh)))

        by : (z : ℤ) → Leads code now (act code now (op.JumpF (pc + 1 + 1 + 1)) line (cfg (pc + 1) (word.Number z ∷ (word.Number z ∷ ws)) s m)) after (Shows free kept) (operated operator.OrElse w (number z) right line s)
        by (pos zero) =
            ends.step_leads code now (op.Drop, line) has.1.1.1.0
            (ends_at (pc + 1 + 1 + 1 + 1 + length cr) _ (omega arith)
            (ends.same_outcome code now (go_on_again (right line s)) (runs (pc + 1 + 1 + 1 + 1) ws s m fair sh has.1.1.1.1)))
        by (pos (suc n)) = decided (pos (suc n)) (not_zero (pos (suc n)) (λ e. cc))
        by (negsuc n) = decided (negsuc n) (not_zero (negsuc n) (λ e. cc))
    operated_run operator.Minus free pc kept ws x t u w cr right s m h is fair sh typed has runs =
        two_numbers (op.Sub (elem_of w)) (difference (elem_of w)) free pc kept ws x t u h.0 h.1 cr right s m h.3 h.4 is fair sh typed has runs
        (λ at y z s1 m1 fy fz. ap (λ n. Goes (cfg (at + 1) (word.Number n ∷ ws) s1 m1)) (wraps_two t u w h difference y z fy fz))
    operated_run operator.Times free pc kept ws x t u w cr right s m h is fair sh typed has runs =
        two_numbers (op.Mul (elem_of w)) (product (elem_of w)) free pc kept ws x t u h.0 h.1 cr right s m h.3 h.4 is fair sh typed has runs
        (λ at y z s1 m1 fy fz. ap (λ n. Goes (cfg (at + 1) (word.Number n ∷ ws) s1 m1)) (wraps_two t u w h product y z fy fz))
    operated_run operator.And free pc kept ws x t u w cr right s m h is fair sh typed has runs =
        two_numbers (op.And (elem_of w)) (conjunction (elem_of w)) free pc kept ws x t u h.0 h.1 cr right s m h.3 h.4 is fair sh typed has runs
        (λ at y z s1 m1 fy fz. ap (λ n. Goes (cfg (at + 1) (word.Number n ∷ ws) s1 m1)) (wraps_two t u w h conjunction y z fy fz))
    operated_run operator.Or free pc kept ws x t u w cr right s m h is fair sh typed has runs =
        two_numbers (op.Or (elem_of w)) (disjunction (elem_of w)) free pc kept ws x t u h.0 h.1 cr right s m h.3 h.4 is fair sh typed has runs
        (λ at y z s1 m1 fy fz. ap (λ n. Goes (cfg (at + 1) (word.Number n ∷ ws) s1 m1)) (wraps_two t u w h disjunction y z fy fz))
    operated_run operator.Xor free pc kept ws x t u w cr right s m h is fair sh typed has runs =
        two_numbers (op.Xor (elem_of w)) (exclusive_disjunction (elem_of w)) free pc kept ws x t u h.0 h.1 cr right s m h.3 h.4 is fair sh typed has runs
        (λ at y z s1 m1 fy fz. ap (λ n. Goes (cfg (at + 1) (word.Number n ∷ ws) s1 m1)) (wraps_two t u w h exclusive_disjunction y z fy fz))
    operated_run operator.Divide free pc kept ws x t u w cr right s m h is fair sh typed has runs = divided_run (op.Div (elem_of w)) quotient free pc kept ws x t u w cr right s m h is fair sh typed has runs (λ at y z s1 m1. refl)
    operated_run operator.Modulo free pc kept ws x t u w cr right s m h is fair sh typed has runs = divided_run (op.Mod (elem_of w)) remainder free pc kept ws x t u w cr right s m h is fair sh typed has runs (λ at y z s1 m1. refl)
    operated_run operator.Less free pc kept ws x t u w cr right s m h is fair sh typed has runs =
        ends.same_outcome code now (compared (λ a b. int_lt a b) x (right line s))
        (two_numbers op.Lt (λ a b. machine.truth (int_lt a b)) free pc kept ws x t u h.0.0 h.1.0 cr right s m h.0.1 h.1.1 is fair sh typed has runs (λ at y z s1 m1 fy fz. refl))
    operated_run operator.AtMost free pc kept ws x t u w cr right s m h is fair sh typed has runs =
        ends.same_outcome code now (compared (λ a b. int_le a b) x (right line s))
        (two_numbers op.Le (λ a b. machine.truth (int_le a b)) free pc kept ws x t u h.0.0 h.1.0 cr right s m h.0.1 h.1.1 is fair sh typed has runs (λ at y z s1 m1 fy fz. refl))
    operated_run operator.Greater free pc kept ws x t u w cr right s m h is fair sh typed has runs =
        ends.same_outcome code now (compared (λ a b. int_lt b a) x (right line s))
        (two_numbers op.Gt (λ a b. machine.truth (int_lt b a)) free pc kept ws x t u h.0.0 h.1.0 cr right s m h.0.1 h.1.1 is fair sh typed has runs (λ at y z s1 m1 fy fz. refl))
    operated_run operator.AtLeast free pc kept ws x t u w cr right s m h is fair sh typed has runs =
        ends.same_outcome code now (compared (λ a b. int_le b a) x (right line s))
        (two_numbers op.Ge (λ a b. machine.truth (int_le b a)) free pc kept ws x t u h.0.0 h.1.0 cr right s m h.0.1 h.1.1 is fair sh typed has runs (λ at y z s1 m1 fy fz. refl))
    operated_run operator.Equal free pc kept ws x t u w cr right s m h is fair sh typed has runs = by (is_held t) refl (compared_sort p t u h.0) has
      where
        by : (b : Bool) → is_held t ≡ b → (IsNumeric t × IsNumeric u) ⊎ (IsHeld t × IsHeld u) → Stands code now r pc (cr ++ does (if b then op.Same else op.Eq) line ∷ [])
            → From (cfg pc (value_word p base (here_at free) x ∷ ws) s m) (lands (pc + length (cr ++ does (if b then op.Same else op.Eq) line ∷ [])) (λ v. value_word p base (here_at free) v ∷ ws)) (Shows free kept) (go_on (right line s) (λ y t'. Done (truth (same_value x y)) t'))
        by false e (inl k) has = number_pair op.Eq (λ a b. machine.truth (int_eq a b)) (λ x y. truth (same_value x y)) free pc kept ws x t u cr right s m k.0 k.1 is fair sh typed has runs (λ y z. truth_number (int_eq y z)) (λ at y z s1 m1. refl)
        by false e (inr k) has = absurd (held_no_number t k.0 e)
        by true e (inl k) has = absurd (number_not_held t k.0 e)
        by true e (inr k) has = reference_pair (λ x y. truth (same_value x y)) (λ b. machine.truth b) [] free pc kept ws x t u cr right s m k.0 k.1 is fair sh typed has runs (λ o o'. truth_number (same_path o o'))
            (λ at b s1 m1 has' sh'. ends_at at _ (omega arith) (ends.stays code now (number (machine.truth b)) s1 m1 sh'))
    operated_run operator.Differs free pc kept ws x t u w cr right s m h is fair sh typed has runs = by (is_held t) refl (compared_sort p t u h.0) has
      where
        by : (b : Bool) → is_held t ≡ b → (IsNumeric t × IsNumeric u) ⊎ (IsHeld t × IsHeld u) → Stands code now r pc (cr ++ does (if b then op.Same else op.Ne) line ∷ (if b then does (op.Not elem.Bool) line ∷ [] else []))
            → From (cfg pc (value_word p base (here_at free) x ∷ ws) s m) (lands (pc + length (cr ++ does (if b then op.Same else op.Ne) line ∷ (if b then does (op.Not elem.Bool) line ∷ [] else []))) (λ v. value_word p base (here_at free) v ∷ ws)) (Shows free kept) (go_on (right line s) (λ y t'. Done (truth (not (same_value x y))) t'))
        by false e (inl k) has = number_pair op.Ne (λ a b. machine.truth (not (int_eq a b))) (λ x y. truth (not (same_value x y))) free pc kept ws x t u cr right s m k.0 k.1 is fair sh typed has runs (λ y z. truth_number (not (int_eq y z))) (λ at y z s1 m1. refl)
        by false e (inr k) has = absurd (held_no_number t k.0 e)
        by true e (inl k) has = absurd (number_not_held t k.0 e)
        by true e (inr k) has = reference_pair (λ x y. truth (not (same_value x y))) (λ b. machine.truth (not b)) (does (op.Not elem.Bool) line ∷ []) free pc kept ws x t u cr right s m k.0 k.1 is fair sh typed has runs (λ o o'. truth_number (not (same_path o o')))
            (λ at b s1 m1 has' sh'. ends_at (at + 1) _ (omega arith) (push_leads free at (word.Number (machine.truth b) ∷ ws) ws s1 m1 (number (machine.truth (not b))) has' sh' (ap (λ n. Goes (cfg (at + 1) (word.Number n ∷ ws) s1 m1)) (turned_truth b))))

    pub place_typed : (q : Root Note) (ss : Selectors Note) (t : StType) → RootIs p k0.scope q → AlongIs p k0.scope ss (root_note q).kind → last_kind (root_note q).kind ss ≡ t → AllOf (root_uses q ++ along_uses p (root_note q).kind ss) → Typed_run (placed q (along p (enter p room) ss)) (λ spot. SpotIs p fine F W gs spot t)
    place_typed q ss t h k e u =
        then_obeys p fine F W first first (typing.root_obeys p fine F W first first R (enter p room) reached k0.scope (scopes ks) q h (typing.front _ (root_uses q) _ u)) (λ spot f.
        obeys_less p fine F W first first (typing.along_obeys p fine F W first first R (enter p room) reached k0.scope (scopes ks) ss (root_owner q) (root_note q).kind spot k (typing.back _ (root_uses q) _ u) f) (λ y z. subst (SpotIs p fine F W gs y) e z.0))

    -- a constant, or what is read at a place
    place_value_is : (t : StType) (place : Run Spot) (s : State) → place_value t place line s ≡ go_on (place line s) (λ spot t'. place_value t (gives spot) line t')
    place_value_is (type.Instance c) place s = refl
    place_value_is t place s = refl

    fetched : (t : StType) (free pc : ℕ) (kept : List Kept) (ws : List Word) (place : Run Spot) (cp : List Cell) (s : State) (m : Memory) → free + room_of (bytes_of p) t ≤ k0.long → Fair gs s → Now_shown free kept s m → Stands code now r pc (cp ++ fetch_code plan line free t)
        → (Stands code now r pc cp → From (cfg pc ws s m) (lands (pc + length cp) (λ y. spot_word p base ls y ∷ ws)) (Shows free kept) (place line s)) → Typed_run place (λ spot. SpotIs p fine F W gs spot t)
        → From (cfg pc ws s m) (lands (pc + length (cp ++ fetch_code plan line free t)) (λ v. value_word p base (here_at free) v ∷ ws)) (λ v y x. Valued t free kept v y x) (place_value t place line s)
    fetched t free pc kept ws place cp s m top fair sh has runs typed =
        let cf = fetch_code plan line free t in
        ends_at (pc + length cp + length cf) _ (omega (arith, length-append cp cf))
        (ends.same_outcome code now (place_value_is t place s)
        (bind {m = place} (lands (pc + length cp) (λ y. spot_word p base ls y ∷ ws)) (Shows free kept) (runs (ends.front code now r pc cp _ has)) typed fair
        (λ spot t' x i is fair'. fetch_run t free (pc + length cp) kept ws spot t' x top fair' is i (ends.back code now r pc cp _ has))))

    -- a constant or an enumerator, or what is read at a place
    name_run : {P : Type 0} (x : Target) (t : StType) (free pc : ℕ) (kept : List Kept) (ws : List Word) (place : Run Spot) (cp : List Cell) (s : State) (m : Memory) → free + room_of (bytes_of p) t ≤ k0.long → NamedIs p x t P → Fair gs s → Now_shown free kept s m
        → Stands code now r pc (named_value_code line x t (cp ++ fetch_code plan line free t))
        → (P → Stands code now r pc cp → From (cfg pc ws s m) (lands (pc + length cp) (λ y. spot_word p base ls y ∷ ws)) (Shows free kept) (place line s)) → (P → Typed_run place (λ spot. SpotIs p fine F W gs spot t))
        → From (cfg pc ws s m) (lands (pc + length (named_value_code line x t (cp ++ fetch_code plan line free t))) (λ v. value_word p base (here_at free) v ∷ ws)) (λ v y x. Valued t free kept v y x) (name_value x t place line s)
    name_run (target.Constant z) t free pc kept ws place cp s m top h fair sh has runs typed = ends_at (pc + 1) _ (omega arith) (push_leads {shown = λ v y x. Valued t free kept v y x} free pc ws ws s m (number z) has (plain_valued t free kept (number z) s m (number_small p t z h) sh) refl)
    name_run (target.Enumerator k) t free pc kept ws place cp s m top h fair sh has runs typed = ends_at (pc + 1) _ (omega arith) (push_leads {shown = λ v y x. Valued t free kept v y x} free pc ws ws s m (number (pos k)) has (plain_valued t free kept (number (pos k)) s m (number_small p t (pos k) h) sh) refl)
    name_run x t free pc kept ws place cp s m top h fair sh has runs typed = fetched t free pc kept ws place cp s m top fair sh has (runs h) (typed h)

    -- the way along the selectors, from where the root leads
    abbrev AlongRuns : Selectors Note → ℕ → ℕ → List Kept → List Word → Option Owner → StType → Type 0
    AlongRuns ss free pc kept ws o t =
        (spot : Spot) (s : State) (m : Memory) → AlongIs p k0.scope ss t → AllOf (along_uses p t ss) → Found o t spot → Fair gs s → Now_shown free kept s m → Stands code now r pc (ac free ss t)
        → From (cfg pc (spot_word p base ls spot ∷ ws) s m) (lands (pc + length (ac free ss t)) (λ x. spot_word p base ls x ∷ ws)) (Shows free kept) (along p (enter p room) ss t spot line s)

    place_by : (q : Root Note) (ss : Selectors Note) (free pc : ℕ) (kept : List Kept) (ws : List Word) (s : State) (m : Memory) → RootIs p k0.scope q → AlongIs p k0.scope ss (root_note q).kind → AllOf (root_uses q ++ along_uses p (root_note q).kind ss) → Fair gs s → Now_shown free kept s m
        → Stands code now r pc (rc q ++ ac free ss (root_note q).kind) → AlongRuns ss free (pc + length (rc q)) kept ws (root_owner q) (root_note q).kind
        → From (cfg pc ws s m) (lands (pc + length (rc q ++ ac free ss (root_note q).kind)) (λ y. spot_word p base ls y ∷ ws)) (Shows free kept) (placed q (along p (enter p room) ss) line s)
    place_by q ss free pc kept ws s m h k u fair sh has runs =
        let cr = rc q in
        let cs = ac free ss (root_note q).kind in
        ends_at (pc + length cr + length cs) _ (omega (arith, length-append cr cs))
        (bind {m = root_spot q} (lands (pc + length cr) (λ y. spot_word p base ls y ∷ ws)) (Shows free kept)
        (root_run q free pc kept ws s m h fair sh (ends.front code now r pc cr _ has))
        (typing.root_obeys p fine F W first first R (enter p room) reached k0.scope (scopes ks) q h (typing.front _ (root_uses q) _ u)) fair
        (λ spot t x i is fair'. runs spot t x k (typing.back _ (root_uses q) _ u) is fair' i (ends.back code now r pc cr _ has)))

    -- ---- the block of a call: a word goes to its parameter

    -- a number that is given: kept in the eight bytes of its parameter
    pub record BlockWritten (k : Open) (block : ℕ) (bytes : List ℕ) (rest : List Kept) (at : ℕ) (z : ℤ) (s : State) (m : Memory) : Type 0 where
      pub left : List ℕ
      pub long : length left ≡ length bytes
      pub word_there : Holds elem.Ulint z left at
      pub others : (j n : ℕ) → AreApart at 8 j n → j + n ≤ length bytes → slice_range left j (j + n) ≡ slice_range bytes j (j + n)
      pub shown : Shown p base is_there now (with_block p base k block left rest ∷ ks) m s

    block_written : (k : Open) (block : ℕ) (bytes : List ℕ) (rest : List Kept) (at : ℕ) (z : ℤ) (s : State) (m : Memory) → Shown p base is_there now (with_block p base k block bytes rest ∷ ks) m s → at + 8 ≤ length bytes → Fits elem.Ulint z
        → (m' : Memory) × (write_bytes elem.Ulint m (here_at (block + at)) z ≡ Goes m') × BlockWritten k block bytes rest at z s m'
    block_written k block bytes rest at z s m sh h f =
        let b = block_there p base k ks s.frames m.locals block bytes rest sh.frames in
        let image = b.0 in
        let image' = written elem.Ulint image (block + at) z in
        let within_b = b.2 in
        let fit : block + at + 8 ≤ length image = omega (arith, h, within_b) in
        let keeps = keeps_written elem.Ulint z image (block + at) fit in
        let long = length-written elem.Ulint z image (block + at) fit in
        let left = slice_range image' block (block + length bytes) in
        let long' : length left ≡ length bytes = length-range image' block (length bytes) (omega (arith, long, within_b)) in
        let stands = holds_written elem.Ulint z image (block + at) f fit in (
          record m { locals = slice_set m.locals (base + length ks) image' },
          ap (λ x. x >>=step λ i. Goes (with_image Locals m (base + length ks) (written elem.Ulint i (block + at) z))) (local_there m (base + length ks) (block + at) 8 image b.1 fit),
          record {
            left = left;
            long = long';
            word_there = record { fits = f; stands = range_of_range image' block (length bytes) at 8 h ∙ stands.stands };
            others = λ j n apart l. range_of_range image' block (length bytes) j n l ∙ (keeps.by (block + j) n (moved_apart at j n block apart) ∙ (sym (range_of_range image block (length bytes) j n l) ∙ ap (λ x. slice_range x j (j + n)) b.3));
            shown = record { regions = sh.regions; frames = block_put p base k ks s.frames m.locals block bytes rest image image' at 8 sh.frames b.1 long keeps h; deep = length_set m.locals (base + length ks) image' ∙ sh.deep; moment = sh.moment };
          },
        )
      where
        moved_apart : (at j n block : ℕ) → AreApart at 8 j n → AreApart (block + at) 8 (block + j) n
        moved_apart at j n block h = ⊎_elim (λ l. inl (omega (arith, l))) (λ l. inr (omega (arith, l))) h

    pub give_run : (k : Open) (block : ℕ) (bytes : List ℕ) (rest : List Kept) (at pc : ℕ) (z : ℤ) (ws : List Word) (s : State) (m : Memory) (ps : List Parameter) → Shown p base is_there now (with_block p base k block bytes rest ∷ ks) m s → at + 8 ≤ length bytes
        → Stands code now r pc (does (op.Local (block + at)) line ∷ (does (op.Store elem.Ulint) line ∷ []))
        → From (cfg pc (word.Number z ∷ ws) s m) (λ (_ : Unit {0}) t y. cfg (pc + 1 + 1) ws t y) (λ _ t y. BlockWritten k block bytes rest at (wrapped elem.Ulint z) t y) (Done tt s)
    give_run k block bytes rest at pc z ws s m ps sh h has =
        let w = block_written k block bytes rest at (wrapped elem.Ulint z) s m sh h (wraps_fit elem.Ulint z) in
        ends.step_leads code now (op.Local (block + at), line) has.0
        (subst (λ i. From (cfg (pc + 1) (word.Address (record { space = Locals; index = i; offset = block + at }) ∷ (word.Number z ∷ ws)) s m) (λ (_ : Unit {0}) t y. cfg (pc + 1 + 1) ws t y) (λ _ t y. BlockWritten k block bytes rest at (wrapped elem.Ulint z) t y) (Done tt s)) (sym (let d : length m.locals ≡ base + length (k ∷ ks) = sh.deep in omega (arith, d)))
        (ends.step_leads code now (op.Store elem.Ulint, line) has.1.0
        (ends.goes_leads code now (write_bytes elem.Ulint m (here_at (block + at)) (wrapped elem.Ulint z)) w.0 _ w.1
        (ends.stays code now tt s w.0 w.2))))

    -- f(..), where the arguments, the mask, the outputs and what the result becomes are known to run

    -- ---- arguments

    -- the numbers of the parameters to which it is given
    abbrev pub AtNumbers : (x : Routine) (block low : ℕ) (ps : List Parameter) (bytes : List ℕ) (gs : List Given) → ArePassed p base ls x (here_at block) low ps bytes gs → List ℕ → Type 0
    AtNumbers x block low ps bytes [] h [] = Unit {0}
    AtNumbers x block low ps bytes (g ∷ gs) h (n ∷ ns) = (h.0.number ≡ n) × AtNumbers x block low ps bytes gs h.1 ns
    AtNumbers x block low ps bytes _ h _ = ⊥

    -- the block with what was given so far; the words of other parameters are as before, and so is what stands behind it
    pub record Passes (x : Routine) (ps : List Parameter) (free block : ℕ) (rest : List Kept) (before : List ℕ) (numbers : List ℕ) (given : List Given) (s : State) (m : Memory) : Type 0 where
      pub bytes : List ℕ
      pub long : block + length bytes ≡ free
      pub longer : length before ≤ length bytes
      pub passed : ArePassed p base ls x (here_at block) (block_size (length ps)) ps bytes given
      pub numbered : AtNumbers x block (block_size (length ps)) ps bytes given passed numbers
      pub others : (j : ℕ) → j < length ps → (IsIn numbers j → ⊥) → slice_range bytes (of_parameter j) (of_parameter j + 8) ≡ slice_range before (of_parameter j) (of_parameter j + 8)
      pub same_own : slice_range bytes of_own (of_own + 8) ≡ slice_range before of_own (of_own + 8)
      pub behind : (j n : ℕ) → block_size (length ps) ≤ j → j + n ≤ length before → slice_range bytes j (j + n) ≡ slice_range before j (j + n)
      pub shown : Shown p base is_there now (with_block p base (record k0 { free = free }) block bytes rest ∷ ks) m s

    -- one argument
    pub record PassesOne (x : Routine) (ps : List Parameter) (free block : ℕ) (rest : List Kept) (before : List ℕ) (number_is : ℕ) (g : Given) (s : State) (m : Memory) : Type 0 where
      pub bytes : List ℕ
      pub long : block + length bytes ≡ free
      pub longer : length before ≤ length bytes
      pub passed : IsPassed p base ls x (here_at block) (block_size (length ps)) ps bytes g
      pub at : passed.number ≡ number_is
      pub others : (j : ℕ) → j < length ps → (number_is ≡ j → ⊥) → slice_range bytes (of_parameter j) (of_parameter j + 8) ≡ slice_range before (of_parameter j) (of_parameter j + 8)
      pub same_own : slice_range bytes of_own (of_own + 8) ≡ slice_range before of_own (of_own + 8)
      pub behind : (j n : ℕ) → block_size (length ps) ≤ j → j + n ≤ length before → slice_range bytes j (j + n) ≡ slice_range before j (j + n)
      pub shown : Shown p base is_there now (with_block p base (record k0 { free = free }) block bytes rest ∷ ks) m s

    -- what stands behind the block stays
    pub large_stays : (start : Address) (low : ℕ) (before after : List ℕ) (a : Address) (t : StType) (v : Value) → length before ≤ length after → ((j n : ℕ) → low ≤ j → j + n ≤ length before → slice_range after j (j + n) ≡ slice_range before j (j + n)) → LargeGiven p base start low before a t v → LargeGiven p base start low after a t v
    large_stays start low before after a t v longer behind h = record {
      at = h.at;
      above = h.above;
      shape = h.shape;
      has_shape = h.has_shape;
      inside = (let l = h.inside in omega (arith, l, longer));
      address_is = h.address_is;
      spells = subst (λ bs. Spells (region_shape p) h.shape v bs 0) (sym (behind h.at (store.size h.shape) h.above h.inside)) h.spells;
    }

    -- what stands in the eight bytes of a parameter stays where only others are written
    abbrev pub still_passed : (x : Routine) (block low : ℕ) (ps : List Parameter) (before after : List ℕ) (g : Given) (h : IsPassed p base ls x (here_at block) low ps before g) → slice_range after (of_parameter h.number) (of_parameter h.number + 8) ≡ slice_range before (of_parameter h.number) (of_parameter h.number + 8) → length before ≤ length after
        → ((j n : ℕ) → low ≤ j → j + n ≤ length before → slice_range after j (j + n) ≡ slice_range before j (j + n)) → IsPassed p base ls x (here_at block) low ps after g
    still_passed x block low ps before after g h e longer behind = record {
      number = h.number;
      parameter = h.parameter;
      large_at = h.large_at;
      there = h.there;
      to = h.to;
      inside = (let l = h.inside in omega (arith, l, longer));
      word_kept = record { z = h.word_kept.z; is = h.word_kept.is; holds_it = record { fits = h.word_kept.holds_it.fits; stands = e ∙ h.word_kept.holds_it.stands } };
      large = λ v u i j k. large_stays (here_at block) low before after h.large_at u.kind v longer behind (h.large v u i j k);
    }

    its_word : (to : Recipient) (a : Address) (v : Value) (bytes : List ℕ) (i : ℕ) → Keeps (value_word p base a v) bytes i → Keeps (given_word p base ls a (given_value to v)) bytes i
    its_word (to_local n) a v bytes i h = h
    its_word (to_variable k) a v bytes i h = h

    -- ---- a word goes to its parameter: a number, a reference, or the address of a place

    pub give_reference : (k : Open) (block : ℕ) (bytes : List ℕ) (rest : List Kept) (at pc : ℕ) (w : Word) (z : ℤ) (ws : List Word) (s : State) (m : Memory) → machine.reference (w ∷ ws) ≡ Goes (w, ws) → kept_word w ≡ Goes z → Fits elem.Ulint z → Shown p base is_there now (with_block p base k block bytes rest ∷ ks) m s → at + 8 ≤ length bytes
        → Stands code now r pc (does (op.Local (block + at)) line ∷ (does op.StoreRef line ∷ []))
        → From (cfg pc (w ∷ ws) s m) (λ (_ : Unit {0}) t y. cfg (pc + 1 + 1) ws t y) (λ _ t y. BlockWritten k block bytes rest at z t y) (Done tt s)
    give_reference k block bytes rest at pc w z ws s m refers keeps fits sh h has =
        let x = block_written k block bytes rest at z s m sh h fits in
        ends.step_leads code now (op.Local (block + at), line) has.0
        (subst (λ i. From (cfg (pc + 1) (word.Address (record { space = Locals; index = i; offset = block + at }) ∷ (w ∷ ws)) s m) (λ (_ : Unit {0}) t y. cfg (pc + 1 + 1) ws t y) (λ _ t y. BlockWritten k block bytes rest at z t y) (Done tt s)) (sym (let d : length m.locals ≡ base + length (k ∷ ks) = sh.deep in omega (arith, d)))
        (ends.step_leads code now (op.StoreRef, line) has.1.0
        (ends.goes_leads code now (machine.reference (w ∷ ws)) (w, ws) _ refers
        (ends.goes_leads code now (kept_word w) z _ keeps
        (ends.goes_leads code now (write_bytes elem.Ulint m (here_at (block + at)) z) x.0 _ x.1
        (ends.stays code now tt s x.0 x.2))))))

    pub one_passed : (x : Routine) (q : Parameter) (n : ℕ) (ps : List Parameter) (free block : ℕ) (rest : List Kept) (bytes : List ℕ) (pc : ℕ) (ws : List Word) (t : State) (y : Memory) (g : Given) (w : Word) (z : ℤ) → slice_get ps n ≡ Some q → block + length bytes ≡ free → block_size (length ps) ≤ length bytes → q.to ≡ recipient g → kept_word (given_word p base ls (here_at free) g) ≡ Goes z
        → ((v : Value) (u : Variable) → value_given g ≡ Some v → recipient_variable p x (recipient g) ≡ Some u → is_large u.kind ≡ true → ⊥)
        → From (cfg pc (w ∷ ws) t y) (λ (_ : Unit {0}) t y. cfg (pc + 1 + 1) ws t y) (λ _ t y. BlockWritten (record k0 { free = free }) block bytes rest (of_parameter n) z t y) (Done tt t)
        → From (cfg pc (w ∷ ws) t y) (λ _ t y. cfg (pc + 1 + 1) ws t y) (PassesOne x ps free block rest bytes n) (Done g t)
    one_passed x q n ps free block rest bytes pc ws t y g w z e long big to keeps none h =
        let within_ps = slice_get_within ps n q e in
        ends.and_then code now (λ _ t y. cfg (pc + 1 + 1) ws t y) (λ _ t y. BlockWritten (record k0 { free = free }) block bytes rest (of_parameter n) z t y) h
        (λ y2 b.
        let same = b.long in
        ends.stays code now g t y2 (record {
          bytes = b.left;
          long = ap (λ l. block + l) b.long ∙ long;
          longer = omega (arith, same);
          passed = record { number = n; parameter = q; large_at = here_at free; there = e; to = to; inside = omega (arith, within_ps, big, same); word_kept = record { z = z; is = keeps; holds_it = b.word_there }; large = λ v u i j k. absurd (none v u i j k) };
          at = refl;
          others = λ j l d. b.others (of_parameter j) 8 (eights_apart n j d) (omega (arith, big, l));
          same_own = b.others of_own 8 (inr (omega arith)) (omega (arith, big));
          behind = λ j k a l. b.others j k (inl (omega (arith, within_ps, a))) l;
          shown = b.shown;
        }))

    -- a value that a word holds
    pub record Passable (t : StType) (v : Value) : Type 0 where
      pub z : ℤ
      pub keeps : kept_word (value_word p base (here_at 0) v) ≡ Goes z
      pub fits : Fits elem.Ulint z
      pub is_word : (free : ℕ) → value_word p base (here_at free) v ≡ value_word p base (here_at 0) v
      pub which : ((n : ℤ) × (v ≡ number n) × (is_held t ≡ false) × (z ≡ wrapped elem.Ulint n)) ⊎ ((o : Option Path) × (v ≡ reference o) × (is_held t ≡ true))

    number_passable : (t : StType) (v : Value) (n : ℤ) → v ≡ number n → is_held t ≡ false → Passable t v
    number_passable t v n e h = subst (Passable t) (sym e) (record { z = wrapped elem.Ulint n; keeps = refl; fits = wraps_fit elem.Ulint n; is_word = λ free. refl; which = inl (n, refl, h, refl) })

    path_passable : (t : StType) (v : Value) (o : Option Path) → v ≡ reference o → is_held t ≡ true → ((q : Path) → o ≡ Some q → (c : ℕ) × (name : List ℕ) × (fs : Fields) × (path_shape p q ≡ Some (Instance c name fs))) → Passable t v
    path_passable t v o e h g = subst (Passable t) (sym e) (by o g)
      where
        by : (o : Option Path) → ((q : Path) → o ≡ Some q → (c : ℕ) × (name : List ℕ) × (fs : Fields) × (path_shape p q ≡ Some (Instance c name fs))) → Passable t (reference o)
        by None g = record { z = pos 0; keeps = refl; fits = (omega (arith, ints), omega (arith, ints)); is_word = λ free. refl; which = inr (None, refl, h) }
        by (Some q) g =
            let n = g q refl in
            let l = held_there p base small q n.0 n.1 n.2 n.3 in
            record { z = pos (kept_number p base l.0.address); keeps = ap (λ o. kept_word (word_at p base o)) l.1 ∙ l.2.keeps; fits = l.2.fits; is_word = λ free. refl; which = inr (Some q, refl, h) }

    pub names_of_path : (t : StType) (o : Option Path) → Held p t o → (q : Path) → o ≡ Some q → (c : ℕ) × (name : List ℕ) × (fs : Fields) × (path_shape p q ≡ Some (Instance c name fs))
    names_of_path t None h q e = absurd (none_some q e)
    names_of_path t (Some r) h q e = let d : r ≡ q = cc in (h.class, h.name, h.fields, ap (path_shape p) (sym d) ∙ h.there)

    near_path : (c : ℕ) (o : Option Path) → Near p F c o → (q : Path) → o ≡ Some q → (k : ℕ) × (name : List ℕ) × (fs : Fields) × (path_shape p q ≡ Some (Instance k name fs))
    near_path c None h q e = absurd (none_some q e)
    near_path c (Some r) h q e = let d : r ≡ q = cc in (h.0.class, h.0.name, h.0.fields, ap (path_shape p) (sym d) ∙ h.0.there)

    an_enumerator : (name : List ℕ) (values : List (List ℕ)) (v : Value) → Fit p (Enumeration name values) v → (z : ℤ) × (v ≡ number z)
    an_enumerator name values (number z) h = (z, refl)
    an_enumerator name values (reference o) h = absurd h
    an_enumerator name values (array l vs) h = absurd h
    an_enumerator name values (structure m ms) h = absurd h
    an_enumerator name values (instance m ms) h = absurd h

    passable : (t : StType) (v : Value) → is_large t ≡ false → OfKind p F t v → Passable t v
    passable (type.Elementary e) v l h = let z = a_number (type.Elementary e) e v refl h in number_passable (type.Elementary e) v z.0 z.1 refl
    passable (type.Enumeration n) v l h =
        let o = opened p (type.Enumeration n) (StType-F.Enumeration n) h.0 (type.outs-Enumeration n) h.1 in
        let z = an_enumerator o.0 o.1 v (subst (λ y. Fit p y v) o.2 h.2) in
        number_passable (type.Enumeration n) v z.0 z.1 refl
    passable (type.Reference c) v l h = path_passable (type.Reference c) v h.0 h.1 refl (names_of_path (type.Reference c) h.0 h.2)
    passable (type.Interface i) v l h = path_passable (type.Interface i) v h.0 h.1 refl (names_of_path (type.Interface i) h.0 h.2)
    passable (type.Instance c) v l h = path_passable (type.Instance c) v h.0 h.1 refl (near_path c h.0 h.2)
    passable t v l h = cc

    word_refers : (o : Option Path) (a : Address) (ws : List Word) → machine.reference (value_word p base a (reference o) ∷ ws) ≡ Goes (value_word p base a (reference o), ws)
    word_refers None a ws = refl
    word_refers (Some q) a ws = by (located p base [] (in_store q))
      where
        by : (l : Option Located) → machine.reference (word_at p base l ∷ ws) ≡ Goes (word_at p base l, ws)
        by None = refl
        by (Some l) = refl

    large_held : (t : StType) → is_large t ≡ true → is_held t ≡ true
    large_held (type.Elementary e) h = cc
    large_held (type.Enumeration n) h = cc
    large_held t h = refl

    -- what is in use has less than 2 ^ 32 bytes
    free_low : (free : ℕ) (kept : List Kept) (s : State) (m : Memory) → Now_shown free kept s m → free < 4294967296
    free_low free kept s m sh = by s.frames sh.frames
      where
        by : (fs : List Frame) → FramesShown p base (kept_at free kept) fs m.locals → free < 4294967296
        by [] h = absurd h
        by (f ∷ fs) h = let a = h.0.room in let b = h.0.short in omega (arith, a, b)

    -- a value or a place goes to its parameter; what is bound is a local
    passed_run : (q : Parameter) (n : ℕ) (t : StType) (x : Routine) (u : Variable) (ps : List Parameter) (cv cp : List Cell) (value_of : Run Value) (place_of : Run Spot) (free block : ℕ) (rest : List Kept) (bytes : List ℕ) (pc : ℕ) (ws : List Word) (s : State) (m : Memory)
        → slice_get ps n ≡ Some q → recipient_variable p x q.to ≡ Some u → block + length bytes ≡ free → block_size (length ps) ≤ length bytes → Fair gs s → Shown p base is_there now (with_block p base (record k0 { free = free }) block bytes rest ∷ ks) m s → base + length (k0 ∷ ks) ≤ 2147483647
        → (is_in_out q.sort ≡ false → Widens p t u.kind) → (is_in_out q.sort ≡ true → q.to ≡ to_local (number_to q.to))
        → Stands code now r pc (passed_code line (Some q) (block + of_parameter n) t cv cp)
        → (Stands code now r pc cv → From (cfg pc ws s m) (lands (pc + length cv) (λ v. value_word p base (here_at free) v ∷ ws)) (λ v t' y. Valued t free (record { from = block; bytes = bytes } ∷ rest) v t' y) (value_of line s)) → Typed_run value_of (OfKind p F t)
        → (is_in_out q.sort ≡ true → Stands code now r pc cp → From (cfg pc ws s m) (lands (pc + length cp) (λ y. spot_word p base ls y ∷ ws)) (λ _ t y. Shown p base is_there now (with_block p base (record k0 { free = free }) block bytes rest ∷ ks) y t) (place_of line s))
        → (is_in_out q.sort ≡ true → Typed_run place_of (λ spot. SpotIs p fine F W gs spot t))
        → From (cfg pc ws s m) (λ _ z y. cfg (pc + length (passed_code line (Some q) (block + of_parameter n) t cv cp)) ws z y) (PassesOne x ps (free + passed_room plan (Some q) t) block rest bytes n) (passed (Some q) value_of place_of line s)
    passed_run q n t x u ps cv cp value_of place_of free block rest bytes pc ws s m e to_u long big fair sh few widens local has vr typed pr placed_so = by (is_in_out q.sort) refl has
      where
        kept : List Kept
        kept = record { from = block; bytes = bytes } ∷ rest

        at : ℕ
        at = block + of_parameter n

        within_ps : n < length ps
        within_ps = slice_get_within ps n q e

        fit : of_parameter n + 8 ≤ length bytes
        fit = let l = within_ps in omega (arith, l, big)

        code_by : Bool → List Cell
        code_by b = if b then cp ++ (does (op.Local at) line ∷ (does op.StoreRef line ∷ [])) else cv ++ give_code line at t

        run_by : Bool → Run Given
        run_by b = if b then (place_of >>= λ spot. gives (given_place q.to spot)) else (value_of >>= λ v. gives (given_value q.to v))

        -- a word that no value is behind
        small_one : is_large t ≡ false → is_in_out q.sort ≡ false → Stands code now r pc (code_by false) → From (cfg pc ws s m) (λ _ z y. cfg (pc + length (code_by false)) ws z y) (PassesOne x ps free block rest bytes n) (run_by false line s)
        small_one small_t i has =
            let cg = give_code line at t in
            let at_end : pc + length cv + 1 + 1 ≡ pc + length (cv ++ cg) = omega (arith, length-append cv cg) in
            subst (λ j. From (cfg pc ws s m) (λ _ z y. cfg j ws z y) (PassesOne x ps free block rest bytes n) ((value_of >>= λ v. gives (given_value q.to v)) line s)) at_end
            (bind {m = value_of} (lands (pc + length cv) (λ v. value_word p base (here_at free) v ∷ ws)) (λ _ u y. Shown p base is_there now (with_block p base (record k0 { free = free }) block bytes rest ∷ ks) y u) (plainly t free kept small_t (vr (ends.front code now r pc cv _ has))) typed fair
            (λ v u y sh' is fair'. one v u y sh' (passable t v small_t is) (ends.back code now r pc cv cg has)))
          where
            none_large : (v w : Value) (u' : Variable) → value_given (given_value q.to v) ≡ Some w → recipient_variable p x (recipient (given_value q.to v)) ≡ Some u' → is_large u'.kind ≡ true → ⊥
            none_large v w u' a b c =
                let same : u ≡ u' = let d : Some u ≡ Some u' = sym to_u ∙ (ap (recipient_variable p x) (to_recipient q.to v) ∙ b) in cc in
                let big_u : is_large u.kind ≡ true = ap (λ (y : Variable). is_large y.kind) same ∙ c in
                no_both (is_large t) small_t (ap is_large (widens_large p t u.kind (widens i) big_u) ∙ big_u)
              where
                no_both : (b : Bool) → b ≡ false → b ≡ true → ⊥
                no_both b e f = let d : false ≡ true = sym e ∙ f in cc

            one : (v : Value) (u : State) (y : Memory) → Shown p base is_there now (with_block p base (record k0 { free = free }) block bytes rest ∷ ks) y u → Passable t v → Stands code now r (pc + length cv) (give_code line (block + of_parameter n) t)
                → From (cfg (pc + length cv) (value_word p base (here_at free) v ∷ ws) u y) (λ _ t y. cfg (pc + length cv + 1 + 1) ws t y) (PassesOne x ps free block rest bytes n) (Done (given_value q.to v) u)
            one v u y sh' pass has =
                let keeps = ap kept_word (pass.is_word free) ∙ pass.keeps in
                one_passed x q n ps free block rest bytes (pc + length cv) ws u y (given_value q.to v) (value_word p base (here_at free) v) pass.z e long big (to_recipient q.to v) (its_kept q.to v pass.z keeps) (none_large v) (given_so pass.which)
              where
                its_kept : (to : Recipient) (v : Value) (z : ℤ) → kept_word (value_word p base (here_at free) v) ≡ Goes z → kept_word (given_word p base ls (here_at free) (given_value to v)) ≡ Goes z
                its_kept (to_local c) v z h = h
                its_kept (to_variable c) v z h = h

                given_so : ((k : ℤ) × (v ≡ number k) × (is_held t ≡ false) × (pass.z ≡ wrapped elem.Ulint k)) ⊎ ((o : Option Path) × (v ≡ reference o) × (is_held t ≡ true))
                    → From (cfg (pc + length cv) (value_word p base (here_at free) v ∷ ws) u y) (λ (_ : Unit {0}) t y. cfg (pc + length cv + 1 + 1) ws t y) (λ _ t y. BlockWritten (record k0 { free = free }) block bytes rest (of_parameter n) pass.z t y) (Done tt u)
                given_so (inl k) =
                    let has' = subst (λ b. Stands code now r (pc + length cv) (does (op.Local (block + of_parameter n)) line ∷ (does (if b then op.StoreRef else op.Store elem.Ulint) line ∷ []))) k.2 has in
                    subst (λ z. From (cfg (pc + length cv) (value_word p base (here_at free) v ∷ ws) u y) (λ (_ : Unit {0}) t y. cfg (pc + length cv + 1 + 1) ws t y) (λ _ t y. BlockWritten (record k0 { free = free }) block bytes rest (of_parameter n) z t y) (Done tt u)) (sym k.3)
                    (subst (λ v. From (cfg (pc + length cv) (value_word p base (here_at free) v ∷ ws) u y) (λ (_ : Unit {0}) t y. cfg (pc + length cv + 1 + 1) ws t y) (λ _ t y. BlockWritten (record k0 { free = free }) block bytes rest (of_parameter n) (wrapped elem.Ulint k.0) t y) (Done tt u)) (sym k.1)
                    (give_run (record k0 { free = free }) block bytes rest (of_parameter n) (pc + length cv) k.0 ws u y ps sh' fit has'))
                given_so (inr k) =
                    let has' = subst (λ b. Stands code now r (pc + length cv) (does (op.Local (block + of_parameter n)) line ∷ (does (if b then op.StoreRef else op.Store elem.Ulint) line ∷ []))) k.2 has in
                    let keeps = ap kept_word (pass.is_word free) ∙ pass.keeps in
                    give_reference (record k0 { free = free }) block bytes rest (of_parameter n) (pc + length cv) (value_word p base (here_at free) v) pass.z ws u y
                    (subst (λ v. machine.reference (value_word p base (here_at free) v ∷ ws) ≡ Goes (value_word p base (here_at free) v, ws)) (sym k.1) (word_refers k.0 (here_at free) ws)) keeps pass.fits sh' fit has'

        -- a large value stays behind what was given before, and its address is the word
        large_one : is_large t ≡ true → is_in_out q.sort ≡ false → Stands code now r pc (code_by false) → From (cfg pc ws s m) (λ _ z y. cfg (pc + length (code_by false)) ws z y) (PassesOne x ps (free + room_of (bytes_of p) t) block rest bytes n) (run_by false line s)
        large_one large i has =
            let cg = give_code line at t in
            let free' = free + room_of (bytes_of p) t in
            let at_end : pc + length cv + 1 + 1 ≡ pc + length (cv ++ cg) = omega (arith, length-append cv cg) in
            let has_g = subst (λ b. Stands code now r (pc + length cv) (does (op.Local at) line ∷ (does (if b then op.StoreRef else op.Store elem.Ulint) line ∷ []))) (large_held t large) (ends.back code now r pc cv cg has) in
            subst (λ j. From (cfg pc ws s m) (λ _ z y. cfg j ws z y) (PassesOne x ps free' block rest bytes n) ((value_of >>= λ v. gives (given_value q.to v)) line s)) at_end
            (bind {m = value_of} (lands (pc + length cv) (λ v. value_word p base (here_at free) v ∷ ws)) (λ v t' y. LargeKept t free kept v t' y)
            (subst (λ b. From (cfg pc ws s m) (lands (pc + length cv) (λ v. value_word p base (here_at free) v ∷ ws)) (λ v t' y. by_size b (LargeKept t free kept v t' y) (Now_shown free kept t' y)) (value_of line s)) large (vr (ends.front code now r pc cv _ has)))
            typed fair
            (λ v z y k is fair'.
            let un = within_bound p t k.shape k.unfolds in
            let word_is = large_word p fine base (here_at free) t k.shape v k.bytes 0 large un k.spells in
            let room_is : room_of (bytes_of p) t ≡ store.size k.shape = ap (λ b. if b then bytes_of p t else 0) large ∙ ap size_in k.unfolds in
            let long_v = k.long in
            let j = kept_joined p base (record k0 { free = free' }) ks z.frames y.locals block bytes k.bytes rest (subst (λ f. FramesShown p base (record k0 { free = free'; kept = record { from = f; bytes = k.bytes } ∷ kept } ∷ ks) z.frames y.locals) (sym long) k.shown.frames) in
            let long_j = j.long in
            let sh2 : Shown p base is_there now (with_block p base (record k0 { free = free' }) block j.bytes rest ∷ ks) y z = record { regions = k.shown.regions; frames = j.frames; deep = k.shown.deep; moment = k.shown.moment } in
            let low = free_low free' (record { from = free; bytes = k.bytes } ∷ kept) z y k.shown in
            let ka = kept_local p base (base + length ks) free (omega (arith, few)) (omega (arith, low)) in
            let fit_j : of_parameter n + 8 ≤ length j.bytes = (let f = fit in omega (arith, f, long_j)) in
            subst (λ w. From (cfg (pc + length cv) (w ∷ ws) z y) (λ _ t y. cfg (pc + length cv + 1 + 1) ws t y) (PassesOne x ps free' block rest bytes n) (Done (given_value q.to v) z)) (sym word_is)
            (ends.and_then code now (λ _ t y. cfg (pc + length cv + 1 + 1) ws t y) (λ _ t y. BlockWritten (record k0 { free = free' }) block j.bytes rest (of_parameter n) (pos (kept_number p base (here_at free))) t y)
            (give_reference (record k0 { free = free' }) block j.bytes rest (of_parameter n) (pc + length cv) (word.Address (here_at free)) (pos (kept_number p base (here_at free))) ws z y refl ka.keeps ka.fits sh2 fit_j has_g)
            (λ y2 b.
            let same = b.long in
            let inside_ps = within_ps in
            let value_there : slice_range b.left (length bytes) (length bytes + store.size k.shape) ≡ k.bytes =
            b.others (length bytes) (store.size k.shape) (inl (omega (arith, inside_ps, big))) (omega (arith, long_j, long_v)) ∙ (ap (λ n. slice_range j.bytes (length bytes) (length bytes + n)) (sym long_v) ∙ j.back) in
            ends.stays code now (given_value q.to v) z y2 (record {
              bytes = b.left;
              long = omega (arith, same, long_j, long_v, room_is, long);
              longer = omega (arith, same, long_j);
              passed = record {
                number = n;
                parameter = q;
                large_at = here_at free;
                there = e;
                to = to_recipient q.to v;
                inside = omega (arith, fit_j, same);
                word_kept = its_word q.to (here_at free) v b.left (of_parameter n) (record { z = pos (kept_number p base (here_at free)); is = ap kept_word word_is ∙ ka.keeps; holds_it = b.word_there });
                large = λ w u' a c d.
                    let same_u : u ≡ u' = let f : Some u ≡ Some u' = sym to_u ∙ (ap (recipient_variable p x) (to_recipient q.to v) ∙ c) in cc in
                    let kind_is : t ≡ u'.kind = widens_large p t u.kind (widens i) (ap (λ (y : Variable). is_large y.kind) same_u ∙ d) ∙ ap (λ (y : Variable). y.kind) same_u in
                    subst (λ k. LargeGiven p base (here_at block) (block_size (length ps)) b.left (here_at free) k w) kind_is
                    (subst (λ v. LargeGiven p base (here_at block) (block_size (length ps)) b.left (here_at free) t v) (value_once q.to v w a)
                    (record {
                      at = length bytes;
                      above = big;
                      shape = k.shape;
                      has_shape = k.unfolds;
                      inside = omega (arith, same, long_j, long_v);
                      address_is = ap here_at (sym long);
                      spells = subst (λ bs. Spells (region_shape p) k.shape v bs 0) (sym value_there) k.spells;
                    }));
              };
              at = refl;
              others = λ j' l d. b.others (of_parameter j') 8 (eights_apart n j' d) (omega (arith, long_j, big, l)) ∙ j.front (of_parameter j') 8 (omega (arith, big, l));
              same_own = b.others of_own 8 (inr (omega arith)) (omega (arith, long_j, big)) ∙ j.front of_own 8 (omega (arith, big));
              behind = λ j' m a l. b.others j' m (inl (omega (arith, inside_ps, a))) (omega (arith, long_j, l)) ∙ j.front j' m l;
              shown = b.shown;
            })))))

        by : (b : Bool) → is_in_out q.sort ≡ b → Stands code now r pc (code_by b) → From (cfg pc ws s m) (λ _ z y. cfg (pc + length (code_by b)) ws z y) (PassesOne x ps (free + (if b then 0 else room_of (bytes_of p) t)) block rest bytes n) (run_by b line s)
        by true i has =
            let at_end : pc + length cp + 1 + 1 ≡ pc + length (cp ++ (does (op.Local at) line ∷ (does op.StoreRef line ∷ []))) = omega (arith, length-append cp (does (op.Local at) line ∷ (does op.StoreRef line ∷ []))) in
            subst (λ j. From (cfg pc ws s m) (λ _ z y. cfg (pc + length (code_by true)) ws z y) (PassesOne x ps j block rest bytes n) (run_by true line s)) (let z : free ≡ free + 0 = omega arith in z)
            (subst (λ j. From (cfg pc ws s m) (λ _ z y. cfg j ws z y) (PassesOne x ps free block rest bytes n) ((place_of >>= λ spot. gives (given_place q.to spot)) line s)) at_end
            (bind {m = place_of} (lands (pc + length cp) (λ y. spot_word p base ls y ∷ ws)) (λ _ u y. Shown p base is_there now (with_block p base (record k0 { free = free }) block bytes rest ∷ ks) y u) (pr i (ends.front code now r pc cp _ has)) (placed_so i) fair
            (λ spot u y sh' is fair'.
            let l = lies spot t is in
            let k = kept_place p base is_there now (with_block p base (record k0 { free = free }) block bytes rest ∷ ks) spot l.place u y small sh' few l.is in
            let w_is : spot_word p base ls spot ≡ word.Address l.place.address = ap (word_at p base) l.is in
            let keeps : kept_word (spot_word p base ls spot) ≡ Goes (pos (kept_number p base l.place.address)) = ap kept_word w_is ∙ k.keeps in
            spot_leads (pc + length cp) ws u y spot l.place l.is
            (one_passed x q n ps free block rest bytes (pc + length cp) ws u y (given_place q.to spot) (word.Address l.place.address) (pos (kept_number p base l.place.address)) e long big (local i) keeps (λ v u' a c d. no_value v a)
            (give_reference (record k0 { free = free }) block bytes rest (of_parameter n) (pc + length cp) (word.Address l.place.address) (pos (kept_number p base l.place.address)) ws u y refl k.keeps k.fits sh' fit (ends.back code now r pc cp _ has))))))
          where
            no_value : (v : Value) → None ≡ Some v → ⊥
            no_value v e = cc
        by false i has = sized (is_large t) refl
          where
            sized : (b : Bool) → is_large t ≡ b → From (cfg pc ws s m) (λ _ z y. cfg (pc + length (code_by false)) ws z y) (PassesOne x ps (free + room_of (bytes_of p) t) block rest bytes n) (run_by false line s)
            sized true large = large_one large i has
            sized false small_t =
                let none : room_of (bytes_of p) t ≡ 0 = ap (λ b. if b then bytes_of p t else 0) small_t in
                let z : free ≡ free + room_of (bytes_of p) t = omega (arith, none) in
                subst (λ j. From (cfg pc ws s m) (λ _ z y. cfg (pc + length (code_by false)) ws z y) (PassesOne x ps j block rest bytes n) (run_by false line s)) z (small_one small_t i has)

    -- what is no constant and no enumerator is a place
    place_told : {P : Type 0} (x : Target) (t : StType) (q : Type 0) → IsNothing x → NamedIs p x t P → P
    place_told target.Nothing t q i h = h
    place_told x t q i h = absurd i

    -- one argument, with or without a name
    one_argument : (o : Option Parameter) (n : ℕ) (e : Expression Note) (x : Routine) (ps : List Parameter) (cv cp : List Cell) (value_of : Run Value) (place_of : Run Spot) (free block : ℕ) (rest : List Kept) (bytes : List ℕ) (pc : ℕ) (ws : List Word) (s : State) (m : Memory)
        → slice_get ps n ≡ o → Suits p x o e → ((q : Parameter) → o ≡ Some q → ParameterIs p x q) → block + length bytes ≡ free → block_size (length ps) ≤ length bytes → Fair gs s → Shown p base is_there now (with_block p base (record k0 { free = free }) block bytes rest ∷ ks) m s → base + length (k0 ∷ ks) ≤ 2147483647
        → Stands code now r pc (passed_code line o (block + of_parameter n) (kind e) cv cp)
        → (Stands code now r pc cv → From (cfg pc ws s m) (lands (pc + length cv) (λ v. value_word p base (here_at free) v ∷ ws)) (λ v t y. Valued (kind e) free (record { from = block; bytes = bytes } ∷ rest) v t y) (value_of line s)) → Typed_run value_of (OfKind p F (kind e))
        → (IsPlace e → Stands code now r pc cp → From (cfg pc ws s m) (lands (pc + length cp) (λ y. spot_word p base ls y ∷ ws)) (λ _ t y. Shown p base is_there now (with_block p base (record k0 { free = free }) block bytes rest ∷ ks) y t) (place_of line s))
        → (IsPlace e → is_bound o ≡ true → Typed_run place_of (λ spot. SpotIs p fine F W gs spot (kind e)))
        → From (cfg pc ws s m) (λ _ z y. cfg (pc + length (passed_code line o (block + of_parameter n) (kind e) cv cp)) ws z y) (PassesOne x ps (free + passed_room plan o (kind e)) block rest bytes n) (passed o value_of place_of line s)
    one_argument None n e x ps cv cp value_of place_of free block rest bytes pc ws s m there suits is long big fair sh few has vr typed pr placed_so = absurd suits
    one_argument (Some q) n e x ps cv cp value_of place_of free block rest bytes pc ws s m there suits is long big fair sh few has vr typed pr placed_so =
        passed_run q n (kind e) x suits.0 ps cv cp value_of place_of free block rest bytes pc ws s m there suits.1 long big fair sh few suits.3 (λ i. local_of q ((is q refl).3 i)) has vr typed (λ i. pr (suits.2 i).0) (λ i. placed_so (suits.2 i).0 i)

    -- an argument, and then those behind it
    pub argument_then_run : (x : Routine) (n : ℕ) (ps : List Parameter) (cx cr : List Cell) (one : Run Given) (others : Run (List Given)) (numbers : List ℕ) (free end block : ℕ) (rest : List Kept) (bytes : List ℕ) (pc : ℕ) (ws : List Word) (s : State) (m : Memory)
        → block_size (length ps) ≤ length bytes → (IsIn numbers n → ⊥) → Fair gs s → Stands code now r pc (cx ++ cr) → Typed_run one Anything
        → (Stands code now r pc cx → From (cfg pc ws s m) (λ _ z y. cfg (pc + length cx) ws z y) (PassesOne x ps free block rest bytes n) (one line s))
        → ((bytes' : List ℕ) (t : State) (y : Memory) → Fair gs t → Shown p base is_there now (with_block p base (record k0 { free = free }) block bytes' rest ∷ ks) y t → block + length bytes' ≡ free → block_size (length ps) ≤ length bytes' → Stands code now r (pc + length cx) cr
        → From (cfg (pc + length cx) ws t y) (λ _ t y. cfg (pc + length cx + length cr) ws t y) (Passes x ps end block rest bytes' numbers) (others line t))
        → From (cfg pc ws s m) (λ _ t y. cfg (pc + length (cx ++ cr)) ws t y) (Passes x ps end block rest bytes (n ∷ numbers)) ((one >>= λ g. others >>= λ gs. gives (g ∷ gs)) line s)
    argument_then_run x n ps cx cr one others numbers free end block rest bytes pc ws s m big once fair has typed first behind =
        subst (λ k. From (cfg pc ws s m) (λ _ t y. cfg k ws t y) (Passes x ps end block rest bytes (n ∷ numbers)) ((one >>= λ g. others >>= λ gs. gives (g ∷ gs)) line s)) (omega (arith, length-append cx cr))
        (bind {m = one} (λ _ t y. cfg (pc + length cx) ws t y) (PassesOne x ps free block rest bytes n) (first (ends.front code now r pc cx _ has)) typed fair
        (λ g t y one _ fair'.
        let longer_1 = one.longer in
        ends.then_leads code now (λ _ t y. cfg (pc + length cx + length cr) ws t y) (Passes x ps end block rest one.bytes numbers)
        (behind one.bytes t y fair' one.shown one.long (omega (arith, big, longer_1)) (ends.back code now r pc cx _ has))
        (λ given t' y' rest_is _.
        let longer_2 = rest_is.longer in
        ends.stays code now (g ∷ given) t' y' (record {
          bytes = rest_is.bytes;
          long = rest_is.long;
          longer = omega (arith, longer_1, longer_2);
          passed = (still_passed x block (block_size (length ps)) ps one.bytes rest_is.bytes g one.passed (rest_is.others one.passed.number (slice_get_within ps one.passed.number one.passed.parameter one.passed.there) (λ k. once (subst (IsIn numbers) one.at k))) rest_is.longer rest_is.behind, rest_is.passed);
          numbered = (one.at, rest_is.numbered);
          others = λ j b k. rest_is.others j b (λ l. k (inr l)) ∙ one.others j b (λ l. k (inl l));
          same_own = rest_is.same_own ∙ one.same_own;
          behind = λ j m a l. rest_is.behind j m a (omega (arith, l, longer_1)) ∙ one.behind j m a l;
          shown = rest_is.shown;
        }))))

    -- ---- leaves, and what makes one number of another

    -- a word that is pushed
    pushed_run : {o : Op} (t : StType) (free pc : ℕ) (ws : List Word) (s : State) (m : Memory) (v : Value) (kept : List Kept) → is_large t ≡ false → Now_shown free kept s m → Stands code now r pc (does o line ∷ [])
        → act code now o line (cfg pc ws s m) ≡ Goes (cfg (pc + 1) (value_word p base (here_at free) v ∷ ws) s m)
        → From (cfg pc ws s m) (lands (pc + 1) (λ v. value_word p base (here_at free) v ∷ ws)) (λ v y x. Valued t free kept v y x) (Done v s)
    pushed_run t free pc ws s m v kept e sh has acts = push_leads {shown = λ v y x. Valued t free kept v y x} free pc ws ws s m v has (plain_valued t free kept v s m e sh) acts

    -- one number becomes another
    number_run : (o : Op) (f : ℤ → ℤ) (d : Value → Value) (t : StType) (free pc : ℕ) (kept : List Kept) (ws : List Word) (ce : List Cell) (operand_run : Run Value) (s : State) (m : Memory)
        → IsElementary t → Fair gs s → Typed_run operand_run (OfKind p F t) → Stands code now r pc (ce ++ does o line ∷ [])
        → (Stands code now r pc ce → From (cfg pc ws s m) (lands (pc + length ce) (λ v. value_word p base (here_at free) v ∷ ws)) (Shows free kept) (operand_run line s))
        → ((z : ℤ) → d (number z) ≡ number (f z))
        → ((at : ℕ) (z : ℤ) (e : Elem) (s1 : State) (m1 : Memory) → t ≡ type.Elementary e → Fits e z → act code now o line (cfg at (word.Number z ∷ ws) s1 m1) ≡ Goes (cfg (at + 1) (word.Number (f z) ∷ ws) s1 m1))
        → From (cfg pc ws s m) (lands (pc + length (ce ++ does o line ∷ [])) (λ v. value_word p base (here_at free) v ∷ ws)) (Shows free kept) (go_on (operand_run line s) (λ v t'. Done (d v) t'))
    number_run o f d t free pc kept ws ce operand_run s m i fair typed has runs same acts =
        ends_at (pc + length ce + 1) _ (omega (arith, length-append ce (does o line ∷ [])))
        (bind {m = operand_run} (lands (pc + length ce) (λ v. value_word p base (here_at free) v ∷ ws)) (Shows free kept) (runs (ends.front code now r pc ce _ has)) typed fair
        (λ v t' x sh is fair'.
        let z = a_number t i.0 v i.1 is in
        number_leads (λ y. Done (d y) t') (here_at free) (pc + length ce) ws t' x v z.0 z.1
        (ends.same_outcome code now (ap (λ y. Done y t') (same z.0))
        (push_leads free (pc + length ce) (word.Number z.0 ∷ ws) ws t' x (number (f z.0)) (ends.back code now r pc ce _ has) sh (acts (pc + length ce) z.0 i.0 t' x i.1 z.2)))))

    -- what stands behind a `-`: an int makes one literal with it
    negate_run : {P : Type 0} (a : Note) (e : Expression Note) (free pc : ℕ) (kept : List Kept) (ws : List Word) (s : State) (m : Memory) → NegatedIs a e P → (P → (kind e ≡ a.kind) × IsElementary a.kind) → Fair gs s → Now_shown free kept s m → (P → Typed_run (value p (enter p room) e) (OfKind p F (kind e)))
        → Stands code now r pc (negated_code line a e (ec free e))
        → (P → is_large (kind e) ≡ false → Stands code now r pc (ec free e) → From (cfg pc ws s m) (lands (pc + length (ec free e)) (λ v. value_word p base (here_at free) v ∷ ws)) (Shows free kept) (value p (enter p room) e line s))
        → From (cfg pc ws s m) (lands (pc + length (negated_code line a e (ec free e))) (λ v. value_word p base (here_at free) v ∷ ws)) (λ v y x. Valued a.kind free kept v y x) (value p (enter p room) (Negate a e) line s)
    negate_run a (Int b digits) free pc kept ws s m h k fair sh typed has runs =
        let n = difference (elem_of a.kind) (pos 0) (pos (number_of digits)) in
        ends_at (pc + 1) _ (omega arith) (push_leads {shown = λ v y x. Valued a.kind free kept v y x} free pc ws ws s m (number n) has (plain_valued a.kind free kept (number n) s m (ap is_large h.1) sh) refl)
    negate_run a e free pc kept ws s m h k fair sh typed has runs =
        let q = k h in
        let small_a : is_large a.kind ≡ false = ap is_large q.1.1 in
        let small_e : is_large (kind e) ≡ false = ap is_large q.0 ∙ small_a in
        as_valued a.kind free kept small_a
        (number_run (op.Neg (elem_of a.kind)) (λ z. difference (elem_of a.kind) (pos 0) z) (λ v. number (difference (elem_of a.kind) (pos 0) (number_in v))) (kind e) free pc kept ws (ec free e) (value p (enter p room) e) s m (q.1.0, q.0 ∙ q.1.1) fair (typed h) has (runs h small_e) (λ z. refl)
        (λ at z w s1 m1 is fits. ap (λ y. Goes (cfg (at + 1) (word.Number (difference (elem_of a.kind) (pos 0) y) ∷ ws) s1 m1)) (is_wrapped (elem_of a.kind) z (subst (λ y. Fits y z) (sym (ap elem_of (sym q.0 ∙ is))) fits))))

    -- the operand of a conversion in the other type
    convert_run : (e : Expression Note) (xs : Arguments Note) (t : StType) (free pc : ℕ) (kept : List Kept) (ws : List Word) (s : State) (m : Memory) → IsElementary (kind e) → IsElementary t → Fair gs s → Typed_run (value p (enter p room) e) (OfKind p F (kind e))
        → Stands code now r pc (ec free e ++ does (op.Conv (number_kind (kind e)) (elem_of t)) line ∷ [])
        → (Stands code now r pc (ec free e) → From (cfg pc ws s m) (lands (pc + length (ec free e)) (λ v. value_word p base (here_at free) v ∷ ws)) (Shows free kept) (value p (enter p room) e line s))
        → From (cfg pc ws s m) (lands (pc + length (ec free e ++ does (op.Conv (number_kind (kind e)) (elem_of t)) line ∷ [])) (λ v. value_word p base (here_at free) v ∷ ws)) (λ v y x. Valued t free kept v y x) (go_on (value p (enter p room) e line s) (λ v t'. Done (number (converted (elem_of t) (number_in v))) t'))
    convert_run e xs t free pc kept ws s m i j fair typed has runs =
        as_valued t free kept (ap is_large j.1)
        (number_run (op.Conv (number_kind (kind e)) (elem_of t)) (λ z. converted (elem_of t) z) (λ v. number (converted (elem_of t) (number_in v))) (kind e) free pc kept ws (ec free e) (value p (enter p room) e) s m i fair typed has runs (λ z. refl)
        (λ at z w s1 m1 is fits. ap (λ y. Goes (cfg (at + 1) (word.Number (converted (elem_of t) y) ∷ ws) s1 m1)) (is_wrapped (number_kind (kind e)) z (subst (λ y. Fits y z) (sym (ap number_kind is)) fits))))

    -- THIS, an instance at a place, as a reference
    ref_run : (c : ℕ) (free at : ℕ) (kept : List Kept) (ws : List Word) (spot : Spot) (t : State) (x : Memory) → SpotIs p fine F W gs spot (type.Instance c) → Fair gs t → Now_shown free kept t x → From (cfg at (spot_word p base ls spot ∷ ws) t x) (lands at (λ v. value_word p base (here_at free) v ∷ ws)) (Shows free kept) (Done (reference (path_of spot)) t)
    ref_run c free at kept ws (in_store q) t x is fair i = ends.stays code now (reference (Some q)) t x i
    ref_run c free at kept ws (in_frame d n ss) t x is fair i = absurd (none_in_frame p fine F W gs t.frames d n ss c fair.frames is.is)

    -- ---- the target of a call

    -- a method of an interface value is one of the instance that it holds
    instance_run : (t : StType) (free pc : ℕ) (kept : List Kept) (ws : List Word) (spot : Spot) (s : State) (m : Memory) → HasMethods t → SpotIs p fine F W gs spot t → Now_shown free kept s m → Stands code now r pc (instance_code line t)
        → From (cfg pc (spot_word p base ls spot ∷ ws) s m) (lands (pc + length (instance_code line t)) (λ y. spot_word p base ls y ∷ ws)) (Shows free kept) (instance_of t spot line s)
    instance_run (type.Instance c) free pc kept ws spot s m h f sh has = ends_at pc _ (omega arith) (ends.stays code now spot s m sh)
    instance_run (type.Interface i) free pc kept ws spot s m h f sh has = ends_at (pc + 1 + 1) _ (omega arith) (held_runs (type.Interface i) free pc kept ws spot s m tt f sh has)
    instance_run t free pc kept ws spot s m h f sh has = absurd h

    -- the last name of what is called
    last_run : (x : Target) (t u : StType) (free pc : ℕ) (kept : List Kept) (ws : List Word) (spot : Spot) (s : State) (m : Memory) → LastIs p t x u → SpotIs p fine F W gs spot t → Now_shown free kept s m → Stands code now r pc (part_code plan line t x)
        → From (cfg pc (spot_word p base ls spot ∷ ws) s m) (lands (pc + length (part_code plan line t x)) (λ y. spot_word p base ls y ∷ ws)) (Shows free kept) (part_named t spot x line s)
    last_run (target.Method k) t u free pc kept ws spot s m h f sh has = instance_run t free pc kept ws spot s m h f sh has
    last_run x t u free pc kept ws spot s m h f sh has = field_run x t u free pc kept ws spot s m h f sh has

    -- one selector, and what is behind it
    further_by : (x : Selector Note) (ss : Selectors Note) (free pc : ℕ) (kept : List Kept) (ws : List Word) (o : Option Owner) (t : StType) (spot : Spot) (s : State) (m : Memory) → SelectorIs p k0.scope x t → AllOf (along_uses p t (selector_then x ss)) → Found o t spot → Fair gs s
        → Stands code now r pc (ac free (selector_then x ss) t)
        → (AllOf (if is_followed t x then follows t ∷ [] else []) → AllOf (selector_uses p x) → Stands code now r pc (selected_code plan line free x t)
        → From (cfg pc (spot_word p base ls spot ∷ ws) s m) (lands (pc + length (selected_code plan line free x t)) (λ y. spot_word p base ls y ∷ ws)) (Shows free kept) (selected p (enter p room) x t spot line s))
        → ((at : ℕ) (o : Option Owner) (part : Spot) (s1 : State) (m1 : Memory) → AllOf (along_uses p (selector_note x).kind ss) → Found o (selector_note x).kind part → Fair gs s1 → Now_shown free kept s1 m1 → Stands code now r at (ac free ss (selector_note x).kind)
        → From (cfg at (spot_word p base ls part ∷ ws) s1 m1) (lands (at + length (ac free ss (selector_note x).kind)) (λ y. spot_word p base ls y ∷ ws)) (Shows free kept) (along p (enter p room) ss (selector_note x).kind part line s1))
        → From (cfg pc (spot_word p base ls spot ∷ ws) s m) (lands (pc + length (ac free (selector_then x ss) t)) (λ y. spot_word p base ls y ∷ ws)) (Shows free kept) (along p (enter p room) (selector_then x ss) t spot line s)
    further_by x ss free pc kept ws o t spot s m h u f fair has one rest =
        let cx = selected_code plan line free x t in
        let cs = ac free ss (selector_note x).kind in
        let behind = typing.back _ (if is_followed t x then follows t ∷ [] else []) _ u in
        let here = typing.front _ (if is_followed t x then follows t ∷ [] else []) _ u in
        let ux = typing.front _ (selector_uses p x) _ behind in
        ends_at (pc + length cx + length cs) _ (omega (arith, length-append cx cs))
        (bind {m = selected p (enter p room) x t spot} (lands (pc + length cx) (λ y. spot_word p base ls y ∷ ws)) (Shows free kept)
        (one here ux (ends.front code now r pc cx _ has)) (selected_typed x o t spot h here ux f) fair
        (λ part t' y i is fair'. rest (pc + length cx) (if is_followed t x then Some (the_instances t) else o) part t' y (typing.back _ (selector_uses p x) _ behind) is fair' i (ends.back code now r pc cx _ has)))

    -- ---- calls: what the tree hands in, and a conversion

    -- what the tree's calls hand in: the target, and the arguments
    abbrev pub Goal_runs : Root Note → Selectors Note → ℕ → ℕ → List Kept → List Word → State → Memory → Type 0
    Goal_runs q ss free pc kept ws s m = along_top plan free ss ≤ k0.long → RootIs p k0.scope q → CalledAlong p k0.scope ss (root_note q).kind → AllOf (root_uses q ++ along_uses p (root_note q).kind ss) → Fair gs s → Now_shown free kept s m → Stands code now r pc (rc q ++ ac free ss (root_note q).kind)
        → From (cfg pc ws s m) (lands (pc + length (rc q ++ ac free ss (root_note q).kind)) (λ y. spot_word p base ls y ∷ ws)) (Shows free kept) (placed q (along p (enter p room) ss) line s)

    abbrev pub Arguments_run : Arguments Note → Type 0
    Arguments_run xs = (x : Routine) (ps : List Parameter) (free block : ℕ) (rest : List Kept) (bytes : List ℕ) (pc : ℕ) (ws : List Word) (s : State) (m : Memory)
        → arguments_top plan free ps ps xs ≤ k0.long → RoutineIs p x → Each (ParameterIs p x) ps → base + length (k0 ∷ ks) ≤ 2147483647
        → ArgumentsAre p k0.scope x ps ps xs → AllOf (argument_uses p ps ps xs) → Once (argument_numbers 0 ps xs) → Fair gs s → Shown p base is_there now (with_block p base (record k0 { free = free }) block bytes rest ∷ ks) m s → block + length bytes ≡ free → block_size (length ps) ≤ length bytes
        → Stands code now r pc (arguments_code plan line block free ps 0 ps xs)
        → From (cfg pc ws s m) (λ _ t y. cfg (pc + length (arguments_code plan line block free ps 0 ps xs)) ws t y) (Passes x ps (arguments_end plan free ps ps xs) block rest bytes (argument_numbers 0 ps xs)) (arguments p (enter p room) ps ps xs line s)

    -- and the places that take outputs
    abbrev pub Place_runs : Root Note → Selectors Note → Type 0
    Place_runs q ss = (free pc : ℕ) (kept : List Kept) (ws : List Word) (s : State) (m : Memory) → along_top plan free ss ≤ k0.long → RootIs p k0.scope q → AlongIs p k0.scope ss (root_note q).kind → AllOf (root_uses q ++ along_uses p (root_note q).kind ss) → Fair gs s → Now_shown free kept s m → Stands code now r pc (rc q ++ ac free ss (root_note q).kind)
        → From (cfg pc ws s m) (lands (pc + length (rc q ++ ac free ss (root_note q).kind)) (λ y. spot_word p base ls y ∷ ws)) (Shows free kept) (placed q (along p (enter p room) ss) line s)

    abbrev pub Outputs_run : Arguments Note → Type 0
    Outputs_run no_arguments = Unit {0}
    Outputs_run (argument_then (Positional e) xs) = Outputs_run xs
    Outputs_run (argument_then (Input a name e) xs) = Outputs_run xs
    Outputs_run (argument_then (Output a name b q ss) xs) = Place_runs q ss × Outputs_run xs

    -- any call that is no conversion
    abbrev pub Call_runs : Type 0
    Call_runs = (xs : Arguments Note) (a : Note) (q : Root Note) (ss : Selectors Note) (free pc : ℕ) (kept : List Kept) (ws : List Word) (s : State) (m : Memory)
        → is_conversion (callee_of q ss) ≡ false → value_top plan free (Call a q ss xs) ≤ k0.long → ExpressionIs p k0.scope (Call a q ss xs) → AllOf (expression_uses p (Call a q ss xs)) → Fair gs s → Now_shown free kept s m → Stands code now r pc (ec free (Call a q ss xs)) → Goal_runs q ss free pc kept ws s m → Arguments_run xs → Outputs_run xs
        → From (cfg pc ws s m) (lands (pc + length (ec free (Call a q ss xs))) (λ v. value_word p base (here_at free) v ∷ ws)) (λ v y x. Valued a.kind free kept v y x) (value p (enter p room) (Call a q ss xs) line s)

    -- what has no operand is no conversion
    other_call : (other_calls : Call_runs) (xs : Arguments Note) (a : Note) (q : Root Note) (ss : Selectors Note) (free pc : ℕ) (kept : List Kept) (ws : List Word) (s : State) (m : Memory)
        → (OperandIs p k0.scope xs → ⊥) → value_top plan free (Call a q ss xs) ≤ k0.long → ExpressionIs p k0.scope (Call a q ss xs) → AllOf (expression_uses p (Call a q ss xs)) → Fair gs s → Now_shown free kept s m → Stands code now r pc (ec free (Call a q ss xs)) → Goal_runs q ss free pc kept ws s m → Arguments_run xs → Outputs_run xs
        → From (cfg pc ws s m) (lands (pc + length (ec free (Call a q ss xs))) (λ v. value_word p base (here_at free) v ∷ ws)) (λ v y x. Valued a.kind free kept v y x) (value p (enter p room) (Call a q ss xs) line s)
    other_call other_calls xs a q ss free pc kept ws s m no_operand top h u fair sh has goal_runs arguments_runs outputs_runs = by (callee_of q ss) refl
      where
        operand_there : (c : Callee) (O G : Type 0) (whole : StType) (x : Option Called) (P : Routine → Type 0) (V : Type 0) → c ≡ a_conversion → CallIs p k0.scope c O G whole x P V → O
        operand_there c O G whole x P V is h = subst (λ c. CallIs p k0.scope c O G whole x P V) is h

        by : (c : Callee) → callee_of q ss ≡ c → From (cfg pc ws s m) (lands (pc + length (ec free (Call a q ss xs))) (λ v. value_word p base (here_at free) v ∷ ws)) (λ v y x. Valued a.kind free kept v y x) (value p (enter p room) (Call a q ss xs) line s)
        by a_conversion is = absurd (no_operand (operand_there (callee_of q ss) _ _ _ _ _ _ is h.1))
        by c is = other_calls xs a q ss free pc kept ws s m (ap is_conversion is) top h u fair sh has goal_runs arguments_runs outputs_runs

    -- what a conversion is, by its callee
    conversion_code : (c : Callee) (e : Expression Note) (xs : Arguments Note) (t : StType) (cp called : List Cell) (at : ℕ) → c ≡ a_conversion → call_value_code line c (argument_then (Positional e) xs) t cp called at ≡ cp ++ does (op.Conv (number_kind (kind e)) (elem_of t)) line ∷ []
    conversion_code c e xs t cp called at is = ap (λ c. call_value_code line c (argument_then (Positional e) xs) t cp called at) is

    conversion_value : (c : Callee) (t : StType) (operand_value : Run Value) (called : Run Frame) (s : State) → c ≡ a_conversion → call_value_of c t operand_value called line s ≡ go_on (operand_value line s) (λ v t'. Done (number (converted (elem_of t) (number_in v))) t')
    conversion_value c t operand_value called s is = ap (λ c. call_value_of c t operand_value called line s) is

    conversion_top : (c : Callee) (m n k : ℕ) → c ≡ a_conversion → call_top c m n ≤ k → m ≤ k
    conversion_top c m n k is h = subst (λ c. call_top c m n ≤ k) is h

    conversion_operand : (c : Callee) (O G : Type 0) (whole : StType) (x : Option Called) (P : Routine → Type 0) (V : Type 0) → c ≡ a_conversion → CallIs p k0.scope c O G whole x P V → O
    conversion_operand c O G whole x P V is h = subst (λ c. CallIs p k0.scope c O G whole x P V) is h

    positional_call : (e : Expression Note) (xs : Arguments Note) (a : Note) (q : Root Note) (ss : Selectors Note) (free pc : ℕ) (kept : List Kept) (ws : List Word) (s : State) (m : Memory) → Call_runs → value_top plan free (Call a q ss (argument_then (Positional e) xs)) ≤ k0.long → ExpressionIs p k0.scope (Call a q ss (argument_then (Positional e) xs)) → AllOf (expression_uses p (Call a q ss (argument_then (Positional e) xs))) → Fair gs s → Now_shown free kept s m → Stands code now r pc (ec free (Call a q ss (argument_then (Positional e) xs))) → Goal_runs q ss free pc kept ws s m → Arguments_run (argument_then (Positional e) xs) → Outputs_run xs
        → (value_top plan free e ≤ k0.long → ExpressionIs p k0.scope e → AllOf (expression_uses p e) → Stands code now r pc (ec free e) → From (cfg pc ws s m) (lands (pc + length (ec free e)) (λ v. value_word p base (here_at free) v ∷ ws)) (λ v y x. Valued (kind e) free kept v y x) (value p (enter p room) e line s))
        → From (cfg pc ws s m) (lands (pc + length (ec free (Call a q ss (argument_then (Positional e) xs)))) (λ v. value_word p base (here_at free) v ∷ ws)) (λ v y x. Valued a.kind free kept v y x) (value p (enter p room) (Call a q ss (argument_then (Positional e) xs)) line s)
    positional_call e xs a q ss free pc kept ws s m other_calls top h u fair sh has goal_runs arguments_runs outputs_runs runs = by (callee_of q ss) refl
      where
        all : Arguments Note
        all = argument_then (Positional e) xs

        by : (c : Callee) → callee_of q ss ≡ c → From (cfg pc ws s m) (lands (pc + length (ec free (Call a q ss all))) (λ v. value_word p base (here_at free) v ∷ ws)) (λ v y x. Valued a.kind free kept v y x) (value p (enter p room) (Call a q ss all) line s)
        by a_conversion is =
            let ps = called_parameters p (called_of q ss) in
            let cc = ec free e ++ does (op.Conv (number_kind (kind e)) (elem_of a.kind)) line ∷ [] in
            let code_is : ec free (Call a q ss all) ≡ cc = conversion_code (callee_of q ss) e xs a.kind _ _ _ is in
            let operand_is : ExpressionIs p k0.scope e × IsElementary (kind e) = conversion_operand (callee_of q ss) _ _ _ _ _ _ is h.1 in
            let result_is : IsElementary a.kind = subst (λ c. ConversionIs c a.kind) is h.0 in
            let fits : value_top plan free e ≤ k0.long = conversion_top (callee_of q ss) _ _ _ is top in
            let u1 = typing.back _ (call_use (called_of q ss)) _ u in
            let u2 = typing.back _ (owner_uses q ss) _ u1 in
            let u3 = typing.back _ (root_uses q) _ u2 in
            let u4 = typing.back _ (along_uses p (root_note q).kind ss) _ u3 in
            let ue = typing.front _ (expression_uses p e) _ (typing.back _ (bound_uses (is_bound (next_parameter ps)) e) _ u4) in
            subst (λ c. Stands code now r pc c → From (cfg pc ws s m) (lands (pc + length c) (λ v. value_word p base (here_at free) v ∷ ws)) (λ v y x. Valued a.kind free kept v y x) (value p (enter p room) (Call a q ss all) line s)) (sym code_is) (λ has'.
            ends.same_outcome code now (conversion_value (callee_of q ss) a.kind (value p (enter p room) e) _ s is)
            (convert_run e xs a.kind free pc kept ws s m operand_is.1 result_is fair (typing.value_obeys p fine F W first first R (enter p room) reached k0.scope (scopes ks) e operand_is.0 ue) has'
            (λ has1. plainly (kind e) free kept (ap is_large operand_is.1.1) (runs fits operand_is.0 ue has1)))) has
        by c is = other_calls all a q ss free pc kept ws s m (ap is_conversion is) top h u fair sh has goal_runs arguments_runs outputs_runs

    goal_by : (q : Root Note) (ss : Selectors Note) (free pc : ℕ) (kept : List Kept) (ws : List Word) (s : State) (m : Memory) → RootIs p k0.scope q → CalledAlong p k0.scope ss (root_note q).kind → AllOf (root_uses q ++ along_uses p (root_note q).kind ss) → Fair gs s → Now_shown free kept s m
        → Stands code now r pc (rc q ++ ac free ss (root_note q).kind)
        → ((spot : Spot) (t : State) (x : Memory) → Found (root_owner q) (root_note q).kind spot → Fair gs t → Now_shown free kept t x → Stands code now r (pc + length (rc q)) (ac free ss (root_note q).kind)
        → From (cfg (pc + length (rc q)) (spot_word p base ls spot ∷ ws) t x) (lands (pc + length (rc q) + length (ac free ss (root_note q).kind)) (λ x. spot_word p base ls x ∷ ws)) (Shows free kept) (along p (enter p room) ss (root_note q).kind spot line t))
        → From (cfg pc ws s m) (lands (pc + length (rc q ++ ac free ss (root_note q).kind)) (λ y. spot_word p base ls y ∷ ws)) (Shows free kept) (placed q (along p (enter p room) ss) line s)
    goal_by q ss free pc kept ws s m h k u fair sh has runs =
        let cr = rc q in
        let cs = ac free ss (root_note q).kind in
        ends_at (pc + length cr + length cs) _ (omega (arith, length-append cr cs))
        (bind {m = root_spot q} (lands (pc + length cr) (λ y. spot_word p base ls y ∷ ws)) (Shows free kept)
        (root_run q free pc kept ws s m h fair sh (ends.front code now r pc cr _ has))
        (typing.root_obeys p fine F W first first R (enter p room) reached k0.scope (scopes ks) q h (typing.front _ (root_uses q) _ u)) fair
        (λ spot t x i is fair'. runs spot t x is fair' i (ends.back code now r pc cr _ has)))

    module _ (other_calls : Call_runs) where
      mutual
        pub value_runs : (e : Expression Note) (free pc : ℕ) (kept : List Kept) (ws : List Word) (s : State) (m : Memory) → value_top plan free e ≤ k0.long → ExpressionIs p k0.scope e → AllOf (expression_uses p e) → Fair gs s → Now_shown free kept s m → Stands code now r pc (ec free e)
            → From (cfg pc ws s m) (lands (pc + length (ec free e)) (λ v. value_word p base (here_at free) v ∷ ws)) (λ v y x. Valued (kind e) free kept v y x) (value p (enter p room) e line s)
        value_runs (Int a digits) free pc kept ws s m top h u fair sh has = pushed_run a.kind free pc ws s m (number (pos (number_of digits))) kept (ap is_large h.1) sh has refl
        value_runs (Typed a k literal) free pc kept ws s m top h u fair sh has = pushed_run a.kind free pc ws s m (number (literal_value literal)) kept (ap is_large h.0) sh has refl
        value_runs (Time a text) free pc kept ws s m top h u fair sh has = pushed_run a.kind free pc ws s m (number (pos (milliseconds text))) kept (ap is_large h.0) sh has refl
        value_runs (True a) free pc kept ws s m top h u fair sh has = pushed_run a.kind free pc ws s m (number (pos 1)) kept (ap is_large h) sh has refl
        value_runs (False a) free pc kept ws s m top h u fair sh has = pushed_run a.kind free pc ws s m (number (pos 0)) kept (ap is_large h) sh has refl
        value_runs (Null a) free pc kept ws s m top h u fair sh has = pushed_run a.kind free pc ws s m (reference None) kept (held_small a.kind h) sh has refl
        value_runs (Enumerator a t b name) free pc kept ws s m top h u fair sh has = pushed_run a.kind free pc ws s m (number (constant a.target)) kept (number_small p a.kind (constant a.target) h) sh has refl
        value_runs (Now a) free pc kept ws s m top h u fair sh has =
            pushed_run a.kind free pc ws s m (number (pos s.now)) kept (ap is_large h) sh has (ap (λ n. Goes (cfg (pc + 1) (word.Number (pos n) ∷ ws) s m)) (sym sh.moment))
        value_runs (Paren a e) free pc kept ws s m top h u fair sh has = subst (λ t. From (cfg pc ws s m) (lands (pc + length (ec free e)) (λ v. value_word p base (here_at free) v ∷ ws)) (λ v y x. Valued t free kept v y x) (value p (enter p room) e line s)) h.1 (value_runs e free pc kept ws s m top h.0 u fair sh has)
        value_runs (Not a e) free pc kept ws s m top h u fair sh has =
            let small_a : is_large a.kind ≡ false = ap is_large h.2.1 in
            as_valued a.kind free kept small_a
            (number_run (op.Not (elem_of a.kind)) (λ z. complement (elem_of a.kind) z) (λ v. number (complement (elem_of a.kind) (number_in v))) (kind e) free pc kept ws (ec free e) (value p (enter p room) e) s m (h.2.0, h.1 ∙ h.2.1) fair
            (typing.value_obeys p fine F W first first R (enter p room) reached k0.scope (scopes ks) e h.0 u) has
            (λ has'. plainly (kind e) free kept (ap is_large h.1 ∙ small_a) (value_runs e free pc kept ws s m top h.0 u fair sh has')) (λ z. refl)
            (λ at z w s1 m1 is fits. ap (λ y. Goes (cfg (at + 1) (word.Number (complement (elem_of a.kind) y) ∷ ws) s1 m1)) (is_wrapped (elem_of a.kind) z (subst (λ y. Fits y z) (sym (ap elem_of (sym h.1 ∙ is))) fits))))
        value_runs (Negate a e) free pc kept ws s m top h u fair sh has =
            negate_run a e free pc kept ws s m h (λ k. (k.1, k.2)) fair sh (λ k. typing.value_obeys p fine F W first first R (enter p room) reached k0.scope (scopes ks) e k.0 u) has
            (λ k small_e has'. plainly (kind e) free kept small_e (value_runs e free pc kept ws s m top k.0 u fair sh has'))
        value_runs (Chain a e ts) free pc kept ws s m top h u fair sh has =
            let ce = ec free e in
            let ct = chained_code plan line free (kind e) ts in
            let tops = both_fit (value_top plan free e) (tails_top plan free ts) k0.long top in
            ends_at (pc + length ce + length ct) _ (omega (arith, length-append ce ct))
            (bind {m = value p (enter p room) e} (lands (pc + length ce) (λ v. value_word p base (here_at free) v ∷ ws)) (λ v y x. Valued (kind e) free kept v y x)
            (value_runs e free pc kept ws s m tops.0 h.0 (typing.front _ (expression_uses p e) _ u) fair sh (ends.front code now r pc ce _ has))
            (typing.value_obeys p fine F W first first R (enter p room) reached k0.scope (scopes ks) e h.0 (typing.front _ (expression_uses p e) _ u)) fair
            (λ v t x i is fair'. chained_run ts free (pc + length ce) kept ws v (kind e) a.kind t x tops.1 h.1 (typing.back _ (expression_uses p e) _ u) is fair' i (ends.back code now r pc ce _ has)))
        value_runs (Place a q ss) free pc kept ws s m top h u fair sh has =
            let tops = both_fit (along_top plan free ss) (free + room_of (bytes_of p) a.kind) k0.long top in
            name_run a.target a.kind free pc kept ws (placed q (along p (enter p room) ss)) (rc q ++ ac free ss (root_note q).kind) s m tops.1 h fair sh has (λ k has'. place_by q ss free pc kept ws s m k.0 k.1 u fair sh has' (λ spot t x. along_run ss free (pc + length (rc q)) kept ws (root_owner q) (root_note q).kind spot t x tops.0))
            (λ k. place_typed q ss a.kind k.0 k.1 k.2 u)
        value_runs (Ref a q ss) free pc kept ws s m top h u fair sh has =
            as_valued a.kind free kept (ap is_large h.2.2)
            (bind {m = placed q (along p (enter p room) ss)} (lands (pc + length (rc q ++ ac free ss (root_note q).kind)) (λ y. spot_word p base ls y ∷ ws)) (Shows free kept)
            (place_by q ss free pc kept ws s m h.0 h.1 u fair sh has (λ spot t x. along_run ss free (pc + length (rc q)) kept ws (root_owner q) (root_note q).kind spot t x top))
            (place_typed q ss (type.Instance h.2.0) h.0 h.1 h.2.1 u) fair
            (λ spot t x i is fair'. ref_run h.2.0 free (pc + length (rc q ++ ac free ss (root_note q).kind)) kept ws spot t x is fair' i))
        value_runs (Call a q ss xs) free pc kept ws s m top h u fair sh has =
            call_value_run xs a q ss free pc kept ws s m top h u fair sh has
            (λ top' h' k' u' fair' sh' has'. goal_by q ss free pc kept ws s m h' k' u' fair' sh' has' (λ spot t x is fair2 i has2. called_along_run ss free (pc + length (rc q)) kept ws (root_owner q) (root_note q).kind spot t x top' k' (typing.back _ (root_uses q) _ u') is fair2 i has2))
            (λ x ps free' block rest bytes pc' ws' s' m' top' ok each few h' u' once fair' sh' long big has'. arguments_run xs x ps ps 0 free' block rest bytes pc' ws' s' m' top' ok each each (λ j. let z : 0 + j ≡ j = omega arith in ap (slice_get ps) z) few h' u' once fair' sh' long big has')
            (output_places xs)

        -- the places that take outputs
        pub output_places : (xs : Arguments Note) → Outputs_run xs
        output_places no_arguments = tt
        output_places (argument_then (Positional e) xs) = output_places xs
        output_places (argument_then (Input a name e) xs) = output_places xs
        output_places (argument_then (Output a name b q ss) xs) =
            (λ free pc kept ws s m top h k u fair sh has. place_by q ss free pc kept ws s m h k u fair sh has (λ spot t x. along_run ss free (pc + length (rc q)) kept ws (root_owner q) (root_note q).kind spot t x top), output_places xs)

        -- a conversion; any other call belongs to the calls
        call_value_run : (xs : Arguments Note) (a : Note) (q : Root Note) (ss : Selectors Note) (free pc : ℕ) (kept : List Kept) (ws : List Word) (s : State) (m : Memory) → value_top plan free (Call a q ss xs) ≤ k0.long → ExpressionIs p k0.scope (Call a q ss xs) → AllOf (expression_uses p (Call a q ss xs)) → Fair gs s → Now_shown free kept s m → Stands code now r pc (ec free (Call a q ss xs)) → Goal_runs q ss free pc kept ws s m → Arguments_run xs → Outputs_run xs
            → From (cfg pc ws s m) (lands (pc + length (ec free (Call a q ss xs))) (λ v. value_word p base (here_at free) v ∷ ws)) (λ v y x. Valued a.kind free kept v y x) (value p (enter p room) (Call a q ss xs) line s)
        call_value_run (argument_then (Positional e) xs) a q ss free pc kept ws s m top h u fair sh has goal_runs arguments_runs outputs_runs =
            positional_call e xs a q ss free pc kept ws s m other_calls top h u fair sh has goal_runs arguments_runs outputs_runs (λ top' h' u' has'. value_runs e free pc kept ws s m top' h' u' fair sh has')
        call_value_run xs a q ss free pc kept ws s m top h u fair sh has goal_runs arguments_runs outputs_runs = other_call other_calls xs a q ss free pc kept ws s m (λ z. z) top h u fair sh has goal_runs arguments_runs outputs_runs

        chained_run : (ts : Tails Note) (free pc : ℕ) (kept : List Kept) (ws : List Word) (v : Value) (t w : StType) (s : State) (m : Memory) → tails_top plan free ts ≤ k0.long → TailsAre p k0.scope t ts w → AllOf (tail_uses p ts) → OfKind p F t v → Fair gs s → Valued t free kept v s m
            → Stands code now r pc (chained_code plan line free t ts)
            → From (cfg pc (value_word p base (here_at free) v ∷ ws) s m) (lands (pc + length (chained_code plan line free t ts)) (λ v. value_word p base (here_at free) v ∷ ws)) (λ v y x. Valued w free kept v y x) (chained p (enter p room) v ts line s)
        chained_run no_tails free pc kept ws v t w s m top h u is fair sh has =
            subst (λ y. From (cfg pc (value_word p base (here_at free) v ∷ ws) s m) (lands (pc + 0) (λ v. value_word p base (here_at free) v ∷ ws)) (λ v z x. Valued y free kept v z x) (Done v s)) h
            (ends_at pc (pc + 0) (omega arith) (ends.stays code now v s m sh))
        chained_run (tail_then a o e ts) free pc kept ws v t w s m top h u is fair sh has =
            let co = operated_code line o t a.kind (ec free e) in
            let ct = chained_code plan line free a.kind ts in
            let he = typing.front _ (expression_uses p e) _ u in
            let tops = both_fit (value_top plan free e) (tails_top plan free ts) k0.long top in
            let small_words = operation_small p o t (kind e) a.kind h.1 in
            ends_at (pc + length co + length ct) _ (omega (arith, length-append co ct))
            (bind {m = operated o a.kind v (value p (enter p room) e)} (lands (pc + length co) (λ v. value_word p base (here_at free) v ∷ ws)) (λ v y x. Valued a.kind free kept v y x)
            (as_valued a.kind free kept small_words.2
            (operated_run o free pc kept ws v t (kind e) a.kind (ec free e) (value p (enter p room) e) s m h.1 is fair (valued_plain t free kept v s m small_words.0 sh) (typing.value_obeys p fine F W first first R (enter p room) reached k0.scope (scopes ks) e h.0 he) (ends.front code now r pc co _ has)
            (λ at words s1 m1 fair1 sh1 has1. plainly (kind e) free kept small_words.1 (value_runs e free at kept words s1 m1 tops.0 h.0 he fair1 sh1 has1))))
            (operated_typed o t (kind e) a.kind v (value p (enter p room) e) h.1 is (typing.value_obeys p fine F W first first R (enter p room) reached k0.scope (scopes ks) e h.0 he)) fair
            (λ x t' y i is' fair'. chained_run ts free (pc + length co) kept ws x a.kind w t' y tops.1 h.2 (typing.back _ (expression_uses p e) _ u) is' fair' i (ends.back code now r pc co _ has)))

        -- the place that is bound to an in-out
        bound_run : (e : Expression Note) (free pc : ℕ) (kept : List Kept) (ws : List Word) (s : State) (m : Memory) → value_top plan free e ≤ k0.long → IsPlace e → ExpressionIs p k0.scope e → AllOf (expression_uses p e) → Fair gs s → Now_shown free kept s m → Stands code now r pc (bound_code plan line free e)
            → From (cfg pc ws s m) (lands (pc + length (bound_code plan line free e)) (λ y. spot_word p base ls y ∷ ws)) (Shows free kept) (bound_place p (enter p room) e line s)
        bound_run (Place a q ss) free pc kept ws s m top i h u fair sh has =
            let k = place_told a.target a.kind ⊥ i h in
            let tops = both_fit (along_top plan free ss) (free + room_of (bytes_of p) a.kind) k0.long top in
            place_by q ss free pc kept ws s m k.0 k.1 u fair sh has (λ spot t x. along_run ss free (pc + length (rc q)) kept ws (root_owner q) (root_note q).kind spot t x tops.0)
        bound_run e free pc kept ws s m top i h u fair sh has = absurd i

        -- the arguments in written order; no parameter is given twice
        pub arguments_run : (xs : Arguments Note) (x : Routine) (ps left : List Parameter) (i free block : ℕ) (rest : List Kept) (bytes : List ℕ) (pc : ℕ) (ws : List Word) (s : State) (m : Memory)
            → arguments_top plan free ps left xs ≤ k0.long → RoutineIs p x → Each (ParameterIs p x) ps → Each (ParameterIs p x) left → ((j : ℕ) → slice_get ps (i + j) ≡ slice_get left j) → base + length (k0 ∷ ks) ≤ 2147483647
            → ArgumentsAre p k0.scope x ps left xs → AllOf (argument_uses p ps left xs) → Once (argument_numbers i left xs) → Fair gs s → Shown p base is_there now (with_block p base (record k0 { free = free }) block bytes rest ∷ ks) m s → block + length bytes ≡ free → block_size (length ps) ≤ length bytes
            → Stands code now r pc (arguments_code plan line block free ps i left xs)
            → From (cfg pc ws s m) (λ _ t y. cfg (pc + length (arguments_code plan line block free ps i left xs)) ws t y) (Passes x ps (arguments_end plan free ps left xs) block rest bytes (argument_numbers i left xs)) (arguments p (enter p room) ps left xs line s)
        arguments_run no_arguments x ps left i free block rest bytes pc ws s m top ok each each_left at few h u once fair sh long big has =
            subst (λ n. From (cfg pc ws s m) (λ _ t y. cfg n ws t y) (Passes x ps free block rest bytes []) (Done [] s)) (omega arith)
            (ends.stays code now [] s m (record { bytes = bytes; long = long; longer = omega arith; passed = tt; numbered = tt; others = λ j b k. refl; same_own = refl; behind = λ j n a l. refl; shown = sh }))
        arguments_run (argument_then (Output a name b q ss) xs) x ps left i free block rest bytes pc ws s m top ok each each_left at few h u once fair sh long big has =
            arguments_run xs x ps left i free block rest bytes pc ws s m top ok each each_left at few h.3 (typing.back _ (along_uses p (root_note q).kind ss) _ (typing.back _ (root_uses q) _ (typing.back _ (owner_uses q ss) _ u))) once fair sh long big has
        arguments_run (argument_then (Input a name e) xs) x ps left i free block rest bytes pc ws s m top ok each each_left at few h u once fair sh long big has =
            let o = parameter_named ps a in
            let n = parameter_number a.target in
            let tops = both_fit (value_top plan free e) (arguments_top plan (free + passed_room plan o (kind e)) ps left xs) k0.long top in
            let ub = typing.front _ (bound_uses (is_bound o) e) _ u in
            let ue = typing.front _ (expression_uses p e) _ (typing.back _ (bound_uses (is_bound o) e) _ u) in
            let ur = typing.back _ (expression_uses p e) _ (typing.back _ (bound_uses (is_bound o) e) _ u) in
            let each_one : (q : Parameter) → o ≡ Some q → ParameterIs p x q = λ q i. typing.slice_each (ParameterIs p x) ps n q each i in
            let vo = typing.value_obeys p fine F W first first R (enter p room) reached k0.scope (scopes ks) e h.0 ue in
            argument_then_run x n ps (passed_code line o (block + of_parameter n) (kind e) (ec free e) (bound_code plan line free e)) (arguments_code plan line block (free + passed_room plan o (kind e)) ps i left xs)
            (passed o (value p (enter p room) e) (bound_place p (enter p room) e)) (arguments p (enter p room) ps left xs) (argument_numbers i left xs) (free + passed_room plan o (kind e)) (arguments_end plan (free + passed_room plan o (kind e)) ps left xs) block rest bytes pc ws s m
            big once.0 fair has
            (obeys_less p fine F W first first (typing.passed_obeys p fine F W first first R (enter p room) reached k0.scope (scopes ks) x o e (value p (enter p room) e) (bound_place p (enter p room) e) ok each_one h.1 ub vo (λ i w. typing.bound_obeys p fine F W first first R (enter p room) reached k0.scope (scopes ks) e i h.0 w ue)) (λ _ _. tt))
            (λ has'. one_argument o n e x ps (ec free e) (bound_code plan line free e) (value p (enter p room) e) (bound_place p (enter p room) e) free block rest bytes pc ws s m refl h.1 each_one long big fair sh few has'
            (λ has'. value_runs e free pc (record { from = block; bytes = bytes } ∷ rest) ws s m tops.0 h.0 ue fair sh has') vo
            (λ i has'. bound_run e free pc (record { from = block; bytes = bytes } ∷ rest) ws s m tops.0 i h.0 ue fair sh has')
            (λ i is. obeys_less p fine F W first first (typing.bound_obeys p fine F W first first R (enter p room) reached k0.scope (scopes ks) e i h.0 (subst (λ b. AllOf (bound_uses b e)) is ub) ue) (λ spot k. k.0)))
            (λ bytes' t y fair' sh' long' big' has'. arguments_run xs x ps left i (free + passed_room plan o (kind e)) block rest bytes' (pc + length (passed_code line o (block + of_parameter n) (kind e) (ec free e) (bound_code plan line free e))) ws t y tops.1 ok each each_left at few h.2 ur once.1 fair' sh' long' big' has')
        arguments_run (argument_then (Positional e) xs) x ps left i free block rest bytes pc ws s m top ok each each_left at few h u once fair sh long big has =
            let o = next_parameter left in
            let n = next_number i left in
            let tops = both_fit (value_top plan free e) (arguments_top plan (free + passed_room plan o (kind e)) ps (behind_next left) xs) k0.long top in
            let ub = typing.front _ (bound_uses (is_bound o) e) _ u in
            let ue = typing.front _ (expression_uses p e) _ (typing.back _ (bound_uses (is_bound o) e) _ u) in
            let ur = typing.back _ (expression_uses p e) _ (typing.back _ (bound_uses (is_bound o) e) _ u) in
            let each_one : (q : Parameter) → o ≡ Some q → ParameterIs p x q = λ q i. typing.next_each (ParameterIs p x) left q each_left i in
            let vo = typing.value_obeys p fine F W first first R (enter p room) reached k0.scope (scopes ks) e h.0 ue in
            argument_then_run x n ps (passed_code line o (block + of_parameter n) (kind e) (ec free e) (bound_code plan line free e)) (arguments_code plan line block (free + passed_room plan o (kind e)) ps (suc n) (behind_next left) xs)
            (passed o (value p (enter p room) e) (bound_place p (enter p room) e)) (arguments p (enter p room) ps (behind_next left) xs) (argument_numbers (suc n) (behind_next left) xs) (free + passed_room plan o (kind e)) (arguments_end plan (free + passed_room plan o (kind e)) ps (behind_next left) xs) block rest bytes pc ws s m
            big once.0 fair has
            (obeys_less p fine F W first first (typing.passed_obeys p fine F W first first R (enter p room) reached k0.scope (scopes ks) x o e (value p (enter p room) e) (bound_place p (enter p room) e) ok each_one h.1 ub vo (λ i w. typing.bound_obeys p fine F W first first R (enter p room) reached k0.scope (scopes ks) e i h.0 w ue)) (λ _ _. tt))
            (λ has'. one_argument o n e x ps (ec free e) (bound_code plan line free e) (value p (enter p room) e) (bound_place p (enter p room) e) free block rest bytes pc ws s m (next_there ps left i at) h.1 each_one long big fair sh few has'
            (λ has'. value_runs e free pc (record { from = block; bytes = bytes } ∷ rest) ws s m tops.0 h.0 ue fair sh has') vo
            (λ i has'. bound_run e free pc (record { from = block; bytes = bytes } ∷ rest) ws s m tops.0 i h.0 ue fair sh has')
            (λ i is. obeys_less p fine F W first first (typing.bound_obeys p fine F W first first R (enter p room) reached k0.scope (scopes ks) e i h.0 (subst (λ b. AllOf (bound_uses b e)) is ub) ue) (λ spot k. k.0)))
            (λ bytes' t y fair' sh' long' big' has'. arguments_run xs x ps (behind_next left) (suc n) (free + passed_room plan o (kind e)) block rest bytes' (pc + length (passed_code line o (block + of_parameter n) (kind e) (ec free e) (bound_code plan line free e))) ws t y tops.1 ok each (typing.behind_each (ParameterIs p x) left each_left) (behind_there ps left i at) few h.2 ur once.1 fair' sh' long' big' has')

        along_run : (ss : Selectors Note) (free pc : ℕ) (kept : List Kept) (ws : List Word) (o : Option Owner) (t : StType) (spot : Spot) (s : State) (m : Memory) → along_top plan free ss ≤ k0.long → AlongIs p k0.scope ss t → AllOf (along_uses p t ss) → Found o t spot → Fair gs s → Now_shown free kept s m
            → Stands code now r pc (ac free ss t)
            → From (cfg pc (spot_word p base ls spot ∷ ws) s m) (lands (pc + length (ac free ss t)) (λ x. spot_word p base ls x ∷ ws)) (Shows free kept) (along p (enter p room) ss t spot line s)
        along_run no_selectors free pc kept ws o t spot s m top h u f fair sh has = ends_at pc _ (omega arith) (ends.stays code now spot s m sh)
        along_run (selector_then x ss) free pc kept ws o t spot s m top h u f fair sh has =
            let tops = both_fit (selector_top plan free x) (along_top plan free ss) k0.long top in
            let cx = selected_code plan line free x t in
            let cs = ac free ss (selector_note x).kind in
            let rest = typing.back _ (if is_followed t x then follows t ∷ [] else []) _ u in
            let here = typing.front _ (if is_followed t x then follows t ∷ [] else []) _ u in
            ends_at (pc + length cx + length cs) _ (omega (arith, length-append cx cs))
            (bind {m = selected p (enter p room) x t spot} (lands (pc + length cx) (λ y. spot_word p base ls y ∷ ws)) (Shows free kept)
            (selected_run x free pc kept ws o t spot s m tops.0 h.0 here (typing.front _ (selector_uses p x) _ rest) f fair sh (ends.front code now r pc cx _ has))
            (selected_typed x o t spot h.0 here (typing.front _ (selector_uses p x) _ rest) f) fair
            (λ part t' y i is fair'. along_run ss free (pc + length cx) kept ws (if is_followed t x then Some (the_instances t) else o) (selector_note x).kind part t' y tops.1 h.1 (typing.back _ (selector_uses p x) _ rest) is fair' i (ends.back code now r pc cx _ has)))

        -- a place, or one with a method's name behind it
        called_along_run : (ss : Selectors Note) (free pc : ℕ) (kept : List Kept) (ws : List Word) (o : Option Owner) (t : StType) (spot : Spot) (s : State) (m : Memory) → along_top plan free ss ≤ k0.long → CalledAlong p k0.scope ss t → AllOf (along_uses p t ss) → Found o t spot → Fair gs s → Now_shown free kept s m
            → Stands code now r pc (ac free ss t)
            → From (cfg pc (spot_word p base ls spot ∷ ws) s m) (lands (pc + length (ac free ss t)) (λ x. spot_word p base ls x ∷ ws)) (Shows free kept) (along p (enter p room) ss t spot line s)
        called_along_run no_selectors free pc kept ws o t spot s m top h u f fair sh has = ends_at pc _ (omega arith) (ends.stays code now spot s m sh)
        called_along_run (selector_then (Field a name) no_selectors) free pc kept ws o t spot s m top h u f fair sh has =
            let cx = part_code plan line t a.target in
            ends_at (pc + length cx) _ (omega (arith, length-append cx []))
            (ends.same_outcome code now (go_on_again (part_named t spot a.target line s)) (last_run a.target t a.kind free pc kept ws spot s m h f.0 sh (ends.front code now r pc cx [] has)))
        called_along_run (selector_then (Field a name) (selector_then y ys)) free pc kept ws o t spot s m top h u f fair sh has =
            let tops = both_fit free (along_top plan free (selector_then y ys)) k0.long top in
            further_by (Field a name) (selector_then y ys) free pc kept ws o t spot s m h.0 u f fair has (λ n v has'. field_run a.target t a.kind free pc kept ws spot s m h.0 f.0 sh has')
            (λ at o' part s1 m1 u' f' fair' sh' has'. called_along_run (selector_then y ys) free at kept ws o' a.kind part s1 m1 tops.1 h.1 u' f' fair' sh' has')
        called_along_run (selector_then (Index a es) ss) free pc kept ws o t spot s m top h u f fair sh has =
            let tops = both_fit (index_top plan free es) (along_top plan free ss) k0.long top in
            further_by (Index a es) ss free pc kept ws o t spot s m h.0 u f fair has (λ n v has'. indexed_run es free pc kept ws o t a.kind spot s m tops.0 h.0 v f fair sh has')
            (λ at o' part s1 m1 u' f' fair' sh' has'. called_along_run ss free at kept ws o' a.kind part s1 m1 tops.1 h.1 u' f' fair' sh' has')
        called_along_run (selector_then (tree.Target a) ss) free pc kept ws o t spot s m top h u f fair sh has =
            let tops = both_fit free (along_top plan free ss) k0.long top in
            further_by (tree.Target a) ss free pc kept ws o t spot s m h.0 u f fair has (λ n v has'. target_run t a.kind free pc kept ws spot s m h.0 f.0 sh has')
            (λ at o' part s1 m1 u' f' fair' sh' has'. called_along_run ss free at kept ws o' a.kind part s1 m1 tops.1 h.1 u' f' fair' sh' has')

        selected_run : (x : Selector Note) (free pc : ℕ) (kept : List Kept) (ws : List Word) (o : Option Owner) (t : StType) (spot : Spot) (s : State) (m : Memory) → selector_top plan free x ≤ k0.long → SelectorIs p k0.scope x t → AllOf (if is_followed t x then follows t ∷ [] else []) → AllOf (selector_uses p x) → Found o t spot → Fair gs s → Now_shown free kept s m
            → Stands code now r pc (selected_code plan line free x t)
            → From (cfg pc (spot_word p base ls spot ∷ ws) s m) (lands (pc + length (selected_code plan line free x t)) (λ y. spot_word p base ls y ∷ ws)) (Shows free kept) (selected p (enter p room) x t spot line s)
        selected_run (Index a es) free pc kept ws o t spot s m top h n u f fair sh has = indexed_run es free pc kept ws o t a.kind spot s m top h u f fair sh has
        selected_run (tree.Target a) free pc kept ws o t spot s m top h n u f fair sh has = target_run t a.kind free pc kept ws spot s m h f.0 sh has
        selected_run (Field a name) free pc kept ws o t spot s m top h n u f fair sh has = field_run a.target t a.kind free pc kept ws spot s m h f.0 sh has

        indexed_run : (es : Expressions Note) (free pc : ℕ) (kept : List Kept) (ws : List Word) (o : Option Owner) (t w : StType) (spot : Spot) (s : State) (m : Memory) → index_top plan free es ≤ k0.long → IndexIs p k0.scope es t w → AllOf (index_uses p es) → Found o t spot → Fair gs s → Now_shown free kept s m
            → Stands code now r pc (indexed_code plan line free es t)
            → From (cfg pc (spot_word p base ls spot ∷ ws) s m) (lands (pc + length (indexed_code plan line free es t)) (λ y. spot_word p base ls y ∷ ws)) (Shows free kept) (indexed p (enter p room) es t spot line s)
        indexed_run no_expressions free pc kept ws o t w spot s m top h u f fair sh has = ends_at pc _ (omega arith) (ends.stays code now spot s m sh)
        indexed_run (expression_then e es) free pc kept ws o t w spot s m top h u f fair sh has =
            let tops = both_fit (value_top plan free e) (index_top plan free es) k0.long top in
            let ce = ec free e in
            let a = array_of (out-StType t) h.2.0 h.2.1 in
            let low = a.0 in
            let high = a.1 in
            let of = h.2.0 in
            let q : element_kind t ≡ of = ap (λ y. elements_of y t) a.2 in
            let ci = indexed_code plan line free es (element_kind t) in
            let i_op = index_op plan (out-StType t) in
            let i_is : i_op ≡ op.Index low high (bytes_of p of) = ap (index_op plan) a.2 in
            let he = typing.front _ (expression_uses p e) _ u in
            let has_i = ends.back code now r pc ce (does i_op line ∷ ci) has in
            let l = lies spot t f.0 in
            ends_at (pc + length ce + 1 + length ci) _ (omega (arith, length-append ce (does i_op line ∷ ci)))
            (bind {m = value p (enter p room) e} (lands (pc + length ce) (λ v. value_word p base (here_at free) v ∷ (spot_word p base ls spot ∷ ws))) (Shows free kept)
            (plainly (kind e) free kept (ap is_large h.1.1) (value_runs e free pc kept (spot_word p base ls spot ∷ ws) s m tops.0 h.0 he fair sh (ends.front code now r pc ce _ has)))
            (typing.value_obeys p fine F W first first R (enter p room) reached k0.scope (scopes ks) e h.0 he) fair
            (λ v s1 m1 sh1 is1 fair1.
            let z = a_number (kind e) h.1.0 v h.1.1 is1 in
            number_leads (λ y. (some_or fault.Index (index_in t (number_in y)) >>= λ i. indexed p (enter p room) es (element_kind t) (into spot (step.Element i))) line s1) (here_at free) (pc + length ce) (spot_word p base ls spot ∷ ws) s1 m1 v z.0 z.1
            (subst (λ (y : Option Located). From (cfg (pc + length ce) (word.Number z.0 ∷ (word_at p base y ∷ ws)) s1 m1) (lands (pc + length ce + 1 + length ci) (λ y. spot_word p base ls y ∷ ws)) (Shows free kept)
            ((some_or fault.Index (index_in t z.0) >>= λ i. indexed p (enter p room) es (element_kind t) (into spot (step.Element i))) line s1)) (sym l.is)
            (ends.step_leads code now (op.Index low high (bytes_of p of), line) (cell_is i_is has_i.0)
            (ends.same_outcome code now (ap (λ x. (some_or fault.Index (index_within x z.0) >>= λ i. indexed p (enter p room) es (element_kind t) (into spot (step.Element i))) line s1) a.2)
            (index_leads low high z.0 (bytes_of p of) of (l.place.address) (pc + length ce) ws s1 m1 (λ i. indexed p (enter p room) es (element_kind t) (into spot (step.Element i))) (λ yes.
            let c = both_true (int_le low z.0) (int_le z.0 high) yes in
            let e1 = element_lies free kept s1 m1 spot t low high of z.0 l.place sh1 a.2 l.is l.meets c.0 c.1 in
            let next : Found o of (into spot (step.Element z.0)) =
            (record { is = element_meets p fine gs spot t low high of z.0 a.2 f.0.is c.0 c.1; near = within_further F spot (step.Element z.0) f.0.near }, λ n. within_further W spot (step.Element z.0) (f.1 n)) in
            ends.goes_leads code now (moved l.place.address (unsigned_abs (z.0 -ℤ low) * bytes_of p of)) _ _ e1.0
            (spot_again (pc + length ce + 1) ws s1 m1 (into spot (step.Element z.0)) _ e1.1
            (indexed_run es free (pc + length ce + 1) kept ws o (element_kind t) w (into spot (step.Element z.0)) s1 m1 tops.1 (subst (λ y. IndexIs p k0.scope es y w) (sym q) h.2.2) (typing.back _ (expression_uses p e) _ u) (subst (λ y. Found o y (into spot (step.Element z.0))) (sym q) next) fair1 sh1 has_i.1)))))))))

      pub place_run : (q : Root Note) (ss : Selectors Note) (free pc : ℕ) (kept : List Kept) (ws : List Word) (s : State) (m : Memory) → along_top plan free ss ≤ k0.long → RootIs p k0.scope q → AlongIs p k0.scope ss (root_note q).kind → AllOf (root_uses q ++ along_uses p (root_note q).kind ss) → Fair gs s → Now_shown free kept s m
          → Stands code now r pc (rc q ++ ac free ss (root_note q).kind)
          → From (cfg pc ws s m) (lands (pc + length (rc q ++ ac free ss (root_note q).kind)) (λ y. spot_word p base ls y ∷ ws)) (Shows free kept) (placed q (along p (enter p room) ss) line s)
      place_run q ss free pc kept ws s m top h k u fair sh has = place_by q ss free pc kept ws s m h k u fair sh has (λ spot t x. along_run ss free (pc + length (rc q)) kept ws (root_owner q) (root_note q).kind spot t x top)

      -- the target of a call
      pub goal_run : (q : Root Note) (ss : Selectors Note) (free pc : ℕ) (kept : List Kept) (ws : List Word) (s : State) (m : Memory) → along_top plan free ss ≤ k0.long → RootIs p k0.scope q → CalledAlong p k0.scope ss (root_note q).kind → AllOf (root_uses q ++ along_uses p (root_note q).kind ss) → Fair gs s → Now_shown free kept s m
          → Stands code now r pc (rc q ++ ac free ss (root_note q).kind)
          → From (cfg pc ws s m) (lands (pc + length (rc q ++ ac free ss (root_note q).kind)) (λ y. spot_word p base ls y ∷ ws)) (Shows free kept) (placed q (along p (enter p room) ss) line s)
      goal_run q ss free pc kept ws s m top h k u fair sh has =
          let cr = rc q in
          let cs = ac free ss (root_note q).kind in
          ends_at (pc + length cr + length cs) _ (omega (arith, length-append cr cs))
          (bind {m = root_spot q} (lands (pc + length cr) (λ y. spot_word p base ls y ∷ ws)) (Shows free kept)
          (root_run q free pc kept ws s m h fair sh (ends.front code now r pc cr _ has))
          (typing.root_obeys p fine F W first first R (enter p room) reached k0.scope (scopes ks) q h (typing.front _ (root_uses q) _ u)) fair
          (λ spot t x i is fair'. called_along_run ss free (pc + length cr) kept ws (root_owner q) (root_note q).kind spot t x top k (typing.back _ (root_uses q) _ u) is fair' i (ends.back code now r pc cr _ has)))

      -- a value that a word holds
      pub plain_runs : (e : Expression Note) (free pc : ℕ) (kept : List Kept) (ws : List Word) (s : State) (m : Memory) → is_large (kind e) ≡ false → value_top plan free e ≤ k0.long → ExpressionIs p k0.scope e → AllOf (expression_uses p e) → Fair gs s → Now_shown free kept s m → Stands code now r pc (ec free e)
          → From (cfg pc ws s m) (lands (pc + length (ec free e)) (λ v. value_word p base (here_at free) v ∷ ws)) (Shows free kept) (value p (enter p room) e line s)
      plain_runs e free pc kept ws s m small_e top h u fair sh has = plainly (kind e) free kept small_e (value_runs e free pc kept ws s m top h u fair sh has)
