-- A call as a value: its block, its target, its arguments, its mask, the routine that it enters, and its result.
use Rattle.std.proofs.Common.{◌≡◌, ◌≢◌, ◌≤◌, ◌<◌, ℕ, zero, suc, ◌+◌, ◌-◌, ◌^◌, ℤ, pos, Bool, true, false, List, [], ◌∷◌, ◌++◌, length, Option, Some, None, refl, sym, ap, ◌∙◌, subst, arith, length-append, inl, inr, ⊎_elim}
use Rattle.std.specs.Prelude.{slice_range, if◌then◌else◌, ◌⊎◌, slice_get, nat_eq, IsTrue, ◌||◌, not, max, map}
use Rattle.std.proofs.lemmas.Bool.{eqb-true, eq-eqb, ne_eqb}
use Rattle.std.proofs.lemmas.Option.{slice_get_within}
use Rattle.std.proofs.lemmas.List.{append_assoc}
use Rattle.plc_text.specs.Words.{same as same_name}
use Rattle.plc_text.specs.declared.fault.FaultKind.TheVariants as fault
use Rattle.st_types.specs.Range.{Fits}
use Rattle.st_types.proofs.WideningLaws.{keeps}
use Rattle.st_types.specs.declared.st_type.StType.{StType}
use Rattle.st_types.specs.declared.elem.Elem.TheVariants as elem
use Rattle.st_types.specs.declared.st_type.StType.TheVariants as type
use Rattle.plc_num.specs.Wrapping.{wrapped}
use Rattle.mem_image.specs.Laws.{AreApart}
use Rattle.mem_image.proofs.PartLaws.{length-range}
use Rattle.mem_image.specs.Image.{written}
use Rattle.st_tree.specs.declared.expression.Root.{Root}
use Rattle.st_tree.specs.declared.program.Note.{Note}
use Rattle.st_tree.specs.Expression.{Expression, Null, Call, Selectors, Positional, Input, Output, Arguments, no_arguments, argument_then}
use Rattle.st_tree.specs.declared.path.Path.{Path}
use Rattle.st_tree.specs.declared.declaration.SectionSort.{SectionSort}
use Rattle.st_tree.specs.declared.program.Target.TheVariants as target
use Rattle.st_tree.specs.declared.declaration.SectionSort.TheVariants as sort
use Rattle.st_rules.specs.Chains.{is_among}
use Rattle.st_values.specs.Program.{Variable, Parameter, Routine, Program, lookup, body_of, conforms, class_variables, Recipient, to_local, to_variable, Signature, Interface}
use Rattle.st_values.specs.Value.{Value, number, instance, Store}
use Rattle.st_values.specs.Shape.{Shape, shape_of, Instance}
use Rattle.mem_layout.specs.store_bytes.Place as store
use Rattle.st_meaning.specs.State.{path_of, Spot, in_store, Frame, State, Outcome, Done, Fault, Run, go_on, ◌>>=◌, gives, read, spend, spend_from, there, holds, bound, unbound, Slot, local_spot_in, held_by, frame_value}
use Rattle.st_meaning.specs.Place.{root_note}
use Rattle.st_meaning.specs.Expression.{arguments, passed, placed, along, value, operand, outputs}
use Rattle.st_meaning.specs.Enter.{enter}
use Rattle.st_meaning.specs.st_frame.Use.{body_parameters, argument_uses, Use, root_uses, along_uses, expression_uses, last_kind, owner_uses, called_of, called_parameters, call_use, Called, signatures_at, called_by, receiver, the_function, a_method_of, a_method_from, a_body_of, the_body_from, parameters_of}
use Rattle.st_meaning.specs.st_frame.Promise.Names.{Scope, RootIs}
use Rattle.st_meaning.specs.st_frame.Promise.Programs.{ProgramIs, Above}
use Rattle.st_meaning.specs.st_frame.Promise.Expressions.{ExpressionIs, ArgumentsAre, CalledAlong, OperandIs, ArgumentsFit}
use Rattle.st_meaning.specs.st_frame.Promise.Calls.{own_variable, kind, Suits, Leaves, SameInOuts, recipient_variable, ConversionIs, CallIs, CallResultIs, BodyIs, ResultIs, Distinct, next_number, written_numbers, GivenOnce, IsDeclared, Entered, MayTake, IsLiving}
use Rattle.st_meaning.specs.st_frame.Promise.Types.{IsNoInstance}
use Rattle.st_meaning.specs.st_frame.Promise.Declarations.{ParameterIs, RoutineIs, Each}
use Rattle.st_meaning.specs.st_frame.Good.{Names}
use Rattle.st_meaning.proofs.st_frame.Unfolded.{instance_is, within_bound}
use Rattle.st_meaning.proofs.st_frame.OfTypes.{OfKind, of_place}
use Rattle.st_meaning.proofs.st_frame.Spots.{SpotIs, below, OwnIs, GivenAre, SlotsAre, slot_fits}
use Rattle.st_meaning.proofs.st_frame.Obeys.{Obeys, then_obeys, gives_obeys, obeys_less, spend_obeys}
use Rattle.st_meaning.proofs.st_frame.Bodies.{All, Covered, CallsObey, OnInstance, IsMember, Receives}
use Rattle.st_meaning.specs.Call.{Given, run_routine, parameter_number, next_parameter, behind_next, class_at_spot, given_place, for_local, same_in_outs, number_to, is_in_out, parameter_named, is_output, Callee, a_conversion, callee_of, call_value as call_value_of, class_of_kind, a_function, a_method, a_body, by_instance, from_class, call, result_of}
use Rattle.st_meaning.specs.st_frame.Footprint.{Enters, by_number, by_class as enters_by_class, by_text, by_body, by_base}
use Rattle.st_meaning.specs.State as state
use Rattle.st_meaning.proofs.st_frame.Bodies as typing
use Rattle.stack_code.specs.declared.machine.Frame.{Frame as At}
use Rattle.stack_code.specs.declared.memory.Space.TheVariants.{Locals}
use Rattle.stack_code.specs.declared.memory.Address.{Address}
use Rattle.stack_code.specs.declared.memory.Word.{Word}
use Rattle.stack_code.specs.declared.op.Op.{Op}
use Rattle.stack_code.specs.declared.code.MachineCode.{MachineCode}
use Rattle.stack_code.specs.Memory.{Memory, kept as kept_word}
use Rattle.stack_code.specs.Steps.{Goes}
use Rattle.stack_code.specs.Machine.{Config, limit, act, on, enters}
use Rattle.stack_code.specs.declared.memory.Word.TheVariants as word
use Rattle.stack_code.specs.declared.op.Op.TheVariants as op
use Rattle.stack_code.specs.Machine as machine
use Rattle.mem_layout.specs.store_bytes.Spells.{Holds}
use Rattle.code_cells.specs.declared.cell.Cell.{Cell}
use Rattle.code_cells.specs.declared.cell.Cell.TheVariants.{Does as does}
use Rattle.code_rules.specs.Plan.{Tables, Plan, plan_of}
use Rattle.code_rules.proofs.PlanLaws.{place_found}
use Rattle.code_rules.specs.Code.{keeps_own, value_code, along_code, root_code, arguments_code, same_code, same_bits, local_code, mask_code, given_bits, result_bit, call_value_code, is_conversion, enter_code, method_call, arguments_by, mask_of, taken_code, large_code, output_rooms, behind_outputs, outputs_code, operand_code, passed_room}
use Rattle.code_rules.specs.Places.{size_in, bytes_of, is_large, block_size, room_of, of_parameter, of_mask, result_place, of_own, of_result}
use Rattle.code_rules.specs.Tops.{along_top, value_top, arguments_top, call_top, outputs_top}
use Rattle.shown_memory.specs.Shown.{Kept, Open, scopes, Layout, layouts, Located, located, spot_word, word_at, value_word, FramesShown, Shown, Small, kept_number}
use Rattle.shown_memory.proofs.Locals.{kept_less}
use Rattle.shown_memory.specs.Passing.{recipient, ArePassed, BlockIs, Returned, with_block, has_bit, IsGiven, AreOnce, OwnHeld, Room, IsRoom, RoomsApart, Below, Asks, RoomIs, RoomsAre, ResultAsked, ResultLeft, RestLeft}
use Rattle.memory_access.proofs.Worded.{by_size, large_word}
use Rattle.memory_access.proofs.KeptAddresses.{held_there, kept_place, kept_local, KeptAddress}
use Rattle.value_runs.proofs.Ends.{Leads, Stands}
use Rattle.memory_access.proofs.Arguments.{arguments_end, argument_numbers, IsIn, Once, local_of, next_there, behind_there}
use Rattle.value_runs.proofs.Expressions.{both_fit, goes_once}
use Rattle.value_runs.proofs.Ends as ends
use Rattle.value_runs.proofs.Expressions as ex
use Rattle.call_forms.proofs.CallForm.{CodeOf, IsOwn, CallRuns, HasOwn, TablesAre}
use Rattle.routine_entry.proofs.Entry.{front_get, get_below}
use Rattle.routine_entry.proofs.Masks.{bits_sum, AllBelow, mask_has, mask_fits}
use Rattle.call_forms.specs.Tables.{place_of_name, signatures_of}
use Rattle.call_forms.proofs.LongerRuns.{Begins, begins_short, each_front, no_more, same_arguments, same_outputs}
use Rattle.call_forms.specs.Tables as table
use Rattle.call_parts.proofs.Supers.{super_place}
use Rattle.call_parts.proofs.Dispatch as dp
use Rattle.call_parts.proofs.Rooms.{output_numbers, OutsideOutputs, other_output}
use Rattle.call_parts.proofs.Rooms as rooms
use Rattle.call_parts.proofs.Outputs as out
use Rattle.st_meaning.specs.st_frame.OutputPlaces.{OutputsPlaced}
use Rattle.memory_access.proofs.NumberKinds.{no_instance}

module _ (p : Program) (fine : ProgramIs p) (small : Small p) (is_there : ℕ → Bool) (W : ℕ → Type 0) (first : Store) (R : Routine → Type 0) (code : MachineCode) (now base : ℕ) (tables : Tables) where
  abbrev F : ℕ → Type 0
  F r = is_there r ≡ true

  abbrev Fair : List Scope → State → Type 0
  Fair gs s = ex.Fair p fine small is_there W first R code now base tables gs s

  module _ (room : ℕ) (reached : CallsObey p fine F W first first R (enter p room)) (k0 : Open) (ks : List Open) (r : ℕ) (own : Option Address) (ar : List At) (line : ℕ)
      (own_there : (c : ℕ) → k0.scope.this ≡ Some c → (q : Path) × (l : Located) × (k0.own ≡ Some q) × (own ≡ Some l.address) × (located p base [] (in_store q) ≡ Some l)) where
    abbrev gs : List Scope
    gs = scopes (k0 ∷ ks)

    abbrev plan : Plan
    plan = plan_of p tables k0.scope k0.start

    abbrev ls : List Layout
    ls = layouts (k0 ∷ ks)

    abbrev kept_at : ℕ → List Kept → List Open
    kept_at free kept = record k0 { free = free; kept = kept } ∷ ks

    abbrev cfg : ℕ → List Word → State → Memory → Config
    cfg pc ws s m = ex.cfg p fine small is_there W first R code now base tables room reached k0 ks r own ar line own_there pc ws s m

    abbrev lands : {A : Type 0} → ℕ → (A → List Word) → A → State → Memory → Config
    lands pc words a s m = cfg pc (words a) s m

    abbrev Shows : {A : Type 0} → ℕ → List Kept → A → State → Memory → Type 0
    Shows free kept a s m = Shown p base is_there now (kept_at free kept) m s

    abbrev Now_shown : ℕ → List Kept → State → Memory → Type 0
    Now_shown free kept s m = Shown p base is_there now (kept_at free kept) m s

    abbrev here_at : ℕ → Address
    here_at free = record { space = Locals; index = base + length ks; offset = free }

    abbrev From : {A : Type 0} → Config → (A → State → Memory → Config) → (A → State → Memory → Type 0) → Outcome A → Type 0
    From c after shown o = Leads code now (Goes c) after shown o

    abbrev AllOf : List Use → Type 0
    AllOf us = All (Covered p F W R) us

    abbrev Valued : StType → ℕ → List Kept → Value → State → Memory → Type 0
    Valued t free kept v s m = ex.Valued p fine small is_there W first R code now base tables room reached k0 ks r own ar line own_there t free kept v s m

    abbrev ec : ℕ → Expression Note → List Cell
    ec free e = value_code plan line free e

    abbrev ac : ℕ → Selectors Note → StType → List Cell
    ac free ss t = along_code plan line free ss t

    abbrev rc : Root Note → List Cell
    rc q = root_code plan line q

    abbrev Typed_run : {A : Type 0} → Run A → (A → Type 0) → Type 0
    Typed_run m Q = Obeys p fine F W first first gs m Q

    abbrev Instance_at : Path → StType → Type 0
    Instance_at q t = dp.Instance_at p fine small is_there W first R code now base tables room reached k0 ks r own ar line own_there q t

    abbrev Dispatched : (o : Op) (q : Path) (t : StType) → Instance_at q t → Routine → Type 0
    Dispatched o q t i x = dp.Dispatched p fine small is_there W first R code now base tables room reached k0 ks r own ar line own_there o q t i x

    -- the search of the meaning: by the class of the instance, or a fixed one
    abbrev finding : Bool → (ℕ → Option Routine) → Spot → Run Routine
    finding by_class find spot = dp.finding p fine small is_there W first R code now base tables room reached k0 ks r own ar line own_there by_class find spot

    -- ---- the call itself: the block's address, a tick, the call

    tick_run : (pc : ℕ) (ws : List Word) (s : State) (m : Memory) (shown : Unit {0} → State → Memory → Type 0) → Stands code now r pc (does op.Tick line ∷ []) → ((n : ℕ) → suc n ≡ s.ticks → shown tt (record s { ticks = n }) m)
        → From (cfg pc ws s m) (λ _ t x. cfg (pc + 1) ws t x) shown (spend line s)
    tick_run pc ws s m shown has keeps = ends.step_leads code now (op.Tick, line) has.0 (by s.ticks refl)
      where
        by : (n : ℕ) → s.ticks ≡ n → Leads code now (machine.spend (cfg pc ws s m) line n) (λ _ t x. cfg (pc + 1) ws t x) shown (spend_from n line s)
        by zero e = ends.faults_leads code now refl
        by (suc n) e = ends.stays code now tt (record s { ticks = n }) m (keeps n (sym e))

    block_word : ℕ → Word
    block_word block = word.Address (here_at block)

    enter_leads : (calls : CallRuns p fine is_there W first R code now base tables room) (o : Op) (w : Word) (x : Routine) (n : ℕ) (q : Option Path) (callee_own : Option Address) (given : List Given) (block : ℕ) (bytes : List ℕ) (rest : List Kept) (mask low free pc : ℕ) (asks : Asks) (ws : List Word) (s : State) (m : Memory)
        → R x → length x.parameters < result_place → OwnIs p fine F W x.class q → GivenAre p fine F W gs x.class x.locals given → Fair gs s → Shown p base is_there now (with_block p base (record k0 { free = free }) block bytes rest ∷ ks) m s → room + (base + length ks) ≡ limit
        → CodeOf p fine is_there W first R code now base tables x n → IsOwn p fine is_there W first R code now base tables q callee_own → HasOwn p fine is_there W first R code now base tables x.class q → BlockIs p base ls x (here_at block) low x.parameters bytes mask given → RoomsAre p base x (here_at block) bytes mask rest asks
        → Stands code now r pc (does (op.Local block) line ∷ (does op.Tick line ∷ (does o line ∷ [])))
        → ((t : State) (y : Memory) → Shown p base is_there now (with_block p base (record k0 { free = free }) block bytes rest ∷ ks) y t
        → act code now o line (cfg (pc + 1 + 1) (word.Address (here_at block) ∷ (w ∷ ws)) t y) ≡ enters code n callee_own (word.Address (here_at block) ∷ []) ws line (cfg (pc + 1 + 1) (word.Address (here_at block) ∷ (w ∷ ws)) t y))
        → From (cfg pc (w ∷ ws) s m) (λ _ t y. cfg (pc + 1 + 1 + 1) ws t y) (λ (f : Frame) t y. Returned p base is_there now (record k0 { free = free }) ks block rest x.parameters (length bytes) asks mask f t y) ((spend >>= λ _. enter p room x q given) line s)
    enter_leads calls o w x n q callee_own given block bytes rest mask low free pc asks ws s m reach few on_own args fair sh depth of io ho bl rooms_are has acts =
        let k = record k0 { free = free } in
        ends.step_leads code now (op.Local block, line) has.0
        (subst (λ i. From (cfg (pc + 1) (word.Address (record { space = Locals; index = i; offset = block }) ∷ (w ∷ ws)) s m) (λ _ t y. cfg (pc + 1 + 1 + 1) ws t y) (λ (f : Frame) t y. Returned p base is_there now k ks block rest x.parameters (length bytes) asks mask f t y) ((spend >>= λ _. enter p room x q given) line s)) (sym (depth_of sh))
        (ex.bind p fine small is_there W first R code now base tables room reached k0 ks r own ar line own_there {m = spend} (λ _ t y. cfg (pc + 1 + 1) (word.Address (here_at block) ∷ (w ∷ ws)) t y) (λ _ t y. Shown p base is_there now (with_block p base k block bytes rest ∷ ks) y t)
        (tick_run (pc + 1) (word.Address (here_at block) ∷ (w ∷ ws)) s m (λ _ t y. Shown p base is_there now (with_block p base k block bytes rest ∷ ks) y t) (has.1.0, tt) (λ n e. record { regions = sh.regions; frames = sh.frames; deep = sh.deep; moment = sh.moment }))
        (spend_obeys p fine F W first first) fair
        (λ _ t y sh' _ fair'.
        ends.step_leads code now (o, line) has.1.1.0
        (ends.same_start code now (acts t y sh')
        (calls.by k ks x n q callee_own given block bytes rest mask line low asks (cfg (pc + 1 + 1) (word.Address (here_at block) ∷ (w ∷ ws)) t y) ws t reach few on_own args fair' sh' refl depth of io ho bl rooms_are)))))
      where
        depth_of : Shown p base is_there now (with_block p base (record k0 { free = free }) block bytes rest ∷ ks) m s → length m.locals - 1 ≡ base + length ks
        depth_of sh = let d : length m.locals ≡ base + length (k0 ∷ ks) = sh.deep in omega (arith, d)

    -- ---- a call of a function, from its parts

    -- the arguments are in the block
    pub record Passing (asks : Asks) (x : Routine) (ps : List Parameter) (mask size free block : ℕ) (rest : List Kept) (given : List Given) (s : State) (m : Memory) : Type 0 where
      pub bytes : List ℕ
      pub long : length bytes ≡ size
      pub passed : ArePassed p base ls x (here_at block) (block_size (length ps)) ps bytes given
      pub rooms_are : RoomsAre p base x (here_at block) bytes mask rest asks
      pub shown : Shown p base is_there now (with_block p base (record k0 { free = free }) block bytes rest ∷ ks) m s

    -- the block with its mask
    pub record Given_in (asks : Asks) (x : Routine) (size mask free block : ℕ) (rest : List Kept) (given : List Given) (s : State) (m : Memory) : Type 0 where
      pub bytes : List ℕ
      pub long : length bytes ≡ size
      pub low : ℕ
      pub block_is : BlockIs p base ls x (here_at block) low x.parameters bytes mask given
      pub rooms_are : RoomsAre p base x (here_at block) bytes mask rest asks
      pub shown : Shown p base is_there now (with_block p base (record k0 { free = free }) block bytes rest ∷ ks) m s

    -- ---- a call of a routine on what stands below the block: an instance, or NULL

    -- the block among what is kept, whatever its bytes
    pub record Now_shown_block (free block : ℕ) (rest : List Kept) (s : State) (m : Memory) : Type 0 where
      pub bytes : List ℕ
      pub shown : Now_shown free (record { from = block; bytes = bytes } ∷ rest) s m

    routine_order : {V : Type 0} (x : Routine) (q : Option Path) (outputs_of : Option Path → Frame → Run (Unit {0})) (result : Frame → Run V) (o : Outcome (List Given))
        → go_on (go_on o (λ given t. (spend >>= λ _. enter p room x q given >>= λ f. outputs_of q f >>= λ _. gives f) line t)) (λ f t. result f line t)
        ≡ go_on o (λ given t. go_on ((spend >>= λ _. enter p room x q given) line t) (λ f u. go_on (outputs_of q f line u) (λ _ v. result f line v)))
    routine_order x q outputs_of result (Fault k l) = refl
    routine_order x q outputs_of result (Done given t) = by (spend line t)
      where
        deeper : (f : Frame) (o : Outcome (Unit {0})) → go_on (go_on o (λ _ v. Done f v)) (λ f t. result f line t) ≡ go_on o (λ _ v. result f line v)
        deeper f (Done a u) = refl
        deeper f (Fault k l) = refl

        inner : (o : Outcome Frame) → go_on (go_on o (λ f u. go_on (outputs_of q f line u) (λ _ v. Done f v))) (λ f t. result f line t) ≡ go_on o (λ f u. go_on (outputs_of q f line u) (λ _ v. result f line v))
        inner (Done f u) = deeper f (outputs_of q f line u)
        inner (Fault k l) = refl

        by : (o : Outcome (Unit {0})) → go_on (go_on o (λ _ u. (enter p room x q given >>= λ f. outputs_of q f >>= λ _. gives f) line u)) (λ f t. result f line t) ≡ go_on (go_on o (λ _ u. enter p room x q given line u)) (λ f u. go_on (outputs_of q f line u) (λ _ v. result f line v))
        by (Done a u) = inner (enter p room x q given line u)
        by (Fault k l) = refl

    -- The arguments, the mask, a tick, the call, the outputs, and what the result becomes; `o` is CALL, CALLM or CALLI.
    pub routine_run : {V : Type 0} (calls : CallRuns p fine is_there W first R code now base tables room) (o : Op) (w : Word) (x : Routine) (n : ℕ) (q : Option Path) (callee_own : Option Address) (ca cm co ct : List Cell)
        (arguments_of : Run (List Given)) (outputs_of : Option Path → Frame → Run (Unit {0})) (result : Frame → Run V) (after : V → List Word) (done : V → State → Memory → Type 0) (passing : List Given → State → Memory → Type 0)
        (size mask free block size1 free1 : ℕ) (ps1 : List Parameter) (asks : Asks) (rest : List Kept) (pc : ℕ) (ws : List Word) (s : State) (m : Memory)
        → R x → length x.parameters < result_place → OwnIs p fine F W x.class q → HasOwn p fine is_there W first R code now base tables x.class q → IsOwn p fine is_there W first R code now base tables q callee_own → CodeOf p fine is_there W first R code now base tables x n → room + (base + length ks) ≡ limit → Fair gs s
        → Stands code now r pc (ca ++ (cm ++ (does (op.Local block) line ∷ (does op.Tick line ∷ (does o line ∷ (co ++ ct))))))
        → (Stands code now r pc ca → From (cfg pc (w ∷ ws) s m) (λ _ t y. cfg (pc + length ca) (w ∷ ws) t y) passing (arguments_of line s))
        → Typed_run arguments_of (GivenAre p fine F W gs x.class x.locals)
        → ((given : List Given) (t : State) (y : Memory) → passing given t y → Stands code now r (pc + length ca) cm
        → From (cfg (pc + length ca) (w ∷ ws) t y) (λ (_ : Unit {0}) t y. cfg (pc + length ca + length cm) (w ∷ ws) t y) (λ _ t y. Given_in asks x size mask free block rest given t y) (Done tt t))
        → ((at : ℕ) (t : State) (y : Memory) → Now_shown_block free block rest t y → act code now o line (cfg at (word.Address (here_at block) ∷ (w ∷ ws)) t y) ≡ enters code n callee_own (word.Address (here_at block) ∷ []) ws line (cfg at (word.Address (here_at block) ∷ (w ∷ ws)) t y))
        → ((f : Frame) (at : ℕ) (t : State) (y : Memory) → Returned p base is_there now (record k0 { free = free }) ks block rest x.parameters size asks mask f t y → SlotsAre p fine F W gs x.locals f.locals → Fair gs t → Stands code now r at co
        → From (cfg at ws t y) (λ (_ : Unit {0}) t y. cfg (at + length co) ws t y) (λ _ t y. Returned p base is_there now (record k0 { free = free1 }) ks block rest ps1 size1 asks mask f t y) (outputs_of q f line t))
        → ((f : Frame) (at : ℕ) (t : State) (y : Memory) → Returned p base is_there now (record k0 { free = free1 }) ks block rest ps1 size1 asks mask f t y → SlotsAre p fine F W gs x.locals f.locals → Stands code now r at ct
        → From (cfg at ws t y) (λ v t y. cfg (at + length ct) (after v) t y) done (result f line t))
        → From (cfg pc (w ∷ ws) s m) (λ v t y. cfg (pc + length ca + length cm + 1 + 1 + 1 + length co + length ct) (after v) t y) done
        ((run_routine p (enter p room) x q arguments_of outputs_of >>= result) line s)
    routine_run calls o w x n q callee_own ca cm co ct arguments_of outputs_of result after done passing size mask free block size1 free1 ps1 asks rest pc ws s m reach few on_own has_own io of depth fair has runs typed masks acts outs takes =
        let has_m = ends.back code now r pc ca _ has in
        let has_c = ends.back code now r (pc + length ca) cm _ has_m in
        let at = pc + length ca + length cm in
        let has_o = has_c.1.1.1 in
        ends.same_outcome code now (routine_order x q outputs_of result (arguments_of line s))
        (ex.bind p fine small is_there W first R code now base tables room reached k0 ks r own ar line own_there {m = arguments_of} (λ _ t y. cfg (pc + length ca) (w ∷ ws) t y) passing (runs (ends.front code now r pc ca _ has)) typed fair (λ given t y passing is fair'.
        ends.and_then code now (λ (_ : Unit {0}) t y. cfg at (w ∷ ws) t y) (λ _ t y. Given_in asks x size mask free block rest given t y) (masks given t y passing (ends.front code now r (pc + length ca) cm _ has_m)) (λ y2 g.
        ex.bind p fine small is_there W first R code now base tables room reached k0 ks r own ar line own_there {m = spend >>= λ _. enter p room x q given} (λ _ t y. cfg (at + 1 + 1 + 1) ws t y) (λ (f : Frame) t y. Returned p base is_there now (record k0 { free = free }) ks block rest x.parameters size asks mask f t y)
        (subst (λ n. From (cfg at (w ∷ ws) t y2) (λ _ t y. cfg (at + 1 + 1 + 1) ws t y) (λ (f : Frame) t y. Returned p base is_there now (record k0 { free = free }) ks block rest x.parameters n asks mask f t y) ((spend >>= λ _. enter p room x q given) line t)) g.long
        (enter_leads calls o w x n q callee_own given block g.bytes rest mask g.low free at asks ws t y2 reach few on_own is fair' g.shown depth of io has_own g.block_is g.rooms_are (has_c.0, (has_c.1.0, (has_c.1.1.0, tt)))
        (λ t3 y3 sh3. acts (at + 1 + 1) t3 y3 (record { bytes = g.bytes; shown = sh3 }))))
        (then_obeys p fine F W first first (spend_obeys p fine F W first first) (λ _ _. reached.by gs x q given reach on_own is)) fair'
        (λ f t4 y4 returned slots fair4.
        ends.then_leads code now (λ (_ : Unit {0}) t y. cfg (at + 1 + 1 + 1 + length co) ws t y) (λ _ t y. Returned p base is_there now (record k0 { free = free1 }) ks block rest ps1 size1 asks mask f t y) (outs f (at + 1 + 1 + 1) t4 y4 returned slots fair4 (ends.front code now r (at + 1 + 1 + 1) co _ has_o))
        (λ _ t5 y5 returned' _. takes f (at + 1 + 1 + 1 + length co) t5 y5 returned' slots (ends.back code now r (at + 1 + 1 + 1) co _ has_o))))))

    -- ---- SUPER(): a block's base with the in-outs of the block that runs

    -- a place that is given
    place_passed : (x : Routine) (q : Parameter) (n : ℕ) (t : StType) (ps : List Parameter) (cp : List Cell) (place_of : Run Spot) (free block : ℕ) (rest : List Kept) (bytes : List ℕ) (pc : ℕ) (ws : List Word) (s : State) (m : Memory)
        → slice_get ps n ≡ Some q → block + length bytes ≡ free → block_size (length ps) ≤ length bytes → Fair gs s → base + length (k0 ∷ ks) ≤ 2147483647 → q.to ≡ to_local (number_to q.to)
        → Stands code now r pc (cp ++ (does (op.Local (block + of_parameter n)) line ∷ (does op.StoreRef line ∷ [])))
        → (Stands code now r pc cp → From (cfg pc ws s m) (lands (pc + length cp) (λ y. spot_word p base ls y ∷ ws)) (λ _ t y. Shown p base is_there now (with_block p base (record k0 { free = free }) block bytes rest ∷ ks) y t) (place_of line s))
        → Typed_run place_of (λ spot. SpotIs p fine F W gs spot t)
        → From (cfg pc ws s m) (λ _ z y. cfg (pc + length (cp ++ (does (op.Local (block + of_parameter n)) line ∷ (does op.StoreRef line ∷ [])))) ws z y) (ex.PassesOne p fine small is_there W first R code now base tables room reached k0 ks r own ar line own_there x ps free block rest bytes n) ((place_of >>= λ spot. gives (given_place q.to spot)) line s)
    place_passed x q n t ps cp place_of free block rest bytes pc ws s m e long big fair few local has pr placed_so =
        let fit : of_parameter n + 8 ≤ length bytes = (let l = slice_get_within ps n q e in omega (arith, l, big)) in
        let at_end : pc + length cp + 1 + 1 ≡ pc + length (cp ++ (does (op.Local (block + of_parameter n)) line ∷ (does op.StoreRef line ∷ []))) = omega (arith, length-append cp (does (op.Local (block + of_parameter n)) line ∷ (does op.StoreRef line ∷ []))) in
        subst (λ j. From (cfg pc ws s m) (λ _ z y. cfg j ws z y) (ex.PassesOne p fine small is_there W first R code now base tables room reached k0 ks r own ar line own_there x ps free block rest bytes n) ((place_of >>= λ spot. gives (given_place q.to spot)) line s)) at_end
        (ex.bind p fine small is_there W first R code now base tables room reached k0 ks r own ar line own_there {m = place_of} (lands (pc + length cp) (λ y. spot_word p base ls y ∷ ws)) (λ _ u y. Shown p base is_there now (with_block p base (record k0 { free = free }) block bytes rest ∷ ks) y u) (pr (ends.front code now r pc cp _ has)) placed_so fair
        (λ spot u y sh' is fair'.
        let l = ex.lies p fine small is_there W first R code now base tables room reached k0 ks r own ar line own_there spot t is in
        let k = kept_place p base is_there now (with_block p base (record k0 { free = free }) block bytes rest ∷ ks) spot l.place u y small sh' few l.is in
        let w_is : spot_word p base ls spot ≡ word.Address l.place.address = ap (word_at p base) l.is in
        let keeps : kept_word (spot_word p base ls spot) ≡ Goes (pos (kept_number p base l.place.address)) = ap kept_word w_is ∙ k.keeps in
        ex.spot_leads p fine small is_there W first R code now base tables room reached k0 ks r own ar line own_there (pc + length cp) ws u y spot l.place l.is
        (ex.one_passed p fine small is_there W first R code now base tables room reached k0 ks r own ar line own_there x q n ps free block rest bytes (pc + length cp) ws u y (given_place q.to spot) (word.Address l.place.address) (pos (kept_number p base l.place.address)) e long big local keeps (λ v u a c d. no_value v a)
        (ex.give_reference p fine small is_there W first R code now base tables room reached k0 ks r own ar line own_there (record k0 { free = free }) block bytes rest (of_parameter n) (pc + length cp) (word.Address l.place.address) (pos (kept_number p base l.place.address)) ws u y refl k.keeps k.fits sh' fit (ends.back code now r pc cp _ has)))))
      where
        no_value : (v : Value) → None ≡ Some v → ⊥
        no_value v e = cc

    abbrev pub same_numbers : ℕ → List Parameter → List ℕ
    same_numbers i [] = []
    same_numbers i (q ∷ qs) = if is_in_out q.sort then i ∷ same_numbers (suc i) qs else same_numbers (suc i) qs

    same_above : (i : ℕ) (qs : List Parameter) (k : ℕ) → IsIn (same_numbers i qs) k → i ≤ k
    same_above i [] k h = absurd h
    same_above i (q ∷ qs) k h = by (is_in_out q.sort) h (same_above (suc i) qs k)
      where
        by : (b : Bool) → IsIn (if b then i ∷ same_numbers (suc i) qs else same_numbers (suc i) qs) k → (IsIn (same_numbers (suc i) qs) k → suc i ≤ k) → i ≤ k
        by true (inl e) more = omega (arith, e)
        by true (inr h) more = let l = more h in omega (arith, l)
        by false h more = let l = more h in omega (arith, l)

    -- it reads the slots alone
    abbrev Reads_only : Run (List Given) → State → Type 0
    Reads_only m s = ((given : List Given) × (m line s ≡ Done given s)) ⊎ (m line s ≡ Fault fault.Null line)

    same_reads : (qs : List Parameter) (s : State) → Reads_only (same_in_outs qs) s
    same_reads [] s = inl ([], refl)
    same_reads (q ∷ qs) s = by (is_in_out q.sort) (same_reads qs s)
      where
        n : ℕ
        n = number_to q.to

        by_spot : (rest : List Given) (o : Option Spot) → ((given : List Given) × (go_on (there o line s) (λ spot t. Done (for_local n (bound spot) ∷ rest) t) ≡ Done given s)) ⊎ (go_on (there o line s) (λ spot t. Done (for_local n (bound spot) ∷ rest) t) ≡ Fault fault.Null line)
        by_spot rest None = inr refl
        by_spot rest (Some spot) = inl (for_local n (bound spot) ∷ rest, refl)

        by : (b : Bool) → Reads_only (same_in_outs qs) s → Reads_only (same_in_outs qs >>= λ rest. if b then (state.local_spot n >>= λ spot. gives (for_local n (bound spot) ∷ rest)) else gives rest) s
        by true (inl h) = ⊎_elim (λ k. inl (k.0, ap (λ o. go_on o (λ rest t. go_on (there (local_spot_in t.frames n) line t) (λ spot t. Done (for_local n (bound spot) ∷ rest) t))) h.1 ∙ k.1))
            (λ k. inr (ap (λ o. go_on o (λ rest t. go_on (there (local_spot_in t.frames n) line t) (λ spot t. Done (for_local n (bound spot) ∷ rest) t))) h.1 ∙ k)) (by_spot h.0 (local_spot_in s.frames n))
        by true (inr h) = inr (ap (λ o. go_on o (λ rest t. go_on (there (local_spot_in t.frames n) line t) (λ spot t. Done (for_local n (bound spot) ∷ rest) t))) h)
        by false (inl h) = inl (h.0, ap (λ o. go_on o (λ rest t. Done rest t)) h.1)
        by false (inr h) = inr (ap (λ o. go_on o (λ rest t. Done rest t)) h)

    -- so the order is free
    same_order : (n : ℕ) (others : Run (List Given)) (s : State) → Reads_only others s
        → ((state.local_spot n >>= λ spot. gives (for_local n (bound spot))) >>= λ g. others >>= λ gs. gives (g ∷ gs)) line s ≡ (others >>= λ rest. state.local_spot n >>= λ spot. gives (for_local n (bound spot) ∷ rest)) line s
    same_order n others s h = ⊎_elim
        (λ k. by_done k.0 k.1 (local_spot_in s.frames n) ∙ sym (ap (λ o. go_on o (λ rest t. go_on (there (local_spot_in t.frames n) line t) (λ spot t. Done (for_local n (bound spot) ∷ rest) t))) k.1))
        (λ k. by_fault k (local_spot_in s.frames n) ∙ sym (ap (λ o. go_on o (λ rest t. go_on (there (local_spot_in t.frames n) line t) (λ spot t. Done (for_local n (bound spot) ∷ rest) t))) k)) h
      where
        in_turn : Option Spot → Outcome (List Given)
        in_turn o = go_on (go_on (there o line s) (λ spot t. Done (for_local n (bound spot)) t)) (λ g t. go_on (others line t) (λ gs t. Done (g ∷ gs) t))

        by_done : (given : List Given) → others line s ≡ Done given s → (o : Option Spot) → in_turn o ≡ go_on (there o line s) (λ spot t. Done (for_local n (bound spot) ∷ given) t)
        by_done given e None = refl
        by_done given e (Some spot) = ap (λ y. go_on y (λ gs t. Done (for_local n (bound spot) ∷ gs) t)) e

        by_fault : others line s ≡ Fault fault.Null line → (o : Option Spot) → in_turn o ≡ Fault fault.Null line
        by_fault e None = refl
        by_fault e (Some spot) = ap (λ y. go_on y (λ gs t. Done (for_local n (bound spot) ∷ gs) t)) e

    pub same_run : (x : Routine) (d : ℕ) (ps qs : List Parameter) (i free block : ℕ) (rest : List Kept) (bytes : List ℕ) (pc : ℕ) (ws : List Word) (s : State) (m : Memory)
        → SameInOuts p k0.scope.locals d → body_of p d ≡ Some x → Each (ParameterIs p x) qs → ((j : ℕ) → slice_get ps (i + j) ≡ slice_get qs j) → base + length (k0 ∷ ks) ≤ 2147483647 → Fair gs s
        → Shown p base is_there now (with_block p base (record k0 { free = free }) block bytes rest ∷ ks) m s → block + length bytes ≡ free → block_size (length ps) ≤ length bytes → Stands code now r pc (same_code plan line block i qs)
        → From (cfg pc ws s m) (λ _ t y. cfg (pc + length (same_code plan line block i qs)) ws t y) (ex.Passes p fine small is_there W first R code now base tables room reached k0 ks r own ar line own_there x ps free block rest bytes (same_numbers i qs)) (same_in_outs qs line s)
    same_run x d ps [] i free block rest bytes pc ws s m same body each at few fair sh long big has =
        subst (λ n. From (cfg pc ws s m) (λ _ t y. cfg n ws t y) (ex.Passes p fine small is_there W first R code now base tables room reached k0 ks r own ar line own_there x ps free block rest bytes []) (Done [] s)) (omega arith)
        (ends.stays code now [] s m (record { bytes = bytes; long = long; longer = omega arith; passed = tt; numbered = tt; others = λ j b k. refl; same_own = refl; behind = λ j n a l. refl; shown = sh }))
    same_run x d ps (q ∷ qs) i free block rest bytes pc ws s m same body each at few fair sh long big has =
        by (λ bytes' at' t y fair' sh' long' big' has'. same_run x d ps qs (suc i) free block rest bytes' at' ws t y same body each.1 next few fair' sh' long' big' has') (is_in_out q.sort) refl has
      where
        n : ℕ
        n = number_to q.to

        cp : List Cell
        cp = local_code line (slice_get plan.locals n)

        one_code : List Cell
        one_code = cp ++ (does (op.Local (block + of_parameter i)) line ∷ (does op.StoreRef line ∷ []))

        cr : List Cell
        cr = same_code plan line block (suc i) qs

        next : (j : ℕ) → slice_get ps (suc i + j) ≡ slice_get qs j
        next j = let e : suc i + j ≡ i + suc j = omega arith in ap (slice_get ps) e ∙ at (suc j)

        here : slice_get ps i ≡ Some q
        here = let e : i ≡ i + 0 = omega arith in ap (slice_get ps) e ∙ at 0

        Behind : List ℕ → ℕ → State → Memory → Type 0
        Behind bytes' at' t y = Fair gs t → Shown p base is_there now (with_block p base (record k0 { free = free }) block bytes' rest ∷ ks) y t → block + length bytes' ≡ free → block_size (length ps) ≤ length bytes' → Stands code now r at' cr
            → From (cfg at' ws t y) (λ _ t y. cfg (at' + length cr) ws t y) (ex.Passes p fine small is_there W first R code now base tables room reached k0 ks r own ar line own_there x ps free block rest bytes' (same_numbers (suc i) qs)) (same_in_outs qs line t)

        by : ((bytes' : List ℕ) (at' : ℕ) (t : State) (y : Memory) → Behind bytes' at' t y) → (b : Bool) → is_in_out q.sort ≡ b → Stands code now r pc ((if b then one_code else []) ++ cr)
            → From (cfg pc ws s m) (λ _ t y. cfg (pc + length ((if b then one_code else []) ++ cr)) ws t y) (ex.Passes p fine small is_there W first R code now base tables room reached k0 ks r own ar line own_there x ps free block rest bytes (if b then i ∷ same_numbers (suc i) qs else same_numbers (suc i) qs)) ((same_in_outs qs >>= λ rest. if b then (state.local_spot n >>= λ spot. gives (for_local n (bound spot) ∷ rest)) else gives rest) line s)
        by behind_it false is has =
            ends.then_leads code now (λ _ t y. cfg (pc + length cr) ws t y) (ex.Passes p fine small is_there W first R code now base tables room reached k0 ks r own ar line own_there x ps free block rest bytes (same_numbers (suc i) qs)) (behind_it bytes pc s m fair sh long big has)
            (λ given t y k _. ends.stays code now given t y k)
        by behind_it true is has =
            let a = each.0 in
            let local = local_of q (a.3 is) in
            let w : slice_get x.locals n ≡ Some a.0 = subst (λ y. recipient_variable p x y ≡ Some a.0) local a.1 in
            let v = same.by x n a.0 body w (ap is_in_out a.2 ∙ is) in
            ends.same_outcome code now (sym (same_order n (same_in_outs qs) s (same_reads qs s)))
            (ex.argument_then_run p fine small is_there W first R code now base tables room reached k0 ks r own ar line own_there x i ps one_code cr (state.local_spot n >>= λ spot. gives (for_local n (bound spot))) (same_in_outs qs) (same_numbers (suc i) qs) free free block rest bytes pc ws s m
            big (λ k. let l = same_above (suc i) qs i k in absurd (omega (arith, l))) fair has
            (then_obeys p fine F W first first (typing.named_obeys p fine F W first first R (enter p room) reached k0.scope (scopes ks) (target.Local n) v.0.kind (v.0, v.1, refl) tt) (λ spot _. gives_obeys p fine F W first first tt))
            (λ has'. place_passed x q i v.0.kind ps cp (state.local_spot n) free block rest bytes pc ws s m here long big fair few local has'
            (λ has1. ex.local_run p fine small is_there W first R code now base tables room reached k0 ks r own ar line own_there n v.0 free pc (record { from = block; bytes = bytes } ∷ rest) ws s m v.1 sh (subst (λ o. Stands code now r pc (local_code line o)) (place_found p k0.scope.locals k0.start n v.0 v.1) has1))
            (obeys_less p fine F W first first (typing.named_obeys p fine F W first first R (enter p room) reached k0.scope (scopes ks) (target.Local n) v.0.kind (v.0, v.1, refl) tt) (λ spot k. k.0)))
            (λ bytes' t y fair' sh' long' big' has'. behind_it bytes' (pc + length one_code) t y fair' sh' long' big' has'))

    -- ---- the instance of a call is kept in the block: outputs of a block are read from it

    pub own_kept : (free block : ℕ) (bytes : List ℕ) (rest : List Kept) (pc : ℕ) (ws : List Word) (s : State) (m : Memory) (q : Path) (l : Located) → located p base ls (in_store q) ≡ Some l → base + length (k0 ∷ ks) ≤ 2147483647
        → Shown p base is_there now (with_block p base (record k0 { free = free }) block bytes rest ∷ ks) m s → 24 ≤ length bytes
        → Stands code now r pc (does op.Dup line ∷ (does (op.Local (block + of_own)) line ∷ (does op.StoreRef line ∷ [])))
        → From (cfg pc (word.Address l.address ∷ ws) s m) (λ (_ : Unit {0}) t y. cfg (pc + 1 + 1 + 1) (word.Address l.address ∷ ws) t y) (λ _ t y. ex.BlockWritten p fine small is_there W first R code now base tables room reached k0 ks r own ar line own_there (record k0 { free = free }) block bytes rest of_own (pos (kept_number p base l.address)) t y) (Done tt s)
    own_kept free block bytes rest pc ws s m q l is few sh wide has =
        let k = kept_place p base is_there now (with_block p base (record k0 { free = free }) block bytes rest ∷ ks) (in_store q) l s m small sh few is in
        ends.step_leads code now (op.Dup, line) has.0
        (ex.give_reference p fine small is_there W first R code now base tables room reached k0 ks r own ar line own_there (record k0 { free = free }) block bytes rest of_own (pc + 1) (word.Address l.address) (pos (kept_number p base l.address)) (word.Address l.address ∷ ws) s m refl k.keeps k.fits sh (omega (arith, wide)) (has.1.0, has.1.1))

    -- ---- the block of a call is what lies behind the locals, whatever its bytes are

    pub block_open : (free n : ℕ) (kept : List Kept) (s : State) (m : Memory) → Now_shown free kept s m → free + n ≤ k0.long → (bytes : List ℕ) × (length bytes ≡ n) × Shown p base is_there now (with_block p base (record k0 { free = free + n }) free bytes kept ∷ ks) m s
    block_open free n kept s m sh room = by s.frames refl sh.frames
      where
        by : (fs : List Frame) → s.frames ≡ fs → FramesShown p base (kept_at free kept) fs m.locals → (bytes : List ℕ) × (length bytes ≡ n) × Shown p base is_there now (with_block p base (record k0 { free = free + n }) free bytes kept ∷ ks) m s
        by [] e h = absurd h
        by (f ∷ fs) e h =
            let o = h.0 in
            let l = o.long in
            let low = o.low in
            let bytes = slice_range o.image free (free + n) in
            let size : length bytes ≡ n = length-range o.image free n (omega (arith, l, room)) in (
              bytes,
              size,
              record {
                regions = sh.regions;
                frames = subst (λ gs. FramesShown p base (with_block p base (record k0 { free = free + n }) free bytes kept ∷ ks) gs m.locals) (sym e)
                    (record { image = o.image; there = o.there; long = o.long; own = o.own; block = o.block; slots = o.slots; low = omega (arith, low); room = room; short = o.short; kept = (record { above = o.low; below = omega (arith, size); stands = ap (λ j. slice_range o.image free (free + j)) size }, o.kept) }, h.1);
                deep = sh.deep;
                moment = sh.moment;
              },
            )

    -- ---- the mask, and the block as the routine finds it

    -- what the mask says of what is given: `ps` are the parameters that are called, and the routine that is entered may have more
    pub record Marks (x : Routine) (ps : List Parameter) (mask : ℕ) (given : List Given) : Type 0 where
      pub more : List Parameter
      pub extends : x.parameters ≡ ps ++ more
      pub fits : Fits elem.Ulint (pos mask)
      pub marked : (i : ℕ) (q : Parameter) → slice_get x.parameters i ≡ Some q → has_bit mask i ≡ true → (q.sort ≡ sort.Output) ⊎ IsGiven given q.to
      pub unmarked : (i : ℕ) (q : Parameter) → slice_get x.parameters i ≡ Some q → has_bit mask i ≡ false → IsGiven given q.to → ⊥
      pub asked : (i : ℕ) → i < result_place → has_bit mask i ≡ true → i < length ps
      pub inputs : (i : ℕ) (q : Parameter) → slice_get x.parameters i ≡ Some q → q.sort ≡ sort.Output → IsGiven given q.to → ⊥
      pub once : AreOnce given

    own_stays : (kept_own : Option ℤ) (bytes bytes' : List ℕ) → slice_range bytes' of_own (of_own + 8) ≡ slice_range bytes of_own (of_own + 8) → OwnHeld kept_own bytes → OwnHeld kept_own bytes'
    own_stays None bytes bytes' e h = tt
    own_stays (Some z) bytes bytes' e h = record { fits = h.fits; stands = e ∙ h.stands }

    -- the mask is no word of a room
    rooms_masked : (x : Routine) (block mask : ℕ) (rest : List Kept) (asks : Asks) (bytes bytes' : List ℕ) → 24 ≤ length bytes → ((i : ℕ) → i < result_place → has_bit mask i ≡ true → of_parameter i + 8 ≤ length bytes) → length x.parameters < result_place → length bytes' ≡ length bytes → ((j n : ℕ) → AreApart of_mask 8 j n → j + n ≤ length bytes → slice_range bytes' j (j + n) ≡ slice_range bytes j (j + n))
        → RoomsAre p base x (here_at block) bytes mask rest asks → RoomsAre p base x (here_at block) bytes' mask rest asks
    rooms_masked x block mask rest asks bytes bytes' wide asked few long others h = record {
      own_held = own_stays asks.own bytes bytes' (others of_own 8 (inl (omega arith)) (omega (arith, wide))) h.own_held;
      low = h.low;
      wide = h.wide;
      words = h.words;
      outputs = h.outputs;
      each = λ r is. let g = h.each r is in let inside = g.inside in record {
        parameter = g.parameter;
        local = g.local;
        variable = g.variable;
        there = g.there;
        sorted = g.sorted;
        to = g.to;
        in_locals = g.in_locals;
        kind_is = g.kind_is;
        large = g.large;
        asked = g.asked;
        shape = g.shape;
        has_shape = g.has_shape;
        above = g.above;
        inside = omega (arith, inside, long);
        word_there = record { fits = g.word_there.fits; stands = others (of_parameter r.number) 8 (inl (omega arith)) (asked r.number (let l = get_below x.parameters r.number g.parameter g.there in omega (arith, l, few)) g.asked) ∙ g.word_there.stands };
        decodes = g.decodes;
      };
      apart = h.apart;
      result = by asks.result h.result;
    }
      where
        by : (o : Option Below) → ResultAsked p base x (here_at block) mask bytes rest o → ResultAsked p base x (here_at block) mask bytes' rest o
        by None g = g
        by (Some b) g = record {
          variable = g.variable;
          in_locals = g.in_locals;
          no_place = g.no_place;
          kind_is = g.kind_is;
          large = g.large;
          asked = g.asked;
          shape = g.shape;
          has_shape = g.has_shape;
          before = g.before;
          behind = g.behind;
          is = g.is;
          long = g.long;
          word_there = record { fits = g.word_there.fits; stands = others of_result 8 (inr (omega arith)) (omega (arith, wide)) ∙ g.word_there.stands };
          decodes = g.decodes;
        }

    more_passed : (x : Routine) (block low : ℕ) (ps more : List Parameter) (bytes bytes' : List ℕ) (gs : List Given) → 24 ≤ low → length bytes' ≡ length bytes → ((j n : ℕ) → AreApart of_mask 8 j n → j + n ≤ length bytes → slice_range bytes' j (j + n) ≡ slice_range bytes j (j + n)) → ArePassed p base ls x (here_at block) low ps bytes gs → ArePassed p base ls x (here_at block) low (ps ++ more) bytes' gs
    more_passed x block low ps more bytes bytes' [] above long others h = tt
    more_passed x block low ps more bytes bytes' (g ∷ gs) above long others h =
        let y = ex.still_passed p fine small is_there W first R code now base tables room reached k0 ks r own ar line own_there x block low ps bytes bytes' g h.0 (others (of_parameter h.0.number) 8 (inl (omega arith)) h.0.inside) (omega (arith, long)) (λ j n a l. others j n (inl (omega (arith, above, a))) l) in
        (record { number = y.number; parameter = y.parameter; large_at = y.large_at; there = front_get ps more y.number y.parameter y.there; to = y.to; inside = y.inside; word_kept = y.word_kept; large = y.large }, more_passed x block low ps more bytes bytes' gs above long others h.1)

    pub mask_run : (x : Routine) (ps : List Parameter) (mask size free block : ℕ) (asks : Asks) (rest : List Kept) (given : List Given) (pc : ℕ) (ws : List Word) (t : State) (y : Memory) → block_size (length ps) ≤ size → length x.parameters < result_place → Marks x ps mask given → Passing asks x ps mask size free block rest given t y → Stands code now r pc (mask_code line (block + of_mask) mask)
        → From (cfg pc ws t y) (λ (_ : Unit {0}) t y. cfg (pc + 1 + 1 + 1) ws t y) (λ _ t y. Given_in asks x size mask free block rest given t y) (Done tt t)
    mask_run x ps mask size free block asks rest given pc ws t y big few marks passing has =
        let size_is = passing.long in
        ends.step_leads code now (op.Push (pos mask), line) has.0
        (ends.and_then code now (λ _ t y. cfg (pc + 1 + 1 + 1) ws t y) (λ _ t y. ex.BlockWritten p fine small is_there W first R code now base tables room reached k0 ks r own ar line own_there (record k0 { free = free }) block passing.bytes rest of_mask (wrapped elem.Ulint (pos mask)) t y)
        (ex.give_run p fine small is_there W first R code now base tables room reached k0 ks r own ar line own_there (record k0 { free = free }) block passing.bytes rest of_mask (pc + 1) (pos mask) ws t y ps passing.shown (omega (arith, big, size_is)) has.1)
        (λ y2 b.
        let same = b.long in
        ends.stays code now tt t y2 (record {
          bytes = b.left;
          long = b.long ∙ passing.long;
          low = block_size (length ps);
          block_is = record {
            room = omega (arith, same, big, size_is);
            passed = subst (λ l. ArePassed p base ls x (here_at block) (block_size (length ps)) l b.left given) (sym marks.extends) (more_passed x block (block_size (length ps)) ps marks.more passing.bytes b.left given (omega arith) b.long b.others passing.passed);
            mask_kept = subst (λ z. Holds elem.Ulint z b.left of_mask) (ex.is_wrapped p fine small is_there W first R code now base tables elem.Ulint (pos mask) marks.fits) b.word_there;
            marked = marks.marked;
            asked = λ i l set. let k = marks.asked i l set in omega (arith, k, same, big, size_is);
            inputs = marks.inputs;
            once = marks.once;
            unmarked = marks.unmarked;
          };
          rooms_are = rooms_masked x block mask rest asks passing.bytes b.left (omega (arith, big, size_is)) (λ i l set. let k = marks.asked i l set in omega (arith, k, big, size_is)) few b.long b.others passing.rooms_are;
          shown = b.shown;
        })))

    -- ---- which parameters are given, as numbers

    in_first : (n : ℕ) (ns : List ℕ) (k : ℕ) → n ≡ k → is_among k (n ∷ ns) ≡ true
    in_first n ns k e = ap (λ b. b || is_among k ns) (eq-eqb k n (sym e))

    in_later : (n : ℕ) (ns : List ℕ) (k : ℕ) → is_among k ns ≡ true → is_among k (n ∷ ns) ≡ true
    in_later n ns k e = by (nat_eq k n) (is_among k ns) e
      where
        by : (a b : Bool) → b ≡ true → (a || b) ≡ true
        by true b e = refl
        by false b e = e

    -- what is given to a parameter, and the other way round
    given_number : (x : Routine) (block low : ℕ) (ps : List Parameter) (bytes : List ℕ) (gs : List Given) (h : ArePassed p base ls x (here_at block) low ps bytes gs) (ns : List ℕ) → ex.AtNumbers p fine small is_there W first R code now base tables room reached k0 ks r own ar line own_there x block low ps bytes gs h ns → (to : Recipient) → IsGiven gs to → (n : ℕ) × (q : Parameter) × (slice_get ps n ≡ Some q) × (q.to ≡ to) × (is_among n ns ≡ true)
    given_number x block low ps bytes [] h ns a to g = absurd g
    given_number x block low ps bytes (g ∷ gs) h [] a to k = absurd a
    given_number x block low ps bytes (g ∷ gs) h (n ∷ ns) a to (inl e) = (h.0.number, h.0.parameter, h.0.there, h.0.to ∙ e, in_first n ns h.0.number (sym a.0))
    given_number x block low ps bytes (g ∷ gs) h (n ∷ ns) a to (inr k) = let r = given_number x block low ps bytes gs h.1 ns a.1 to k in (r.0, r.1, r.2, r.3, in_later n ns r.0 r.4)

    number_given : (x : Routine) (block low : ℕ) (ps : List Parameter) (bytes : List ℕ) (gs : List Given) (h : ArePassed p base ls x (here_at block) low ps bytes gs) (ns : List ℕ) → ex.AtNumbers p fine small is_there W first R code now base tables room reached k0 ks r own ar line own_there x block low ps bytes gs h ns → (i : ℕ) (q : Parameter) → slice_get ps i ≡ Some q → is_among i ns ≡ true → IsGiven gs q.to
    number_given x block low ps bytes [] h [] a i q e k = cc
    number_given x block low ps bytes [] h (n ∷ ns) a i q e k = absurd a
    number_given x block low ps bytes (g ∷ gs) h [] a i q e k = absurd a
    number_given x block low ps bytes (g ∷ gs) h (n ∷ ns) a i q e k = by (nat_eq i n) refl k (number_given x block low ps bytes gs h.1 ns a.1 i q e)
      where
        by : (b : Bool) → nat_eq i n ≡ b → (b || is_among i ns) ≡ true → (is_among i ns ≡ true → IsGiven gs q.to) → IsGiven (g ∷ gs) q.to
        by true f k again =
            let same : h.0.number ≡ i = a.0 ∙ sym (eqb-true i n f) in
            let is : h.0.parameter ≡ q = let d : Some h.0.parameter ≡ Some q = sym h.0.there ∙ (ap (slice_get ps) same ∙ e) in cc in
            inl (sym h.0.to ∙ ap (λ (y : Parameter). y.to) is)
        by false f k again = inr (again k)

    in_numbers : (ns : List ℕ) (k : ℕ) → is_among k ns ≡ true → IsIn ns k
    in_numbers [] k e = cc
    in_numbers (n ∷ ns) k e = by (nat_eq k n) refl e (in_numbers ns k)
      where
        by : (b : Bool) → nat_eq k n ≡ b → (b || is_among k ns) ≡ true → (is_among k ns ≡ true → IsIn ns k) → IsIn (n ∷ ns) k
        by true f e again = inl (sym (eqb-true k n f))
        by false f e again = inr (again e)

    -- no two are given to one, where no two have one number and no two parameters one recipient
    given_once : (x : Routine) (block low : ℕ) (ps : List Parameter) (bytes : List ℕ) (gs : List Given) (h : ArePassed p base ls x (here_at block) low ps bytes gs) (ns : List ℕ) → ex.AtNumbers p fine small is_there W first R code now base tables room reached k0 ks r own ar line own_there x block low ps bytes gs h ns → ((i j : ℕ) (q r : Parameter) → slice_get ps i ≡ Some q → slice_get ps j ≡ Some r → q.to ≡ r.to → i ≡ j) → Once ns → AreOnce gs
    given_once x block low ps bytes [] h ns a apart once = tt
    given_once x block low ps bytes (g ∷ gs) h [] a apart once = absurd a
    given_once x block low ps bytes (g ∷ gs) h (n ∷ ns) a apart once = (no_more_of, given_once x block low ps bytes gs h.1 ns a.1 apart once.1)
      where
        no_more_of : IsGiven gs (recipient g) → ⊥
        no_more_of k =
            let r = given_number x block low ps bytes gs h.1 ns a.1 (recipient g) k in
            let same : r.0 ≡ h.0.number = apart r.0 h.0.number r.1 h.0.parameter r.2 h.0.there (r.3 ∙ sym h.0.to) in
            once.0 (subst (IsIn ns) (same ∙ a.0) (in_numbers ns r.0 r.4))

    -- the mask has the numbers of what is given and of the outputs that are asked for
    pub record Written (ps : List Parameter) (ns os : List ℕ) (mask : ℕ) : Type 0 where
      pub has : (i : ℕ) → i < result_place → has_bit mask i ≡ (is_among i ns || is_among i os)
      pub fits : Fits elem.Ulint (pos mask)
      pub outs : (i : ℕ) → is_among i os ≡ true → (q : Parameter) × (slice_get ps i ≡ Some q) × (q.sort ≡ sort.Output)
      pub ins : (i : ℕ) → is_among i ns ≡ true → (q : Parameter) × (slice_get ps i ≡ Some q) × (is_output q.sort ≡ false)

    pub marks_of : (x : Routine) (block low : ℕ) (ps more : List Parameter) (mask : ℕ) (bytes : List ℕ) (gs : List Given) (h : ArePassed p base ls x (here_at block) low ps bytes gs) (ns os : List ℕ) → x.parameters ≡ ps ++ more → length x.parameters < result_place → ((i j : ℕ) (q r : Parameter) → slice_get x.parameters i ≡ Some q → slice_get x.parameters j ≡ Some r → q.to ≡ r.to → i ≡ j)
        → ex.AtNumbers p fine small is_there W first R code now base tables room reached k0 ks r own ar line own_there x block low ps bytes gs h ns → Once ns → Written ps ns os mask → Marks x ps mask gs
    marks_of x block low ps more mask bytes gs h ns os extends few apart at once w = record {
      more = more;
      extends = extends;
      fits = w.fits;
      marked = λ i q e set.
          let l = get_below x.parameters i q e in
          ⊎_elim (λ k. let y = w.ins i k in inr (subst (λ (z : Parameter). IsGiven gs z.to) (here i y.0 q y.1 e) (number_given x block low ps bytes gs h ns at i y.0 y.1 k)))
          (λ k. let y = w.outs i k in inl (ap (λ (z : Parameter). z.sort) (sym (here i y.0 q y.1 e)) ∙ y.2)) (either (is_among i ns) (is_among i os) (sym (w.has i (omega (arith, l, few))) ∙ set));
      unmarked = λ i q e unset k.
          let l = get_below x.parameters i q e in
          let r = given_number x block low ps bytes gs h ns at q.to k in
          let same : r.0 ≡ i = apart r.0 i r.1 q (ap (λ l. slice_get l r.0) extends ∙ front_get ps more r.0 r.1 r.2) e r.3 in
          no_bit (is_among i ns) (is_among i os) (ap (λ j. is_among j ns) (sym same) ∙ r.4) (sym (w.has i (omega (arith, l, few))) ∙ unset);
      asked = λ i l set. ⊎_elim (λ k. let y = w.ins i k in get_below ps i y.0 y.1) (λ k. let y = w.outs i k in get_below ps i y.0 y.1) (either (is_among i ns) (is_among i os) (sym (w.has i l) ∙ set));
      inputs = λ i q e out k.
          let r = given_number x block low ps bytes gs h ns at q.to k in
          let same : r.0 ≡ i = apart r.0 i r.1 q (ap (λ l. slice_get l r.0) extends ∙ front_get ps more r.0 r.1 r.2) e r.3 in
          let y = w.ins r.0 r.4 in
          let is : y.0 ≡ q = here i y.0 q (ap (slice_get ps) (sym same) ∙ y.1) e in
          clash (sym (ap is_output (ap (λ (z : Parameter). z.sort) is ∙ out)) ∙ y.2);
      once = given_once x block low ps bytes gs h ns at (λ i j q r e f to. apart i j q r (ap (λ l. slice_get l i) extends ∙ front_get ps more i q e) (ap (λ l. slice_get l j) extends ∙ front_get ps more j r f) to) once;
    }
      where
        clash : true ≡ false → ⊥
        clash e = cc

        here : (i : ℕ) (y q : Parameter) → slice_get ps i ≡ Some y → slice_get x.parameters i ≡ Some q → y ≡ q
        here i y q e f = let d : Some y ≡ Some q = sym (ap (λ l. slice_get l i) extends ∙ front_get ps more i y e) ∙ f in cc

        either : (a b : Bool) → (a || b) ≡ true → (a ≡ true) ⊎ (b ≡ true)
        either true b e = inl refl
        either false b e = inr e

        no_bit : (a b : Bool) → a ≡ true → (a || b) ≡ false → ⊥
        no_bit true b e f = cc
        no_bit false b e f = cc

    -- ---- the mask that the code has for an argument list

    bits_are : (ps : List Parameter) (i : ℕ) (left : List Parameter) (xs : Arguments Note) → given_bits ps i left xs ≡ bits_sum (written_numbers i left xs)
    bits_are ps i left no_arguments = refl
    bits_are ps i left (argument_then (Positional e) xs) = ap (λ n. 2 ^ next_number i left + n) (bits_are ps (suc (next_number i left)) (behind_next left) xs)
    bits_are ps i left (argument_then (Input a name e) xs) = ap (λ n. 2 ^ parameter_number a.target + n) (bits_are ps i left xs)
    bits_are ps i left (argument_then (Output a name b q ss) xs) = ap (λ n. 2 ^ parameter_number a.target + n) (bits_are ps i left xs)

    or_grouped : (a b c : Bool) → (a || (b || c)) ≡ ((a || b) || c)
    or_grouped true b c = refl
    or_grouped false b c = refl

    or_moved : (a b c : Bool) → (a || (b || c)) ≡ (b || (a || c))
    or_moved true true c = refl
    or_moved true false c = refl
    or_moved false b c = refl

    parted : (i : ℕ) (left : List Parameter) (xs : Arguments Note) (k : ℕ) → is_among k (written_numbers i left xs) ≡ (is_among k (argument_numbers i left xs) || is_among k (output_numbers xs))
    parted i left no_arguments k = refl
    parted i left (argument_then (Positional e) xs) k = ap (λ b. nat_eq k (next_number i left) || b) (parted (suc (next_number i left)) (behind_next left) xs k) ∙ or_grouped (nat_eq k (next_number i left)) _ _
    parted i left (argument_then (Input a name e) xs) k = ap (λ b. nat_eq k (parameter_number a.target) || b) (parted i left xs k) ∙ or_grouped (nat_eq k (parameter_number a.target)) _ _
    parted i left (argument_then (Output a name b q ss) xs) k = ap (λ b. nat_eq k (parameter_number a.target) || b) (parted i left xs k) ∙ or_moved (nat_eq k (parameter_number a.target)) _ _

    abbrev pub AtOutput : List Parameter → ℕ → Type 0
    AtOutput ps k = (q : Parameter) × (slice_get ps k ≡ Some q) × (q.sort ≡ sort.Output)

    abbrev pub AtInput : List Parameter → ℕ → Type 0
    AtInput ps k = (q : Parameter) × (slice_get ps k ≡ Some q) × (is_output q.sort ≡ false)

    first_or_later : {P : Type 0} (n k : ℕ) (b : Bool) → (n ≡ k → P) → (b ≡ true → P) → (nat_eq k n || b) ≡ true → P
    first_or_later {P = P} n k b here later e = by (nat_eq k n) refl e
      where
        by : (t : Bool) → nat_eq k n ≡ t → (t || b) ≡ true → P
        by true f e = here (sym (eqb-true k n f))
        by false f e = later e

    left_output : (x : Routine) (o : Option Parameter) (t : StType) → Leaves p x o t → (q : Parameter) × (o ≡ Some q) × (q.sort ≡ sort.Output)
    left_output x None t h = absurd h
    left_output x (Some q) t h = (q, refl, h.2)

    outputs_there : (x : Routine) (ps left : List Parameter) (xs : Arguments Note) (k : ℕ) → ArgumentsAre p k0.scope x ps left xs → is_among k (output_numbers xs) ≡ true → AtOutput ps k
    outputs_there x ps left no_arguments k h e = cc
    outputs_there x ps left (argument_then (Positional d) xs) k h e = outputs_there x ps (behind_next left) xs k h.2 e
    outputs_there x ps left (argument_then (Input a name d) xs) k h e = outputs_there x ps left xs k h.2 e
    outputs_there x ps left (argument_then (Output a name b q ss) xs) k h e =
        first_or_later (parameter_number a.target) k (is_among k (output_numbers xs))
        (λ same. let o = left_output x (parameter_named ps a) (last_kind (root_note q).kind ss) h.2 in (o.0, ap (slice_get ps) (sym same) ∙ o.1, o.2)) (outputs_there x ps left xs k h.3) e

    next_input : (left : List Parameter) (q : Parameter) → next_parameter left ≡ Some q → is_output q.sort ≡ false
    next_input [] q e = cc
    next_input (r ∷ rs) q e = by (is_output r.sort) refl e (next_input rs q)
      where
        by : (b : Bool) → is_output r.sort ≡ b → (if b then next_parameter rs else Some r) ≡ Some q → (next_parameter rs ≡ Some q → is_output q.sort ≡ false) → is_output q.sort ≡ false
        by true f e g = g e
        by false f e g = let d : r ≡ q = cc in ap (λ (y : Parameter). is_output y.sort) (sym d) ∙ f

    some_suits : (x : Routine) (o : Option Parameter) (d : Expression Note) → Suits p x o d → (q : Parameter) × (o ≡ Some q)
    some_suits x None d h = absurd h
    some_suits x (Some q) d h = (q, refl)

    named_input : (o : Option Parameter) (d : Expression Note) → MayTake o d → (q : Parameter) × (o ≡ Some q) × (is_output q.sort ≡ false)
    named_input None d h = absurd h
    named_input (Some q) d h = (q, refl, h.0)

    -- what the declared parameters ask of the arguments
    abbrev pub FitsOnce : List Parameter → Arguments Note → Type 0
    FitsOnce ps xs = ArgumentsFit p k0.scope ps ps xs × GivenOnce ps xs

    inputs_there : (x : Routine) (ps left : List Parameter) (i : ℕ) (xs : Arguments Note) (k : ℕ) → ((j : ℕ) → slice_get ps (i + j) ≡ slice_get left j) → ArgumentsAre p k0.scope x ps left xs → ArgumentsFit p k0.scope ps left xs → is_among k (argument_numbers i left xs) ≡ true → AtInput ps k
    inputs_there x ps left i no_arguments k at h n e = cc
    inputs_there x ps left i (argument_then (Output a name b q ss) xs) k at h n e = inputs_there x ps left i xs k at h.3 n.3 e
    inputs_there x ps left i (argument_then (Input a name d) xs) k at h n e =
        first_or_later (parameter_number a.target) k (is_among k (argument_numbers i left xs)) (λ same. let o = named_input (parameter_named ps a) d n.1 in (o.0, ap (slice_get ps) (sym same) ∙ o.1, o.2)) (inputs_there x ps left i xs k at h.2 n.2) e
    inputs_there x ps left i (argument_then (Positional d) xs) k at h n e =
        first_or_later (next_number i left) k (is_among k (argument_numbers (suc (next_number i left)) (behind_next left) xs))
        (λ same. let o = some_suits x (next_parameter left) d h.1 in (o.0, ap (slice_get ps) (sym same) ∙ (next_there ps left i at ∙ o.1), next_input left o.0 o.1))
        (inputs_there x ps (behind_next left) (suc (next_number i left)) xs k (behind_there ps left i at) h.2 n.2) e

    pub written_of : (x : Routine) (ps : List Parameter) (xs : Arguments Note) (result : Bool) → ArgumentsAre p k0.scope x ps ps xs → ArgumentsFit p k0.scope ps ps xs → Distinct (written_numbers 0 ps xs) → AllBelow result_place (written_numbers 0 ps xs) → Fits elem.Ulint (pos (given_bits ps 0 ps xs + result_bit result))
        → Written ps (argument_numbers 0 ps xs) (output_numbers xs) (given_bits ps 0 ps xs + result_bit result)
    written_of x ps xs result h n distinct low fits = record {
      has = λ i l. by result i l ∙ parted 0 ps xs i;
      fits = fits;
      outs = λ i e. outputs_there x ps ps xs i h e;
      ins = λ i e. inputs_there x ps ps 0 xs i (λ j. let z : 0 + j ≡ j = omega arith in ap (slice_get ps) z) h n e;
    }
      where
        ns : List ℕ
        ns = written_numbers 0 ps xs

        wider : (ms : List ℕ) → AllBelow result_place ms → AllBelow 64 ms
        wider [] h = tt
        wider (m ∷ ms) h = (let l = h.0 in omega (arith, l), wider ms h.1)

        not_result : (ms : List ℕ) → AllBelow result_place ms → is_among result_place ms ≡ false
        not_result [] h = refl
        not_result (m ∷ ms) h = ap (λ b. b || is_among result_place ms) (ne_eqb result_place m (λ e. let l = h.0 in absurd (omega (arith, l, e)))) ∙ not_result ms h.1

        none_more : (m : ℕ) → m + 0 ≡ m
        none_more m = omega arith

        turned : (a b : ℕ) → a + b ≡ b + a
        turned a b = omega arith

        by : (b : Bool) (i : ℕ) → i < result_place → has_bit (given_bits ps 0 ps xs + result_bit b) i ≡ is_among i ns
        by false i l = ap (λ m. has_bit m i) (none_more (given_bits ps 0 ps xs) ∙ bits_are ps 0 ps xs) ∙ mask_has ns i distinct (wider ns low) (omega (arith, l))
        by true i l =
            ap (λ m. has_bit m i) (turned (given_bits ps 0 ps xs) (2 ^ result_place) ∙ ap (λ m. 2 ^ result_place + m) (bits_are ps 0 ps xs))
            ∙ (mask_has (result_place ∷ ns) i (not_result ns low, distinct) (omega arith, wider ns low) (omega (arith, l))
            ∙ ap (λ b. b || is_among i ns) (ne_eqb i result_place (λ e. absurd (omega (arith, l, e)))))

    -- ---- the mask of SUPER()

    same_once : (i : ℕ) (qs : List Parameter) → Once (same_numbers i qs)
    same_once i [] = tt
    same_once i (q ∷ qs) = by (is_in_out q.sort) (same_once (suc i) qs)
      where
        by : (b : Bool) → Once (same_numbers (suc i) qs) → Once (if b then i ∷ same_numbers (suc i) qs else same_numbers (suc i) qs)
        by true h = (λ k. let l = same_above (suc i) qs i k in absurd (omega (arith, l)), h)
        by false h = h

    same_bits_are : (i : ℕ) (qs : List Parameter) → same_bits i qs ≡ bits_sum (same_numbers i qs)
    same_bits_are i [] = refl
    same_bits_are i (q ∷ qs) = by (is_in_out q.sort) (same_bits_are (suc i) qs)
      where
        by : (b : Bool) → same_bits (suc i) qs ≡ bits_sum (same_numbers (suc i) qs) → (if b then 2 ^ i else 0) + same_bits (suc i) qs ≡ bits_sum (if b then i ∷ same_numbers (suc i) qs else same_numbers (suc i) qs)
        by true h = ap (λ n. 2 ^ i + n) h
        by false h = let e : 0 + same_bits (suc i) qs ≡ same_bits (suc i) qs = omega arith in e ∙ h

    is_false : (b : Bool) → (b ≡ true → ⊥) → b ≡ false
    is_false true h = absurd (h refl)
    is_false false h = refl

    same_distinct : (i : ℕ) (qs : List Parameter) → Distinct (same_numbers i qs)
    same_distinct i [] = tt
    same_distinct i (q ∷ qs) = by (is_in_out q.sort) (same_distinct (suc i) qs)
      where
        by : (b : Bool) → Distinct (same_numbers (suc i) qs) → Distinct (if b then i ∷ same_numbers (suc i) qs else same_numbers (suc i) qs)
        by true h = (is_false (is_among i (same_numbers (suc i) qs)) (λ e. let l = same_above (suc i) qs i (in_numbers (same_numbers (suc i) qs) i e) in absurd (omega (arith, l))), h)
        by false h = h

    same_below : (i : ℕ) (qs : List Parameter) (m : ℕ) → i + length qs ≤ m → AllBelow m (same_numbers i qs)
    same_below i [] m l = tt
    same_below i (q ∷ qs) m l = by (is_in_out q.sort) (same_below (suc i) qs m (omega (arith, l)))
      where
        by : (b : Bool) → AllBelow m (same_numbers (suc i) qs) → AllBelow m (if b then i ∷ same_numbers (suc i) qs else same_numbers (suc i) qs)
        by true h = (omega (arith, l), h)
        by false h = h

    no_output : (o : SectionSort) → is_in_out o ≡ true → is_output o ≡ false
    no_output sort.Output e = cc
    no_output o e = refl

    same_inputs : (ps qs : List Parameter) (i : ℕ) → ((j : ℕ) → slice_get ps (i + j) ≡ slice_get qs j) → (k : ℕ) → IsIn (same_numbers i qs) k → AtInput ps k
    same_inputs ps [] i at k h = absurd h
    same_inputs ps (q ∷ qs) i at k h = by (is_in_out q.sort) refl h (same_inputs ps qs (suc i) (λ j. let e : suc i + j ≡ i + suc j = omega arith in ap (slice_get ps) e ∙ at (suc j)) k)
      where
        here : slice_get ps i ≡ Some q
        here = let e : i ≡ i + 0 = omega arith in ap (slice_get ps) e ∙ at 0

        by : (b : Bool) → is_in_out q.sort ≡ b → IsIn (if b then i ∷ same_numbers (suc i) qs else same_numbers (suc i) qs) k → (IsIn (same_numbers (suc i) qs) k → AtInput ps k) → AtInput ps k
        by true is (inl e) more = (q, subst (λ j. slice_get ps j ≡ Some q) e here, no_output q.sort is)
        by true is (inr h) more = more h
        by false is h more = more h

    or_none : (b : Bool) → b ≡ (b || false)
    or_none true = refl
    or_none false = refl

    no_true : false ≡ true → ⊥
    no_true e = cc

    pub same_written : (ps : List Parameter) → length ps < result_place → Fits elem.Ulint (pos (same_bits 0 ps)) → Written ps (same_numbers 0 ps) [] (same_bits 0 ps)
    same_written ps few fits = record {
      has = λ i l. ap (λ n. has_bit n i) (same_bits_are 0 ps) ∙ (mask_has (same_numbers 0 ps) i (same_distinct 0 ps) (same_below 0 ps 64 (omega (arith, few))) (omega (arith, l)) ∙ or_none (is_among i (same_numbers 0 ps)));
      fits = fits;
      outs = λ i e. absurd (no_true e);
      ins = λ i e. same_inputs ps ps 0 (λ j. let z : 0 + j ≡ j = omega arith in ap (slice_get ps) z) i (in_numbers (same_numbers 0 ps) i e);
    }

    -- ---- a call that is no conversion: what its mask and its arguments are

    below_more : (m k : ℕ) (ns : List ℕ) → m ≤ k → AllBelow m ns → AllBelow k ns
    below_more m k [] l h = tt
    below_more m k (n ∷ ns) l h = (let b = h.0 in omega (arith, b, l), below_more m k ns l h.1)

    numbers_below : (x : Routine) (ps left : List Parameter) (i : ℕ) (xs : Arguments Note) → ((j : ℕ) → slice_get ps (i + j) ≡ slice_get left j) → ArgumentsAre p k0.scope x ps left xs → AllBelow (length ps) (written_numbers i left xs)
    numbers_below x ps left i no_arguments at h = tt
    numbers_below x ps left i (argument_then (Output a name b q ss) xs) at h =
        let o = left_output x (parameter_named ps a) (last_kind (root_note q).kind ss) h.2 in
        (slice_get_within ps (parameter_number a.target) o.0 o.1, numbers_below x ps left i xs at h.3)
    numbers_below x ps left i (argument_then (Input a name d) xs) at h =
        let o = some_suits x (parameter_named ps a) d h.1 in
        (slice_get_within ps (parameter_number a.target) o.0 o.1, numbers_below x ps left i xs at h.2)
    numbers_below x ps left i (argument_then (Positional d) xs) at h =
        let o = some_suits x (next_parameter left) d h.1 in
        (slice_get_within ps (next_number i left) o.0 (next_there ps left i at ∙ o.1), numbers_below x ps (behind_next left) (suc (next_number i left)) xs (behind_there ps left i at) h.2)

    member_in : (ns : List ℕ) (k : ℕ) → IsIn ns k → is_among k ns ≡ true
    member_in [] k h = absurd h
    member_in (n ∷ ns) k h = ⊎_elim (λ e. in_first n ns k e) (λ g. in_later n ns k (member_in ns k g)) h

    not_again : (i : ℕ) (left : List Parameter) (xs : Arguments Note) (n : ℕ) → is_among n (written_numbers i left xs) ≡ false → IsIn (argument_numbers i left xs) n → ⊥
    not_again i left xs n e h = no_true (sym (sym (parted i left xs n) ∙ e) ∙ ap (λ b. b || is_among n (output_numbers xs)) (member_in (argument_numbers i left xs) n h))

    pub once_of : (i : ℕ) (left : List Parameter) (xs : Arguments Note) → Distinct (written_numbers i left xs) → Once (argument_numbers i left xs)
    once_of i left no_arguments h = tt
    once_of i left (argument_then (Output a name b q ss) xs) h = once_of i left xs h.1
    once_of i left (argument_then (Input a name d) xs) h = (not_again i left xs (parameter_number a.target) h.0, once_of i left xs h.1)
    once_of i left (argument_then (Positional d) xs) h = (not_again (suc (next_number i left)) (behind_next left) xs (next_number i left) h.0, once_of (suc (next_number i left)) (behind_next left) xs h.1)

    pub given_written : (x : Routine) (ps : List Parameter) (xs : Arguments Note) (result : Bool) → length ps < result_place → ArgumentsAre p k0.scope x ps ps xs → FitsOnce ps xs → Written ps (argument_numbers 0 ps xs) (output_numbers xs) (given_bits ps 0 ps xs + result_bit result)
    given_written x ps xs result few h g = written_of x ps xs result h g.0 g.1 low (subst (λ n. Fits elem.Ulint (pos (n + result_bit result))) (sym (bits_are ps 0 ps xs)) (fits result))
      where
        low : AllBelow result_place (written_numbers 0 ps xs)
        low = below_more (length ps) result_place (written_numbers 0 ps xs) (omega (arith, few)) (numbers_below x ps ps 0 xs (λ j. let z : 0 + j ≡ j = omega arith in ap (slice_get ps) z) h)

        fits : (b : Bool) → Fits elem.Ulint (pos (bits_sum (written_numbers 0 ps xs) + result_bit b))
        fits true = mask_fits (written_numbers 0 ps xs) true g.1 low
        fits false = mask_fits (written_numbers 0 ps xs) false g.1 low

    -- ---- a method that is called is found

    signed_there : (ms : List Signature) (k : ℕ) (m : Signature) (name : List ℕ) → slice_get ms k ≡ Some m → same_name m.name name ≡ true → (s : ℕ) × (place_of_name p name (map (λ (m : Signature). m.name) ms) ≡ Some s)
    signed_there [] k m name e f = cc
    signed_there (x ∷ ms) zero m name e f = let d : x ≡ m = cc in (0, ap (λ b. if b then Some 0 else table.next_number p (place_of_name p name (map (λ (m : Signature). m.name) ms))) (ap (λ (y : Signature). same_name y.name name) d ∙ f))
    signed_there (x ∷ ms) (suc k) m name e f = by (same_name x.name name) (signed_there ms k m name e f)
      where
        by : (b : Bool) → (s : ℕ) × (place_of_name p name (map (λ (m : Signature). m.name) ms) ≡ Some s) → (s : ℕ) × ((if b then Some 0 else table.next_number p (place_of_name p name (map (λ (m : Signature). m.name) ms))) ≡ Some s)
        by true h = (0, refl)
        by false h = (suc h.0, ap (table.next_number p) h.1)

    signed_in : (o : Option Interface) (k : ℕ) (m : Signature) (name : List ℕ) → slice_get (signatures_at o) k ≡ Some m → same_name m.name name ≡ true → (s : ℕ) × (place_of_name p name (map (λ (m : Signature). m.name) (signatures_of p o)) ≡ Some s)
    signed_in None k m name e f = cc
    signed_in (Some i) k m name e f = signed_there i.methods k m name e f

    has_own : (o : Option ℕ) (q : Path) → HasOwn p fine is_there W first R code now base tables o (Some q)
    has_own None q = tt
    has_own (Some c) q = (q, refl)

    -- the meaning's order
    by_class_order : {V : Type 0} (goal : Run Spot) (find : ℕ → Option Routine) (run : Path → Routine → Run Frame) (result : Frame → Run V) (s : State)
        → ((goal >>= λ spot. there (path_of spot) >>= λ q. class_at_spot p (enter p room) spot >>= λ c. there (find c) >>= λ x. run q x) >>= result) line s
        ≡ (goal >>= λ spot. there (path_of spot) >>= λ q. finding true find spot >>= λ x. (run q x >>= result)) line s
    by_class_order goal find run result s = at_goal (goal line s)
      where
        at_find : (q : Path) (o : Option Routine) (u : State) → go_on (go_on (there o line u) (λ x v. run q x line v)) (λ f t. result f line t) ≡ go_on (there o line u) (λ x v. (run q x >>= result) line v)
        at_find q None u = refl
        at_find q (Some x) u = refl

        at_class : (q : Path) (o : Outcome ℕ) → go_on (go_on o (λ c v. (there (find c) >>= λ x. run q x) line v)) (λ f t. result f line t) ≡ go_on (go_on o (λ c v. there (find c) line v)) (λ x v. (run q x >>= result) line v)
        at_class q (Done c u) = at_find q (find c) u
        at_class q (Fault k l) = refl

        at_path : (spot : Spot) (o : Option Path) (u : State) → go_on (go_on (there o line u) (λ q v. (class_at_spot p (enter p room) spot >>= λ c. there (find c) >>= λ x. run q x) line v)) (λ f t. result f line t) ≡ go_on (there o line u) (λ q v. (finding true find spot >>= λ x. (run q x >>= result)) line v)
        at_path spot None u = refl
        at_path spot (Some q) u = at_class q (class_at_spot p (enter p room) spot line u)

        at_goal : (o : Outcome Spot) → go_on (go_on o (λ spot u. (there (path_of spot) >>= λ q. class_at_spot p (enter p room) spot >>= λ c. there (find c) >>= λ x. run q x) line u)) (λ f t. result f line t) ≡ go_on o (λ spot u. (there (path_of spot) >>= λ q. finding true find spot >>= λ x. (run q x >>= result)) line u)
        at_goal (Done spot u) = at_path spot (path_of spot) u
        at_goal (Fault k l) = refl

    fixed_order : {V : Type 0} (goal : Run Spot) (x : Option Routine) (run : Path → Routine → Run Frame) (result : Frame → Run V) (s : State)
        → ((goal >>= λ spot. there (path_of spot) >>= λ q. there x >>= λ x. run q x) >>= result) line s
        ≡ (goal >>= λ spot. there (path_of spot) >>= λ q. finding false (λ _. x) spot >>= λ x. (run q x >>= result)) line s
    fixed_order goal x run result s = at_goal (goal line s)
      where
        at_find : (q : Path) (o : Option Routine) (u : State) → go_on (go_on (there o line u) (λ x v. run q x line v)) (λ f t. result f line t) ≡ go_on (there o line u) (λ x v. (run q x >>= result) line v)
        at_find q None u = refl
        at_find q (Some x) u = refl

        at_path : (spot : Spot) (o : Option Path) (u : State) → go_on (go_on (there o line u) (λ q v. (there x >>= λ x. run q x) line v)) (λ f t. result f line t) ≡ go_on (there o line u) (λ q v. (finding false (λ _. x) spot >>= λ x. (run q x >>= result)) line v)
        at_path spot None u = refl
        at_path spot (Some q) u = at_find q x u

        at_goal : (o : Outcome Spot) → go_on (go_on o (λ spot u. (there (path_of spot) >>= λ q. there x >>= λ x. run q x) line u)) (λ f t. result f line t) ≡ go_on o (λ spot u. (there (path_of spot) >>= λ q. finding false (λ _. x) spot >>= λ x. (run q x >>= result)) line u)
        at_goal (Done spot u) = at_path spot (path_of spot) u
        at_goal (Fault k l) = refl

    -- the arguments end behind the block
    pub arguments_above : (free : ℕ) (ps left : List Parameter) (xs : Arguments Note) → free ≤ arguments_end plan free ps left xs
    arguments_above free ps left no_arguments = omega arith
    arguments_above free ps left (argument_then (Positional e) xs) = let h = arguments_above (free + passed_room plan (next_parameter left) (kind e)) ps (behind_next left) xs in omega (arith, h)
    arguments_above free ps left (argument_then (Input a name e) xs) = let h = arguments_above (free + passed_room plan (parameter_named ps a) (kind e)) ps left xs in omega (arith, h)
    arguments_above free ps left (argument_then (Output a name b q ss) xs) = arguments_above free ps left xs

    -- ---- what a result is read from

    first_held : (vs : List Variable) (slots : List Slot) (v : Variable) → slice_get vs 0 ≡ Some v → is_in_out v.sort ≡ false → SlotsAre p fine F W gs vs slots → (w : Value) × (held_by (slice_get slots 0) ≡ Some w)
    first_held [] slots v e i h = cc
    first_held (y ∷ vs) [] v e i h = absurd h
    first_held (y ∷ vs) (holds w ∷ slots) v e i h = (w, refl)
    first_held (y ∷ vs) (bound spot ∷ slots) v e i h = let d : y ≡ v = cc in absurd (no_true (sym (ap (λ (z : Variable). is_in_out z.sort) d ∙ i) ∙ h.0.0))
    first_held (y ∷ vs) (unbound ∷ slots) v e i h = let d : y ≡ v = cc in absurd (no_true (sym (ap (λ (z : Variable). is_in_out z.sort) d ∙ i) ∙ h.0))

    first_typed : (x : Routine) (f : Frame) (v : Variable) (w : Value) (t : StType) → IsNoInstance t → v.kind ≡ t → slice_get x.locals 0 ≡ Some v → SlotsAre p fine F W gs x.locals f.locals → frame_value (Some f) 0 ≡ Some w → OfKind p F t w
    first_typed x f v w t plain is e slots there_is =
        let a = slot_fits p fine F W gs x.locals f.locals 0 v w slots e there_is in
        let u = within_bound p v.kind a.1.0 a.1.1 in
        subst (λ y. OfKind p F y w) is (of_place p F v.kind a.1.0 w (subst IsNoInstance (sym is) plain) u a.1.3)

    block_gone : (free free' : ℕ) (bs : List ℕ) (kept : List Kept) (s : State) (m : Memory) → Now_shown free' (record { from = free; bytes = bs } ∷ kept) s m → Now_shown free kept s m
    block_gone free free' bs kept s m sh = record { regions = sh.regions; frames = kept_less p base (record k0 { free = free' }) ks s.frames m.locals free (record { from = free; bytes = bs }) kept refl sh.frames; deep = sh.deep; moment = sh.moment }

    -- ---- the bit of the result

    none_of : (n : ℕ) (ns : List ℕ) → AllBelow n ns → is_among n ns ≡ false
    none_of n [] h = refl
    none_of n (k ∷ ns) h = ap (λ b. b || is_among n ns) (not_same k n (let l = h.0 in omega (arith, l))) ∙ none_of n ns h.1
      where
        not_same : (k n : ℕ) → k < n → nat_eq n k ≡ false
        not_same k n l = let d : k ≢ n = λ e. absurd (omega (arith, e, l)) in is_false (nat_eq n k) (λ e. d (sym (eqb-true n k e)))

    result_unasked : (ns : List ℕ) → Distinct ns → AllBelow result_place ns → has_bit (bits_sum ns) result_place ≡ false
    result_unasked ns d low = mask_has ns result_place d (below_more result_place 64 ns (omega arith) low) (omega arith) ∙ none_of result_place ns low

    result_asked : (ns : List ℕ) → Distinct ns → AllBelow result_place ns → has_bit (bits_sum ns + 2 ^ result_place) result_place ≡ true
    result_asked ns d low =
        let swap : bits_sum ns + 2 ^ result_place ≡ bits_sum (result_place ∷ ns) = let e : (a b : ℕ) → a + b ≡ b + a = λ a b. omega arith in e (bits_sum ns) (2 ^ result_place) in
        ap (λ n. has_bit n result_place) swap ∙ mask_has (result_place ∷ ns) result_place (none_of result_place ns low, d) (omega arith, below_more result_place 64 ns (omega arith) low) (omega arith)

    -- SUPER(): its mask is not that of the arguments
    abbrev pub IsSuper : Callee → Type 0
    IsSuper (a_body (from_class d)) = Unit {0}
    IsSuper c = ⊥

    no_super : (c : Callee) (t : StType) → IsSuper c → ConversionIs c t → ⊥
    no_super (a_body s) t h k = k
    no_super c t h k = absurd h

    -- ---- the call, from the target on

    grouped : (own_c arguments_c rooms_c mask_c : List Cell) (x y z : Cell) (co ct : List Cell) → (own_c ++ (arguments_c ++ (rooms_c ++ (mask_c ++ (x ∷ (y ∷ (z ∷ co))))))) ++ ct ≡ (own_c ++ arguments_c) ++ ((rooms_c ++ mask_c) ++ (x ∷ (y ∷ (z ∷ (co ++ ct)))))
    grouped own_c arguments_c rooms_c mask_c x y z co ct =
        append_assoc own_c (arguments_c ++ (rooms_c ++ (mask_c ++ (x ∷ (y ∷ (z ∷ co)))))) ct
        ∙ (ap (λ l. own_c ++ l) (append_assoc arguments_c (rooms_c ++ (mask_c ++ (x ∷ (y ∷ (z ∷ co))))) ct
        ∙ ap (λ l. arguments_c ++ l) (append_assoc rooms_c (mask_c ++ (x ∷ (y ∷ (z ∷ co)))) ct ∙ (ap (λ l. rooms_c ++ l) (append_assoc mask_c (x ∷ (y ∷ (z ∷ co))) ct) ∙ sym (append_assoc rooms_c mask_c (x ∷ (y ∷ (z ∷ (co ++ ct))))))))
        ∙ sym (append_assoc own_c arguments_c ((rooms_c ++ mask_c) ++ (x ∷ (y ∷ (z ∷ (co ++ ct)))))))

    -- ---- what is asked of the block

    abbrev pub rooms_for : Bool → ℕ → Arguments Note → List Room
    rooms_for true far xs = []
    rooms_for false far xs = rooms.rooms_at p fine small is_there W first R code now base tables room reached k0 ks r own ar line own_there far xs

    -- outputs of a body stand in its instance, and are not asked of the block
    abbrev pub asks_for : Bool → ℕ → Arguments Note → Option Below → Option ℤ → Asks
    asks_for keeps far xs res o = record { own = o; rooms = rooms_for keeps far xs; result = res }

    -- what is kept below the block: a large result comes there
    abbrev pub RestOf : Option Below → List Kept → List Kept → Type 0
    RestOf None kept rest = rest ≡ kept
    RestOf (Some b) kept rest = (bytes : List ℕ) × (length bytes ≡ bytes_of p b.kind) × (rest ≡ record { from = b.from; bytes = bytes } ∷ kept)

    abbrev pub Opens : Option Below → ℕ → ℕ → Type 0
    Opens None free block = block ≡ free
    Opens (Some b) free block = (b.from ≡ free) × (block ≡ free + bytes_of p b.kind)

    long_is_low : (free : ℕ) (kept : List Kept) (s : State) (m : Memory) → Now_shown free kept s m → k0.long < 4294967296
    long_is_low free kept s m sh = by s.frames sh.frames
      where
        by : (fs : List Frame) → FramesShown p base (kept_at free kept) fs m.locals → k0.long < 4294967296
        by [] h = absurd h
        by (f ∷ fs) h = h.0.short

    rest_open : (res : Option Below) (free block : ℕ) (kept : List Kept) (s : State) (m : Memory) → Opens res free block → block ≤ k0.long → Now_shown free kept s m → (rest : List Kept) × RestOf res kept rest × Now_shown block rest s m
    rest_open None free block kept s m o l sh = (kept, refl, subst (λ n. Now_shown n kept s m) (sym o) sh)
    rest_open (Some b) free block kept s m o l sh =
        let at = o.1 in
        let h = block_open free (bytes_of p b.kind) kept s m sh (omega (arith, at, l)) in (
          record { from = b.from; bytes = h.0 } ∷ kept,
          (h.0, h.1, refl),
          subst (λ n. Now_shown block (record { from = n; bytes = h.0 } ∷ kept) s m) (sym o.0) (subst (λ n. Now_shown n (record { from = free; bytes = h.0 } ∷ kept) s m) (sym o.1) h.2),
        )

    below_low : (res : Option Below) (free block : ℕ) → Opens res free block → block < 4294967296 → rooms.ResultLow p fine small is_there W first R code now base tables room reached k0 ks r own ar line own_there res
    below_low None free block o l = tt
    below_low (Some b) free block o l = let e = o.0 in let f = o.1 in omega (arith, e, f, l)

    -- bytes that are of no output
    outside_above : (xs : Arguments Note) (j n : ℕ) → ((i : ℕ) → IsIn (output_numbers xs) i → of_parameter i + 8 ≤ j) → OutsideOutputs xs j n
    outside_above no_arguments j n h = tt
    outside_above (argument_then (Output a name b q ss) xs) j n h = (inl (h (parameter_number a.target) (inl refl)), outside_above xs j n (λ i k. h i (inr k)))
    outside_above (argument_then (Input a name e) xs) j n h = outside_above xs j n h
    outside_above (argument_then (Positional e) xs) j n h = outside_above xs j n h

    outside_below : (xs : Arguments Note) (j n : ℕ) → j + n ≤ 24 → OutsideOutputs xs j n
    outside_below no_arguments j n l = tt
    outside_below (argument_then (Output a name b q ss) xs) j n l = (inr (omega (arith, l)), outside_below xs j n l)
    outside_below (argument_then (Input a name e) xs) j n l = outside_below xs j n l
    outside_below (argument_then (Positional e) xs) j n l = outside_below xs j n l

    -- what is passed stays where the addresses of rooms are written
    rooms_passed : (x : Routine) (xs : Arguments Note) (block low : ℕ) (ps : List Parameter) (bytes left : List ℕ) (gs : List Given) (h : ArePassed p base ls x (here_at block) low ps bytes gs) (ns : List ℕ) → ex.AtNumbers p fine small is_there W first R code now base tables room reached k0 ks r own ar line own_there x block low ps bytes gs h ns → ((n : ℕ) → IsIn ns n → IsIn (output_numbers xs) n → ⊥) → ((i : ℕ) → IsIn (output_numbers xs) i → of_parameter i + 8 ≤ low) → 8 ≤ low → length left ≡ length bytes
        → ((j n : ℕ) → OutsideOutputs xs j n → of_result + 8 ≤ j → j + n ≤ length bytes → slice_range left j (j + n) ≡ slice_range bytes j (j + n)) → ArePassed p base ls x (here_at block) low ps left gs
    rooms_passed x xs block low ps bytes left [] h ns a apart inside wide long others = tt
    rooms_passed x xs block low ps bytes left (g ∷ gs) h [] a apart inside wide long others = absurd a
    rooms_passed x xs block low ps bytes left (g ∷ gs) h (n ∷ ns) a apart inside wide long others = (
      ex.still_passed p fine small is_there W first R code now base tables room reached k0 ks r own ar line own_there x block low ps bytes left g h.0 (others (of_parameter h.0.number) 8 (other_output h.0.number xs (λ k. apart h.0.number (inl (sym a.0)) k)) (omega arith) h.0.inside) (omega (arith, long)) (λ j i above l. others j i (outside_above xs j i (λ k is. let y = inside k is in omega (arith, y, above))) (omega (arith, above, wide)) l),
      rooms_passed x xs block low ps bytes left gs h.1 ns a.1 (λ k is. apart k (inr is)) inside wide long others,
    )

    -- the outputs that are taken are different
    outs_once : (i : ℕ) (left : List Parameter) (xs : Arguments Note) → Distinct (written_numbers i left xs) → Once (output_numbers xs)
    outs_once i left no_arguments h = tt
    outs_once i left (argument_then (Output a name b q ss) xs) h = ((λ k. none_again (is_among (parameter_number a.target) (argument_numbers i left xs)) (is_among (parameter_number a.target) (output_numbers xs)) (member_in (output_numbers xs) (parameter_number a.target) k) (sym (parted i left xs (parameter_number a.target)) ∙ h.0)), outs_once i left xs h.1)
      where
        none_again : (a b : Bool) → b ≡ true → (a || b) ≡ false → ⊥
        none_again true b e f = cc
        none_again false b e f = no_true (sym f ∙ e)
    outs_once i left (argument_then (Input a name d) xs) h = outs_once i left xs h.1
    outs_once i left (argument_then (Positional d) xs) h = outs_once (suc (next_number i left)) (behind_next left) xs h.1

    either_in : (a b : Bool) → (a || b) ≡ true → (a ≡ true) ⊎ (b ≡ true)
    either_in true b e = inl refl
    either_in false b e = inr e

    -- of which a bit is set, are called
    asked_below : (ps : List Parameter) (ns os : List ℕ) (mask : ℕ) → Written ps ns os mask → (i : ℕ) → i < result_place → has_bit mask i ≡ true → i < length ps
    asked_below ps ns os mask w i l set = ⊎_elim (λ k. let y = w.ins i k in get_below ps i y.0 y.1) (λ k. let y = w.outs i k in get_below ps i y.0 y.1) (either_in (is_among i ns) (is_among i os) (sym (w.has i l) ∙ set))

    -- the block has room for all that is asked for
    call_rooms : (keeps : Bool) (whole : StType) (q : Option Path) (o : Option ℤ) (x : Routine) (ps more : List Parameter) (mask : ℕ) (ns os : List ℕ) (xs : Arguments Note) (block size1 : ℕ) (res : Option Below) (rest : List Kept) (left : List ℕ)
        → RoutineIs p x → Each (ParameterIs p x) ps → out.OutputsStand p fine small is_there W first R code now base tables room reached k0 ks r own ar line own_there keeps whole ps x q o → ArgumentsAre p k0.scope x ps ps xs → Once (output_numbers xs) → x.parameters ≡ ps ++ more → length x.parameters < result_place → Written ps ns os mask → (keeps ≡ false → os ≡ output_numbers xs)
        → behind_outputs plan (block + block_size (length ps)) xs ≤ block + size1 → size1 ≤ length left → block + size1 < 4294967296 → base + length (k0 ∷ ks) ≤ 2147483647 → OwnHeld o left → rooms.RoomsKept p fine small is_there W first R code now base tables room reached k0 ks r own ar line own_there left (block + block_size (length ps)) xs → ResultAsked p base x (here_at block) mask left rest res
        → RoomsAre p base x (here_at block) left mask rest (asks_for keeps (block_size (length ps)) xs res o)
    call_rooms keeps whole q o x ps more mask ns os xs block size1 res rest left ok each stands h once declared few w os_is room_high grows low_enough deep own_held words_kept result = record {
      own_held = own_held;
      low = block_size (length ps);
      wide = omega arith;
      words = λ i l set. let k = asked_below ps ns os mask w i l set in omega (arith, k);
      outputs = outputs_by keeps stands os_is;
      each = each_by keeps os_is stands;
      apart = apart_by keeps;
      result = result;
    }
      where
        high : behind_outputs plan (block_size (length ps)) xs ≤ size1
        high = let e = rooms.behind_moved p fine small is_there W first R code now base tables room reached k0 ks r own ar line own_there block (block_size (length ps)) xs in omega (arith, e, room_high)

        -- an output that is asked for is one of those that are called
        among_outputs : (i : ℕ) (y : Parameter) → slice_get x.parameters i ≡ Some y → y.sort ≡ sort.Output → has_bit mask i ≡ true → (slice_get ps i ≡ Some y) × (is_among i os ≡ true)
        among_outputs i y there sorted set =
            let l = get_below x.parameters i y there in
            ⊎_elim (λ k. let z = w.ins i k in absurd (no_true (sym z.2 ∙ (ap (λ (v : Parameter). is_output v.sort) (same z.0 z.1) ∙ ap is_output sorted)))) (λ k. let z = w.outs i k in (z.1 ∙ ap (λ v. Some v) (same z.0 z.1), k))
            (either_in (is_among i ns) (is_among i os) (sym (w.has i (omega (arith, l, few))) ∙ set))
          where
            same : (v : Parameter) → slice_get ps i ≡ Some v → v ≡ y
            same v e = let d : Some v ≡ Some y = sym (ap (λ l. slice_get l i) declared ∙ front_get ps more i v e) ∙ there in cc

        no_variable : (k n : ℕ) → to_variable k ≡ to_local n → ⊥
        no_variable k n e = cc

        outputs_by : (b : Bool) → out.OutputsStand p fine small is_there W first R code now base tables room reached k0 ks r own ar line own_there b whole ps x q o → (b ≡ false → os ≡ output_numbers xs) → (i n : ℕ) (y : Parameter) (v : Variable) → slice_get x.parameters i ≡ Some y → y.sort ≡ sort.Output → y.to ≡ to_local n → slice_get x.locals n ≡ Some v → has_bit mask i ≡ true → is_large v.kind ≡ true → (d : Room) × IsRoom (rooms_for b (block_size (length ps)) xs) d × (d.number ≡ i)
        outputs_by true k e i n y v there sorted to local set large = let a = among_outputs i y there sorted set in let z = k.variables i y a.0 sorted in absurd (no_variable z.0 n (sym z.1 ∙ to))
        outputs_by false k e i n y v there sorted to local set large = let a = among_outputs i y there sorted set in rooms.rooms_found p fine small is_there W first R code now base tables room reached k0 ks r own ar line own_there xs x ps ps (block_size (length ps)) i n y v h (in_numbers (output_numbers xs) i (ap (is_among i) (sym (e refl)) ∙ a.1)) a.0 to local large

        right_in : (a b : Bool) → b ≡ true → (a || b) ≡ true
        right_in true b e = refl
        right_in false b e = e

        room_is : os ≡ output_numbers xs → out.OutputsStand p fine small is_there W first R code now base tables room reached k0 ks r own ar line own_there false whole ps x q o → (d : Room) → IsRoom (rooms.rooms_at p fine small is_there W first R code now base tables room reached k0 ks r own ar line own_there (block_size (length ps)) xs) d → RoomIs p base x (here_at block) (block_size (length ps)) mask left d
        room_is e k d is =
            let g = rooms.rooms_known p fine small is_there W first R code now base tables room reached k0 ks r own ar line own_there xs x ps ps (block_size (length ps)) (block_size (length ps)) size1 ok each k h (omega arith) high d is in
            let below = g.below in
            let kept = kept_local p base (base + length ks) (block + d.far) (omega (arith, deep)) (omega (arith, below, low_enough)) in
            let word_is = rooms.rooms_lead p fine small is_there W first R code now base tables room reached k0 ks r own ar line own_there xs left block (block_size (length ps)) words_kept d is in
            let same : word_is.z ≡ pos (kept_number p base (here_at (block + d.far))) = goes_once (sym word_is.is ∙ kept.keeps) in
            let l = get_below ps d.number g.parameter g.there in
            let begun : slice_get x.parameters d.number ≡ Some g.parameter = ap (λ l. slice_get l d.number) declared ∙ front_get ps more d.number g.parameter g.there in
            let below_few = get_below x.parameters d.number g.parameter begun in
            record {
              parameter = g.parameter;
              local = g.local;
              variable = g.variable;
              there = begun;
              sorted = g.sorted;
              to = g.to;
              in_locals = g.in_locals;
              kind_is = g.kind_is;
              large = g.large;
              asked = w.has d.number (omega (arith, below_few, few)) ∙ right_in (is_among d.number ns) (is_among d.number os) (ap (is_among d.number) e ∙ member_in (output_numbers xs) d.number g.numbered);
              shape = g.shape;
              has_shape = g.has_shape;
              above = g.above;
              inside = omega (arith, below, grows);
              word_there = subst (λ z. Holds elem.Ulint z left (of_parameter d.number)) same word_is.holds_it;
              decodes = kept.decodes;
            }

        each_by : (b : Bool) → (b ≡ false → os ≡ output_numbers xs) → out.OutputsStand p fine small is_there W first R code now base tables room reached k0 ks r own ar line own_there b whole ps x q o → (d : Room) → IsRoom (rooms_for b (block_size (length ps)) xs) d → RoomIs p base x (here_at block) (block_size (length ps)) mask left d
        each_by true e k d is = absurd is
        each_by false e k d is = room_is (e refl) k d is

        apart_by : (b : Bool) → (d s : Room) → IsRoom (rooms_for b (block_size (length ps)) xs) d → IsRoom (rooms_for b (block_size (length ps)) xs) s → (d ≡ s) ⊎ RoomsApart p base d s
        apart_by true d s i j = absurd i
        apart_by false d s i j = rooms.rooms_apart p fine small is_there W first R code now base tables room reached k0 ks r own ar line own_there xs (block_size (length ps)) once d s i j

    -- the block is open
    pub record Opened (kept_own : Option ℤ) (size free block : ℕ) (rest : List Kept) (s : State) (m : Memory) : Type 0 where
      pub bytes : List ℕ
      pub long : length bytes ≡ size
      pub own_held : OwnHeld kept_own bytes
      pub shown : Shown p base is_there now (with_block p base (record k0 { free = free }) block bytes rest ∷ ks) m s

    module _ (calls : CallRuns p fine is_there W first R code now base tables room) (at_depth : room + (base + length ks) ≡ limit) (known_tables : TablesAre p fine is_there W first R code now base tables) (known_routines : (x : Routine) → R x → RoutineIs p x) (placed_so : OutputsPlaced p) where
      -- ---- the arguments, the rooms, the mask and the routine, where the instance or NULL is on top

      abbrev rooms_code : Arguments Note → List Parameter → Option Below → ℕ → List Cell
      rooms_code xs ps res block = output_rooms plan line block (block + block_size (length ps)) xs ++ rooms.result_words p fine small is_there W first R code now base tables room reached k0 ks r own ar line own_there res block

      entered_run : {V : Type 0} (x : Routine) (n : ℕ) (q : Option Path) (callee_own : Option Address) (o : Op) (w : Word) (xs : Arguments Note) (ps more : List Parameter) (mask block size1 size : ℕ) (asks : Asks) (res : Option Below) (numbers os : List ℕ) (own_c ca co ct : List Cell)
          (arguments_of : Run (List Given)) (outputs_of : Option Path → Frame → Run (Unit {0})) (result : Frame → Run V) (after : V → List Word) (done : V → State → Memory → Type 0) (rest : List Kept) (pc : ℕ) (ws : List Word) (s : State) (m : Memory)
          → R x → OwnIs p fine F W x.class q → HasOwn p fine is_there W first R code now base tables x.class q → IsOwn p fine is_there W first R code now base tables q callee_own → CodeOf p fine is_there W first R code now base tables x n
          → x.parameters ≡ ps ++ more → length x.parameters < result_place → Once numbers → Written ps numbers os mask → block_size (length ps) ≤ size1 → size1 ≤ size → block + size1 ≤ k0.long → Fair gs s → Now_shown block rest s m
          → Once (output_numbers xs) → ((i : ℕ) → IsIn (output_numbers xs) i → AtOutput ps i) → behind_outputs plan (block + block_size (length ps)) xs ≤ block + size1 → rooms.ResultLow p fine small is_there W first R code now base tables room reached k0 ks r own ar line own_there res
          → ((left : List ℕ) → length left ≡ size → OwnHeld asks.own left → rooms.RoomsKept p fine small is_there W first R code now base tables room reached k0 ks r own ar line own_there left (block + block_size (length ps)) xs → rooms.ResultKept p fine small is_there W first R code now base tables room reached k0 ks r own ar line own_there res left → RoomsAre p base x (here_at block) left mask rest asks)
          → Stands code now r pc ((own_c ++ ca) ++ ((rooms_code xs ps res block ++ mask_code line (block + of_mask) mask) ++ (does (op.Local block) line ∷ (does op.Tick line ∷ (does o line ∷ (co ++ ct))))))
          → ((bytes : List ℕ) → length bytes ≡ size1 → Shown p base is_there now (with_block p base (record k0 { free = block + size1 }) block bytes rest ∷ ks) m s → Stands code now r pc own_c
          → From (cfg pc (w ∷ ws) s m) (λ (_ : Unit {0}) t y. cfg (pc + length own_c) (w ∷ ws) t y) (λ _ t y. Opened asks.own size1 (block + size1) block rest t y) (Done tt s))
          → ((bytes : List ℕ) (at : ℕ) (y : Memory) → length bytes ≡ size1 → Shown p base is_there now (with_block p base (record k0 { free = block + size1 }) block bytes rest ∷ ks) y s → Stands code now r at ca
          → From (cfg at (w ∷ ws) s y) (λ _ t y. cfg (at + length ca) (w ∷ ws) t y) (ex.Passes p fine small is_there W first R code now base tables room reached k0 ks r own ar line own_there x ps (block + size) block rest bytes numbers) (arguments_of line s))
          → Typed_run arguments_of (GivenAre p fine F W gs x.class x.locals)
          → ((at : ℕ) (t : State) (y : Memory) → Now_shown_block (block + size) block rest t y → act code now o line (cfg at (word.Address (here_at block) ∷ (w ∷ ws)) t y) ≡ enters code n callee_own (word.Address (here_at block) ∷ []) ws line (cfg at (word.Address (here_at block) ∷ (w ∷ ws)) t y))
          → ((f : Frame) (at : ℕ) (t : State) (y : Memory) → Returned p base is_there now (record k0 { free = block + size }) ks block rest x.parameters size asks mask f t y → SlotsAre p fine F W gs x.locals f.locals → Fair gs t → Stands code now r at co → From (cfg at ws t y) (λ (_ : Unit {0}) t y. cfg (at + length co) ws t y) (λ _ t y. Returned p base is_there now (record k0 { free = block + size1 }) ks block rest ps size1 asks mask f t y) (outputs_of q f line t))
          → ((f : Frame) (at : ℕ) (t : State) (y : Memory) → Returned p base is_there now (record k0 { free = block + size1 }) ks block rest ps size1 asks mask f t y → SlotsAre p fine F W gs x.locals f.locals → Stands code now r at ct
          → From (cfg at ws t y) (λ v t y. cfg (at + length ct) (after v) t y) done (result f line t))
          → From (cfg pc (w ∷ ws) s m) (λ v t y. cfg (pc + length (own_c ++ ca) + length (rooms_code xs ps res block ++ mask_code line (block + of_mask) mask) + 1 + 1 + 1 + length co + length ct) (after v) t y) done
          ((run_routine p (enter p room) x q arguments_of outputs_of >>= result) line s)
      entered_run x n q callee_own o w xs ps more mask block size1 size asks res numbers os own_c ca co ct arguments_of outputs_of result after done rest pc ws s m reach on_own has_own io of declared few once written big grows room_there fair sh outs_apart outs_are rooms_low res_low rooms_hyp has own_hyp args_hyp typed acts outs takes =
          let free = block + size in
          let opened_block = block_open block size1 rest s m sh room_there in
          let low = long_is_low block rest s m sh in
          let cr = rooms_code xs ps res block in
          let cm = cr ++ mask_code line (block + of_mask) mask in
          routine_run calls o w x n q callee_own (own_c ++ ca) cm co ct arguments_of outputs_of result after done
          (λ given t y. (before : (bytes : List ℕ) × OwnHeld asks.own bytes) × ex.Passes p fine small is_there W first R code now base tables room reached k0 ks r own ar line own_there x ps free block rest before.0 numbers given t y) size mask free block size1 (block + size1) ps asks rest pc ws s m reach few on_own has_own io of at_depth fair has
          (λ has'.
          let at_end : pc + length own_c + length ca ≡ pc + length (own_c ++ ca) = omega (arith, length-append own_c ca) in
          subst (λ j. From (cfg pc (w ∷ ws) s m) (λ _ t y. cfg j (w ∷ ws) t y) (λ given t y. (before : (bytes : List ℕ) × OwnHeld asks.own bytes) × ex.Passes p fine small is_there W first R code now base tables room reached k0 ks r own ar line own_there x ps free block rest before.0 numbers given t y) (arguments_of line s)) at_end
          (ends.and_then code now (λ (_ : Unit {0}) t y. cfg (pc + length own_c) (w ∷ ws) t y) (λ _ t y. Opened asks.own size1 (block + size1) block rest t y) (own_hyp opened_block.0 opened_block.1 opened_block.2 (ends.front code now r pc own_c ca has')) (λ y2 k.
          ends.and_leads code now (λ _ t y. cfg (pc + length own_c + length ca) (w ∷ ws) t y) (ex.Passes p fine small is_there W first R code now base tables room reached k0 ks r own ar line own_there x ps free block rest k.bytes numbers) (args_hyp k.bytes (pc + length own_c) y2 k.long k.shown (ends.back code now r pc own_c ca has'))
          (λ given t y pass _. ends.stays code now given t y ((k.bytes, k.own_held), pass)))))
          typed
          (λ given t y pass has'.
          let at = pc + length (own_c ++ ca) in
          let long = pass.1.long in
          let has_m = ends.back code now r at cr (mask_code line (block + of_mask) mask) has' in
          let at_end : at + length cr + 1 + 1 + 1 ≡ at + length cm = omega (arith, length-append cr (mask_code line (block + of_mask) mask)) in
          let below : (i : ℕ) → IsIn (output_numbers xs) i → of_parameter i + 8 ≤ block_size (length ps) = λ i is. let k = outs_are i is in let l = get_below ps i k.0 k.1 in omega (arith, l) in
          ends.and_then code now (λ (_ : Unit {0}) t y. cfg (at + length cr) (w ∷ ws) t y) (λ _ t y. rooms.AllRooms p fine small is_there W first R code now base tables room reached k0 ks r own ar line own_there (record k0 { free = free }) block pass.1.bytes rest (block + block_size (length ps)) xs res t y)
          (rooms.all_rooms_run p fine small is_there W first R code now base tables room reached k0 ks r own ar line own_there xs (block + block_size (length ps)) res at (record k0 { free = free }) block pass.1.bytes rest (w ∷ ws) t y outs_apart (λ i is. let l = below i is in omega (arith, l, big, grows, long)) (omega (arith, at_depth)) (omega (arith, rooms_low, room_there, low)) res_low (omega (arith, big, grows, long)) pass.1.shown (ends.front code now r at cr (mask_code line (block + of_mask) mask) has'))
          (λ y2 g.
          let g_long = g.long in
          let left_long : length g.left ≡ size = omega (arith, g_long, long) in
          subst (λ j. From (cfg (at + length cr) (w ∷ ws) t y2) (λ (_ : Unit {0}) t y. cfg j (w ∷ ws) t y) (λ _ t y. Given_in asks x size mask free block rest given t y) (Done tt t)) at_end
          (mask_run x ps mask size free block asks rest given (at + length cr) (w ∷ ws) t y2 (omega (arith, big, grows)) few
          (marks_of x block (block_size (length ps)) ps more mask pass.1.bytes given pass.1.passed numbers os declared few (known_routines x reach).apart.by pass.1.numbered once written)
          (record {
            bytes = g.left;
            long = left_long;
            passed = rooms_passed x xs block (block_size (length ps)) ps pass.1.bytes g.left given pass.1.passed numbers pass.1.numbered (λ k in_numbers is. clash_at ps k (written.ins k (member_in numbers k in_numbers)) (outs_are k is)) below (omega arith) g.long g.others;
            rooms_are = rooms_hyp g.left left_long (own_stays asks.own pass.0.0 g.left (g.others of_own 8 (outside_below xs of_own 8 (omega arith)) (omega arith) (omega (arith, big, grows, long)) ∙ pass.1.same_own) pass.0.1) g.rooms g.result;
            shown = g.shown;
          }) has_m)))
          acts
          outs
          takes
        where
          -- no input is an output
          clash_at : (ps : List Parameter) (k : ℕ) → AtInput ps k → AtOutput ps k → ⊥
          clash_at ps k i o = let same : i.0 ≡ o.0 = let d : Some i.0 ≡ Some o.0 = sym i.1 ∙ o.1 in cc in no_true (sym i.2 ∙ (ap (λ (y : Parameter). is_output y.sort) same ∙ ap is_output o.2))

      -- the arguments that are written
      argued_run : {V : Type 0} (x : Routine) (n : ℕ) (q : Option Path) (callee_own : Option Address) (o : Op) (w : Word) (xs : Arguments Note) (ps more : List Parameter) (withr keeps : Bool) (whole : StType) (block size1 size : ℕ) (res : Option Below) (kept_own : Option ℤ) (own_c ca co ct : List Cell)
          (result : Frame → Run V) (after : V → List Word) (done : V → State → Memory → Type 0) (rest : List Kept) (pc : ℕ) (ws : List Word) (s : State) (m : Memory)
          → R x → OwnIs p fine F W x.class q → HasOwn p fine is_there W first R code now base tables x.class q → IsOwn p fine is_there W first R code now base tables q callee_own → ((left : List ℕ) → (withr ≡ false → has_bit (given_bits ps 0 ps xs + result_bit withr) result_place ≡ false) → 24 ≤ length left → rooms.ResultKept p fine small is_there W first R code now base tables room reached k0 ks r own ar line own_there res left → ResultAsked p base x (here_at block) (given_bits ps 0 ps xs + result_bit withr) left rest res) → out.OutputsStand p fine small is_there W first R code now base tables room reached k0 ks r own ar line own_there keeps whole ps x q kept_own → CodeOf p fine is_there W first R code now base tables x n
          → x.parameters ≡ ps ++ more → length x.parameters < result_place → ArgumentsAre p k0.scope x ps ps xs → FitsOnce ps xs → AllOf (argument_uses p ps ps xs) → block_size (length ps) ≤ size1 → size1 ≤ size → block + size1 ≤ k0.long → behind_outputs plan (block + block_size (length ps)) xs ≤ block + size1 → rooms.ResultLow p fine small is_there W first R code now base tables room reached k0 ks r own ar line own_there res → Fair gs s → Now_shown block rest s m
          → Stands code now r pc ((own_c ++ ca) ++ ((rooms_code xs ps res block ++ mask_code line (block + of_mask) (given_bits ps 0 ps xs + result_bit withr)) ++ (does (op.Local block) line ∷ (does op.Tick line ∷ (does o line ∷ (co ++ ct))))))
          → ((bytes : List ℕ) → length bytes ≡ size1 → Shown p base is_there now (with_block p base (record k0 { free = block + size1 }) block bytes rest ∷ ks) m s → Stands code now r pc own_c
          → From (cfg pc (w ∷ ws) s m) (λ (_ : Unit {0}) t y. cfg (pc + length own_c) (w ∷ ws) t y) (λ _ t y. Opened kept_own size1 (block + size1) block rest t y) (Done tt s))
          → ((bytes : List ℕ) (at : ℕ) (y : Memory) → RoutineIs p x → Each (ParameterIs p x) ps → ArgumentsAre p k0.scope x ps ps xs → length bytes ≡ size1 → Shown p base is_there now (with_block p base (record k0 { free = block + size1 }) block bytes rest ∷ ks) y s → Stands code now r at ca
          → From (cfg at (w ∷ ws) s y) (λ _ t y. cfg (at + length ca) (w ∷ ws) t y) (ex.Passes p fine small is_there W first R code now base tables room reached k0 ks r own ar line own_there x ps (block + size) block rest bytes (argument_numbers 0 ps xs)) (arguments p (enter p room) ps ps xs line s))
          → ((at : ℕ) (t : State) (y : Memory) → Now_shown_block (block + size) block rest t y → act code now o line (cfg at (word.Address (here_at block) ∷ (w ∷ ws)) t y) ≡ enters code n callee_own (word.Address (here_at block) ∷ []) ws line (cfg at (word.Address (here_at block) ∷ (w ∷ ws)) t y))
          → ((f : Frame) (at : ℕ) (t : State) (y : Memory) → Returned p base is_there now (record k0 { free = block + size }) ks block rest x.parameters size (asks_for keeps (block_size (length ps)) xs res kept_own) (given_bits ps 0 ps xs + result_bit withr) f t y → SlotsAre p fine F W gs x.locals f.locals → Fair gs t → Stands code now r at co → From (cfg at ws t y) (λ (_ : Unit {0}) t y. cfg (at + length co) ws t y) (λ _ t y. Returned p base is_there now (record k0 { free = block + size1 }) ks block rest ps size1 (asks_for keeps (block_size (length ps)) xs res kept_own) (given_bits ps 0 ps xs + result_bit withr) f t y) (outputs p (enter p room) ps q f xs line t))
          → ((f : Frame) (at : ℕ) (t : State) (y : Memory) → Returned p base is_there now (record k0 { free = block + size1 }) ks block rest ps size1 (asks_for keeps (block_size (length ps)) xs res kept_own) (given_bits ps 0 ps xs + result_bit withr) f t y → SlotsAre p fine F W gs x.locals f.locals → Stands code now r at ct
          → From (cfg at ws t y) (λ v t y. cfg (at + length ct) (after v) t y) done (result f line t))
          → From (cfg pc (w ∷ ws) s m) (λ v t y. cfg (pc + length (own_c ++ ca) + length (rooms_code xs ps res block ++ mask_code line (block + of_mask) (given_bits ps 0 ps xs + result_bit withr)) + 1 + 1 + 1 + length co + length ct) (after v) t y) done
          ((run_routine p (enter p room) x q (arguments p (enter p room) x.parameters x.parameters xs) (λ own f. outputs p (enter p room) x.parameters own f xs) >>= result) line s)
      argued_run {V = V} x n q callee_own o w xs ps more withr keeps whole block size1 size res kept_own own_c ca co ct result after done rest pc ws s m reach on_own has_own io result_hyp stands of declared few h once u big grows room_there rooms_low res_low fair sh has own_hyp args_hyp acts outs takes =
          let known = known_routines x reach in
          let each : Each (ParameterIs p x) ps = each_front (ParameterIs p x) ps more (subst (Each (ParameterIs p x)) declared known.parameters) in
          let short : length ps < result_place = begins_short x ps (record { more = more; is = declared; few = few }) in
          let here : Run (List Given) → (Option Path → Frame → Run (Unit {0})) → Type 0 = λ a z. From (cfg pc (w ∷ ws) s m) (λ v t y. cfg (pc + length (own_c ++ ca) + length (rooms_code xs ps res block ++ mask_code line (block + of_mask) (given_bits ps 0 ps xs + result_bit withr)) + 1 + 1 + 1 + length co + length ct) (after v) t y) done ((run_routine p (enter p room) x q a z >>= result) line s) in
          let behind : (λ own f. outputs p (enter p room) (ps ++ more) own f xs) ≡ (λ own f. outputs p (enter p room) ps own f xs) = λ i own f. same_outputs more p (enter p room) k0.scope x xs ps ps own f h i in
          subst (λ l. here (arguments p (enter p room) l l xs) (λ own f. outputs p (enter p room) l own f xs)) (sym declared)
          (subst (λ a. here a (λ own f. outputs p (enter p room) (ps ++ more) own f xs)) (sym (same_arguments more p (enter p room) k0.scope x xs ps ps h))
          (subst (here (arguments p (enter p room) ps ps xs)) (sym behind)
          (entered_run x n q callee_own o w xs ps more (given_bits ps 0 ps xs + result_bit withr) block size1 size (asks_for keeps (block_size (length ps)) xs res kept_own) res (argument_numbers 0 ps xs) (output_numbers xs) own_c ca co ct (arguments p (enter p room) ps ps xs) (λ own f. outputs p (enter p room) ps own f xs) result after done rest pc ws s m
          reach on_own has_own io of declared few (once_of 0 ps xs once.1) (given_written x ps xs withr short h once) big grows room_there fair sh (outs_once 0 ps xs once.1) (λ i is. outputs_there x ps ps xs i h (member_in (output_numbers xs) i is)) rooms_low res_low
          (λ left long own_left words result_kept.
          let high = long_is_low block rest s m sh in
          call_rooms keeps whole q kept_own x ps more (given_bits ps 0 ps xs + result_bit withr) (argument_numbers 0 ps xs) (output_numbers xs) xs block size1 res rest left known each stands h (outs_once 0 ps xs once.1) declared few (given_written x ps xs withr short h once) (λ _. refl) rooms_low (omega (arith, long, grows)) (omega (arith, room_there, high)) (omega (arith, at_depth)) own_left words
          (result_hyp left (unasked withr) (omega (arith, long, grows, big)) result_kept))
          has own_hyp (λ bytes at y long' sh' has'. args_hyp bytes at y known each h long' sh' has')
          (typing.arguments_obey p fine F W first first R (enter p room) reached k0.scope (scopes ks) xs x ps ps known each each h u) acts outs takes)))
        where
          low : AllBelow result_place (written_numbers 0 ps xs)
          low =
              let short : length ps < result_place = begins_short x ps (record { more = more; is = declared; few = few }) in
              below_more (length ps) result_place (written_numbers 0 ps xs) (omega (arith, short)) (numbers_below x ps ps 0 xs (λ j. let z : 0 + j ≡ j = omega arith in ap (slice_get ps) z) h)

          unasked : (b : Bool) → b ≡ false → has_bit (given_bits ps 0 ps xs + result_bit b) result_place ≡ false
          unasked true e = cc
          unasked false e = let z : given_bits ps 0 ps xs + 0 ≡ given_bits ps 0 ps xs = omega arith in ap (λ n. has_bit n result_place) (z ∙ bits_are ps 0 ps xs) ∙ result_unasked (written_numbers 0 ps xs) once.1 low

      -- the number that is kept, where one is
      abbrev own_number : Bool → Located → Option ℤ
      own_number true l = Some (pos (kept_number p base l.address))
      own_number false l = None

      -- what keeps the instance, or nothing
      own_written_run : (keeps : Bool) (q : Path) (l : Located) (size block : ℕ) (kept : List Kept) (pc : ℕ) (ws : List Word) (s : State) (m : Memory) (bytes : List ℕ) → located p base ls (in_store q) ≡ Some l → 24 ≤ size → length bytes ≡ size → Shown p base is_there now (with_block p base (record k0 { free = block + size }) block bytes kept ∷ ks) m s
          → Stands code now r pc (if keeps then does op.Dup line ∷ (does (op.Local (block + of_own)) line ∷ (does op.StoreRef line ∷ [])) else [])
          → From (cfg pc (word.Address l.address ∷ ws) s m) (λ (_ : Unit {0}) t y. cfg (pc + length (if keeps then does op.Dup line ∷ (does (op.Local (block + of_own)) line ∷ (does op.StoreRef line ∷ [])) else [])) (word.Address l.address ∷ ws) t y) (λ _ t y. Opened (own_number keeps l) size (block + size) block kept t y) (Done tt s)
      own_written_run false q l size block kept pc ws s m bytes is big long sh has =
          subst (λ j. From (cfg pc (word.Address l.address ∷ ws) s m) (λ (_ : Unit {0}) t y. cfg j (word.Address l.address ∷ ws) t y) (λ _ t y. Opened None size (block + size) block kept t y) (Done tt s)) (let e : pc ≡ pc + 0 = omega arith in e)
          (ends.stays code now tt s m (record { bytes = bytes; long = long; own_held = tt; shown = sh }))
      own_written_run true q l size block kept pc ws s m bytes is big long sh has =
          subst (λ j. From (cfg pc (word.Address l.address ∷ ws) s m) (λ (_ : Unit {0}) t y. cfg j (word.Address l.address ∷ ws) t y) (λ _ t y. Opened (Some (pos (kept_number p base l.address))) size (block + size) block kept t y) (Done tt s)) (let e : pc + 1 + 1 + 1 ≡ pc + 3 = omega arith in e)
          (ends.and_leads code now (λ _ t y. cfg (pc + 1 + 1 + 1) (word.Address l.address ∷ ws) t y) (λ _ t y. ex.BlockWritten p fine small is_there W first R code now base tables room reached k0 ks r own ar line own_there (record k0 { free = block + size }) block bytes kept of_own (pos (kept_number p base l.address)) t y)
          (own_kept (block + size) block bytes kept pc ws s m q l is (omega (arith, at_depth)) sh (omega (arith, big, long)) has)
          (λ _ t y b _. ends.stays code now tt t y (record { bytes = b.left; long = b.long ∙ long; own_held = b.word_there; shown = b.shown })))

      grouped_long : (own_c arguments_c rooms_c mask_c : List Cell) (x y z : Cell) (co ct : List Cell) → length ((own_c ++ (arguments_c ++ (rooms_c ++ (mask_c ++ (x ∷ (y ∷ (z ∷ co))))))) ++ ct) ≡ length (own_c ++ arguments_c) + length (rooms_c ++ mask_c) + 1 + 1 + 1 + length co + length ct
      grouped_long own_c arguments_c rooms_c mask_c x y z co ct =
          let e = ap (λ (l : List Cell). length l) (grouped own_c arguments_c rooms_c mask_c x y z co ct) in
          let f = length-append (own_c ++ arguments_c) ((rooms_c ++ mask_c) ++ (x ∷ (y ∷ (z ∷ (co ++ ct))))) in
          let d = length-append (rooms_c ++ mask_c) (x ∷ (y ∷ (z ∷ (co ++ ct)))) in
          let g = length-append co ct in
          omega (arith, e, f, d, g)

      -- ---- where outputs stand

      -- what is called stands first in the parameters of the routine
      there_too : (x : Routine) (ps : List Parameter) → Begins x ps → (i : ℕ) (q : Parameter) → slice_get ps i ≡ Some q → slice_get x.parameters i ≡ Some q
      there_too x ps begins i q e = ap (λ l. slice_get l i) begins.is ∙ front_get ps begins.more i q e

      -- the address of an instance is kept as its number
      own_keeps : (q : Path) (t : StType) (i : Instance_at q t) → kept_word (word.Address i.place.address) ≡ Goes (pos (kept_number p base i.place.address))
      own_keeps q t i =
          let h = held_there p base small q i.class i.name i.fields i.shape in
          let same : h.0 ≡ i.place = let d : Some h.0 ≡ Some i.place = sym h.1 ∙ i.is in cc in
          subst (λ (y : Located). kept_word (word.Address y.address) ≡ Goes (pos (kept_number p base y.address))) same h.2.keeps

      variable_of : (x : Routine) (c k : ℕ) (to : Recipient) (v : Variable) → x.class ≡ Some c → to ≡ to_variable k → recipient_variable p x to ≡ Some v → slice_get (class_variables p c) k ≡ Some v
      variable_of x c k to v of_class is e = let a : recipient_variable p x (to_variable k) ≡ Some v = subst (λ y. recipient_variable p x y ≡ Some v) is e in subst (λ o. own_variable p o k ≡ Some v) of_class a

      -- the instance on which a body runs, as the block keeps it
      body_stands : (c : ℕ) (whole : StType) (ps : List Parameter) (q : Path) (i : Instance_at q whole) (x : Routine) → whole ≡ type.Instance c → body_of p i.class ≡ Some x → Begins x ps → called_parameters p (Some (a_body_of whole)) ≡ ps → out.OutputsStand p fine small is_there W first R code now base tables room reached k0 ks r own ar line own_there true whole ps x (Some q) (own_number true i.place)
      body_stands c whole ps q i x whole_is e begins params = record {
        path = q;
        path_is = refl;
        place = i.place;
        is = i.is;
        held = refl;
        keeps = own_keeps q whole i;
        class = c;
        of_class = whole_is;
        names = record { class = i.class; name = i.name; fields = i.fields; there = i.shape; meets = subst (λ t. IsTrue (conforms p i.class t)) whole_is i.meets };
        there = i.there;
        variables = λ j y g o. placed_so.bodies i.class x e j y (there_too x ps begins j y g) o;
        members = λ j k y v g to is. by (body_of p c) refl j k y v g to is;
      }
        where
          declared : body_parameters p (type.Instance c) ≡ ps
          declared = ap (body_parameters p) (sym whole_is) ∙ params

          by : (o : Option Routine) → body_of p c ≡ o → (j k : ℕ) (y : Parameter) (v : Variable) → slice_get ps j ≡ Some y → y.to ≡ to_variable k → recipient_variable p x y.to ≡ Some v → slice_get (class_variables p c) k ≡ Some v
          by None f j k y v g to is = let none : [] ≡ ps = ap parameters_of (sym f) ∙ declared in let d : None ≡ Some y = ap (λ (l : List Parameter). slice_get l j) none ∙ g in cc
          by (Some b) f j k y v g to is =
              let listed : b.parameters ≡ ps = ap parameters_of (sym f) ∙ declared in
              let known = fine.bodies c b f in
              let a = typing.slice_each (ParameterIs p b) b.parameters j y known.parameters (ap (λ l. slice_get l j) listed ∙ g) in
              let in_base = variable_of b c k y.to a.0 (fine.bodies_own c b f) to a.1 in
              let in_class = fine.variables_above i.class c k a.0 (subst (λ t. IsTrue (conforms p i.class t)) whole_is i.meets) in_base in
              let here = variable_of x i.class k y.to v (fine.bodies_own i.class x e) to is in
              let same : a.0 ≡ v = let d : Some a.0 ≡ Some v = sym in_class ∙ here in cc in
              in_base ∙ ap (λ (z : Variable). Some z) same

      super_stands : (d : ℕ) (whole : StType) (ps : List Parameter) (q : Path) (i : Instance_at q (type.Instance d)) (x : Routine) → whole ≡ type.Instance d → body_of p d ≡ Some x → Begins x ps → out.OutputsStand p fine small is_there W first R code now base tables room reached k0 ks r own ar line own_there true whole ps x (Some q) (own_number true i.place)
      super_stands d whole ps q i x whole_is e begins = record {
        path = q;
        path_is = refl;
        place = i.place;
        is = i.is;
        held = refl;
        keeps = own_keeps q (type.Instance d) i;
        class = d;
        of_class = whole_is;
        names = record { class = i.class; name = i.name; fields = i.fields; there = i.shape; meets = i.meets };
        there = i.there;
        variables = λ j y g o. placed_so.bodies d x e j y (there_too x ps begins j y g) o;
        members = λ j k y v g to is. variable_of x d k y.to v (fine.bodies_own d x e) to is;
      }

      -- ---- on an instance

      member_call : {V : Type 0} (by_c : Bool) (find : ℕ → Option Routine) (t whole : StType) (goal : Run Spot) (cp : List Cell) (xs : Arguments Note) (ps : List Parameter) (withr keeps : Bool) (P : Routine → Type 0) (k : Called) (o : Op) (free block size1 size : ℕ) (res : Option Below) (ca co ct : List Cell)
          (result : Frame → Run V) (after : V → List Word) (done : V → State → Memory → Type 0) (kept : List Kept) (pc : ℕ) (ws : List Word) (s : State) (m : Memory)
          → Entered p k P → called_parameters p (Some k) ≡ ps → FitsOnce ps xs → AllOf (call_use (Some k)) → AllOf (argument_uses p ps ps xs) → block_size (length ps) ≤ size1 → size1 ≤ size → block + size1 ≤ k0.long → behind_outputs plan (block + block_size (length ps)) xs ≤ block + size1 → Opens res free block → Fair gs s
          → ((x : Routine) → P x → ArgumentsAre p k0.scope x ps ps xs) → ((x : Routine) (mask : ℕ) (rest : List Kept) (left : List ℕ) → RestOf res kept rest → mask ≡ given_bits ps 0 ps xs + result_bit withr → (withr ≡ false → has_bit mask result_place ≡ false) → P x → Begins x ps → R x → 24 ≤ length left → rooms.ResultKept p fine small is_there W first R code now base tables room reached k0 ks r own ar line own_there res left → ResultAsked p base x (here_at block) mask left rest res)
          → Stands code now r pc ((cp ++ ((if keeps then does op.Dup line ∷ (does (op.Local (block + of_own)) line ∷ (does op.StoreRef line ∷ [])) else []) ++ (ca ++ (rooms_code xs ps res block ++ (mask_code line (block + of_mask) (given_bits ps 0 ps xs + result_bit withr) ++ (does (op.Local block) line ∷ (does op.Tick line ∷ (does o line ∷ co)))))))) ++ ct)
          → (Stands code now r pc cp → From (cfg pc ws s m) (lands (pc + length cp) (λ y. spot_word p base ls y ∷ ws)) (Shows free kept) (goal line s))
          → Typed_run goal (λ spot. OnInstance p fine F W first first R (enter p room) reached k0.scope (scopes ks) spot × ((q : Path) → path_of spot ≡ Some q → Names p q t × F q.region × W q.region))
          → ((q : Path) (i : Instance_at q t) → (x : Routine) × (find (if by_c then i.class else 0) ≡ Some x))
          → ((q : Path) (i : Instance_at q t) (x : Routine) → find (if by_c then i.class else 0) ≡ Some x → (n : Enters p k x) × IsLiving p n)
          → ((q : Path) (i : Instance_at q t) (x : Routine) → find (if by_c then i.class else 0) ≡ Some x → Above p i.class x.class)
          → ((q : Path) (i : Instance_at q t) (x : Routine) → find (if by_c then i.class else 0) ≡ Some x → Dispatched o q t i x)
          → ((x : Routine) (rest : List Kept) (bytes : List ℕ) (at : ℕ) (ws' : List Word) (u : State) (y : Memory) → RoutineIs p x → Each (ParameterIs p x) ps → ArgumentsAre p k0.scope x ps ps xs → Fair gs u → length bytes ≡ size1 → Shown p base is_there now (with_block p base (record k0 { free = block + size1 }) block bytes rest ∷ ks) y u → Stands code now r at ca
          → From (cfg at ws' u y) (λ _ t y. cfg (at + length ca) ws' t y) (ex.Passes p fine small is_there W first R code now base tables room reached k0 ks r own ar line own_there x ps (block + size) block rest bytes (argument_numbers 0 ps xs)) (arguments p (enter p room) ps ps xs line u))
          → ((q : Path) (i : Instance_at q t) (x : Routine) → find (if by_c then i.class else 0) ≡ Some x → Begins x ps → out.OutputsStand p fine small is_there W first R code now base tables room reached k0 ks r own ar line own_there keeps whole ps x (Some q) (own_number keeps i.place))
          → ((x : Routine) → P x → Begins x ps → R x → (q : Path) (rest : List Kept) (kept_own : Option ℤ) → out.OutputsStand p fine small is_there W first R code now base tables room reached k0 ks r own ar line own_there keeps whole ps x (Some q) kept_own → OwnIs p fine F W x.class (Some q) → (f : Frame) (at : ℕ) (t : State) (y : Memory) → Returned p base is_there now (record k0 { free = block + size }) ks block rest x.parameters size (asks_for keeps (block_size (length ps)) xs res kept_own) (given_bits ps 0 ps xs + result_bit withr) f t y → SlotsAre p fine F W gs x.locals f.locals → Fair gs t → Stands code now r at co → From (cfg at ws t y) (λ (_ : Unit {0}) t y. cfg (at + length co) ws t y) (λ _ t y. Returned p base is_there now (record k0 { free = block + size1 }) ks block rest ps size1 (asks_for keeps (block_size (length ps)) xs res kept_own) (given_bits ps 0 ps xs + result_bit withr) f t y) (outputs p (enter p room) ps (Some q) f xs line t))
          → ((x : Routine) → P x → Begins x ps → R x → (rest : List Kept) → RestOf res kept rest → (kept_own : Option ℤ) (f : Frame) (at : ℕ) (u : State) (y : Memory) → Returned p base is_there now (record k0 { free = block + size1 }) ks block rest ps size1 (asks_for keeps (block_size (length ps)) xs res kept_own) (given_bits ps 0 ps xs + result_bit withr) f u y → SlotsAre p fine F W gs x.locals f.locals → Stands code now r at ct
          → From (cfg at ws u y) (λ v t y. cfg (at + length ct) (after v) t y) done (result f line u))
          → From (cfg pc ws s m) (λ v t y. cfg (pc + length ((cp ++ ((if keeps then does op.Dup line ∷ (does (op.Local (block + of_own)) line ∷ (does op.StoreRef line ∷ [])) else []) ++ (ca ++ (rooms_code xs ps res block ++ (mask_code line (block + of_mask) (given_bits ps 0 ps xs + result_bit withr) ++ (does (op.Local block) line ∷ (does op.Tick line ∷ (does o line ∷ co)))))))) ++ ct)) (after v) t y) done
          ((goal >>= λ spot. there (path_of spot) >>= λ q. finding by_c find spot >>= λ x. (run_routine p (enter p room) x (Some q) (arguments p (enter p room) x.parameters x.parameters xs) (λ own f. outputs p (enter p room) x.parameters own f xs) >>= result)) line s)
      member_call by_c find t whole goal cp xs ps withr keeps P k o free block size1 size res ca co ct result after done kept pc ws s m entered params once uk u big grows room_there rooms_low opens fair args_ok result_ok has goal_hyp goal_typed finds enters_it above dispatch args_hyp stands outs takes =
          dp.member_run p fine small is_there W first R code now base tables room reached k0 ks r own ar line own_there by_c find t goal cp (λ q x. run_routine p (enter p room) x (Some q) (arguments p (enter p room) x.parameters x.parameters xs) (λ own f. outputs p (enter p room) x.parameters own f xs) >>= result) after done free kept pc (pc + length ((cp ++ rest_c) ++ ct)) ws s m fair
          (ends.front code now r pc cp (rest_c ++ ct) has_cp) goal_hyp goal_typed
          (λ q i v y wr fair' sh' x e.
          let living = enters_it q i x e in
          let n = living.0 in
          let b = entered.by x n living.1 in
          let declared : x.parameters ≡ ps ++ b.rest = b.begins ∙ ap (λ l. l ++ b.rest) params in
          let few : length x.parameters < result_place = (let z = b.few in omega (arith, z)) in
          let begins : Begins x ps = record { more = b.rest; is = declared; few = few } in
          let d = dispatch q i x e in
          let opened = rest_open res free block kept v y opens (omega (arith, room_there)) sh' in
          let high = long_is_low free kept v y sh' in
          let has_r = subst (Stands code now r (pc + length cp)) (grouped own_c ca (rooms_code xs ps res block) mask_c (does (op.Local block) line) (does op.Tick line) (does o line) co ct) (ends.back code now r pc cp (rest_c ++ ct) has_cp) in
          subst (λ j. From (cfg (pc + length cp) (word.Address i.place.address ∷ ws) v y) (λ v t y. cfg j (after v) t y) done ((run_routine p (enter p room) x (Some q) (arguments p (enter p room) x.parameters x.parameters xs) (λ own f. outputs p (enter p room) x.parameters own f xs) >>= result) line v)) at_end
          (argued_run x d.number (Some q) (Some i.place.address) o (word.Address i.place.address) xs ps b.rest withr keeps whole block size1 size res (own_number keeps i.place) own_c ca co ct result after done opened.0 (pc + length cp) ws v y
          (uk.0 x n) (typing.owns p fine F W first first R (enter p room) reached k0.scope (scopes ks) x.class q i.class (i.name, i.fields, i.shape) i.there wr (above q i x e)) (has_own x.class q) (i.place, i.is, refl) (λ left z wide words. result_ok x (given_bits ps 0 ps xs + result_bit withr) opened.0 left opened.1 refl z b.suits begins (uk.0 x n) wide words) (stands q i x e begins) d.code_is
          declared few (args_ok x b.suits) once u big grows room_there rooms_low (below_low res free block opens (omega (arith, room_there, high))) fair' opened.2 has_r
          (λ bytes long sh2 has'. own_written_run keeps q i.place size1 block opened.0 (pc + length cp) ws v y bytes i.is (omega (arith, big)) long sh2 has')
          (λ bytes at y2 ok each h' long sh2 has'. args_hyp x opened.0 bytes at (word.Address i.place.address ∷ ws) v y2 ok each h' fair' long sh2 has')
          (λ at t2 y2 shb. d.acts (here_at block) ws at (block + size) (record { from = block; bytes = shb.bytes } ∷ opened.0) t2 y2 shb.shown)
          (λ f at t2 y2 returned slots fair2 has'. outs x b.suits begins (uk.0 x n) q opened.0 (own_number keeps i.place) (stands q i x e begins) (typing.owns p fine F W first first R (enter p room) reached k0.scope (scopes ks) x.class q i.class (i.name, i.fields, i.shape) i.there wr (above q i x e)) f at t2 y2 returned slots fair2 has')
          (λ f at t2 y2 returned slots has'. takes x b.suits begins (uk.0 x n) opened.0 opened.1 (own_number keeps i.place) f at t2 y2 returned slots has')))
          finds
        where
          own_c : List Cell
          own_c = if keeps then does op.Dup line ∷ (does (op.Local (block + of_own)) line ∷ (does op.StoreRef line ∷ [])) else []

          mask_c : List Cell
          mask_c = mask_code line (block + of_mask) (given_bits ps 0 ps xs + result_bit withr)

          rest_c : List Cell
          rest_c = own_c ++ (ca ++ (rooms_code xs ps res block ++ (mask_c ++ (does (op.Local block) line ∷ (does op.Tick line ∷ (does o line ∷ co))))))

          has_cp : Stands code now r pc (cp ++ (rest_c ++ ct))
          has_cp = subst (Stands code now r pc) (append_assoc cp rest_c ct) has

          at_end : pc + length cp + length (own_c ++ ca) + length (rooms_code xs ps res block ++ mask_c) + 1 + 1 + 1 + length co + length ct ≡ pc + length ((cp ++ rest_c) ++ ct)
          at_end =
              let e = ap (λ (l : List Cell). length l) (append_assoc cp rest_c ct) in
              let f = length-append cp (rest_c ++ ct) in
              let g : length (rest_c ++ ct) ≡ length (own_c ++ ca) + length (rooms_code xs ps res block ++ mask_c) + 1 + 1 + 1 + length co + length ct = grouped_long own_c ca (rooms_code xs ps res block) mask_c _ _ _ co ct in
              omega (arith, e, f, g)

      method_found : (t : StType) (name : List ℕ) (q : Path) (i : Instance_at q t) (x : Routine) → IsDeclared p t name → lookup p i.class name ≡ Some x → Dispatched (method_call plan t name) q t i x
      method_found (type.Instance d) name q i x h e = dp.method_dispatched p fine small is_there W first R code now base tables room reached k0 ks r own ar line own_there known_tables d name q i x h.0 h.1 e
      method_found (type.Interface j) name q i x h e = dp.interface_dispatched p fine small is_there W first R code now base tables room reached k0 ks r own ar line own_there known_tables j name q i x (signed_in (slice_get p.interfaces j) h.0 h.1 name h.2 h.3) e
      method_found t name q i x h e = absurd h

      body_found : (w : StType) (d : ℕ) → w ≡ type.Instance d → (q : Path) (i : Instance_at q w) (x : Routine) → body_of p i.class ≡ Some x → Dispatched (op.CallM (class_of_kind w) tables.body_slot 1) q w i x
      body_found w d e = subst (λ w. (q : Path) (i : Instance_at q w) (x : Routine) → body_of p i.class ≡ Some x → Dispatched (op.CallM (class_of_kind w) tables.body_slot 1) q w i x) (sym e) (λ q i x f. dp.body_dispatched p fine small is_there W first R code now base tables room reached k0 ks r own ar line own_there known_tables d q i x f)

      -- SUPER() has the in-outs of the body that runs
      super_call : {V : Type 0} (d : ℕ) (whole : StType) (goal : Run Spot) (cp : List Cell) (xs : Arguments Note) (ps : List Parameter) (P : Routine → Type 0) (free block size1 : ℕ) (res : Option Below) (co ct : List Cell)
          (result : Frame → Run V) (after : V → List Word) (done : V → State → Memory → Type 0) (kept : List Kept) (pc : ℕ) (ws : List Word) (s : State) (m : Memory)
          → whole ≡ type.Instance d → SameInOuts p k0.scope.locals d → Entered p (the_body_from d) P → called_parameters p (Some (the_body_from d)) ≡ ps → AllOf (call_use (Some (the_body_from d))) → Once (output_numbers xs) → ((x : Routine) → P x → ArgumentsAre p k0.scope x ps ps xs) → block_size (length ps) ≤ size1 → block + size1 ≤ k0.long → behind_outputs plan (block + block_size (length ps)) xs ≤ block + size1 → Opens res free block → Fair gs s
          → ((x : Routine) (mask : ℕ) (rest : List Kept) (left : List ℕ) → RestOf res kept rest → has_bit mask result_place ≡ false → P x → Begins x ps → R x → 24 ≤ length left → rooms.ResultKept p fine small is_there W first R code now base tables room reached k0 ks r own ar line own_there res left → ResultAsked p base x (here_at block) mask left rest res)
          → Stands code now r pc ((cp ++ ((does op.Dup line ∷ (does (op.Local (block + of_own)) line ∷ (does op.StoreRef line ∷ []))) ++ (same_code plan line block 0 ps ++ (rooms_code xs ps res block ++ (mask_code line (block + of_mask) (same_bits 0 ps) ++ (does (op.Local block) line ∷ (does op.Tick line ∷ (does (op.Call (tables.body_routine d) 1) line ∷ co)))))))) ++ ct)
          → (Stands code now r pc cp → From (cfg pc ws s m) (lands (pc + length cp) (λ y. spot_word p base ls y ∷ ws)) (Shows free kept) (goal line s))
          → Typed_run goal (λ spot. OnInstance p fine F W first first R (enter p room) reached k0.scope (scopes ks) spot × ((q : Path) → path_of spot ≡ Some q → Names p q (type.Instance d) × F q.region × W q.region))
          → ((x : Routine) → P x → Begins x ps → R x → (q : Path) (rest : List Kept) (kept_own : Option ℤ) → out.OutputsStand p fine small is_there W first R code now base tables room reached k0 ks r own ar line own_there true whole ps x (Some q) kept_own → OwnIs p fine F W x.class (Some q) → (f : Frame) (at : ℕ) (t : State) (y : Memory) → Returned p base is_there now (record k0 { free = block + size1 }) ks block rest x.parameters size1 (asks_for true (block_size (length ps)) xs res kept_own) (same_bits 0 ps) f t y → SlotsAre p fine F W gs x.locals f.locals → Fair gs t → Stands code now r at co → From (cfg at ws t y) (λ (_ : Unit {0}) t y. cfg (at + length co) ws t y) (λ _ t y. Returned p base is_there now (record k0 { free = block + size1 }) ks block rest ps size1 (asks_for true (block_size (length ps)) xs res kept_own) (same_bits 0 ps) f t y) (outputs p (enter p room) ps (Some q) f xs line t))
          → ((x : Routine) → P x → Begins x ps → R x → (rest : List Kept) → RestOf res kept rest → (kept_own : Option ℤ) (f : Frame) (at : ℕ) (u : State) (y : Memory) → Returned p base is_there now (record k0 { free = block + size1 }) ks block rest ps size1 (asks_for true (block_size (length ps)) xs res kept_own) (same_bits 0 ps) f u y → SlotsAre p fine F W gs x.locals f.locals → Stands code now r at ct
          → From (cfg at ws u y) (λ v t y. cfg (at + length ct) (after v) t y) done (result f line u))
          → From (cfg pc ws s m) (λ v t y. cfg (pc + length ((cp ++ ((does op.Dup line ∷ (does (op.Local (block + of_own)) line ∷ (does op.StoreRef line ∷ []))) ++ (same_code plan line block 0 ps ++ (rooms_code xs ps res block ++ (mask_code line (block + of_mask) (same_bits 0 ps) ++ (does (op.Local block) line ∷ (does op.Tick line ∷ (does (op.Call (tables.body_routine d) 1) line ∷ co)))))))) ++ ct)) (after v) t y) done
          ((goal >>= λ spot. there (path_of spot) >>= λ q. finding false (λ _. body_of p d) spot >>= λ x. (run_routine p (enter p room) x (Some q) (same_in_outs x.parameters) (λ own f. outputs p (enter p room) x.parameters own f xs) >>= result)) line s)
      super_call d whole goal cp xs ps P free block size1 res co ct result after done kept pc ws s m whole_is same entered params uk outs_apart args_ok big room_there rooms_low opens fair result_ok has goal_hyp goal_typed outs takes =
          dp.member_run p fine small is_there W first R code now base tables room reached k0 ks r own ar line own_there false (λ _. body_of p d) (type.Instance d) goal cp (λ q x. run_routine p (enter p room) x (Some q) (same_in_outs x.parameters) (λ own f. outputs p (enter p room) x.parameters own f xs) >>= result) after done free kept pc (pc + length ((cp ++ rest_c) ++ ct)) ws s m fair
          (ends.front code now r pc cp (rest_c ++ ct) has_cp) goal_hyp goal_typed
          (λ q i v y wr fair' sh' x e.
          let n : Enters p (the_body_from d) x = by_base e in
          let b = entered.by x n tt in
          let g = dp.super_body_dispatched p fine small is_there W first R code now base tables room reached k0 ks r own ar line own_there known_tables d q (type.Instance d) i x e in
          let known = known_routines x (uk.0 x n) in
          let declared : x.parameters ≡ ps = sym (ap parameters_of e) ∙ params in
          let few : length x.parameters < result_place = (let z = b.few in omega (arith, z)) in
          let begins : Begins x ps = record { more = []; is = declared ∙ sym (no_more ps); few = few } in
          let each : Each (ParameterIs p x) ps = subst (Each (ParameterIs p x)) declared known.parameters in
          let short : length ps < result_place = subst (λ (l : List Parameter). length l < result_place) declared few in
          let low = same_below 0 ps 63 (omega (arith, short)) in
          let fits : Fits elem.Ulint (pos (same_bits 0 ps)) = subst (λ n. Fits elem.Ulint (pos n)) (let z = same_bits_are 0 ps in let y : bits_sum (same_numbers 0 ps) + 0 ≡ same_bits 0 ps = omega (arith, z) in y) (mask_fits (same_numbers 0 ps) false (same_distinct 0 ps) low) in
          let opened = rest_open res free block kept v y opens (omega (arith, room_there)) sh' in
          let high = long_is_low free kept v y sh' in
          let stands = super_stands d whole ps q i x whole_is e begins in
          let written = same_written ps short fits in
          let unasked = ap (λ n. has_bit n result_place) (same_bits_are 0 ps) ∙ result_unasked (same_numbers 0 ps) (same_distinct 0 ps) low in
          let has_r = subst (Stands code now r (pc + length cp)) (grouped own_c sc (rooms_code xs ps res block) mask_c (does (op.Local block) line) (does op.Tick line) (does (op.Call (tables.body_routine d) 1) line) co ct) (ends.back code now r pc cp (rest_c ++ ct) has_cp) in
          subst (λ j. From (cfg (pc + length cp) (word.Address i.place.address ∷ ws) v y) (λ v t y. cfg j (after v) t y) done ((run_routine p (enter p room) x (Some q) (same_in_outs x.parameters) (λ own f. outputs p (enter p room) x.parameters own f xs) >>= result) line v)) at_end
          (subst (λ l. From (cfg (pc + length cp) (word.Address i.place.address ∷ ws) v y) (λ v t y. cfg (pc + length cp + length (own_c ++ sc) + length (rooms_code xs ps res block ++ mask_c) + 1 + 1 + 1 + length co + length ct) (after v) t y) done ((run_routine p (enter p room) x (Some q) (same_in_outs l) (λ own f. outputs p (enter p room) l own f xs) >>= result) line v)) (sym declared)
          (entered_run x g.number (Some q) (Some i.place.address) (op.Call (tables.body_routine d) 1) (word.Address i.place.address) xs ps [] (same_bits 0 ps) block size1 size1 (asks_for true (block_size (length ps)) xs res (own_number true i.place)) res (same_numbers 0 ps) [] own_c sc co ct (same_in_outs ps) (λ own f. outputs p (enter p room) ps own f xs) result after done opened.0 (pc + length cp) ws v y
          (uk.0 x n) (typing.owns p fine F W first first R (enter p room) reached k0.scope (scopes ks) x.class q i.class (i.name, i.fields, i.shape) i.there wr (typing.body_above p fine i.class d x i.meets e)) (has_own x.class q) (i.place, i.is, refl) g.code_is
          (declared ∙ sym (no_more ps)) few (same_once 0 ps) written big (omega arith) room_there fair' opened.2 outs_apart (λ k is. outputs_there x ps ps xs k (args_ok x b.suits) (member_in (output_numbers xs) k is)) rooms_low (below_low res free block opens (omega (arith, room_there, high)))
          (λ left long own_left words result_kept.
          call_rooms true whole (Some q) (own_number true i.place) x ps [] (same_bits 0 ps) (same_numbers 0 ps) [] xs block size1 res opened.0 left known each stands (args_ok x b.suits) outs_apart (declared ∙ sym (no_more ps)) few written (λ no. absurd (no_true (sym no))) rooms_low (omega (arith, long)) (omega (arith, room_there, high)) (omega (arith, at_depth)) own_left words
          (result_ok x (same_bits 0 ps) opened.0 left opened.1 unasked b.suits begins (uk.0 x n) (omega (arith, long, big)) result_kept))
          has_r
          (λ bytes long sh2 has'. own_written_run true q i.place size1 block opened.0 (pc + length cp) ws v y bytes i.is (omega (arith, big)) long sh2 has')
          (λ bytes at y2 long sh2 has'. same_run x d ps ps 0 (block + size1) block opened.0 bytes at (word.Address i.place.address ∷ ws) v y2 same e each (λ j. let z : 0 + j ≡ j = omega arith in ap (slice_get ps) z) (omega (arith, at_depth)) fair' sh2 (ap (λ n. block + n) long) (omega (arith, big, long)) has')
          (typing.base_in_outs p fine F W first first R (enter p room) reached k0.scope (scopes ks) x d known same e ps each)
          (λ at t2 y2 shb. g.acts (here_at block) ws at (block + size1) (record { from = block; bytes = shb.bytes } ∷ opened.0) t2 y2 shb.shown)
          (λ f at t2 y2 returned slots fair2 has'. outs x b.suits begins (uk.0 x n) q opened.0 (own_number true i.place) stands (typing.owns p fine F W first first R (enter p room) reached k0.scope (scopes ks) x.class q i.class (i.name, i.fields, i.shape) i.there wr (typing.body_above p fine i.class d x i.meets e)) f at t2 y2 returned slots fair2 has')
          (λ f at t2 y2 returned slots has'. takes x b.suits begins (uk.0 x n) opened.0 opened.1 (own_number true i.place) f at t2 y2 returned slots has'))))
          (λ q i. entered.found)
        where
          own_c : List Cell
          own_c = does op.Dup line ∷ (does (op.Local (block + of_own)) line ∷ (does op.StoreRef line ∷ []))

          sc : List Cell
          sc = same_code plan line block 0 ps

          mask_c : List Cell
          mask_c = mask_code line (block + of_mask) (same_bits 0 ps)

          rest_c : List Cell
          rest_c = own_c ++ (sc ++ (rooms_code xs ps res block ++ (mask_c ++ (does (op.Local block) line ∷ (does op.Tick line ∷ (does (op.Call (tables.body_routine d) 1) line ∷ co))))))

          has_cp : Stands code now r pc (cp ++ (rest_c ++ ct))
          has_cp = subst (Stands code now r pc) (append_assoc cp rest_c ct) has

          at_end : pc + length cp + length (own_c ++ sc) + length (rooms_code xs ps res block ++ mask_c) + 1 + 1 + 1 + length co + length ct ≡ pc + length ((cp ++ rest_c) ++ ct)
          at_end =
              let e = ap (λ (l : List Cell). length l) (append_assoc cp rest_c ct) in
              let f = length-append cp (rest_c ++ ct) in
              let g : length (rest_c ++ ct) ≡ length (own_c ++ sc) + length (rooms_code xs ps res block ++ mask_c) + 1 + 1 + 1 + length co + length ct = grouped_long own_c sc (rooms_code xs ps res block) mask_c _ _ _ co ct in
              omega (arith, e, f, g)

      -- ---- a call of whatever is no conversion
      pub call_run : {V : Type 0} (c : Callee) (t whole : StType) (goal : Run Spot) (cp : List Cell) (xs : Arguments Note) (ps : List Parameter) (withr : Bool) (P : Routine → Type 0) (O G V0 : Type 0) (free block size1 size : ℕ) (res : Option Below) (ca co ct : List Cell)
          (result : Frame → Run V) (after : V → List Word) (done : V → State → Memory → Type 0) (kept : List Kept) (pc : ℕ) (ws : List Word) (s : State) (m : Memory)
          → is_conversion c ≡ false → CallIs p k0.scope c O G whole (called_by c t whole) P V0 → called_parameters p (called_by c t whole) ≡ ps → FitsOnce ps xs → AllOf (call_use (called_by c t whole)) → AllOf (argument_uses p ps ps xs) → block_size (length ps) ≤ size1 → size1 ≤ size → block + size1 ≤ k0.long → behind_outputs plan (block + block_size (length ps)) xs ≤ block + size1 → Opens res free block → Fair gs s → Now_shown free kept s m
          → ((x : Routine) → P x → ArgumentsAre p k0.scope x ps ps xs) → ((x : Routine) (mask : ℕ) (rest : List Kept) (left : List ℕ) → RestOf res kept rest → (mask ≡ given_bits ps 0 ps xs + result_bit withr) ⊎ IsSuper c → (withr ≡ false → has_bit mask result_place ≡ false) → P x → Begins x ps → R x → 24 ≤ length left → rooms.ResultKept p fine small is_there W first R code now base tables room reached k0 ks r own ar line own_there res left → ResultAsked p base x (here_at block) mask left rest res)
          → Stands code now r pc (enter_code plan line c ps block t whole cp (arguments_by c ca (same_code plan line block 0 ps)) (rooms_code xs ps res block) (mask_of c ps withr xs) co ++ ct)
          → ((d : ℕ) → c ≡ a_body (from_class d) → G → whole ≡ type.Instance d)
          → (IsMember c → G → Stands code now r pc cp → From (cfg pc ws s m) (lands (pc + length cp) (λ y. spot_word p base ls y ∷ ws)) (Shows free kept) (goal line s))
          → (IsMember c → G → BodyIs p k0.scope.locals whole c → Typed_run goal (Receives p fine F W first first R (enter p room) reached k0.scope (scopes ks) c t whole))
          → ((x : Routine) (rest : List Kept) (bytes : List ℕ) (at : ℕ) (ws' : List Word) (u : State) (y : Memory) → RoutineIs p x → Each (ParameterIs p x) ps → ArgumentsAre p k0.scope x ps ps xs → Fair gs u → length bytes ≡ size1 → Shown p base is_there now (with_block p base (record k0 { free = block + size1 }) block bytes rest ∷ ks) y u → Stands code now r at ca
          → From (cfg at ws' u y) (λ _ t y. cfg (at + length ca) ws' t y) (ex.Passes p fine small is_there W first R code now base tables room reached k0 ks r own ar line own_there x ps (block + size) block rest bytes (argument_numbers 0 ps xs)) (arguments p (enter p room) ps ps xs line u))
          → ((x : Routine) (mask : ℕ) → (mask ≡ given_bits ps 0 ps xs + result_bit withr) ⊎ IsSuper c → P x → Begins x ps → R x → (q : Option Path) (rest : List Kept) (kept_own : Option ℤ) (size' : ℕ) → size1 ≤ size' → out.OutputsStand p fine small is_there W first R code now base tables room reached k0 ks r own ar line own_there (keeps_own c) whole ps x q kept_own → OwnIs p fine F W x.class q → (f : Frame) (at : ℕ) (t : State) (y : Memory) → Returned p base is_there now (record k0 { free = block + size' }) ks block rest x.parameters size' (asks_for (keeps_own c) (block_size (length ps)) xs res kept_own) mask f t y → SlotsAre p fine F W gs x.locals f.locals → Fair gs t → Stands code now r at co → From (cfg at ws t y) (λ (_ : Unit {0}) t y. cfg (at + length co) ws t y) (λ _ t y. Returned p base is_there now (record k0 { free = block + size1 }) ks block rest ps size1 (asks_for (keeps_own c) (block_size (length ps)) xs res kept_own) mask f t y) (outputs p (enter p room) ps q f xs line t))
          → ((x : Routine) (mask : ℕ) → (mask ≡ given_bits ps 0 ps xs + result_bit withr) ⊎ IsSuper c → P x → Begins x ps → R x → (rest : List Kept) → RestOf res kept rest → (kept_own : Option ℤ) (f : Frame) (at : ℕ) (u : State) (y : Memory) → Returned p base is_there now (record k0 { free = block + size1 }) ks block rest ps size1 (asks_for (keeps_own c) (block_size (length ps)) xs res kept_own) mask f u y → SlotsAre p fine F W gs x.locals f.locals → Stands code now r at ct
          → From (cfg at ws u y) (λ v t y. cfg (at + length ct) (after v) t y) done (result f line u))
          → From (cfg pc ws s m) (λ v z y. cfg (pc + length (enter_code plan line c ps block t whole cp (arguments_by c ca (same_code plan line block 0 ps)) (rooms_code xs ps res block) (mask_of c ps withr xs) co ++ ct)) (after v) z y) done
          ((call p (enter p room) c goal (λ l. arguments p (enter p room) l l xs) (λ l own f. outputs p (enter p room) l own f xs) >>= result) line s)
      call_run a_conversion t whole goal cp xs ps withr P O G V0 free block size1 size res ca co ct result after done kept pc ws s m is_call h params once uk u big grows room_there rooms_low opens fair sh args_ok result_ok has super_whole goal_hyp goal_typed args_hyp outs takes = cc
      call_run (a_function k) t whole goal cp xs ps withr P O G V0 free block size1 size res ca co ct result after done kept pc ws s m is_call h params once uk u big grows room_there rooms_low opens fair sh args_ok result_ok has super_whole goal_hyp goal_typed args_hyp outs takes =
          let x = h.0.found.0 in
          let e : slice_get p.functions k ≡ Some x = h.0.found.1 in
          let n : Enters p (the_function k) x = by_number e in
          let b = h.0.by x n tt in
          let declared : x.parameters ≡ ps ++ b.rest = b.begins ∙ ap (λ l. l ++ b.rest) params in
          let few : length x.parameters < result_place = (let z = b.few in omega (arith, z)) in
          let begins : Begins x ps = record { more = b.rest; is = declared; few = few } in
          let no_class = (fine.functions k x e).1 in
          let o = op.Call (tables.function_routine k) 1 in
          let mask_c = mask_code line (block + of_mask) (given_bits ps 0 ps xs + result_bit withr) in
          let opened = rest_open res free block kept s m opens (omega (arith, room_there)) sh in
          let high = long_is_low free kept s m sh in
          let stands : out.OutputsStand p fine small is_there W first R code now base tables room reached k0 ks r own ar line own_there false whole ps x None None = λ j q g o. placed_so.functions k x e j q (there_too x ps begins j q g) o in
          let on_own : OwnIs p fine F W x.class None = subst (λ o. OwnIs p fine F W o None) (sym no_class) tt in
          let rest_c : List Cell = ca ++ (rooms_code xs ps res block ++ (mask_c ++ (does (op.Local block) line ∷ (does op.Tick line ∷ (does o line ∷ co))))) in
          let long_is : length (rest_c ++ ct) ≡ length ca + length (rooms_code xs ps res block ++ mask_c) + 1 + 1 + 1 + length co + length ct = grouped_long [] ca (rooms_code xs ps res block) mask_c _ _ _ co ct in
          let at_end : pc + 1 + length ca + length (rooms_code xs ps res block ++ mask_c) + 1 + 1 + 1 + length co + length ct ≡ pc + length ((does op.Null line ∷ rest_c) ++ ct) = omega (arith, long_is) in
          ends.same_outcome code now (ap (λ o. ((there o >>= λ x. run_routine p (enter p room) x None (arguments p (enter p room) x.parameters x.parameters xs) (λ own f. outputs p (enter p room) x.parameters own f xs)) >>= result) line s) e)
          (ends.step_leads code now (op.Null, line) has.0
          (subst (λ j. From (cfg (pc + 1) (word.Null ∷ ws) s m) (λ v t y. cfg j (after v) t y) done ((run_routine p (enter p room) x None (arguments p (enter p room) x.parameters x.parameters xs) (λ own f. outputs p (enter p room) x.parameters own f xs) >>= result) line s)) at_end
          (argued_run x (tables.function_routine k) None None o word.Null xs ps b.rest withr false whole block size1 size res None [] ca co ct result after done opened.0 (pc + 1) ws s m (uk.0 x n) on_own
          (subst (λ o. HasOwn p fine is_there W first R code now base tables o None) (sym no_class) tt) refl (λ left z wide words. result_ok x (given_bits ps 0 ps xs + result_bit withr) opened.0 left opened.1 (inl refl) z b.suits begins (uk.0 x n) wide words) stands (known_tables.functions k x e) declared few (args_ok x b.suits) once u big grows room_there rooms_low (below_low res free block opens (omega (arith, room_there, high))) fair opened.2
          (subst (Stands code now r (pc + 1)) (grouped [] ca (rooms_code xs ps res block) mask_c (does (op.Local block) line) (does op.Tick line) (does o line) co ct) has.1)
          (λ bytes long sh2 _. subst (λ j. From (cfg (pc + 1) (word.Null ∷ ws) s m) (λ (_ : Unit {0}) t y. cfg j (word.Null ∷ ws) t y) (λ _ t y. Opened None size1 (block + size1) block opened.0 t y) (Done tt s)) (let z : pc + 1 ≡ pc + 1 + 0 = omega arith in z) (ends.stays code now tt s m (record { bytes = bytes; long = long; own_held = tt; shown = sh2 })))
          (λ bytes at y2 ok each h' long sh2 has'. args_hyp x opened.0 bytes at (word.Null ∷ ws) s y2 ok each h' fair long sh2 has')
          (λ at t2 y2 _. dp.function_acts p fine small is_there W first R code now base tables room reached k0 ks r own ar line own_there (tables.function_routine k) (here_at block) (cfg at (word.Address (here_at block) ∷ (word.Null ∷ ws)) t2 y2) ws refl)
          (λ f at t2 y2 returned slots fair2 has'. outs x (given_bits ps 0 ps xs + result_bit withr) (inl refl) b.suits begins (uk.0 x n) None opened.0 None size grows stands on_own f at t2 y2 returned slots fair2 has')
          (λ f at t2 y2 returned slots has'. takes x (given_bits ps 0 ps xs + result_bit withr) (inl refl) b.suits begins (uk.0 x n) opened.0 opened.1 None f at t2 y2 returned slots has'))))
      call_run (a_method by_instance name) t whole goal cp xs ps withr P O G V0 free block size1 size res ca co ct result after done kept pc ws s m is_call h params once uk u big grows room_there rooms_low opens fair sh args_ok result_ok has super_whole goal_hyp goal_typed args_hyp outs takes =
          ends.same_outcome code now (by_class_order goal (λ c. lookup p c name) (λ q x. run_routine p (enter p room) x (Some q) (arguments p (enter p room) x.parameters x.parameters xs) (λ own f. outputs p (enter p room) x.parameters own f xs)) result s)
          (member_call true (λ c. lookup p c name) t whole goal cp xs ps withr false P (a_method_of t name) (method_call plan t name) free block size1 size res ca co ct result after done kept pc ws s m h.2 params once uk u big grows room_there rooms_low opens fair args_ok (λ x mask rest left rests e z b begins re wide words. result_ok x mask rest left rests (inl e) z b begins re wide words) has (goal_hyp tt h.0) (goal_typed tt h.0 h.1)
          (λ q i. h.2.found.1 i.class (q, i.name, i.fields, i.shape) i.meets) (λ q i x e. (enters_by_class i.class i.meets e, (q, i.name, i.fields, i.shape))) (λ q i x e. fine.methods_above i.class name x e) (λ q i x e. method_found t name q i x h.2.found.0 e) args_hyp (λ q i x e begins j y g o. placed_so.methods i.class name x e j y (there_too x ps begins j y g) o)
          (λ x pk e re q rest kept_own st on_own f at t2 y2 returned slots fair2 has'. outs x (given_bits ps 0 ps xs + result_bit withr) (inl refl) pk e re (Some q) rest kept_own size grows st on_own f at t2 y2 returned slots fair2 has')
          (λ x pk e re rest rests kept_own f at t2 y2 returned slots has'. takes x (given_bits ps 0 ps xs + result_bit withr) (inl refl) pk e re rest rests kept_own f at t2 y2 returned slots has'))
      call_run (a_method (from_class d) name) t whole goal cp xs ps withr P O G V0 free block size1 size res ca co ct result after done kept pc ws s m is_call h params once uk u big grows room_there rooms_low opens fair sh args_ok result_ok has super_whole goal_hyp goal_typed args_hyp outs takes =
          ends.same_outcome code now (by_class_order goal (λ _. lookup p d name) (λ q x. run_routine p (enter p room) x (Some q) (arguments p (enter p room) x.parameters x.parameters xs) (λ own f. outputs p (enter p room) x.parameters own f xs)) result s)
          (member_call true (λ _. lookup p d name) (type.Instance d) whole goal cp xs ps withr false P (a_method_from d name) (op.Call (tables.method_routine d name) 1) free block size1 size res ca co ct result after done kept pc ws s m h.2 params once uk u big grows room_there rooms_low opens fair args_ok (λ x mask rest left rests e z b begins re wide words. result_ok x mask rest left rests (inl e) z b begins re wide words) has (goal_hyp tt h.0) (goal_typed tt h.0 h.1)
          (λ q i. h.2.found) (λ q i x e. (by_text e, tt)) (λ q i x e. typing.above_up p fine i.class d x.class i.meets (fine.methods_above d name x e)) (λ q i x e. dp.super_dispatched p fine small is_there W first R code now base tables room reached k0 ks r own ar line own_there known_tables d name q (type.Instance d) i x e) args_hyp (λ q i x e begins j y g o. placed_so.methods d name x e j y (there_too x ps begins j y g) o)
          (λ x pk e re q rest kept_own st on_own f at t2 y2 returned slots fair2 has'. outs x (given_bits ps 0 ps xs + result_bit withr) (inl refl) pk e re (Some q) rest kept_own size grows st on_own f at t2 y2 returned slots fair2 has')
          (λ x pk e re rest rests kept_own f at t2 y2 returned slots has'. takes x (given_bits ps 0 ps xs + result_bit withr) (inl refl) pk e re rest rests kept_own f at t2 y2 returned slots has'))
      call_run (a_body by_instance) t whole goal cp xs ps withr P O G V0 free block size1 size res ca co ct result after done kept pc ws s m is_call h params once uk u big grows room_there rooms_low opens fair sh args_ok result_ok has super_whole goal_hyp goal_typed args_hyp outs takes =
          ends.same_outcome code now (by_class_order goal (body_of p) (λ q x. run_routine p (enter p room) x (Some q) (arguments p (enter p room) x.parameters x.parameters xs) (λ own f. outputs p (enter p room) x.parameters own f xs)) result s)
          (member_call true (body_of p) whole whole goal cp xs ps withr true P (a_body_of whole) (op.CallM (class_of_kind whole) tables.body_slot 1) free block size1 size res ca co ct result after done kept pc ws s m h.2 params once uk u big grows room_there rooms_low opens fair args_ok (λ x mask rest left rests e z b begins re wide words. result_ok x mask rest left rests (inl e) z b begins re wide words) has (goal_hyp tt h.0) (goal_typed tt h.0 h.1)
          (λ q i. h.2.found i.class (q, i.name, i.fields, i.shape) i.meets) (λ q i x e. (by_body i.class i.meets e, (q, i.name, i.fields, i.shape)))
          (λ q i x e. let l = instance_is p fine.regions q i.class i.name i.fields i.shape in typing.body_above p fine i.class i.class x (fine.itself i.class l.0 l.1) e) (λ q i x e. body_found whole h.1.0 h.1.1 q i x e) args_hyp (λ q i x e begins. body_stands h.1.0 whole ps q i x h.1.1 e begins params)
          (λ x pk e re q rest kept_own st on_own f at t2 y2 returned slots fair2 has'. outs x (given_bits ps 0 ps xs + result_bit withr) (inl refl) pk e re (Some q) rest kept_own size grows st on_own f at t2 y2 returned slots fair2 has')
          (λ x pk e re rest rests kept_own f at t2 y2 returned slots has'. takes x (given_bits ps 0 ps xs + result_bit withr) (inl refl) pk e re rest rests kept_own f at t2 y2 returned slots has'))
      call_run (a_body (from_class d)) t whole goal cp xs ps withr P O G V0 free block size1 size res ca co ct result after done kept pc ws s m is_call h params once uk u big grows room_there rooms_low opens fair sh args_ok result_ok has super_whole goal_hyp goal_typed args_hyp outs takes =
          ends.same_outcome code now (fixed_order goal (body_of p d) (λ q x. run_routine p (enter p room) x (Some q) (same_in_outs x.parameters) (λ own f. outputs p (enter p room) x.parameters own f xs)) result s)
          (super_call d whole goal cp xs ps P free block size1 res co ct result after done kept pc ws s m (super_whole d refl h.0) h.1 h.2 params uk (outs_once 0 ps xs once.1) args_ok big room_there rooms_low opens fair (λ x mask rest left rests z b begins re wide words. result_ok x mask rest left rests (inr tt) (λ _. z) b begins re wide words) has (goal_hyp tt h.0) (goal_typed tt h.0 h.1)
          (λ x pk e re q rest kept_own st on_own f at t2 y2 returned slots fair2 has'. outs x (same_bits 0 ps) (inr tt) pk e re (Some q) rest kept_own size1 (omega arith) st on_own f at t2 y2 returned slots fair2 has')
          (λ x pk e re rest rests kept_own f at t2 y2 returned slots has'. takes x (same_bits 0 ps) (inr tt) pk e re rest rests kept_own f at t2 y2 returned slots has'))

      -- ---- the outputs that are taken
      pub outputs_taken : (c : Callee) (xs : Arguments Note) (ps : List Parameter) (withr : Bool) (x : Routine) (mask size size' : ℕ) (whole : StType) (o : Option Path) (kept_own : Option ℤ) (res : Option Below) (f : Frame) (block at : ℕ) (kept : List Kept) (ws : List Word) (s : State) (m : Memory)
          → (mask ≡ given_bits ps 0 ps xs + result_bit withr) ⊎ IsSuper c → ArgumentsAre p k0.scope x ps ps xs → FitsOnce ps xs → AllOf (argument_uses p ps ps xs) → Begins x ps → R x → out.OutputsStand p fine small is_there W first R code now base tables room reached k0 ks r own ar line own_there (keeps_own c) whole ps x o kept_own → OwnIs p fine F W x.class o
          → block_size (length ps) ≤ size → size ≤ size' → behind_outputs plan (block + block_size (length ps)) xs ≤ block + size → outputs_top plan (block + size) xs ≤ k0.long → Returned p base is_there now (record k0 { free = block + size' }) ks block kept x.parameters size' (asks_for (keeps_own c) (block_size (length ps)) xs res kept_own) mask f s m → SlotsAre p fine F W gs x.locals f.locals → Fair gs s → Stands code now r at (outputs_code plan line block (block + size) ps whole xs) → ex.Outputs_run p fine small is_there W first R code now base tables room reached k0 ks r own ar line own_there xs
          → From (cfg at ws s m) (λ (_ : Unit {0}) t y. cfg (at + length (outputs_code plan line block (block + size) ps whole xs)) ws t y) (λ _ t y. Returned p base is_there now (record k0 { free = block + size }) ks block kept ps size (asks_for (keeps_own c) (block_size (length ps)) xs res kept_own) mask f t y) (outputs p (enter p room) ps o f xs line s)
      outputs_taken c xs ps withr x mask size size' whole o kept_own res f block at kept ws s m which args once u begins re stands on_own big grows rooms_low top returned slots fair has runs =
          let known = known_routines x re in
          let asks = asks_for (keeps_own c) (block_size (length ps)) xs res kept_own in
          let each : Each (ParameterIs p x) ps = each_front (ParameterIs p x) ps begins.more (subst (Each (ParameterIs p x)) begins.is known.parameters) in
          let fit : out.RoomsFit p fine small is_there W first R code now base tables room reached k0 ks r own ar line own_there asks size = fit_by (keeps_own c) known each stands in
          let cut = out.left_cut p fine small is_there W first R code now base tables room reached k0 ks r own ar line own_there (record k0 { free = block + size' }) ps mask f block size size' asks returned.bytes returned.rest' s m big grows fit (out.left_first p fine small is_there W first R code now base tables room reached k0 ks r own ar line own_there x ps mask f returned.bytes size' asks (here_at block) begins returned.left) returned.shown in
          let given = out.outputs_given p fine small is_there W first R code now base tables room reached k0 ks r own ar line own_there xs (keeps_own c) whole x ps ps mask o asks f (block_size (length ps)) known stands (λ e d is. same_rooms (keeps_own c) e d is) each args u (on_own, slots) (λ none i g. asked (which_by none which) i g) in
          ends.and_leads code now (λ (_ : Unit {0}) t y. cfg (at + length (outputs_code plan line block (block + size) ps whole xs)) ws t y) (λ _ t y. Shown p base is_there now (with_block p base (record k0 { free = block + size }) block cut.bytes returned.rest' ∷ ks) y t)
          (out.outputs_run p fine small is_there W first R code now base tables room reached k0 ks r own ar line own_there xs o ps mask size f asks whole (block + size) at block cut.bytes returned.rest' ws s m given cut.left big fit (omega arith) top fair cut.shown has runs)
          (λ _ t y sh' _. ends.stays code now tt t y (record { bytes = cut.bytes; rest' = returned.rest'; left = cut.left; rest_left = returned.rest_left; shown = sh' }))
        where
          same_rooms : (b : Bool) → b ≡ false → (d : Room) → IsRoom (rooms.rooms_at p fine small is_there W first R code now base tables room reached k0 ks r own ar line own_there (block_size (length ps)) xs) d → IsRoom (rooms_for b (block_size (length ps)) xs) d
          same_rooms true e d is = absurd (no_true (sym e))
          same_rooms false e d is = is

          some_shape : (a b : Shape) → Some a ≡ Some b → a ≡ b
          some_shape a b e = cc

          fit_by : (b : Bool) → RoutineIs p x → Each (ParameterIs p x) ps → out.OutputsStand p fine small is_there W first R code now base tables room reached k0 ks r own ar line own_there b whole ps x o kept_own → (d : Room) → IsRoom (rooms_for b (block_size (length ps)) xs) d → (of_parameter d.number + 8 ≤ size) × ((shape : Shape) → shape_of p d.kind ≡ Some shape → d.far + store.size shape ≤ size)
          fit_by true known each k d is = absurd is
          fit_by false known each k d is =
              let e = rooms.behind_moved p fine small is_there W first R code now base tables room reached k0 ks r own ar line own_there block (block_size (length ps)) xs in
              let g = rooms.rooms_known p fine small is_there W first R code now base tables room reached k0 ks r own ar line own_there xs x ps ps (block_size (length ps)) (block_size (length ps)) size known each k args (omega arith) (omega (arith, e, rooms_low)) d is in
              let l = get_below ps d.number g.parameter g.there in
              let below = g.below in
              (omega (arith, l, big), λ shape has. subst (λ z. d.far + store.size z ≤ size) (some_shape g.shape shape (sym g.has_shape ∙ has)) below)

          no_super_kept : (c : Callee) → keeps_own c ≡ false → IsSuper c → ⊥
          no_super_kept (a_body (from_class d)) e h = no_true (sym e)
          no_super_kept c e h = absurd h

          which_by : keeps_own c ≡ false → (mask ≡ given_bits ps 0 ps xs + result_bit withr) ⊎ IsSuper c → mask ≡ given_bits ps 0 ps xs + result_bit withr
          which_by none (inl e) = e
          which_by none (inr z) = absurd (no_super_kept c none z)

          right_true : (a b : Bool) → b ≡ true → (a || b) ≡ true
          right_true true b e = refl
          right_true false b e = e

          asked : mask ≡ given_bits ps 0 ps xs + result_bit withr → (i : ℕ) → is_among i (output_numbers xs) ≡ true → has_bit mask i ≡ true
          asked e i g =
              let short = begins_short x ps begins in
              let written_is = given_written x ps xs withr short args once in
              let l = written_is.outs i g in
              let low = get_below ps i l.0 l.1 in
              ap (λ n. has_bit n i) e ∙ (written_is.has i (omega (arith, low, short)) ∙ right_true (is_among i (argument_numbers 0 ps xs)) (is_among i (output_numbers xs)) g)

    -- ---- a call that is no conversion

    call_code_is : (c : Callee) (xs : Arguments Note) (t : StType) (operand_c called : List Cell) (at : ℕ) → is_conversion c ≡ false → call_value_code line c xs t operand_c called at ≡ called ++ taken_code line at t
    call_code_is a_conversion xs t operand_c called at h = cc
    call_code_is c xs t operand_c called at h = refl

    call_value_is : (c : Callee) (t : StType) (operand_value : Run Value) (called : Run Frame) (s : State) → is_conversion c ≡ false → call_value_of c t operand_value called line s ≡ (called >>= λ f. there (result_of f)) line s
    call_value_is a_conversion t operand_value called s h = cc
    call_value_is c t operand_value called s h = refl

    pub call_top_is : (c : Callee) (m n : ℕ) → is_conversion c ≡ false → call_top c m n ≡ n
    call_top_is a_conversion m n h = cc
    call_top_is c m n h = refl

    pub call_fit : (c : Callee) (O G : Type 0) (whole : StType) (k : Option Called) (P : Routine → Type 0) (V0 : Type 0) → is_conversion c ≡ false → CallIs p k0.scope c O G whole k P V0 → V0
    call_fit a_conversion O G whole k P V0 e h = cc
    call_fit (a_function n) O G whole k P V0 e h = h.1
    call_fit (a_method s name) O G whole k P V0 e h = h.3
    call_fit (a_body s) O G whole k P V0 e h = h.3

    result_known : (c : Callee) (t : StType) (P : Routine → Type 0) (x : Routine) → is_conversion c ≡ false → CallResultIs c t P x → ResultIs x t
    result_known a_conversion t P x e h = cc
    result_known (a_function n) t P x e h = h.0
    result_known (a_method s name) t P x e h = h.0
    result_known (a_body s) t P x e h = h.0

    -- where a large result comes to
    abbrev result_below : Bool → ℕ → StType → Option Below
    result_below true free t = Some (record { from = free; kind = t })
    result_below false free t = None

    opens_so : (b : Bool) (free : ℕ) (t : StType) → is_large t ≡ b → Opens (result_below b free t) free (free + room_of (bytes_of p) t)
    opens_so true free t e = (refl, ap (λ d. free + (if d then bytes_of p t else 0)) e)
    opens_so false free t e = let z : room_of (bytes_of p) t ≡ 0 = ap (λ d. if d then bytes_of p t else 0) e in omega (arith, z)

    words_so : (b : Bool) (free block : ℕ) (t : StType) → is_large t ≡ b → large_code line (block + of_result) free t ≡ rooms.result_words p fine small is_there W first R code now base tables room reached k0 ks r own ar line own_there (result_below b free t) block
    words_so true free block t e = ap (λ d. if d then does (op.Local free) line ∷ (does (op.Local (block + of_result)) line ∷ (does op.StoreRef line ∷ [])) else []) e
    words_so false free block t e = ap (λ d. if d then does (op.Local free) line ∷ (does (op.Local (block + of_result)) line ∷ (does op.StoreRef line ∷ [])) else []) e

    abbrev first_bytes : List Kept → List ℕ
    first_bytes [] = []
    first_bytes (x ∷ xs) = x.bytes

    abbrev behind_first : List Kept → List Kept
    behind_first [] = []
    behind_first (x ∷ xs) = xs

    whole_call : (calls : CallRuns p fine is_there W first R code now base tables room) (at_depth : room + (base + length ks) ≡ limit) (known_tables : TablesAre p fine is_there W first R code now base tables) (known_routines : (x : Routine) → R x → RoutineIs p x) (placed_so : OutputsPlaced p) (b : Bool) (c : Callee) (xs : Arguments Note) (a : Note) (q : Root Note) (ss : Selectors Note) (free pc : ℕ) (kept : List Kept) (ws : List Word) (s : State) (m : Memory)
        → is_large a.kind ≡ b → callee_of q ss ≡ c → is_conversion c ≡ false → value_top plan free (Call a q ss xs) ≤ k0.long → ExpressionIs p k0.scope (Call a q ss xs) → AllOf (expression_uses p (Call a q ss xs)) → Fair gs s → Now_shown free kept s m → Stands code now r pc (ec free (Call a q ss xs)) → ex.Goal_runs p fine small is_there W first R code now base tables room reached k0 ks r own ar line own_there q ss free pc kept ws s m → ex.Arguments_run p fine small is_there W first R code now base tables room reached k0 ks r own ar line own_there xs → ex.Outputs_run p fine small is_there W first R code now base tables room reached k0 ks r own ar line own_there xs
        → From (cfg pc ws s m) (lands (pc + length (ec free (Call a q ss xs))) (λ v. value_word p base (here_at free) v ∷ ws)) (λ v y x. Valued a.kind free kept v y x) (value p (enter p room) (Call a q ss xs) line s)
    whole_call calls at_depth known_tables known_routines placed_so b c xs a q ss free pc kept ws s m large_is is is_call top h u fair sh has goal_runs arguments_runs outputs_runs =
        subst (λ l. Stands code now r pc l → From (cfg pc ws s m) (lands (pc + length l) (λ v. value_word p base (here_at free) v ∷ ws)) (λ v y x. Valued a.kind free kept v y x) (value p (enter p room) (Call a q ss xs) line s)) (sym code_is) (λ has'.
        ends.same_outcome code now (ap (λ c. call_value_of c a.kind (operand p (enter p room) xs) (call p (enter p room) c goal (λ l. arguments p (enter p room) l l xs) (λ l own f. outputs p (enter p room) l own f xs)) line s) is ∙ call_value_is c a.kind (operand p (enter p room) xs) _ s is_call)
        (call_run calls at_depth known_tables known_routines placed_so c t whole goal cp xs ps true P O G V0 free block size1 size2 res (arguments_code plan line block (block + size1) ps 0 ps xs) (outputs_code plan line block (block + size1) ps whole xs) (taken_code line (block + of_result) a.kind) (λ f. there (result_of f)) (λ v. value_word p base (here_at free) v ∷ ws) (λ v z y. Valued a.kind free kept v z y) kept pc ws s m
        is_call call_is (ap (λ c. called_parameters p (called_by c t whole)) (sym is)) once (subst (λ c. AllOf (call_use (called_by c t whole))) is (typing.front _ (call_use (called_of q ss)) _ u)) u4 big grows room_top (omega (arith, behind_is)) (opens_so b free a.kind large_is) fair sh
        args_of result_ok has'
        (λ d e g. super_place p k0.scope q ss d (is ∙ e) g.0 g.1)
        (λ _ g has1. goal_runs along_is g.0 g.1 way_uses fair sh has1)
        (λ mem g body. subst (λ c. BodyIs p k0.scope.locals whole c → Typed_run goal (Receives p fine F W first first R (enter p room) reached k0.scope (scopes ks) c t whole)) is (λ body. typing.goal_obeys p fine F W first first R (enter p room) reached k0.scope (scopes ks) q ss g.0 g.1 body (typing.front _ (owner_uses q ss) _ u1) (typing.front _ (root_uses q) _ u2) (typing.front _ (along_uses p (root_note q).kind ss) _ u3)) body)
        (λ x rest bytes at ws' v y ok each args fair' long sh' has1. subst (λ n. From (cfg at ws' v y) (λ _ t y. cfg (at + length (arguments_code plan line block (block + size1) ps 0 ps xs)) ws' t y) (ex.Passes p fine small is_there W first R code now base tables room reached k0 ks r own ar line own_there x ps n block rest bytes (argument_numbers 0 ps xs)) (arguments p (enter p room) ps ps xs line v)) ends_is (arguments_runs x ps (block + size1) block rest bytes at ws' v y args_top ok each (omega (arith, at_depth)) args u4 (once_of 0 ps xs once.1) fair' sh' (ap (λ n. block + n) long) (omega (arith, long, big)) has1))
        (λ x mask which z begins re own' rest kept_own size' grows' stands on_own f at v y returned slots fair' has1. outputs_taken calls at_depth known_tables known_routines placed_so c xs ps true x mask size1 size' whole own' kept_own res f block at rest ws v y which (args_of x z) once u4 begins re stands on_own big grows' (omega (arith, behind_is)) outs_top returned slots fair' has1 outputs_runs)
        (λ x mask which z begins re rest rests kept_own f at v y returned slots has1. taken x mask which z begins re rest kept_own f at v y returned slots (taken_by b large_is rest rests) has1))) has
      where
        ps : List Parameter
        ps = called_parameters p (called_of q ss)

        block : ℕ
        block = free + room_of (bytes_of p) a.kind

        res : Option Below
        res = result_below b free a.kind

        size : ℕ
        size = block_size (length ps)

        behind : ℕ
        behind = behind_outputs plan (block + size) xs

        size1 : ℕ
        size1 = behind - block

        above : block + size ≤ behind
        above = rooms.room_above p fine small is_there W first R code now base tables room reached k0 ks r own ar line own_there (block + size) xs

        behind_is : behind ≡ block + size1
        behind_is = omega (arith, above)

        big : size ≤ size1
        big = omega (arith, above)

        size2 : ℕ
        size2 = arguments_end plan (block + size1) ps ps xs - block

        ends_is : arguments_end plan (block + size1) ps ps xs ≡ block + size2
        ends_is = let h = arguments_above (block + size1) ps ps xs in omega (arith, h)

        grows : size1 ≤ size2
        grows = let h = arguments_above (block + size1) ps ps xs in omega (arith, h)

        t : StType
        t = receiver (root_note q).kind ss

        whole : StType
        whole = last_kind (root_note q).kind ss

        goal : Run Spot
        goal = placed q (along p (enter p room) ss)

        cp : List Cell
        cp = rc q ++ ac free ss (root_note q).kind

        O : Type 0
        O = OperandIs p k0.scope xs

        G : Type 0
        G = RootIs p k0.scope q × CalledAlong p k0.scope ss (root_note q).kind

        P : Routine → Type 0
        P = CallResultIs c a.kind (λ x. ArgumentsAre p k0.scope x ps ps xs)

        args_of : (x : Routine) → P x → ArgumentsAre p k0.scope x ps ps xs
        args_of x z = typing.call_result_is p fine F W first first R (enter p room) reached k0.scope (scopes ks) c a.kind _ x z

        V0 : Type 0
        V0 = FitsOnce ps xs

        call_is : CallIs p k0.scope c O G whole (called_by c t whole) P V0
        call_is = subst (λ c. CallIs p k0.scope c O G whole (called_by c t whole) (CallResultIs c a.kind (λ x. ArgumentsAre p k0.scope x ps ps xs)) V0) is h.1

        once : FitsOnce ps xs
        once = call_fit c O G whole (called_by c t whole) P V0 is_call call_is

        u1 : AllOf (owner_uses q ss ++ (root_uses q ++ (along_uses p (root_note q).kind ss ++ argument_uses p ps ps xs)))
        u1 = typing.back _ (call_use (called_of q ss)) _ u

        u2 : AllOf (root_uses q ++ (along_uses p (root_note q).kind ss ++ argument_uses p ps ps xs))
        u2 = typing.back _ (owner_uses q ss) _ u1

        u3 : AllOf (along_uses p (root_note q).kind ss ++ argument_uses p ps ps xs)
        u3 = typing.back _ (root_uses q) _ u2

        u4 : AllOf (argument_uses p ps ps xs)
        u4 = typing.back _ (along_uses p (root_note q).kind ss) _ u3

        way_uses : AllOf (root_uses q ++ along_uses p (root_note q).kind ss)
        way_uses = out.covered_joined p fine small is_there W first R code now base tables room reached k0 ks r own ar line own_there (root_uses q) (along_uses p (root_note q).kind ss) (typing.front _ (root_uses q) _ u2) (typing.front _ (along_uses p (root_note q).kind ss) _ u3)

        tops : max (along_top plan free ss) (max behind (max (arguments_top plan behind ps ps xs) (outputs_top plan behind xs))) ≤ k0.long
        tops = subst (λ n. n ≤ k0.long) (call_top_is (callee_of q ss) _ _ (ap is_conversion is ∙ is_call)) top

        along_is : along_top plan free ss ≤ k0.long
        along_is = (both_fit (along_top plan free ss) _ k0.long tops).0

        block_top : max behind (max (arguments_top plan behind ps ps xs) (outputs_top plan behind xs)) ≤ k0.long
        block_top = (both_fit (along_top plan free ss) _ k0.long tops).1

        room_top : block + size1 ≤ k0.long
        room_top = subst (λ n. n ≤ k0.long) behind_is (both_fit behind _ k0.long block_top).0

        args_top : arguments_top plan (block + size1) ps ps xs ≤ k0.long
        args_top = subst (λ n. arguments_top plan n ps ps xs ≤ k0.long) behind_is (both_fit (arguments_top plan behind ps ps xs) (outputs_top plan behind xs) k0.long (both_fit behind _ k0.long block_top).1).0

        outs_top : outputs_top plan (block + size1) xs ≤ k0.long
        outs_top = subst (λ n. outputs_top plan n xs ≤ k0.long) behind_is (both_fit (arguments_top plan behind ps ps xs) (outputs_top plan behind xs) k0.long (both_fit behind _ k0.long block_top).1).1

        full : Callee → ℕ → List Cell → List Cell
        full c beh words = call_value_code line c xs a.kind (operand_code plan line free xs)
            (enter_code plan line c ps block t whole cp (arguments_by c (arguments_code plan line block beh ps 0 ps xs) (same_code plan line block 0 ps)) (output_rooms plan line block (block + size) xs ++ words) (mask_of c ps true xs) (outputs_code plan line block beh ps whole xs)) (block + of_result)

        code_is : ec free (Call a q ss xs) ≡ (enter_code plan line c ps block t whole cp (arguments_by c (arguments_code plan line block (block + size1) ps 0 ps xs) (same_code plan line block 0 ps)) (rooms_code calls at_depth known_tables known_routines placed_so xs ps res block) (mask_of c ps true xs) (outputs_code plan line block (block + size1) ps whole xs)) ++ taken_code line (block + of_result) a.kind
        code_is =
            let words = words_so b free block a.kind large_is in
            (λ i. full (is i) (behind_is i) (words i))
            ∙ call_code_is c xs a.kind (operand_code plan line free xs) _ (block + of_result) is_call

        deep : base + length (k0 ∷ ks) ≤ 2147483647
        deep = omega (arith, at_depth)

        low : k0.long < 4294967296
        low = long_is_low free kept s m sh

        here_kept : KeptAddress p base (here_at free)
        here_kept = kept_local p base (base + length ks) free (omega (arith, deep)) (omega (arith, room_top, low))

        result_bit_set : (x : Routine) (mask : ℕ) → mask ≡ given_bits ps 0 ps xs + result_bit true → P x → Begins x ps → has_bit mask result_place ≡ true
        result_bit_set x mask e z begins =
            let short = begins_short x ps begins in
            let args : ArgumentsAre p k0.scope x ps ps xs = args_of x z in
            let low = below_more (length ps) result_place (written_numbers 0 ps xs) (omega (arith, short)) (numbers_below x ps ps 0 xs (λ j. let z : 0 + j ≡ j = omega arith in ap (slice_get ps) z) args) in
            ap (λ n. has_bit n result_place) (e ∙ ap (λ n. n + 2 ^ result_place) (bits_are ps 0 ps xs)) ∙ result_asked (written_numbers 0 ps xs) once.1 low

        none_super : {X : Type 0} → IsSuper c → X
        none_super z = absurd (no_super c a.kind z (subst (λ c. ConversionIs c a.kind) is h.0))

        -- the shape of a result
        result_shape : (x : Routine) → P x → R x → (shape : Shape) × (shape_of p a.kind ≡ Some shape) × IsNoInstance a.kind
        result_shape x z re =
            let first_local = result_known c a.kind _ x is_call z in
            let k = typing.local_kind p fine x 0 first_local.0 (known_routines x re) first_local.1 first_local.3 in
            (k.0, ap (shape_of p) (sym first_local.2) ∙ k.1, subst IsNoInstance first_local.2 (no_instance p first_local.0.kind k.0 (within_bound p first_local.0.kind k.0 k.1) k.2))

        result_ok : (x : Routine) (mask : ℕ) (rest : List Kept) (left : List ℕ) → RestOf res kept rest → (mask ≡ given_bits ps 0 ps xs + result_bit true) ⊎ IsSuper c → (true ≡ false → has_bit mask result_place ≡ false) → P x → Begins x ps → R x → 24 ≤ length left → rooms.ResultKept p fine small is_there W first R code now base tables room reached k0 ks r own ar line own_there res left → ResultAsked p base x (here_at block) mask left rest res
        result_ok x mask rest left rests (inr z) _ pk begins re wide words = none_super z
        result_ok x mask rest left rests (inl e) _ pk begins re wide words = by b large_is rests words
          where
            first_local : ResultIs x a.kind
            first_local = result_known c a.kind _ x is_call pk

            by : (d : Bool) → is_large a.kind ≡ d → RestOf (result_below d free a.kind) kept rest → rooms.ResultKept p fine small is_there W first R code now base tables room reached k0 ks r own ar line own_there (result_below d free a.kind) left → ResultAsked p base x (here_at block) mask left rest (result_below d free a.kind)
            by false small_a g w = λ _ v at _.
                let same : first_local.0 ≡ v = let z : Some first_local.0 ≡ Some v = sym first_local.1 ∙ at in cc in
                ap (λ (y : Variable). is_large y.kind) (sym same) ∙ (ap is_large first_local.2 ∙ small_a)
            by true large_a g w =
                let shaped = result_shape x pk re in
                let same : w.z ≡ pos (kept_number p base (here_at free)) = goes_once (sym w.is ∙ here_kept.keeps) in
                record {
                  variable = first_local.0;
                  in_locals = first_local.1;
                  no_place = first_local.3;
                  kind_is = first_local.2;
                  large = large_a;
                  asked = result_bit_set x mask e pk begins;
                  shape = shaped.0;
                  has_shape = shaped.1;
                  before = g.0;
                  behind = kept;
                  is = g.2;
                  long = g.1 ∙ ap size_in shaped.1;
                  word_there = subst (λ z. Holds elem.Ulint z left of_result) same w.holds_it;
                  decodes = here_kept.decodes;
                }

        -- what is taken, from what is kept below the block after the call
        Taken : List Kept → Type 0
        Taken rest = (x : Routine) (mask : ℕ) → mask ≡ given_bits ps 0 ps xs + result_bit true → P x → Begins x ps → R x → (kept_own : Option ℤ) (f : Frame) (at : ℕ) (v : State) (y : Memory) → Returned p base is_there now (record k0 { free = block + size1 }) ks block rest ps size1 (asks_for (keeps_own c) size xs res kept_own) mask f v y → SlotsAre p fine F W gs x.locals f.locals
            → (w : Value) → frame_value (Some f) 0 ≡ Some w → OfKind p F a.kind w → Stands code now r at (taken_code line (block + of_result) a.kind)
            → From (cfg at ws v y) (λ w z y. cfg (at + length (taken_code line (block + of_result) a.kind)) (value_word p base (here_at free) w ∷ ws) z y) (λ w z y. Valued a.kind free kept w z y) (Done w v)

        taken_by : (d : Bool) → is_large a.kind ≡ d → (rest : List Kept) → RestOf res kept rest → Taken rest
        taken_by d e rest rests = by b large_is refl rests
          where
            by : (d : Bool) → is_large a.kind ≡ d → res ≡ result_below d free a.kind → RestOf (result_below d free a.kind) kept rest → Taken rest
            by false small_a res_is g x mask e pk begins re kept_own f at v y returned slots w held typed has1 =
                let long = returned.left.long in
                let set = result_bit_set x mask e pk begins in
                let left_is : returned.rest' ≡ rest = subst (λ o. RestLeft p base o f rest returned.rest') res_is returned.rest_left in
                let free_is : block ≡ free = opens_so false free a.kind small_a in
                ends.and_leads code now (lands (at + length (taken_code line (block + of_result) a.kind)) (λ v'. value_word p base (here_at free) v' ∷ ws)) (λ _ z y'. Now_shown (block + size1) (record { from = block; bytes = returned.bytes } ∷ returned.rest') z y')
                (out.word_taken p fine small is_there W first R code now base tables room reached k0 ks r own ar line own_there a.kind w (block + size1) block returned.bytes returned.rest' of_result at ws v y small_a (result_shape x pk re).2 typed returned.shown (omega (arith, long, big)) (λ word_is. returned.left.result w (here_at block) set held word_is) has1 (here_at free))
                (λ v' z y' sh' _. ends.stays code now v' z y' (ex.plain_valued p fine small is_there W first R code now base tables room reached k0 ks r own ar line own_there a.kind free kept v' z y' small_a
                (subst (λ n. Now_shown n kept z y') free_is (subst (λ l. Now_shown block l z y') (left_is ∙ g) (block_gone block (block + size1) returned.bytes returned.rest' z y' sh')))))
            by true large_a res_is g x mask e pk begins re kept_own f at v y returned slots w held typed has1 =
                let long = returned.left.long in
                let shaped = result_shape x pk re in
                let left_is : ResultLeft p base (record { from = free; kind = a.kind }) f rest returned.rest' = subst (λ o. RestLeft p base o f rest returned.rest') res_is returned.rest_left in
                let once_kept : record { from = free; bytes = left_is.before } ∷ left_is.behind ≡ record { from = free; bytes = g.0 } ∷ kept = sym left_is.was ∙ g.2 in
                let before_is : left_is.before ≡ g.0 = ap first_bytes once_kept in
                let behind_kept : left_is.behind ≡ kept = ap behind_first once_kept in
                let spells = left_is.spells w shaped.0 held shaped.1 in
                let bytes_long : length left_is.bytes ≡ store.size shaped.0 = left_is.long ∙ (ap (λ (l : List ℕ). length l) before_is ∙ (g.1 ∙ ap size_in shaped.1)) in
                let word_is : value_word p base (here_at free) w ≡ word.Address (here_at free) = large_word p fine base (here_at free) a.kind shaped.0 w left_is.bytes 0 large_a (within_bound p a.kind shaped.0 shaped.1) spells in
                let taken_is = out.taken_large p fine small is_there W first R code now base tables room reached k0 ks r own ar line own_there a.kind (block + of_result) large_a in
                let after : Value → State → Memory → Config = lands (at + 1 + 1) (λ v'. value_word p base (here_at free) v' ∷ ws) in
                let valued : Value → State → Memory → Type 0 = λ w z y. Valued a.kind free kept w z y in
                subst (λ l. Stands code now r at l → From (cfg at ws v y) (lands (at + length l) (λ w. value_word p base (here_at free) w ∷ ws)) valued (Done w v)) (sym taken_is)
                (λ has2. ex.ends_at p fine small is_there W first R code now base tables room reached k0 ks r own ar line own_there (at + 1 + 1) _ (omega arith)
                (ends.and_then code now (λ (_ : Unit {0}) z y. cfg (at + 1 + 1) (word.Address (here_at free) ∷ ws) z y) (λ _ z y. Now_shown (block + size1) (record { from = block; bytes = returned.bytes } ∷ returned.rest') z y)
                (out.address_taken p fine small is_there W first R code now base tables room reached k0 ks r own ar line own_there (here_at free) (block + size1) block returned.bytes returned.rest' of_result at ws v y returned.shown (omega (arith, long, big)) (returned.left.large_result (record { from = free; kind = a.kind }) res_is) here_kept.decodes has2)
                (λ y' sh'. subst (λ u. From (cfg (at + 1 + 1) (u ∷ ws) v y') after valued (Done w v)) word_is
                (ends.stays code now w v y' (subst (λ d. by_size d (ex.LargeKept p fine small is_there W first R code now base tables room reached k0 ks r own ar line own_there a.kind free kept w v y') (Now_shown free kept v y')) (sym large_a)
                (record {
                  shape = shaped.0;
                  unfolds = shaped.1;
                  bytes = left_is.bytes;
                  long = bytes_long;
                  spells = spells;
                  shown = subst (λ l. Now_shown block (record { from = free; bytes = left_is.bytes } ∷ l) v y') behind_kept (subst (λ l. Now_shown block l v y') left_is.is (block_gone block (block + size1) returned.bytes returned.rest' v y' sh'));
                })))))) has1

        taken : (x : Routine) (mask : ℕ) → (mask ≡ given_bits ps 0 ps xs + result_bit true) ⊎ IsSuper c → P x → Begins x ps → R x → (rest : List Kept) (kept_own : Option ℤ) (f : Frame) (at : ℕ) (v : State) (y : Memory) → Returned p base is_there now (record k0 { free = block + size1 }) ks block rest ps size1 (asks_for (keeps_own c) size xs res kept_own) mask f v y → SlotsAre p fine F W gs x.locals f.locals → Taken rest → Stands code now r at (taken_code line (block + of_result) a.kind)
            → From (cfg at ws v y) (λ w z y. cfg (at + length (taken_code line (block + of_result) a.kind)) (value_word p base (here_at free) w ∷ ws) z y) (λ w z y. Valued a.kind free kept w z y) (there (result_of f) line v)
        taken x mask (inr z) pk begins re rest kept_own f at v y returned slots takes has1 = none_super z
        taken x mask (inl e) pk begins re rest kept_own f at v y returned slots takes has1 =
            let first_local = result_known c a.kind _ x is_call pk in
            let plain : IsNoInstance a.kind = (result_shape x pk re).2 in
            let w = first_held x.locals f.locals first_local.0 first_local.1 first_local.3 slots in
            let typed = first_typed x f first_local.0 w.0 a.kind plain first_local.2 first_local.1 slots w.1 in
            ends.same_outcome code now (ap (λ o. there o line v) w.1) (takes x mask e pk begins re kept_own f at v y returned slots w.0 w.1 typed has1)

    pub known_call : (calls : CallRuns p fine is_there W first R code now base tables room) (at_depth : room + (base + length ks) ≡ limit) (known_tables : TablesAre p fine is_there W first R code now base tables) (known_routines : (x : Routine) → R x → RoutineIs p x) (placed_so : OutputsPlaced p) (c : Callee) (xs : Arguments Note) (a : Note) (q : Root Note) (ss : Selectors Note) (free pc : ℕ) (kept : List Kept) (ws : List Word) (s : State) (m : Memory)
        → callee_of q ss ≡ c → is_conversion c ≡ false → value_top plan free (Call a q ss xs) ≤ k0.long → ExpressionIs p k0.scope (Call a q ss xs) → AllOf (expression_uses p (Call a q ss xs)) → Fair gs s → Now_shown free kept s m → Stands code now r pc (ec free (Call a q ss xs)) → ex.Goal_runs p fine small is_there W first R code now base tables room reached k0 ks r own ar line own_there q ss free pc kept ws s m → ex.Arguments_run p fine small is_there W first R code now base tables room reached k0 ks r own ar line own_there xs → ex.Outputs_run p fine small is_there W first R code now base tables room reached k0 ks r own ar line own_there xs
        → From (cfg pc ws s m) (lands (pc + length (ec free (Call a q ss xs))) (λ v. value_word p base (here_at free) v ∷ ws)) (λ v y x. Valued a.kind free kept v y x) (value p (enter p room) (Call a q ss xs) line s)
    known_call calls at_depth known_tables known_routines placed_so c xs a q ss free pc kept ws s m is is_call top h u fair sh has goal_runs arguments_runs outputs_runs =
        whole_call calls at_depth known_tables known_routines placed_so (is_large a.kind) c xs a q ss free pc kept ws s m refl is is_call top h u fair sh has goal_runs arguments_runs outputs_runs
