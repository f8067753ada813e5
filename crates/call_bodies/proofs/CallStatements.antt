-- A call as a statement, and the outputs that it takes.
use Rattle.std.proofs.Common.{◌≡◌, ◌≤◌, ℕ, ◌+◌, ◌-◌, Bool, true, false, List, [], ◌∷◌, ◌++◌, length, Option, Some, None, refl, sym, ap, ◌∙◌, subst, arith}
use Rattle.std.specs.Prelude.{slice_get, max}
use Rattle.st_types.specs.declared.st_type.StType.{StType}
use Rattle.st_tree.specs.declared.expression.Root.{Root}
use Rattle.st_tree.specs.declared.program.Note.{Note}
use Rattle.st_tree.specs.Expression.{Call, Selectors, Arguments as Xs}
use Rattle.st_tree.specs.declared.path.Path.{Path}
use Rattle.st_tree.specs.Statement as effect
use Rattle.st_values.specs.Program.{Parameter, Routine, Program}
use Rattle.st_values.specs.Value.{Value, Store}
use Rattle.st_meaning.specs.State.{Spot, in_store, Frame, State, Outcome, Done, Run, go_on, ◌>>=◌, gives, ◌>>◌, spend}
use Rattle.st_meaning.specs.Place.{root_note}
use Rattle.st_meaning.specs.Expression.{placed, along, operand, outputs, arguments}
use Rattle.st_meaning.specs.Enter.{enter}
use Rattle.st_meaning.specs.st_frame.Use.{Use, root_uses, along_uses, last_kind, statement_uses, owner_uses, called_of, called_parameters, call_use, called_by, receiver, argument_uses}
use Rattle.st_meaning.specs.st_frame.Promise.Names.{Scope, RootIs}
use Rattle.st_meaning.specs.st_frame.Promise.Programs.{ProgramIs}
use Rattle.st_meaning.specs.st_frame.Promise.Expressions.{OperandIs, ArgumentsAre, CalledAlong}
use Rattle.st_meaning.specs.st_frame.Promise.Calls.{kind, CallIs, BodyIs}
use Rattle.st_meaning.proofs.st_frame.Obeys.{Obeys, spend_obeys}
use Rattle.st_meaning.proofs.st_frame.Bodies.{All, Covered, CallsObey, Receives}
use Rattle.st_meaning.specs.st_frame.Promise.Declarations.{RoutineIs}
use Rattle.st_meaning.specs.Loop.{Flow, goes_on}
use Rattle.st_meaning.specs.st_frame.Promise.Statements.{StatementIs}
use Rattle.st_meaning.specs.Call.{call, Callee, a_conversion, callee_of, call_effect as call_effect_of}
use Rattle.st_meaning.proofs.st_frame.Bodies as typing
use Rattle.st_meaning.specs.Statement as meaning
use Rattle.stack_code.specs.declared.machine.Frame.{Frame as At}
use Rattle.stack_code.specs.declared.memory.Space.TheVariants.{Locals}
use Rattle.stack_code.specs.declared.memory.Address.{Address}
use Rattle.stack_code.specs.declared.memory.Word.{Word}
use Rattle.stack_code.specs.declared.code.MachineCode.{MachineCode}
use Rattle.stack_code.specs.Memory.{Memory}
use Rattle.stack_code.specs.Steps.{Goes}
use Rattle.stack_code.specs.Machine.{Config, limit}
use Rattle.stack_code.specs.declared.op.Op.TheVariants as op
use Rattle.code_cells.specs.declared.cell.Cell.{Cell}
use Rattle.code_cells.specs.declared.cell.Cell.TheVariants.{Does as does}
use Rattle.code_cells.specs.Cell.{Targets, behind}
use Rattle.code_rules.specs.Plan.{Tables, Plan, plan_of}
use Rattle.code_rules.specs.Places.{block_size}
use Rattle.code_rules.specs.Code.{place_code, outputs_code, is_conversion, enter_code, arguments_by, arguments_code, same_code, mask_of, output_rooms, behind_outputs}
use Rattle.code_rules.specs.Bodies.{effect_code, called_effect_code}
use Rattle.code_rules.specs.Tops.{along_top, outputs_top, effect_top, arguments_top}
use Rattle.shown_memory.specs.Shown.{Kept, Open, scopes, Layout, layouts, Located, located, Shown, Small}
use Rattle.value_runs.proofs.Ends.{Leads, Stands, flow_at}
use Rattle.value_runs.proofs.Expressions.{Fair, both_fit}
use Rattle.memory_access.proofs.Arguments.{arguments_end, argument_numbers}
use Rattle.value_runs.proofs.Ends as ends
use Rattle.value_runs.proofs.Expressions as ex
use Rattle.body_runs.proofs.Stores as stores
use Rattle.body_runs.proofs.Statements as st
use Rattle.call_forms.proofs.CallForm.{CallRuns, TablesAre}
use Rattle.call_values.proofs.Calls as cv
use Rattle.call_parts.proofs.Supers.{super_place}
use Rattle.call_parts.proofs.Rooms as rooms
use Rattle.st_meaning.specs.st_frame.OutputPlaces.{OutputsPlaced}

module _ (p : Program) (fine : ProgramIs p) (small : Small p) (is_there : ℕ → Bool) (W : ℕ → Type 0) (first : Store) (R : Routine → Type 0) (code : MachineCode) (now base : ℕ) (tables : Tables)
    (room : ℕ) (reached : CallsObey p fine (λ r. is_there r ≡ true) W first first R (enter p room)) (k0 : Open) (ks : List Open) (r : ℕ) (own : Option Address) (ar : List At)
    (own_there : (c : ℕ) → k0.scope.this ≡ Some c → (q : Path) × (l : Located) × (k0.own ≡ Some q) × (own ≡ Some l.address) × (located p base [] (in_store q) ≡ Some l))
    (calls : CallRuns p fine is_there W first R code now base tables room) (at_depth : room + (base + length ks) ≡ limit) (known_tables : TablesAre p fine is_there W first R code now base tables) (known_routines : (x : Routine) → R x → RoutineIs p x) (placed_so : OutputsPlaced p) where
  abbrev F : ℕ → Type 0
  F r = is_there r ≡ true

  abbrev gs : List Scope
  gs = scopes (k0 ∷ ks)

  abbrev plan : Plan
  plan = plan_of p tables k0.scope k0.start

  abbrev ls : List Layout
  ls = layouts (k0 ∷ ks)

  abbrev kept_at : ℕ → List Kept → List Open
  kept_at free kept = record k0 { free = free; kept = kept } ∷ ks

  abbrev cfg : ℕ → List Word → State → Memory → Config
  cfg pc ws s m = record { here = record { routine = r; next = pc; own = own }; words = ws; around = ar; memory = m; ticks = s.ticks }

  abbrev lands : {A : Type 0} → ℕ → (A → List Word) → A → State → Memory → Config
  lands pc words a s m = cfg pc (words a) s m

  abbrev Shows : {A : Type 0} → ℕ → List Kept → A → State → Memory → Type 0
  Shows free kept a s m = Shown p base is_there now (kept_at free kept) m s

  abbrev Now_shown : ℕ → List Kept → State → Memory → Type 0
  Now_shown free kept s m = Shown p base is_there now (kept_at free kept) m s

  abbrev here_at : ℕ → Address
  here_at free = record { space = Locals; index = base + length ks; offset = free }

  abbrev From : {A : Type 0} → Config → (A → State → Memory → Config) → (A → State → Memory → Type 0) → Outcome A → Type 0
  From c after shown o = Leads code now (Goes c) after shown o

  abbrev AllOf : List Use → Type 0
  AllOf us = All (Covered p F W R) us

  abbrev Typed_run : {A : Type 0} → Run A → (A → Type 0) → Type 0
  Typed_run m Q = Obeys p fine F W first first gs m Q

  abbrev flows : Targets → ℕ → List Word → Flow → State → Memory → Config
  flows to end ws f s m = cfg (flow_at to end f) ws s m

  abbrev lost : {A : Type 0} → ℕ → List Word → A → State → Memory → Config
  lost pc ws a s m = cfg pc ws s m

  abbrev IsFair : State → Type 0
  IsFair s = ex.Fair p fine small is_there W first R code now base tables gs s

  -- the calls that are values
  pub value_calls : (line : ℕ) → ex.Call_runs p fine small is_there W first R code now base tables room reached k0 ks r own ar line own_there
  value_calls line xs a q ss free pc kept ws s m is_call top h u fair sh has goal_runs arguments_runs outputs_runs =
      cv.known_call p fine small is_there W first R code now base tables room reached k0 ks r own ar line own_there calls at_depth known_tables known_routines placed_so (callee_of q ss) xs a q ss free pc kept ws s m refl is_call top h u fair sh has goal_runs arguments_runs outputs_runs

  -- ---- calls

  -- what a call that is no conversion is
  effect_code_is : (line free : ℕ) (c : Callee) (xs : Xs Note) (called : List Cell) → is_conversion c ≡ false → called_effect_code plan line free c xs called ≡ called
  effect_code_is line free a_conversion xs called h = cc
  effect_code_is line free c xs called h = refl

  call_effect_is : (c : Callee) (operand_value : Run Value) (called : Run Frame) (line : ℕ) (s : State) → is_conversion c ≡ false → call_effect_of c operand_value called line s ≡ (called >>= λ f. gives tt) line s
  call_effect_is a_conversion operand_value called line s h = cc
  call_effect_is c operand_value called line s h = refl

  known_call : (c : Callee) (line : ℕ) (a : Note) (q : Root Note) (ss : Selectors Note) (xs : Xs Note) (to : Targets) (free pc around_line : ℕ) (kept : List Kept) (ws : List Word) (s : State) (m : Memory)
      → callee_of q ss ≡ c → is_conversion c ≡ false → effect_top plan free (effect.Call line a q ss xs) ≤ k0.long → StatementIs p k0.scope (effect.Call line a q ss xs) → AllOf (statement_uses p (effect.Call line a q ss xs)) → IsFair s → Now_shown free kept s m → Stands code now r pc (effect_code plan to free (effect.Call line a q ss xs))
      → From (cfg pc ws s m) (flows to (pc + length (effect_code plan to free (effect.Call line a q ss xs))) ws) (Shows free kept) (meaning.effect p (enter p room) (effect.Call line a q ss xs) around_line s)
  known_call c line a q ss xs to free pc around_line kept ws s m is is_call top h u fair sh has =
      subst (λ l. Stands code now r pc l → From (cfg pc ws s m) (flows to (pc + length l) ws) (Shows free kept) (meaning.effect p (enter p room) (effect.Call line a q ss xs) around_line s)) (sym code_is) (λ has'.
      st.flows_at p fine small is_there W first R code now base tables room reached k0 ks r own ar own_there value_calls to (pc + 1 + length (body_c ++ [])) _ (omega arith)
      (st.bind p fine small is_there W first R code now base tables room reached k0 ks r own ar own_there value_calls {m = spend} {line = line} (lost (pc + 1) ws) (Shows free kept) (st.tick_run p fine small is_there W first R code now base tables room reached k0 ks r own ar own_there value_calls free pc line kept ws s m sh (has'.0, tt)) (spend_obeys p fine F W first first) fair (λ _ s1 m1 sh1 _ _ fair1.
      ends.same_outcome code now (ap (λ o. go_on o (λ _ t. Done goes_on t)) (ap (λ c. call_effect_of c (operand p (enter p room) xs) (call p (enter p room) c goal (λ l. arguments p (enter p room) l l xs) (λ l own f. outputs p (enter p room) l own f xs)) line s1) is ∙ call_effect_is c (operand p (enter p room) xs) _ line s1 is_call))
      (ends.then_leads code now (lost {A = Unit {0}} (pc + 1 + length (body_c ++ [])) ws) (Shows free kept)
      (cv.call_run p fine small is_there W first R code now base tables room reached k0 ks r own ar line own_there calls at_depth known_tables known_routines placed_so c t whole goal cp xs ps false P O G V0 free free size1 size2 None (arguments_code plan line free (free + size1) ps 0 ps xs) (outputs_code plan line free (free + size1) ps whole xs) [] (λ f. gives tt) (λ _. ws) (λ _ z y. Now_shown free kept z y) kept (pc + 1) ws s1 m1
      is_call call_is (ap (λ c. called_parameters p (called_by c t whole)) (sym is)) once (subst (λ c. AllOf (call_use (called_by c t whole))) is (typing.front _ (call_use (called_of q ss)) _ u)) args_uses big grows room_top (omega (arith, behind_is)) refl fair1 sh1
      (λ x b. b) (λ x mask rest left rests which unasked b begins re wide words. λ set. absurd (clash (sym (unasked refl) ∙ set))) has'.1
      (λ d e g. super_place p k0.scope q ss d (is ∙ e) g.0 g.1)
      (λ _ g has1. ex.goal_run p fine small is_there W first R code now base tables room reached k0 ks r own ar line own_there (value_calls line) q ss free (pc + 1) kept ws s1 m1 along_is g.0 g.1 way_uses fair1 sh1 has1)
      (λ mem g body. subst (λ c. BodyIs p k0.scope.locals whole c → Typed_run goal (Receives p fine F W first first R (enter p room) reached k0.scope (scopes ks) c t whole)) is (λ body. typing.goal_obeys p fine F W first first R (enter p room) reached k0.scope (scopes ks) q ss g.0 g.1 body (typing.front _ (owner_uses q ss) _ u1) (typing.front _ (root_uses q) _ way_uses) (typing.back _ (root_uses q) _ way_uses)) body)
      (λ x rest bytes at ws' v y ok each args fair' long sh' has1. subst (λ n. From (cfg at ws' v y) (λ _ t y. cfg (at + length (arguments_code plan line free (free + size1) ps 0 ps xs)) ws' t y) (ex.Passes p fine small is_there W first R code now base tables room reached k0 ks r own ar line own_there x ps n free rest bytes (argument_numbers 0 ps xs)) (arguments p (enter p room) ps ps xs line v)) ends_is
      (ex.arguments_run p fine small is_there W first R code now base tables room reached k0 ks r own ar line own_there (value_calls line) xs x ps ps 0 (free + size1) free rest bytes at ws' v y args_top ok each each (λ j. let z : 0 + j ≡ j = omega arith in ap (slice_get ps) z) (omega (arith, at_depth)) args args_uses
      (cv.once_of p fine small is_there W first R code now base tables room reached k0 ks r own ar line own_there 0 ps xs once.1) fair' sh' (ap (λ n. free + n) long) (omega (arith, long, big)) has1))
      (λ x mask which b begins re own' rest kept_own size' grows' stands on_own f at v y returned slots fair' has1. cv.outputs_taken p fine small is_there W first R code now base tables room reached k0 ks r own ar line own_there calls at_depth known_tables known_routines placed_so c xs ps false x mask size1 size' whole own' kept_own None f free at rest ws v y which b once args_uses begins re stands on_own big grows' (omega (arith, behind_is)) outs_top returned slots fair' has1 (ex.output_places p fine small is_there W first R code now base tables room reached k0 ks r own ar line own_there (value_calls line) xs))
      (λ x mask which b begins re rest rests kept_own f at v y returned slots has1.
      subst (λ j. From (cfg at ws v y) (λ (_ : Unit {0}) z y. cfg j ws z y) (λ _ z y. Now_shown free kept z y) (Done tt v)) (let e : at ≡ at + 0 = omega arith in e)
      (ends.stays code now tt v y (subst (λ l. Now_shown free l v y) (returned.rest_left ∙ rests) (stores.no_longer p fine small is_there W first R code now base tables room reached k0 ks r own ar own_there free (free + size1) (record { from = free; bytes = returned.bytes }) returned.rest' v y refl returned.shown)))))
      (λ _ s2 m2 sh2 _. ends.stays code now goes_on s2 m2 sh2))))) has
    where
      clash : false ≡ true → ⊥
      clash e = cc

      ps : List Parameter
      ps = called_parameters p (called_of q ss)

      size : ℕ
      size = block_size (length ps)

      behind : ℕ
      behind = behind_outputs plan (free + size) xs

      size1 : ℕ
      size1 = behind - free

      above : free + size ≤ behind
      above = rooms.room_above p fine small is_there W first R code now base tables room reached k0 ks r own ar line own_there (free + size) xs

      behind_is : behind ≡ free + size1
      behind_is = omega (arith, above)

      big : size ≤ size1
      big = omega (arith, above)

      size2 : ℕ
      size2 = arguments_end plan (free + size1) ps ps xs - free

      ends_is : arguments_end plan (free + size1) ps ps xs ≡ free + size2
      ends_is = let h = cv.arguments_above p fine small is_there W first R code now base tables room reached k0 ks r own ar line own_there (free + size1) ps ps xs in omega (arith, h)

      grows : size1 ≤ size2
      grows = let h = cv.arguments_above p fine small is_there W first R code now base tables room reached k0 ks r own ar line own_there (free + size1) ps ps xs in omega (arith, h)

      t : StType
      t = receiver (root_note q).kind ss

      whole : StType
      whole = last_kind (root_note q).kind ss

      goal : Run Spot
      goal = placed q (along p (enter p room) ss)

      cp : List Cell
      cp = place_code plan line free q ss

      O : Type 0
      O = OperandIs p k0.scope xs

      G : Type 0
      G = RootIs p k0.scope q × CalledAlong p k0.scope ss (root_note q).kind

      P : Routine → Type 0
      P = λ x. ArgumentsAre p k0.scope x ps ps xs

      V0 : Type 0
      V0 = cv.FitsOnce p fine small is_there W first R code now base tables room reached k0 ks r own ar line own_there ps xs

      call_is : CallIs p k0.scope c O G whole (called_by c t whole) P V0
      call_is = subst (λ c. CallIs p k0.scope c O G whole (called_by c t whole) P V0) is h

      once : V0
      once = cv.call_fit p fine small is_there W first R code now base tables room reached k0 ks r own ar line own_there c O G whole (called_by c t whole) P V0 is_call call_is

      u1 : AllOf (owner_uses q ss ++ ((root_uses q ++ along_uses p (root_note q).kind ss) ++ argument_uses p ps ps xs))
      u1 = typing.back _ (call_use (called_of q ss)) _ u

      u2 : AllOf ((root_uses q ++ along_uses p (root_note q).kind ss) ++ argument_uses p ps ps xs)
      u2 = typing.back _ (owner_uses q ss) _ u1

      way_uses : AllOf (root_uses q ++ along_uses p (root_note q).kind ss)
      way_uses = typing.front _ (root_uses q ++ along_uses p (root_note q).kind ss) _ u2

      args_uses : AllOf (argument_uses p ps ps xs)
      args_uses = typing.back _ (root_uses q ++ along_uses p (root_note q).kind ss) _ u2

      tops : max (along_top plan free ss) (max behind (max (arguments_top plan behind ps ps xs) (outputs_top plan behind xs))) ≤ k0.long
      tops = subst (λ n. n ≤ k0.long) (cv.call_top_is p fine small is_there W first R code now base tables room reached k0 ks r own ar line own_there (callee_of q ss) _ _ (ap is_conversion is ∙ is_call)) top

      along_is : along_top plan free ss ≤ k0.long
      along_is = (both_fit (along_top plan free ss) _ k0.long tops).0

      block_top : max behind (max (arguments_top plan behind ps ps xs) (outputs_top plan behind xs)) ≤ k0.long
      block_top = (both_fit (along_top plan free ss) _ k0.long tops).1

      room_top : free + size1 ≤ k0.long
      room_top = subst (λ n. n ≤ k0.long) behind_is (both_fit behind _ k0.long block_top).0

      args_top : arguments_top plan (free + size1) ps ps xs ≤ k0.long
      args_top = subst (λ n. arguments_top plan n ps ps xs ≤ k0.long) behind_is (both_fit (arguments_top plan behind ps ps xs) (outputs_top plan behind xs) k0.long (both_fit behind _ k0.long block_top).1).0

      full : Callee → ℕ → List Cell → List Cell
      full c beh words = called_effect_code plan line free c xs
          (enter_code plan line c ps free t whole cp (arguments_by c (arguments_code plan line free beh ps 0 ps xs) (same_code plan line free 0 ps)) words (mask_of c ps false xs) (outputs_code plan line free beh ps whole xs))

      body_c : List Cell
      body_c = enter_code plan line c ps free t whole cp (arguments_by c (arguments_code plan line free (free + size1) ps 0 ps xs) (same_code plan line free 0 ps)) (output_rooms plan line free (free + size) xs ++ []) (mask_of c ps false xs) (outputs_code plan line free (free + size1) ps whole xs)

      no_more : (l : List Cell) → l ++ [] ≡ l
      no_more [] = refl
      no_more (x ∷ l) = ap (λ l. x ∷ l) (no_more l)

      code_is : effect_code plan to free (effect.Call line a q ss xs) ≡ does op.Tick line ∷ (body_c ++ [])
      code_is =
          let words : output_rooms plan line free (free + size) xs ≡ output_rooms plan line free (free + size) xs ++ [] = sym (no_more (output_rooms plan line free (free + size) xs)) in
          ap (λ l. does op.Tick line ∷ l) ((λ i. full (is i) (behind_is i) (words i)) ∙ (effect_code_is line free c xs body_c is_call ∙ sym (no_more body_c)))

      outs_top : outputs_top plan (free + size1) xs ≤ k0.long
      outs_top = subst (λ n. outputs_top plan n xs ≤ k0.long) behind_is (both_fit (arguments_top plan behind ps ps xs) (outputs_top plan behind xs) k0.long (both_fit behind _ k0.long block_top).1).1

  -- what the statements ask of a call
  pub statement_calls : st.Call_runs p fine small is_there W first R code now base tables room reached k0 ks r own ar own_there value_calls
  statement_calls line a q ss xs to free pc around_line kept ws s m is_call top h u fair sh has = known_call (callee_of q ss) line a q ss xs to free pc around_line kept ws s m refl is_call top h u fair sh has
