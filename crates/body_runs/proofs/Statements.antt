-- The code of a statement does what the statement means.
use Rattle.std.proofs.Common.{◌≡◌, ◌≤◌, ℕ, zero, suc, ◌+◌, ◌-◌, ℤ, pos, negsuc, Bool, true, false, List, [], ◌∷◌, ◌++◌, length, Option, Some, None, refl, sym, ap, ◌∙◌, subst, arith, length-append, inl, inr, rules, le_refl, ⊎_elim}
use Rattle.std.specs.Prelude.{if◌then◌else◌, ◌⊎◌, int_le, ◌&&◌, slice_get, not, ◌+ℤ◌, int_lt, slice_set, ◌||◌, slice_range, max, ◌-◌}
use Rattle.std.specs.Ordering.{int_eq}
use Rattle.plc_text.specs.declared.fault.FaultKind.TheVariants as fault
use Rattle.st_types.specs.declared.elem.Elem.{Elem}
use Rattle.st_types.specs.Range.{Fits}
use Rattle.st_types.proofs.WideningLaws.{keeps}
use Rattle.st_types.specs.declared.st_type.StType.{StType, out-StType}
use Rattle.st_types.specs.Elem.{bytes as width_of}
use Rattle.st_types.specs.declared.elem.Elem.TheVariants as elem
use Rattle.st_types.specs.declared.st_type.StType.TheVariants as type
use Rattle.plc_num.specs.Wrapping.{wrapped}
use Rattle.plc_num.proofs.WrappingLaws.{wrapped-fits, wrapped-wraps}
use Rattle.plc_num.specs.Arithmetic.{sum}
use Rattle.mem_image.proofs.PartLaws.{length-range, range_of_range}
use Rattle.mem_image.specs.Image.{written, value_at as number_at}
use Rattle.st_tree.specs.declared.expression.Root.{Root}
use Rattle.st_tree.specs.declared.program.Note.{Note}
use Rattle.st_tree.specs.declared.program.Target.{Target}
use Rattle.st_tree.specs.Expression.{Expression, Null, Place, Call, Enumerator, Paren, Field, Selectors, Positional, argument_then, Arguments as Xs}
use Rattle.st_tree.specs.declared.path.Path.{Path}
use Rattle.st_tree.specs.Statement.{Statement, Empty, Assign, Attempt, Exit, Continue, Return, If, Case, For, While, Repeat, Statements, no_statements, statement_then, Branches, no_branches, branch_then, Cases, no_cases, case_then, Otherwise, Nothing, Else}
use Rattle.st_tree.specs.declared.statement.Label.{Label}
use Rattle.st_tree.specs.declared.statement.LabelEnd.{LabelEnd}
use Rattle.st_tree.specs.declared.path.Step.TheVariants as step
use Rattle.st_tree.specs.declared.program.Target.TheVariants as target
use Rattle.st_tree.specs.Statement as effect
use Rattle.st_values.specs.Program.{Variable, Routine, Region, Program, class_number, conforms}
use Rattle.st_values.specs.Value.{Value, number, reference, Store, ◌>>=◌ as ◌>>?◌}
use Rattle.st_values.specs.Shape.{shape_of, Elementary, region_shape, Instance, path_shape, shape_at}
use Rattle.st_values.specs.ShapeLaws.{Unfolds}
use Rattle.st_values.proofs.ValueLaws.{then_some}
use Rattle.st_values.proofs.ShapeLaws.{shape_laws}
use Rattle.st_meaning.specs.State.{own_in, Spot, in_store, Frame, State, Outcome, Done, Fault, Run, go_on, ◌>>=◌, gives, fails, some_or, read, write, into, ◌>>◌, spend, spend_from, local_spot_in, there}
use Rattle.st_meaning.specs.Operation.{path_in, number_in, elem_of, is_true}
use Rattle.st_meaning.specs.Place.{root_note, named_spot}
use Rattle.st_meaning.specs.Expression.{place_value, name_value, value, place}
use Rattle.st_meaning.specs.Enter.{enter}
use Rattle.st_meaning.specs.st_frame.Use.{Use, changed, root_uses, along_uses, expression_uses, statement_uses, body_uses, branch_uses, otherwise_uses, owner_uses, named_region, name_uses, case_uses, Called, called_of, called_parameters, call_use, is_bound, bound_uses, tried, step_uses}
use Rattle.st_meaning.specs.st_frame.Promise.Names.{Scope, NameIs}
use Rattle.st_meaning.specs.st_frame.Promise.Programs.{ProgramIs}
use Rattle.st_meaning.specs.st_frame.Promise.Expressions.{ExpressionIs, OperandIs}
use Rattle.st_meaning.specs.st_frame.Promise.Calls.{kind, CallIs}
use Rattle.st_meaning.specs.st_frame.Promise.Types.{IsElementary, IsNoInstance, IsHeld, Widens, same_type, wider_number, wider_path, IsNamed}
use Rattle.st_meaning.specs.st_frame.Promise.Places.{NamedIs}
use Rattle.st_meaning.proofs.st_frame.OfTypes.{OfKind, widened, path_is, bit_fits}
use Rattle.st_meaning.proofs.st_frame.Spots.{SpotIs, below}
use Rattle.st_meaning.proofs.st_frame.Obeys.{Obeys, then_obeys, obeys_less, Anything, spend_obeys, gives_obeys}
use Rattle.st_meaning.proofs.st_frame.Bodies.{All, Covered, CallsObey}
use Rattle.st_meaning.specs.Loop.{Flow, goes_on, exits, continues, returns as leaves, unless_left, after_turn, turns, turns_until}
use Rattle.st_meaning.specs.Statement.{effects, first_true, otherwise_effect, is_negative, within as not_passed, end_value, up_to, hold, first_holding, attempted}
use Rattle.st_meaning.specs.Laws.{NoMore, Falls}
use Rattle.st_meaning.proofs.Ticks.{ticks_fall, then_falls, gives_falls, named_falls, read_falls, write_falls}
use Rattle.st_meaning.specs.st_frame.Promise.Statements.{StatementIs, StatementsAre, BranchesAre, OtherwiseIs, ConditionIs, CasesAre, StepIs}
use Rattle.st_meaning.proofs.st_frame.Effects.{body_obeys, effect_obeys, region_near, attempted_obeys, step_obeys}
use Rattle.st_meaning.proofs.st_frame.Unfolded.{within_bound, instance_is}
use Rattle.st_meaning.specs.st_frame.Good.{Held, Names}
use Rattle.st_meaning.specs.Call.{Callee, a_conversion, callee_of, next_parameter, call_effect as call_effect_of}
use Rattle.st_meaning.proofs.st_frame.Bodies as typing
use Rattle.st_meaning.specs.Statement as meaning
use Rattle.stack_code.specs.declared.machine.Frame.{Frame as At}
use Rattle.stack_code.specs.declared.memory.Space.TheVariants.{Regions, Locals}
use Rattle.stack_code.specs.declared.memory.Address.{Address}
use Rattle.stack_code.specs.declared.memory.Word.{Word}
use Rattle.stack_code.specs.declared.op.Op.{Op}
use Rattle.stack_code.specs.declared.code.MachineCode.{MachineCode}
use Rattle.stack_code.specs.Memory.{Memory, read as read_bytes, write as write_bytes, copy as copy_bytes}
use Rattle.stack_code.specs.Steps.{Step, Goes, faults, ◌>>=◌ as ◌>>=step◌}
use Rattle.stack_code.specs.Machine.{Config, act, on, jumps, on_memory, spend as spend_tick, has_carry, truth}
use Rattle.stack_code.specs.declared.memory.Word.TheVariants as word
use Rattle.stack_code.specs.declared.op.Op.TheVariants as op
use Rattle.stack_code.specs.Machine as machine
use Rattle.mem_layout.specs.store_bytes.StoreLaws.{Keeps as KeepsBytes}
use Rattle.mem_layout.proofs.store_bytes.Leaves.{holds_written, keeps_written, length-written, value_is}
use Rattle.mem_layout.specs.store_bytes.Spells.{Holds, Spells}
use Rattle.mem_layout.proofs.store_bytes.Apart.{place_laws}
use Rattle.mem_layout.specs.store_bytes.Place as store
use Rattle.code_cells.specs.declared.cell.Cell.{Cell}
use Rattle.code_cells.specs.declared.cell.Cell.TheVariants.{Does as does, Skips as skips, SkipsAt0 as skips_at_0, Returns as returns, ReturnsAt0 as returns_at_0}
use Rattle.code_cells.specs.Cell.{Targets, behind}
use Rattle.code_rules.specs.Plan.{Tables, Plan, plan_of}
use Rattle.code_rules.specs.Code.{value_code, named_code, place_code, keep_code, source_code, is_source, way_is_quiet, number_kind, is_conversion}
use Rattle.code_rules.specs.Places.{bytes_of, is_large, room_of}
use Rattle.code_rules.specs.Bodies.{effect_code, effects_code, branches_code, otherwise_code, within_code, advance_code, label_code, labels_code, cases_code, assigned_code, step_code, step_kind, called_effect_code}
use Rattle.code_rules.specs.Tops.{call_top, along_top, value_top, source_top, assigned_top, step_top, effect_top, effects_top, branches_top, cases_top, otherwise_top}
use Rattle.shown_memory.specs.Shown.{Kept, Open, scopes, Layout, layouts, Located, located, path_word, spot_word, word_at, value_word, FramesShown, Shown, Small}
use Rattle.shown_memory.proofs.Locals.{kept_new}
use Rattle.memory_access.proofs.Likes.{load_like, store_like, copy_like, local_there, InstanceAt, instance_at, class_like, length_set}
use Rattle.memory_access.proofs.Narrow.{eight}
use Rattle.memory_access.proofs.Copies.{copy_place, put_kept, place_bytes}
use Rattle.value_runs.proofs.Ends.{Leads, Stands, flow_at}
use Rattle.value_runs.proofs.Expressions.{Fair, told, a_number, is_wrapped, both_fit}
use Rattle.memory_access.proofs.Worded.{by_size, instances, held_path, path_small, numeric_small, numeric_value, number_small, large_word, widens_small, widens_large}
use Rattle.body_runs.proofs.Quiet.{place_quiet}
use Rattle.value_runs.proofs.Ends as ends
use Rattle.value_runs.proofs.Expressions as runs
use Rattle.body_runs.proofs.Stores as stores

abbrev own_part : ℕ → Path → Spot
own_part k q = into (in_store q) (step.Field k)

pub elementary_shape : (p : Program) (k : Elem) → shape_of p (type.Elementary k) ≡ Some (Elementary k)
unfolding out-StType denote.Hole.Carrier.out
elementary_shape p k = refl

module _ (p : Program) (fine : ProgramIs p) (small : Small p) (is_there : ℕ → Bool) (W : ℕ → Type 0) (first : Store) (R : Routine → Type 0) (code : MachineCode) (now base : ℕ) (tables : Tables)
    (room : ℕ) (reached : CallsObey p fine (λ r. is_there r ≡ true) W first first R (enter p room)) (k0 : Open) (ks : List Open) (r : ℕ) (own : Option Address) (ar : List At)
    (own_there : (c : ℕ) → k0.scope.this ≡ Some c → (q : Path) × (l : Located) × (k0.own ≡ Some q) × (own ≡ Some l.address) × (located p base [] (in_store q) ≡ Some l))
    (other_calls : (line : ℕ) → runs.Call_runs p fine small is_there W first R code now base tables room reached k0 ks r own ar line own_there) where
  abbrev F : ℕ → Type 0
  F r = is_there r ≡ true

  abbrev gs : List Scope
  gs = scopes (k0 ∷ ks)

  abbrev plan : Plan
  plan = plan_of p tables k0.scope k0.start

  abbrev ls : List Layout
  ls = layouts (k0 ∷ ks)

  abbrev kept_at : ℕ → List Kept → List Open
  kept_at free kept = record k0 { free = free; kept = kept } ∷ ks

  abbrev cfg : ℕ → List Word → State → Memory → Config
  cfg pc ws s m = record { here = record { routine = r; next = pc; own = own }; words = ws; around = ar; memory = m; ticks = s.ticks }

  abbrev lands : {A : Type 0} → ℕ → (A → List Word) → A → State → Memory → Config
  lands pc words a s m = cfg pc (words a) s m

  abbrev Shows : {A : Type 0} → ℕ → List Kept → A → State → Memory → Type 0
  Shows free kept a s m = Shown p base is_there now (kept_at free kept) m s

  abbrev Now_shown : ℕ → List Kept → State → Memory → Type 0
  Now_shown free kept s m = Shown p base is_there now (kept_at free kept) m s

  abbrev here_at : ℕ → Address
  here_at free = record { space = Locals; index = base + length ks; offset = free }

  abbrev From : {A : Type 0} → Config → (A → State → Memory → Config) → (A → State → Memory → Type 0) → Outcome A → Type 0
  From c after shown o = Leads code now (Goes c) after shown o

  abbrev AllOf : List Use → Type 0
  AllOf us = All (Covered p F W R) us

  abbrev Typed_run : {A : Type 0} → Run A → (A → Type 0) → Type 0
  Typed_run m Q = Obeys p fine F W first first gs m Q

  abbrev pub flows : Targets → ℕ → List Word → Flow → State → Memory → Config
  flows to end ws f s m = cfg (flow_at to end f) ws s m

  abbrev lost : {A : Type 0} → ℕ → List Word → A → State → Memory → Config
  lost pc ws a s m = cfg pc ws s m

  -- the same code named in another way
  pub flows_at : {here : Step Config} (to : Targets) {ws : List Word} {shown : Flow → State → Memory → Type 0} {o : Outcome Flow} (pc pc' : ℕ) → pc ≡ pc' → Leads code now here (flows to pc ws) shown o → Leads code now here (flows to pc' ws) shown o
  flows_at {here = here} to {ws = ws} {shown = shown} {o = o} pc pc' e h = subst (λ n. Leads code now here (flows to n ws) shown o) e h

  pub bind : {A B : Type 0} {here : Step Config} {after : B → State → Memory → Config} {shown : B → State → Memory → Type 0} {m : Run A} {line : ℕ} {s : State} {f : A → State → Outcome B} {Q : A → Type 0} (mid : A → State → Memory → Config) (middle : A → State → Memory → Type 0)
      → Leads code now here mid middle (m line s) → Typed_run m Q → Fair p fine small is_there W first R code now base tables gs s → ((a : A) (t : State) (x : Memory) → middle a t x → m line s ≡ Done a t → Q a → Fair p fine small is_there W first R code now base tables gs t → Leads code now (Goes (mid a t x)) after shown (f a t)) → Leads code now here after shown (go_on (m line s) f)
  bind {m = m} {line = line} {s = s} mid middle h typed fair k =
      ends.then_leads code now mid middle h (λ a t x i e. let y = told p fine small is_there W first R code now base tables {m = m} typed fair a t e in k a t x i e y.0 y.1)

  abbrev IsFair : State → Type 0
  IsFair s = Fair p fine small is_there W first R code now base tables gs s

  -- ---- a tick

  with_ticks : (free : ℕ) (kept : List Kept) (s : State) (m : Memory) (n : ℕ) → Now_shown free kept s m → Now_shown free kept (record s { ticks = n }) m
  with_ticks free kept s m n h = record { regions = h.regions; frames = h.frames; deep = h.deep; moment = h.moment }

  pub tick_run : (free pc line : ℕ) (kept : List Kept) (ws : List Word) (s : State) (m : Memory) → Now_shown free kept s m → Stands code now r pc (does op.Tick line ∷ []) → From (cfg pc ws s m) (lost (pc + 1) ws) (Shows free kept) (spend line s)
  tick_run free pc line kept ws s m sh has = ends.step_leads code now (op.Tick, line) has.0 (by s.ticks)
    where
      by : (n : ℕ) → Leads code now (spend_tick (cfg pc ws s m) line n) (lost (pc + 1) ws) (Shows free kept) (spend_from n line s)
      by zero = ends.faults_leads code now refl
      by (suc n) = ends.stays code now tt (record s { ticks = n }) m (with_ticks free kept s m n sh)

  -- ---- what is kept at a place

  pub keep_run : (t : StType) (e : Elem) (free pc line : ℕ) (kept : List Kept) (ws : List Word) (spot : Spot) (v : Value) (s : State) (m : Memory) → t ≡ type.Elementary e → SpotIs p fine F W gs spot t → OfKind p F t v → Now_shown free kept s m → Stands code now r pc (keep_code plan line t)
      → From (cfg pc (spot_word p base ls spot ∷ (value_word p base (here_at free) v ∷ ws)) s m) (lost (pc + length (keep_code plan line t)) ws) (Shows free kept) (write spot v line s)
  keep_run t e free pc line kept ws spot v s m q f is sh has =
      let z = a_number p fine small is_there W first R code now base tables t e v q is in
      let l = runs.lies p fine small is_there W first R code now base tables room reached k0 ks r own ar line own_there spot t f in
      let x = store_like p base is_there now (kept_at free kept) spot e l.place z.0 m s sh l.is (runs.within_is p fine small is_there W first R code now base tables room reached k0 ks r own ar line own_there spot t f) (runs.number_shape p fine small is_there W first R code now base tables room reached k0 ks r own ar line own_there l.place.shape t e q l.meets) z.2 in
      subst (λ y. Stands code now r pc (keep_code plan line y) → From (cfg pc (spot_word p base ls spot ∷ (value_word p base (here_at free) v ∷ ws)) s m) (lost (pc + length (keep_code plan line y)) ws) (Shows free kept) (write spot v line s)) (sym q) (λ has'.
      subst (λ y. From (cfg pc (spot_word p base ls spot ∷ (value_word p base (here_at free) y ∷ ws)) s m) (lost (pc + 1) ws) (Shows free kept) (write spot y line s)) (sym z.1)
      (subst (λ (y : Option Located). From (cfg pc (word_at p base y ∷ (word.Number z.0 ∷ ws)) s m) (lost (pc + 1) ws) (Shows free kept) (write spot (number z.0) line s)) (sym l.is)
      (ends.step_leads code now (op.Store e, line) has'.0
      (subst (λ y. Leads code now (write_bytes e m l.place.address y >>=step λ m'. on_memory (cfg pc (word.Address l.place.address ∷ (word.Number z.0 ∷ ws)) s m) ws m') (lost (pc + 1) ws) (Shows free kept) (write spot (number z.0) line s)) (sym (is_wrapped p fine small is_there W first R code now base tables e z.0 z.2))
      (ends.goes_leads code now (write_bytes e m l.place.address z.0) x.memory _ x.by_bytes
      (ends.same_outcome code now (x.by_state line)
      (subst (λ n. Leads code now (Goes (record { here = record { routine = r; next = pc + 1; own = own }; words = ws; around = ar; memory = x.memory; ticks = n })) (lost (pc + 1) ws) (Shows free kept) (Done tt x.state)) x.same_ticks
      (ends.stays code now tt x.state x.memory x.shows)))))))) has

  -- the order in which steps of a run are written does not matter
  in_order : {A B : Type 0} (m : Run A) (f : A → Run B) (g : A → B → Run (Unit {0})) (line : ℕ) (s : State) → go_on ((m >>= λ a. f a >>= λ b. g a b) line s) (λ _ t. Done goes_on t) ≡ (m >>= λ a. f a >>= λ b. g a b >>= λ _. gives goes_on) line s
  in_order {A = A} m f g line s = by (m line s)
    where
      inner : {B : Type 0} (o : Outcome B) (g : B → Run (Unit {0})) → go_on (go_on o (λ b. g b line)) (λ _ t. Done goes_on t) ≡ go_on o (λ b t. go_on (g b line t) (λ _ u. Done goes_on u))
      inner (Done b t) g = refl
      inner (Fault k l) g = refl

      by : (o : Outcome A) → go_on (go_on o (λ a t. go_on (f a line t) (λ b. g a b line))) (λ _ t. Done goes_on t) ≡ go_on o (λ a t. go_on (f a line t) (λ b u. go_on (g a b line u) (λ _ v. Done goes_on v)))
      by (Done a t) = inner (f a line t) (g a)
      by (Fault k l) = refl

  in_order_3 : {A B C : Type 0} (m : Run A) (h : A → Run B) (f : B → Run C) (g : B → C → Run (Unit {0})) (line : ℕ) (s : State) → go_on ((m >>= λ a. h a >>= λ b. f b >>= λ c. g b c) line s) (λ _ t. Done goes_on t) ≡ (m >>= λ a. h a >>= λ b. f b >>= λ c. g b c >>= λ _. gives goes_on) line s
  in_order_3 {A = A} m h f g line s = by (m line s)
    where
      by : (o : Outcome A) → go_on (go_on o (λ a. (h a >>= λ b. f b >>= λ c. g b c) line)) (λ _ t. Done goes_on t) ≡ go_on o (λ a. (h a >>= λ b. f b >>= λ c. g b c >>= λ _. gives goes_on) line)
      by (Done a t) = in_order (h a) f g line t
      by (Fault k l) = refl

  abbrev LargeValue : ℕ → StType → ℕ → List Kept → Value → State → Memory → Type 0
  LargeValue line t free kept v s m = runs.LargeKept p fine small is_there W first R code now base tables room reached k0 ks r own ar line own_there t free kept v s m

  done_value : {A : Type 0} {a b : A} {s t : State} → Done a s ≡ Done b t → a ≡ b
  done_value e = cc

  -- ---- statements

  effect_typed : (st : Statement Note) → StatementIs p k0.scope st → AllOf (statement_uses p st) → Typed_run (meaning.effect p (enter p room) st) Anything
  effect_typed st h u = effect_obeys p fine F W first first R (enter p room) reached k0.scope (scopes ks) st h u

  not_zero : (b : ℤ) → (b ≡ pos 0 → ⊥) → int_eq b (pos 0) ≡ false
  not_zero (pos zero) h = absurd (h refl)
  not_zero (pos (suc n)) h = search rules
  not_zero (negsuc n) h = search rules

  -- a jump that a number decides
  choice_run : {A : Type 0} {after : A → State → Memory → Config} {shown : A → State → Memory → Type 0} (z : ℤ) (n pc line : ℕ) (ws : List Word) (s : State) (m : Memory) (first_run second_run : Run A) → Stands code now r pc (skips_at_0 n line ∷ [])
      → From (cfg (pc + 1) ws s m) after shown (first_run line s) → From (cfg (pc + 1 + n) ws s m) after shown (second_run line s) → From (cfg pc (word.Number z ∷ ws) s m) after shown ((if is_true (number z) then first_run else second_run) line s)
  choice_run {after = after} {shown = shown} z n pc line ws s m first_run second_run has h k = ends.step_leads code now (op.JumpF (pc + 1 + n), line) has.0 (by z)
    where
      by : (z : ℤ) → Leads code now (act code now (op.JumpF (pc + 1 + n)) line (cfg pc (word.Number z ∷ ws) s m)) after shown ((if is_true (number z) then first_run else second_run) line s)
      by (pos zero) = k
      by (pos (suc j)) = ends.same_start code now (ap (λ b. if b then jumps (cfg pc (word.Number (pos (suc j)) ∷ ws) s m) (pc + 1 + n) ws else on (cfg pc (word.Number (pos (suc j)) ∷ ws) s m) ws) (not_zero (pos (suc j)) (λ e. cc))) h
      by (negsuc j) = ends.same_start code now (ap (λ b. if b then jumps (cfg pc (word.Number (negsuc j) ∷ ws) s m) (pc + 1 + n) ws else on (cfg pc (word.Number (negsuc j) ∷ ws) s m) ws) (not_zero (negsuc j) (λ e. cc))) h

  -- a condition, and a jump
  test_run : {A : Type 0} {after : A → State → Memory → Config} {shown : A → State → Memory → Type 0} (e : Expression Note) (n free pc line : ℕ) (kept : List Kept) (ws : List Word) (s : State) (m : Memory) (first_run second_run : Run A) → value_top plan free e ≤ k0.long → ConditionIs p k0.scope e → AllOf (expression_uses p e) → IsFair s → Now_shown free kept s m
      → Stands code now r pc (value_code plan line free e) → Stands code now r (pc + length (value_code plan line free e)) (skips_at_0 n line ∷ [])
      → ((t : State) (x : Memory) → (v : Value) → value p (enter p room) e line s ≡ Done v t → IsFair t → Now_shown free kept t x → From (cfg (pc + length (value_code plan line free e) + 1) ws t x) after shown (first_run line t))
      → ((t : State) (x : Memory) → IsFair t → Now_shown free kept t x → From (cfg (pc + length (value_code plan line free e) + 1 + n) ws t x) after shown (second_run line t))
      → From (cfg pc ws s m) after shown (go_on (value p (enter p room) e line s) (λ v t. (if is_true v then first_run else second_run) line t))
  test_run {after = after} {shown = shown} e n free pc line kept ws s m first_run second_run top h u fair sh has_e has_j one two =
      let ce = value_code plan line free e in
      bind {m = value p (enter p room) e} (lands (pc + length ce) (λ v. value_word p base (here_at free) v ∷ ws)) (Shows free kept)
      (runs.plain_runs p fine small is_there W first R code now base tables room reached k0 ks r own ar line own_there (other_calls line) e free pc kept ws s m (ap is_large h.1) top h.0 u fair sh has_e)
      (typing.value_obeys p fine F W first first R (enter p room) reached k0.scope (scopes ks) e h.0 u) fair
      (λ v t x i done is fair'.
      let z = a_number p fine small is_there W first R code now base tables (kind e) elem.Bool v h.1 is in
      subst (λ y. From (cfg (pc + length ce) (value_word p base (here_at free) y ∷ ws) t x) after shown ((if is_true y then first_run else second_run) line t)) (sym z.1)
      (choice_run z.0 n (pc + length ce) line ws t x first_run second_run has_j (one t x v done fair' i) (two t x fair' i)))

  -- ---- WHILE

  pub go_on_again : {A B C : Type 0} (o : Outcome A) (f : A → State → Outcome B) (g : B → State → Outcome C) → go_on (go_on o f) g ≡ go_on o (λ a s. go_on (f a s) g)
  go_on_again (Done a s) f g = refl
  go_on_again (Fault k line) f g = refl

  -- a tick less
  spent : (line n : ℕ) (s t : State) → spend_from n line s ≡ Done tt t → suc t.ticks ≡ n
  spent line zero s t e = cc
  spent line (suc n) s t e = let d : record s { ticks = n } ≡ t = ap (state_in s) e in ap (λ (x : State). suc x.ticks) (sym d)
    where
      state_in : State → Outcome (Unit {0}) → State
      state_in d (Done a s) = s
      state_in d (Fault k line) = d

  no_more : {A : Type 0} (n : ℕ) (o : Outcome A) (a : A) (t : State) → NoMore n o → o ≡ Done a t → t.ticks ≤ n
  no_more n o a t h e = subst (NoMore n) e h

  test_of : Expression Note → Run Bool
  test_of e = value p (enter p room) e >>= λ v. gives (is_true v)

  turns_run : (e : Expression Note) (body : Statements Note) (to : Targets) (free pc line : ℕ) (kept : List Kept) (ws : List Word) → value_top plan free e ≤ k0.long → ConditionIs p k0.scope e → AllOf (expression_uses p e) → Typed_run (effects p (enter p room) body) Anything
      → Stands code now r pc (does op.Tick line ∷ [])
      → Stands code now r (pc + 1) (value_code plan line free e)
      → (n : ℕ) → Stands code now r (pc + 1 + length (value_code plan line free e)) (skips_at_0 (suc n) line ∷ [])
      → (back_n : ℕ) → Stands code now r (pc + 1 + length (value_code plan line free e) + 1 + n) (returns back_n line ∷ [])
      → pc + 1 + length (value_code plan line free e) + 1 + n - back_n ≡ pc
      → ((s : State) (m : Memory) → IsFair s → Now_shown free kept s m → From (cfg (pc + 1 + length (value_code plan line free e) + 1) ws s m) (flows (record { to_exit = 1; to_continue = 0; to_return = 1 + to.to_return }) (pc + 1 + length (value_code plan line free e) + 1 + n) ws) (Shows free kept) (effects p (enter p room) body line s))
      → (left : ℕ) (s : State) (m : Memory) → s.ticks ≤ left → IsFair s → Now_shown free kept s m
      → From (cfg pc ws s m) (flows to (pc + 1 + length (value_code plan line free e) + 1 + n + 1) ws) (Shows free kept) (turns left (value p (enter p room) e >>= λ v. gives (is_true v)) (effects p (enter p room) body) line s)
  turns_run e body to free pc line kept ws top h u typed has_t has_e n0 has_j back_n has_b back_is runs_body zero s m le fair sh =
      ends.step_leads code now (op.Tick, line) has_t.0 (by s.ticks le)
    where
      by : (n : ℕ) → n ≤ 0 → Leads code now (spend_tick (cfg pc ws s m) line n) (flows to (pc + 1 + length (value_code plan line free e) + 1 + n0 + 1) ws) (Shows free kept) (Fault fault.Watchdog line)
      by zero l = ends.faults_leads code now refl
      by (suc n) l = absurd (omega arith)
  turns_run e body to free pc line kept ws top h u typed has_t has_e n has_j back_n has_b back_is runs_body (suc left) s m le fair sh =
      let ce = value_code plan line free e in
      let at_body = pc + 1 + length ce + 1 in
      let again = turns left (value p (enter p room) e >>= λ v. gives (is_true v)) (effects p (enter p room) body) in
      let out = pc + 1 + length ce + 1 + n + 1 in
      bind {m = spend} {line = line} (lost (pc + 1) ws) (Shows free kept) (tick_run free pc line kept ws s m sh has_t) (spend_obeys p fine F W first first) fair (λ _ s1 m1 sh1 done1 _ fair1.
      ends.same_outcome code now (go_on_again (value p (enter p room) e line s1) (λ v t. Done (is_true v) t) (λ b t. (if b then (effects p (enter p room) body >>= λ f. after_turn f again) else gives goes_on) line t))
      (test_run e (suc n) free (pc + 1) line kept ws s1 m1 (effects p (enter p room) body >>= λ f. after_turn f again) (gives goes_on) top h u fair1 sh1 has_e has_j
      (λ s2 m2 v done2 fair2 sh2.
      bind {m = effects p (enter p room) body} {line = line} (flows (record { to_exit = 1; to_continue = 0; to_return = 1 + to.to_return }) (at_body + n) ws) (Shows free kept) (runs_body s2 m2 fair2 sh2) typed fair2 (λ f s3 m3 sh3 done3 _ fair3.
      after f s3 m3 sh3 (λ _. turns_run e body to free pc line kept ws top h u typed has_t has_e n has_j back_n has_b back_is runs_body left s3 m3
      (let a = spent line s.ticks s s1 done1 in
      let b = no_more s1.ticks (value p (enter p room) e line s1) v s2 (ticks_fall.values p room e line s1) done2 in
      let c = no_more s2.ticks (effects p (enter p room) body line s2) f s3 (ticks_fall.statements p room body line s2) done3 in
      omega (arith, a, b, c, le)) fair3 sh3)))
      (λ s2 m2 fair2 sh2. subst (λ j. From (cfg j ws s2 m2) (flows to out ws) (Shows free kept) (Done goes_on s2)) (omega arith) (ends.stays code now goes_on s2 m2 sh2))))
    where
      jump_back : (o : Outcome Flow) (t : State) (x : Memory) → From (cfg pc ws t x) (flows to (pc + 1 + length (value_code plan line free e) + 1 + n + 1) ws) (Shows free kept) o
          → Leads code now (act code now (op.Jump (pc + 1 + length (value_code plan line free e) + 1 + n - back_n)) line (cfg (pc + 1 + length (value_code plan line free e) + 1 + n) ws t x)) (flows to (pc + 1 + length (value_code plan line free e) + 1 + n + 1) ws) (Shows free kept) o
      jump_back o t x h = subst (λ j. From (cfg j ws t x) (flows to (pc + 1 + length (value_code plan line free e) + 1 + n + 1) ws) (Shows free kept) o) (sym back_is) h

      goes_back : (o : Outcome Flow) (t : State) (x : Memory) (at : ℕ) → pc + 1 + length (value_code plan line free e) + 1 + n ≡ at
          → From (cfg pc ws t x) (flows to (pc + 1 + length (value_code plan line free e) + 1 + n + 1) ws) (Shows free kept) o → From (cfg at ws t x) (flows to (pc + 1 + length (value_code plan line free e) + 1 + n + 1) ws) (Shows free kept) o
      goes_back o t x at q h =
          subst (λ j. From (cfg j ws t x) (flows to (pc + 1 + length (value_code plan line free e) + 1 + n + 1) ws) (Shows free kept) o) q
          (ends.step_leads code now (op.Jump (pc + 1 + length (value_code plan line free e) + 1 + n - back_n), line) has_b.0 (jump_back o t x h))

      after : (f : Flow) (t : State) (x : Memory) → Now_shown free kept t x
          → (Unit {0} → From (cfg pc ws t x) (flows to (pc + 1 + length (value_code plan line free e) + 1 + n + 1) ws) (Shows free kept) (turns left (value p (enter p room) e >>= λ v. gives (is_true v)) (effects p (enter p room) body) line t))
          → From (flows (record { to_exit = 1; to_continue = 0; to_return = 1 + to.to_return }) (pc + 1 + length (value_code plan line free e) + 1 + n) ws f t x) (flows to (pc + 1 + length (value_code plan line free e) + 1 + n + 1) ws) (Shows free kept)
          (after_turn f (turns left (value p (enter p room) e >>= λ v. gives (is_true v)) (effects p (enter p room) body)) line t)
      after goes_on t x i again = goes_back (turns left (value p (enter p room) e >>= λ v. gives (is_true v)) (effects p (enter p room) body) line t) t x _ refl (again tt)
      after continues t x i again = goes_back (turns left (value p (enter p room) e >>= λ v. gives (is_true v)) (effects p (enter p room) body) line t) t x _ (omega arith) (again tt)
      after exits t x i again = subst (λ j. From (cfg j ws t x) (flows to (pc + 1 + length (value_code plan line free e) + 1 + n + 1) ws) (Shows free kept) (Done goes_on t)) (omega arith) (ends.stays code now goes_on t x i)
      after leaves t x i again = subst (λ j. From (cfg j ws t x) (flows to (pc + 1 + length (value_code plan line free e) + 1 + n + 1) ws) (Shows free kept) (Done leaves t)) (omega arith) (ends.stays code now leaves t x i)

  -- a statement that leaves skips what stands behind
  past : (f : Flow) (to : Targets) (n end : ℕ) (ws : List Word) → flow_at (behind n to) end f ≡ flow_at to (end + n) f ⊎ (f ≡ goes_on)
  past goes_on to n end ws = inr refl
  past exits to n end ws = inl (omega arith)
  past continues to n end ws = inl (omega arith)
  past leaves to n end ws = inl (omega arith)

  -- past the branches behind
  skipped : (f : Flow) (to : Targets) (pc n line : ℕ) (ws : List Word) (s : State) (m : Memory) (free : ℕ) (kept : List Kept) → Now_shown free kept s m → Stands code now r pc (skips n line ∷ []) → (out : ℕ) → out ≡ pc + 1 + n → From (flows (behind (1 + n) to) pc ws f s m) (flows to out ws) (Shows free kept) (Done f s)
  skipped goes_on to pc n line ws s m free kept sh has out e = ends.step_leads code now (op.Jump (pc + 1 + n), line) has.0 (flows_at to (pc + 1 + n) out (sym e) (ends.stays code now goes_on s m sh))
  skipped exits to pc n line ws s m free kept sh has out e = flows_at to (pc + 1 + n) out (sym e) (subst (λ j. From (cfg j ws s m) (flows to (pc + 1 + n) ws) (Shows free kept) (Done exits s)) (omega arith) (ends.stays code now exits s m sh))
  skipped continues to pc n line ws s m free kept sh has out e = flows_at to (pc + 1 + n) out (sym e) (subst (λ j. From (cfg j ws s m) (flows to (pc + 1 + n) ws) (Shows free kept) (Done continues s)) (omega arith) (ends.stays code now continues s m sh))
  skipped leaves to pc n line ws s m free kept sh has out e = flows_at to (pc + 1 + n) out (sym e) (subst (λ j. From (cfg j ws s m) (flows to (pc + 1 + n) ws) (Shows free kept) (Done leaves s)) (omega arith) (ends.stays code now leaves s m sh))

  widens_elementary : (t u : StType) (k : Elem) → Widens p t u → u ≡ type.Elementary k → (j : Elem) × (t ≡ type.Elementary j)
  widens_elementary t u k same_type e = (k, e)
  widens_elementary t u k (wider_number {a = a} {b = b} h) e = (a, refl)
  widens_elementary t u k (wider_path i h n) e = absurd (subst IsHeld e h)

  -- ---- the place from which a whole array or structure is copied

  abbrev source_place : Expression Note → Run Spot
  source_place (Place a q ss) = place p (enter p room) q ss
  source_place (Paren a e) = source_place e
  source_place _ = fails fault.Null

  named_place : {P : Type 0} (x : Target) (t : StType) → is_large t ≡ true → NamedIs p x t P → P
  named_place (target.Constant z) t large h = absurd (no_word (number_small p t z h) large)
    where
      no_word : {b : Bool} → b ≡ false → b ≡ true → ⊥
      no_word e f = cc
  named_place (target.Enumerator k) t large h = absurd (no_word (number_small p t (pos k) h) large)
    where
      no_word : {b : Bool} → b ≡ false → b ≡ true → ⊥
      no_word e f = cc
  named_place x t large h = h

  large_read : (t : StType) (where_is : Run Spot) (line : ℕ) (s : State) → is_large t ≡ true → place_value t where_is line s ≡ go_on (where_is line s) (λ spot u. read spot line u)
  large_read (type.Instance c) where_is line s large = absurd (no_truth large)
    where
      no_truth : false ≡ true → ⊥
      no_truth q = cc
  large_read t where_is line s large = refl

  named_read : (P : Type 0) (x : Target) (t : StType) (where_is : Run Spot) (line : ℕ) (s : State) → is_large t ≡ true → NamedIs p x t P → name_value x t where_is line s ≡ go_on (where_is line s) (λ spot u. read spot line u)
  named_read P (target.Constant z) t where_is line s large h = absurd (no_word (number_small p t z h) large)
    where
      no_word : {b : Bool} → b ≡ false → b ≡ true → ⊥
      no_word e f = cc
  named_read P (target.Enumerator k) t where_is line s large h = absurd (no_word (number_small p t (pos k) h) large)
    where
      no_word : {b : Bool} → b ≡ false → b ≡ true → ⊥
      no_word e f = cc
  named_read P x t where_is line s large h = large_read t where_is line s large

  record Source (e : Expression Note) (free pc line : ℕ) (kept : List Kept) (ws : List Word) (s : State) (m : Memory) : Type 0 where
    found : From (cfg pc ws s m) (lands (pc + length (source_code plan line free e)) (λ y. spot_word p base ls y ∷ ws)) (Shows free kept) (source_place e line s)
    typed : Typed_run (source_place e) (λ spot. SpotIs p fine F W gs spot (kind e))
    value_is : value p (enter p room) e line s ≡ go_on (source_place e line s) (λ spot u. read spot line u)

  source_run : (e : Expression Note) (free pc line : ℕ) (kept : List Kept) (ws : List Word) (s : State) (m : Memory) → is_source e ≡ true → is_large (kind e) ≡ true → source_top plan free e ≤ k0.long → ExpressionIs p k0.scope e → AllOf (expression_uses p e) → IsFair s → Now_shown free kept s m
      → Stands code now r pc (source_code plan line free e) → Source e free pc line kept ws s m
  source_run (Place a q ss) free pc line kept ws s m q_is large top h u fair sh has =
      let k = named_place a.target a.kind large h in
      record {
        found = runs.place_run p fine small is_there W first R code now base tables room reached k0 ks r own ar line own_there (other_calls line) q ss free pc kept ws s m top k.0 k.1 u fair sh has;
        typed = runs.place_typed p fine small is_there W first R code now base tables room reached k0 ks r own ar line own_there q ss a.kind k.0 k.1 k.2 u;
        value_is = named_read _ a.target a.kind (place p (enter p room) q ss) line s large h;
      }
  source_run (Paren a e) free pc line kept ws s m q_is large top h u fair sh has =
      let x = source_run e free pc line kept ws s m q_is (ap is_large h.1 ∙ large) top h.0 u fair sh has in
      record { found = x.found; typed = obeys_less p fine F W first first x.typed (λ spot f. subst (SpotIs p fine F W gs spot) h.1 f); value_is = x.value_is }
  source_run e free pc line kept ws s m q_is large top h u fair sh has = cc

  -- ---- assignments

  -- of a word
  small_assigned : (line : ℕ) (a : Note) (q : Root Note) (ss : Selectors Note) (e : Expression Note) → is_large a.kind ≡ false → (free pc : ℕ) (kept : List Kept) (ws : List Word) (s : State) (m : Memory) → assigned_top plan free ss e false ≤ k0.long → StatementIs p k0.scope (Assign line a q ss e) → AllOf (statement_uses p (Assign line a q ss e)) → IsFair s → Now_shown free kept s m
      → Stands code now r pc (assigned_code plan line free a.kind q ss e false)
      → From (cfg pc ws s m) (lost {A = Unit {0}} (pc + length (assigned_code plan line free a.kind q ss e false)) ws) (Shows free kept) ((value p (enter p room) e >>= λ v. place p (enter p room) q ss >>= λ spot. write spot v) line s)
  small_assigned line a q ss e is free pc kept ws s m top h u fair sh has =
      let ce = value_code plan line free e in
      let free' = free + room_of (bytes_of p) (kind e) in
      let cp = place_code plan line free' q ss in
      let ck = keep_code plan line a.kind in
      let tops = both_fit (value_top plan free e) (along_top plan free' ss) k0.long top in
      let has_p = ends.back code now r pc ce _ has in
      let uo = typing.back _ (owner_uses q ss) _ u in
      let up = typing.front _ (root_uses q ++ along_uses p (root_note q).kind ss) _ uo in
      let ue = typing.back _ (root_uses q ++ along_uses p (root_note q).kind ss) _ uo in
      let small_e = widens_small p (kind e) a.kind h.3 is in
      let none : room_of (bytes_of p) (kind e) ≡ 0 = ap (λ b. if b then bytes_of p (kind e) else 0) small_e in
      let same : free' ≡ free = omega (arith, none) in
      stores.lost_by p fine small is_there W first R code now base tables room reached k0 ks r own ar own_there (pc + length ce + length cp + length ck) _ ws (omega (arith, length-append ce (cp ++ ck), length-append cp ck))
      (bind {m = value p (enter p room) e} {line = line} (lands (pc + length ce) (λ v. value_word p base (here_at free) v ∷ ws)) (Shows free kept)
      (runs.plain_runs p fine small is_there W first R code now base tables room reached k0 ks r own ar line own_there (other_calls line) e free pc kept ws s m small_e tops.0 h.2 ue fair sh (ends.front code now r pc ce _ has)) (typing.value_obeys p fine F W first first R (enter p room) reached k0.scope (scopes ks) e h.2 ue) fair (λ v s2 m2 sh2 _ is2 fair2.
      bind {m = place p (enter p room) q ss} {line = line} (lands (pc + length ce + length cp) (λ y. spot_word p base ls y ∷ (value_word p base (here_at free) v ∷ ws))) (Shows free kept)
      (subst (λ n. along_top plan n ss ≤ k0.long → Stands code now r (pc + length ce) (place_code plan line n q ss) → From (cfg (pc + length ce) (value_word p base (here_at free) v ∷ ws) s2 m2) (lands (pc + length ce + length (place_code plan line n q ss)) (λ y. spot_word p base ls y ∷ (value_word p base (here_at free) v ∷ ws))) (Shows free kept) (place p (enter p room) q ss line s2)) (sym same)
      (λ top' has'. runs.place_run p fine small is_there W first R code now base tables room reached k0 ks r own ar line own_there (other_calls line) q ss free (pc + length ce) kept (value_word p base (here_at free) v ∷ ws) s2 m2 top' h.0.0 h.0.1 up fair2 sh2 has') tops.1 (ends.front code now r (pc + length ce) cp _ has_p))
      (runs.place_typed p fine small is_there W first R code now base tables room reached k0 ks r own ar line own_there q ss a.kind h.0.0 h.0.1 h.0.2 up) fair2 (λ spot s3 m3 sh3 _ is3 fair3.
      stores.word_stored p fine small is_there W first R code now base tables room reached k0 ks r own ar own_there a.kind free (pc + length ce + length cp) line kept ws spot v s3 m3 is h.1 is3 (widened p F (kind e) a.kind v h.3 is2) sh3 (ends.back code now r (pc + length ce) cp _ has_p) (here_at free))))

  -- of what is kept behind the locals while the target is found
  kept_assigned : (line : ℕ) (a : Note) (q : Root Note) (ss : Selectors Note) (e : Expression Note) → is_large a.kind ≡ true → (free pc : ℕ) (kept : List Kept) (ws : List Word) (s : State) (m : Memory) → assigned_top plan free ss e false ≤ k0.long → StatementIs p k0.scope (Assign line a q ss e) → AllOf (statement_uses p (Assign line a q ss e)) → IsFair s → Now_shown free kept s m
      → Stands code now r pc (assigned_code plan line free a.kind q ss e false)
      → From (cfg pc ws s m) (lost {A = Unit {0}} (pc + length (assigned_code plan line free a.kind q ss e false)) ws) (Shows free kept) ((value p (enter p room) e >>= λ v. place p (enter p room) q ss >>= λ spot. write spot v) line s)
  kept_assigned line a q ss e large free pc kept ws s m top h u fair sh has =
      let ce = value_code plan line free e in
      let free' = free + room_of (bytes_of p) (kind e) in
      let cp = place_code plan line free' q ss in
      let ck = keep_code plan line a.kind in
      let tops = both_fit (value_top plan free e) (along_top plan free' ss) k0.long top in
      let has_p = ends.back code now r pc ce _ has in
      let uo = typing.back _ (owner_uses q ss) _ u in
      let up = typing.front _ (root_uses q ++ along_uses p (root_note q).kind ss) _ uo in
      let ue = typing.back _ (root_uses q ++ along_uses p (root_note q).kind ss) _ uo in
      let same : kind e ≡ a.kind = widens_large p (kind e) a.kind h.3 large in
      let large_e : is_large (kind e) ≡ true = ap is_large same ∙ large in
      let long_k : length ck ≡ 1 = ap length (stores.keep_large p fine small is_there W first R code now base tables room reached k0 ks r own ar own_there a.kind line large) in
      stores.lost_by p fine small is_there W first R code now base tables room reached k0 ks r own ar own_there (pc + length ce + length cp + 1) _ ws (omega (arith, length-append ce (cp ++ ck), length-append cp ck, long_k))
      (bind {m = value p (enter p room) e} {line = line} (lands (pc + length ce) (λ v. value_word p base (here_at free) v ∷ ws)) (λ v t y. LargeValue line (kind e) free kept v t y)
      (subst (λ b. From (cfg pc ws s m) (lands (pc + length ce) (λ v. value_word p base (here_at free) v ∷ ws)) (λ v t y. by_size b (LargeValue line (kind e) free kept v t y) (Now_shown free kept t y)) (value p (enter p room) e line s)) large_e
      (runs.value_runs p fine small is_there W first R code now base tables room reached k0 ks r own ar line own_there (other_calls line) e free pc kept ws s m tops.0 h.2 ue fair sh (ends.front code now r pc ce _ has)))
      (typing.value_obeys p fine F W first first R (enter p room) reached k0.scope (scopes ks) e h.2 ue) fair (λ v s2 m2 i _ is2 fair2.
      let x : Kept = record { from = free; bytes = i.bytes } in
      let u_e : Unfolds p (kind e) i.shape = within_bound p (kind e) i.shape i.unfolds in
      let word_is = large_word p fine base (here_at free) (kind e) i.shape v i.bytes 0 large_e u_e i.spells in
      bind {m = place p (enter p room) q ss} {line = line} (lands (pc + length ce + length cp) (λ y. spot_word p base ls y ∷ (value_word p base (here_at free) v ∷ ws))) (Shows free' (x ∷ kept))
      (runs.place_run p fine small is_there W first R code now base tables room reached k0 ks r own ar line own_there (other_calls line) q ss free' (pc + length ce) (x ∷ kept) (value_word p base (here_at free) v ∷ ws) s2 m2 tops.1 h.0.0 h.0.1 up fair2 i.shown (ends.front code now r (pc + length ce) cp _ has_p))
      (runs.place_typed p fine small is_there W first R code now base tables room reached k0 ks r own ar line own_there q ss a.kind h.0.0 h.0.1 h.0.2 up) fair2 (λ spot s3 m3 sh3 _ is3 fair3.
      let l = stores.large_place p fine small is_there W first R code now base tables room reached k0 ks r own ar own_there line a.kind spot large is3 in
      let shape_is : i.shape ≡ l.place_is.shape = shape_laws.once p a.kind i.shape l.place_is.shape (subst (λ y. Unfolds p y i.shape) same u_e) l.unfolds in
      let put = put_kept p base is_there now (record k0 { free = free' }) ks free i.bytes kept spot l.place_is v m3 s3 sh3 l.is (runs.within_is p fine small is_there W first R code now base tables room reached k0 ks r own ar line own_there spot a.kind is3) (i.long ∙ ap store.size shape_is) (subst (λ y. Spells (region_shape p) y v i.bytes 0) shape_is i.spells) in
      let has_k = subst (Stands code now r (pc + length ce + length cp)) (stores.keep_large p fine small is_there W first R code now base tables room reached k0 ks r own ar own_there a.kind line large) (ends.back code now r (pc + length ce) cp _ has_p) in
      subst (λ w. From (cfg (pc + length ce + length cp) (spot_word p base ls spot ∷ (w ∷ ws)) s3 m3) (lost {A = Unit {0}} (pc + length ce + length cp + 1) ws) (Shows free kept) (write spot v line s3)) (sym word_is)
      (ends.and_leads code now (lost {A = Unit {0}} (pc + length ce + length cp + 1) ws) (Shows free' (x ∷ kept)) (stores.large_stored p fine small is_there W first R code now base tables room reached k0 ks r own ar own_there (bytes_of p a.kind) free' (pc + length ce + length cp) line (x ∷ kept) ws spot l.place_is (here_at free) v s3 m3 l.size_is l.is put has_k)
      (λ _ t y sh' _. ends.stays code now tt t y (stores.no_longer p fine small is_there W first R code now base tables room reached k0 ks r own ar own_there free free' x kept t y refl sh'))))))

  -- of what stands at a place, where finding the target changes nothing
  placed_assigned : (line : ℕ) (a : Note) (q : Root Note) (ss : Selectors Note) (e : Expression Note) → is_large a.kind ≡ true → is_source e ≡ true → way_is_quiet ss ≡ true → (free pc : ℕ) (kept : List Kept) (ws : List Word) (s : State) (m : Memory) → assigned_top plan free ss e true ≤ k0.long → StatementIs p k0.scope (Assign line a q ss e) → AllOf (statement_uses p (Assign line a q ss e)) → IsFair s → Now_shown free kept s m
      → Stands code now r pc (assigned_code plan line free a.kind q ss e true)
      → From (cfg pc ws s m) (lost {A = Unit {0}} (pc + length (assigned_code plan line free a.kind q ss e true)) ws) (Shows free kept) ((value p (enter p room) e >>= λ v. place p (enter p room) q ss >>= λ spot. write spot v) line s)
  placed_assigned line a q ss e large source quiet free pc kept ws s m top h u fair sh has =
      let ce = source_code plan line free e in
      let cp = place_code plan line free q ss in
      let ck = keep_code plan line a.kind in
      let tops = both_fit (source_top plan free e) (along_top plan free ss) k0.long top in
      let has_p = ends.back code now r pc ce _ has in
      let uo = typing.back _ (owner_uses q ss) _ u in
      let up = typing.front _ (root_uses q ++ along_uses p (root_note q).kind ss) _ uo in
      let ue = typing.back _ (root_uses q ++ along_uses p (root_note q).kind ss) _ uo in
      let same : kind e ≡ a.kind = widens_large p (kind e) a.kind h.3 large in
      let large_e : is_large (kind e) ≡ true = ap is_large same ∙ large in
      let long_k : length ck ≡ 1 = ap length (stores.keep_large p fine small is_there W first R code now base tables room reached k0 ks r own ar own_there a.kind line large) in
      let x = source_run e free pc line kept ws s m source large_e tops.0 h.2 ue fair sh (ends.front code now r pc ce _ has) in
      let rest : Value → State → Outcome (Unit {0}) = λ v t. (place p (enter p room) q ss >>= λ spot. write spot v) line t in
      let out = pc + length ce + length cp + 1 in
      stores.lost_by p fine small is_there W first R code now base tables room reached k0 ks r own ar own_there out _ ws (omega (arith, length-append ce (cp ++ ck), length-append cp ck, long_k))
      (ends.same_outcome code now (ap (λ o. go_on o rest) x.value_is ∙ go_on_again (source_place e line s) (λ spot u. read spot line u) rest)
      (bind {m = source_place e} {line = line} (lands (pc + length ce) (λ y. spot_word p base ls y ∷ ws)) (Shows free kept) x.found x.typed fair (λ from s2 m2 sh2 _ is2 fair2.
      let lf = stores.large_place p fine small is_there W first R code now base tables room reached k0 ks r own ar own_there line (kind e) from large_e is2 in
      let before = place_bytes p base is_there now (kept_at free kept) from lf.place_is m2 s2 sh2 lf.is (runs.within_is p fine small is_there W first R code now base tables room reached k0 ks r own ar line own_there from (kind e) is2) in
      ends.same_outcome code now (ap (λ o. go_on o rest) (before.reads line))
      (bind {m = place p (enter p room) q ss} {line = line} (lands (pc + length ce + length cp) (λ y. spot_word p base ls y ∷ (spot_word p base ls from ∷ ws))) (Shows free kept)
      (runs.place_run p fine small is_there W first R code now base tables room reached k0 ks r own ar line own_there (other_calls line) q ss free (pc + length ce) kept (spot_word p base ls from ∷ ws) s2 m2 tops.1 h.0.0 h.0.1 up fair2 sh2 (ends.front code now r (pc + length ce) cp _ has_p))
      (runs.place_typed p fine small is_there W first R code now base tables room reached k0 ks r own ar line own_there q ss a.kind h.0.0 h.0.1 h.0.2 up) fair2 (λ spot s3 m3 sh3 done3 is3 fair3.
      let l = stores.large_place p fine small is_there W first R code now base tables room reached k0 ks r own ar own_there line a.kind spot large is3 in
      let shape_is : lf.place_is.shape ≡ l.place_is.shape = shape_laws.once p a.kind lf.place_is.shape l.place_is.shape (subst (λ y. Unfolds p y lf.place_is.shape) same lf.unfolds) l.unfolds in
      let put = copy_place p base is_there now (kept_at free kept) from spot lf.place_is l.place_is m3 s3 sh3 lf.is l.is (runs.within_is p fine small is_there W first R code now base tables room reached k0 ks r own ar line own_there from (kind e) is2) (runs.within_is p fine small is_there W first R code now base tables room reached k0 ks r own ar line own_there spot a.kind is3) shape_is in
      let still : s2 ≡ s3 = (place_quiet p (enter p room) q ss quiet).by line s2 spot s3 done3 in
      let same_value_is : before.value ≡ put.0.value = done_value (sym (before.reads line) ∙ (ap (λ t. read from line t) still ∙ put.0.reads line)) in
      let has_k = subst (Stands code now r (pc + length ce + length cp)) (stores.keep_large p fine small is_there W first R code now base tables room reached k0 ks r own ar own_there a.kind line large) (ends.back code now r (pc + length ce) cp _ has_p) in
      subst (λ (y : Option Located). From (cfg (pc + length ce + length cp) (spot_word p base ls spot ∷ (word_at p base y ∷ ws)) s3 m3) (lost {A = Unit {0}} out ws) (Shows free kept) (write spot before.value line s3)) (sym lf.is)
      (subst (λ v. From (cfg (pc + length ce + length cp) (spot_word p base ls spot ∷ (word.Address lf.place_is.address ∷ ws)) s3 m3) (lost {A = Unit {0}} out ws) (Shows free kept) (write spot v line s3)) (sym same_value_is)
      (stores.large_stored p fine small is_there W first R code now base tables room reached k0 ks r own ar own_there (bytes_of p a.kind) free (pc + length ce + length cp) line kept ws spot l.place_is lf.place_is.address put.0.value s3 m3 l.size_is l.is put.1 has_k)))))))

  pub both_true : (a b : Bool) → (a && b) ≡ true → (a ≡ true) × (b ≡ true)
  both_true true true e = (refl, refl)
  both_true true false e = cc
  both_true false b e = cc

  -- any assignment, behind its tick
  assigned_run : (line : ℕ) (a : Note) (q : Root Note) (ss : Selectors Note) (e : Expression Note) (b : Bool) → (is_large a.kind && (is_source e && way_is_quiet ss)) ≡ b → (free pc : ℕ) (kept : List Kept) (ws : List Word) (s : State) (m : Memory) → assigned_top plan free ss e b ≤ k0.long → StatementIs p k0.scope (Assign line a q ss e) → AllOf (statement_uses p (Assign line a q ss e)) → IsFair s → Now_shown free kept s m
      → Stands code now r pc (assigned_code plan line free a.kind q ss e b)
      → From (cfg pc ws s m) (lost {A = Unit {0}} (pc + length (assigned_code plan line free a.kind q ss e b)) ws) (Shows free kept) ((value p (enter p room) e >>= λ v. place p (enter p room) q ss >>= λ spot. write spot v) line s)
  assigned_run line a q ss e true is free pc kept ws s m top h u fair sh has =
      let b = both_true (is_large a.kind) (is_source e && way_is_quiet ss) is in
      let c = both_true (is_source e) (way_is_quiet ss) b.1 in
      placed_assigned line a q ss e b.0 c.0 c.1 free pc kept ws s m top h u fair sh has
  assigned_run line a q ss e false is free pc kept ws s m top h u fair sh has = by (is_large a.kind) refl
    where
      by : (b : Bool) → is_large a.kind ≡ b → From (cfg pc ws s m) (lost {A = Unit {0}} (pc + length (assigned_code plan line free a.kind q ss e false)) ws) (Shows free kept) ((value p (enter p room) e >>= λ v. place p (enter p room) q ss >>= λ spot. write spot v) line s)
      by true large = kept_assigned line a q ss e large free pc kept ws s m top h u fair sh has
      by false small_t = small_assigned line a q ss e small_t free pc kept ws s m top h u fair sh has

  -- ---- CASE

  eq_turned : (a b : ℤ) → int_eq a b ≡ int_eq b a
  eq_turned (pos a) (pos b) = search rules
  eq_turned (pos a) (negsuc b) = search rules
  eq_turned (negsuc a) (pos b) = search rules
  eq_turned (negsuc a) (negsuc b) = search rules

  module _ {A : Type 0} (after : A → State → Memory → Config) (shown : A → State → Memory → Type 0) (o : Outcome A) (line : ℕ) (ws : List Word) (s : State) (m : Memory) where
    truth_next : (b : Bool) (n pc : ℕ) (ws : List Word) → Stands code now r pc (skips_at_0 n line ∷ []) → (b ≡ true → From (cfg (pc + 1) ws s m) after shown o) → (b ≡ false → From (cfg (pc + 1 + n) ws s m) after shown o) → From (cfg pc (word.Number (truth b) ∷ ws) s m) after shown o
    truth_next true n pc ws has k j = ends.step_leads code now (op.JumpF (pc + 1 + n), line) has.0 (k refl)
    truth_next false n pc ws has k j = ends.step_leads code now (op.JumpF (pc + 1 + n), line) has.0 (j refl)

    at_pc : (ws : List Word) (a b : ℕ) → a ≡ b → From (cfg a ws s m) after shown o → From (cfg b ws s m) after shown o
    at_pc ws a b e h = subst (λ j. From (cfg j ws s m) after shown o) e h

    both_parts : (a b : Bool) → a ≡ true → b ≡ true → (a && b) ≡ true
    both_parts a b e f = (λ i. e i && f i)

    no_first : (a b : Bool) → a ≡ false → (a && b) ≡ false
    no_first a b e = ap (λ x. x && b) e

    no_second : (a b : Bool) → b ≡ false → (a && b) ≡ false
    no_second true b e = e
    no_second false b e = refl

    either_left : (a b : Bool) → a ≡ true → (a || b) ≡ true
    either_left a b e = ap (λ x. x || b) e

    either_right : (a b : Bool) → a ≡ false → (a || b) ≡ b
    either_right a b e = ap (λ x. x || b) e

    abbrev here : ℕ → ℤ → Type 0
    here pc z = From (cfg pc (word.Number z ∷ ws) s m) after shown o

    -- one label, a value or a range
    label_next : (l : Label Note) (left : ℕ) (z : ℤ) (pc : ℕ) → Stands code now r pc (label_code line l left) → (up_to (end_value l.first) l.last z ≡ true → here (pc + length (label_code line l left) + suc left) z)
        → (up_to (end_value l.first) l.last z ≡ false → here (pc + length (label_code line l left)) z) → here pc z
    label_next l left z pc = by l.last
      where
        by : (x : Option (LabelEnd Note)) → Stands code now r pc (label_code line (record l { last = x }) left) → (up_to (end_value l.first) x z ≡ true → here (pc + length (label_code line (record l { last = x }) left) + suc left) z)
            → (up_to (end_value l.first) x z ≡ false → here (pc + length (label_code line (record l { last = x }) left)) z) → here pc z
        by None has one two =
            ends.step_leads code now (op.Dup, line) has.0
            (ends.step_leads code now (op.Push (end_value l.first), line) has.1.0
            (ends.step_leads code now (op.Eq, line) has.1.1.0
            (subst (λ b. From (cfg (pc + 1 + 1 + 1) (word.Number (truth b) ∷ (word.Number z ∷ ws)) s m) after shown o) (eq_turned (end_value l.first) z)
            (truth_next (int_eq (end_value l.first) z) 1 (pc + 1 + 1 + 1) (word.Number z ∷ ws) (has.1.1.1.0, tt)
            (λ e. ends.step_leads code now (op.Jump (pc + 1 + 1 + 1 + 1 + 1 + suc left), line) has.1.1.1.1.0 (at_pc (word.Number z ∷ ws) (pc + 5 + suc left) (pc + 1 + 1 + 1 + 1 + 1 + suc left) (omega arith) (one e)))
            (λ e. at_pc (word.Number z ∷ ws) (pc + 5) (pc + 1 + 1 + 1 + 1 + 1) (omega arith) (two e))))))
        by (Some last) has one two =
            ends.step_leads code now (op.Dup, line) has.0
            (ends.step_leads code now (op.Push (end_value l.first), line) has.1.0
            (ends.step_leads code now (op.Ge, line) has.1.1.0
            (truth_next (int_le (end_value l.first) z) 5 (pc + 1 + 1 + 1) (word.Number z ∷ ws) (has.1.1.1.0, tt)
            (λ e.
            ends.step_leads code now (op.Dup, line) has.1.1.1.1.0
            (ends.step_leads code now (op.Push (end_value last), line) has.1.1.1.1.1.0
            (ends.step_leads code now (op.Le, line) has.1.1.1.1.1.1.0
            (truth_next (int_le z (end_value last)) 1 (pc + 1 + 1 + 1 + 1 + 1 + 1 + 1) (word.Number z ∷ ws) (has.1.1.1.1.1.1.1.0, tt)
            (λ f. ends.step_leads code now (op.Jump (pc + 1 + 1 + 1 + 1 + 1 + 1 + 1 + 1 + 1 + suc left), line) has.1.1.1.1.1.1.1.1.0 (at_pc (word.Number z ∷ ws) (pc + 9 + suc left) (pc + 1 + 1 + 1 + 1 + 1 + 1 + 1 + 1 + 1 + suc left) (omega arith) (one (both_parts (int_le (end_value l.first) z) (int_le z (end_value last)) e f))))
            (λ f. at_pc (word.Number z ∷ ws) (pc + 9) (pc + 1 + 1 + 1 + 1 + 1 + 1 + 1 + 1 + 1) (omega arith) (two (no_second (int_le (end_value l.first) z) (int_le z (end_value last)) f)))))))
            (λ e. at_pc (word.Number z ∷ ws) (pc + 9) (pc + 1 + 1 + 1 + 1 + 5) (omega arith) (two (no_first (int_le (end_value l.first) z) (int_le z (end_value last)) e))))))

    labels_next : (l : List (Label Note)) (z : ℤ) (pc : ℕ) → Stands code now r pc (labels_code line l) → (hold l z ≡ true → here (pc + length (labels_code line l) + 1) z) → (hold l z ≡ false → here (pc + length (labels_code line l)) z) → here pc z
    labels_next [] z pc has one two = at_pc (word.Number z ∷ ws) (pc + 0) pc (omega arith) (two refl)
    labels_next (l ∷ rest) z pc has one two =
        let cr = labels_code line rest in
        let cl = label_code line l (length cr) in
        let whole = length-append cl cr in
        label_next l (length cr) z pc (ends.front code now r pc cl cr has)
        (λ e. at_pc (word.Number z ∷ ws) (pc + length (cl ++ cr) + 1) (pc + length cl + suc (length cr)) (omega (arith, whole)) (one (either_left (up_to (end_value l.first) l.last z) (hold rest z) e)))
        (λ e. labels_next rest z (pc + length cl) (ends.back code now r pc cl cr has)
        (λ f. at_pc (word.Number z ∷ ws) (pc + length (cl ++ cr) + 1) (pc + length cl + length cr + 1) (omega (arith, whole)) (one (either_right (up_to (end_value l.first) l.last z) (hold rest z) e ∙ f)))
        (λ f. at_pc (word.Number z ∷ ws) (pc + length (cl ++ cr)) (pc + length cl + length cr) (omega (arith, whole)) (two (either_right (up_to (end_value l.first) l.last z) (hold rest z) e ∙ f))))

  -- ---- FOR: the end and the step are kept behind the locals

  -- a number on top is kept behind the locals
  record KeptNumber (e : Elem) (z : ℤ) (free : ℕ) (kept : List Kept) (s : State) (m : Memory) : Type 0 where
    bs : List ℕ
    long : length bs ≡ 8
    number_there : Holds e z bs 0
    shown : Now_shown (free + 8) (record { from = free; bytes = bs } ∷ kept) s m

  keep_behind : (e : Elem) (z : ℤ) (free pc line : ℕ) (kept : List Kept) (ws : List Word) (s : State) (m : Memory) → Fits e z → free + 8 ≤ k0.long → Now_shown free kept s m → Stands code now r pc (does (op.Local free) line ∷ (does (op.Store e) line ∷ []))
      → From (cfg pc (word.Number z ∷ ws) s m) (lost {A = Unit {0}} (pc + 1 + 1) ws) (λ _ t y. KeptNumber e z free kept t y) (Done tt s)
  keep_behind e z free pc line kept ws s m fits room sh has = by s.frames refl sh.frames
    where
      few : width_of e ≤ 8
      few = eight e

      by : (fs : List Frame) → s.frames ≡ fs → FramesShown p base (kept_at free kept) fs m.locals → From (cfg pc (word.Number z ∷ ws) s m) (lost {A = Unit {0}} (pc + 1 + 1) ws) (λ _ t y. KeptNumber e z free kept t y) (Done tt s)
      by [] q h = absurd h
      by (f ∷ fs) q h =
          let o = h.0 in
          let long = o.long in
          let image' = written e o.image free z in
          let fit : free + width_of e ≤ length o.image = omega (arith, long, room, few) in
          let keeps = keeps_written e z o.image free fit in
          let wide : KeepsBytes o.image image' free 8 = record { by = λ j n a. keeps.by j n (⊎_elim (λ l. inl (omega (arith, l, few))) (λ l. inr l) a) } in
          let same = length-written e z o.image free fit in
          let frames = kept_new p base (record k0 { free = free; kept = kept }) ks (f ∷ fs) m.locals o.image image' h o.there same wide room in
          let stands = holds_written e z o.image free fits fit in
          ends.step_leads code now (op.Local free, line) has.0
          (subst (λ i. From (cfg (pc + 1) (word.Address (record { space = Locals; index = i; offset = free }) ∷ (word.Number z ∷ ws)) s m) (lost {A = Unit {0}} (pc + 1 + 1) ws) (λ _ t y. KeptNumber e z free kept t y) (Done tt s)) (sym (let d : length m.locals ≡ base + length (k0 ∷ ks) = sh.deep in omega (arith, d)))
          (ends.step_leads code now (op.Store e, line) has.1.0
          (subst (λ y. Leads code now (write_bytes e m (here_at free) y >>=step λ m'. on_memory (cfg (pc + 1) (word.Address (here_at free) ∷ (word.Number z ∷ ws)) s m) ws m') (lost {A = Unit {0}} (pc + 1 + 1) ws) (λ _ t y. KeptNumber e z free kept t y) (Done tt s)) (sym (is_wrapped p fine small is_there W first R code now base tables e z fits))
          (ends.goes_leads code now (write_bytes e m (here_at free) z) (record m { locals = slice_set m.locals (base + length ks) image' }) _
          (ap (λ x. x >>=step λ i. Goes (record m { locals = slice_set m.locals (base + length ks) (written e i free z) })) (local_there m (base + length ks) free (width_of e) o.image o.there fit))
          (ends.stays code now tt s (record m { locals = slice_set m.locals (base + length ks) image' }) (record {
            bs = slice_range image' free (free + 8);
            long = length-range image' free 8 (omega (arith, same, long, room));
            number_there = record { fits = fits; stands = range_of_range image' free 8 0 (width_of e) (omega (arith, few)) ∙ (let y : free + 0 ≡ free = omega arith in (λ i. slice_range image' (y i) (y i + width_of e)) ∙ stands.stands) };
            shown = record { regions = sh.regions; frames = subst (λ x. FramesShown p base (kept_at (free + 8) (record { from = free; bytes = slice_range image' free (free + 8) } ∷ kept)) x (slice_set m.locals (base + length ks) image')) (sym q) frames; deep = length_set m.locals (base + length ks) image' ∙ sh.deep; moment = sh.moment };
          }))))))

  abbrev temps : ℕ → List ℕ → List ℕ → List Kept → List Kept
  temps free b1 b2 kept = record { from = free + 8; bytes = b2 } ∷ (record { from = free; bytes = b1 } ∷ kept)

  -- both are there
  record TempsThere (free : ℕ) (b1 b2 : List ℕ) (m : Memory) : Type 0 where
    image : List ℕ
    there_is : slice_get m.locals (base + length ks) ≡ Some image
    first_stands : slice_range image free (free + length b1) ≡ b1
    second_stands : slice_range image (free + 8) (free + 8 + length b2) ≡ b2
    inside : free + 8 + length b2 ≤ length image

  temps_there : (free : ℕ) (b1 b2 : List ℕ) (kept : List Kept) (s : State) (m : Memory) → Now_shown (free + 16) (temps free b1 b2 kept) s m → TempsThere free b1 b2 m
  temps_there free b1 b2 kept s m sh = by s.frames sh.frames
    where
      by : (fs : List Frame) → FramesShown p base (kept_at (free + 16) (temps free b1 b2 kept)) fs m.locals → TempsThere free b1 b2 m
      by [] h = absurd h
      by (f ∷ fs) h =
          let o = h.0 in
          let l = o.long in
          let r = o.room in
          let b = o.kept.0.below in
          record { image = o.image; there_is = o.there; first_stands = o.kept.1.0.stands; second_stands = o.kept.0.stands; inside = omega (arith, l, r, b) }

  temp_run : {shown : Unit {0} → State → Memory → Type 0} (e : Elem) (z : ℤ) (at pc line : ℕ) (bs image : List ℕ) (ws : List Word) (s : State) (m : Memory) → length m.locals ≡ base + length (k0 ∷ ks) → slice_get m.locals (base + length ks) ≡ Some image → slice_range image at (at + length bs) ≡ bs → length bs ≡ 8 → at + 8 ≤ length image → Holds e z bs 0
      → shown tt s m → Stands code now r pc (does (op.Local at) line ∷ (does (op.Load e) line ∷ [])) → From (cfg pc ws s m) (lost {A = Unit {0}} (pc + 1 + 1) (word.Number z ∷ ws)) shown (Done tt s)
  temp_run {shown = shown} e z at pc line bs image ws s m deep there_is stands long inside given sh has =
      let few = eight e in
      let at_0 : at ≡ at + 0 = omega arith in
      let here_stands : slice_range image at (at + width_of e) ≡ slice_range bs 0 (0 + width_of e) =
      (λ i. slice_range image (at_0 i) (at_0 i + width_of e)) ∙ (sym (range_of_range image at (length bs) 0 (width_of e) (omega (arith, few, long))) ∙ ap (λ x. slice_range x 0 (0 + width_of e)) stands) in
      let number_is : number_at e image at ≡ z = value_is e z image at (record { fits = given.fits; stands = here_stands ∙ given.stands }) in
      ends.step_leads code now (op.Local at, line) has.0
      (subst (λ i. From (cfg (pc + 1) (word.Address (record { space = Locals; index = i; offset = at }) ∷ ws) s m) (lost {A = Unit {0}} (pc + 1 + 1) (word.Number z ∷ ws)) shown (Done tt s)) (sym (let d = deep in omega (arith, d)))
      (ends.step_leads code now (op.Load e, line) has.1.0
      (ends.goes_leads code now (read_bytes e m (here_at at)) z _ (ap (λ x. x >>=step λ i. Goes (number_at e i at)) (local_there m (base + length ks) at (width_of e) image there_is (omega (arith, inside, few))) ∙ ap Goes number_is)
      (ends.stays code now tt s m sh))))

  lt_zero : (z : ℤ) → int_lt z (pos 0) ≡ is_negative z
  lt_zero (pos zero) = search rules
  lt_zero (pos (suc n)) = search rules
  lt_zero (negsuc n) = search rules

  -- ---- a loop, from its test and its body: a tick, the test, a jump past the body, the body, the jump back
  module _ {I : State → Memory → Type 0} (test : Run Bool) (body : Run Flow) (to : Targets) (pc n1 n2 back_n line : ℕ) (ws : List Word)
      (has_t : Stands code now r pc (does op.Tick line ∷ [])) (has_j : Stands code now r (pc + 1 + n1) (skips_at_0 (suc n2) line ∷ [])) (has_b : Stands code now r (pc + 1 + n1 + 1 + n2) (returns back_n line ∷ [])) (back_is : pc + 1 + n1 + 1 + n2 - back_n ≡ pc)
      (ticked : (s : State) (m : Memory) (n : ℕ) → I s m → I (record s { ticks = n }) m)
      (test_runs : (s : State) (m : Memory) → IsFair s → I s m → From (cfg (pc + 1) ws s m) (lands (pc + 1 + n1) (λ b. word.Number (truth b) ∷ ws)) (λ _ t y. I t y) (test line s))
      (body_runs : (s : State) (m : Memory) → IsFair s → I s m → From (cfg (pc + 1 + n1 + 1) ws s m) (flows (record { to_exit = 1; to_continue = 0; to_return = 1 + to.to_return }) (pc + 1 + n1 + 1 + n2) ws) (λ _ t y. I t y) (body line s))
      (test_typed : Typed_run test Anything) (body_typed : Typed_run body Anything)
      (test_ticks : (s : State) → NoMore s.ticks (test line s)) (body_ticks : (s : State) → NoMore s.ticks (body line s)) where
    abbrev out : ℕ
    out = pc + 1 + n1 + 1 + n2 + 1

    jump_back : (o : Outcome Flow) (t : State) (y : Memory) (at : ℕ) → pc + 1 + n1 + 1 + n2 ≡ at → From (cfg pc ws t y) (flows to out ws) (λ _ t y. I t y) o → From (cfg at ws t y) (flows to out ws) (λ _ t y. I t y) o
    jump_back o t y at q h =
        subst (λ j. From (cfg j ws t y) (flows to out ws) (λ _ t y. I t y) o) q
        (ends.step_leads code now (op.Jump (pc + 1 + n1 + 1 + n2 - back_n), line) has_b.0 (subst (λ j. From (cfg j ws t y) (flows to out ws) (λ _ t y. I t y) o) (sym back_is) h))

    turned_run : (f : Flow) (again : Run Flow) (t : State) (y : Memory) → I t y → (Unit {0} → From (cfg pc ws t y) (flows to out ws) (λ _ t y. I t y) (again line t))
        → From (flows (record { to_exit = 1; to_continue = 0; to_return = 1 + to.to_return }) (pc + 1 + n1 + 1 + n2) ws f t y) (flows to out ws) (λ _ t y. I t y) (after_turn f again line t)
    turned_run goes_on again t y i k = jump_back (again line t) t y _ refl (k tt)
    turned_run continues again t y i k = jump_back (again line t) t y _ (omega arith) (k tt)
    turned_run exits again t y i k = subst (λ j. From (cfg j ws t y) (flows to out ws) (λ _ t y. I t y) (Done goes_on t)) (omega arith) (ends.stays code now goes_on t y i)
    turned_run leaves again t y i k = subst (λ j. From (cfg j ws t y) (flows to out ws) (λ _ t y. I t y) (Done leaves t)) (omega arith) (ends.stays code now leaves t y i)

    loop_run : (left : ℕ) (s : State) (m : Memory) → s.ticks ≤ left → IsFair s → I s m → From (cfg pc ws s m) (flows to out ws) (λ _ t y. I t y) (turns left test body line s)
    loop_run zero s m le fair i = ends.step_leads code now (op.Tick, line) has_t.0 (by s.ticks le)
      where
        by : (n : ℕ) → n ≤ 0 → Leads code now (spend_tick (cfg pc ws s m) line n) (flows to out ws) (λ _ t y. I t y) (Fault fault.Watchdog line)
        by zero l = ends.faults_leads code now refl
        by (suc n) l = absurd (omega arith)
    loop_run (suc left) s m le fair i =
        bind {m = spend} {line = line} (lost (pc + 1) ws) (λ _ t y. I t y) (ticks_run s.ticks) (spend_obeys p fine F W first first) fair (λ _ s1 m1 i1 done1 _ fair1.
        bind {m = test} {line = line} (lands (pc + 1 + n1) (λ b. word.Number (truth b) ∷ ws)) (λ _ t y. I t y) (test_runs s1 m1 fair1 i1) test_typed fair1 (λ b s2 m2 i2 done2 _ fair2.
        truth_next (flows to out ws) (λ _ t y. I t y) ((if b then (body >>= λ f. after_turn f (turns left test body)) else gives goes_on) line s2) line ws s2 m2 b (suc n2) (pc + 1 + n1) ws has_j
        (λ q. ends.same_outcome code now (ap (λ b. (if b then (body >>= λ f. after_turn f (turns left test body)) else gives goes_on) line s2) q)
        (bind {m = body} {line = line} (flows (record { to_exit = 1; to_continue = 0; to_return = 1 + to.to_return }) (pc + 1 + n1 + 1 + n2) ws) (λ _ t y. I t y) (body_runs s2 m2 fair2 i2) body_typed fair2 (λ f s3 m3 i3 done3 _ fair3.
        turned_run f (turns left test body) s3 m3 i3 (λ _. loop_run left s3 m3
        (let a = spent line s.ticks s s1 done1 in
        let c = no_more s1.ticks (test line s1) b s2 (test_ticks s1) done2 in
        let d = no_more s2.ticks (body line s2) f s3 (body_ticks s2) done3 in
        omega (arith, a, c, d, le)) fair3 i3))))
        (λ q. ends.same_outcome code now (ap (λ b. (if b then (body >>= λ f. after_turn f (turns left test body)) else gives goes_on) line s2) q)
        (subst (λ j. From (cfg j ws s2 m2) (flows to out ws) (λ _ t y. I t y) (Done goes_on s2)) (omega arith) (ends.stays code now goes_on s2 m2 i2)))))
      where
        ticks_run : (n : ℕ) → Leads code now (Goes (cfg pc ws s m)) (lost {A = Unit {0}} (pc + 1) ws) (λ _ t y. I t y) (spend line s)
        ticks_run n = ends.step_leads code now (op.Tick, line) has_t.0 (by s.ticks)
          where
            by : (n : ℕ) → Leads code now (spend_tick (cfg pc ws s m) line n) (lost {A = Unit {0}} (pc + 1) ws) (λ _ t y. I t y) (spend_from n line s)
            by zero = ends.faults_leads code now refl
            by (suc n) = ends.stays code now tt (record s { ticks = n }) m (ticked s m n i)

  module _ (x : Target) (t : StType) (e to by : Elem) (is : t ≡ type.Elementary e) (name : NameIs p k0.scope x t) (uses : AllOf (name_uses x)) (free : ℕ) (b1 b2 : List ℕ) (kept : List Kept) (end step : ℤ) (long1 : length b1 ≡ 8) (long2 : length b2 ≡ 8) (end_there : Holds to end b1 0) (step_there : Holds by step b2 0) (line : ℕ) where
    abbrev cp : List Cell
    cp = named_code plan line x

    abbrev Turns : {A : Type 0} → A → State → Memory → Type 0
    Turns a s m = Now_shown (free + 16) (temps free b1 b2 kept) s m

    -- the variable and the end, compared
    half_run : (o : Op) (f : ℤ → ℤ → Bool) → ((pc : ℕ) (a b : ℤ) (ws : List Word) (s : State) (m : Memory) → act code now o line (cfg pc (word.Number b ∷ (word.Number a ∷ ws)) s m) ≡ Goes (cfg (pc + 1) (word.Number (truth (f a b)) ∷ ws) s m))
        → (pc : ℕ) (ws : List Word) (s : State) (m : Memory) → IsFair s → Turns {A = Unit {0}} tt s m → Stands code now r pc (cp ++ (does (op.Load e) line ∷ (does (op.Local free) line ∷ (does (op.Load to) line ∷ (does o line ∷ [])))))
        → From (cfg pc ws s m) (lands (pc + length cp + 1 + 1 + 1 + 1) (λ b. word.Number (truth b) ∷ ws)) Turns ((named_spot x >>= λ spot. read spot >>= λ v. gives (f (number_in v) end)) line s)
    half_run o f acts pc ws s m fair sh has =
        let has_l = ends.back code now r pc cp _ has in
        bind {m = named_spot x} {line = line} (lands (pc + length cp) (λ y. spot_word p base ls y ∷ ws)) Turns
        (runs.named_run p fine small is_there W first R code now base tables room reached k0 ks r own ar line own_there x t (free + 16) pc (temps free b1 b2 kept) ws s m name fair sh (ends.front code now r pc cp _ has))
        (typing.named_obeys p fine F W first first R (enter p room) reached k0.scope (scopes ks) x t name uses) fair
        (λ spot s2 m2 sh2 _ found fair2.
        let l = runs.lies p fine small is_there W first R code now base tables room reached k0 ks r own ar line own_there spot t found.0 in
        let y = load_like p base is_there now (kept_at (free + 16) (temps free b1 b2 kept)) spot e l.place m2 s2 sh2 l.is (runs.within_is p fine small is_there W first R code now base tables room reached k0 ks r own ar line own_there spot t found.0) (runs.number_shape p fine small is_there W first R code now base tables room reached k0 ks r own ar line own_there l.place.shape t e is l.meets) in
        let w = temps_there free b1 b2 kept s2 m2 sh2 in
        let inside = w.inside in
        subst (λ (q : Option Located). From (cfg (pc + length cp) (word_at p base q ∷ ws) s2 m2) (lands (pc + length cp + 1 + 1 + 1 + 1) (λ b. word.Number (truth b) ∷ ws)) Turns ((read spot >>= λ v. gives (f (number_in v) end)) line s2)) (sym l.is)
        (ends.step_leads code now (op.Load e, line) has_l.0
        (ends.goes_leads code now (read_bytes e m2 l.place.address) y.z _ y.by_bytes
        (ends.same_outcome code now (ap (λ o. go_on o (λ v t. Done (f (number_in v) end) t)) (y.by_state line))
        (ends.and_then code now (lost {A = Unit {0}} (pc + length cp + 1 + 1 + 1) (word.Number end ∷ (word.Number y.z ∷ ws))) Turns
        (temp_run to end free (pc + length cp + 1) line b1 w.image (word.Number y.z ∷ ws) s2 m2 sh2.deep w.there_is w.first_stands long1 (omega (arith, inside)) end_there sh2 (has_l.1.0, (has_l.1.1.0, tt)))
        (λ m3 sh3.
        ends.step_leads code now (o, line) has_l.1.1.1.0
        (ends.same_start code now (acts (pc + length cp + 1 + 1 + 1) y.z end ws s2 m3) (ends.stays code now (f y.z end) s2 m3 sh3))))))))

    abbrev half : Op → List Cell
    half o = cp ++ (does (op.Load e) line ∷ (does (op.Local free) line ∷ (does (op.Load to) line ∷ (does o line ∷ []))))

    -- the test: the sign of the step says which way
    within_run : (pc : ℕ) (ws : List Word) (s : State) (m : Memory) → IsFair s → Turns {A = Unit {0}} tt s m → Stands code now r pc (within_code line free e to by cp)
        → From (cfg pc ws s m) (lands (pc + length (within_code line free e to by cp)) (λ b. word.Number (truth b) ∷ ws)) Turns ((named_spot x >>= λ spot. read spot >>= λ v. gives (not_passed step end (number_in v))) line s)
    within_run pc ws s m fair sh has =
        let w = temps_there free b1 b2 kept s m sh in
        let inside = w.inside in
        let has_g = ends.front code now r (pc + 1 + 1 + 1 + 1 + 1) (half op.Ge) _ has.1.1.1.1.1 in
        let has_s = ends.back code now r (pc + 1 + 1 + 1 + 1 + 1) (half op.Ge) _ has.1.1.1.1.1 in
        let out = pc + length (within_code line free e to by cp) in
        let lg = length-append cp (does (op.Load e) line ∷ (does (op.Local free) line ∷ (does (op.Load to) line ∷ (does op.Ge line ∷ [])))) in
        let ll = length-append cp (does (op.Load e) line ∷ (does (op.Local free) line ∷ (does (op.Load to) line ∷ (does op.Le line ∷ [])))) in
        let whole = length-append (half op.Ge) (skips (length (half op.Le)) line ∷ half op.Le) in
        let run : Bool → Run Bool = λ t. named_spot x >>= λ spot. read spot >>= λ v. gives (if t then int_le end (number_in v) else int_le (number_in v) end) in
        ends.and_then code now (lost {A = Unit {0}} (pc + 1 + 1) (word.Number step ∷ ws)) Turns
        (temp_run by step (free + 8) pc line b2 w.image ws s m sh.deep w.there_is w.second_stands long2 (omega (arith, inside, long2)) step_there sh (has.0, (has.1.0, tt)))
        (λ m1 sh1.
        ends.step_leads code now (op.Push (pos 0), line) has.1.1.0
        (ends.step_leads code now (op.Lt, line) has.1.1.1.0
        (subst (λ b. From (cfg (pc + 1 + 1 + 1 + 1) (word.Number (truth b) ∷ ws) s m1) (lands out (λ b. word.Number (truth b) ∷ ws)) Turns (run (is_negative step) line s)) (sym (lt_zero step))
        (truth_next (lands out (λ b. word.Number (truth b) ∷ ws)) Turns (run (is_negative step) line s) line ws s m1 (is_negative step) (suc (length (half op.Ge))) (pc + 1 + 1 + 1 + 1) ws (has.1.1.1.1.0, tt)
        (λ down.
        ends.same_outcome code now (ap (λ t. run t line s) down)
        (ends.and_leads code now (lands (pc + 1 + 1 + 1 + 1 + 1 + length cp + 1 + 1 + 1 + 1) (λ b. word.Number (truth b) ∷ ws)) Turns
        (half_run op.Ge (λ a b. int_le b a) (λ pc a b ws s m. refl) (pc + 1 + 1 + 1 + 1 + 1) ws s m1 fair sh1 has_g)
        (λ b t y i _. subst (λ j. From (cfg j (word.Number (truth b) ∷ ws) t y) (lands out (λ b. word.Number (truth b) ∷ ws)) Turns (Done b t)) (let g : pc + 1 + 1 + 1 + 1 + 1 + length (half op.Ge) ≡ pc + 1 + 1 + 1 + 1 + 1 + length cp + 1 + 1 + 1 + 1 = omega (arith, lg) in g)
        (ends.step_leads code now (op.Jump (pc + 1 + 1 + 1 + 1 + 1 + length (half op.Ge) + 1 + length (half op.Le)), line) has_s.0
        (subst (λ j. From (cfg j (word.Number (truth b) ∷ ws) t y) (lands out (λ b. word.Number (truth b) ∷ ws)) Turns (Done b t)) (let g : out ≡ pc + 1 + 1 + 1 + 1 + 1 + length (half op.Ge) + 1 + length (half op.Le) = omega (arith, whole) in g) (ends.stays code now b t y i))))))
        (λ up.
        ends.same_outcome code now (ap (λ t. run t line s) up)
        (subst (λ j. From (cfg j ws s m1) (lands out (λ b. word.Number (truth b) ∷ ws)) Turns (run false line s)) (let g : pc + 1 + 1 + 1 + 1 + 1 + length (half op.Ge) + 1 ≡ pc + 1 + 1 + 1 + 1 + 1 + suc (length (half op.Ge)) = omega arith in g)
        (ends.and_leads code now (lands (pc + 1 + 1 + 1 + 1 + 1 + length (half op.Ge) + 1 + length cp + 1 + 1 + 1 + 1) (λ b. word.Number (truth b) ∷ ws)) Turns
        (half_run op.Le (λ a b. int_le a b) (λ pc a b ws s m. refl) (pc + 1 + 1 + 1 + 1 + 1 + length (half op.Ge) + 1) ws s m1 fair sh1 has_s.1)
        (λ b t y i _. subst (λ j. From (cfg j (word.Number (truth b) ∷ ws) t y) (lands out (λ b. word.Number (truth b) ∷ ws)) Turns (Done b t)) (let g : out ≡ pc + 1 + 1 + 1 + 1 + 1 + length (half op.Ge) + 1 + length cp + 1 + 1 + 1 + 1 = omega (arith, whole, ll) in g) (ends.stays code now b t y i)))))))))

    steady_there : {B : Type 0} (q : Option B) (f : B → Spot) (s s2 : State) (spot : Spot) → go_on (some_or fault.Null q line s) (λ b t. Done (f b) t) ≡ Done spot s2 → s ≡ s2
    steady_there None f s s2 spot e = cc
    steady_there (Some b) f s s2 spot e = ap (state_in s) e
      where
        state_in : State → Outcome Spot → State
        state_in d (Done a s) = s
        state_in d (Fault k line) = d

    -- finding a variable changes nothing
    steady : (y : Target) → NameIs p k0.scope y t → (s s2 : State) (spot : Spot) → named_spot y line s ≡ Done spot s2 → s ≡ s2
    steady (target.Local k) n s s2 spot e = steady_there (local_spot_in s.frames k) (λ y. y) s s2 spot (again (local_spot_in s.frames k) ∙ e)
      where
        again : (q : Option Spot) → go_on (some_or fault.Null q line s) (λ b t. Done b t) ≡ some_or fault.Null q line s
        again None = refl
        again (Some b) = refl
    steady (target.Variable k) n s s2 spot e = steady_there (own_in s.frames) (own_part k) s s2 spot e
    steady (target.Region q) n s s2 spot e = steady_there (Some q) (λ q. in_store (record { region = q; steps = [] })) s s2 spot e
    steady (target.Method k) n s s2 spot e = steady_there (own_in s.frames) in_store s s2 spot e
    steady y n s s2 spot e = absurd n

    -- the variable is found again, and the number is stored
    store_half : (w : ℤ) (spot : Spot) (pc : ℕ) (more : List Cell) (ws : List Word) (s : State) (m : Memory) → Fits e w → named_spot x line s ≡ Done spot s → IsFair s → Turns {A = Unit {0}} tt s m → Stands code now r pc (cp ++ (does (op.Store e) line ∷ more))
        → From (cfg pc (word.Number w ∷ ws) s m) (lost {A = Unit {0}} (pc + length cp + 1) ws) Turns (write spot (number w) line s)
    store_half w spot pc more ws s m fits again fair sh has =
        let has_s = ends.back code now r pc cp _ has in
        let ck_is : keep_code plan line t ≡ does (op.Store e) line ∷ [] = ap (keep_code plan line) is in
        ends.same_outcome code now (sym (ap (λ o. go_on o (λ y. write y (number w) line)) again))
        (bind {m = named_spot x} {line = line} (lands (pc + length cp) (λ y. spot_word p base ls y ∷ (word.Number w ∷ ws))) Turns
        (runs.named_run p fine small is_there W first R code now base tables room reached k0 ks r own ar line own_there x t (free + 16) pc (temps free b1 b2 kept) (word.Number w ∷ ws) s m name fair sh (ends.front code now r pc cp _ has))
        (typing.named_obeys p fine F W first first R (enter p room) reached k0.scope (scopes ks) x t name uses) fair
        (λ y s2 m2 sh2 _ found fair2.
        keep_run (type.Elementary e) e (free + 16) (pc + length cp) line (temps free b1 b2 kept) ws y (number w) s2 m2 refl (subst (SpotIs p fine F W gs y) is found.0) (Elementary e, within_bound p (type.Elementary e) (Elementary e) (elementary_shape p e), fits) sh2 (has_s.0, tt)))

    turned : (b : Bool) → not b ≡ true → b ≡ false
    turned true q = absurd (no_truth q)
      where
        no_truth : false ≡ true → ⊥
        no_truth q = cc
    turned false q = refl

    turned' : (b : Bool) → not b ≡ false → b ≡ true
    turned' true q = refl
    turned' false q = absurd (no_truth q)
      where
        no_truth : true ≡ false → ⊥
        no_truth q = cc

    -- the step, stored on both ways
    advance_run : (ret : ℕ) → Fits e step → (pc : ℕ) (ws : List Word) (s : State) (m : Memory) → IsFair s → Turns {A = Unit {0}} tt s m → Stands code now r pc (advance_code line free e by cp)
        → From (cfg pc ws s m) (flows (record { to_exit = 1; to_continue = 0; to_return = ret }) (pc + length (advance_code line free e by cp)) ws) Turns (meaning.add_step e step (named_spot x) line s)
    advance_run ret step_fits pc ws s m fair sh has =
        let to1 : Targets = record { to_exit = 1; to_continue = 0; to_return = ret } in
        let out = pc + length (advance_code line free e by cp) in
        let has_l = ends.back code now r pc cp _ has in
        let tail = cp ++ (does (op.Store e) line ∷ []) in
        let n2 = length-append cp (does (op.Store e) line ∷ []) in
        let n1 = length-append cp (does (op.Store e) line ∷ (skips (length cp + 2) line ∷ tail)) in
        let n0 = length-append cp (does (op.Load e) line ∷ (does (op.Local (free + 8)) line ∷ (does (op.Load by) line ∷ (does (op.AddC e) line ∷ (skips_at_0 (length cp + 2) line ∷ (cp ++ (does (op.Store e) line ∷ (skips (length cp + 2) line ∷ tail)))))))) in
        bind {m = named_spot x} {line = line} (lands (pc + length cp) (λ y. spot_word p base ls y ∷ ws)) Turns
        (runs.named_run p fine small is_there W first R code now base tables room reached k0 ks r own ar line own_there x t (free + 16) pc (temps free b1 b2 kept) ws s m name fair sh (ends.front code now r pc cp _ has))
        (typing.named_obeys p fine F W first first R (enter p room) reached k0.scope (scopes ks) x t name uses) fair
        (λ spot s2 m2 sh2 done found fair2.
        let l = runs.lies p fine small is_there W first R code now base tables room reached k0 ks r own ar line own_there spot t found.0 in
        let y = load_like p base is_there now (kept_at (free + 16) (temps free b1 b2 kept)) spot e l.place m2 s2 sh2 l.is (runs.within_is p fine small is_there W first R code now base tables room reached k0 ks r own ar line own_there spot t found.0) (runs.number_shape p fine small is_there W first R code now base tables room reached k0 ks r own ar line own_there l.place.shape t e is l.meets) in
        let again : named_spot x line s2 ≡ Done spot s2 = subst (λ u. named_spot x line u ≡ Done spot s2) (steady x name s s2 spot done) done in
        let q = temps_there free b1 b2 kept s2 m2 sh2 in
        let inside = q.inside in
        let z_fits = number_fits spot y.z s2 (subst (SpotIs p fine F W gs spot) is found.0) fair2 (y.by_state line) in
        let w = wrapped e (y.z +ℤ step) in
        let w_fits : Fits e w = (let g = wrapped-wraps e (y.z +ℤ step) in g.fits) in
        let c = int_eq w (y.z +ℤ step) in
        let at = pc + length cp + 1 + 1 + 1 + 1 in
        let after : Bool → Outcome Flow = λ b. go_on (write spot (number w) line s2) (λ _ u. Done (if b then goes_on else exits) u) in
        let has_1 = has_l.1.1.1.1.1 in
        let has_2 = ends.back code now r (at + 1) cp _ has_1 in
        subst (λ (u : Option Located). From (cfg (pc + length cp) (word_at p base u ∷ ws) s2 m2) (flows to1 out ws) Turns ((read spot >>= λ v. write spot (number (wrapped e (number_in v +ℤ step))) >>= λ _. gives (if int_eq (wrapped e (number_in v +ℤ step)) (number_in v +ℤ step) then goes_on else exits)) line s2)) (sym l.is)
        (ends.step_leads code now (op.Load e, line) has_l.0
        (ends.goes_leads code now (read_bytes e m2 l.place.address) y.z _ y.by_bytes
        (ends.same_outcome code now (ap (λ o. go_on o (λ v t. (write spot (number (wrapped e (number_in v +ℤ step))) >>= λ _. gives (if int_eq (wrapped e (number_in v +ℤ step)) (number_in v +ℤ step) then goes_on else exits)) line t)) (y.by_state line))
        (ends.and_then code now (lost {A = Unit {0}} (pc + length cp + 1 + 1 + 1) (word.Number step ∷ (word.Number y.z ∷ ws))) Turns
        (temp_run by step (free + 8) (pc + length cp + 1) line b2 q.image (word.Number y.z ∷ ws) s2 m2 sh2.deep q.there_is q.second_stands long2 (omega (arith, inside, long2)) step_there sh2 (has_l.1.0, (has_l.1.1.0, tt)))
        (λ m3 sh3.
        ends.step_leads code now (op.AddC e, line) has_l.1.1.1.0
        (subst (λ u. From (cfg at (word.Number (truth (has_carry e u (wrapped e step))) ∷ (word.Number (sum e u (wrapped e step)) ∷ ws)) s2 m3) (flows to1 out ws) Turns (after c)) (sym (wrapped-fits e y.z z_fits))
        (subst (λ u. From (cfg at (word.Number (truth (has_carry e y.z u)) ∷ (word.Number (sum e y.z u) ∷ ws)) s2 m3) (flows to1 out ws) Turns (after c)) (sym (wrapped-fits e step step_fits))
        (truth_next (flows to1 out ws) Turns (after c) line ws s2 m3 (not c) (length cp + 2) at (word.Number w ∷ ws) (has_l.1.1.1.1.0, tt)
        (λ over.
        ends.same_outcome code now (ap after (turned c over))
        (ends.then_leads code now (lost (at + 1 + length cp + 1) ws) Turns (store_half w spot (at + 1) (skips (length cp + 2) line ∷ tail) ws s2 m3 w_fits again fair2 sh3 has_1)
        (λ _ u m4 sh4 _. ends.step_leads code now (op.Jump (at + 1 + length cp + 1 + 1 + (length cp + 2)), line) has_2.1.0
        (subst (λ j. From (cfg j ws u m4) (flows to1 out ws) Turns (Done exits u)) (let g : out + 1 ≡ at + 1 + length cp + 1 + 1 + (length cp + 2) = omega (arith, n0, n1, n2) in g) (ends.stays code now exits u m4 sh4)))))
        (λ plain.
        ends.same_outcome code now (ap after (turned' c plain))
        (subst (λ j. From (cfg j (word.Number w ∷ ws) s2 m3) (flows to1 out ws) Turns (after true)) (let g : at + 1 + length cp + 1 + 1 ≡ at + 1 + (length cp + 2) = omega arith in g)
        (ends.then_leads code now (lost (at + 1 + length cp + 1 + 1 + length cp + 1) ws) Turns (store_half w spot (at + 1 + length cp + 1 + 1) [] ws s2 m3 w_fits again fair2 sh3 has_2.1.1)
        (λ _ u m4 sh4 _. subst (λ j. From (cfg j ws u m4) (flows to1 out ws) Turns (Done goes_on u)) (let g : out ≡ at + 1 + length cp + 1 + 1 + length cp + 1 = omega (arith, n0, n1, n2) in g) (ends.stays code now goes_on u m4 sh4))))))))))))))
      where
        number_fits : (spot : Spot) (z : ℤ) (u : State) → SpotIs p fine F W gs spot (type.Elementary e) → IsFair u → read spot line u ≡ Done (number z) u → Fits e z
        number_fits spot z u f fair q =
            let k = told p fine small is_there W first R code now base tables {m = read spot} (typing.plain_obeys p fine F W first first R (enter p room) reached k0.scope (scopes ks) (type.Elementary e) spot tt f) fair (number z) u q in
            let n = a_number p fine small is_there W first R code now base tables (type.Elementary e) e (number z) refl k.0 in
            subst (Fits e) (sym (ap number_in n.1)) n.2

    -- the turns of FOR, where the body is known to run
    count_run : Fits e step → AllOf (changed (named_region x)) → (body : Statements Note) (targets : Targets) (cb : List Cell) (pc back_n : ℕ) (ws : List Word)
        → Typed_run (effects p (enter p room) body) Anything
        → Stands code now r pc (does op.Tick line ∷ []) → Stands code now r (pc + 1) (within_code line free e to by cp)
        → Stands code now r (pc + 1 + length (within_code line free e to by cp)) (skips_at_0 (suc (length cb + length (advance_code line free e by cp))) line ∷ [])
        → Stands code now r (pc + 1 + length (within_code line free e to by cp) + 1 + length cb) (advance_code line free e by cp)
        → Stands code now r (pc + 1 + length (within_code line free e to by cp) + 1 + (length cb + length (advance_code line free e by cp))) (returns back_n line ∷ [])
        → pc + 1 + length (within_code line free e to by cp) + 1 + (length cb + length (advance_code line free e by cp)) - back_n ≡ pc
        → ((s : State) (m : Memory) → IsFair s → Turns {A = Unit {0}} tt s m → From (cfg (pc + 1 + length (within_code line free e to by cp) + 1) ws s m)
        (flows (record { to_exit = length (advance_code line free e by cp) + 1; to_continue = 0; to_return = length (advance_code line free e by cp) + 1 + targets.to_return }) (pc + 1 + length (within_code line free e to by cp) + 1 + length cb) ws) Turns (effects p (enter p room) body line s))
        → (s : State) (m : Memory) → IsFair s → Turns {A = Unit {0}} tt s m
        → From (cfg pc ws s m) (flows targets (pc + 1 + length (within_code line free e to by cp) + 1 + (length cb + length (advance_code line free e by cp)) + 1) ws) Turns (meaning.count e (named_spot x) end step (effects p (enter p room) body) line s)
    count_run step_fits owns body targets cb pc back_n ws typed has_t has_w has_j has_a has_b back_is runs_body s m fair sh =
        loop_run {I = λ s m. Now_shown (free + 16) (temps free b1 b2 kept) s m} (named_spot x >>= λ spot. read spot >>= λ v. gives (not_passed step end (number_in v))) (effects p (enter p room) body >>= λ f. meaning.then_step f (meaning.add_step e step (named_spot x))) targets pc (length (within_code line free e to by cp)) (length cb + length (advance_code line free e by cp)) back_n line ws has_t has_j has_b back_is
        (λ s m n sh. with_ticks (free + 16) (temps free b1 b2 kept) s m n sh)
        (λ s m fair sh. within_run (pc + 1) ws s m fair sh has_w)
        (λ s m fair sh. bind {m = effects p (enter p room) body} {line = line} (flows (record { to_exit = length (advance_code line free e by cp) + 1; to_continue = 0; to_return = length (advance_code line free e by cp) + 1 + targets.to_return }) ((pc + 1 + length (within_code line free e to by cp) + 1) + length cb) ws) Turns (runs_body s m fair sh) typed fair (λ f t y i _ _ fair'. behind_body f t y i fair'))
        test_typed body_typed (λ s. test_falls.by line s) (λ s. body_falls.by line s) s.ticks s m (le_refl s.ticks) fair sh
      where
        plain_kind : IsNoInstance t
        plain_kind = subst IsNoInstance (sym is) tt

        test_falls : Falls (named_spot x >>= λ spot. read spot >>= λ v. gives (not_passed step end (number_in v)))
        test_falls = then_falls (named_spot x) (λ spot. read spot >>= λ v. gives (not_passed step end (number_in v))) (named_falls x) (λ spot. then_falls (read spot) (λ v. gives (not_passed step end (number_in v))) (read_falls spot) (λ v. gives_falls (not_passed step end (number_in v))))

        write_flow : ℤ → Flow
        write_flow z = if int_eq (wrapped e (z +ℤ step)) (z +ℤ step) then goes_on else exits

        step_falls : Falls (meaning.add_step e step (named_spot x))
        step_falls = then_falls (named_spot x) _ (named_falls x) (λ spot. then_falls (read spot) _ (read_falls spot) (λ v. then_falls (write spot (number (wrapped e (number_in v +ℤ step)))) _ (write_falls spot (number (wrapped e (number_in v +ℤ step)))) (λ _. gives_falls (write_flow (number_in v)))))

        body_falls : Falls (effects p (enter p room) body >>= λ f. meaning.then_step f (meaning.add_step e step (named_spot x)))
        body_falls = then_falls (effects p (enter p room) body) (λ f. meaning.then_step f (meaning.add_step e step (named_spot x))) (record { by = λ line s. ticks_fall.statements p room body line s }) next_falls
          where
            next_falls : (f : Flow) → Falls (meaning.then_step f (meaning.add_step e step (named_spot x)))
            next_falls goes_on = step_falls
            next_falls continues = step_falls
            next_falls exits = gives_falls exits
            next_falls leaves = gives_falls leaves

        test_typed : Typed_run (named_spot x >>= λ spot. read spot >>= λ v. gives (not_passed step end (number_in v))) Anything
        test_typed =
            then_obeys p fine F W first first (typing.named_obeys p fine F W first first R (enter p room) reached k0.scope (scopes ks) x t name uses) (λ spot g.
            then_obeys p fine F W first first (typing.plain_obeys p fine F W first first R (enter p room) reached k0.scope (scopes ks) t spot plain_kind g.0) (λ v _. gives_obeys p fine F W first first tt))

        step_typed : Typed_run (meaning.add_step e step (named_spot x)) Anything
        step_typed =
            then_obeys p fine F W first first (typing.named_obeys p fine F W first first R (enter p room) reached k0.scope (scopes ks) x t name uses) (λ spot g.
            then_obeys p fine F W first first (typing.plain_obeys p fine F W first first R (enter p room) reached k0.scope (scopes ks) t spot plain_kind g.0) (λ v _.
            then_obeys p fine F W first first (typing.write_plain p fine F W first first R (enter p room) reached k0.scope (scopes ks) t spot (number (wrapped e (number_in v +ℤ step))) plain_kind g.0 (g.1 owns)
            (subst (λ u. OfKind p F u (number (wrapped e (number_in v +ℤ step)))) (sym is) (Elementary e, within_bound p (type.Elementary e) (Elementary e) (elementary_shape p e), (let w = wrapped-wraps e (number_in v +ℤ step) in w.fits)))) (λ _ _. gives_obeys p fine F W first first tt)))

        body_typed : Typed_run (effects p (enter p room) body >>= λ f. meaning.then_step f (meaning.add_step e step (named_spot x))) Anything
        body_typed = then_obeys p fine F W first first typed (λ f _. next f)
          where
            next : (f : Flow) → Typed_run (meaning.then_step f (meaning.add_step e step (named_spot x))) Anything
            next goes_on = step_typed
            next continues = step_typed
            next exits = gives_obeys p fine F W first first tt
            next leaves = gives_obeys p fine F W first first tt

        stepped : (t : State) (y : Memory) → Turns {A = Unit {0}} tt t y → IsFair t → From (cfg ((pc + 1 + length (within_code line free e to by cp) + 1) + length cb) ws t y) (flows (record { to_exit = 1; to_continue = 0; to_return = 1 + targets.to_return }) ((pc + 1 + length (within_code line free e to by cp) + 1) + (length cb + length (advance_code line free e by cp))) ws) Turns (meaning.add_step e step (named_spot x) line t)
        stepped t y i fair = flows_at (record { to_exit = 1; to_continue = 0; to_return = 1 + targets.to_return }) ((pc + 1 + length (within_code line free e to by cp) + 1) + length cb + length (advance_code line free e by cp)) ((pc + 1 + length (within_code line free e to by cp) + 1) + (length cb + length (advance_code line free e by cp))) (omega arith) (advance_run (1 + targets.to_return) step_fits ((pc + 1 + length (within_code line free e to by cp) + 1) + length cb) ws t y fair i has_a)

        behind_body : (f : Flow) (t : State) (y : Memory) → Turns {A = Unit {0}} tt t y → IsFair t → From (flows (record { to_exit = length (advance_code line free e by cp) + 1; to_continue = 0; to_return = length (advance_code line free e by cp) + 1 + targets.to_return }) ((pc + 1 + length (within_code line free e to by cp) + 1) + length cb) ws f t y) (flows (record { to_exit = 1; to_continue = 0; to_return = 1 + targets.to_return }) ((pc + 1 + length (within_code line free e to by cp) + 1) + (length cb + length (advance_code line free e by cp))) ws) Turns (meaning.then_step f (meaning.add_step e step (named_spot x)) line t)
        behind_body goes_on t y i fair = stepped t y i fair
        behind_body continues t y i fair = subst (λ j. From (cfg j ws t y) (flows (record { to_exit = 1; to_continue = 0; to_return = 1 + targets.to_return }) ((pc + 1 + length (within_code line free e to by cp) + 1) + (length cb + length (advance_code line free e by cp))) ws) Turns (meaning.add_step e step (named_spot x) line t)) (omega arith) (stepped t y i fair)
        behind_body exits t y i fair = subst (λ j. From (cfg j ws t y) (flows (record { to_exit = 1; to_continue = 0; to_return = 1 + targets.to_return }) ((pc + 1 + length (within_code line free e to by cp) + 1) + (length cb + length (advance_code line free e by cp))) ws) Turns (Done exits t)) (omega arith) (ends.stays code now exits t y i)
        behind_body leaves t y i fair = subst (λ j. From (cfg j ws t y) (flows (record { to_exit = 1; to_continue = 0; to_return = 1 + targets.to_return }) ((pc + 1 + length (within_code line free e to by cp) + 1) + (length cb + length (advance_code line free e by cp))) ws) Turns (Done leaves t)) (omega arith) (ends.stays code now leaves t y i)

  -- ---- a whole array from one region to another: both addresses are on the operands
  copied_run : (n free pc line : ℕ) (kept : List Kept) (ws : List Word) (q q' : Path) (l l' : Located) (s : State) (m : Memory) → n ≡ store.size l.shape → located p base ls (in_store q) ≡ Some l → located p base ls (in_store q') ≡ Some l' → is_there q.region ≡ true → is_there q'.region ≡ true → l.shape ≡ l'.shape
      → Now_shown free kept s m → Stands code now r pc (does (op.Copy n) line ∷ [])
      → From (cfg pc (spot_word p base ls (in_store q') ∷ (spot_word p base ls (in_store q) ∷ ws)) s m) (lost {A = Unit {0}} (pc + 1) ws) (Shows free kept) ((read (in_store q) >>= λ v. write (in_store q') v) line s)
  copied_run n free pc line kept ws q q' l l' s m size_is at at' w w' same sh has =
      let x = copy_like p base is_there now (kept_at free kept) q q' l l' m s sh at at' w w' same in
      subst (λ (y : Option Located). From (cfg pc (word_at p base y ∷ (spot_word p base ls (in_store q) ∷ ws)) s m) (lost {A = Unit {0}} (pc + 1) ws) (Shows free kept) ((read (in_store q) >>= λ v. write (in_store q') v) line s)) (sym at')
      (subst (λ (y : Option Located). From (cfg pc (word.Address l'.address ∷ (word_at p base y ∷ ws)) s m) (lost {A = Unit {0}} (pc + 1) ws) (Shows free kept) ((read (in_store q) >>= λ v. write (in_store q') v) line s)) (sym at)
      (ends.same_outcome code now (ap (λ o. go_on o (λ v. write (in_store q') v line)) (x.reads line) ∙ x.writes line)
      (ends.step_leads code now (op.Copy n, line) has.0
      (ends.goes_leads code now (copy_bytes n m l.address l'.address) x.memory _ (ap (λ k. copy_bytes k m l.address l'.address) size_is ∙ x.by_bytes)
      (subst (λ k. Leads code now (Goes (record { here = record { routine = r; next = pc + 1; own = own }; words = ws; around = ar; memory = x.memory; ticks = k })) (lost {A = Unit {0}} (pc + 1) ws) (Shows free kept) (Done tt x.state)) x.same_ticks
      (ends.stays code now tt x.state x.memory x.shows))))))

  -- ---- FOR's step

  record Stepped (t : StType) (e : Elem) (free : ℕ) (kept : List Kept) (z : ℤ) (s : State) (m : Memory) : Type 0 where
    shown : Now_shown free kept s m
    fits : Fits (elem_of t) z
    kept_fits : Fits e z

  step_run : (by : Option (Expression Note)) (t : StType) (free pc line : ℕ) (kept : List Kept) (ws : List Word) (s : State) (m : Memory) → StepIs p k0.scope by t → IsElementary t → AllOf (step_uses p by) → step_top plan free by ≤ k0.long → IsFair s → Now_shown free kept s m → Stands code now r pc (step_code plan line free by)
      → From (cfg pc ws s m) (lands (pc + length (step_code plan line free by)) (λ z. word.Number z ∷ ws)) (Stepped t (step_kind t by) free kept) (meaning.step_value p (enter p room) by line s)
  step_run None t free pc line kept ws s m h i u top fair sh has =
      let one = bit_fits (elem_of t) 1 (omega arith) in
      ends.step_leads code now (op.Push (pos 1), line) has.0 (ends.stays code now (pos 1) s m (record { shown = sh; fits = one; kept_fits = one }))
  step_run (Some e) t free pc line kept ws s m h i u top fair sh has =
      let ce = value_code plan line free e in
      let j = widens_elementary (kind e) t i.0 h.1 i.1 in
      let at = pc + length ce in
      subst (λ n. From (cfg pc ws s m) (lands n (λ z. word.Number z ∷ ws)) (Stepped t (number_kind (kind e)) free kept) (meaning.step_value p (enter p room) (Some e) line s)) (omega (arith, length-append ce (does op.NoZero line ∷ [])))
      (bind {m = value p (enter p room) e} {line = line} (lands at (λ v. value_word p base (here_at free) v ∷ ws)) (Shows free kept)
      (runs.plain_runs p fine small is_there W first R code now base tables room reached k0 ks r own ar line own_there (other_calls line) e free pc kept ws s m (ap is_large j.1) top h.0 u fair sh (ends.front code now r pc ce _ has))
      (typing.value_obeys p fine F W first first R (enter p room) reached k0.scope (scopes ks) e h.0 u) fair
      (λ v t1 x i1 _ is1 fair1.
      let z = a_number p fine small is_there W first R code now base tables (kind e) j.0 v j.1 is1 in
      let w = a_number p fine small is_there W first R code now base tables t i.0 v i.1 (widened p F (kind e) t v h.1 is1) in
      let same : w.0 ≡ z.0 = ap number_in (sym w.1 ∙ z.1) in
      let fits : Fits (elem_of t) z.0 = subst (λ k. Fits k z.0) (sym (ap elem_of i.1)) (subst (Fits i.0) same w.2) in
      let kept_fits : Fits (number_kind (kind e)) z.0 = subst (λ k. Fits k z.0) (sym (ap number_kind j.1)) z.2 in
      subst (λ y. From (cfg at (value_word p base (here_at free) y ∷ ws) t1 x) (lands (at + 1) (λ z. word.Number z ∷ ws)) (Stepped t (number_kind (kind e)) free kept) (meaning.no_zero (number_in y) line t1)) (sym z.1)
      (ends.step_leads code now (op.NoZero, line) (ends.back code now r pc ce _ has).0 (by z.0 at t1 x (record { shown = i1; fits = fits; kept_fits = kept_fits })))))
    where
      by : (z : ℤ) (at : ℕ) (t1 : State) (x : Memory) → Stepped t (number_kind (kind e)) free kept z t1 x → Leads code now (act code now op.NoZero line (cfg at (word.Number z ∷ ws) t1 x)) (lands (at + 1) (λ z. word.Number z ∷ ws)) (Stepped t (number_kind (kind e)) free kept) (meaning.no_zero z line t1)
      by (pos zero) at t1 x k = ends.faults_leads code now refl
      by (pos (suc n)) at t1 x k = goes (pos (suc n)) (not_zero (pos (suc n)) (λ e. cc))
        where
          goes : (z : ℤ) → int_eq z (pos 0) ≡ false → Leads code now (act code now op.NoZero line (cfg at (word.Number (pos (suc n)) ∷ ws) t1 x)) (lands (at + 1) (λ z. word.Number z ∷ ws)) (Stepped t (number_kind (kind e)) free kept) (Done (pos (suc n)) t1)
          goes z q = ends.same_start code now (ap (λ b. (if b then faults fault.Step line else Goes (pos (suc n))) >>=step λ w. on (cfg at (word.Number (pos (suc n)) ∷ ws) t1 x) (word.Number w ∷ ws)) (not_zero (pos (suc n)) (λ e. cc))) (ends.stays code now (pos (suc n)) t1 x k)
      by (negsuc n) at t1 x k =
          ends.same_start code now (ap (λ b. (if b then faults fault.Step line else Goes (negsuc n)) >>=step λ w. on (cfg at (word.Number (negsuc n) ∷ ws) t1 x) (word.Number w ∷ ws)) (not_zero (negsuc n) (λ e. cc))) (ends.stays code now (negsuc n) t1 x k)

  -- ---- REPEAT

  -- a jump back that a number decides
  back_run : {A : Type 0} {after : A → State → Memory → Config} {shown : A → State → Memory → Type 0} (z : ℤ) (n pc line : ℕ) (ws : List Word) (s : State) (m : Memory) (first_run second_run : Run A) → Stands code now r pc (returns_at_0 n line ∷ [])
      → From (cfg (pc + 1) ws s m) after shown (first_run line s) → From (cfg (pc - n) ws s m) after shown (second_run line s) → From (cfg pc (word.Number z ∷ ws) s m) after shown ((if is_true (number z) then first_run else second_run) line s)
  back_run {after = after} {shown = shown} z n pc line ws s m first_run second_run has h k = ends.step_leads code now (op.JumpF (pc - n), line) has.0 (by z)
    where
      by : (z : ℤ) → Leads code now (act code now (op.JumpF (pc - n)) line (cfg pc (word.Number z ∷ ws) s m)) after shown ((if is_true (number z) then first_run else second_run) line s)
      by (pos zero) = k
      by (pos (suc j)) = ends.same_start code now (ap (λ b. if b then jumps (cfg pc (word.Number (pos (suc j)) ∷ ws) s m) (pc - n) ws else on (cfg pc (word.Number (pos (suc j)) ∷ ws) s m) ws) (not_zero (pos (suc j)) (λ e. cc))) h
      by (negsuc j) = ends.same_start code now (ap (λ b. if b then jumps (cfg pc (word.Number (negsuc j) ∷ ws) s m) (pc - n) ws else on (cfg pc (word.Number (negsuc j) ∷ ws) s m) ws) (not_zero (negsuc j) (λ e. cc))) h

  module _ (body : Statements Note) (e : Expression Note) (to : Targets) (free pc n back_n line : ℕ) (kept : List Kept) (ws : List Word) (top : value_top plan free e ≤ k0.long) (h : ConditionIs p k0.scope e) (u : AllOf (expression_uses p e)) (typed : Typed_run (effects p (enter p room) body) Anything)
      (has_t : Stands code now r (pc + n) (does op.Tick line ∷ [])) (has_e : Stands code now r (pc + n + 1) (value_code plan line free e)) (has_b : Stands code now r (pc + n + 1 + length (value_code plan line free e)) (returns_at_0 back_n line ∷ [])) (back_is : pc + n + 1 + length (value_code plan line free e) - back_n ≡ pc)
      (runs_body : (s : State) (m : Memory) → IsFair s → Now_shown free kept s m → From (cfg pc ws s m) (flows (record { to_exit = 1 + length (value_code plan line free e) + 1; to_continue = 0; to_return = 1 + length (value_code plan line free e) + 1 + to.to_return }) (pc + n) ws) (Shows free kept) (effects p (enter p room) body line s)) where
    abbrev ce : List Cell
    ce = value_code plan line free e

    abbrev until_end : ℕ
    until_end = pc + n + 1 + length ce + 1

    abbrev test_is : Run Bool
    test_is = value p (enter p room) e >>= λ v. gives (is_true v)

    -- the test behind the body
    tested_run : (again : Run Flow) (s : State) (m : Memory) → IsFair s → Now_shown free kept s m → ((t : State) (y : Memory) → IsFair t → Now_shown free kept t y → suc t.ticks ≤ s.ticks → From (cfg pc ws t y) (flows to until_end ws) (Shows free kept) (again line t))
        → From (cfg (pc + n) ws s m) (flows to until_end ws) (Shows free kept) ((spend >>= λ _. test_is >>= λ b. if b then gives goes_on else again) line s)
    tested_run again s m fair sh k =
        bind {m = spend} {line = line} (lost (pc + n + 1) ws) (Shows free kept) (tick_run free (pc + n) line kept ws s m sh has_t) (spend_obeys p fine F W first first) fair (λ _ s1 m1 sh1 done1 _ fair1.
        ends.same_outcome code now (go_on_again (value p (enter p room) e line s1) (λ v t. Done (is_true v) t) (λ b t. (if b then gives goes_on else again) line t))
        (bind {m = value p (enter p room) e} {line = line} (lands (pc + n + 1 + length ce) (λ v. value_word p base (here_at free) v ∷ ws)) (Shows free kept)
        (runs.plain_runs p fine small is_there W first R code now base tables room reached k0 ks r own ar line own_there (other_calls line) e free (pc + n + 1) kept ws s1 m1 (ap is_large h.1) top h.0 u fair1 sh1 has_e)
        (typing.value_obeys p fine F W first first R (enter p room) reached k0.scope (scopes ks) e h.0 u) fair1
        (λ v s2 m2 sh2 done2 is2 fair2.
        let z = a_number p fine small is_there W first R code now base tables (kind e) elem.Bool v h.1 is2 in
        let a = spent line s.ticks s s1 done1 in
        let b = no_more s1.ticks (value p (enter p room) e line s1) v s2 (ticks_fall.values p room e line s1) done2 in
        subst (λ y. From (cfg (pc + n + 1 + length ce) (value_word p base (here_at free) y ∷ ws) s2 m2) (flows to until_end ws) (Shows free kept) ((if is_true y then gives goes_on else again) line s2)) (sym z.1)
        (back_run z.0 back_n (pc + n + 1 + length ce) line ws s2 m2 (gives goes_on) again has_b (ends.stays code now goes_on s2 m2 sh2)
        (subst (λ j. From (cfg j ws s2 m2) (flows to until_end ws) (Shows free kept) (again line s2)) (sym back_is) (k s2 m2 fair2 sh2 (omega (arith, a, b))))))))

    until_run : (left : ℕ) (s : State) (m : Memory) → suc s.ticks ≤ left → IsFair s → Now_shown free kept s m → From (cfg pc ws s m) (flows to until_end ws) (Shows free kept) (turns_until left (effects p (enter p room) body) test_is line s)
    until_run zero s m le fair sh = absurd (omega (arith, le))
    until_run (suc left) s m le fair sh =
        let inner : Targets = record { to_exit = 1 + length ce + 1; to_continue = 0; to_return = 1 + length ce + 1 + to.to_return } in
        bind {m = effects p (enter p room) body} {line = line} (flows inner (pc + n) ws) (Shows free kept) (runs_body s m fair sh) typed fair (λ f s1 m1 sh1 done1 _ fair1.
        let a = no_more s.ticks (effects p (enter p room) body line s) f s1 (ticks_fall.statements p room body line s) done1 in
        after f s1 m1 sh1 (tested_run (turns_until left (effects p (enter p room) body) test_is) s1 m1 fair1 sh1 (λ t y fair2 sh2 less. until_run left t y (omega (arith, le, a, less)) fair2 sh2)))
      where
        after : (f : Flow) (t : State) (y : Memory) → Now_shown free kept t y → From (cfg (pc + n) ws t y) (flows to until_end ws) (Shows free kept) ((spend >>= λ _. test_is >>= λ b. if b then gives goes_on else turns_until left (effects p (enter p room) body) test_is) line t)
            → From (flows (record { to_exit = 1 + length ce + 1; to_continue = 0; to_return = 1 + length ce + 1 + to.to_return }) (pc + n) ws f t y) (flows to until_end ws) (Shows free kept) (after_turn f (spend >>= λ _. test_is >>= λ b. if b then gives goes_on else turns_until left (effects p (enter p room) body) test_is) line t)
        after goes_on t y i k = k
        after continues t y i k = subst (λ j. From (cfg j ws t y) (flows to until_end ws) (Shows free kept) ((spend >>= λ _. test_is >>= λ b. if b then gives goes_on else turns_until left (effects p (enter p room) body) test_is) line t)) (omega arith) k
        after exits t y i k = subst (λ j. From (cfg j ws t y) (flows to until_end ws) (Shows free kept) (Done goes_on t)) (omega arith) (ends.stays code now goes_on t y i)
        after leaves t y i k = subst (λ j. From (cfg j ws t y) (flows to until_end ws) (Shows free kept) (Done leaves t)) (omega arith) (ends.stays code now leaves t y i)

  -- ---- calls

  -- any call that is no conversion
  abbrev pub Call_runs : Type 0
  Call_runs = (line : ℕ) (a : Note) (q : Root Note) (ss : Selectors Note) (xs : Xs Note) (to : Targets) (free pc around_line : ℕ) (kept : List Kept) (ws : List Word) (s : State) (m : Memory)
      → is_conversion (callee_of q ss) ≡ false → effect_top plan free (effect.Call line a q ss xs) ≤ k0.long → StatementIs p k0.scope (effect.Call line a q ss xs) → AllOf (statement_uses p (effect.Call line a q ss xs)) → IsFair s → Now_shown free kept s m → Stands code now r pc (effect_code plan to free (effect.Call line a q ss xs))
      → From (cfg pc ws s m) (flows to (pc + length (effect_code plan to free (effect.Call line a q ss xs))) ws) (Shows free kept) (meaning.effect p (enter p room) (effect.Call line a q ss xs) around_line s)

  -- ---- ?=

  module _ (targets_are : (c : ℕ) (t : StType) → IsNamed p t → machine.conforms code c (tables.conversion_target t) ≡ conforms p c t) where
    -- what the instance conforms to, else NULL
    try_run : (t u : StType) (o : Option Path) (free pc line : ℕ) (kept : List Kept) (ws : List Word) (s : State) (m : Memory) → IsNamed p t → Held p u o → ((q : Path) → o ≡ Some q → is_there q.region ≡ true) → Now_shown free kept s m → Stands code now r pc (does (op.Try (tables.conversion_target t)) line ∷ []) → (a : Address)
        → From (cfg pc (path_word p base o ∷ ws) s m) (lands (pc + 1) (λ v. value_word p base a v ∷ ws)) (Shows free kept) (attempted p (enter p room) t o line s)
    try_run t u None free pc line kept ws s m named h near sh has a = ends.step_leads code now (op.Try (tables.conversion_target t), line) has.0 (ends.stays code now (reference None) s m sh)
    try_run t u (Some q) free pc line kept ws s m named h near sh has a =
        let x = instance_at p base is_there now q h.class h.name h.fields h.there in
        let k = instance_is p fine.regions q x.class x.name x.fields (placed_shape x) in
        let numbered : class_number p x.name ≡ Some x.class = ap (class_number p) k.2 ∙ fine.numbered x.class k.0 k.1 in
        let l : Located = record { address = record { space = Regions; index = q.region; offset = x.offset }; shape = Instance x.class x.name x.fields } in
        let c = class_like p base is_there now (enter p room) (kept_at free kept) q l x.class x.name x.fields m s sh x.is (near q refl) refl numbered in
        let answer : Bool → Option Path = λ b. if b then Some q else None in
        ends.same_outcome code now (ap (λ o. go_on o (λ c t1. Done (reference (if conforms p c t then Some q else None)) t1)) (c.1 line))
        (subst (λ w. From (cfg pc (w ∷ ws) s m) (lands (pc + 1) (λ v. value_word p base a v ∷ ws)) (Shows free kept) (Done (reference (answer (conforms p x.class t))) s)) (sym (ap (word_at p base) x.is))
        (ends.step_leads code now (op.Try (tables.conversion_target t), line) has.0
        (ends.same_start code now (ap (λ y. (y >>=step λ class. Goes (if machine.conforms code class (tables.conversion_target t) then word.Address l.address else word.Null)) >>=step λ w. on (cfg pc (word.Address l.address ∷ ws) s m) (w ∷ ws)) c.0
        ∙ ap (λ b. on (cfg pc (word.Address l.address ∷ ws) s m) ((if b then word.Address l.address else word.Null) ∷ ws)) (targets_are x.class t named))
        (by (conforms p x.class t) x))))
      where
        placed_shape : (x : InstanceAt p base is_there now q) → path_shape p q ≡ Some (Instance x.class x.name x.fields)
        placed_shape x =
            let b = then_some (region_shape p q.region) _ _ x.place in
            ap (λ o. o >>? λ sh. shape_at sh q.steps) b.1 ∙ place_laws.leads b.0 q.steps (record { offset = x.offset; shape = Instance x.class x.name x.fields }) b.2

        by : (b : Bool) (x : InstanceAt p base is_there now q) → Leads code now (on (cfg pc (word.Address (record { space = Regions; index = q.region; offset = x.offset }) ∷ ws) s m) ((if b then word.Address (record { space = Regions; index = q.region; offset = x.offset }) else word.Null) ∷ ws)) (lands (pc + 1) (λ v. value_word p base a v ∷ ws)) (Shows free kept) (Done (reference (if b then Some q else None)) s)
        by true x = subst (λ w. From (cfg (pc + 1) (w ∷ ws) s m) (lands (pc + 1) (λ v. value_word p base a v ∷ ws)) (Shows free kept) (Done (reference (Some q)) s)) (ap (word_at p base) x.is) (ends.stays code now (reference (Some q)) s m sh)
        by false x = ends.stays code now (reference None) s m sh

    -- the reference is kept where it was tried
    attempt_run : (line : ℕ) (a : Note) (q : Root Note) (ss : Selectors Note) (e : Expression Note) (free pc : ℕ) (kept : List Kept) (ws : List Word) (s : State) (m : Memory) → effect_top plan free (Attempt line a q ss e) ≤ k0.long → StatementIs p k0.scope (Attempt line a q ss e) → AllOf (statement_uses p (Attempt line a q ss e)) → IsFair s → Now_shown free kept s m
        → Stands code now r pc (value_code plan line free e ++ (does (op.Try (tables.conversion_target a.kind)) line ∷ (place_code plan line free q ss ++ does op.StoreRef line ∷ [])))
        → From (cfg pc ws s m) (lost {A = Unit {0}} (pc + length (value_code plan line free e) + 1 + length (place_code plan line free q ss) + 1) ws) (Shows free kept) ((value p (enter p room) e >>= λ v. attempted p (enter p room) a.kind (path_in v) >>= λ w. place p (enter p room) q ss >>= λ spot. write spot w) line s)
    attempt_run line a q ss e free pc kept ws s m top h u fair sh has =
        let ce = value_code plan line free e in
        let cp = place_code plan line free q ss in
        let tops = both_fit (value_top plan free e) (along_top plan free ss) k0.long top in
        let own_u = typing.back _ (tried p (kind e)) _ u in
        let rest_u = typing.back _ (owner_uses q ss) _ own_u in
        let up = typing.front _ (root_uses q ++ along_uses p (root_note q).kind ss) _ rest_u in
        let ue = typing.back _ (root_uses q ++ along_uses p (root_note q).kind ss) _ rest_u in
        let ut = typing.front _ (tried p (kind e)) _ u in
        let at = pc + length ce in
        let has_t = ends.back code now r pc ce _ has in
        bind {m = value p (enter p room) e} {line = line} (lands at (λ v. value_word p base (here_at free) v ∷ ws)) (Shows free kept)
        (runs.plain_runs p fine small is_there W first R code now base tables room reached k0 ks r own ar line own_there (other_calls line) e free pc kept ws s m (path_small (kind e) h.3) tops.0 h.2 ue fair sh (ends.front code now r pc ce _ has)) (typing.value_obeys p fine F W first first R (enter p room) reached k0.scope (scopes ks) e h.2 ue) fair (λ v s1 m1 sh1 _ is1 fair1.
        let o = path_is p F (kind e) v h.3 is1 in
        let near : (x : Path) → o.0 ≡ Some x → is_there x.region ≡ true = λ x y. region_near p fine F W first first R (enter p room) reached k0.scope (scopes ks) (kind e) v x h.3 is1 ut (ap path_in o.1 ∙ y) (held_names (kind e) o.0 o.2 x y) in
        bind {m = attempted p (enter p room) a.kind (path_in v)} {line = line} (lands (at + 1) (λ v. value_word p base (here_at free) v ∷ ws)) (Shows free kept)
        (subst (λ y. From (cfg at (value_word p base (here_at free) y ∷ ws) s1 m1) (lands (at + 1) (λ v. value_word p base (here_at free) v ∷ ws)) (Shows free kept) (attempted p (enter p room) a.kind (path_in y) line s1)) (sym o.1)
        (try_run a.kind (kind e) o.0 free at line kept ws s1 m1 h.4 o.2 near sh1 (has_t.0, tt) (here_at free)))
        (attempted_obeys p fine F W first first R (enter p room) reached k0.scope (scopes ks) a.kind (kind e) v h.1 h.3 is1 ut) fair1 (λ w s2 m2 sh2 _ is2 fair2.
        bind {m = place p (enter p room) q ss} {line = line} (lands (at + 1 + length cp) (λ y. spot_word p base ls y ∷ (value_word p base (here_at free) w ∷ ws))) (Shows free kept)
        (runs.place_run p fine small is_there W first R code now base tables room reached k0 ks r own ar line own_there (other_calls line) q ss free (at + 1) kept (value_word p base (here_at free) w ∷ ws) s2 m2 tops.1 h.0.0 h.0.1 up fair2 sh2 (ends.front code now r (at + 1) cp _ has_t.1))
        (runs.place_typed p fine small is_there W first R code now base tables room reached k0 ks r own ar line own_there q ss a.kind h.0.0 h.0.1 h.0.2 up) fair2 (λ spot s3 m3 sh3 _ is3 fair3.
        let y = path_is p F a.kind w (held_path a.kind h.1) is2 in
        subst (λ z. From (cfg (at + 1 + length cp) (spot_word p base ls spot ∷ (value_word p base (here_at free) z ∷ ws)) s3 m3) (lost {A = Unit {0}} (at + 1 + length cp + 1) ws) (Shows free kept) (write spot z line s3)) (sym y.1)
        (stores.reference_stored p fine small is_there W first R code now base tables room reached k0 ks r own ar own_there a.kind y.0 free (at + 1 + length cp) line kept ws spot s3 m3 h.1 (instances p base is_there now a.kind y.0 y.2) is3 sh3 (ends.back code now r (at + 1) cp _ has_t.1)))))
      where
        held_names : (t : StType) (o : Option Path) → Held p t o → (x : Path) → o ≡ Some x → Names p x t
        held_names t None k x y = absurd (none y)
          where
            none : {x : Path} → None ≡ Some x → ⊥
            none y = cc
        held_names t (Some z) k x y = let d : z ≡ x = cc in subst (λ w. Names p w t) d k

    -- ---- FOR

    for_run : (line : ℕ) (a : Note) (name : List ℕ) (from end : Expression Note) (by : Option (Expression Note)) (body : Statements Note) (to : Targets) (free pc : ℕ) (kept : List Kept) (ws : List Word) (s : State) (m : Memory) → effect_top plan free (For line a name from end by body) ≤ k0.long → StatementIs p k0.scope (For line a name from end by body) → AllOf (statement_uses p (For line a name from end by body)) → IsFair s → Now_shown free kept s m
        → Stands code now r pc (effect_code plan to free (For line a name from end by body))
        → ((to : Targets) (at : ℕ) (bs : List Kept) (s : State) (m : Memory) → IsFair s → Now_shown (free + 16) bs s m → effects_top plan (free + 16) body ≤ k0.long → AllOf (body_uses p body) → Stands code now r at (effects_code plan to (free + 16) body) → From (cfg at ws s m) (flows to (at + length (effects_code plan to (free + 16) body)) ws) (Shows (free + 16) bs) (effects p (enter p room) body line s))
        → From (cfg pc ws s m) (flows to (pc + length (effect_code plan to free (For line a name from end by body))) ws) (Shows free kept) (meaning.effect p (enter p room) (For line a name from end by body) line s)
    for_run line a name from end by body to free pc kept ws s m top h u fair sh has runs_body =
        let e = elem_of a.kind in
        let ek = number_kind (kind end) in
        let sk = step_kind a.kind by in
        let is : a.kind ≡ type.Elementary e = h.1.1 ∙ ap type.Elementary (sym (ap elem_of h.1.1)) in
        let cp = named_code plan line a.target in
        let cfrom = value_code plan line free from in
        let cend = value_code plan line free end in
        let cstep = step_code plan line (free + 8) by in
        let ca = advance_code line free e sk cp in
        let inner : Targets = record { to_exit = length ca + 1; to_continue = 0; to_return = length ca + 1 + to.to_return } in
        let cb = effects_code plan inner (free + 16) body in
        let ct = within_code line free e ek sk cp in
        let back_n = 1 + length ct + 1 + length cb + length ca in
        let c9 = returns back_n line ∷ [] in
        let c8 = ca ++ c9 in
        let c7 = cb ++ c8 in
        let c6 = ct ++ (skips_at_0 (length cb + length ca + 1) line ∷ c7) in
        let c5 = cp ++ (does (op.Store e) line ∷ (does op.Tick line ∷ c6)) in
        let c4 = cstep ++ (does (op.Local (free + 8)) line ∷ (does (op.Store sk) line ∷ c5)) in
        let c3 = cend ++ (does (op.Local free) line ∷ (does (op.Store ek) line ∷ c4)) in
        let n1 = length-append cfrom c3 in
        let n2 = length-append cend (does (op.Local free) line ∷ (does (op.Store ek) line ∷ c4)) in
        let n3 = length-append cstep (does (op.Local (free + 8)) line ∷ (does (op.Store sk) line ∷ c5)) in
        let n4 = length-append cp (does (op.Store e) line ∷ (does op.Tick line ∷ c6)) in
        let n5 = length-append ct (skips_at_0 (length cb + length ca + 1) line ∷ c7) in
        let n6 = length-append cb c8 in
        let n7 = length-append ca c9 in
        let t1 = both_fit (value_top plan free from) _ k0.long top in
        let t2 = both_fit (value_top plan free end) _ k0.long t1.1 in
        let t3 = both_fit (step_top plan (free + 8) by) _ k0.long t2.1 in
        let t4 = both_fit (free + 16) (effects_top plan (free + 16) body) k0.long t3.1 in
        let room16 = t4.0 in
        let owns = typing.front _ (changed (named_region a.target)) _ u in
        let u1 = typing.back _ (changed (named_region a.target)) _ u in
        let un = typing.front _ (name_uses a.target) _ u1 in
        let u2 = typing.back _ (name_uses a.target) _ u1 in
        let uf = typing.front _ (expression_uses p from) _ u2 in
        let u3 = typing.back _ (expression_uses p from) _ u2 in
        let ue = typing.front _ (expression_uses p end) _ u3 in
        let u4 = typing.back _ (expression_uses p end) _ u3 in
        let us = typing.front _ (step_uses p by) _ u4 in
        let ub = typing.back _ (step_uses p by) _ u4 in
        let kfrom = widens_elementary (kind from) a.kind e h.3 is in
        let kend = widens_elementary (kind end) a.kind e h.5 is in
        let is_end : kind end ≡ type.Elementary ek = kend.1 ∙ ap type.Elementary (sym (ap number_kind kend.1)) in
        let at1 = pc + 1 + length cfrom in
        let at2 = at1 + length cend in
        let at3 = at2 + 1 + 1 in
        let at4 = at3 + length cstep in
        let at5 = at4 + 1 + 1 in
        let at6 = at5 + length cp + 1 in
        let has3 = ends.back code now r (pc + 1) cfrom c3 has.1 in
        let has_k = ends.back code now r at1 cend _ has3 in
        let has_l = ends.back code now r at3 cstep _ has_k.1.1 in
        let has_s = ends.back code now r at5 cp _ has_l.1.1 in
        let has_w = has_s.1.1 in
        let has_j = ends.back code now r (at6 + 1) ct _ has_w in
        let has_c = ends.back code now r (at6 + 1 + length ct + 1) cb c8 has_j.1 in
        let has_r = ends.back code now r (at6 + 1 + length ct + 1 + length cb) ca c9 has_c in
        let out = at6 + 1 + length ct + 1 + (length cb + length ca) + 1 in
        let rest : ℤ → ℤ → ℤ → State → Outcome Flow = λ z1 z2 z3 t. (named_spot a.target >>= λ spot. write spot (number z1) >>= λ _. meaning.count e (named_spot a.target) z2 z3 (effects p (enter p room) body)) line t in
        flows_at to out _ (omega (arith, n1, n2, n3, n4, n5, n6, n7))
        (bind {m = spend} {line = line} (lost (pc + 1) ws) (Shows free kept) (tick_run free pc line kept ws s m sh (has.0, tt)) (spend_obeys p fine F W first first) fair (λ _ s1 m1 sh1 _ _ fair1.
        bind {m = value p (enter p room) from} {line = line} (lands at1 (λ v. value_word p base (here_at free) v ∷ ws)) (Shows free kept)
        (runs.plain_runs p fine small is_there W first R code now base tables room reached k0 ks r own ar line own_there (other_calls line) from free (pc + 1) kept ws s1 m1 (ap is_large kfrom.1) t1.0 h.2 uf fair1 sh1 (ends.front code now r (pc + 1) cfrom c3 has.1)) (typing.value_obeys p fine F W first first R (enter p room) reached k0.scope (scopes ks) from h.2 uf) fair1 (λ v1 s2 m2 sh2 _ is2 fair2.
        let z1 = a_number p fine small is_there W first R code now base tables a.kind e v1 is (widened p F (kind from) a.kind v1 h.3 is2) in
        subst (λ y. From (cfg at1 (value_word p base (here_at free) y ∷ ws) s2 m2) (flows to out ws) (Shows free kept) ((value p (enter p room) end >>= λ v2. meaning.step_value p (enter p room) by >>= λ z3. λ line t. rest (number_in y) (number_in v2) z3 t) line s2)) (sym z1.1)
        (bind {m = value p (enter p room) end} {line = line} (lands at2 (λ v. value_word p base (here_at free) v ∷ (word.Number z1.0 ∷ ws))) (Shows free kept)
        (runs.plain_runs p fine small is_there W first R code now base tables room reached k0 ks r own ar line own_there (other_calls line) end free at1 kept (word.Number z1.0 ∷ ws) s2 m2 (ap is_large kend.1) t2.0 h.4 ue fair2 sh2 (ends.front code now r at1 cend _ has3)) (typing.value_obeys p fine F W first first R (enter p room) reached k0.scope (scopes ks) end h.4 ue) fair2 (λ v2 s3 m3 sh3 _ is3 fair3.
        let z2 = a_number p fine small is_there W first R code now base tables (kind end) ek v2 is_end is3 in
        subst (λ y. From (cfg at2 (value_word p base (here_at free) y ∷ (word.Number z1.0 ∷ ws)) s3 m3) (flows to out ws) (Shows free kept) ((meaning.step_value p (enter p room) by >>= λ z3. λ line t. rest z1.0 (number_in y) z3 t) line s3)) (sym z2.1)
        (ends.and_then code now (lost {A = Unit {0}} at3 (word.Number z1.0 ∷ ws)) (λ _ t y. KeptNumber ek z2.0 free kept t y) (keep_behind ek z2.0 free at2 line kept (word.Number z1.0 ∷ ws) s3 m3 z2.2 (omega (arith, room16)) sh3 (has_k.0, (has_k.1.0, tt))) (λ m4 k4.
        let x1 : Kept = record { from = free; bytes = k4.bs } in
        bind {m = meaning.step_value p (enter p room) by} {line = line} (lands at4 (λ z. word.Number z ∷ (word.Number z1.0 ∷ ws))) (Stepped a.kind sk (free + 8) (x1 ∷ kept))
        (step_run by a.kind (free + 8) at3 line (x1 ∷ kept) (word.Number z1.0 ∷ ws) s3 m4 h.6 h.1 us t3.0 fair3 k4.shown (ends.front code now r at3 cstep _ has_k.1.1)) (step_obeys p fine F W first first R (enter p room) reached k0.scope (scopes ks) by a.kind h.6 us) fair3 (λ z3 s5 m5 i5 _ _ fair5.
        ends.and_then code now (lost {A = Unit {0}} at5 (word.Number z1.0 ∷ ws)) (λ _ t y. KeptNumber sk z3 (free + 8) (x1 ∷ kept) t y) (keep_behind sk z3 (free + 8) at4 line (x1 ∷ kept) (word.Number z1.0 ∷ ws) s5 m5 i5.kept_fits (omega (arith, room16)) i5.shown (has_l.0, (has_l.1.0, tt))) (λ m6 k6.
        let bs = temps free k4.bs k6.bs kept in
        let sh6 : Now_shown (free + 16) bs s5 m6 = subst (λ n. Now_shown n bs s5 m6) (let q : free + 8 + 8 ≡ free + 16 = omega arith in q) k6.shown in
        bind {m = named_spot a.target} {line = line} (lands (at5 + length cp) (λ y. spot_word p base ls y ∷ (word.Number z1.0 ∷ ws))) (Shows (free + 16) bs)
        (runs.named_run p fine small is_there W first R code now base tables room reached k0 ks r own ar line own_there a.target a.kind (free + 16) at5 bs (word.Number z1.0 ∷ ws) s5 m6 h.0 fair5 sh6 (ends.front code now r at5 cp _ has_l.1.1)) (typing.named_obeys p fine F W first first R (enter p room) reached k0.scope (scopes ks) a.target a.kind h.0 un) fair5 (λ spot s7 m7 sh7 _ found fair7.
        let l = runs.lies p fine small is_there W first R code now base tables room reached k0 ks r own ar line own_there spot a.kind found.0 in
        bind {m = write spot (number z1.0)} {line = line} (lost {A = Unit {0}} at6 ws) (Shows (free + 16) bs)
        (stores.number_stored p fine small is_there W first R code now base tables room reached k0 ks r own ar own_there e z1.0 a.kind (free + 16) (at5 + length cp) line bs ws spot s7 m7 found.0 (runs.number_shape p fine small is_there W first R code now base tables room reached k0 ks r own ar line own_there l.place.shape a.kind e is l.meets) z1.2 sh7 (has_s.0, tt))
        (typing.write_plain p fine F W first first R (enter p room) reached k0.scope (scopes ks) a.kind spot (number z1.0) (subst IsNoInstance (sym is) tt) found.0 (found.1 owns) (subst (λ y. OfKind p F y (number z1.0)) (sym is) (Elementary e, within_bound p (type.Elementary e) (Elementary e) (elementary_shape p e), z1.2))) fair7 (λ _ s8 m8 sh8 _ _ fair8.
        ends.and_leads code now (flows to out ws) (Shows (free + 16) bs)
        (count_run a.target a.kind e ek sk is h.0 un free k4.bs k6.bs kept z2.0 z3 k4.long k6.long k4.number_there k6.number_there line i5.fits owns body to cb at6 back_n ws
        (body_obeys p fine F W first first R (enter p room) reached k0.scope (scopes ks) body h.7 ub) (has_s.1.0, tt) (ends.front code now r (at6 + 1) ct _ has_w)
        (subst (λ n. Stands code now r (at6 + 1 + length ct) (skips_at_0 n line ∷ [])) (let q : length cb + length ca + 1 ≡ suc (length cb + length ca) = omega arith in q) (has_j.0, tt))
        (ends.front code now r (at6 + 1 + length ct + 1 + length cb) ca c9 has_c)
        (subst (λ n. Stands code now r n c9) (let q : at6 + 1 + length ct + 1 + length cb + length ca ≡ at6 + 1 + length ct + 1 + (length cb + length ca) = omega arith in q) has_r)
        (omega arith)
        (λ s9 m9 fair9 sh9. runs_body inner (at6 + 1 + length ct + 1) bs s9 m9 fair9 sh9 t4.1 ub (ends.front code now r (at6 + 1 + length ct + 1) cb c8 has_j.1))
        s8 m8 fair8 sh8)
        (λ f t y i _. ends.stays code now f t y (stores.no_longer p fine small is_there W first R code now base tables room reached k0 ks r own ar own_there free (free + 8) x1 kept t y refl (stores.no_longer p fine small is_there W first R code now base tables room reached k0 ks r own ar own_there (free + 8) (free + 16) (record { from = free + 8; bytes = k6.bs }) (x1 ∷ kept) t y refl i))))))))))))))

    -- ---- statements, over the calls in them

    module _ (call_runs : Call_runs) where
      -- what has no operand is no conversion
      other_call : (line : ℕ) (a : Note) (q : Root Note) (ss : Selectors Note) (xs : Xs Note) (to : Targets) (free pc around_line : ℕ) (kept : List Kept) (ws : List Word) (s : State) (m : Memory) → (OperandIs p k0.scope xs → ⊥) → effect_top plan free (effect.Call line a q ss xs) ≤ k0.long → StatementIs p k0.scope (effect.Call line a q ss xs) → AllOf (statement_uses p (effect.Call line a q ss xs)) → IsFair s → Now_shown free kept s m → Stands code now r pc (effect_code plan to free (effect.Call line a q ss xs))
          → From (cfg pc ws s m) (flows to (pc + length (effect_code plan to free (effect.Call line a q ss xs))) ws) (Shows free kept) (meaning.effect p (enter p room) (effect.Call line a q ss xs) around_line s)
      other_call line a q ss xs to free pc around_line kept ws s m no_operand top h u fair sh has = by (callee_of q ss) refl
        where
          operand_there : (c : Callee) (O G : Type 0) (whole : StType) (x : Option Called) (P : Routine → Type 0) (V : Type 0) → c ≡ a_conversion → CallIs p k0.scope c O G whole x P V → O
          operand_there c O G whole x P V is h = subst (λ c. CallIs p k0.scope c O G whole x P V) is h

          by : (c : Callee) → callee_of q ss ≡ c → From (cfg pc ws s m) (flows to (pc + length (effect_code plan to free (effect.Call line a q ss xs))) ws) (Shows free kept) (meaning.effect p (enter p room) (effect.Call line a q ss xs) around_line s)
          by a_conversion is = absurd (no_operand (operand_there (callee_of q ss) _ _ _ _ _ _ is h))
          by c is = call_runs line a q ss xs to free pc around_line kept ws s m (ap is_conversion is) top h u fair sh has

      -- what a conversion is, by its callee
      conversion_code : (line free : ℕ) (c : Callee) (e : Expression Note) (xs : Xs Note) (called : List Cell) → c ≡ a_conversion → called_effect_code plan line free c (argument_then (Positional e) xs) called ≡ value_code plan line free e ++ does op.Drop line ∷ []
      conversion_code line free c e xs called is = ap (λ c. called_effect_code plan line free c (argument_then (Positional e) xs) called) is

      conversion_effect : (c : Callee) (operand_value : Run Value) (called : Run Frame) (line : ℕ) (s : State) → c ≡ a_conversion → call_effect_of c operand_value called line s ≡ go_on (operand_value line s) (λ v t. Done tt t)
      conversion_effect c operand_value called line s is = ap (λ c. call_effect_of c operand_value called line s) is

      conversion_top : (c : Callee) (m n k : ℕ) → c ≡ a_conversion → call_top c m n ≤ k → m ≤ k
      conversion_top c m n k is h = subst (λ c. call_top c m n ≤ k) is h

      conversion_operand : (c : Callee) (O G : Type 0) (whole : StType) (x : Option Called) (P : Routine → Type 0) (V : Type 0) → c ≡ a_conversion → CallIs p k0.scope c O G whole x P V → O
      conversion_operand c O G whole x P V is h = subst (λ c. CallIs p k0.scope c O G whole x P V) is h

      call_effect_run : (line : ℕ) (a : Note) (q : Root Note) (ss : Selectors Note) (xs : Xs Note) (to : Targets) (free pc around_line : ℕ) (kept : List Kept) (ws : List Word) (s : State) (m : Memory) → effect_top plan free (effect.Call line a q ss xs) ≤ k0.long → StatementIs p k0.scope (effect.Call line a q ss xs) → AllOf (statement_uses p (effect.Call line a q ss xs)) → IsFair s → Now_shown free kept s m → Stands code now r pc (effect_code plan to free (effect.Call line a q ss xs))
          → From (cfg pc ws s m) (flows to (pc + length (effect_code plan to free (effect.Call line a q ss xs))) ws) (Shows free kept) (meaning.effect p (enter p room) (effect.Call line a q ss xs) around_line s)
      call_effect_run line a q ss (argument_then (Positional e) xs) to free pc around_line kept ws s m top h u fair sh has = by (callee_of q ss) refl
        where
          all : Xs Note
          all = argument_then (Positional e) xs

          by : (c : Callee) → callee_of q ss ≡ c → From (cfg pc ws s m) (flows to (pc + length (effect_code plan to free (effect.Call line a q ss all))) ws) (Shows free kept) (meaning.effect p (enter p room) (effect.Call line a q ss all) around_line s)
          by a_conversion is =
              let ps = called_parameters p (called_of q ss) in
              let ce = value_code plan line free e in
              let code_is : effect_code plan to free (effect.Call line a q ss all) ≡ does op.Tick line ∷ (ce ++ does op.Drop line ∷ []) = ap (λ c. does op.Tick line ∷ c) (conversion_code line free (callee_of q ss) e xs _ is) in
              let operand_is : ExpressionIs p k0.scope e × IsElementary (kind e) = conversion_operand (callee_of q ss) _ _ _ _ _ _ is h in
              let fits : value_top plan free e ≤ k0.long = conversion_top (callee_of q ss) _ _ _ is top in
              let u1 = typing.back _ (call_use (called_of q ss)) _ u in
              let u2 = typing.back _ (owner_uses q ss) _ u1 in
              let u3 = typing.back _ (root_uses q ++ along_uses p (root_note q).kind ss) _ u2 in
              let ue = typing.front _ (expression_uses p e) _ (typing.back _ (bound_uses (is_bound (next_parameter ps)) e) _ u3) in
              let at = pc + 1 + length ce in
              subst (λ c. Stands code now r pc c → From (cfg pc ws s m) (flows to (pc + length c) ws) (Shows free kept) (meaning.effect p (enter p room) (effect.Call line a q ss all) around_line s)) (sym code_is) (λ has'.
              flows_at to (at + 1) _ (omega (arith, length-append ce (does op.Drop line ∷ [])))
              (bind {m = spend} {line = line} (lost (pc + 1) ws) (Shows free kept) (tick_run free pc line kept ws s m sh (has'.0, tt)) (spend_obeys p fine F W first first) fair (λ _ s1 m1 sh1 _ _ fair1.
              ends.same_outcome code now (ap (λ o. go_on o (λ _ t. Done goes_on t)) (conversion_effect (callee_of q ss) (value p (enter p room) e) _ line s1 is) ∙ go_on_again (value p (enter p room) e line s1) (λ v t. Done tt t) (λ _ t. Done goes_on t))
              (bind {m = value p (enter p room) e} {line = line} (lands at (λ v. value_word p base (here_at free) v ∷ ws)) (Shows free kept)
              (runs.plain_runs p fine small is_there W first R code now base tables room reached k0 ks r own ar line own_there (other_calls line) e free (pc + 1) kept ws s1 m1 (ap is_large operand_is.1.1) fits operand_is.0 ue fair1 sh1 (ends.front code now r (pc + 1) ce _ has'.1)) (typing.value_obeys p fine F W first first R (enter p room) reached k0.scope (scopes ks) e operand_is.0 ue) fair1 (λ v s2 m2 sh2 _ _ _.
              ends.step_leads code now (op.Drop, line) (ends.back code now r (pc + 1) ce _ has'.1).0 (ends.stays code now goes_on s2 m2 sh2)))))) has
          by c is = call_runs line a q ss all to free pc around_line kept ws s m (ap is_conversion is) top h u fair sh has
      call_effect_run line a q ss xs to free pc around_line kept ws s m top h u fair sh has = other_call line a q ss xs to free pc around_line kept ws s m (λ z. z) top h u fair sh has

      mutual
        pub effect_run : (st : Statement Note) (to : Targets) (free pc around_line : ℕ) (kept : List Kept) (ws : List Word) (s : State) (m : Memory) → effect_top plan free st ≤ k0.long → StatementIs p k0.scope st → AllOf (statement_uses p st) → IsFair s → Now_shown free kept s m → Stands code now r pc (effect_code plan to free st)
            → From (cfg pc ws s m) (flows to (pc + length (effect_code plan to free st)) ws) (Shows free kept) (meaning.effect p (enter p room) st around_line s)
        effect_run (Empty line) to free pc _ kept ws s m top h u fair sh has = flows_at to pc _ (omega arith) (ends.stays code now goes_on s m sh)
        effect_run (Exit line) to free pc _ kept ws s m top h u fair sh has =
            ends.then_leads code now (lost (pc + 1) ws) (Shows free kept) (tick_run free pc line kept ws s m sh (has.0, tt)) (λ _ t x i _.
            ends.step_leads code now (op.Jump (pc + 1 + 1 + to.to_exit), line) has.1.0
            (flows_at to (pc + 1 + 1) _ (omega arith) (ends.stays code now exits t x i)))
        effect_run (Continue line) to free pc _ kept ws s m top h u fair sh has =
            ends.then_leads code now (lost (pc + 1) ws) (Shows free kept) (tick_run free pc line kept ws s m sh (has.0, tt)) (λ _ t x i _.
            ends.step_leads code now (op.Jump (pc + 1 + 1 + to.to_continue), line) has.1.0
            (flows_at to (pc + 1 + 1) _ (omega arith) (ends.stays code now continues t x i)))
        effect_run (Return line) to free pc _ kept ws s m top h u fair sh has =
            ends.then_leads code now (lost (pc + 1) ws) (Shows free kept) (tick_run free pc line kept ws s m sh (has.0, tt)) (λ _ t x i _.
            ends.step_leads code now (op.Jump (pc + 1 + 1 + to.to_return), line) has.1.0
            (flows_at to (pc + 1 + 1) _ (omega arith) (ends.stays code now leaves t x i)))
        effect_run (Assign line a q ss e) to free pc _ kept ws s m top h u fair sh has =
            let b = is_large a.kind && (is_source e && way_is_quiet ss) in
            let ca = assigned_code plan line free a.kind q ss e b in
            flows_at to (pc + 1 + length ca) _ (omega arith)
            (bind {m = spend} {line = line} (lost (pc + 1) ws) (Shows free kept) (tick_run free pc line kept ws s m sh (has.0, tt)) (spend_obeys p fine F W first first) fair (λ _ s1 m1 sh1 _ _ fair1.
            ends.same_outcome code now (sym (in_order (value p (enter p room) e) (λ v. place p (enter p room) q ss) (λ v spot. write spot v) line s1))
            (ends.then_leads code now (lost {A = Unit {0}} (pc + 1 + length ca) ws) (Shows free kept) (assigned_run line a q ss e b refl free (pc + 1) kept ws s1 m1 top h u fair1 sh1 has.1)
            (λ _ s2 m2 sh2 _. ends.stays code now goes_on s2 m2 sh2))))
        effect_run (Attempt line a q ss e) to free pc _ kept ws s m top h u fair sh has =
            let ce = value_code plan line free e in
            let cp = place_code plan line free q ss in
            let out = pc + 1 + length ce + 1 + length cp + 1 in
            flows_at to out _ (omega (arith, length-append ce (does (op.Try (tables.conversion_target a.kind)) line ∷ (cp ++ does op.StoreRef line ∷ [])), length-append cp (does op.StoreRef line ∷ [])))
            (bind {m = spend} {line = line} (lost (pc + 1) ws) (Shows free kept) (tick_run free pc line kept ws s m sh (has.0, tt)) (spend_obeys p fine F W first first) fair (λ _ s1 m1 sh1 _ _ fair1.
            ends.same_outcome code now (sym (in_order_3 (value p (enter p room) e) (λ v. attempted p (enter p room) a.kind (path_in v)) (λ w. place p (enter p room) q ss) (λ w spot. write spot w) line s1))
            (ends.then_leads code now (lost {A = Unit {0}} out ws) (Shows free kept) (attempt_run line a q ss e free (pc + 1) kept ws s1 m1 top h u fair1 sh1 has.1)
            (λ _ s2 m2 sh2 _. ends.stays code now goes_on s2 m2 sh2))))
        effect_run (effect.Call line a q ss xs) to free pc around kept ws s m top h u fair sh has = call_effect_run line a q ss xs to free pc around kept ws s m top h u fair sh has
        effect_run (For line a name from end by body) to free pc _ kept ws s m top h u fair sh has =
            for_run line a name from end by body to free pc kept ws s m top h u fair sh has
            (λ to' at bs s1 m1 fair1 sh1 top1 ub has1. effects_run body to' (free + 16) at line bs ws s1 m1 top1 h.7 ub fair1 sh1 has1)
        effect_run (Repeat line body e) to free pc _ kept ws s m top h u fair sh has =
            let ce = value_code plan line free e in
            let inner : Targets = record { to_exit = 1 + length ce + 1; to_continue = 0; to_return = 1 + length ce + 1 + to.to_return } in
            let cb = effects_code plan inner free body in
            let back_n = length cb + 1 + length ce in
            let n = length cb in
            let tops = both_fit (effects_top plan free body) (value_top plan free e) k0.long top in
            let has_t = ends.back code now r (pc + 1) cb _ has.1 in
            let has_b = ends.back code now r (pc + 1 + n + 1) ce _ has_t.1 in
            let ub = typing.front _ (body_uses p body) _ u in
            let ue = typing.back _ (body_uses p body) _ u in
            flows_at to (pc + 1 + n + 1 + length ce + 1) _ (omega (arith, length-append cb (does op.Tick line ∷ (ce ++ returns_at_0 back_n line ∷ [])), length-append ce (returns_at_0 back_n line ∷ [])))
            (bind {m = spend} {line = line} (lost (pc + 1) ws) (Shows free kept) (tick_run free pc line kept ws s m sh (has.0, tt)) (spend_obeys p fine F W first first) fair (λ _ s1 m1 sh1 _ _ fair1.
            until_run body e to free (pc + 1) n back_n line kept ws tops.1 h.1 ue (body_obeys p fine F W first first R (enter p room) reached k0.scope (scopes ks) body h.0 ub) (has_t.0, tt) (ends.front code now r (pc + 1 + n + 1) ce _ has_t.1) has_b (omega arith)
            (λ t x fair' i. effects_run body inner free (pc + 1) line kept ws t x tops.0 h.0 ub fair' i (ends.front code now r (pc + 1) cb _ has.1))
            (suc s1.ticks) s1 m1 (le_refl (suc s1.ticks)) fair1 sh1))
        effect_run (If line branches otherwise) to free pc _ kept ws s m top h u fair sh has =
            let co = otherwise_code plan to free otherwise in
            let cb = branches_code plan line to free branches co in
            let tops = both_fit (branches_top plan free branches) (otherwise_top plan free otherwise) k0.long top in
            flows_at to (pc + 1 + length cb) _ (omega arith)
            (bind {m = spend} {line = line} (lost (pc + 1) ws) (Shows free kept) (tick_run free pc line kept ws s m sh (has.0, tt)) (spend_obeys p fine F W first first) fair (λ _ s1 m1 sh1 _ _ fair1.
            branches_run branches to free (pc + 1) line kept ws s1 m1 co (otherwise_effect p (enter p room) otherwise) tops.0 h.0 (typing.front _ (branch_uses p branches) _ u) fair1 sh1 has.1
            (λ at t x fair' sh' has'. otherwise_run otherwise to free at line kept ws t x tops.1 h.1 (typing.back _ (branch_uses p branches) _ u) fair' sh' has')))
        effect_run (While line e body) to free pc _ kept ws s m top h u fair sh has =
            let ce = value_code plan line free e in
            let inner : Targets = record { to_exit = 1; to_continue = 0; to_return = 1 + to.to_return } in
            let cb = effects_code plan inner free body in
            let n = length cb in
            let back_n = 1 + length ce + 1 + n in
            let has_e = has.1.1 in
            let has_j = ends.back code now r (pc + 1 + 1) ce _ has_e in
            let ub = typing.back _ (expression_uses p e) _ u in
            let tops = both_fit (value_top plan free e) (effects_top plan free body) k0.long top in
            flows_at to (pc + 1 + 1 + length ce + 1 + n + 1) _ (omega (arith, length-append ce (skips_at_0 (suc n) line ∷ (cb ++ returns back_n line ∷ [])), length-append cb (returns back_n line ∷ [])))
            (bind {m = spend} {line = line} (lost (pc + 1) ws) (Shows free kept) (tick_run free pc line kept ws s m sh (has.0, tt)) (spend_obeys p fine F W first first) fair (λ _ s1 m1 sh1 _ _ fair1.
            turns_run e body to free (pc + 1) line kept ws tops.0 h.0 (typing.front _ (expression_uses p e) _ u) (body_obeys p fine F W first first R (enter p room) reached k0.scope (scopes ks) body h.1 ub) (has.1.0, tt) (ends.front code now r (pc + 1 + 1) ce _ has_e) n (has_j.0, tt)
            back_n (ends.back code now r (pc + 1 + 1 + length ce + 1) cb _ has_j.1) (omega arith)
            (λ t x fair' i. effects_run body inner free (pc + 1 + 1 + length ce + 1) line kept ws t x tops.1 h.1 ub fair' i (ends.front code now r (pc + 1 + 1 + length ce + 1) cb _ has_j.1))
            s1.ticks s1 m1 (le_refl s1.ticks) fair1 sh1))
        effect_run (Case line e cases otherwise) to free pc _ kept ws s m top h u fair sh has =
            let ce = value_code plan line free e in
            let co = otherwise_code plan to free otherwise in
            let cc = cases_code plan line to free cases (does op.Drop line ∷ co) in
            let ue = typing.front _ (expression_uses p e) _ u in
            let uc = typing.back _ (expression_uses p e) _ u in
            let tops = both_fit (value_top plan free e) (max (cases_top plan free cases) (otherwise_top plan free otherwise)) k0.long top in
            let tops2 = both_fit (cases_top plan free cases) (otherwise_top plan free otherwise) k0.long tops.1 in
            flows_at to (pc + 1 + length ce + length cc) _ (omega (arith, length-append ce cc))
            (bind {m = spend} {line = line} (lost (pc + 1) ws) (Shows free kept) (tick_run free pc line kept ws s m sh (has.0, tt)) (spend_obeys p fine F W first first) fair (λ _ s1 m1 sh1 _ _ fair1.
            bind {m = value p (enter p room) e} {line = line} (lands (pc + 1 + length ce) (λ v. value_word p base (here_at free) v ∷ ws)) (Shows free kept)
            (runs.plain_runs p fine small is_there W first R code now base tables room reached k0 ks r own ar line own_there (other_calls line) e free (pc + 1) kept ws s1 m1 (numeric_small (kind e) h.1) tops.0 h.0 ue fair1 sh1 (ends.front code now r (pc + 1) ce _ has.1))
            (typing.value_obeys p fine F W first first R (enter p room) reached k0.scope (scopes ks) e h.0 ue) fair1
            (λ v s2 m2 sh2 _ is2 fair2.
            let z = numeric_value p F (kind e) v h.1 is2 in
            subst (λ y. From (cfg (pc + 1 + length ce) (value_word p base (here_at free) y ∷ ws) s2 m2) (flows to (pc + 1 + length ce + length cc) ws) (Shows free kept) (first_holding p (enter p room) (number_in y) cases (otherwise_effect p (enter p room) otherwise) line s2)) (sym z.1)
            (cases_run cases z.0 to free (pc + 1 + length ce) line kept ws s2 m2 (does op.Drop line ∷ co) (otherwise_effect p (enter p room) otherwise) tops2.0 h.2 (typing.front _ (case_uses p cases) _ uc) fair2 sh2 (ends.back code now r (pc + 1) ce _ has.1)
            (λ at has'. ends.step_leads code now (op.Drop, line) has'.0
            (flows_at to (at + 1 + length co) _ (omega arith) (otherwise_run otherwise to free (at + 1) line kept ws s2 m2 tops2.1 h.3 (typing.back _ (case_uses p cases) _ uc) fair2 sh2 has'.1)))))))

        -- the first case that holds the number; it is on top
        cases_run : (cs : Cases Note) (z : ℤ) (to : Targets) (free pc line : ℕ) (kept : List Kept) (ws : List Word) (s : State) (m : Memory) (co : List Cell) (o : Run Flow) → cases_top plan free cs ≤ k0.long → CasesAre p k0.scope cs → AllOf (case_uses p cs) → IsFair s → Now_shown free kept s m
            → Stands code now r pc (cases_code plan line to free cs co)
            → ((at : ℕ) → Stands code now r at co → From (cfg at (word.Number z ∷ ws) s m) (flows to (at + length co) ws) (Shows free kept) (o line s))
            → From (cfg pc (word.Number z ∷ ws) s m) (flows to (pc + length (cases_code plan line to free cs co)) ws) (Shows free kept) (first_holding p (enter p room) z cs o line s)
        cases_run no_cases z to free pc line kept ws s m co o top h u fair sh has other = other pc has
        cases_run (case_then labels body cs) z to free pc line kept ws s m co o top h u fair sh has other =
            let tops = both_fit (effects_top plan free body) (cases_top plan free cs) k0.long top in
            let rest = cases_code plan line to free cs co in
            let cb = effects_code plan (behind (1 + length rest) to) free body in
            let cl = labels_code line labels in
            let has_s = ends.back code now r pc cl _ has in
            let has_r = ends.back code now r (pc + length cl + 1 + 1) cb _ has_s.1.1 in
            let out = pc + length cl + 1 + 1 + length cb + 1 + length rest in
            flows_at to out _ (omega (arith, length-append cl (skips (2 + length cb) line ∷ (does op.Drop line ∷ (cb ++ skips (length rest) line ∷ rest))), length-append cb (skips (length rest) line ∷ rest)))
            (labels_next (flows to out ws) (Shows free kept) ((if hold labels z then effects p (enter p room) body else first_holding p (enter p room) z cs o) line s) line ws s m labels z pc (ends.front code now r pc cl _ has)
            (λ e.
            ends.same_outcome code now (ap (λ b. (if b then effects p (enter p room) body else first_holding p (enter p room) z cs o) line s) e)
            (ends.step_leads code now (op.Drop, line) has_s.1.0
            (ends.and_leads code now (flows (behind (1 + length rest) to) (pc + length cl + 1 + 1 + length cb) ws) (Shows free kept)
            (effects_run body (behind (1 + length rest) to) free (pc + length cl + 1 + 1) line kept ws s m tops.0 h.0 (typing.front _ (body_uses p body) _ u) fair sh (ends.front code now r (pc + length cl + 1 + 1) cb _ has_s.1.1))
            (λ f t x i _. skipped f to (pc + length cl + 1 + 1 + length cb) (length rest) line ws t x free kept i (has_r.0, tt) out (omega arith)))))
            (λ e.
            ends.same_outcome code now (ap (λ b. (if b then effects p (enter p room) body else first_holding p (enter p room) z cs o) line s) e)
            (ends.step_leads code now (op.Jump (pc + length cl + 1 + (2 + length cb)), line) has_s.0
            (subst (λ j. From (cfg j (word.Number z ∷ ws) s m) (flows to out ws) (Shows free kept) (first_holding p (enter p room) z cs o line s)) (omega arith)
            (cases_run cs z to free (pc + length cl + 1 + 1 + length cb + 1) line kept ws s m co o tops.1 h.1 (typing.back _ (body_uses p body) _ u) fair sh has_r.1 other)))))

        branches_run : (bs : Branches Note) (to : Targets) (free pc line : ℕ) (kept : List Kept) (ws : List Word) (s : State) (m : Memory) (co : List Cell) (o : Run Flow) → branches_top plan free bs ≤ k0.long → BranchesAre p k0.scope bs → AllOf (branch_uses p bs) → IsFair s → Now_shown free kept s m
            → Stands code now r pc (branches_code plan line to free bs co)
            → ((at : ℕ) (t : State) (x : Memory) → IsFair t → Now_shown free kept t x → Stands code now r at co → From (cfg at ws t x) (flows to (at + length co) ws) (Shows free kept) (o line t))
            → From (cfg pc ws s m) (flows to (pc + length (branches_code plan line to free bs co)) ws) (Shows free kept) (first_true p (enter p room) bs o line s)
        branches_run no_branches to free pc line kept ws s m co o top h u fair sh has other = other pc s m fair sh has
        branches_run (branch_then e body bs) to free pc line kept ws s m co o top h u fair sh has other =
            let tops = both_fit (value_top plan free e) (max (effects_top plan free body) (branches_top plan free bs)) k0.long top in
            let tops2 = both_fit (effects_top plan free body) (branches_top plan free bs) k0.long tops.1 in
            let ce = value_code plan line free e in
            let rest = branches_code plan line to free bs co in
            let cb = effects_code plan (behind (1 + length rest) to) free body in
            let has_j = ends.back code now r pc ce _ has in
            let has_r = ends.back code now r (pc + length ce + 1) cb _ has_j.1 in
            let ub = typing.back _ (expression_uses p e) _ u in
            let out = pc + length ce + 1 + length cb + 1 + length rest in
            flows_at to out _ (omega (arith, length-append ce (skips_at_0 (suc (length cb)) line ∷ (cb ++ skips (length rest) line ∷ rest)), length-append cb (skips (length rest) line ∷ rest)))
            (test_run e (suc (length cb)) free pc line kept ws s m (effects p (enter p room) body) (first_true p (enter p room) bs o) tops.0 h.0 (typing.front _ (expression_uses p e) _ u) fair sh (ends.front code now r pc ce _ has) (has_j.0, tt)
            (λ t x v done fair' sh'.
            ends.and_leads code now (flows (behind (1 + length rest) to) (pc + length ce + 1 + length cb) ws) (Shows free kept)
            (effects_run body (behind (1 + length rest) to) free (pc + length ce + 1) line kept ws t x tops2.0 h.1 (typing.front _ (body_uses p body) _ ub) fair' sh' (ends.front code now r (pc + length ce + 1) cb _ has_j.1))
            (λ f t' x' i _. skipped f to (pc + length ce + 1 + length cb) (length rest) line ws t' x' free kept i (has_r.0, tt) out (omega arith)))
            (λ t x fair' sh'. subst (λ j. From (cfg j ws t x) (flows to out ws) (Shows free kept) (first_true p (enter p room) bs o line t)) (omega arith)
            (branches_run bs to free (pc + length ce + 1 + length cb + 1) line kept ws t x co o tops2.1 h.2 (typing.back _ (body_uses p body) _ ub) fair' sh' has_r.1 other)))

        otherwise_run : (o : Otherwise Note) (to : Targets) (free pc line : ℕ) (kept : List Kept) (ws : List Word) (s : State) (m : Memory) → otherwise_top plan free o ≤ k0.long → OtherwiseIs p k0.scope o → AllOf (otherwise_uses p o) → IsFair s → Now_shown free kept s m → Stands code now r pc (otherwise_code plan to free o)
            → From (cfg pc ws s m) (flows to (pc + length (otherwise_code plan to free o)) ws) (Shows free kept) (otherwise_effect p (enter p room) o line s)
        otherwise_run Nothing to free pc line kept ws s m top h u fair sh has = flows_at to pc _ (omega arith) (ends.stays code now goes_on s m sh)
        otherwise_run (Else body) to free pc line kept ws s m top h u fair sh has = effects_run body to free pc line kept ws s m top h u fair sh has

        pub effects_run : (b : Statements Note) (to : Targets) (free pc line : ℕ) (kept : List Kept) (ws : List Word) (s : State) (m : Memory) → effects_top plan free b ≤ k0.long → StatementsAre p k0.scope b → AllOf (body_uses p b) → IsFair s → Now_shown free kept s m → Stands code now r pc (effects_code plan to free b)
            → From (cfg pc ws s m) (flows to (pc + length (effects_code plan to free b)) ws) (Shows free kept) (effects p (enter p room) b line s)
        effects_run no_statements to free pc line kept ws s m top h u fair sh has = flows_at to pc _ (omega arith) (ends.stays code now goes_on s m sh)
        effects_run (statement_then st ss) to free pc line kept ws s m top h u fair sh has =
            let tops = both_fit (effect_top plan free st) (effects_top plan free ss) k0.long top in
            let cr = effects_code plan to free ss in
            let cs = effect_code plan (behind (length cr) to) free st in
            let us = typing.front _ (statement_uses p st) _ u in
            flows_at to (pc + length cs + length cr) _ (omega (arith, length-append cs cr))
            (bind {m = meaning.effect p (enter p room) st} (flows (behind (length cr) to) (pc + length cs) ws) (Shows free kept)
            (effect_run st (behind (length cr) to) free pc line kept ws s m tops.0 h.0 us fair sh (ends.front code now r pc cs _ has))
            (effect_typed st h.0 us) fair
            (λ f t x i _ _ fair'. onward f t x i (pc + length cs) (length cr) (λ _. effects_run ss to free (pc + length cs) line kept ws t x tops.1 h.1 (typing.back _ (statement_uses p st) _ u) fair' i (ends.back code now r pc cs _ has))))
          where
            onward : (f : Flow) (t : State) (x : Memory) → Now_shown free kept t x → (at n : ℕ) → (Unit {0} → From (cfg at ws t x) (flows to (at + n) ws) (Shows free kept) (effects p (enter p room) ss line t))
                → From (flows (behind n to) at ws f t x) (flows to (at + n) ws) (Shows free kept) (unless_left f (effects p (enter p room) ss) line t)
            onward goes_on t x i at n k = k tt
            onward exits t x i at n k = subst (λ j. From (cfg j ws t x) (flows to (at + n) ws) (Shows free kept) (Done exits t)) (omega arith) (ends.stays code now exits t x i)
            onward continues t x i at n k = subst (λ j. From (cfg j ws t x) (flows to (at + n) ws) (Shows free kept) (Done continues t)) (omega arith) (ends.stays code now continues t x i)
            onward leaves t x i at n k = subst (λ j. From (cfg j ws t x) (flows to (at + n) ws) (Shows free kept) (Done leaves t)) (omega arith) (ends.stays code now leaves t x i)
