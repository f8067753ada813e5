-- A run of a program's body does what the meaning says.
use Rattle.std.proofs.Common.{◌≡◌, ◌≤◌, ◌<◌, ℕ, suc, ◌+◌, ◌-◌, Bool, true, false, List, [], ◌∷◌, ◌++◌, length, Option, Some, None, refl, sym, ap, ◌∙◌, subst, arith, length-append, inl, inr, ⊎_elim}
use Rattle.std.specs.Prelude.{◌⊎◌, slice_get, nat_eq, replicate, ◌||◌}
use Rattle.std.proofs.lemmas.List.{length-replicate}
use Rattle.std.proofs.lemmas.Bool.{eqb-true, eq-eqb}
use Rattle.st_meaning.specs.st_frame.OutputPlaces.{OutputsPlaced}
use Rattle.st_types.specs.declared.st_type.StType.{StType}
use Rattle.st_types.specs.declared.st_type.StType.TheVariants as type
use Rattle.st_tree.specs.Expression.{Place}
use Rattle.st_tree.specs.declared.path.Path.{Path}
use Rattle.st_rules.specs.Chains.{is_among}
use Rattle.st_values.specs.Program.{Routine, Program, body_of, body_in}
use Rattle.st_values.specs.Value.{instance, Store, ◌>>=◌ as ◌>>?◌}
use Rattle.st_values.specs.Shape.{Shape, region_shape, Instance}
use Rattle.st_values.proofs.ValueLaws.{then_some}
use Rattle.st_meaning.specs.State.{in_store, Frame, State, Outcome, Done, Fault, go_on, ◌>>=◌, ◌>>◌, push, pop, pop_from, there}
use Rattle.st_meaning.specs.Enter.{enter, most_calls, program_body, run_programs, run_task, programs_of}
use Rattle.st_meaning.specs.st_frame.Use.{Use, the_instances, follows, routine_uses, names, calls, changes, the_region}
use Rattle.st_meaning.specs.st_frame.Promise.Names.{Scope}
use Rattle.st_meaning.specs.st_frame.Promise.Programs.{ProgramIs, TaskRegionIs}
use Rattle.st_meaning.specs.st_frame.Promise.Calls.{kind}
use Rattle.st_meaning.specs.st_frame.Good.{Names, GoodOn}
use Rattle.st_meaning.proofs.st_frame.Spots.{OwnIs, FramesAre}
use Rattle.st_meaning.proofs.st_frame.Bodies.{All, Covered, entered_is}
use Rattle.st_meaning.specs.Loop.{Flow, goes_on, exits, continues, returns as leaves}
use Rattle.st_meaning.specs.Statement.{effects}
use Rattle.st_meaning.specs.Call.{Given, frame_of, set_variables, class_of_kind}
use Rattle.st_meaning.specs.st_frame.Promise.Declarations.{RoutineIs, scope_of}
use Rattle.st_meaning.proofs.st_frame.Entered.{calls_obey, program_is}
use Rattle.st_meaning.specs.Cycle.{begun, all_ticks}
use Rattle.st_meaning.specs.st_frame.Footprint.{Has, Reached, begins, called, Footprint, Writes, IsFootprint}
use Rattle.st_meaning.specs.st_frame.FrameLaws.{last_moment}
use Rattle.st_meaning.proofs.st_frame.Whole.{all_of, timely}
use Rattle.st_meaning.specs.st_frame.Footprint as footprint
use Rattle.stack_code.specs.declared.memory.Space.TheVariants.{Regions}
use Rattle.stack_code.specs.declared.memory.Address.{Address}
use Rattle.stack_code.specs.declared.code.MachineCode.{MachineCode}
use Rattle.stack_code.specs.Memory.{Memory, kept}
use Rattle.stack_code.specs.Steps.{Step, Goes, some_or_stuck, ◌>>=◌ as ◌>>=step◌}
use Rattle.stack_code.specs.Machine.{Config, limit, act, on, Ends, Gives, follow, exec, begun as begun_at, machine as machine_run, body_begun}
use Rattle.stack_code.specs.declared.code.RoutineCode.{RoutineCode}
use Rattle.stack_code.specs.declared.code.Body.{Body}
use Rattle.stack_code.specs.declared.machine.Ending.TheVariants.{Ended}
use Rattle.stack_code.specs.declared.machine.Outcome.{Outcome as MachineOutcome}
use Rattle.stack_code.specs.declared.op.Op.TheVariants as op
use Rattle.stack_code.specs.declared.machine.Outcome.TheVariants as outcome
use Rattle.mem_layout.specs.store_bytes.Spells.{Shows}
use Rattle.mem_layout.specs.store_bytes.Place as store
use Rattle.code_cells.specs.declared.cell.Cell.{Cell}
use Rattle.code_cells.specs.declared.cell.Cell.TheVariants.{Does as does}
use Rattle.code_cells.specs.Cell.{Targets, behind}
use Rattle.code_rules.specs.Plan.{Tables, plan_of}
use Rattle.code_rules.specs.Places.{locals_end}
use Rattle.code_rules.specs.Bodies.{locals_begin, body_code, program_code}
use Rattle.code_rules.specs.Tops.{effects_top}
use Rattle.shown_memory.specs.Shown.{Open, Located, located, FramesShown, Shown, Small}
use Rattle.value_runs.proofs.Ends.{Leads, Stands, flow_at}
use Rattle.value_runs.proofs.Expressions.{Fair, told}
use Rattle.value_runs.proofs.Ends as ends
use Rattle.value_runs.proofs.Expressions as runs
use Rattle.body_runs.proofs.Statements as bodies
use Rattle.routine_entry.proofs.Starts.{locals_start}
use Rattle.call_runs.proofs.Calls.{calls_run, entered_fair}
use Rattle.routine_entry.proofs.Entry.{all_zeros, with_last, locals_next, same_pc, last_get}
use Rattle.call_forms.proofs.CallForm.{TablesAre, targets_are}
use Rattle.task_runs.specs.Task.{EndsAs, BodiesRun, all_done, one_done, one_faults}
use Rattle.call_bodies.proofs.CallStatements as st_calls

-- what the machine's runs come to, and at which moment
abbrev pub EndsNow : {A : Type 0} → (MachineOutcome → List (Option (List ℕ)) → Type 0) → Program → (ℕ → Bool) → ℕ → Outcome A → Type 0
EndsNow ends p is_there now (Done a t) = (left : List (Option (List ℕ))) × ends (outcome.Done t.ticks) left × Shows (region_shape p) is_there left t.store × (t.now ≡ now)
EndsNow ends p is_there now (Fault kind line) = (left : List (Option (List ℕ))) × ends (outcome.Fault (record { kind = kind; line = line })) left

pub ends_as : {A : Type 0} (ends : MachineOutcome → List (Option (List ℕ)) → Type 0) (p : Program) (is_there : ℕ → Bool) (now : ℕ) (o : Outcome A) → EndsNow ends p is_there now o → EndsAs ends p is_there o
ends_as ends p is_there now (Done a t) h = (h.0, h.1, h.2)
ends_as ends p is_there now (Fault k l) h = h

module _ (code : MachineCode) (now : ℕ) where
  -- a run that has come to RET with no call around it ends there
  pub ret_ends : {A : Type 0} (begin : Step Config) (rs : List (Option (List ℕ))) (after : A → State → Memory → Config) (shown : A → State → Memory → Type 0) (is_there : ℕ → Bool) (p : Program) (o : Outcome A)
      → Leads code now begin after shown o
      → ((a : A) (t : State) (m : Memory) → shown a t m → Shows (region_shape p) is_there m.regions t.store × (exec code now 1 (after a t m) ≡ Ends (Ended (outcome.Done t.ticks)) m.regions) × (t.now ≡ now))
      → EndsNow (Gives (λ n. follow begin rs (exec code now n))) p is_there now o
  ret_ends {A = A} begin rs after shown is_there p o h k = by o h.by k
    where
      by : (o : Outcome A) → ends.Comes code now begin after shown o → ((a : A) (t : State) (m : Memory) → shown a t m → Shows (region_shape p) is_there m.regions t.store × (exec code now 1 (after a t m) ≡ Ends (Ended (outcome.Done t.ticks)) m.regions) × (t.now ≡ now))
          → EndsNow (Gives (λ n. follow begin rs (exec code now n))) p is_there now o
      by (Done a t) h k = let x = k a t h.0 h.1 in let j = h.2 1 in (h.0.regions, record { count = j.0; ends = j.2 rs ∙ x.1 }, x.0, x.2)
      by (Fault f l) h k = let y = h.1 rs in (y.0, record { count = h.0; ends = y.1 })

module _ (p : Program) (fine : ProgramIs p) (is_there : ℕ → Bool) (W : ℕ → Type 0) (first : Store) (R : Routine → Type 0) (code : MachineCode) (now base : ℕ) (tables : Tables) (small : Small p)
    (closed : (r : Routine) → R r → RoutineIs p r × All (Covered p (λ r. is_there r ≡ true) W R) (routine_uses p r)) (placed_so : OutputsPlaced p) where
  abbrev Fair_in : List Scope → State → Type 0
  Fair_in gs s = Fair p fine small is_there W first R code now base tables gs s

  -- the locals of a body that no call entered
  abbrev pub outermost : Routine → Path → ℕ → ℕ → Open
  outermost x y start long = record { scope = scope_of x; start = start; own = Some y; free = locals_end p start x.locals; kept = []; long = long; block = None }

  abbrev pub at_top : ℕ → Option Address → ℕ → State → Memory → Config
  at_top n own pc s m = record { here = record { routine = n; next = pc; own = own }; words = []; around = []; memory = m; ticks = s.ticks }

  abbrev pub to_end : Targets
  to_end = record { to_exit = 0; to_continue = 0; to_return = 0 }

  ends_there : (f : Flow) (end : ℕ) → flow_at to_end end f ≡ end
  ends_there goes_on end = refl
  ends_there exits end = omega arith
  ends_there continues end = omega arith
  ends_there leaves end = omega arith

  abbrev pub only_body : Routine → ℕ → List Cell
  only_body x start = body_code p (plan_of p tables (scope_of x) start) x.line x start

  -- what is known at the end of a body
  pub record Left_by (t : State) (m : Memory) : Type 0 where
    pub regions : Shows (region_shape p) is_there m.regions t.store
    pub moment : t.now ≡ now

  -- a body and its end, where no call is around it
  pub body_ends : (room : ℕ) (x : Routine) (n start : ℕ) (y : Path) (own : Option Address) (line at long : ℕ) (t : State) (m : Memory)
      → RoutineIs p x × All (Covered p (λ r. is_there r ≡ true) W R) (routine_uses p x) → ((c : ℕ) → x.class ≡ Some c → (z : Path) × (l : Located) × (Some y ≡ Some z) × (own ≡ Some l.address) × (located p base [] (in_store z) ≡ Some l))
      → room + (base + 0) ≡ limit → TablesAre p fine is_there W first R code now base tables → effects_top (plan_of p tables (scope_of x) start) (locals_end p start x.locals) x.body ≤ long → Fair_in (scope_of x ∷ []) t → Shown p base is_there now (outermost x y start long ∷ []) m t → Stands code now n at (only_body x start ++ does (op.Ret 0) x.line ∷ [])
      → Leads code now (Goes (at_top n own at t m)) (λ (f : Frame) u z. at_top n own (at + length (only_body x start)) u z) (λ f u z. Left_by u z) ((effects p (enter p room) x.body >>= λ _. pop) line t)
  body_ends room x n start y own line at long t m ok own_there at_depth known_tables top fair sh has =
      let g = outermost x y start long in
      let cb = only_body x start in
      let reached' = calls_obey p fine (λ r. is_there r ≡ true) W first first R closed room in
      let calls = calls_run p fine is_there W first R code now base tables small closed placed_so known_tables room in
      let routines : (x : Routine) → R x → RoutineIs p x = λ x e. (closed x e).0 in
      let value_calls = st_calls.value_calls p fine small is_there W first R code now base tables room reached' g [] n own [] own_there calls at_depth known_tables routines placed_so in
      let statement_calls = st_calls.statement_calls p fine small is_there W first R code now base tables room reached' g [] n own [] own_there calls at_depth known_tables routines placed_so in
      ends.then_leads code now (λ (_ : Flow) u z. at_top n own (at + length cb) u z) (λ _ u z. Shown p base is_there now (g ∷ []) z u)
      (ends.and_leads code now (bodies.flows p fine small is_there W first R code now base tables room reached' g [] n own [] own_there value_calls to_end (at + length cb) []) (λ _ u z. Shown p base is_there now (g ∷ []) z u)
      (bodies.effects_run p fine small is_there W first R code now base tables room reached' g [] n own [] own_there value_calls (targets_are p fine is_there W first R code now base tables known_tables) statement_calls x.body to_end (locals_end p start x.locals) at line [] [] t m top ok.0.body ok.1 fair sh (ends.front code now n at cb _ has))
      (λ f u z i _. settles f u z i (at + length cb)))
      (λ f u z i _. leaves u z i u.frames i.frames)
    where
      settles : (f : Flow) (u : State) (z : Memory) → Shown p base is_there now (outermost x y start long ∷ []) z u → (end : ℕ)
          → Leads code now (Goes (record { here = record { routine = n; next = flow_at to_end end f; own = own }; words = []; around = []; memory = z; ticks = u.ticks })) (λ (_ : Flow) u z. at_top n own end u z) (λ _ u z. Shown p base is_there now (outermost x y start long ∷ []) z u) (Done f u)
      settles f u z i end = subst (λ j. Leads code now (Goes (at_top n own j u z)) (λ (_ : Flow) u z. at_top n own end u z) (λ _ u z. Shown p base is_there now (outermost x y start long ∷ []) z u) (Done f u)) (sym (ends_there f end)) (ends.stays code now f u z i)

      leaves : (u : State) (z : Memory) → Shown p base is_there now (outermost x y start long ∷ []) z u → (fs : List Frame) → FramesShown p base (outermost x y start long ∷ []) fs z.locals
          → Leads code now (Goes (at_top n own (at + length (only_body x start)) u z)) (λ (f : Frame) u z. at_top n own (at + length (only_body x start)) u z) (λ f u z. Left_by u z) (pop_from fs line u)
      leaves u z i [] h = absurd h
      leaves u z i (f ∷ fs) h = ends.stays code now f (record u { frames = fs }) z (record { regions = i.regions; moment = i.moment })

  -- at RET the run ends
  pub ends_at_ret : (x : Routine) (n : ℕ) (own : Option Address) (pc : ℕ) (u : State) (z : Memory) → Stands code now n pc (does (op.Ret 0) x.line ∷ []) → exec code now 1 (at_top n own pc u z) ≡ Ends (Ended (outcome.Done u.ticks)) z.regions
  ends_at_ret x n own pc u z has = ap (λ c. follow (c >>=step λ cell. act code now cell.0 cell.1 (at_top n own pc u z)) z.regions (exec code now 0)) has.0

  -- ---- the body of a program, from a run's beginning

  pub record ProgramCode (x : Routine) (n : ℕ) : Type 0 where
    pub routine : RoutineCode
    pub there : slice_get code.routines n ≡ Some routine
    pub room : locals_end p 0 x.locals ≤ routine.locals
    pub behind : effects_top (plan_of p tables (scope_of x) 0) (locals_end p 0 x.locals) x.body ≤ routine.locals
    pub short : routine.locals < 4294967296
    pub stands : Stands code now n 0 (program_code p (plan_of p tables (scope_of x) 0) x.line x 0)

  -- the first bytes of a region
  pub region_there : (r : ℕ) (t : StType) → Names p (record { region = r; steps = [] }) t → (sh : Shape) × (located p base [] (in_store (record { region = r; steps = [] })) ≡ Some (record { address = record { space = Regions; index = r; offset = 0 }; shape = sh }))
  region_there r t n =
      let a = then_some (region_shape p r) (λ sh. Some sh) (Instance n.class n.name n.fields) n.there in
      (a.0, ap (λ o. (o >>? λ sh. Some (at_zero sh)) >>? λ y. Some (placed_at y)) a.1)
    where
      at_zero : Shape → store.Place
      at_zero sh = record { offset = 0; shape = sh }

      placed_at : store.Place → Located
      placed_at y = record { address = record { space = Regions; index = r; offset = y.offset }; shape = y.shape }

  abbrev pub region_path : ℕ → Path
  region_path r = record { region = r; steps = [] }

  abbrev pub region_address : ℕ → Address
  region_address r = record { space = Regions; index = r; offset = 0 }

  abbrev pub first_locals : List (Option (List ℕ)) → List (List ℕ) → Memory
  first_locals rs outer = record { regions = rs; locals = outer }

  -- the state in which its body begins
  abbrev pub in_body : Routine → Path → List Given → State → State
  in_body x y given s = record s { frames = frame_of p x (Some y) given ∷ s.frames }

  -- where the own instance of what runs at the top lies
  pub own_top : (x : Routine) (c : ℕ) (y : Path) (l : Located) → x.class ≡ Some c → located p base [] (in_store y) ≡ Some l → (d : ℕ) → x.class ≡ Some d → (z : Path) × (k : Located) × (Some y ≡ Some z) × (Some l.address ≡ Some k.address) × (located p base [] (in_store z) ≡ Some k)
  own_top x c y l is at d e = (y, l, refl, refl, at)

  pub own_is_top : (x : Routine) (c : ℕ) (y : Path) → x.class ≡ Some c → Names p y (type.Instance c) → is_there y.region ≡ true → W y.region → OwnIs p fine (λ r. is_there r ≡ true) W x.class (Some y)
  own_is_top x c y is n f w = subst (λ o. OwnIs p fine (λ r. is_there r ≡ true) W o (Some y)) (sym is) (n, f, w)

  pub frames_none : (s : State) → s.frames ≡ [] → (images : List (List ℕ)) → FramesShown p base [] s.frames images
  frames_none s e images = subst (λ fs. FramesShown p base [] fs images) (sym e) tt

  -- what enters a routine does in the order of its code
  pub pieces : (x : Routine) (y : Path) (given : List Given) (room line : ℕ) (s : State) → ((line : ℕ) (s : State) → set_variables (Some y) given line s ≡ Done tt s) → enter p (suc room) x (Some y) given line s ≡ (effects p (enter p room) x.body >>= λ _. pop) line (in_body x y given s)
  pieces x y given room line s none = ap (λ o. go_on o (λ _ t. go_on (push (frame_of p x (Some y) given) line t) (λ _ u. (effects p (enter p room) x.body >>= λ _. pop) line u))) (none line s)

  pub program_runs : (room : ℕ) (x : Routine) (n c r line : ℕ) (s : State) (rs : List (Option (List ℕ))) (outer : List (List ℕ)) → room + (base + 0) ≡ limit → TablesAre p fine is_there W first R code now base tables → length outer ≡ base → (code_is : ProgramCode x n) → R x → x.class ≡ Some c → Names p (region_path r) (type.Instance c) → is_there r ≡ true → W r → Fair_in [] s → s.frames ≡ [] → s.now ≡ now → Shows (region_shape p) is_there rs s.store
      → Leads code now (Goes (at_top n (Some (region_address r)) 0 s (first_locals rs (outer ++ replicate code_is.routine.locals 0 ∷ [])))) (λ (f : Frame) u z. at_top n (Some (region_address r)) (length (locals_begin p x.line 0 x.locals) + length (only_body x 0)) u z) (λ f u z. Left_by u z) (enter p (suc room) x (Some (region_path r)) [] line s)
  program_runs room x n c r line s rs outer at_depth known_tables deep code_is reach class named_so there writes fair none moment shows =
      let ok = closed x reach in
      let y = region_path r in
      let own : Option Address = Some (region_address r) in
      let l = region_there r (type.Instance c) named_so in
      let cl = locals_begin p x.line 0 x.locals in
      let cb = only_body x 0 ++ does (op.Ret 0) x.line ∷ [] in
      let image : List ℕ = replicate code_is.routine.locals 0 in
      let long : length image ≡ code_is.routine.locals = length-replicate code_is.routine.locals 0 in
      let fits = code_is.room in
      let kept_fits = code_is.behind in
      let small_one = code_is.short in
      let o : Outcome Frame = (effects p (enter p room) x.body >>= λ _. pop) line (in_body x y [] s) in
      let after : Frame → State → Memory → Config = λ _ u z. at_top n own (length cl + length (only_body x 0)) u z in
      let shown : Frame → State → Memory → Type 0 = λ _ u z. Left_by u z in
      let on_own = own_is_top x c y class named_so there writes in
      let fair2 = entered_fair p fine is_there W first R code now base tables small closed placed_so x (Some y) [] [] line s (in_body x y [] s) ok.0 on_own tt fair refl in
      let at_0 : 0 + length cl ≡ length cl = omega arith in
      ends.same_outcome code now (pieces x y [] room line s (λ line s. refl))
      (locals_next p code now n own [] [] x.line s.ticks after shown o base [] x.locals (first_locals rs outer) image 0 0 (locals_start p small x.locals ok.0.locals) (all_zeros code_is.routine.locals 0) (omega (arith, fits, long)) (ends.front code now n 0 cl cb code_is.stands)
      (λ image' begun.
      let same = begun.long in
      same_pc p code now n own [] [] x.line s.ticks after shown o (with_last (first_locals rs outer) image') [] (0 + length cl) (length cl) (omega arith)
      (body_ends room x n 0 y own line (length cl) (length image') (in_body x y [] s) (with_last (first_locals rs outer) image') ok (own_top x c y (record { address = region_address r; shape = l.0 }) class l.1) at_depth known_tables (omega (arith, kept_fits, long, same)) fair2
      (record {
        regions = shows;
        frames = (record { image = image'; there = ap (slice_get (outer ++ image' ∷ [])) (sym (let d : length outer ≡ base + 0 = omega (arith, deep) in d)) ∙ last_get outer image'; long = refl; own = refl; block = tt; slots = begun.slots; low = omega arith; room = omega (arith, same, long, fits); short = omega (arith, same, long, small_one); kept = tt }, frames_none s none (outer ++ image' ∷ []));
        deep = let d = length-append outer (image' ∷ []) in omega (arith, d, deep);
        moment = moment;
      })
      (subst (λ j. Stands code now n j cb) at_0 (ends.back code now n 0 cl cb code_is.stands)))))

  -- ---- the programs of a task

  -- the entry of a program instance in the code, and its body's code
  pub record EntryIs (r entry : ℕ) : Type 0 where
    pub body : Body
    pub there : slice_get code.bodies entry ≡ Some body
    pub region : body.region ≡ r
    pub code_is : (b : Routine) → program_body p r ≡ Some b → ProgramCode b body.routine

  abbrev pub EntriesAre : List ℕ → List ℕ → Type 0
  EntriesAre [] [] = Unit {0}
  EntriesAre (r ∷ rs) (e ∷ es) = EntryIs r e × EntriesAre rs es
  EntriesAre _ _ = ⊥

-- ---- tasks: a run begins with no locals but those of the body

module _ (p : Program) (fine : ProgramIs p) (is_there : ℕ → Bool) (W : ℕ → Type 0) (first : Store) (R : Routine → Type 0) (code : MachineCode) (now : ℕ) (tables : Tables) (small : Small p)
    (closed : (r : Routine) → R r → RoutineIs p r × All (Covered p (λ r. is_there r ≡ true) W R) (routine_uses p r)) (placed_so : OutputsPlaced p) where
  abbrev Good_state : State → Type 0
  Good_state s = Fair p fine small is_there W first R code now 0 tables [] s

  abbrev Code_of : Routine → ℕ → Type 0
  Code_of x n = ProgramCode p fine is_there W first R code now 0 tables small closed placed_so x n

  abbrev Entry : ℕ → ℕ → Type 0
  Entry r e = EntryIs p fine is_there W first R code now 0 tables small closed placed_so r e

  begin_is : (r entry : ℕ) (e : Entry r entry) (x : Routine) (c : Code_of x e.body.routine) (s : State) (rs : List (Option (List ℕ)))
      → body_begun code rs entry s.ticks ≡ Goes (record { here = record { routine = e.body.routine; next = 0; own = Some (record { space = Regions; index = r; offset = 0 }) }; words = []; around = []; memory = record { regions = rs; locals = replicate c.routine.locals 0 ∷ [] }; ticks = s.ticks })
  begin_is r entry e x c s rs =
      let with_routine : Body → RoutineCode → Step Config = λ b routine. Goes (begun_at b.routine routine (Some (record { space = Regions; index = b.region; offset = 0 })) (replicate routine.locals 0 ∷ []) rs s.ticks) in
      ap (λ o. some_or_stuck o >>=step λ b. some_or_stuck (slice_get code.routines b.routine) >>=step with_routine b) e.there
      ∙ (ap (λ o. some_or_stuck o >>=step with_routine e.body) c.there
      ∙ ap (λ j. Goes (begun_at e.body.routine c.routine (Some (record { space = Regions; index = j; offset = 0 })) (replicate c.routine.locals 0 ∷ []) rs s.ticks)) e.region)

  -- one program: its body on its instance
  one_program : (r entry line : ℕ) (b : Routine) (s : State) (rs : List (Option (List ℕ))) → TablesAre p fine is_there W first R code now 0 tables → Entry r entry → TaskRegionIs p r → is_there r ≡ true → W r → program_body p r ≡ Some b → R b → Good_state s → s.frames ≡ [] → s.now ≡ now → Shows (region_shape p) is_there rs s.store
      → EndsNow (Gives (machine_run code rs entry now s.ticks)) p is_there now (enter p (suc most_calls) b (Some (record { region = r; steps = [] })) [] line s)
  one_program r entry line b s rs known_tables e region there writes is reach fair none moment shows =
      let n = program_is p fine r b region is in
      let class = fine.bodies_own n.0 b n.1 in
      let c = e.code_is b is in
      let o : Outcome Frame = enter p (suc most_calls) b (Some (record { region = r; steps = [] })) [] line s in
      let own : Option Address = Some (record { space = Regions; index = r; offset = 0 }) in
      let end : ℕ = length (locals_begin p b.line 0 b.locals) + length (body_code p (plan_of p tables (scope_of b) 0) b.line b 0) in
      let after : Frame → State → Memory → Config = λ _ u z. record { here = record { routine = e.body.routine; next = end; own = own }; words = []; around = []; memory = z; ticks = u.ticks } in
      let shown : Frame → State → Memory → Type 0 = λ _ u z. Left_by p fine is_there W first R code now 0 tables small closed placed_so u z in
      let cl = locals_begin p b.line 0 b.locals in
      let cb = body_code p (plan_of p tables (scope_of b) 0) b.line b 0 in
      let back = ends.back code now e.body.routine 0 cl (cb ++ does (op.Ret 0) b.line ∷ []) c.stands in
      let at_0 : 0 + length cl ≡ length cl = omega arith in
      let ret : Stands code now e.body.routine end (does (op.Ret 0) b.line ∷ []) = ends.back code now e.body.routine (length cl) cb (does (op.Ret 0) b.line ∷ []) (subst (λ j. Stands code now e.body.routine j (cb ++ does (op.Ret 0) b.line ∷ [])) at_0 back) in
      ret_ends code now (body_begun code rs entry s.ticks) rs after shown is_there p o
      (ends.same_start code now (begin_is r entry e b c s rs) (program_runs p fine is_there W first R code now 0 tables small closed placed_so most_calls b e.body.routine n.0 r line s rs [] refl known_tables refl c reach class n.2 there writes fair none moment shows))
      (λ f u z i. (i.regions, ends_at_ret p fine is_there W first R code now 0 tables small closed placed_so b e.body.routine own end u z ret, i.moment))

  none_of : (fs : List Frame) → FramesAre p fine (λ r. is_there r ≡ true) W [] fs → fs ≡ []
  none_of [] h = refl
  none_of (f ∷ fs) h = absurd h

  body_there : (r : ℕ) (h : TaskRegionIs p r) → program_body p r ≡ Some h.text.body
  body_there r h = ap (λ o. o >>? λ x. body_of p (class_of_kind x.variable.kind)) h.there ∙ (ap (λ t. body_of p (class_of_kind t)) h.kind ∙ ap body_in h.class_there)

  pub programs_run : (rs es : List ℕ) → TablesAre p fine is_there W first R code now 0 tables → EntriesAre p fine is_there W first R code now 0 tables small closed placed_so rs es → ((r : ℕ) → Has rs r → TaskRegionIs p r × (is_there r ≡ true) × W r × ((b : Routine) → program_body p r ≡ Some b → R b))
      → (line : ℕ) (s : State) (regions : List (Option (List ℕ))) → Good_state s → s.frames ≡ [] → s.now ≡ now → Shows (region_shape p) is_there regions s.store
      → EndsAs (BodiesRun code now es regions s.ticks) p is_there (run_programs p rs line s)
  programs_run [] [] known_tables h k line s regions fair none moment shows = (regions, all_done, shows)
  programs_run [] (e ∷ es) known_tables h k line s regions fair none moment shows = absurd h
  programs_run (r ∷ rs) [] known_tables h k line s regions fair none moment shows = absurd h
  programs_run (r ∷ rs) (e ∷ es) known_tables h k line s regions fair none moment shows =
      let here = k r (inl refl) in
      let b = here.0.text.body in
      let is = body_there r here.0 in
      let reach = here.3 b is in
      let n = program_is p fine r b here.0 is in
      let q : Path = record { region = r; steps = [] } in
      let own = subst (λ o. OwnIs p fine (λ r. is_there r ≡ true) W o (Some q)) (sym (fine.bodies_own n.0 b n.1)) (n.2, here.1, here.2) in
      let typed = (calls_obey p fine (λ r. is_there r ≡ true) W first first R closed (suc most_calls)).by [] b (Some q) [] reach own tt in
      subst (EndsAs (BodiesRun code now (e ∷ es) regions s.ticks) p is_there) (sym (ap (λ o. go_on (there o line s) (λ b t. go_on (enter p (suc most_calls) b (Some q) [] line t) (λ _ u. run_programs p rs line u))) is))
      (by (enter p (suc most_calls) b (Some q) [] line s) refl (one_program r e line b s regions known_tables h.0 here.0 here.1 here.2 is reach fair none moment shows)
      (λ f t done. runs.told p fine small is_there W first R code now 0 tables {gs = []} {m = enter p (suc most_calls) b (Some q) []} {line = line} {s = s} typed fair f t done)
      (λ t left fair' moment' shows'. programs_run rs es known_tables h.1 (λ x i. k x (inr i)) line t left fair' (none_of t.frames fair'.frames) moment' shows'))
    where
      on : {A : Type 0} (o : Outcome A) (n : ℕ) (left : List (Option (List ℕ))) → Gives (machine_run code regions e now s.ticks) (outcome.Done n) left → EndsAs (BodiesRun code now es left n) p is_there o → EndsAs (BodiesRun code now (e ∷ es) regions s.ticks) p is_there o
      on (Done a t) n left g h = (h.0, one_done g h.1, h.2)
      on (Fault f l) n left g h = (h.0, one_done g h.1)

      by : (o : Outcome Frame) {Q : Frame → Type 0} → {o' : Outcome Frame} → o' ≡ o → EndsNow (Gives (machine_run code regions e now s.ticks)) p is_there now o → ((f : Frame) (t : State) → o' ≡ Done f t → Q f × Good_state t)
          → ((t : State) (left : List (Option (List ℕ))) → Good_state t → t.now ≡ now → Shows (region_shape p) is_there left t.store → EndsAs (BodiesRun code now es left t.ticks) p is_there (run_programs p rs line t))
          → EndsAs (BodiesRun code now (e ∷ es) regions s.ticks) p is_there (go_on o (λ _ u. run_programs p rs line u))
      by (Done f t) e' h fair' again = on (run_programs p rs line t) t.ticks h.0 h.1 (again t h.0 (fair' f t e').1 h.3 h.2)
      by (Fault q l) e' h fair' again = (h.0, one_faults h.1)

-- ---- a task on its footprint

among_has : (r : ℕ) (fs : List ℕ) → is_among r fs ≡ true → Has fs r
among_has r [] e = cc
among_has r (x ∷ xs) e = by (nat_eq r x) refl e (among_has r xs)
  where
    by : (b : Bool) → nat_eq r x ≡ b → (b || is_among r xs) ≡ true → (is_among r xs ≡ true → Has xs r) → Has (x ∷ xs) r
    by true q e g = inl (eqb-true r x q)
    by false q e g = inr (g e)

has_among : (r : ℕ) (fs : List ℕ) → Has fs r → is_among r fs ≡ true
has_among r [] h = absurd h
has_among r (x ∷ xs) h = ⊎_elim (λ q. ap (λ b. b || is_among r xs) (eq-eqb r x q)) (λ k. or_true (nat_eq r x) (is_among r xs) (has_among r xs k)) h
  where
    or_true : (a b : Bool) → b ≡ true → (a || b) ≡ true
    or_true true b e = refl
    or_true false b e = e

module _ (p : Program) (fine : ProgramIs p) (task : ℕ) (fs : List ℕ) (is : IsFootprint p task fs) where
  abbrev pub In_footprint : ℕ → Bool
  In_footprint r = is_among r fs

  routine_is : (x : Routine) → Reached p task x → RoutineIs p x
  routine_is x (begins q h e) = let a = program_is p fine q x (fine.tasks task q h) e in fine.bodies a.0 x a.1
  routine_is x (called k m h e) = entered_is p fine k x e

  covered_use : (x : Routine) → Reached p task x → (u : Use) → Has (routine_uses p x) u → Covered p (λ r. is_among r fs ≡ true) (Writes p task) (Reached p task) u
  covered_use x k (names g) h = has_among g fs (is.complete g (footprint.touched x (names g) k h refl))
  covered_use x k (follows t) h = λ q n. has_among q.region fs (is.complete q.region (footprint.touched x (follows t) k h (q, refl, n)))
  covered_use x k (calls c) h = λ y e. called c k h e
  covered_use x k (changes (the_region g)) h = footprint.altered x (changes (the_region g)) k h refl
  covered_use x k (changes (the_instances t)) h = λ q n. footprint.altered x (changes (the_instances t)) k h (q, refl, n)

  pub closed_in : (x : Routine) → Reached p task x → RoutineIs p x × All (Covered p (λ r. is_among r fs ≡ true) (Writes p task) (Reached p task)) (routine_uses p x)
  closed_in x k = (routine_is x k, all_of _ (routine_uses p x) (covered_use x k))

  -- The programs of a task in order, with all the ticks of a cycle, on images of its footprint: a cycle of the meaning without the taking in of inputs and the giving of outputs.
  pub task_runs : (code : MachineCode) (now : ℕ) (tables : Tables) (small : Small p) (placed_so : OutputsPlaced p) (store : Store) (regions : List (Option (List ℕ))) (entries : List ℕ)
      → now ≤ last_moment → GoodOn p (Footprint p task) store → Shows (region_shape p) (λ r. is_among r fs) regions store
      → TablesAre p fine (λ r. is_among r fs) (Writes p task) store (Reached p task) code now 0 tables
      → EntriesAre p fine (λ r. is_among r fs) (Writes p task) store (Reached p task) code now 0 tables small closed_in placed_so (programs_of p task) entries
      → EndsAs (BodiesRun code now entries regions all_ticks) p (λ r. is_among r fs) (run_task p task 0 (begun store now))
  task_runs code now tables small placed_so store regions entries in_time good shows tables_are are =
      programs_run p fine (λ r. is_among r fs) (Writes p task) store (Reached p task) code now tables small closed_in placed_so (programs_of p task) entries tables_are are
      (λ r h. (fine.tasks task r h, has_among r fs (is.complete r (footprint.Footprint.own_program h)), footprint.Writes.own_program h, λ b e. begins r h e))
      0 (begun store now) regions
      (record { same_frames = refl; same_ticks = refl; same_now = refl; timely = timely now in_time; frames = tt; good = λ r f. good r (is.sound r (among_has r fs f)); agree = λ r f. refl; stays = λ r n. refl; stays' = λ r n. refl; long = refl; long' = refl })
      refl refl shows
