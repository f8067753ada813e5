-- A call of a routine does what the routine does: what is before its body, the body, and what is behind it.
use Rattle.std.proofs.Common.{◌≡◌, ◌≤◌, ◌<◌, ℕ, zero, suc, ◌+◌, ◌-◌, ◌*◌, ℤ, pos, Bool, true, false, List, [], ◌∷◌, ◌++◌, length, Option, Some, None, refl, sym, ap, ◌∙◌, subst, arith, length-append, inl, append_assoc, ⊎_elim}
use Rattle.std.specs.Prelude.{if◌then◌else◌, ◌⊎◌, slice_get, nat_lt, replicate, nat_le, slice_range, take}
use Rattle.std.proofs.lemmas.List.{length-replicate}
use Rattle.std.proofs.lemmas.Bool.{lt-ltb, le-ltb, le-leb}
use Rattle.std.proofs.lemmas.Int.{ints}
use Rattle.plc_text.specs.declared.fault.FaultKind.TheVariants as fault
use Rattle.st_types.specs.Range.{Fits}
use Rattle.st_types.proofs.WideningLaws.{keeps}
use Rattle.st_types.specs.declared.st_type.StType.{StType}
use Rattle.st_types.specs.declared.elem.Elem.TheVariants as elem
use Rattle.mem_image.specs.Image.{written, value_at as number_at}
use Rattle.mem_image.proofs.PartLaws.{range_of_range}
use Rattle.st_tree.specs.Expression.{Output}
use Rattle.st_tree.specs.declared.path.Path.{Path}
use Rattle.st_tree.specs.declared.declaration.SectionSort.{SectionSort}
use Rattle.st_tree.specs.declared.declaration.SectionSort.TheVariants as sort
use Rattle.st_values.specs.Program.{Routine, Program}
use Rattle.st_values.specs.Value.{Store}
use Rattle.st_values.specs.Shape.{region_shape, Instance}
use Rattle.st_meaning.specs.State.{Spot, in_store, Frame, State, Outcome, Done, Fault, go_on, ◌>>=◌, read, ◌>>◌, push, pop, pop_from}
use Rattle.st_meaning.specs.Enter.{enter}
use Rattle.st_meaning.specs.st_frame.Promise.Names.{Scope}
use Rattle.st_meaning.specs.st_frame.Promise.Programs.{ProgramIs}
use Rattle.st_meaning.proofs.st_frame.Spots.{spot_shape, SpotIs, Meets, exactly, below, OwnIs, GivenAre, FrameIs, initial_fit, given_fit}
use Rattle.st_meaning.proofs.st_frame.Obeys.{Both, with_frames, Anything}
use Rattle.st_meaning.proofs.st_frame.Bodies.{All, Covered, CallsObey}
use Rattle.st_meaning.specs.Loop.{Flow, goes_on, exits, continues, returns as leaves}
use Rattle.st_meaning.specs.Statement.{effects}
use Rattle.st_meaning.specs.Expression.{place}
use Rattle.st_meaning.proofs.st_frame.Effects.{body_obeys}
use Rattle.st_meaning.specs.Call.{Given, frame_of, set_variables, initial_slots, with_given, is_output}
use Rattle.st_meaning.specs.st_frame.Use.{routine_uses}
use Rattle.st_meaning.specs.st_frame.Promise.Declarations.{RoutineIs, scope_of}
use Rattle.st_meaning.proofs.st_frame.Entered.{calls_obey, set_obeys}
use Rattle.stack_code.specs.declared.machine.Frame.{Frame as At}
use Rattle.stack_code.specs.declared.memory.Space.TheVariants.{Locals}
use Rattle.stack_code.specs.declared.memory.Address.{Address}
use Rattle.stack_code.specs.declared.memory.Word.{Word}
use Rattle.stack_code.specs.declared.code.MachineCode.{MachineCode}
use Rattle.stack_code.specs.Memory.{Memory, read as read_bytes, reference_of, moved, kept}
use Rattle.stack_code.specs.Steps.{Step, Goes, some_or_stuck, faults, ◌>>=◌ as ◌>>=step◌, asks, stuck}
use Rattle.stack_code.specs.Machine.{Config, limit, act, onward, with_arguments}
use Rattle.stack_code.specs.declared.code.RoutineCode.{RoutineCode}
use Rattle.stack_code.specs.declared.memory.Word.TheVariants as word
use Rattle.stack_code.specs.declared.op.Op.TheVariants as op
use Rattle.stack_code.specs.Machine as machine
use Rattle.mem_layout.specs.store_bytes.Spells.{Holds, Shows}
use Rattle.mem_layout.proofs.store_bytes.Leaves.{value_is, holds_written, keeps_written, length-written}
use Rattle.mem_layout.proofs.store_bytes.Moves.{kept_same, holds_moved}
use Rattle.code_cells.specs.declared.cell.Cell.{Cell}
use Rattle.code_cells.specs.declared.cell.Cell.TheVariants.{Does as does}
use Rattle.code_cells.specs.Cell.{Targets, behind}
use Rattle.code_rules.specs.Plan.{Tables}
use Rattle.code_rules.specs.Places.{result_place, of_parameter, locals_end, of_mask}
use Rattle.code_rules.specs.Bodies.{in_block, locals_begin, parameters_in, outputs_out, first_out, body_code}
use Rattle.code_rules.specs.Tops.{effects_top}
use Rattle.code_rules.specs.Routines.{called_plan}
use Rattle.shown_memory.specs.Shown.{Kept, Open, scopes, layouts, Located, located, FramesShown, Shown, Small, kept_number, SlotsShown}
use Rattle.shown_memory.proofs.Locals.{block_there, end_above}
use Rattle.shown_memory.specs.Passing.{Asks, BlockIs, Returned, RoomsAre, has_bit, with_block}
use Rattle.shown_memory.proofs.Geometry as geometry
use Rattle.memory_access.proofs.Likes.{local_there}
use Rattle.memory_access.proofs.KeptAddresses.{KeptAddress, kept_local, kept_place}
use Rattle.value_runs.proofs.Ends.{Leads, Stands, flow_at}
use Rattle.value_runs.proofs.Expressions.{Fair}
use Rattle.value_runs.proofs.Ends as ends
use Rattle.body_runs.proofs.Statements as bodies
use Rattle.call_forms.proofs.CallForm.{IsOwn, CallRuns, HasOwn, TablesAre, targets_are}
use Rattle.routine_exit.proofs.Leave.{leaves_next}
use Rattle.routine_entry.proofs.Starts.{locals_start}
use Rattle.routine_entry.proofs.Entry.{zeros_behind, all_zeros, with_last, Zeros, BlockThere, locals_next, parameters_next, same_pc, last_get}
use Rattle.routine_exit.proofs.Given.{for_ones, frames_more, frames_less}
use Rattle.routine_exit.proofs.OwnParts.{OwnThere, own_written, own_referred, own_copied}
use Rattle.call_bodies.proofs.CallStatements as st_calls
use Rattle.st_meaning.specs.st_frame.OutputPlaces.{OutputsPlaced}

split_last : (xs : List (List ℕ)) (n : ℕ) → length xs ≡ suc n → (ys : List (List ℕ)) × (y : List ℕ) × (xs ≡ ys ++ y ∷ []) × (length ys ≡ n)
split_last [] n e = absurd (omega (arith, e))
split_last (x ∷ []) n e = ([], x, refl, omega (arith, e))
split_last (x ∷ z ∷ zs) zero e = absurd (omega (arith, e))
split_last (x ∷ z ∷ zs) (suc n) e = let w = split_last (z ∷ zs) n (omega (arith, e)) in let l = w.3 in (x ∷ w.0, w.1, ap (λ l. x ∷ l) w.2, omega (arith, l))

some_once : {A : Type 0} {a b : A} → Some a ≡ Some b → a ≡ b
some_once e = cc

done_once : {A : Type 0} {a b : A} {s t : State} → Done a s ≡ Done b t → s ≡ t
done_once {A = A} {s = s} e = ap state_of e
  where
    state_of : Outcome A → State
    state_of (Done a t) = t
    state_of (Fault k l) = s

take_front : (xs : List (List ℕ)) (y : List ℕ) → take (length (xs ++ y ∷ []) - 1) (xs ++ y ∷ []) ≡ xs
take_front xs y = let l = length-append xs (y ∷ []) in let n : length (xs ++ y ∷ []) - 1 ≡ length xs = omega (arith, l) in ap (λ n. take n (xs ++ y ∷ [])) n ∙ front xs
  where
    front : (xs : List (List ℕ)) → take (length xs) (xs ++ y ∷ []) ≡ xs
    front [] = refl
    front (x ∷ xs) = ap (λ l. x ∷ l) (front xs)

module _ (p : Program) (fine : ProgramIs p) (is_there : ℕ → Bool) (W : ℕ → Type 0) (first : Store) (R : Routine → Type 0) (code : MachineCode) (now base : ℕ) (tables : Tables) (small : Small p)
    (closed : (r : Routine) → R r → RoutineIs p r × All (Covered p (λ r. is_there r ≡ true) W R) (routine_uses p r)) (placed_so : OutputsPlaced p) where
  reached : (room : ℕ) → CallsObey p fine (λ r. is_there r ≡ true) W first first R (enter p room)
  reached room = calls_obey p fine (λ r. is_there r ≡ true) W first first R closed room

  -- ---- the routine that is entered: its locals are new

  abbrev callee_at : Routine → Option Path → ℕ → ℕ → Open
  callee_at x q long w = record { scope = scope_of x; start = 8; own = q; free = locals_end p 8 x.locals; kept = []; long = long; block = Some w }

  abbrev block_number : ℕ → ℕ → ℕ
  block_number d block = kept_number p base (record { space = Locals; index = base + d; offset = block })

  abbrev in_callee : ℕ → Option Address → List At → List Word → ℕ → State → Memory → Config
  in_callee n own around under pc s m = record { here = record { routine = n; next = pc; own = own }; words = under; around = around; memory = m; ticks = s.ticks }

  -- where a call goes back to
  abbrev after_call : List At → List Word → Frame → State → Memory → Config
  after_call [] under f t m = record { here = record { routine = 0; next = 0; own = None }; words = under; around = []; memory = m; ticks = t.ticks }
  after_call (at ∷ around) under f t m = record { here = at; words = under; around = around; memory = m; ticks = t.ticks }

  abbrev nowhere : Targets
  nowhere = record { to_exit = 0; to_continue = 0; to_return = 0 }

  ends_here : (f : Flow) (end : ℕ) → flow_at nowhere end f ≡ end
  ends_here goes_on end = refl
  ends_here exits end = omega arith
  ends_here continues end = omega arith
  ends_here leaves end = omega arith

  own_is_there : (x : Routine) (q : Option Path) (own : Option Address) → IsOwn p fine is_there W first R code now base tables q own → HasOwn p fine is_there W first R code now base tables x.class q
      → (c : ℕ) → x.class ≡ Some c → (y : Path) × (l : Located) × (q ≡ Some y) × (own ≡ Some l.address) × (located p base [] (in_store y) ≡ Some l)
  own_is_there x q own io has c e = by q (subst (λ o. HasOwn p fine is_there W first R code now base tables o q) e has) io
    where
      by : (q : Option Path) → (y : Path) × (q ≡ Some y) → IsOwn p fine is_there W first R code now base tables q own → (y : Path) × (l : Located) × (q ≡ Some y) × (own ≡ Some l.address) × (located p base [] (in_store y) ≡ Some l)
      by None h io = let no : None ≡ Some h.0 = h.1 in cc
      by (Some y) h io = (y, io.0, refl, io.2, io.1)

  -- the same, with what its class tells
  own_there_is : (x : Routine) (q : Option Path) (own : Option Address) → IsOwn p fine is_there W first R code now base tables q own → HasOwn p fine is_there W first R code now base tables x.class q → OwnIs p fine (λ r. is_there r ≡ true) W x.class q
      → (c : ℕ) → x.class ≡ Some c → OwnThere p fine is_there W base x q own c
  own_there_is x q own io has on_own c e =
      let o = own_is_there x q own io has c e in
      let n : OwnIs p fine (λ r. is_there r ≡ true) W (Some c) (Some o.0) = subst (λ q. OwnIs p fine (λ r. is_there r ≡ true) W (Some c) q) o.2 (subst (λ c. OwnIs p fine (λ r. is_there r ≡ true) W c q) e on_own) in
      record { path = o.0; place = o.1; path_is = o.2; own_is = o.3; is = o.4; names = n.0; there = n.1 }

  -- values have their types in the state that is entered
  pub entered_fair : (x : Routine) (q : Option Path) (given : List Given) (gs : List Scope) (line : ℕ) (s t : State) → RoutineIs p x → OwnIs p fine (λ r. is_there r ≡ true) W x.class q → GivenAre p fine (λ r. is_there r ≡ true) W gs x.class x.locals given
      → Fair p fine small is_there W first R code now base tables gs s → (set_variables q given >>= λ _. push (frame_of p x q given)) line s ≡ Done tt t → Fair p fine small is_there W first R code now base tables (scope_of x ∷ gs) t
  entered_fair x q given gs line s t ok on_own args fair done = by (set_variables q given line s) ((set_obeys p fine (λ r. is_there r ≡ true) W first first R gs x.class q x.locals given on_own args).by line s s fair) done
    where
      is : FrameIs p fine (λ r. is_there r ≡ true) W gs (scope_of x) (frame_of p x q given)
      is = record { own = on_own; slots = given_fit p fine (λ r. is_there r ≡ true) W gs x.class x.locals given (initial_slots p x.locals) (initial_fit p fine (λ r. is_there r ≡ true) W gs x.locals ok.locals) args }

      by : (o : Outcome (Unit {0})) → Both p fine (λ r. is_there r ≡ true) W first first gs Anything o o → go_on o (λ _ u. push (frame_of p x q given) line u) ≡ Done tt t → Fair p fine small is_there W first R code now base tables (scope_of x ∷ gs) t
      by (Fault k l) h e = cc
      by (Done a u) h e =
          let same : record u { frames = frame_of p x q given ∷ u.frames } ≡ t = done_once e in
          subst (Fair p fine small is_there W first R code now base tables (scope_of x ∷ gs)) same
          (with_frames p fine (λ r. is_there r ≡ true) W first first gs (scope_of x ∷ gs) u u (frame_of p x q given ∷ u.frames) (frame_of p x q given ∷ u.frames) refl (is, h.2.frames) h.2)

  -- the address of a block is read as it was given
  decoded_block : (d block : ℕ) → block < 4294967296 → reference_of (pos (block_number d block)) ≡ word.Address (record { space = Locals; index = base + d; offset = block })
  decoded_block d block h = geometry.decoded_local (base + d) block h

  -- what the callee reads in the caller's block
  block_read : (x : Routine) (q : Option Path) (k : Open) (ks : List Open) (block : ℕ) (bytes : List ℕ) (rest : List Kept) (at long n pc : ℕ) (z : ℤ) (own : Option Address) (around : List At) (under : List Word) (s : State) (m : Memory)
      → Shown p base is_there now (callee_at x q long (block_number (length ks) block) ∷ (with_block p base k block bytes rest ∷ ks)) m s → block + length bytes < 4294967296 → at + 8 ≤ length bytes → Holds elem.Ulint z bytes at
      → Stands code now n pc (in_block x.line at ++ does (op.Load elem.Ulint) x.line ∷ [])
      → Leads code now (Goes (in_callee n own around under pc s m)) (λ (_ : Unit {0}) t y. in_callee n own around (word.Number z ∷ under) (pc + 1 + 1 + 1 + 1) t y) (λ _ t y. Shown p base is_there now (callee_at x q long (block_number (length ks) block) ∷ (with_block p base k block bytes rest ∷ ks)) y t) (Done tt s)
  block_read x q k ks block bytes rest at long n pc z own around under s m sh low fit holds has = by s.frames sh.frames
    where
      after : Unit {0} → State → Memory → Config
      after _ t y = in_callee n own around (word.Number z ∷ under) (pc + 1 + 1 + 1 + 1) t y

      deep : length m.locals - 1 ≡ base + length (k ∷ ks)
      deep = let d : length m.locals ≡ base + length (callee_at x q long (block_number (length ks) block) ∷ (with_block p base k block bytes rest ∷ ks)) = sh.deep in omega (arith, d)

      by : (fs : List Frame) → FramesShown p base (callee_at x q long (block_number (length ks) block) ∷ (with_block p base k block bytes rest ∷ ks)) fs m.locals
          → Leads code now (Goes (in_callee n own around under pc s m)) after (λ _ t y. Shown p base is_there now (callee_at x q long (block_number (length ks) block) ∷ (with_block p base k block bytes rest ∷ ks)) y t) (Done tt s)
      by [] h = absurd h
      by (f ∷ fs) h =
          let o = h.0 in
          let b = block_there p base k ks fs m.locals block bytes rest h.1 in
          let fits_own : 0 + 8 ≤ length o.image = let l = o.long in let r = o.room in let w = o.low in let e = end_above p base x.locals 8 in omega (arith, l, r, w, e) in
          let word_is = value_is elem.Ulint (pos (block_number (length ks) block)) o.image 0 o.block.1 in
          let inside : block + at + 8 ≤ length b.0 = let l = b.2 in omega (arith, l, fit) in
          let number_is : number_at elem.Ulint b.0 (block + at) ≡ z = value_is elem.Ulint z b.0 (block + at) (record { fits = holds.fits; stands = sym (range_of_range b.0 block (length bytes) at 8 fit) ∙ (ap (λ i. slice_range i at (at + 8)) b.3 ∙ holds.stands) }) in
          ends.step_leads code now (op.Local 0, x.line) has.0
          (ends.step_leads code now (op.LoadRef, x.line) has.1.0
          (subst (λ j. Leads code now (act code now op.LoadRef x.line (in_callee n own around (word.Address (record { space = Locals; index = j; offset = 0 }) ∷ under) (pc + 1) s m)) after (λ _ t y. Shown p base is_there now (callee_at x q long (block_number (length ks) block) ∷ (with_block p base k block bytes rest ∷ ks)) y t) (Done tt s)) (sym deep)
          (ends.goes_leads code now (read_bytes elem.Ulint m (record { space = Locals; index = base + length (k ∷ ks); offset = 0 })) (pos (block_number (length ks) block)) _
          (ap (λ i. i >>=step λ image. Goes (number_at elem.Ulint image 0)) (local_there m (base + length (k ∷ ks)) 0 8 o.image o.there fits_own) ∙ ap Goes word_is)
          (subst (λ w. Leads code now (Goes (in_callee n own around (w ∷ under) (pc + 1 + 1) s m)) after (λ _ t y. Shown p base is_there now (callee_at x q long (block_number (length ks) block) ∷ (with_block p base k block bytes rest ∷ ks)) y t) (Done tt s)) (sym (decoded_block (length ks) block (omega (arith, low))))
          (ends.step_leads code now (op.Offset at, x.line) has.1.1.0
          (ends.goes_leads code now (moved (record { space = Locals; index = base + length ks; offset = block }) at) _ _ (geometry.moved_by p fine (record { space = Locals; index = base + length ks; offset = block }) at (omega (arith, low, fit)))
          (ends.step_leads code now (op.Load elem.Ulint, x.line) has.1.1.1.0
          (ends.goes_leads code now (read_bytes elem.Ulint m (record { space = Locals; index = base + length ks; offset = block + at })) z _
          (ap (λ i. i >>=step λ image. Goes (number_at elem.Ulint image (block + at))) (local_there m (base + length ks) (block + at) 8 b.0 b.1 inside) ∙ ap Goes number_is)
          (ends.stays code now tt s m sh)))))))))

  -- initial values, and then what is given
  prologue_runs : (room : ℕ) (k : Open) (ks : List Open) (x : Routine) (n : ℕ) (q : Option Path) (own : Option Address) (around : List At) (under : List Word) (given : List Given) (block : ℕ) (bytes : List ℕ) (rest : List Kept) (mask line behind_at : ℕ) (s : State) (m : Memory) (image : List ℕ)
      → RoutineIs p x → GivenAre p fine (λ r. is_there r ≡ true) W (scopes (k ∷ ks)) x.class x.locals given → ((c : ℕ) → x.class ≡ Some c → OwnThere p fine is_there W base x q own c) → Shown p base is_there now (with_block p base k block bytes rest ∷ ks) m s → BlockIs p base (layouts (k ∷ ks)) x (record { space = Locals; index = base + length ks; offset = block }) behind_at x.parameters bytes mask given
      → base + length (k ∷ ks) ≤ 2147483647 → length x.parameters < result_place
      → Zeros image 8 → locals_end p 8 x.locals ≤ length image → length image < 4294967296
      → Holds elem.Ulint (pos (kept_number p base (record { space = Locals; index = base + length ks; offset = block }))) image 0
      → Stands code now n 0 (locals_begin p x.line 8 x.locals ++ parameters_in p (called_plan p tables x) x.line x 8 0 x.parameters)
      → (ticks : ℕ) → ticks ≡ s.ticks
      → Leads code now (Goes (record { here = record { routine = n; next = 0; own = own }; words = under; around = around; memory = record m { locals = m.locals ++ image ∷ [] }; ticks = ticks })) (λ (_ : Unit {0}) t y. in_callee n own around under (length (locals_begin p x.line 8 x.locals ++ parameters_in p (called_plan p tables x) x.line x 8 0 x.parameters)) t y)
      (λ _ t y. Shown p base is_there now (callee_at x q (length image) (block_number (length ks) block) ∷ (with_block p base k block bytes rest ∷ ks)) y t)
      ((set_variables q given >>= λ _. push (frame_of p x q given)) line s)
  prologue_runs room k ks x n q own around under given block bytes rest mask line behind_at s m image ok args owns sh bl few few_parameters zeros fits short own_word has ticks is =
      let kb = with_block p base k block bytes rest in
      let ls = layouts (k ∷ ks) in
      let cl = locals_begin p x.line 8 x.locals in
      let cp = parameters_in p (called_plan p tables x) x.line x 8 0 x.parameters in
      let f = frame_of p x q given in
      let all = for_ones p base small fine (λ r. is_there r ≡ true) W (scopes (k ∷ ks)) x ls (record { space = Locals; index = base + length ks; offset = block }) behind_at bytes (λ far l. starts_at far l) (addresses sh few) given ok bl.passed args in
      let there = block_there p base k ks s.frames m.locals block bytes rest sh.frames in
      let b : BlockThere m (base + length ks) block bytes = record { image = there.0; there = there.1; inside = there.2; stands = there.3; low = low s.frames sh.frames } in
      let after : Unit {0} → State → Memory → Config = λ _ t y. in_callee n own around under (length (cl ++ cp)) t y in
      let shows : Unit {0} → State → Memory → Type 0 = λ _ t y. Shown p base is_there now (callee_at x q (length image) (block_number (length ks) block) ∷ (kb ∷ ks)) y t in
      let o : Outcome (Unit {0}) = (set_variables q given >>= λ _. push f) line s in
      subst (λ j. Leads code now (Goes (record { here = record { routine = n; next = 0; own = own }; words = under; around = around; memory = with_last m image; ticks = j })) after shows o) (sym is)
      (locals_next p code now n own around under x.line s.ticks after shows o base ls x.locals m image 8 0 (locals_start p small x.locals ok.locals) zeros fits (ends.front code now n 0 cl cp has)
      (λ image1 begun.
      let l1 = begun.long in
      let word1 = holds_moved {e = elem.Ulint} (kept_same begun.keeps 0 0 8 (inl (omega arith))) own_word in
      parameters_next p base x ls (record { space = Locals; index = base + length ks; offset = block }) bytes tables code now n own around under s.ticks after shows o is_there q s f line (λ k v e z rs st. own_written p fine is_there W base small ls (record { space = Locals; index = base + length ks; offset = block }) bytes x q own s owns k v e z rs st) (λ k v path w rs st. own_referred p fine is_there W base small ls (record { space = Locals; index = base + length ks; offset = block }) bytes x q own s owns k v path w rs st) (λ k v w bs sh rs st. own_copied p fine is_there W base small ls (record { space = Locals; index = base + length ks; offset = block }) bytes x q own s owns k v w bs sh rs st) (length ks) block mask m b few_parameters bl.mask_kept bl.room ok.apart.by refl
      x.parameters 0 given (initial_slots p x.locals) image1 m.regions s.store (0 + length cl) (omega arith) (λ j. let e : 0 + j ≡ j = omega arith in ap (slice_get x.parameters) e)
      (record {
        all = all;
        once = bl.once;
        inputs = λ j r e o. bl.inputs j r e (output_is r.sort o);
        marked = λ j r l e o m. ⊎_elim (λ w. absurd (clash (sym o ∙ ap is_output w))) (λ w. w) (bl.marked j r e m);
        unmarked = bl.unmarked;
        past = λ j r l. absurd (omega (arith, l));
      })
      (record { slots = begun.slots; room = omega (arith, l1, fits); own_word = word1 }) (record { shows = sh.regions; toward = refl }) (ends.back code now n 0 cl cp has)
      (λ image2 rs2 st2 entered reaches l2.
      ends.same_outcome code now reaches.toward
      (same_pc p code now n own around under x.line s.ticks after shows (Done tt (record s { store = st2; frames = f ∷ s.frames })) (with_last (record m { regions = rs2 }) image2) under (0 + length cl + length cp) (length (cl ++ cp)) (let l = length-append cl cp in omega (arith, l))
      (ends.stays code now tt (record s { store = st2; frames = f ∷ s.frames }) (with_last (record m { regions = rs2 }) image2) (shown_then image2 rs2 st2 reaches.shows (l2 ∙ l1) entered.slots entered.own_word))))))
    where
      clash : false ≡ true → ⊥
      clash e = cc

      output_is : (o : SectionSort) → is_output o ≡ true → o ≡ sort.Output
      output_is sort.Output e = refl
      output_is o e = cc

      low : (fs : List Frame) → FramesShown p base (with_block p base k block bytes rest ∷ ks) fs m.locals → block + length bytes < 4294967296
      low [] h = absurd h
      low (f ∷ fs) h = let a = h.0.kept.0.below in let r = h.0.room in let l = h.0.short in omega (arith, a, r, l)

      starts_at : (far : ℕ) → far ≤ length bytes → KeptAddress p base (record { space = Locals; index = base + length ks; offset = block + far })
      starts_at far l = let h = low s.frames sh.frames in kept_local p base (base + length ks) (block + far) (omega (arith, few)) (omega (arith, h, l))

      addresses : Shown p base is_there now (with_block p base k block bytes rest ∷ ks) m s → base + length (k ∷ ks) ≤ 2147483647 → (spot : Spot) (t : StType) → SpotIs p fine (λ r. is_there r ≡ true) W (scopes (k ∷ ks)) spot t → (l : Located) × (located p base (layouts (k ∷ ks)) spot ≡ Some l) × KeptAddress p base l.address
      addresses sh few spot t h = by h.is
        where
          by : Meets p (spot_shape p (scopes (k ∷ ks)) spot) t → (l : Located) × (located p base (layouts (k ∷ ks)) spot ≡ Some l) × KeptAddress p base l.address
          by (exactly sh' u e) = let a = geometry.spot_located p base (k ∷ ks) spot sh' e in (a.0, a.1, kept_place p base is_there now (with_block p base k block bytes rest ∷ ks) spot a.0 s m small sh few a.1)
          by (below c d name fs q e w) = let a = geometry.spot_located p base (k ∷ ks) spot (Instance d name fs) e in (a.0, a.1, kept_place p base is_there now (with_block p base k block bytes rest ∷ ks) spot a.0 s m small sh few a.1)

      shown_then : (image2 : List ℕ) (rs2 : List (Option (List ℕ))) (st2 : Store) → Shows (region_shape p) is_there rs2 st2 → length image2 ≡ length image → SlotsShown p base (layouts (k ∷ ks)) x.locals (with_given (initial_slots p x.locals) given) image2 8 → Holds elem.Ulint (pos (kept_number p base (record { space = Locals; index = base + length ks; offset = block }))) image2 0
          → Shown p base is_there now (callee_at x q (length image) (block_number (length ks) block) ∷ (with_block p base k block bytes rest ∷ ks)) (with_last (record m { regions = rs2 }) image2) (record s { store = st2; frames = frame_of p x q given ∷ s.frames })
      shown_then image2 rs2 st2 regions same slots word = record {
        regions = regions;
        frames = (record { image = image2; there = ap (λ j. slice_get (m.locals ++ image2 ∷ []) j) (sym sh.deep) ∙ last_get m.locals image2; long = same; own = refl; block = (omega arith, word); slots = slots; low = omega arith; room = fits; short = short; kept = tt }, frames_more p base (with_block p base k block bytes rest ∷ ks) s.frames m.locals image2 sh.frames);
        deep = let l = length-append m.locals (image2 ∷ []) in let d : length m.locals ≡ base + length (with_block p base k block bytes rest ∷ ks) = sh.deep in omega (arith, l, d);
        moment = sh.moment;
      }

  -- the parameters that are called have bytes in the block
  record CalledSo (x : Routine) (mask size : ℕ) : Type 0 where
    few : length x.parameters < result_place
    room : 24 ≤ size
    asked : (i : ℕ) → i < result_place → has_bit mask i ≡ true → of_parameter i + 8 ≤ size

  -- outputs and the result to the block, and back
  epilogue_runs : (k : Open) (ks : List Open) (x : Routine) (n : ℕ) (q : Option Path) (own : Option Address) (at : At) (around : List At) (under : List Word) (block : ℕ) (bytes : List ℕ) (rest : List Kept) (mask line pc long : ℕ) (asks : Asks) (s : State) (m : Memory)
      → RoutineIs p x → CalledSo x mask (length bytes) → Holds elem.Ulint (pos mask) bytes of_mask → RoomsAre p base x (record { space = Locals; index = base + length ks; offset = block }) bytes mask rest asks
      → Shown p base is_there now (callee_at x q long (block_number (length ks) block) ∷ (with_block p base k block bytes rest ∷ ks)) m s
      → Stands code now n pc (outputs_out p (called_plan p tables x) x.line x 8 0 x.parameters ++ (first_out p (called_plan p tables x) x.line x 8 (slice_get x.locals 0) ++ does (op.Ret 0) x.line ∷ []))
      → Leads code now (Goes (record { here = record { routine = n; next = pc; own = own }; words = under; around = at ∷ around; memory = m; ticks = s.ticks }))
      (λ (f : Frame) t y. record { here = at; words = under; around = around; memory = y; ticks = t.ticks })
      (λ f t y. Returned p base is_there now k ks block rest x.parameters (length bytes) asks mask f t y) (pop line s)
  epilogue_runs k ks x n q own at around under block bytes rest mask line pc long asks s m ok so mask_kept rooms_are sh has = by s.frames refl sh.frames
    where
      back_to : Frame → State → Memory → Config
      back_to f t y = record { here = at; words = under; around = around; memory = y; ticks = t.ticks }

      leaves : Frame → State → Memory → Type 0
      leaves f t y = Returned p base is_there now k ks block rest x.parameters (length bytes) asks mask f t y

      by : (fs : List Frame) → s.frames ≡ fs → FramesShown p base (callee_at x q long (block_number (length ks) block) ∷ (with_block p base k block bytes rest ∷ ks)) fs m.locals
          → Leads code now (Goes (record { here = record { routine = n; next = pc; own = own }; words = under; around = at ∷ around; memory = m; ticks = s.ticks })) back_to leaves (pop_from fs line s)
      by [] e h = absurd h
      by (f ∷ fs) e h =
          let o = h.0 in
          let d : length m.locals ≡ base + length (callee_at x q long (block_number (length ks) block) ∷ (with_block p base k block bytes rest ∷ ks)) = sh.deep in
          let w = split_last m.locals (base + length (k ∷ ks)) (omega (arith, d)) in
          let m0 : Memory = record m { locals = w.0 } in
          let t : State = record s { frames = fs } in
          let last : w.1 ≡ o.image = some_once (sym (last_get w.0 w.1) ∙ (ap (λ l. slice_get l (length w.0)) (sym w.2) ∙ (ap (λ j. slice_get m.locals j) w.3 ∙ o.there))) in
          let whole : m.locals ≡ w.0 ++ o.image ∷ [] = w.2 ∙ ap (λ i. w.0 ++ i ∷ []) last in
          let frames = frames_less p base (with_block p base k block bytes rest ∷ ks) fs w.0 w.1 (let g = w.3 in omega (arith, g)) (subst (FramesShown p base (with_block p base k block bytes rest ∷ ks) fs) w.2 h.1) in
          let sh0 : Shown p base is_there now (with_block p base k block bytes rest ∷ ks) m0 t = record { regions = sh.regions; frames = frames; deep = w.3; moment = sh.moment } in
          let l = o.long in
          let r = o.room in
          let low = o.low in
          subst (λ y. Leads code now (Goes (record { here = record { routine = n; next = pc; own = own }; words = under; around = at ∷ around; memory = record m { locals = y }; ticks = s.ticks })) back_to leaves (Done f t)) (sym whole)
          (leaves_next p base is_there now k ks block rest tables code n own (at ∷ around) under x back_to leaves (Done f t) o.image mask s.ticks t o.block.1 (omega (arith, l, r, low)) f o.slots ok bytes so.room so.asked small so.few asks rooms_are m0 pc mask_kept sh0 has
          (λ bs' rest' m' left rest_left shows.
          ends.same_start code now (ap (λ y. Goes (record { here = at; words = under; around = around; memory = record m' { locals = y }; ticks = s.ticks })) (take_front m'.locals o.image))
          (ends.stays code now f t m' (record { bytes = bs'; rest' = rest'; left = left; rest_left = rest_left; shown = shows }))))

  -- the locals at the beginning, with the address of the block
  abbrev new_image : RoutineCode → Address → List ℕ
  new_image routine b = written elem.Ulint (replicate routine.locals 0) 0 (pos (kept_number p base b))

  abbrev entered : RoutineCode → ℕ → Option Address → List Word → List Word → Config → Step Config
  entered routine n own args under c = with_arguments 0 args (replicate routine.locals 0) >>=step λ image.
      Goes (record { here = record { routine = n; next = 0; own = own }; words = under; around = onward c.here ∷ c.around; memory = record c.memory { locals = c.memory.locals ++ image ∷ [] }; ticks = c.ticks })

  joined : (a b d : List Cell) (n : ℕ) → Stands code now n 0 (a ++ (b ++ d)) → Stands code now n 0 ((a ++ b) ++ d)
  joined a b d n h = subst (Stands code now n 0) (sym (append_assoc a b d)) h

  entered_is : (x : Routine) (of : RoutineCode) (b : Address) (block n : ℕ) (own : Option Address) (under : List Word) (c : Config) → KeptAddress p base b → 8 ≤ of.locals → entered of n own (word.Address b ∷ []) under c ≡ Goes (record { here = record { routine = n; next = 0; own = own }; words = under; around = onward c.here ∷ c.around; memory = record c.memory { locals = c.memory.locals ++ new_image of b ∷ [] }; ticks = c.ticks })
  entered_is x of b block n own under c keeps room =
      let k = keeps.keeps in
      let zeros : List ℕ = replicate of.locals 0 in
      let long : length zeros ≡ of.locals = length-replicate of.locals 0 in
      let enough : nat_le (8 * 0 + 8) (length zeros) ≡ true = le-leb (8 * 0 + 8) (length zeros) (omega (arith, long, room)) in
      let go : List ℕ → Step Config = λ image. Goes (record { here = record { routine = n; next = 0; own = own }; words = under; around = onward c.here ∷ c.around; memory = record c.memory { locals = c.memory.locals ++ image ∷ [] }; ticks = c.ticks }) in
      ap (λ x. (x >>=step λ v. asks (nat_le (8 * 0 + 8) (length zeros)) zeros >>=step λ room. Goes (written elem.Ulint room (8 * 0) v)) >>=step go) k
      ∙ ap (λ t. ((if t then Goes zeros else stuck) >>=step λ room. Goes (written elem.Ulint room (8 * 0) (pos (kept_number p base b)))) >>=step go) enough

  image_keeps : (of : RoutineCode) (b : Address) → 8 ≤ of.locals → Fits elem.Ulint (pos (kept_number p base b)) → Holds elem.Ulint (pos (kept_number p base b)) (new_image of b) 0
  image_keeps of b room fits = let long : length {A = ℕ} (replicate of.locals 0) ≡ of.locals = length-replicate of.locals 0 in holds_written elem.Ulint (pos (kept_number p base b)) (replicate of.locals 0) 0 fits (omega (arith, long, room))

  image_long : (of : RoutineCode) (b : Address) → 8 ≤ of.locals → length (new_image of b) ≡ of.locals
  image_long of b room = let long : length {A = ℕ} (replicate of.locals 0) ≡ of.locals = length-replicate of.locals 0 in length-written elem.Ulint (pos (kept_number p base b)) (replicate of.locals 0) 0 (omega (arith, long, room)) ∙ long

  image_zeros : (of : RoutineCode) (b : Address) → 8 ≤ of.locals → Zeros (new_image of b) 8
  image_zeros of b room =
      let long : length {A = ℕ} (replicate of.locals 0) ≡ of.locals = length-replicate of.locals 0 in
      zeros_behind (replicate of.locals 0) (new_image of b) 8 0 8 (keeps_written elem.Ulint (pos (kept_number p base b)) (replicate of.locals 0) 0 (omega (arith, long, room))) (length-written elem.Ulint (pos (kept_number p base b)) (replicate of.locals 0) 0 (omega (arith, long, room))) (omega arith) (all_zeros of.locals 8)

  -- what a routine does, in the order of its code
  parts : (x : Routine) (q : Option Path) (given : List Given) (room line : ℕ) (s : State) → enter p (suc room) x q given line s ≡ go_on ((set_variables q given >>= λ _. push (frame_of p x q given)) line s) (λ _ t. (effects p (enter p room) x.body >>= λ _. pop) line t)
  parts x q given room line s = by (set_variables q given line s)
    where
      by : (o : Outcome (Unit {0})) → go_on o (λ _ t. go_on (push (frame_of p x q given) line t) (λ _ u. (effects p (enter p room) x.body >>= λ _. pop) line u)) ≡ go_on (go_on o (λ _ t. push (frame_of p x q given) line t)) (λ _ t. (effects p (enter p room) x.body >>= λ _. pop) line t)
      by (Done a t) = refl
      by (Fault k l) = refl

  -- the body, and what is behind it
  body_runs : (room : ℕ) (k : Open) (ks : List Open) (x : Routine) (n : ℕ) (q : Option Path) (own : Option Address) (caller : At) (outer : List At) (under : List Word) (given : List Given) (block : ℕ) (bytes : List ℕ) (rest : List Kept) (mask line : ℕ) (asks : Asks) (s t : State) (m : Memory) (image : List ℕ) (at : ℕ)
      → RoutineIs p x × All (Covered p (λ r. is_there r ≡ true) W R) (routine_uses p x) → CalledSo x mask (length bytes) → Holds elem.Ulint (pos mask) bytes of_mask → RoomsAre p base x (record { space = Locals; index = base + length ks; offset = block }) bytes mask rest asks → R x → OwnIs p fine (λ r. is_there r ≡ true) W x.class q → GivenAre p fine (λ r. is_there r ≡ true) W (scopes (k ∷ ks)) x.class x.locals given
      → Fair p fine small is_there W first R code now base tables (scopes (k ∷ ks)) s → IsOwn p fine is_there W first R code now base tables q own → HasOwn p fine is_there W first R code now base tables x.class q → (set_variables q given >>= λ _. push (frame_of p x q given)) line s ≡ Done tt t
      → Shown p base is_there now (callee_at x q (length image) (block_number (length ks) block) ∷ (with_block p base k block bytes rest ∷ ks)) m t
      → Stands code now n at (body_code p (called_plan p tables x) x.line x 8 ++ (outputs_out p (called_plan p tables x) x.line x 8 0 x.parameters ++ (first_out p (called_plan p tables x) x.line x 8 (slice_get x.locals 0) ++ does (op.Ret 0) x.line ∷ [])))
      → CallRuns p fine is_there W first R code now base tables room → room + (base + suc (length ks)) ≡ limit → TablesAre p fine is_there W first R code now base tables → effects_top (called_plan p tables x) (locals_end p 8 x.locals) x.body ≤ length image
      → Leads code now (Goes (in_callee n own (caller ∷ outer) under at t m)) (after_call (caller ∷ outer) under) (λ f t m. Returned p base is_there now k ks block rest x.parameters (length bytes) asks mask f t m) ((effects p (enter p room) x.body >>= λ _. pop) line t)
  body_runs room k ks x n q own caller outer under given block bytes rest mask line asks s t m image at ok so mask_kept rooms_are reach on_own args fair io has_own done sh has calls at_depth known_tables top =
      let g = callee_at x q (length image) (block_number (length ks) block) in
      let ks' = with_block p base k block bytes rest ∷ ks in
      let cb = body_code p (called_plan p tables x) x.line x 8 in
      let to : Targets = record { to_exit = 0; to_continue = 0; to_return = 0 } in
      let fair2 : Fair p fine small is_there W first R code now base tables (scopes (g ∷ ks')) t = entered_fair x q given (scopes (k ∷ ks)) line s t ok.0 on_own args fair done in
      let own_there = own_is_there x q own io has_own in
      let routines : (x : Routine) → R x → RoutineIs p x = λ x e. (closed x e).0 in
      let value_calls = st_calls.value_calls p fine small is_there W first R code now base tables room (reached room) g ks' n own (caller ∷ outer) own_there calls at_depth known_tables routines placed_so in
      let statement_calls = st_calls.statement_calls p fine small is_there W first R code now base tables room (reached room) g ks' n own (caller ∷ outer) own_there calls at_depth known_tables routines placed_so in
      let typed = body_obeys p fine (λ r. is_there r ≡ true) W first first R (enter p room) (reached room) (scope_of x) (scopes ks') x.body ok.0.body ok.1 in
      ends.then_leads code now (λ (_ : Flow) u y. in_callee n own (caller ∷ outer) under (at + length cb) u y) (λ _ u y. Shown p base is_there now (g ∷ ks') y u)
      (ends.and_leads code now (bodies.flows p fine small is_there W first R code now base tables room (reached room) g ks' n own (caller ∷ outer) own_there value_calls to (at + length cb) under) (λ _ u y. Shown p base is_there now (g ∷ ks') y u)
      (bodies.effects_run p fine small is_there W first R code now base tables room (reached room) g ks' n own (caller ∷ outer) own_there value_calls (targets_are p fine is_there W first R code now base tables known_tables) statement_calls x.body to (locals_end p 8 x.locals) at line [] under t m top ok.0.body ok.1 fair2 sh (ends.front code now n at cb _ has))
      (λ f u y i _. settles f u y i (at + length cb)))
      (λ f u y i _. epilogue_runs k ks x n q own caller outer under block bytes rest mask line (at + length cb) (length image) asks u y ok.0 so mask_kept rooms_are i (ends.back code now n at cb _ has))
    where
      settles : (f : Flow) (u : State) (y : Memory) → Shown p base is_there now (callee_at x q (length image) (block_number (length ks) block) ∷ (with_block p base k block bytes rest ∷ ks)) y u → (end : ℕ)
          → Leads code now (Goes (record { here = record { routine = n; next = flow_at nowhere end f; own = own }; words = under; around = caller ∷ outer; memory = y; ticks = u.ticks })) (λ (_ : Flow) u y. in_callee n own (caller ∷ outer) under end u y) (λ _ u y. Shown p base is_there now (callee_at x q (length image) (block_number (length ks) block) ∷ (with_block p base k block bytes rest ∷ ks)) y u) (Done f u)
      settles f u y i end = subst (λ j. Leads code now (Goes (in_callee n own (caller ∷ outer) under j u y)) (λ (_ : Flow) u y. in_callee n own (caller ∷ outer) under end u y) (λ _ u y. Shown p base is_there now (callee_at x q (length image) (block_number (length ks) block) ∷ (with_block p base k block bytes rest ∷ ks)) y u) (Done f u)) (sym (ends_here f end)) (ends.stays code now f u y i)

  -- ---- a call of a routine does what the routine does

  block_is_low : (k : Open) (ks : List Open) (block : ℕ) (bytes : List ℕ) (rest : List Kept) (s : State) (m : Memory) → Shown p base is_there now (with_block p base k block bytes rest ∷ ks) m s → block < 4294967296
  block_is_low k ks block bytes rest s m sh = by s.frames sh.frames
    where
      by : (fs : List Frame) → FramesShown p base (with_block p base k block bytes rest ∷ ks) fs m.locals → block < 4294967296
      by [] h = absurd h
      by (f ∷ fs) h = let a = h.0.kept.0.below in let r = h.0.room in let l = h.0.short in omega (arith, a, r, l)

  depth_is : (k : Open) (ks : List Open) (m : Memory) (s : State) → Shown p base is_there now (k ∷ ks) m s → length m.locals - 1 ≡ base + length ks
  depth_is k ks m s sh = let d : length m.locals ≡ base + length (k ∷ ks) = sh.deep in omega (arith, d)

  pub calls_run : TablesAre p fine is_there W first R code now base tables → (room : ℕ) → CallRuns p fine is_there W first R code now base tables room
  calls_run known_tables zero = record {
    by = λ k ks x n q own given block bytes rest mask line floor asks c under s reach few on_own args fair sh ticks depth of io has_own bl rooms_are.
        let d = depth_is (with_block p base k block bytes rest) ks c.memory s sh in
        let no : nat_lt (length c.memory.locals - 1) limit ≡ false = le-ltb (length c.memory.locals - 1) limit (omega (arith, d, depth)) in
        let w : List Word = word.Address (record { space = Locals; index = base + length ks; offset = block }) ∷ [] in
        ends.faults_leads code now (ap (λ o. some_or_stuck o >>=step λ routine. machine.enter n routine own w under line c) of.there
        ∙ ap (λ b. if b then entered of.routine n own w under c else faults fault.Depth line) no);
  }
  calls_run known_tables (suc room) = record {
    by = λ k ks x n q own given block bytes rest mask line floor asks c under s reach few on_own args fair sh ticks depth of io has_own bl rooms_are.
        let d = depth_is (with_block p base k block bytes rest) ks c.memory s sh in
        let ok = closed x reach in
        let yes_deep : nat_lt (length c.memory.locals - 1) limit ≡ true = lt-ltb (length c.memory.locals - 1) limit (omega (arith, d, depth)) in
        let b : Address = record { space = Locals; index = base + length ks; offset = block } in
        let w : List Word = word.Address b ∷ [] in
        let image = new_image of.routine b in
        let cl = locals_begin p x.line 8 x.locals in
        let cp = parameters_in p (called_plan p tables x) x.line x 8 0 x.parameters in
        let cb = body_code p (called_plan p tables x) x.line x 8 in
        let co = outputs_out p (called_plan p tables x) x.line x 8 0 x.parameters ++ (first_out p (called_plan p tables x) x.line x 8 (slice_get x.locals 0) ++ does (op.Ret 0) x.line ∷ []) in
        let at = length (cl ++ cp) in
        let to : Targets = record { to_exit = 0; to_continue = 0; to_return = 0 } in
        let around = onward c.here ∷ c.around in
        let fits = of.room in
        let of_behind = of.behind in
        let low = block_is_low k ks block bytes rest s c.memory sh in
        let keeps : KeptAddress p base b = kept_local p base (base + length ks) block (omega (arith, depth)) low in
        let block_fits : Fits elem.Ulint (pos (kept_number p base b)) = (omega (arith, ints), omega (arith, ints, low, depth)) in
        let at_least : 8 ≤ of.routine.locals = let e = end_above p base x.locals 8 in omega (arith, e, fits) in
        let long = image_long of.routine b at_least in
        let stands = joined cl cp (cb ++ co) n of.stands in
        let begin : 0 + at ≡ at = omega arith in
        let has_b = subst (λ j. Stands code now n j (cb ++ co)) begin (ends.back code now n 0 (cl ++ cp) (cb ++ co) stands) in
        ends.same_start code now (ap (λ o. some_or_stuck o >>=step λ routine. machine.enter n routine own w under line c) of.there
        ∙ (ap (λ b. if b then entered of.routine n own w under c else faults fault.Depth line) yes_deep ∙ entered_is x of.routine b block n own under c keeps at_least))
        (ends.same_outcome code now (parts x q given room line s)
        (ends.then_leads code now (λ (_ : Unit {0}) t y. in_callee n own around under at t y) (λ _ t y. Shown p base is_there now (callee_at x q (length image) (block_number (length ks) block) ∷ (with_block p base k block bytes rest ∷ ks)) y t)
        (prologue_runs room k ks x n q own around under given block bytes rest mask line floor s c.memory image ok.0 args (own_there_is x q own io has_own on_own) sh bl (omega (arith, depth)) few (image_zeros of.routine b at_least) (omega (arith, long, fits)) (omega (arith, long, of.short)) (image_keeps of.routine b at_least block_fits) (ends.front code now n 0 (cl ++ cp) (cb ++ co) stands) c.ticks ticks)
        (λ _ t y shown done. body_runs room k ks x n q own (onward c.here) c.around under given block bytes rest mask line asks s t y image at ok (record { few = few; room = bl.room; asked = bl.asked }) bl.mask_kept rooms_are reach on_own args fair io has_own done shown has_b
        (calls_run known_tables room) (omega (arith, depth)) known_tables (omega (arith, long, of_behind)))));
  }
