-- A hook that the machine runs with its flags does what the meaning's hook does.
use Rattle.std.proofs.Common.{◌≡◌, ◌≤◌, ◌<◌, ℕ, zero, suc, ◌+◌, ◌-◌, ◌*◌, Bool, true, false, List, [], ◌∷◌, ◌++◌, length, Option, Some, refl, sym, ap, ◌∙◌, subst, arith, length-append, inl, inr}
use Rattle.std.specs.Prelude.{if◌then◌else◌, slice_get, replicate, nat_le, take, map, slice_set}
use Rattle.std.proofs.lemmas.List.{length-replicate}
use Rattle.std.proofs.lemmas.Bool.{le-leb}
use Rattle.std.proofs.lemmas.Int.{ints}
use Rattle.plc_text.specs.declared.fault.FaultKind.TheVariants as fault
use Rattle.st_meaning.specs.st_frame.OutputPlaces.{OutputsPlaced}
use Rattle.st_types.specs.Range.{Fits}
use Rattle.st_types.proofs.WideningLaws.{keeps}
use Rattle.st_types.specs.Elem.{bytes}
use Rattle.st_types.specs.declared.elem.Elem.TheVariants as elem
use Rattle.st_types.specs.declared.st_type.StType.TheVariants as type
use Rattle.plc_num.proofs.WrappingLaws.{wrapped-fits}
use Rattle.mem_image.specs.Image.{written}
use Rattle.st_tree.specs.declared.path.Path.{Path}
use Rattle.st_values.specs.Program.{Variable, Parameter, Routine, Program, to_local}
use Rattle.st_values.specs.Value.{number, Store}
use Rattle.st_values.specs.Shape.{Shape, Elementary, region_shape, Instance, shape_of}
use Rattle.st_meaning.specs.State.{in_store, Frame, State, Outcome, Done, go_on, ◌>>=◌, Slot, holds, ◌>>◌, spend_from, push, pop, there}
use Rattle.st_meaning.specs.Enter.{enter, most_calls}
use Rattle.st_meaning.specs.st_frame.Promise.Programs.{ProgramIs}
use Rattle.st_meaning.specs.st_frame.Promise.Calls.{kind}
use Rattle.st_meaning.specs.st_frame.Promise.Types.{IsBool}
use Rattle.st_meaning.specs.st_frame.Good.{Fit, Names}
use Rattle.st_meaning.proofs.st_frame.Spots.{below, GivenAre, GivenIs}
use Rattle.st_meaning.proofs.st_frame.Bodies.{All, Covered, local_kind}
use Rattle.st_meaning.specs.Statement.{effects}
use Rattle.st_meaning.specs.Call.{Given, for_local, frame_of, set_variables, initial_slots, with_given, given_value, is_in_out}
use Rattle.st_meaning.specs.st_frame.Use.{routine_uses}
use Rattle.st_meaning.specs.st_frame.Promise.Declarations.{RoutineIs, scope_of, Each}
use Rattle.st_meaning.specs.Cycle.{begun}
use Rattle.st_meaning.proofs.st_frame.Whole.{timely}
use Rattle.st_meaning.specs.Operation.{truth}
use Rattle.stack_code.specs.declared.memory.Address.{Address}
use Rattle.stack_code.specs.declared.code.MachineCode.{MachineCode}
use Rattle.stack_code.specs.Memory.{Memory, read as read_bytes, kept}
use Rattle.stack_code.specs.Steps.{Step, Goes, some_or_stuck, ◌>>=◌ as ◌>>=step◌, asks, stuck, Stops, fault_at}
use Rattle.stack_code.specs.Machine.{Config, on, with_arguments, Gives, follow, exec, begun as begun_at, flag, spent, hook_begun, hook}
use Rattle.stack_code.specs.declared.code.RoutineCode.{RoutineCode}
use Rattle.stack_code.specs.declared.op.Op.TheVariants as op
use Rattle.stack_code.specs.Machine as machine
use Rattle.mem_layout.specs.store_bytes.Spells.{Holds, Shows}
use Rattle.mem_layout.proofs.store_bytes.Leaves.{value_is, holds_written, keeps_written, length-written}
use Rattle.mem_layout.proofs.store_bytes.Moves.{kept_same, holds_moved}
use Rattle.mem_layout.specs.store_bytes.StoreLaws.{Keeps as KeepsBytes}
use Rattle.code_cells.specs.declared.cell.Cell.{Cell}
use Rattle.code_cells.specs.declared.cell.Cell.TheVariants.{Does as does}
use Rattle.code_cells.specs.Cell.{behind}
use Rattle.code_rules.specs.Plan.{Tables, plan_of}
use Rattle.code_rules.specs.Places.{locals_end, width, size_in, local_offset}
use Rattle.code_rules.specs.Bodies.{locals_begin, body_code, hook_code, flags_in}
use Rattle.code_rules.specs.Tops.{effects_top}
use Rattle.shown_memory.specs.Shown.{located, Small, SlotsShown}
use Rattle.shown_memory.proofs.Locals.{end_above, offset_above, offset_below, slot_given}
use Rattle.value_runs.proofs.Ends.{Leads, Stands}
use Rattle.value_runs.proofs.Expressions.{Fair}
use Rattle.value_runs.proofs.Ends as ends
use Rattle.body_runs.proofs.Statements.{elementary_shape}
use Rattle.routine_entry.proofs.Starts.{locals_start}
use Rattle.call_runs.proofs.Calls.{entered_fair}
use Rattle.routine_entry.proofs.Entry.{zeros_behind, all_zeros, with_last, Zeros, locals_next, same_pc, at_last, last_read, keeps_all, keeps_two, local_next, store_next, Next}
use Rattle.call_forms.proofs.CallForm.{TablesAre}
use Rattle.st_change.specs.StoreLaws.{IsFlag}
use Rattle.st_change.specs.Hook.{given_flags}
use Rattle.task_runs.specs.Hook.{flags_of, hook_run}
use Rattle.task_runs.specs.Task.{EndsAs}
use Rattle.task_runs.proofs.Tasks.{Left_by, ret_ends, ends_as, body_ends, ends_at_ret, own_top, own_is_top, frames_none, pieces}

false_true : false ≡ true → ⊥
false_true e = cc

-- ---- flags as argument words

-- each flag stands in its eight bytes, from the i-th on
abbrev pub AllFlags : List ℕ → ℕ → List Bool → Type 0
AllFlags image i [] = Unit {0}
AllFlags image i (b ∷ bs) = Holds elem.Ulint (machine.truth b) image (8 * i) × AllFlags image (suc i) bs

flag_fits : (b : Bool) → Fits elem.Ulint (machine.truth b)
flag_fits true = (omega (arith, ints), omega (arith, ints))
flag_fits false = (omega (arith, ints), omega (arith, ints))

flag_bool : (b : Bool) → Fits elem.Bool (machine.truth b)
flag_bool true = (omega (arith, ints), omega (arith, ints))
flag_bool false = (omega (arith, ints), omega (arith, ints))

truth_is : (b : Bool) → truth b ≡ number (machine.truth b)
truth_is true = refl
truth_is false = refl

flags_moved : (image image' : List ℕ) (off n i : ℕ) (bs : List Bool) → KeepsBytes image image' off n → 8 * (i + length bs) ≤ off → AllFlags image i bs → AllFlags image' i bs
flags_moved image image' off n i [] k l h = tt
flags_moved image image' off n i (b ∷ bs) k l h =
    (holds_moved {e = elem.Ulint} (kept_same k (8 * i) 0 8 (inl (omega (arith, l)))) h.0, flags_moved image image' off n (suc i) bs k (omega (arith, l)) h.1)

flags_above : (image image' : List ℕ) (off n i : ℕ) (bs : List Bool) → KeepsBytes image image' off n → off + n ≤ 8 * i → AllFlags image i bs → AllFlags image' i bs
flags_above image image' off n i [] k l h = tt
flags_above image image' off n i (b ∷ bs) k l h =
    (holds_moved {e = elem.Ulint} (kept_same k (8 * i) 0 8 (inr (omega (arith, l)))) h.0, flags_above image image' off n (suc i) bs k (omega (arith, l)) h.1)

-- the locals of a hook at its beginning
record Flagged (i : ℕ) (bs : List Bool) (image : List ℕ) : Type 0 where
  left : List ℕ
  is : with_arguments i (map flag bs) image ≡ Goes left
  long : length left ≡ length image
  flags : AllFlags left i bs
  keeps : KeepsBytes image left (8 * i) (8 * length bs)
  zeros : Zeros left (8 * (i + length bs))

flagged : (i : ℕ) (bs : List Bool) (image : List ℕ) → 8 * (i + length bs) ≤ length image → Zeros image (8 * i) → Flagged i bs image
flagged i [] image room zeros = record { left = image; is = refl; long = refl; flags = tt; keeps = keeps_all image (8 * i) (8 * 0); zeros = record { by = λ j n a b. zeros.by j n (omega (arith, a)) b } }
flagged i (b ∷ bs) image room zeros =
    let z = machine.truth b in
    let fit : 8 * i + 8 ≤ length image = omega (arith, room) in
    let image1 = written elem.Ulint image (8 * i) z in
    let long1 = length-written elem.Ulint z image (8 * i) fit in
    let keeps1 = keeps_written elem.Ulint z image (8 * i) fit in
    let zeros1 : Zeros image1 (8 * suc i) = zeros_behind image image1 (8 * suc i) (8 * i) 8 keeps1 long1 (omega arith) (record { by = λ j n a b. zeros.by j n (omega (arith, a)) b }) in
    let r = flagged (suc i) bs image1 (omega (arith, room, long1)) zeros1 in
    let enough : nat_le (8 * i + 8) (length image) ≡ true = le-leb (8 * i + 8) (length image) fit in
    record {
      left = r.left;
      is = ap (λ x. asks (nat_le (8 * i + 8) (length image)) image >>=step λ room. with_arguments (suc i) (map flag bs) (written elem.Ulint room (8 * i) x)) (wrapped-fits elem.Ulint z (flag_fits b))
          ∙ (ap (λ t. (if t then Goes image else stuck) >>=step λ room. with_arguments (suc i) (map flag bs) (written elem.Ulint room (8 * i) z)) enough ∙ r.is);
      long = r.long ∙ long1;
      flags = (holds_moved {e = elem.Ulint} (kept_same r.keeps (8 * i) 0 8 (inl (omega arith))) (holds_written elem.Ulint z image (8 * i) (flag_fits b) fit), r.flags);
      keeps = keeps_two (8 * i) (8 * length (b ∷ bs)) keeps1 r.keeps (omega arith) (omega arith) (omega arith) (omega arith);
      zeros = record { by = λ j n a b. r.zeros.by j n (omega (arith, a)) b };
    }

-- ---- flags to their locals

given_is : (q : Parameter) (n : ℕ) (b : Bool) → q.to ≡ to_local n → given_value q.to (truth b) ≡ for_local n (holds (truth b))
given_is q n b e = ap (λ y. given_value y (truth b)) e

pub flags_none : (x : Routine) (own : Option Path) (qs : List Parameter) (bs : List Bool) (line : ℕ) (s : State) → Each (IsFlag x) qs → set_variables own (given_flags qs bs) line s ≡ Done tt s
flags_none x own [] bs line s h = refl
flags_none x own (q ∷ qs) [] line s h = refl
flags_none x own (q ∷ qs) (b ∷ bs) line s h = ap (λ g. set_variables own (g ∷ given_flags qs bs) line s) (given_is q h.0.0 b h.0.2) ∙ flags_none x own qs bs line s h.1

module _ (p : Program) (base : ℕ) (x : Routine) (start : ℕ) (tables : Tables) (code : MachineCode) (now n : ℕ) (own : Option Address) (ticks : ℕ) {A : Type 0} (after : A → State → Memory → Config) (shown : A → State → Memory → Type 0) (o : Outcome A) where
  pub record In_hook (ss : List Slot) (image : List ℕ) : Type 0 where
    pub slots : SlotsShown p base [] x.locals ss image start
    pub room : locals_end p start x.locals ≤ length image

  bool_wide : (v : Variable) → is_in_out v.sort ≡ false → IsBool v.kind → (shape_of p v.kind ≡ Some (Elementary elem.Bool)) × (width p v ≡ 1)
  bool_wide v i k =
      let sh : shape_of p v.kind ≡ Some (Elementary elem.Bool) = ap (shape_of p) k ∙ elementary_shape p elem.Bool in
      (sh, ap (λ b. if b then 8 else size_in (shape_of p v.kind)) i ∙ ap size_in sh)

  pub flags_next : (qs : List Parameter) (bs : List Bool) (i : ℕ) (ss : List Slot) (m : Memory) (image : List ℕ) (pc : ℕ) → length bs ≡ length qs → 8 * (i + length bs) ≤ start → Each (IsFlag x) qs → AllFlags image i bs → In_hook ss image
      → Stands code now n pc (flags_in p (plan_of p tables (scope_of x) start) x.line x start i qs)
      → ((image' : List ℕ) → In_hook (with_given ss (given_flags qs bs)) image' → length image' ≡ length image → Next p code now n own [] [] x.line ticks after shown o (pc + length (flags_in p (plan_of p tables (scope_of x) start) x.line x start i qs)) [] (with_last m image'))
      → Next p code now n own [] [] x.line ticks after shown o pc [] (with_last m image)
  flags_next [] [] i ss m image pc same room each flags h has k = same_pc p code now n own [] [] x.line ticks after shown o (with_last m image) [] pc (pc + 0) (omega arith) (k image h refl)
  flags_next [] (b ∷ bs) i ss m image pc same room each flags h has k = absurd (omega (arith, same))
  flags_next (q ∷ qs) [] i ss m image pc same room each flags h has k = absurd (omega (arith, same))
  flags_next (q ∷ qs) (b ∷ bs) i ss m image pc same room each flags h has k =
      let c = each.0.0 in
      let v = each.0.1 in
      let to = each.0.2 in
      let in_locals = each.0.3 in
      let w = bool_wide v each.0.4 each.0.5 in
      let off = local_offset p start x.locals c in
      let above = offset_above p base x.locals start c in
      let below = offset_below p base x.locals start c v in_locals in
      let h_room = h.room in
      let wide = w.1 in
      let fit : off + 1 ≤ length image = omega (arith, below, h_room, wide) in
      let z = machine.truth b in
      let image1 = written elem.Bool image off z in
      let long1 = length-written elem.Bool z image off fit in
      let keeps1 = keeps_written elem.Bool z image off fit in
      let h1 : In_hook (slice_set ss c (holds (number z))) image1 = record {
        slots = slot_given p base image image1 off 1 keeps1 [] x.locals ss start c v (holds (number z)) h.slots in_locals refl (sym wide) (each.0.4, (Elementary elem.Bool, w.0, (z, refl, holds_written elem.Bool z image off (flag_bool b) fit)));
        room = omega (arith, long1, h_room);
      } in
      let given : with_given ss (given_flags (q ∷ qs) (b ∷ bs)) ≡ with_given (slice_set ss c (holds (number z))) (given_flags qs bs) =
      ap (λ g. with_given ss (g ∷ given_flags qs bs)) (given_is q c b to) ∙ ap (λ y. with_given (slice_set ss c (holds y)) (given_flags qs bs)) (truth_is b) in
      let rest = flags_in p (plan_of p tables (scope_of x) start) x.line x start (suc i) qs in
      let code_is : flags_in p (plan_of p tables (scope_of x) start) x.line x start i (q ∷ qs) ≡ does (op.Local (8 * i)) x.line ∷ (does (op.Load elem.Ulint) x.line ∷ (does (op.Local off) x.line ∷ (does (op.Store elem.Bool) x.line ∷ rest))) = ap (λ y. flags_in p (plan_of p tables (scope_of x) start) x.line x start i (record q { to = y } ∷ qs)) to in
      subst (λ c. Stands code now n pc c → ((image' : List ℕ) → In_hook (with_given ss (given_flags (q ∷ qs) (b ∷ bs))) image' → length image' ≡ length image → Next p code now n own [] [] x.line ticks after shown o (pc + length c) [] (with_last m image')) → Next p code now n own [] [] x.line ticks after shown o pc [] (with_last m image)) (sym code_is)
      (λ has k.
      local_next p code now n own [] [] x.line ticks after shown o m image (8 * i) pc [] (has.0, tt)
      (ends.step_leads code now (op.Load elem.Ulint, x.line) has.1.0
      (ends.goes_leads code now (read_bytes elem.Ulint (with_last m image) (at_last m (8 * i))) z _ (last_read elem.Ulint m image (8 * i) (omega (arith, room, h_room, above, below)) ∙ ap Goes (value_is elem.Ulint z image (8 * i) flags.0))
      (store_next p code now n own [] [] x.line ticks after shown o elem.Bool m image off (pc + 1 + 1) z [] fit (has.1.1.0, (has.1.1.1.0, tt))
      (subst (λ y. Next p code now n own [] [] x.line ticks after shown o (pc + 1 + 1 + 1 + 1) [] (with_last m (written elem.Bool image off y))) (sym (wrapped-fits elem.Bool z (flag_bool b)))
      (flags_next qs bs (suc i) (slice_set ss c (holds (number z))) m image1 (pc + 1 + 1 + 1 + 1) (omega (arith, same)) (omega (arith, room)) each.1 (flags_moved image image1 off 1 (suc i) bs keeps1 (omega (arith, room, above)) flags.1) h1 has.1.1.1.1
      (λ image' h' long'. same_pc p code now n own [] [] x.line ticks after shown o (with_last m image') [] (pc + 1 + 1 + 1 + 1 + length rest) (pc + suc (suc (suc (suc (length rest))))) (omega arith)
      (k image' (subst (λ l. In_hook l image') (sym given) h') (long' ∙ long1)))))))))
      has k

-- ---- a hook is the first open call, and its moment is 0

takes_map : (n : ℕ) (bs : List Bool) → take n (map flag bs) ≡ map flag (take n bs)
takes_map zero bs = refl
takes_map (suc n) [] = refl
takes_map (suc n) (b ∷ bs) = ap (λ l. flag b ∷ l) (takes_map n bs)

taken_long : (n : ℕ) (a b : Bool) → n ≤ 2 → length (take n (a ∷ (b ∷ []))) ≡ n
taken_long zero a b l = refl
taken_long (suc zero) a b l = refl
taken_long (suc (suc zero)) a b l = refl
taken_long (suc (suc (suc n))) a b l = absurd (omega (arith, l))

module _ (p : Program) (fine : ProgramIs p) (is_there : ℕ → Bool) (W : ℕ → Type 0) (base_store : Store) (R : Routine → Type 0) (code : MachineCode) (tables : Tables) (small : Small p)
    (closed : (r : Routine) → R r → RoutineIs p r × All (Covered p (λ r. is_there r ≡ true) W R) (routine_uses p r)) (placed_so : OutputsPlaced p) where
  pub record HookCode (x : Routine) (n : ℕ) : Type 0 where
    pub routine : RoutineCode
    pub there : slice_get code.routines n ≡ Some routine
    pub line : routine.line ≡ x.line
    pub args : length routine.args ≡ length x.parameters
    pub room : locals_end p (8 * length x.parameters) x.locals ≤ routine.locals
    pub behind : effects_top (plan_of p tables (scope_of x) (8 * length x.parameters)) (locals_end p (8 * length x.parameters) x.locals) x.body ≤ routine.locals
    pub short : routine.locals < 4294967296
    pub stands : Stands code 0 n 0 (hook_code p (plan_of p tables (scope_of x) (8 * length x.parameters)) x.line x (8 * length x.parameters))

  flag_given : (x : Routine) (q : Parameter) (b : Bool) → RoutineIs p x → IsFlag x q → GivenIs p fine (λ r. is_there r ≡ true) W [] x.class x.locals (given_value q.to (truth b))
  flag_given x q b ok f =
      let l = local_kind p fine x f.0 f.1 ok f.3 f.4 in
      let sh : l.0 ≡ Elementary elem.Bool = some_is (sym l.1 ∙ (ap (shape_of p) f.5 ∙ elementary_shape p elem.Bool)) in
      subst (GivenIs p fine (λ r. is_there r ≡ true) W [] x.class x.locals) (sym (given_is q f.0 b f.2))
      (f.1, f.3, (f.4, (l.0, l.1, l.2, subst (λ y. Fit p y (truth b)) (sym sh) (subst (Fit p (Elementary elem.Bool)) (sym (truth_is b)) (flag_bool b)))))
    where
      some_is : {a b : Shape} → Some a ≡ Some b → a ≡ b
      some_is e = cc

  all_given : (x : Routine) (qs : List Parameter) (bs : List Bool) → RoutineIs p x → Each (IsFlag x) qs → GivenAre p fine (λ r. is_there r ≡ true) W [] x.class x.locals (given_flags qs bs)
  all_given x [] bs ok h = tt
  all_given x (q ∷ qs) [] ok h = tt
  all_given x (q ∷ qs) (b ∷ bs) ok h = (flag_given x q b ok h.0, all_given x qs bs ok h.1)

  abbrev Fair_hook : State → Type 0
  Fair_hook s = Fair p fine small is_there W base_store R code 0 1 tables [] s

  -- A hook by the machine with its flags is the hook of the meaning, as a change or a first load calls FB_init, FB_exit and FB_reinit.
  pub hook_runs : (x : Routine) (n c : ℕ) (y : Path) (own : Address) (first second : Bool) (s : State) (regions : List (Option (List ℕ))) → HookCode x n → R x → x.class ≡ Some c → Each (IsFlag x) x.parameters → length x.parameters ≤ 2
      → Names p y (type.Instance c) → is_there y.region ≡ true → W y.region → (sh : Shape) → located p 1 [] (in_store y) ≡ Some (record { address = own; shape = sh })
      → Fair_hook s → s.frames ≡ [] → s.now ≡ 0 → Shows (region_shape p) is_there regions s.store
      → TablesAre p fine is_there W base_store R code 0 1 tables
      → EndsAs (Gives (hook code regions n own first second s.ticks)) p is_there (hook_run p x y (flags_of x first second) x.line s)
  hook_runs x n c y own first second s regions h reach class flags few named_so there writes sh at fair none moment shows tables_are = by s.ticks refl
    where
      bs : List Bool
      bs = flags_of x first second

      so_long : length bs ≡ length x.parameters
      so_long = taken_long (length x.parameters) first second few

      image0 : List ℕ
      image0 = replicate h.routine.locals 0

      long0 : length image0 ≡ h.routine.locals
      long0 = length-replicate h.routine.locals 0

      start : ℕ
      start = 8 * length x.parameters

      f0 : Flagged 0 bs image0
      f0 = flagged 0 bs image0 (let r = h.room in let e = end_above p 1 x.locals (8 * length x.parameters) in let l = long0 in let w = so_long in omega (arith, r, e, l, w)) (all_zeros h.routine.locals 0)

      own_at : Option Address
      own_at = Some own

      given : List Given
      given = given_flags x.parameters bs

      cl : List Cell
      cl = locals_begin p x.line (8 * length x.parameters) x.locals

      cf : List Cell
      cf = flags_in p (plan_of p tables (scope_of x) (8 * length x.parameters)) x.line x (8 * length x.parameters) 0 x.parameters

      cb : List Cell
      cb = body_code p (plan_of p tables (scope_of x) (8 * length x.parameters)) x.line x (8 * length x.parameters)

      begun_hook : (left : ℕ) → Config
      begun_hook left = record { here = record { routine = n; next = 0; own = Some own }; words = []; around = []; memory = record { regions = regions; locals = [] ∷ (f0.left ∷ []) }; ticks = left }

      words_are : take (length h.routine.args) (flag first ∷ (flag second ∷ [])) ≡ map flag bs
      words_are = ap (λ k. take k (flag first ∷ (flag second ∷ []))) h.args ∙ takes_map (length x.parameters) (first ∷ (second ∷ []))

      begin_is : (left : ℕ) → hook_begun code regions n own first second (suc left) ≡ Goes (begun_hook left)
      begin_is left =
          let on_image : RoutineCode → List ℕ → Step Config = λ routine image. Goes (begun_at n routine (Some own) ([] ∷ (image ∷ [])) regions left) in
          ap (λ o. some_or_stuck o >>=step λ routine. with_arguments 0 (take (length routine.args) (flag first ∷ (flag second ∷ []))) (replicate routine.locals 0) >>=step on_image routine) h.there
          ∙ (ap (λ ws. with_arguments 0 ws image0 >>=step on_image h.routine) words_are
          ∙ ap (λ z. z >>=step on_image h.routine) f0.is)

      no_ticks : hook_begun code regions n own first second 0 ≡ Stops (fault_at fault.Watchdog x.line)
      no_ticks = ap (λ o. some_or_stuck o >>=step λ routine. spent routine.line 0 >>=step λ left. with_arguments 0 (take (length routine.args) (flag first ∷ (flag second ∷ []))) (replicate routine.locals 0) >>=step λ image. Goes (begun_at n routine (Some own) ([] ∷ (image ∷ [])) regions left)) h.there
          ∙ ap (λ l. Stops (fault_at fault.Watchdog l)) h.line

      entered_state : ℕ → State
      entered_state left = record s { ticks = left; frames = frame_of p x (Some y) given ∷ s.frames }

      runs_from : (left : ℕ) → Fair_hook (record s { ticks = left }) → Leads code 0 (hook_begun code regions n own first second (suc left)) (λ (_ : Frame) u z. record { here = record { routine = n; next = length (cl ++ cf) + length cb; own = Some own }; words = []; around = []; memory = z; ticks = u.ticks })
          (λ _ u z. Left_by p fine is_there W base_store R code 0 1 tables small closed placed_so u z) (enter p most_calls x (Some y) given x.line (record s { ticks = left }))
      runs_from left fair' =
          let ok = closed x reach in
          let s' : State = record s { ticks = left } in
          let m0 : Memory = record { regions = regions; locals = [] ∷ [] } in
          let after : Frame → State → Memory → Config = λ _ u z. record { here = record { routine = n; next = length (cl ++ cf) + length cb; own = Some own }; words = []; around = []; memory = z; ticks = u.ticks } in
          let shown : Frame → State → Memory → Type 0 = λ _ u z. Left_by p fine is_there W base_store R code 0 1 tables small closed placed_so u z in
          let o : Outcome Frame = (effects p (enter p 63) x.body >>= λ _. pop) x.line (entered_state left) in
          let stands = h.stands in
          let cr = cb ++ does (op.Ret 0) x.line ∷ [] in
          let on_own = own_is_top p fine is_there W base_store R code 0 1 tables small closed placed_so x c y class named_so there writes in
          let fair2 = entered_fair p fine is_there W base_store R code 0 1 tables small closed placed_so x (Some y) given [] x.line s' (entered_state left) ok.0 on_own (all_given x x.parameters bs ok.0 flags) fair' (ap (λ o. go_on o (λ _ t. push (frame_of p x (Some y) given) x.line t)) (flags_none x (Some y) x.parameters bs x.line s' flags)) in
          let fits = h.room in
          let l0 = long0 in
          let f0_long = f0.long in
          let small_one = h.short in
          let zeros : Zeros f0.left (8 * length x.parameters) = record { by = λ j k a b. f0.zeros.by j k (let w = so_long in omega (arith, a, w)) b } in
          ends.same_start code 0 (begin_is left)
          (ends.same_outcome code 0 (pieces p fine is_there W base_store R code 0 1 tables small closed placed_so x y given 63 x.line s' (λ line s. flags_none x (Some y) x.parameters bs line s flags))
          (locals_next p code 0 n own_at [] [] x.line left after shown o 1 [] x.locals m0 f0.left (8 * length x.parameters) 0 (locals_start p small x.locals ok.0.locals) zeros (omega (arith, fits, l0, f0_long)) (ends.front code 0 n 0 cl (cf ++ cr) stands)
          (λ image1 begun.
          let l1 = begun.long in
          flags_next p 1 x (8 * length x.parameters) tables code 0 n own_at left after shown o x.parameters bs 0 (initial_slots p x.locals) m0 image1 (0 + length cl) so_long (let w = so_long in omega (arith, w)) flags
          (flags_moved f0.left image1 (8 * length x.parameters) (locals_end p (8 * length x.parameters) x.locals - 8 * length x.parameters) 0 bs begun.keeps (let w = so_long in omega (arith, w)) f0.flags)
          (record { slots = begun.slots; room = omega (arith, l1, fits, l0, f0_long) }) (ends.front code 0 n (0 + length cl) cf cr (ends.back code 0 n 0 cl (cf ++ cr) stands))
          (λ image2 h2 l2.
          let at : ℕ = length (cl ++ cf) in
          let both = length-append cl cf in
          let here : 0 + length cl + length cf ≡ at = omega (arith, both) in
          same_pc p code 0 n own_at [] [] x.line left after shown o (with_last m0 image2) [] (0 + length cl + length cf) at (omega (arith, both))
          (body_ends p fine is_there W base_store R code 0 1 tables small closed placed_so 63 x n (8 * length x.parameters) y own_at x.line at (length image2) (entered_state left) (with_last m0 image2) ok
          (own_top p fine is_there W base_store R code 0 1 tables small closed placed_so x c y (record { address = own; shape = sh }) class at_own) refl tables_are (let g = h.behind in omega (arith, g, l2, l1, l0, f0_long)) fair2
          (record {
            regions = shows;
            frames = (record { image = image2; there = refl; long = refl; own = refl; block = tt; slots = h2.slots; low = omega arith; room = h2.room; short = omega (arith, l2, l1, l0, f0_long, small_one); kept = tt }, frames_none p fine is_there W base_store R code 0 1 tables small closed placed_so s none (([] ∷ []) ++ image2 ∷ []));
            deep = refl;
            moment = moment;
          })
          (subst (λ j. Stands code 0 n j cr) here (ends.back code 0 n (0 + length cl) cf cr (ends.back code 0 n 0 cl (cf ++ cr) stands))))))))
        where
          at_own : located p 1 [] (in_store y) ≡ Some (record { address = own; shape = sh })
          at_own = at

      ret_there : Stands code 0 n (length (cl ++ cf) + length cb) (does (op.Ret 0) x.line ∷ [])
      ret_there =
          let cr = cb ++ does (op.Ret 0) x.line ∷ [] in
          let both = length-append cl cf in
          let here : 0 + length cl + length cf + length cb ≡ length (cl ++ cf) + length cb = omega (arith, both) in
          subst (λ j. Stands code 0 n j (does (op.Ret 0) x.line ∷ [])) here (ends.back code 0 n (0 + length cl + length cf) cb (does (op.Ret 0) x.line ∷ []) (ends.back code 0 n (0 + length cl) cf cr (ends.back code 0 n 0 cl (cf ++ cr) h.stands)))

      with_fewer : (left : ℕ) → s.ticks ≡ suc left → Fair_hook (record s { ticks = left })
      with_fewer left e = record { same_frames = refl; same_ticks = refl; same_now = refl; timely = fair.timely; frames = fair.frames; good = fair.good; agree = fair.agree; stays = fair.stays; stays' = fair.stays'; long = fair.long; long' = fair.long' }

      by : (k : ℕ) → s.ticks ≡ k → EndsAs (Gives (hook code regions n own first second s.ticks)) p is_there (hook_run p x y bs x.line s)
      by zero e =
          subst (λ k. EndsAs (Gives (hook code regions n own first second k)) p is_there (go_on (spend_from k x.line s) (λ _ t. enter p most_calls x (Some y) given x.line t))) (sym e)
          (regions, record { count = 0; ends = ap (λ b. follow b regions (exec code 0 0)) no_ticks })
      by (suc left) e =
          subst (λ k. EndsAs (Gives (hook code regions n own first second k)) p is_there (go_on (spend_from k x.line s) (λ _ t. enter p most_calls x (Some y) given x.line t))) (sym e)
          (ends_as (Gives (hook code regions n own first second (suc left))) p is_there 0 (enter p most_calls x (Some y) given x.line (record s { ticks = left }))
          (ret_ends code 0 (hook_begun code regions n own first second (suc left)) regions (λ (_ : Frame) u z. record { here = record { routine = n; next = length (cl ++ cf) + length cb; own = Some own }; words = []; around = []; memory = z; ticks = u.ticks })
          (λ (_ : Frame) u z. Left_by p fine is_there W base_store R code 0 1 tables small closed placed_so u z) is_there p (enter p most_calls x (Some y) given x.line (record s { ticks = left }))
          (runs_from left (with_fewer left e))
          (λ f u z i. (i.regions, ends_at_ret p fine is_there W base_store R code 0 1 tables small closed placed_so x n own_at (length (cl ++ cf) + length cb) u z ret_there, i.moment))))
