-- The outputs of a call: each is read from the block or from the instance, and goes to its place.
use Rattle.std.proofs.Common.{◌≡◌, ◌≤◌, ℕ, zero, suc, ◌+◌, ◌-◌, ℤ, pos, Bool, true, false, List, [], ◌∷◌, ◌++◌, length, Option, Some, None, refl, sym, ap, ◌∙◌, subst, arith, length-append, inl, inr}
use Rattle.std.specs.Prelude.{slice_range, if◌then◌else◌, slice_get, nat_eq, ◌||◌, max}
use Rattle.std.proofs.lemmas.Bool.{eq-eqb}
use Rattle.std.proofs.lemmas.List.{append_assoc}
use Rattle.st_types.specs.declared.elem.Elem.{Elem}
use Rattle.st_types.specs.Range.{Fits}
use Rattle.st_types.proofs.WideningLaws.{keeps}
use Rattle.st_types.specs.declared.st_type.StType.{StType}
use Rattle.st_types.specs.Elem.{bytes as width_of}
use Rattle.st_types.specs.declared.elem.Elem.TheVariants as elem
use Rattle.st_types.specs.declared.st_type.StType.TheVariants as type
use Rattle.plc_num.specs.Wrapping.{wrapped}
use Rattle.mem_image.proofs.PartLaws.{range_of_range}
use Rattle.mem_image.specs.Image.{written, value_at as number_at}
use Rattle.st_tree.specs.declared.expression.Root.{Root}
use Rattle.st_tree.specs.declared.program.Note.{Note}
use Rattle.st_tree.specs.Expression.{Selectors, Positional, Input, Output, Arguments, no_arguments, argument_then}
use Rattle.st_tree.specs.declared.path.Path.{Path}
use Rattle.st_tree.specs.declared.program.Target.TheVariants as target
use Rattle.st_tree.specs.declared.declaration.SectionSort.TheVariants as sort
use Rattle.st_rules.specs.Chains.{is_among}
use Rattle.st_values.specs.Program.{Variable, Parameter, Routine, Program, to_local, Interface, to_variable, class_variables}
use Rattle.st_values.specs.Value.{Value, number, reference, instance, Store}
use Rattle.st_values.specs.Shape.{Shape, Elementary, Instance, Fields, path_shape, region_shape, shape_of}
use Rattle.st_meaning.specs.Operation.{elem_of}
use Rattle.st_meaning.specs.State.{Spot, in_store, Frame, State, Outcome, Done, Fault, Run, go_on, ◌>>=◌, gives, read, there, holds, bound, unbound, Slot, held_by, frame_value, write, into}
use Rattle.st_meaning.specs.Place.{root_note}
use Rattle.st_meaning.specs.Expression.{placed, along, value, outputs, output_of, place_value}
use Rattle.st_meaning.specs.Enter.{enter}
use Rattle.st_meaning.specs.st_frame.Use.{argument_uses, Use, root_uses, along_uses, expression_uses, last_kind, owner_uses, root_owner, is_bound, bound_uses}
use Rattle.st_meaning.specs.st_frame.Promise.Names.{Scope, RootIs}
use Rattle.st_meaning.specs.st_frame.Promise.Programs.{ProgramIs}
use Rattle.st_meaning.specs.st_frame.Promise.Expressions.{ArgumentsAre, AlongIs}
use Rattle.st_meaning.specs.st_frame.Promise.Calls.{kind, Leaves, recipient_variable}
use Rattle.st_meaning.specs.st_frame.Promise.Types.{IsPath, IsNoInstance, IsHeld, Widens, same_type, wider_number, wider_path}
use Rattle.st_meaning.specs.st_frame.Promise.Declarations.{ParameterIs, Each, RoutineIs}
use Rattle.st_meaning.specs.st_frame.Good.{Names}
use Rattle.st_meaning.proofs.st_frame.Unfolded.{within_bound}
use Rattle.st_meaning.proofs.st_frame.OfTypes.{OfKind}
use Rattle.st_meaning.proofs.st_frame.Spots.{SpotIs, below, SlotsAre, by_name, member_meets}
use Rattle.st_meaning.proofs.st_frame.Obeys.{Obeys, then_obeys, Anything}
use Rattle.st_meaning.proofs.st_frame.Bodies.{All, Covered, CallsObey}
use Rattle.st_meaning.specs.Call.{parameter_number, next_parameter, behind_next, is_in_out, parameter_named, call, output_value}
use Rattle.st_meaning.proofs.st_frame.Bodies as typing
use Rattle.stack_code.specs.declared.machine.Frame.{Frame as At}
use Rattle.stack_code.specs.declared.memory.Space.TheVariants.{Locals}
use Rattle.stack_code.specs.declared.memory.Address.{Address}
use Rattle.stack_code.specs.declared.memory.Word.{Word}
use Rattle.stack_code.specs.declared.code.MachineCode.{MachineCode}
use Rattle.stack_code.specs.Memory.{Memory, read as read_bytes, reference_of, kept as kept_word}
use Rattle.stack_code.specs.Steps.{Goes, ◌>>=◌ as ◌>>=step◌}
use Rattle.stack_code.specs.Machine.{Config, on}
use Rattle.stack_code.specs.declared.memory.Word.TheVariants as word
use Rattle.stack_code.specs.declared.op.Op.TheVariants as op
use Rattle.mem_layout.specs.store_bytes.Spells.{Holds, Spells}
use Rattle.mem_layout.proofs.store_bytes.Leaves.{value_is}
use Rattle.code_cells.specs.declared.cell.Cell.{Cell}
use Rattle.code_cells.specs.declared.cell.Cell.TheVariants.{Does as does}
use Rattle.code_rules.specs.Plan.{Tables, Plan, plan_of}
use Rattle.call_forms.proofs.LongerRuns.{Begins}
use Rattle.code_rules.specs.Code.{is_held, number_kind, taken_code, outputs_code, place_code, keep_code, output_code, fetch_code, widened_code}
use Rattle.code_rules.specs.Places.{locals_end, bytes_of, is_large, block_size, room_of, of_parameter, of_own, of_result, field_offset, variable_kind, kind_in}
use Rattle.code_rules.specs.Tops.{along_top, outputs_top}
use Rattle.shown_memory.specs.Shown.{AllKept, FramesShown, Kept, Open, scopes, Layout, layouts, Located, located, spot_word, word_at, value_word, Shown, Small, kept_number, path_word}
use Rattle.shown_memory.proofs.Geometry.{spot_located}
use Rattle.shown_memory.proofs.Locals.{block_there, kept_cut}
use Rattle.shown_memory.specs.Passing.{Keeps, has_bit, BlockLeft, IsWord, OwnHeld, with_block, Room, IsRoom, Asks}
use Rattle.memory_access.proofs.Likes.{local_there, decoded_place}
use Rattle.memory_access.proofs.Worded.{by_size, numeric_value, enumerator_fits, widens_small, widens_large, large_word}
use Rattle.memory_access.proofs.Narrow.{low_read, eight}
use Rattle.memory_access.proofs.KeptAddresses.{held_there}
use Rattle.value_runs.proofs.Ends.{Leads, Stands}
use Rattle.value_runs.proofs.Expressions.{both_fit, goes_once}
use Rattle.value_runs.proofs.Ends as ends
use Rattle.value_runs.proofs.Expressions as ex
use Rattle.routine_entry.proofs.Entry.{get_below, front_get, through_word}
use Rattle.st_values.specs.ShapeLaws.{Unfolds}
use Rattle.st_values.proofs.ShapeLaws.{shape_laws}
use Rattle.st_meaning.specs.st_frame.Promise.Places.{MemberIs}
use Rattle.st_tree.specs.declared.path.Step.TheVariants as step
use Rattle.mem_layout.specs.store_bytes.Place as store
use Rattle.memory_access.proofs.Copies.{Assigned, put_kept, copy_from}
use Rattle.body_runs.proofs.Stores as stores
use Rattle.call_parts.proofs.Rooms.{output_numbers}
use Rattle.call_parts.proofs.Rooms as rooms

pub go_assoc : {A B C : Type 0} (o : Outcome A) (f : A → State → Outcome B) (g : B → State → Outcome C) → go_on (go_on o f) g ≡ go_on o (λ a s. go_on (f a s) g)
go_assoc (Done a s) f g = refl
go_assoc (Fault k l) f g = refl

module _ (p : Program) (fine : ProgramIs p) (small : Small p) (is_there : ℕ → Bool) (W : ℕ → Type 0) (first : Store) (R : Routine → Type 0) (code : MachineCode) (now base : ℕ) (tables : Tables)
    (room : ℕ) (reached : CallsObey p fine (λ r. is_there r ≡ true) W first first R (enter p room)) (k0 : Open) (ks : List Open) (r : ℕ) (own : Option Address) (ar : List At) (line : ℕ)
    (own_there : (c : ℕ) → k0.scope.this ≡ Some c → (q : Path) × (l : Located) × (k0.own ≡ Some q) × (own ≡ Some l.address) × (located p base [] (in_store q) ≡ Some l)) where
  abbrev F : ℕ → Type 0
  F r = is_there r ≡ true

  abbrev gs : List Scope
  gs = scopes (k0 ∷ ks)

  abbrev Fair : State → Type 0
  Fair s = ex.Fair p fine small is_there W first R code now base tables gs s

  abbrev plan : Plan
  plan = plan_of p tables k0.scope k0.start

  abbrev ls : List Layout
  ls = layouts (k0 ∷ ks)

  abbrev kept_at : ℕ → List Kept → List Open
  kept_at free kept = record k0 { free = free; kept = kept } ∷ ks

  abbrev cfg : ℕ → List Word → State → Memory → Config
  cfg pc ws s m = record { here = record { routine = r; next = pc; own = own }; words = ws; around = ar; memory = m; ticks = s.ticks }

  abbrev lands : {A : Type 0} → ℕ → (A → List Word) → A → State → Memory → Config
  lands pc words a s m = cfg pc (words a) s m

  abbrev lost : {A : Type 0} → ℕ → List Word → A → State → Memory → Config
  lost pc ws a s m = cfg pc ws s m

  abbrev Shows : {A : Type 0} → ℕ → List Kept → A → State → Memory → Type 0
  Shows free kept a s m = Shown p base is_there now (kept_at free kept) m s

  abbrev Now_shown : ℕ → List Kept → State → Memory → Type 0
  Now_shown free kept s m = Shown p base is_there now (kept_at free kept) m s

  abbrev here_at : ℕ → Address
  here_at free = record { space = Locals; index = base + length ks; offset = free }

  abbrev From : {A : Type 0} → Config → (A → State → Memory → Config) → (A → State → Memory → Type 0) → Outcome A → Type 0
  From c after shown o = Leads code now (Goes c) after shown o

  abbrev AllOf : List Use → Type 0
  AllOf us = All (Covered p F W R) us

  abbrev Typed_run : {A : Type 0} → Run A → (A → Type 0) → Type 0
  Typed_run m Q = Obeys p fine F W first first gs m Q

  abbrev pub block_kept : ℕ → List ℕ → List Kept → List Kept
  block_kept block bs rest = record { from = block; bytes = bs } ∷ rest

  -- ---- a word of the block is read: what is kept is the word

  word_there : (z : ℤ) (free block : ℕ) (bs : List ℕ) (rest : List Kept) (at : ℕ) (s : State) (m : Memory) → Now_shown free (block_kept block bs rest) s m → at + 8 ≤ length bs → Holds elem.Ulint z bs at
      → (image : List ℕ) × (slice_get m.locals (base + length ks) ≡ Some image) × (block + at + 8 ≤ length image) × Holds elem.Ulint z image (block + at)
  word_there z free block bs rest at s m sh fit given =
      let b = block_there p base (record k0 { free = free }) ks s.frames m.locals block bs rest sh.frames in
      let inside = b.2 in
      (b.0, b.1, omega (arith, inside, fit), record { fits = given.fits; stands = sym (range_of_range b.0 block (length bs) at 8 fit) ∙ (ap (λ i. slice_range i at (at + 8)) b.3 ∙ given.stands) })

  last_local : (m : Memory) (i : ℕ) → length m.locals ≡ base + length (k0 ∷ ks) → length m.locals - 1 ≡ base + length ks
  last_local m i d = omega (arith, d)

  number_taken : (e : Elem) (z : ℤ) (a : Address) (free block : ℕ) (bs : List ℕ) (rest : List Kept) (at pc : ℕ) (ws : List Word) (s : State) (m : Memory) → Now_shown free (block_kept block bs rest) s m → at + 8 ≤ length bs → Fits e z → Holds elem.Ulint (wrapped elem.Ulint z) bs at
      → Stands code now r pc (does (op.Local (block + at)) line ∷ (does (op.Load e) line ∷ []))
      → From (cfg pc ws s m) (lands (pc + 1 + 1) (λ v. value_word p base a v ∷ ws)) (Shows free (block_kept block bs rest)) (Done (number z) s)
  number_taken e z a free block bs rest at pc ws s m sh fit fits given has =
      let b = word_there (wrapped elem.Ulint z) free block bs rest at s m sh fit given in
      let inside = b.2 in
      let few = eight e in
      let number_is = low_read e (wrapped elem.Ulint z) b.0 (block + at) b.3 inside ∙ through_word e z fits in
      ends.step_leads code now (op.Local (block + at), line) has.0
      (subst (λ i. From (cfg (pc + 1) (word.Address (record { space = Locals; index = i; offset = block + at }) ∷ ws) s m) (lands (pc + 1 + 1) (λ v. value_word p base a v ∷ ws)) (Shows free (block_kept block bs rest)) (Done (number z) s)) (sym (last_local m 0 sh.deep))
      (ends.step_leads code now (op.Load e, line) has.1.0
      (ends.goes_leads code now (read_bytes e m (here_at (block + at))) z _ (ap (λ x. x >>=step λ i. Goes (number_at e i (block + at))) (local_there m (base + length ks) (block + at) (width_of e) b.0 b.1 (omega (arith, inside, few))) ∙ ap Goes number_is)
      (ends.stays code now (number z) s m sh))))

  -- what a path names is an instance
  abbrev pub Names_instance : Option Path → Type 0
  Names_instance o = (q : Path) → o ≡ Some q → (c : ℕ) × (name : List ℕ) × (fs : Fields) × (path_shape p q ≡ Some (Instance c name fs))

  path_taken : (o : Option Path) (a : Address) (free block : ℕ) (bs : List ℕ) (rest : List Kept) (at pc : ℕ) (ws : List Word) (s : State) (m : Memory) → Names_instance o → Now_shown free (block_kept block bs rest) s m → at + 8 ≤ length bs → Keeps (path_word p base o) bs at
      → Stands code now r pc (does (op.Local (block + at)) line ∷ (does op.LoadRef line ∷ []))
      → From (cfg pc ws s m) (lands (pc + 1 + 1) (λ v. value_word p base a v ∷ ws)) (Shows free (block_kept block bs rest)) (Done (reference o) s)
  path_taken o a free block bs rest at pc ws s m names sh fit keeps has =
      let b = word_there keeps.z free block bs rest at s m sh fit keeps.holds_it in
      let inside = b.2 in
      ends.step_leads code now (op.Local (block + at), line) has.0
      (subst (λ i. From (cfg (pc + 1) (word.Address (record { space = Locals; index = i; offset = block + at }) ∷ ws) s m) (lands (pc + 1 + 1) (λ v. value_word p base a v ∷ ws)) (Shows free (block_kept block bs rest)) (Done (reference o) s)) (sym (last_local m 0 sh.deep))
      (ends.step_leads code now (op.LoadRef, line) has.1.0
      (ends.goes_leads code now (read_bytes elem.Ulint m (here_at (block + at))) keeps.z _ (ap (λ x. x >>=step λ i. Goes (number_at elem.Ulint i (block + at))) (local_there m (base + length ks) (block + at) 8 b.0 b.1 inside) ∙ ap Goes (value_is elem.Ulint keeps.z b.0 (block + at) b.3))
      (subst (λ w. From (cfg (pc + 1 + 1) (w ∷ ws) s m) (lands (pc + 1 + 1) (λ v. value_word p base a v ∷ ws)) (Shows free (block_kept block bs rest)) (Done (reference o) s)) (sym (back_again o names keeps.is))
      (ends.stays code now (reference o) s m sh)))))
    where
      back_again : (o : Option Path) → Names_instance o → kept_word (path_word p base o) ≡ Goes keeps.z → reference_of keeps.z ≡ path_word p base o
      back_again None names e = let d : pos 0 ≡ keeps.z = goes_once e in ap reference_of (sym d)
      back_again (Some q) names e =
          let n = names q refl in
          let l = spot_located p base (k0 ∷ ks) (in_store q) (Instance n.0 n.1 n.2) n.3 in
          let l0 : located p base [] (in_store q) ≡ Some l.0 = l.1 in
          let low = ex.room_of_place p fine small is_there W first R code now base tables room reached k0 ks r own ar line own_there free (block_kept block bs rest) (in_store q) l.0 s m sh l.1 in
          let h = held_there p base small q n.0 n.1 n.2 n.3 in
          let same : h.0 ≡ l.0 = let z : Some h.0 ≡ Some l.0 = sym h.1 ∙ l0 in cc in
          let k : Goes (pos (kept_number p base l.0.address)) ≡ Goes keeps.z = sym (ap kept_word (ap (word_at p base) l0) ∙ subst (λ (y : Located). kept_word (word.Address y.address) ≡ Goes (pos (kept_number p base y.address))) same h.2.keeps) ∙ e in
          ap reference_of (sym (goes_once k)) ∙ (decoded_place p base is_there now ls (in_store q) l.0 small l.1 (omega (arith, low)) ∙ sym (ap (word_at p base) l0))

  -- an address that is kept in the block
  pub address_taken : (a : Address) (free block : ℕ) (bs : List ℕ) (rest : List Kept) (at pc : ℕ) (ws : List Word) (s : State) (m : Memory) → Now_shown free (block_kept block bs rest) s m → at + 8 ≤ length bs → Holds elem.Ulint (pos (kept_number p base a)) bs at → reference_of (pos (kept_number p base a)) ≡ word.Address a
      → Stands code now r pc (does (op.Local (block + at)) line ∷ (does op.LoadRef line ∷ []))
      → From (cfg pc ws s m) (λ (_ : Unit {0}) t y. cfg (pc + 1 + 1) (word.Address a ∷ ws) t y) (λ _ t y. Now_shown free (block_kept block bs rest) t y) (Done tt s)
  address_taken a free block bs rest at pc ws s m sh fit held decodes has =
      let z : ℤ = pos (kept_number p base a) in
      let b = word_there z free block bs rest at s m sh fit held in
      let inside = b.2 in
      ends.step_leads code now (op.Local (block + at), line) has.0
      (subst (λ i. From (cfg (pc + 1) (word.Address (record { space = Locals; index = i; offset = block + at }) ∷ ws) s m) (λ (_ : Unit {0}) t y. cfg (pc + 1 + 1) (word.Address a ∷ ws) t y) (λ _ t y. Now_shown free (block_kept block bs rest) t y) (Done tt s)) (sym (last_local m 0 sh.deep))
      (ends.step_leads code now (op.LoadRef, line) has.1.0
      (ends.goes_leads code now (read_bytes elem.Ulint m (here_at (block + at))) z _ (ap (λ x. x >>=step λ i. Goes (number_at elem.Ulint i (block + at))) (local_there m (base + length ks) (block + at) 8 b.0 b.1 inside) ∙ ap Goes (value_is elem.Ulint z b.0 (block + at) b.3))
      (subst (λ w. From (cfg (pc + 1 + 1) (w ∷ ws) s m) (λ (_ : Unit {0}) t y. cfg (pc + 1 + 1) (word.Address a ∷ ws) t y) (λ _ t y. Now_shown free (block_kept block bs rest) t y) (Done tt s)) (sym decodes)
      (ends.stays code now tt s m sh)))))

  -- where the bytes behind are in use, or no longer
  pub more_in_use : (free free' : ℕ) (kept : List Kept) (s : State) (m : Memory) → free ≤ free' → free' ≤ k0.long → Now_shown free kept s m → Now_shown free' kept s m
  more_in_use free free' kept s m l fits sh = record { regions = sh.regions; frames = by s.frames sh.frames; deep = sh.deep; moment = sh.moment }
    where
      wider : (image : List ℕ) (low : ℕ) (xs : List Kept) → AllKept p base image low free xs → AllKept p base image low free' xs
      wider image low [] h = tt
      wider image low (x ∷ xs) h = let b = h.0.below in (record { above = h.0.above; below = omega (arith, b, l); stands = h.0.stands }, h.1)

      by : (fs : List Frame) → FramesShown p base (kept_at free kept) fs m.locals → FramesShown p base (kept_at free' kept) fs m.locals
      by [] h = absurd h
      by (f ∷ fs) h =
          let o = h.0 in
          let low = o.low in
          (record { image = o.image; there = o.there; long = o.long; own = o.own; block = o.block; slots = o.slots; low = omega (arith, low, l); room = fits; short = o.short; kept = wider o.image (locals_end p k0.start k0.scope.locals) kept o.kept }, h.1)

  less_in_use : (free free' block : ℕ) (bs : List ℕ) (rest : List Kept) (s : State) (m : Memory) → block + length bs ≤ free → free ≤ free' → Now_shown free' (block_kept block bs rest) s m → Now_shown free (block_kept block bs rest) s m
  less_in_use free free' block bs rest s m fits l sh = record { regions = sh.regions; frames = by s.frames sh.frames; deep = sh.deep; moment = sh.moment }
    where
      by : (fs : List Frame) → FramesShown p base (kept_at free' (block_kept block bs rest)) fs m.locals → FramesShown p base (kept_at free (block_kept block bs rest)) fs m.locals
      by [] h = absurd h
      by (f ∷ fs) h =
          let o = h.0 in
          let x = o.kept.0 in
          let above = x.above in
          let room_is = o.room in
          (record { image = o.image; there = o.there; long = o.long; own = o.own; block = o.block; slots = o.slots; low = omega (arith, above, fits); room = omega (arith, room_is, l); short = o.short; kept = (record { above = x.above; below = fits; stands = x.stands }, o.kept.1) }, h.1)

  -- a value of a type whose values are words
  pub word_taken : (t : StType) (w : Value) (free block : ℕ) (bs : List ℕ) (rest : List Kept) (at pc : ℕ) (ws : List Word) (s : State) (m : Memory) → is_large t ≡ false → IsNoInstance t → OfKind p F t w → Now_shown free (block_kept block bs rest) s m → at + 8 ≤ length bs → (IsWord w → Keeps (value_word p base (here_at block) w) bs at)
      → Stands code now r pc (taken_code line (block + at) t)
      → (a : Address) → From (cfg pc ws s m) (lands (pc + length (taken_code line (block + at) t)) (λ v. value_word p base a v ∷ ws)) (Shows free (block_kept block bs rest)) (Done w s)
  word_taken t w free block bs rest at pc ws s m is_small plain typed sh fit keeps has a =
      ex.ends_at p fine small is_there W first R code now base tables room reached k0 ks r own ar line own_there (pc + 1 + 1) _ (omega arith) (by t is_small plain typed has)
    where
      Taken : Value → Type 0
      Taken w = From (cfg pc ws s m) (lands (pc + 1 + 1) (λ v. value_word p base a v ∷ ws)) (Shows free (block_kept block bs rest)) (Done w s)

      a_number : (e : Elem) (z : ℤ) → w ≡ number z → Fits e z → Stands code now r pc (does (op.Local (block + at)) line ∷ (does (op.Load e) line ∷ [])) → Taken w
      a_number e z is fits has' =
          let keep : Keeps (word.Number z) bs at = subst (λ v. IsWord v → Keeps (value_word p base (here_at block) v) bs at) is keeps tt in
          let k : wrapped elem.Ulint z ≡ keep.z = goes_once keep.is in
          subst Taken (sym is) (number_taken e z a free block bs rest at pc ws s m sh fit fits (subst (λ y. Holds elem.Ulint y bs at) (sym k) keep.holds_it) has')

      a_path : (o : Option Path) → w ≡ reference o → Names_instance o → Stands code now r pc (does (op.Local (block + at)) line ∷ (does op.LoadRef line ∷ [])) → Taken w
      a_path o is names has' = subst Taken (sym is) (path_taken o a free block bs rest at pc ws s m names sh fit (subst (λ v. IsWord v → Keeps (value_word p base (here_at block) v) bs at) is keeps tt) has')

      by : (t : StType) → is_large t ≡ false → IsNoInstance t → OfKind p F t w → Stands code now r pc (taken_code line (block + at) t) → Taken w
      by (type.Elementary e) q i typed has' = let z = ex.a_number p fine small is_there W first R code now base tables (type.Elementary e) e w refl typed in a_number e z.0 z.1 z.2 has'
      by (type.Enumeration n) q i typed has' =
          let z = numeric_value p F (type.Enumeration n) w tt typed in
          a_number elem.Udint z.0 z.1 (enumerator_fits p F small n z.0 (subst (OfKind p F (type.Enumeration n)) z.1 typed)) has'
      by (type.Reference c) q i typed has' = a_path typed.0 typed.1 (ex.names_of_path p fine small is_there W first R code now base tables room reached k0 ks r own ar line own_there (type.Reference c) typed.0 typed.2) has'
      by (type.Interface c) q i typed has' = a_path typed.0 typed.1 (ex.names_of_path p fine small is_there W first R code now base tables room reached k0 ks r own ar line own_there (type.Interface c) typed.0 typed.2) has'
      by (type.Instance c) q i typed has' = absurd i
      by t q i typed has' = cc

  -- ---- an output that was read, and its place

  -- what a large value is copied from
  pub record LargeRead (t : StType) (w : Value) (a : Address) (free : ℕ) (kept : List Kept) : Type 0 where
    pub word_is : value_word p base a w ≡ word.Address a
    pub assigns : (spot : Spot) (l : Located) (u : State) (y : Memory) → SpotIs p fine F W gs spot t → located p base ls spot ≡ Some l → Unfolds p t l.shape → Now_shown free kept u y → Assigned p base is_there now (kept_at free kept) spot a l.address (store.size l.shape) w y u

  -- a value that was read, at an address where it is large; it may be kept behind the locals while its place is found
  pub record Ready (t : StType) (w : Value) (a : Address) (free : ℕ) (kept : List Kept) (s : State) (m : Memory) : Type 0 where
    pub held : List Kept
    pub shown : Now_shown (free + room_of (bytes_of p) t) held s m
    pub large : is_large t ≡ true → LargeRead t w a (free + room_of (bytes_of p) t) held
    pub back : (u : State) (y : Memory) → Now_shown (free + room_of (bytes_of p) t) held u y → Now_shown free kept u y

  no_room : (t : StType) (free : ℕ) → is_large t ≡ false → free + room_of (bytes_of p) t ≡ free
  no_room t free h = let z : room_of (bytes_of p) t ≡ 0 = ap (λ b. if b then bytes_of p t else 0) h in omega (arith, z)

  no_large : {X : Type 0} (b : Bool) → b ≡ false → b ≡ true → X
  no_large b e f = absurd (clash (sym e ∙ f))
    where
      clash : false ≡ true → ⊥
      clash e = cc

  pub small_ready : (t : StType) (w : Value) (a : Address) (free : ℕ) (kept : List Kept) (s : State) (m : Memory) → is_large t ≡ false → Now_shown free kept s m → Ready t w a free kept s m
  small_ready t w a free kept s m h sh = record {
    held = kept;
    shown = subst (λ n. Now_shown n kept s m) (sym (no_room t free h)) sh;
    large = λ e. no_large (is_large t) h e;
    back = λ u y k. subst (λ n. Now_shown n kept u y) (no_room t free h) k;
  }

  -- a value that is kept behind the locals
  pub kept_ready : (t : StType) (w : Value) (free : ℕ) (kept : List Kept) (s : State) (m : Memory) → is_large t ≡ true → ex.LargeKept p fine small is_there W first R code now base tables room reached k0 ks r own ar line own_there t free kept w s m → Ready t w (here_at free) free kept s m
  kept_ready t w free kept s m large i = record {
    held = record { from = free; bytes = i.bytes } ∷ kept;
    shown = i.shown;
    large = λ _. record {
      word_is = large_word p fine base (here_at free) t i.shape w i.bytes 0 large (within_bound p t i.shape i.unfolds) i.spells;
      assigns = λ spot l u y f at un sh.
          let shape_is : i.shape ≡ l.shape = shape_laws.once p t i.shape l.shape (within_bound p t i.shape i.unfolds) un in
          put_kept p base is_there now (record k0 { free = free + room_of (bytes_of p) t }) ks free i.bytes kept spot l w y u sh at (ex.within_is p fine small is_there W first R code now base tables room reached k0 ks r own ar line own_there spot t f) (i.long ∙ ap store.size shape_is) (subst (λ y. Spells (region_shape p) y w i.bytes 0) shape_is i.spells);
    };
    back = λ u y k. stores.no_longer p fine small is_there W first R code now base tables room reached k0 ks r own ar own_there free (free + room_of (bytes_of p) t) (record { from = free; bytes = i.bytes }) kept u y refl k;
  }

  -- a value that stands in the block
  pub room_ready : (t : StType) (w : Value) (far free block : ℕ) (bs : List ℕ) (rest : List Kept) (sh : Shape) (s : State) (m : Memory) → is_large t ≡ true → shape_of p t ≡ Some sh → far + store.size sh ≤ length bs → Spells (region_shape p) sh w (slice_range bs far (far + store.size sh)) 0
      → Now_shown (free + room_of (bytes_of p) t) (block_kept block bs rest) s m → ((u : State) (y : Memory) → Now_shown (free + room_of (bytes_of p) t) (block_kept block bs rest) u y → Now_shown free (block_kept block bs rest) u y) → Ready t w (here_at (block + far)) free (block_kept block bs rest) s m
  room_ready t w far free block bs rest sh s m large has_shape inside spells shows back = record {
    held = block_kept block bs rest;
    shown = shows;
    large = λ _. record {
      word_is = large_word p fine base (here_at (block + far)) t sh w (slice_range bs far (far + store.size sh)) 0 large (within_bound p t sh has_shape) spells;
      assigns = λ spot l u y f at un sh'.
          let shape_is : sh ≡ l.shape = shape_laws.once p t sh l.shape (within_bound p t sh has_shape) un in
          let fits : far + store.size l.shape ≤ length bs = subst (λ z. far + store.size z ≤ length bs) shape_is inside in
          let spelled : Spells (region_shape p) l.shape w (slice_range bs far (far + store.size l.shape)) 0 = subst (λ z. Spells (region_shape p) z w (slice_range bs far (far + store.size z)) 0) shape_is spells in
          let b = block_there p base (record k0 { free = free + room_of (bytes_of p) t }) ks u.frames y.locals block bs rest sh'.frames in
          let whole = b.2 in
          let bytes_are : slice_range b.0 (block + far) (block + far + store.size l.shape) ≡ slice_range bs far (far + store.size l.shape) = sym (range_of_range b.0 block (length bs) far (store.size l.shape) fits) ∙ ap (λ z. slice_range z far (far + store.size l.shape)) b.3 in
          copy_from p base is_there now (kept_at (free + room_of (bytes_of p) t) (block_kept block bs rest)) spot l (here_at (block + far)) w b.0 y u sh' at (ex.within_is p fine small is_there W first R code now base tables room reached k0 ks r own ar line own_there spot t f)
          (local_there y (base + length ks) (block + far) (store.size l.shape) b.0 b.1 (omega (arith, whole, fits))) (omega (arith, whole, fits)) (subst (λ z. Spells (region_shape p) l.shape w z 0) (sym bytes_are) spelled);
    };
    back = back;
  }

  pub valued_ready : (t : StType) (w : Value) (free : ℕ) (kept : List Kept) (s : State) (m : Memory) → ex.Valued p fine small is_there W first R code now base tables room reached k0 ks r own ar line own_there t free kept w s m → Ready t w (here_at free) free kept s m
  valued_ready t w free kept s m h = by (is_large t) refl h
    where
      by : (b : Bool) → is_large t ≡ b → by_size b (ex.LargeKept p fine small is_there W first R code now base tables room reached k0 ks r own ar line own_there t free kept w s m) (Now_shown free kept s m) → Ready t w (here_at free) free kept s m
      by true e i = kept_ready t w free kept s m e i
      by false e sh = small_ready t w (here_at free) free kept s m e sh

  -- it goes to its place
  pub output_stored : (q : Root Note) (ss : Selectors Note) (t : StType) (w : Value) (a : Address) (free pc : ℕ) (kept : List Kept) (ws : List Word) (s : State) (m : Memory)
      → RootIs p k0.scope q → AlongIs p k0.scope ss (root_note q).kind → last_kind (root_note q).kind ss ≡ t → AllOf (root_uses q ++ along_uses p (root_note q).kind ss) → along_top plan (free + room_of (bytes_of p) t) ss ≤ k0.long → Fair s → IsNoInstance t → OfKind p F t w → Ready t w a free kept s m
      → Stands code now r pc (place_code plan line (free + room_of (bytes_of p) t) q ss ++ keep_code plan line t) → ex.Place_runs p fine small is_there W first R code now base tables room reached k0 ks r own ar line own_there q ss
      → From (cfg pc (value_word p base a w ∷ ws) s m) (lost {A = Unit {0}} (pc + length (place_code plan line (free + room_of (bytes_of p) t) q ss ++ keep_code plan line t)) ws) (Shows free kept) ((placed q (along p (enter p room) ss) >>= λ spot. write spot w) line s)
  output_stored q ss t w a free pc kept ws s m hr ha last u top fair plain typed h has place_runs =
      let free' = free + room_of (bytes_of p) t in
      let cp = place_code plan line free' q ss in
      let ck = keep_code plan line t in
      stores.lost_by p fine small is_there W first R code now base tables room reached k0 ks r own ar own_there (pc + length cp + length ck) _ ws (omega (arith, length-append cp ck))
      (ends.and_leads code now (lost {A = Unit {0}} (pc + length cp + length ck) ws) (Shows free' h.held)
      (ex.bind p fine small is_there W first R code now base tables room reached k0 ks r own ar line own_there {m = placed q (along p (enter p room) ss)} (lands (pc + length cp) (λ y. spot_word p base ls y ∷ (value_word p base a w ∷ ws))) (Shows free' h.held)
      (place_runs free' pc h.held (value_word p base a w ∷ ws) s m top hr ha u fair h.shown (ends.front code now r pc cp ck has))
      (ex.place_typed p fine small is_there W first R code now base tables room reached k0 ks r own ar line own_there q ss t hr ha last u) fair
      (λ spot s2 m2 sh2 is2 fair2. by (is_large t) refl spot s2 m2 sh2 is2 (ends.back code now r pc cp ck has)))
      (λ _ s3 m3 sh3 _. ends.stays code now tt s3 m3 (h.back s3 m3 sh3)))
    where
      by : (b : Bool) → is_large t ≡ b → (spot : Spot) (s2 : State) (m2 : Memory) → Now_shown (free + room_of (bytes_of p) t) h.held s2 m2 → SpotIs p fine F W gs spot t → Stands code now r (pc + length (place_code plan line (free + room_of (bytes_of p) t) q ss)) (keep_code plan line t)
          → From (cfg (pc + length (place_code plan line (free + room_of (bytes_of p) t) q ss)) (spot_word p base ls spot ∷ (value_word p base a w ∷ ws)) s2 m2)
          (lost {A = Unit {0}} (pc + length (place_code plan line (free + room_of (bytes_of p) t) q ss) + length (keep_code plan line t)) ws) (Shows (free + room_of (bytes_of p) t) h.held) (write spot w line s2)
      by false e spot s2 m2 sh2 is2 has2 =
          stores.word_stored p fine small is_there W first R code now base tables room reached k0 ks r own ar own_there t (free + room_of (bytes_of p) t) (pc + length (place_code plan line (free + room_of (bytes_of p) t) q ss)) line h.held ws spot w s2 m2 e plain is2 typed sh2 has2 a
      by true e spot s2 m2 sh2 is2 has2 =
          let at = pc + length (place_code plan line (free + room_of (bytes_of p) t) q ss) in
          let free' = free + room_of (bytes_of p) t in
          let l = stores.large_place p fine small is_there W first R code now base tables room reached k0 ks r own ar own_there line t spot e is2 in
          let g = h.large e in
          let k = stores.keep_large p fine small is_there W first R code now base tables room reached k0 ks r own ar own_there t line e in
          let long_k : 1 ≡ length (keep_code plan line t) = sym (ap (λ (c : List Cell). length c) k) in
          subst (λ n. From (cfg at (spot_word p base ls spot ∷ (value_word p base a w ∷ ws)) s2 m2) (lost {A = Unit {0}} (at + n) ws) (Shows free' h.held) (write spot w line s2)) long_k
          (subst (λ v. From (cfg at (spot_word p base ls spot ∷ (v ∷ ws)) s2 m2) (lost {A = Unit {0}} (at + 1) ws) (Shows free' h.held) (write spot w line s2)) (sym g.word_is)
          (stores.large_stored p fine small is_there W first R code now base tables room reached k0 ks r own ar own_there (bytes_of p t) free' at line h.held ws spot l.place_is a w s2 m2 l.size_is l.is (g.assigns spot l.place_is s2 m2 is2 l.is l.unfolds sh2) (subst (Stands code now r at) k has2)))

  -- ---- an output is read

  -- the instance that a body ran on, as the block keeps it, and what the class of the text has of it
  pub record BlockOwn (whole : StType) (ps : List Parameter) (x : Routine) (o : Option Path) (kept_own : Option ℤ) : Type 0 where
    pub path : Path
    pub path_is : o ≡ Some path
    pub place : Located
    pub is : located p base ls (in_store path) ≡ Some place
    pub held : kept_own ≡ Some (pos (kept_number p base place.address))
    pub keeps : kept_word (word.Address place.address) ≡ Goes (pos (kept_number p base place.address))
    pub class : ℕ
    pub of_class : whole ≡ type.Instance class
    pub names : Names p path (type.Instance class)
    pub there : F path.region
    pub variables : (i : ℕ) (q : Parameter) → slice_get ps i ≡ Some q → q.sort ≡ sort.Output → (k : ℕ) × (q.to ≡ to_variable k)
    pub members : (i k : ℕ) (q : Parameter) (v : Variable) → slice_get ps i ≡ Some q → q.to ≡ to_variable k → recipient_variable p x q.to ≡ Some v → slice_get (class_variables p class) k ≡ Some v

  -- outputs of a body stand in its instance, those of any other routine in the block
  abbrev pub OutputsStand : Bool → StType → List Parameter → Routine → Option Path → Option ℤ → Type 0
  OutputsStand true whole ps x o kept_own = BlockOwn whole ps x o kept_own
  OutputsStand false whole ps x o kept_own = (i : ℕ) (q : Parameter) → slice_get ps i ≡ Some q → q.sort ≡ sort.Output → (n : ℕ) × (q.to ≡ to_local n)

  -- an output that is taken, and where it is read
  pub data Source (mask : ℕ) (f : Frame) (o : Option Path) (asks : Asks) (whole t : StType) (i : ℕ) (q : Parameter) : Type 0 where
    from_block : (n : ℕ) (w : Value) → q.to ≡ to_local n → has_bit mask i ≡ true → frame_value (Some f) n ≡ Some w → is_large t ≡ false → Source mask f o asks whole t i q
    from_room : (n far : ℕ) (w : Value) (shape : Shape) → q.to ≡ to_local n → frame_value (Some f) n ≡ Some w → is_large t ≡ true → shape_of p t ≡ Some shape → IsRoom asks.rooms (record { number = i; far = far; kind = t }) → Source mask f o asks whole t i q
    from_instance : (k class : ℕ) (v : Variable) (path : Path) (place : Located) → q.to ≡ to_variable k → o ≡ Some path → located p base ls (in_store path) ≡ Some place → asks.own ≡ Some (pos (kept_number p base place.address)) → kept_word (word.Address place.address) ≡ Goes (pos (kept_number p base place.address))
        → whole ≡ type.Instance class → Names p path (type.Instance class) → F path.region → slice_get (class_variables p class) k ≡ Some v → IsNoInstance v.kind → Widens p v.kind t → Source mask f o asks whole t i q

  -- at which offset it is, where it is large
  abbrev pub taken_at : {mask : ℕ} {f : Frame} {o : Option Path} {asks : Asks} {whole t : StType} {i : ℕ} {q : Parameter} → Source mask f o asks whole t i q → ℕ → ℕ → ℕ
  taken_at (from_block n w to asked held is_small) block free = free
  taken_at (from_room n far w shape to held large has_shape is) block free = block + far
  taken_at (from_instance k class v path place to path_is is own_held keeps of_class names near member plain_v widens) block free = free

  -- the rooms and their words lie within the block
  abbrev pub RoomsFit : Asks → ℕ → Type 0
  RoomsFit asks size = (r : Room) → IsRoom asks.rooms r → (of_parameter r.number + 8 ≤ size) × ((shape : Shape) → shape_of p r.kind ≡ Some shape → r.far + store.size shape ≤ size)

  large_held : (t : StType) → is_large t ≡ true → is_held t ≡ true
  large_held (type.Elementary e) h = cc
  large_held (type.Enumeration n) h = cc
  large_held t h = refl

  -- the address of a large value is taken
  pub taken_large : (t : StType) (at : ℕ) → is_large t ≡ true → taken_code line at t ≡ does (op.Local at) line ∷ (does op.LoadRef line ∷ [])
  taken_large t at h = ap (λ b. does (op.Local at) line ∷ (does (if b then op.LoadRef else op.Load (number_kind t)) line ∷ [])) (large_held t h)

  pub record OutputGiven (ps : List Parameter) (mask : ℕ) (f : Frame) (o : Option Path) (asks : Asks) (whole : StType) (a : Note) (q : Root Note) (ss : Selectors Note) : Type 0 where
    pub parameter : Parameter
    pub there_is : slice_get ps (parameter_number a.target) ≡ Some parameter
    pub sorted : parameter.sort ≡ sort.Output
    pub source : Source mask f o asks whole (last_kind (root_note q).kind ss) (parameter_number a.target) parameter
    pub typed : Typed_run (output_of (Some parameter) o f) (OfKind p F (last_kind (root_note q).kind ss))
    pub plain : IsNoInstance (last_kind (root_note q).kind ss)
    pub root_is : RootIs p k0.scope q
    pub along_is : AlongIs p k0.scope ss (root_note q).kind
    pub uses : AllOf (root_uses q ++ along_uses p (root_note q).kind ss)
    pub owner : AllOf (owner_uses q ss)

  abbrev pub OutputsGiven : List Parameter → ℕ → Frame → Option Path → Asks → StType → Arguments Note → Type 0
  OutputsGiven ps mask f o asks whole no_arguments = Unit {0}
  OutputsGiven ps mask f o asks whole (argument_then (Output a name b q ss) xs) = OutputGiven ps mask f o asks whole a q ss × OutputsGiven ps mask f o asks whole xs
  OutputsGiven ps mask f o asks whole (argument_then x xs) = OutputsGiven ps mask f o asks whole xs

  read_value : (t : StType) (spot : Spot) (s : State) → IsNoInstance t → place_value t (gives spot) line s ≡ read spot line s
  read_value (type.Instance c) spot s i = absurd i
  read_value t spot s i = refl

  -- what is read where a value of a type that widens is asked for
  widened_same : (t : StType) (free : ℕ) → widened_code plan line free t (elem_of t) ≡ fetch_code plan line free t
  widened_same (type.Elementary e) free = refl
  widened_same t free = refl

  held_widened : (t : StType) (e : Elem) (free : ℕ) → IsHeld t → widened_code plan line free t e ≡ does op.LoadRef line ∷ []
  held_widened (type.Reference c) e free h = refl
  held_widened (type.Interface i) e free h = refl
  held_widened t e free h = absurd h

  path_fetched : (t : StType) (free : ℕ) → IsPath t → IsNoInstance t → fetch_code plan line free t ≡ does op.LoadRef line ∷ []
  path_fetched (type.Reference c) free h i = refl
  path_fetched (type.Interface j) free h i = refl
  path_fetched (type.Instance c) free h i = absurd i
  path_fetched t free h i = absurd h

  widened_is : (u t : StType) (free : ℕ) → IsNoInstance u → Widens p u t → widened_code plan line free t (elem_of u) ≡ fetch_code plan line free u
  widened_is u t free i same_type = widened_same u free
  widened_is u t free i (wider_number h) = refl
  widened_is u t free i (wider_path h k n) = held_widened t (elem_of u) free k ∙ sym (path_fetched u free h i)

  spot_is : (c : ℕ) (path : Path) → Names p path (type.Instance c) → F path.region → SpotIs p fine F W gs (in_store path) (type.Instance c)
  spot_is c path n f = record { is = by_name p fine path c n; near = f }

  pub output_read : (q : Parameter) (i : ℕ) (ps : List Parameter) (mask size : ℕ) (f : Frame) (o : Option Path) (asks : Asks) (whole t : StType) (free pc block : ℕ) (bs : List ℕ) (rest : List Kept) (ws : List Word) (s : State) (m : Memory)
      → (source : Source mask f o asks whole t i q) → slice_get ps i ≡ Some q → q.sort ≡ sort.Output → IsNoInstance t → BlockLeft p base (here_at block) ps size asks bs mask f → of_parameter i + 8 ≤ size → RoomsFit asks size → block + size ≤ free → free + room_of (bytes_of p) t ≤ k0.long → Fair s → Now_shown free (block_kept block bs rest) s m
      → (value_typed : Typed_run (output_of (Some q) o f) (OfKind p F t))
      → Stands code now r pc (output_code plan line (Some q) (block + of_parameter i) (block + of_own) free t whole)
      → From (cfg pc ws s m) (lands (pc + length (output_code plan line (Some q) (block + of_parameter i) (block + of_own) free t whole)) (λ v. value_word p base (here_at (taken_at source block free)) v ∷ ws)) (λ v y x. Ready t v (here_at (taken_at source block free)) free (block_kept block bs rest) y x) (output_of (Some q) o f line s)
  output_read q i ps mask size f o asks whole t free pc block bs rest ws s m (from_block n w to asked held is_small) stands_at sorted plain left fit rooms_fit behind_block top fair sh typed has =
      let long = left.long in
      let run_is : output_of (Some q) o f line s ≡ Done w s = ap (λ to. output_value to o f line s) to ∙ ap (λ v. there v line s) held in
      let w_typed = (ex.told p fine small is_there W first R code now base tables {m = output_of (Some q) o f} typed fair w s run_is).0 in
      let code_is : output_code plan line (Some q) (block + of_parameter i) (block + of_own) free t whole ≡ taken_code line (block + of_parameter i) t = ap (λ to. output_code plan line (Some (record q { to = to })) (block + of_parameter i) (block + of_own) free t whole) to in
      ends.same_outcome code now run_is
      (subst (λ c. Stands code now r pc c → From (cfg pc ws s m) (lands (pc + length c) (λ v. value_word p base (here_at free) v ∷ ws)) (λ v y x. Ready t v (here_at free) free (block_kept block bs rest) y x) (Done w s)) (sym code_is)
      (λ has'. ends.and_leads code now (lands (pc + length (taken_code line (block + of_parameter i) t)) (λ v. value_word p base (here_at free) v ∷ ws)) (Shows free (block_kept block bs rest))
      (word_taken t w free block bs rest (of_parameter i) pc ws s m is_small plain w_typed sh (omega (arith, fit, long)) (λ z. left.outputs i n q w (here_at block) stands_at sorted to asked held z) has' (here_at free))
      (λ v y x sh' _. ends.stays code now v y x (small_ready t v (here_at free) free (block_kept block bs rest) y x is_small sh'))) has)
  output_read q i ps mask size f o asks whole t free pc block bs rest ws s m (from_room n far w shape to held large has_shape is_room) stands_at sorted plain left fit rooms_fit behind_block top fair sh typed has =
      let long = left.long in
      let g = left.rooms (record { number = i; far = far; kind = t }) is_room in
      let inside = (rooms_fit (record { number = i; far = far; kind = t }) is_room).1 shape has_shape in
      let spells = g.filled n q w shape stands_at to held has_shape in
      let run_is : output_of (Some q) o f line s ≡ Done w s = ap (λ to. output_value to o f line s) to ∙ ap (λ v. there v line s) held in
      let code_is : output_code plan line (Some q) (block + of_parameter i) (block + of_own) free t whole ≡ does (op.Local (block + of_parameter i)) line ∷ (does op.LoadRef line ∷ []) = ap (λ to. output_code plan line (Some (record q { to = to })) (block + of_parameter i) (block + of_own) free t whole) to ∙ taken_large t (block + of_parameter i) large in
      let word_is : value_word p base (here_at (block + far)) w ≡ word.Address (here_at (block + far)) = large_word p fine base (here_at (block + far)) t shape w (slice_range bs far (far + store.size shape)) 0 large (within_bound p t shape has_shape) spells in
      let kept : List Kept = block_kept block bs rest in
      let after : Value → State → Memory → Config = lands (pc + 1 + 1) (λ v. value_word p base (here_at (block + far)) v ∷ ws) in
      let ready : Value → State → Memory → Type 0 = λ v y x. Ready t v (here_at (block + far)) free kept y x in
      ends.same_outcome code now run_is
      (subst (λ c. Stands code now r pc c → From (cfg pc ws s m) (lands (pc + length c) (λ v. value_word p base (here_at (block + far)) v ∷ ws)) ready (Done w s)) (sym code_is)
      (λ has'. ex.ends_at p fine small is_there W first R code now base tables room reached k0 ks r own ar line own_there (pc + 1 + 1) _ (omega arith)
      (ends.and_then code now (λ (_ : Unit {0}) y x. cfg (pc + 1 + 1) (word.Address (here_at (block + far)) ∷ ws) y x) (λ _ y x. Now_shown free kept y x) (address_taken (here_at (block + far)) free block bs rest (of_parameter i) pc ws s m sh (omega (arith, fit, long)) g.word_there g.decodes has')
      (λ y sh'. subst (λ w'. From (cfg (pc + 1 + 1) (w' ∷ ws) s y) after ready (Done w s)) word_is
      (ends.stays code now w s y (room_ready t w far free block bs rest shape s y large has_shape (omega (arith, inside, long)) spells
      (more_in_use free (free + room_of (bytes_of p) t) kept s y (omega arith) top sh') (λ u z k. less_in_use free (free + room_of (bytes_of p) t) block bs rest u z (omega (arith, behind_block, long)) (omega arith) k)))))) has)
  output_read q i ps mask size f o asks whole t free pc block bs rest ws s m (from_instance k class v path place to path_is is own_held keeps of_class names near member plain_v widens) stands_at sorted plain left fit rooms_fit behind_block top fair sh typed has =
      let long = left.long in
      let co : List Cell = does (op.Local (block + of_own)) line ∷ (does op.LoadRef line ∷ (does (op.Offset (field_offset p (type.Instance class) k)) line ∷ fetch_code plan line free v.kind)) in
      let kind_is : variable_kind p (type.Instance class) k ≡ v.kind = ap kind_in member in
      let code_is : output_code plan line (Some q) (block + of_parameter i) (block + of_own) free t whole ≡ co =
      ap (λ to. output_code plan line (Some (record q { to = to })) (block + of_parameter i) (block + of_own) free t whole) to
      ∙ (ap (λ y. output_code plan line (Some (record q { to = to_variable k })) (block + of_parameter i) (block + of_own) free t y) of_class
      ∙ ap (λ y. does (op.Local (block + of_own)) line ∷ (does op.LoadRef line ∷ (does (op.Offset (field_offset p (type.Instance class) k)) line ∷ y))) (ap (λ y. widened_code plan line free t (elem_of y)) kind_is ∙ widened_is v.kind t free plain_v widens)) in
      let run_is : output_of (Some q) o f line s ≡ read (into (in_store path) (step.Field k)) line s = ap (λ to. output_value to o f line s) to ∙ ap (λ y. (there y >>= λ q. read (into (in_store q) (step.Field k))) line s) path_is in
      let word_is : path_word p base (Some path) ≡ word.Address place.address = ap (word_at p base) is in
      let kept : List Kept = block_kept block bs rest in
      let spot : Spot = into (in_store path) (step.Field k) in
      let own_word : Holds elem.Ulint (pos (kept_number p base place.address)) bs of_own = subst (λ z. OwnHeld z bs) own_held left.own_stays in
      let part : MemberIs p (type.Instance class) k v.kind = (v, member, refl) in
      let here = spot_is class path names near in
      let part_is : SpotIs p fine F W gs spot v.kind = record { is = member_meets p fine gs (in_store path) class k v (by_name p fine path class names) member; near = near } in
      let fits : free + room_of (bytes_of p) v.kind ≤ k0.long = room_same v.kind widens top in
      ends.same_outcome code now run_is
      (subst (λ c. Stands code now r pc c → From (cfg pc ws s m) (lands (pc + length c) (λ v. value_word p base (here_at free) v ∷ ws)) (λ v y x. Ready t v (here_at free) free kept y x) (read spot line s)) (sym code_is)
      (λ has'.
      ex.ends_at p fine small is_there W first R code now base tables room reached k0 ks r own ar line own_there (pc + 1 + 1 + 1 + length (fetch_code plan line free v.kind)) _ (omega arith)
      (ends.and_then code now (λ (_ : Unit {0}) y x. cfg (pc + 1 + 1) (path_word p base (Some path) ∷ ws) y x) (λ _ y x. Now_shown free kept y x)
      (ends.then_leads code now {o = Done (reference (Some path)) s} {f = λ _ u. Done tt u} (lands (pc + 1 + 1) (λ v. value_word p base (here_at free) v ∷ ws)) (Shows free kept)
      (path_taken (Some path) (here_at free) free block bs rest of_own pc ws s m (λ q e. named q e) sh (omega (arith, long, fit)) (record { z = pos (kept_number p base place.address); is = ap kept_word word_is ∙ keeps; holds_it = own_word }) (has'.0, (has'.1.0, tt)))
      (λ w u y sh' done. to_path w u y sh' done))
      (λ y sh1.
      ends.and_then code now (λ (_ : Unit {0}) y x. cfg (pc + 1 + 1 + 1) (spot_word p base ls spot ∷ ws) y x) (λ _ y x. Now_shown free kept y x)
      (ends.then_leads code now {o = Done spot s} {f = λ _ u. Done tt u} (lands (pc + 1 + 1 + 1) (λ y. spot_word p base ls y ∷ ws)) (Shows free kept)
      (ex.step_run p fine small is_there W first R code now base tables room reached k0 ks r own ar line own_there (type.Instance class) v.kind (target.Variable k) k free (pc + 1 + 1) kept ws (in_store path) s y part (inr refl) here sh1 (has'.1.1.0, tt))
      (λ w u y sh' done. to_spot w u y sh' done))
      (λ y2 sh2.
      ends.and_leads code now (lands (pc + 1 + 1 + 1 + length (fetch_code plan line free v.kind)) (λ v. value_word p base (here_at free) v ∷ ws)) (λ w y x. ex.Valued p fine small is_there W first R code now base tables room reached k0 ks r own ar line own_there v.kind free kept w y x)
      (ends.same_outcome code now (sym (read_value v.kind spot s plain_v))
      (ex.fetch_run p fine small is_there W first R code now base tables room reached k0 ks r own ar line own_there v.kind free (pc + 1 + 1 + 1) kept ws spot s y2 fits fair part_is sh2 has'.1.1.1))
      (λ w u y3 val _. ends.stays code now w u y3 (as_wide v.kind widens w u y3 val)))))) has)
    where
      kept0 : List Kept
      kept0 = block_kept block bs rest

      named : (q : Path) → Some path ≡ Some q → (c : ℕ) × (name : List ℕ) × (fs : Fields) × (path_shape p q ≡ Some (Instance c name fs))
      named q e = let d : path ≡ q = cc in subst (λ y. (c : ℕ) × (name : List ℕ) × (fs : Fields) × (path_shape p y ≡ Some (Instance c name fs))) d (names.class, names.name, names.fields, names.there)

      to_path : (w : Value) (u : State) (y : Memory) → Now_shown free kept0 u y → Done (reference (Some path)) s ≡ Done w u → From (cfg (pc + 1 + 1) (value_word p base (here_at free) w ∷ ws) u y) (λ (_ : Unit {0}) y x. cfg (pc + 1 + 1) (path_word p base (Some path) ∷ ws) y x) (λ _ y x. Now_shown free kept0 y x) (Done tt u)
      to_path w u y sh' e = let d : reference (Some path) ≡ w = cc in subst (λ w. From (cfg (pc + 1 + 1) (value_word p base (here_at free) w ∷ ws) u y) (λ (_ : Unit {0}) y x. cfg (pc + 1 + 1) (path_word p base (Some path) ∷ ws) y x) (λ _ y x. Now_shown free kept0 y x) (Done tt u)) d (ends.stays code now tt u y sh')

      to_spot : (w : Spot) (u : State) (y : Memory) → Now_shown free kept0 u y → Done (into (in_store path) (step.Field k)) s ≡ Done w u → From (cfg (pc + 1 + 1 + 1) (spot_word p base ls w ∷ ws) u y) (λ (_ : Unit {0}) y x. cfg (pc + 1 + 1 + 1) (spot_word p base ls (into (in_store path) (step.Field k)) ∷ ws) y x) (λ _ y x. Now_shown free kept0 y x) (Done tt u)
      to_spot w u y sh' e = let d : into (in_store path) (step.Field k) ≡ w = cc in subst (λ w. From (cfg (pc + 1 + 1 + 1) (spot_word p base ls w ∷ ws) u y) (λ (_ : Unit {0}) y x. cfg (pc + 1 + 1 + 1) (spot_word p base ls (into (in_store path) (step.Field k)) ∷ ws) y x) (λ _ y x. Now_shown free kept0 y x) (Done tt u)) d (ends.stays code now tt u y sh')

      room_same : (u : StType) → Widens p u t → free + room_of (bytes_of p) t ≤ k0.long → free + room_of (bytes_of p) u ≤ k0.long
      room_same u wide l = by (is_large t) refl
        where
          by : (b : Bool) → is_large t ≡ b → free + room_of (bytes_of p) u ≤ k0.long
          by true e = subst (λ y. free + room_of (bytes_of p) y ≤ k0.long) (sym (widens_large p u t wide e)) l
          by false e = let z = no_room u free (widens_small p u t wide e) in omega (arith, z, l)

      as_wide : (u : StType) → Widens p u t → (w : Value) (y : State) (x : Memory) → ex.Valued p fine small is_there W first R code now base tables room reached k0 ks r own ar line own_there u free kept0 w y x → Ready t w (here_at free) free kept0 y x
      as_wide u wide w y x h = by (is_large t) refl
        where
          by : (b : Bool) → is_large t ≡ b → Ready t w (here_at free) free kept0 y x
          by true e = valued_ready t w free kept0 y x (subst (λ z. ex.Valued p fine small is_there W first R code now base tables room reached k0 ks r own ar line own_there z free kept0 w y x) (widens_large p u t wide e) h)
          by false e = small_ready t w (here_at free) free kept0 y x e (ex.valued_plain p fine small is_there W first R code now base tables room reached k0 ks r own ar line own_there u free kept0 w y x (widens_small p u t wide e) h)

  output_typed : (q : Root Note) (ss : Selectors Note) (t : StType) (w : Value) → RootIs p k0.scope q → AlongIs p k0.scope ss (root_note q).kind → last_kind (root_note q).kind ss ≡ t → AllOf (root_uses q ++ along_uses p (root_note q).kind ss) → AllOf (owner_uses q ss) → IsNoInstance t → OfKind p F t w → Typed_run (placed q (along p (enter p room) ss) >>= λ spot. write spot w) Anything
  output_typed q ss t w h a last u own_u plain typed =
      then_obeys p fine F W first first
      (then_obeys p fine F W first first (typing.root_obeys p fine F W first first R (enter p room) reached k0.scope (scopes ks) q h (typing.front _ (root_uses q) _ u)) (λ spot g. typing.along_obeys p fine F W first first R (enter p room) reached k0.scope (scopes ks) ss (root_owner q) (root_note q).kind spot a (typing.back _ (root_uses q) _ u) g))
      (λ spot g. typing.write_plain p fine F W first first R (enter p room) reached k0.scope (scopes ks) t spot w plain (subst (SpotIs p fine F W gs spot) last g.0) (g.1 own_u) typed)

  -- the outputs in written order; the block keeps what the routine left
  pub outputs_run : (xs : Arguments Note) (o : Option Path) (ps : List Parameter) (mask size : ℕ) (f : Frame) (asks : Asks) (whole : StType) (free pc block : ℕ) (bs : List ℕ) (rest : List Kept) (ws : List Word) (s : State) (m : Memory)
      → OutputsGiven ps mask f o asks whole xs → BlockLeft p base (here_at block) ps size asks bs mask f → block_size (length ps) ≤ size → RoomsFit asks size → block + size ≤ free → outputs_top plan free xs ≤ k0.long → Fair s → Now_shown free (block_kept block bs rest) s m
      → Stands code now r pc (outputs_code plan line block free ps whole xs) → ex.Outputs_run p fine small is_there W first R code now base tables room reached k0 ks r own ar line own_there xs
      → From (cfg pc ws s m) (lost {A = Unit {0}} (pc + length (outputs_code plan line block free ps whole xs)) ws) (Shows free (block_kept block bs rest)) (outputs p (enter p room) ps o f xs line s)
  outputs_run no_arguments o ps mask size f asks whole free pc block bs rest ws s m h left big rooms_fit behind_block top fair sh has runs = subst (λ n. From (cfg pc ws s m) (lost {A = Unit {0}} n ws) (Shows free (block_kept block bs rest)) (Done tt s)) (let e : pc ≡ pc + 0 = omega arith in e) (ends.stays code now tt s m sh)
  outputs_run (argument_then (Positional e) xs) o ps mask size f asks whole free pc block bs rest ws s m h left big rooms_fit behind_block top fair sh has runs = outputs_run xs o ps mask size f asks whole free pc block bs rest ws s m h left big rooms_fit behind_block top fair sh has runs
  outputs_run (argument_then (Input a name e) xs) o ps mask size f asks whole free pc block bs rest ws s m h left big rooms_fit behind_block top fair sh has runs = outputs_run xs o ps mask size f asks whole free pc block bs rest ws s m h left big rooms_fit behind_block top fair sh has runs
  outputs_run (argument_then (Output a name b q ss) xs) o ps mask size f asks whole free pc block bs rest ws s m h left big rooms_fit behind_block top fair sh has runs =
      let g = h.0 in
      let i = parameter_number a.target in
      let t = last_kind (root_note q).kind ss in
      let behind_free = free + room_of (bytes_of p) t in
      let tops = both_fit behind_free (max (along_top plan behind_free ss) (outputs_top plan free xs)) k0.long top in
      let more = both_fit (along_top plan behind_free ss) (outputs_top plan free xs) k0.long tops.1 in
      let below = get_below ps i g.parameter g.there_is in
      let ct = output_code plan line (Some g.parameter) (block + of_parameter i) (block + of_own) free t whole in
      let cp = place_code plan line behind_free q ss in
      let ck = keep_code plan line t in
      let cr = outputs_code plan line block free ps whole xs in
      let kept = block_kept block bs rest in
      let stored : Value → Run (Unit {0}) = λ v. placed q (along p (enter p room) ss) >>= λ spot. write spot v in
      subst (λ c. Stands code now r pc c → From (cfg pc ws s m) (lost {A = Unit {0}} (pc + length c) ws) (Shows free kept) (outputs p (enter p room) ps o f (argument_then (Output a name b q ss) xs) line s)) (sym (code_is g))
      (λ has'.
      let has_p = ends.back code now r pc ct ((cp ++ ck) ++ cr) has' in
      stores.lost_by p fine small is_there W first R code now base tables room reached k0 ks r own ar own_there (pc + length ct + length (cp ++ ck) + length cr) _ ws (omega (arith, length-append ct ((cp ++ ck) ++ cr), length-append (cp ++ ck) cr))
      (ends.same_outcome code now (meaning_is g)
      (ex.bind p fine small is_there W first R code now base tables room reached k0 ks r own ar line own_there {m = output_of (Some g.parameter) o f} (lands (pc + length ct) (λ v. value_word p base (here_at (taken_at g.source block free)) v ∷ ws)) (λ v y x. Ready t v (here_at (taken_at g.source block free)) free kept y x)
      (output_read g.parameter i ps mask size f o asks whole t free pc block bs rest ws s m g.source g.there_is g.sorted g.plain left (omega (arith, below, big)) rooms_fit behind_block tops.0 fair sh g.typed (ends.front code now r pc ct _ has'))
      g.typed fair
      (λ v s1 m1 ready typed fair1.
      ex.bind p fine small is_there W first R code now base tables room reached k0 ks r own ar line own_there {m = stored v} (lost (pc + length ct + length (cp ++ ck)) ws) (Shows free kept)
      (output_stored q ss t v (here_at (taken_at g.source block free)) free (pc + length ct) kept ws s1 m1 g.root_is g.along_is refl g.uses more.0 fair1 g.plain typed ready (ends.front code now r (pc + length ct) (cp ++ ck) cr has_p) runs.0)
      (output_typed q ss t v g.root_is g.along_is refl g.uses g.owner g.plain typed) fair1
      (λ _ s2 m2 sh2 _ fair2. outputs_run xs o ps mask size f asks whole free (pc + length ct + length (cp ++ ck)) block bs rest ws s2 m2 h.1 left big rooms_fit behind_block more.1 fair2 sh2 (ends.back code now r (pc + length ct) (cp ++ ck) cr has_p) runs.1))))) has
    where
      meaning_is : (g : OutputGiven ps mask f o asks whole a q ss) → outputs p (enter p room) ps o f (argument_then (Output a name b q ss) xs) line s ≡ (output_of (Some g.parameter) o f >>= λ v. (placed q (along p (enter p room) ss) >>= λ spot. write spot v) >>= λ _. outputs p (enter p room) ps o f xs) line s
      meaning_is g =
          ap (λ y. (output_of y o f >>= λ v. placed q (along p (enter p room) ss) >>= λ spot. write spot v >>= λ _. outputs p (enter p room) ps o f xs) line s) g.there_is
          ∙ grouped (output_of (Some g.parameter) o f line s)
        where
          grouped : (out : Outcome Value) → go_on out (λ v u. (placed q (along p (enter p room) ss) >>= λ spot. write spot v >>= λ _. outputs p (enter p room) ps o f xs) line u) ≡ go_on out (λ v u. ((placed q (along p (enter p room) ss) >>= λ spot. write spot v) >>= λ _. outputs p (enter p room) ps o f xs) line u)
          grouped (Done v u) = sym (go_assoc (placed q (along p (enter p room) ss) line u) (λ spot. write spot v line) (λ _. outputs p (enter p room) ps o f xs line))
          grouped (Fault k l) = refl

      code_is : (g : OutputGiven ps mask f o asks whole a q ss) → outputs_code plan line block free ps whole (argument_then (Output a name b q ss) xs)
          ≡ output_code plan line (Some g.parameter) (block + of_parameter (parameter_number a.target)) (block + of_own) free (last_kind (root_note q).kind ss) whole
          ++ ((place_code plan line (free + room_of (bytes_of p) (last_kind (root_note q).kind ss)) q ss ++ keep_code plan line (last_kind (root_note q).kind ss)) ++ outputs_code plan line block free ps whole xs)
      code_is g =
          let t = last_kind (root_note q).kind ss in
          let at = block + of_parameter (parameter_number a.target) in
          let cp = place_code plan line (free + room_of (bytes_of p) t) q ss in
          let ck = keep_code plan line t in
          let cr = outputs_code plan line block free ps whole xs in
          ap (λ y. output_code plan line y at (block + of_own) free t whole ++ (cp ++ (ck ++ cr))) g.there_is
          ∙ ap (λ l. output_code plan line (Some g.parameter) at (block + of_own) free t whole ++ l) (sym (append_assoc cp ck cr))

  -- ---- what the types and the frame tell of each

  pub covered_joined : (us vs : List Use) → AllOf us → AllOf vs → AllOf (us ++ vs)
  covered_joined [] vs a b = b
  covered_joined (u ∷ us) vs a b = (a.0, covered_joined us vs a.1 b)

  local_held : (vs : List Variable) (slots : List Slot) (n : ℕ) (v : Variable) → slice_get vs n ≡ Some v → is_in_out v.sort ≡ false → SlotsAre p fine F W gs vs slots → (w : Value) × (held_by (slice_get slots n) ≡ Some w)
  local_held [] slots n v e i h = cc
  local_held (y ∷ vs) [] n v e i h = absurd h
  local_held (y ∷ vs) (holds w ∷ slots) zero v e i h = (w, refl)
  local_held (y ∷ vs) (bound spot ∷ slots) zero v e i h = let d : y ≡ v = cc in no_large (is_in_out y.sort) (ap (λ (z : Variable). is_in_out z.sort) d ∙ i) h.0.0
  local_held (y ∷ vs) (unbound ∷ slots) zero v e i h = let d : y ≡ v = cc in no_large (is_in_out y.sort) (ap (λ (z : Variable). is_in_out z.sort) d ∙ i) h.0
  local_held (y ∷ vs) (slot ∷ slots) (suc n) v e i h = local_held vs slots n v e i h.1

  -- what serves where another type is asked is no instance where that is none
  widened_plain : (t u : StType) → Widens p t u → IsNoInstance t → IsNoInstance u
  widened_plain t u same_type h = h
  widened_plain t u (wider_number r) h = tt
  widened_plain t u (wider_path i j n) h = held_plain u j
    where
      held_plain : (u : StType) → IsHeld u → IsNoInstance u
      held_plain (type.Reference c) h = tt
      held_plain (type.Interface c) h = tt
      held_plain u h = absurd h

  source_of : (keeps : Bool) (whole : StType) (x : Routine) (ps : List Parameter) (o : Option Path) (asks : Asks) (mask : ℕ) (f : Frame) (t : StType) (i far : ℕ) (q : Parameter) → RoutineIs p x → OutputsStand keeps whole ps x o asks.own → (keeps ≡ false → is_large t ≡ true → IsRoom asks.rooms (record { number = i; far = far; kind = t })) → slice_get ps i ≡ Some q → ParameterIs p x q → Leaves p x (Some q) t → SlotsAre p fine F W gs x.locals f.locals → (keeps ≡ false → has_bit mask i ≡ true)
      → Source mask f o asks whole t i q
  source_of true whole x ps o asks mask f t i far q ok b has_room e is leaves slots asked =
      let k = b.variables i q e leaves.2 in
      let same : is.0 ≡ leaves.0 = let d : Some is.0 ≡ Some leaves.0 = sym is.1 ∙ leaves.1 in cc in
      from_instance k.0 b.class is.0 b.path b.place k.1 b.path_is b.is b.held b.keeps b.of_class b.names b.there (b.members i k.0 q is.0 e k.1 is.1) (is.4 (ap is_in_out leaves.2)) (subst (λ (y : Variable). Widens p y.kind t) (sym same) leaves.3)
  source_of false whole x ps o asks mask f t i far q ok b has_room e is leaves slots asked =
      let n = b i q e leaves.2 in
      let there_v : slice_get x.locals n.0 ≡ Some is.0 = subst (λ to. recipient_variable p x to ≡ Some is.0) n.1 is.1 in
      let no_place : is_in_out is.0.sort ≡ false = ap is_in_out (is.2 ∙ leaves.2) in
      let w = local_held x.locals f.locals n.0 is.0 there_v no_place slots in
      let same : is.0 ≡ leaves.0 = let d : Some is.0 ≡ Some leaves.0 = sym is.1 ∙ leaves.1 in cc in
      let shaped = typing.local_kind p fine x n.0 is.0 ok there_v no_place in
      by (is_large t) refl n.0 n.1 w.0 w.1 (subst (λ (y : Variable). Widens p y.kind t) (sym same) leaves.3) shaped.0 shaped.1
    where
      by : (d : Bool) → is_large t ≡ d → (n : ℕ) → q.to ≡ to_local n → (w : Value) → frame_value (Some f) n ≡ Some w → Widens p is.0.kind t → (shape : Shape) → shape_of p is.0.kind ≡ Some shape → Source mask f o asks whole t i q
      by false g n to w held widens shape has_shape = from_block n w to (asked refl) held g
      by true g n to w held widens shape has_shape = from_room n far w shape to held g (ap (shape_of p) (sym (widens_large p is.0.kind t widens g)) ∙ has_shape) (has_room refl g)

  pub outputs_given : (xs : Arguments Note) (keeps : Bool) (whole : StType) (x : Routine) (ps left : List Parameter) (mask : ℕ) (o : Option Path) (asks : Asks) (f : Frame) (far : ℕ) → RoutineIs p x → OutputsStand keeps whole ps x o asks.own → (keeps ≡ false → (d : Room) → IsRoom (rooms.rooms_at p fine small is_there W first R code now base tables room reached k0 ks r own ar line own_there far xs) d → IsRoom asks.rooms d) → Each (ParameterIs p x) ps → ArgumentsAre p k0.scope x ps left xs → AllOf (argument_uses p ps left xs) → typing.OwnOf p fine F W first first R (enter p room) reached k0.scope (scopes ks) x o f
      → (keeps ≡ false → (i : ℕ) → is_among i (output_numbers xs) ≡ true → has_bit mask i ≡ true) → OutputsGiven ps mask f o asks whole xs
  outputs_given no_arguments keeps whole x ps left mask o asks f far ok b has_rooms each h u own_of asked = tt
  outputs_given (argument_then (Positional e) xs) keeps whole x ps left mask o asks f far ok b has_rooms each h u own_of asked =
      outputs_given xs keeps whole x ps (behind_next left) mask o asks f far ok b has_rooms each h.2 (typing.back _ (expression_uses p e) _ (typing.back _ (bound_uses (is_bound (next_parameter left)) e) _ u)) own_of asked
  outputs_given (argument_then (Input a name e) xs) keeps whole x ps left mask o asks f far ok b has_rooms each h u own_of asked =
      outputs_given xs keeps whole x ps left mask o asks f far ok b has_rooms each h.2 (typing.back _ (expression_uses p e) _ (typing.back _ (bound_uses (is_bound (parameter_named ps a)) e) _ u)) own_of asked
  outputs_given (argument_then (Output a name c q ss) xs) keeps whole x ps left mask o asks f far ok b has_rooms each h u own_of asked =
      let t = last_kind (root_note q).kind ss in
      let i = parameter_number a.target in
      let l = rooms.leaves_there p fine small is_there W first R code now base tables room reached k0 ks r own ar line own_there x (parameter_named ps a) t h.2 in
      let is = typing.slice_each (ParameterIs p x) ps i l.0 each l.1 in
      let same : is.0 ≡ l.2.0 = let d : Some is.0 ≡ Some l.2.0 = sym is.1 ∙ l.2.1 in cc in
      let u1 = typing.back _ (owner_uses q ss) _ u in
      let u2 = typing.back _ (root_uses q) _ u1 in (
        record {
          parameter = l.0;
          there_is = l.1;
          sorted = l.2.2;
          source = source_of keeps whole x ps o asks mask f t i far l.0 ok b (λ k large. has_rooms k (record { number = i; far = far; kind = t }) (first_room t i large)) l.1 is l.2 own_of.1 (λ k. asked k i (first_among i (output_numbers xs)));
          typed = typing.left_obeys p fine F W first first R (enter p room) reached k0.scope (scopes ks) x (Some l.0) t o f (λ y e. subst (ParameterIs p x) (some_once l.0 y e) is) l.2 own_of;
          plain = widened_plain l.2.0.kind t l.2.3 (subst (λ (y : Variable). IsNoInstance y.kind) same (is.4 (ap is_in_out l.2.2)));
          root_is = h.0;
          along_is = h.1;
          uses = covered_joined (root_uses q) (along_uses p (root_note q).kind ss) (typing.front _ (root_uses q) _ u1) (typing.front _ (along_uses p (root_note q).kind ss) _ u2);
          owner = typing.front _ (owner_uses q ss) _ u;
        },
        outputs_given xs keeps whole x ps left mask o asks f (far + room_of (bytes_of p) t) ok b (λ k d is. has_rooms k d (later_room d is)) each h.3 (typing.back _ (along_uses p (root_note q).kind ss) _ u2) own_of (λ k j g. asked k j (later (nat_eq j i) (is_among j (output_numbers xs)) g)),
      )
    where
      first_room : (t : StType) (i : ℕ) → is_large t ≡ true → IsRoom (rooms.room_first p fine small is_there W first R code now base tables room reached k0 ks r own ar line own_there (is_large t) (record { number = i; far = far; kind = t }) (rooms.rooms_at p fine small is_there W first R code now base tables room reached k0 ks r own ar line own_there (far + room_of (bytes_of p) t) xs)) (record { number = i; far = far; kind = t })
      first_room t i large = subst (λ e. IsRoom (rooms.room_first p fine small is_there W first R code now base tables room reached k0 ks r own ar line own_there e (record { number = i; far = far; kind = t }) (rooms.rooms_at p fine small is_there W first R code now base tables room reached k0 ks r own ar line own_there (far + room_of (bytes_of p) t) xs)) (record { number = i; far = far; kind = t })) (sym large) (inl refl)

      later_room : (d : Room) → IsRoom (rooms.rooms_at p fine small is_there W first R code now base tables room reached k0 ks r own ar line own_there (far + room_of (bytes_of p) (last_kind (root_note q).kind ss)) xs) d → IsRoom (rooms.rooms_at p fine small is_there W first R code now base tables room reached k0 ks r own ar line own_there far (argument_then (Output a name c q ss) xs)) d
      later_room d is = by (is_large (last_kind (root_note q).kind ss))
        where
          by : (e : Bool) → IsRoom (rooms.room_first p fine small is_there W first R code now base tables room reached k0 ks r own ar line own_there e (record { number = parameter_number a.target; far = far; kind = last_kind (root_note q).kind ss }) (rooms.rooms_at p fine small is_there W first R code now base tables room reached k0 ks r own ar line own_there (far + room_of (bytes_of p) (last_kind (root_note q).kind ss)) xs)) d
          by true = inr is
          by false = is

      later : (a b : Bool) → b ≡ true → (a || b) ≡ true
      later true b e = refl
      later false b e = e

      first_among : (i : ℕ) (ns : List ℕ) → (nat_eq i i || is_among i ns) ≡ true
      first_among i ns = ap (λ b. b || is_among i ns) (eq-eqb i i refl)

      some_once : (x y : Parameter) → Some x ≡ Some y → x ≡ y
      some_once x y e = cc

  -- of what a routine leaves, that of the parameters that are called
  pub left_first : (x : Routine) (ps : List Parameter) (mask : ℕ) (f : Frame) (bytes : List ℕ) (size : ℕ) (asks : Asks) (start : Address) → Begins x ps → BlockLeft p base start x.parameters size asks bytes mask f → BlockLeft p base start ps size asks bytes mask f
  left_first x ps mask f bytes size asks start begins left = record {
    long = left.long;
    own_stays = left.own_stays;
    outputs = λ i n q v a there sorted to asked held word_is. left.outputs i n q v a (ap (λ l. slice_get l i) begins.is ∙ front_get ps begins.more i q there) sorted to asked held word_is;
    rooms = λ r is. let g = left.rooms r is in record { word_there = g.word_there; decodes = g.decodes; filled = λ n q v shape there. g.filled n q v shape (ap (λ l. slice_get l r.number) begins.is ∙ front_get ps begins.more r.number q there) };
    result = left.result;
    large_result = left.large_result;
  }

  -- what a routine left, where the values that were given are no longer of use
  pub record LeftCut (k : Open) (ps : List Parameter) (mask : ℕ) (f : Frame) (block size : ℕ) (asks : Asks) (kept : List Kept) (s : State) (m : Memory) : Type 0 where
    pub bytes : List ℕ
    pub left : BlockLeft p base (here_at block) ps size asks bytes mask f
    pub shown : Shown p base is_there now (with_block p base (record k { free = block + size }) block bytes kept ∷ ks) m s

  pub left_cut : (k : Open) (ps : List Parameter) (mask : ℕ) (f : Frame) (block size size' : ℕ) (asks : Asks) (bytes : List ℕ) (kept : List Kept) (s : State) (m : Memory) → block_size (length ps) ≤ size → size ≤ size' → RoomsFit asks size → BlockLeft p base (here_at block) ps size' asks bytes mask f → Shown p base is_there now (with_block p base k block bytes kept ∷ ks) m s → LeftCut k ps mask f block size asks kept s m
  left_cut k ps mask f block size size' asks bytes kept s m big grows rooms_fit left sh =
      let long = left.long in
      let c = kept_cut p base k ks s.frames m.locals block size bytes kept (omega (arith, long, grows)) sh.frames in
      record {
        bytes = c.bytes;
        left = record {
          long = c.long;
          own_stays = own_cut asks.own c.bytes (c.front of_own 8 (omega (arith, big))) left.own_stays;
          outputs = λ i n q v a e sorted to asked held is_word. cut_word (value_word p base a v) c.bytes (of_parameter i) (c.front (of_parameter i) 8 (let l = get_below ps i q e in omega (arith, l, big))) (left.outputs i n q v a e sorted to asked held is_word);
          rooms = λ r is. let g = left.rooms r is in let l = (rooms_fit r is).0 in record {
            word_there = record { fits = g.word_there.fits; stands = c.front (of_parameter r.number) 8 l ∙ g.word_there.stands };
            decodes = g.decodes;
            filled = λ n q v shape there to held has_shape. subst (λ b. Spells (region_shape p) shape v b 0) (sym (c.front r.far (store.size shape) ((rooms_fit r is).1 shape has_shape))) (g.filled n q v shape there to held has_shape);
          };
          large_result = λ t e. let g = left.large_result t e in record { fits = g.fits; stands = c.front of_result 8 (omega (arith, big)) ∙ g.stands };
          result = λ v a asked held is_word. cut_word (value_word p base a v) c.bytes of_result (c.front of_result 8 (omega (arith, big))) (left.result v a asked held is_word);
        };
        shown = record { regions = sh.regions; frames = c.frames; deep = sh.deep; moment = sh.moment };
      }
    where
      own_cut : (o : Option ℤ) (bytes' : List ℕ) → slice_range bytes' of_own (of_own + 8) ≡ slice_range bytes of_own (of_own + 8) → OwnHeld o bytes → OwnHeld o bytes'
      own_cut None bytes' e h = tt
      own_cut (Some z) bytes' e h = record { fits = h.fits; stands = e ∙ h.stands }

      cut_word : (w : Word) (bytes' : List ℕ) (at : ℕ) → slice_range bytes' at (at + 8) ≡ slice_range bytes at (at + 8) → Keeps w bytes at → Keeps w bytes' at
      cut_word w bytes' at e h = record { z = h.z; is = h.is; holds_it = record { fits = h.holds_it.fits; stands = e ∙ h.holds_it.stands } }
