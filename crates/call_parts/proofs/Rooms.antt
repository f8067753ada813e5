-- Where large outputs and results of a call come to: rooms behind the block and below it, whose addresses are written into the block.
use Rattle.std.proofs.Common.{◌≡◌, ◌≤◌, ◌<◌, ℕ, ◌+◌, ◌-◌, pos, Bool, true, false, List, [], ◌∷◌, ◌++◌, length, Option, Some, None, refl, sym, ap, ◌∙◌, subst, arith, length-append, inl, inr, ⊎_elim}
use Rattle.std.specs.Prelude.{slice_range, if◌then◌else◌, ◌⊎◌, slice_get}
use Rattle.st_types.specs.declared.st_type.StType.{StType}
use Rattle.mem_image.specs.Laws.{AreApart}
use Rattle.st_tree.specs.declared.path.Path.{Path}
use Rattle.st_tree.specs.declared.program.Note.{Note}
use Rattle.st_tree.specs.Expression.{Positional, Input, Output, Arguments, no_arguments, argument_then}
use Rattle.st_values.specs.Program.{Program, Routine, Parameter, Variable, to_local}
use Rattle.st_values.specs.Shape.{Shape, shape_of}
use Rattle.st_tree.specs.declared.declaration.SectionSort.TheVariants as sort
use Rattle.st_values.specs.Value.{Store}
use Rattle.st_meaning.specs.Call.{parameter_number, parameter_named, behind_next, is_in_out}
use Rattle.st_meaning.specs.st_frame.Promise.Calls.{Leaves, recipient_variable}
use Rattle.st_meaning.specs.st_frame.Promise.Declarations.{Each, ParameterIs, RoutineIs}
use Rattle.st_meaning.specs.st_frame.Promise.Expressions.{ArgumentsAre}
use Rattle.st_meaning.specs.Enter.{enter}
use Rattle.st_meaning.specs.Place.{root_note}
use Rattle.st_meaning.specs.State.{in_store, State, Outcome, Done}
use Rattle.st_meaning.specs.st_frame.Promise.Programs.{ProgramIs}
use Rattle.st_meaning.specs.st_frame.Use.{last_kind}
use Rattle.st_meaning.proofs.st_frame.Bodies.{CallsObey}
use Rattle.st_meaning.proofs.st_frame.Bodies as typing
use Rattle.mem_layout.specs.store_bytes.Place as store
use Rattle.stack_code.specs.declared.code.MachineCode.{MachineCode}
use Rattle.stack_code.specs.declared.machine.Frame.{Frame as At}
use Rattle.stack_code.specs.declared.memory.Address.{Address}
use Rattle.stack_code.specs.declared.memory.Space.TheVariants.{Locals}
use Rattle.stack_code.specs.declared.memory.Word.{Word}
use Rattle.stack_code.specs.declared.memory.Word.TheVariants as word
use Rattle.stack_code.specs.declared.op.Op.TheVariants as op
use Rattle.stack_code.specs.Machine.{Config}
use Rattle.stack_code.specs.Memory.{Memory}
use Rattle.stack_code.specs.Steps.{Goes}
use Rattle.code_cells.specs.declared.cell.Cell.{Cell}
use Rattle.code_cells.specs.declared.cell.Cell.TheVariants.{Does as does}
use Rattle.code_rules.specs.Code.{behind_outputs, output_rooms}
use Rattle.code_rules.specs.Places.{bytes_of, is_large, room_of, of_parameter, of_result, size_in}
use Rattle.code_rules.specs.Plan.{Plan, plan_of, Tables}
use Rattle.shown_memory.specs.Passing.{Keeps, with_block, Room, IsRoom, RoomsApart, Below}
use Rattle.memory_access.proofs.Worded.{widens_large, widens_small}
use Rattle.shown_memory.specs.Shown.{Kept, kept_number, located, Located, Open, Shown, Small}
use Rattle.memory_access.proofs.KeptAddresses.{kept_local}
use Rattle.memory_access.proofs.Arguments.{eights_apart, IsIn, Once}
use Rattle.value_runs.proofs.Ends.{Leads, Stands}
use Rattle.value_runs.proofs.Ends as ends
use Rattle.value_runs.proofs.Expressions as ex

-- the parameters that outputs are of
abbrev pub output_numbers : Arguments Note → List ℕ
output_numbers no_arguments = []
output_numbers (argument_then (Positional e) xs) = output_numbers xs
output_numbers (argument_then (Input a name e) xs) = output_numbers xs
output_numbers (argument_then (Output a name b q ss) xs) = parameter_number a.target ∷ output_numbers xs

-- bytes that are of no output's word
abbrev pub OutsideOutputs : Arguments Note → ℕ → ℕ → Type 0
OutsideOutputs no_arguments j n = Unit {0}
OutsideOutputs (argument_then (Output a name b q ss) xs) j n = AreApart (of_parameter (parameter_number a.target)) 8 j n × OutsideOutputs xs j n
OutsideOutputs (argument_then x xs) j n = OutsideOutputs xs j n

pub other_output : (n : ℕ) (xs : Arguments Note) → (IsIn (output_numbers xs) n → ⊥) → OutsideOutputs xs (of_parameter n) 8
other_output n no_arguments h = tt
other_output n (argument_then (Output a name b q ss) xs) h = (eights_apart (parameter_number a.target) n (λ e. h (inl e)), other_output n xs (λ k. h (inr k)))
other_output n (argument_then (Input a name e) xs) h = other_output n xs h
other_output n (argument_then (Positional e) xs) h = other_output n xs h

module _ (p : Program) (fine : ProgramIs p) (small : Small p) (is_there : ℕ → Bool) (W : ℕ → Type 0) (first : Store) (R : Routine → Type 0) (code : MachineCode) (now base : ℕ) (tables : Tables)
    (room : ℕ) (reached : CallsObey p fine (λ r. is_there r ≡ true) W first first R (enter p room)) (k0 : Open) (ks : List Open) (r : ℕ) (own : Option Address) (ar : List At) (line : ℕ)
    (own_there : (c : ℕ) → k0.scope.this ≡ Some c → (q : Path) × (l : Located) × (k0.own ≡ Some q) × (own ≡ Some l.address) × (located p base [] (in_store q) ≡ Some l)) where
  abbrev plan : Plan
  plan = plan_of p tables k0.scope k0.start

  abbrev cfg : ℕ → List Word → State → Memory → Config
  cfg pc ws s m = record { here = record { routine = r; next = pc; own = own }; words = ws; around = ar; memory = m; ticks = s.ticks }

  abbrev here_at : ℕ → Address
  here_at free = record { space = Locals; index = base + length ks; offset = free }

  abbrev From : {A : Type 0} → Config → (A → State → Memory → Config) → (A → State → Memory → Type 0) → Outcome A → Type 0
  From c after shown o = Leads code now (Goes c) after shown o

  abbrev Written : Open → ℕ → List ℕ → List Kept → ℕ → ℕ → State → Memory → Type 0
  Written k block bytes rest at f t y = ex.BlockWritten p fine small is_there W first R code now base tables room reached k0 ks r own ar line own_there k block bytes rest at (pos (kept_number p base (here_at f))) t y

  -- the word of each large output is the address of its room
  abbrev pub RoomsKept : List ℕ → ℕ → Arguments Note → Type 0
  RoomsKept bytes f no_arguments = Unit {0}
  RoomsKept bytes f (argument_then (Output a name b q ss) xs) =
      (is_large (last_kind (root_note q).kind ss) ≡ true → Keeps (word.Address (here_at f)) bytes (of_parameter (parameter_number a.target))) × RoomsKept bytes (f + room_of (bytes_of p) (last_kind (root_note q).kind ss)) xs
  RoomsKept bytes f (argument_then x xs) = RoomsKept bytes f xs

  pub record RoomsWritten (k : Open) (block : ℕ) (bytes : List ℕ) (rest : List Kept) (f : ℕ) (xs : Arguments Note) (s : State) (m : Memory) : Type 0 where
    pub left : List ℕ
    pub long : length left ≡ length bytes
    pub rooms : RoomsKept left f xs
    pub others : (j n : ℕ) → OutsideOutputs xs j n → j + n ≤ length bytes → slice_range left j (j + n) ≡ slice_range bytes j (j + n)
    pub shown : Shown p base is_there now (with_block p base k block left rest ∷ ks) m s

  pub room_above : (f : ℕ) (xs : Arguments Note) → f ≤ behind_outputs plan f xs
  room_above f no_arguments = omega arith
  room_above f (argument_then (Output a name b q ss) xs) = let h = room_above (f + room_of (bytes_of p) (last_kind (root_note q).kind ss)) xs in omega (arith, h)
  room_above f (argument_then (Input a name e) xs) = room_above f xs
  room_above f (argument_then (Positional e) xs) = room_above f xs

  ended : (a b pc : ℕ) (ws : List Word) (s : State) (m : Memory) (P : State → Memory → Type 0) (o : Outcome (Unit {0})) → a ≡ b → From (cfg pc ws s m) (λ (_ : Unit {0}) t y. cfg a ws t y) (λ _ t y. P t y) o → From (cfg pc ws s m) (λ (_ : Unit {0}) t y. cfg b ws t y) (λ _ t y. P t y) o
  ended a b pc ws s m P o e h = subst (λ n. From (cfg pc ws s m) (λ (_ : Unit {0}) t y. cfg n ws t y) (λ _ t y. P t y) o) e h

  -- one address
  room_run : (at f pc : ℕ) (k : Open) (block : ℕ) (bytes : List ℕ) (rest : List Kept) (ws : List Word) (s : State) (m : Memory) → base + length (k0 ∷ ks) ≤ 2147483647 → f < 4294967296 → Shown p base is_there now (with_block p base k block bytes rest ∷ ks) m s → at + 8 ≤ length bytes
      → Stands code now r pc (does (op.Local f) line ∷ (does (op.Local (block + at)) line ∷ (does op.StoreRef line ∷ [])))
      → From (cfg pc ws s m) (λ (_ : Unit {0}) t y. cfg (pc + 1 + 1 + 1) ws t y) (λ _ t y. Written k block bytes rest at f t y) (Done tt s)
  room_run at f pc k block bytes rest ws s m few low sh fit has =
      let kept = kept_local p base (base + length ks) f (omega (arith, few)) low in
      ends.step_leads code now (op.Local f, line) has.0
      (subst (λ i. From (cfg (pc + 1) (word.Address (record { space = Locals; index = i; offset = f }) ∷ ws) s m) (λ (_ : Unit {0}) t y. cfg (pc + 1 + 1 + 1) ws t y) (λ _ t y. Written k block bytes rest at f t y) (Done tt s)) (sym (let d : length m.locals ≡ base + length (k ∷ ks) = sh.deep in omega (arith, d)))
      (ex.give_reference p fine small is_there W first R code now base tables room reached k0 ks r own ar line own_there k block bytes rest at (pc + 1) (word.Address (here_at f)) (pos (kept_number p base (here_at f))) ws s m refl kept.keeps kept.fits sh fit has.1))

  pub rooms_run : (xs : Arguments Note) (f pc : ℕ) (k : Open) (block : ℕ) (bytes : List ℕ) (rest : List Kept) (ws : List Word) (s : State) (m : Memory) → Once (output_numbers xs) → ((i : ℕ) → IsIn (output_numbers xs) i → of_parameter i + 8 ≤ length bytes) → base + length (k0 ∷ ks) ≤ 2147483647 → behind_outputs plan f xs < 4294967296
      → Shown p base is_there now (with_block p base k block bytes rest ∷ ks) m s → Stands code now r pc (output_rooms plan line block f xs)
      → From (cfg pc ws s m) (λ (_ : Unit {0}) t y. cfg (pc + length (output_rooms plan line block f xs)) ws t y) (λ _ t y. RoomsWritten k block bytes rest f xs t y) (Done tt s)
  rooms_run no_arguments f pc k block bytes rest ws s m once inside few low sh has =
      ended pc (pc + 0) pc ws s m (λ t y. RoomsWritten k block bytes rest f no_arguments t y) (Done tt s) (omega arith)
      (ends.stays code now tt s m (record { left = bytes; long = refl; rooms = tt; others = λ j n h l. refl; shown = sh }))
  rooms_run (argument_then (Input a name e) xs) f pc k block bytes rest ws s m once inside few low sh has =
      ends.and_then code now (λ (_ : Unit {0}) t y. cfg (pc + length (output_rooms plan line block f xs)) ws t y) (λ _ t y. RoomsWritten k block bytes rest f xs t y) (rooms_run xs f pc k block bytes rest ws s m once inside few low sh has)
      (λ y w. ends.stays code now tt s y (record { left = w.left; long = w.long; rooms = w.rooms; others = λ j n h l. w.others j n h l; shown = w.shown }))
  rooms_run (argument_then (Positional e) xs) f pc k block bytes rest ws s m once inside few low sh has =
      ends.and_then code now (λ (_ : Unit {0}) t y. cfg (pc + length (output_rooms plan line block f xs)) ws t y) (λ _ t y. RoomsWritten k block bytes rest f xs t y) (rooms_run xs f pc k block bytes rest ws s m once inside few low sh has)
      (λ y w. ends.stays code now tt s y (record { left = w.left; long = w.long; rooms = w.rooms; others = λ j n h l. w.others j n h l; shown = w.shown }))
  rooms_run (argument_then (Output a name b q ss) xs) f pc k block bytes rest ws s m once inside few low sh has =
      by (is_large (last_kind (root_note q).kind ss)) refl (λ at bytes' y in_rest sh' has'. rooms_run xs f' at k block bytes' rest ws s y once.1 in_rest few low sh' has')
    where
      t : StType
      t = last_kind (root_note q).kind ss

      f' : ℕ
      f' = f + room_of (bytes_of p) t

      n : ℕ
      n = parameter_number a.target

      three : List Cell
      three = does (op.Local f) line ∷ (does (op.Local (block + of_parameter n)) line ∷ (does op.StoreRef line ∷ []))

      behind : List Cell
      behind = output_rooms plan line block f' xs

      Result : List Cell → Type 0
      Result c = From (cfg pc ws s m) (λ (_ : Unit {0}) t y. cfg (pc + length c) ws t y) (λ _ t y. RoomsWritten k block bytes rest f (argument_then (Output a name b q ss) xs) t y) (Done tt s)

      clash : {X : Type 0} → false ≡ true → X
      clash e = cc

      by : (d : Bool) → is_large t ≡ d → ((at : ℕ) (bytes' : List ℕ) (y : Memory) → ((i : ℕ) → IsIn (output_numbers xs) i → of_parameter i + 8 ≤ length bytes') → Shown p base is_there now (with_block p base k block bytes' rest ∷ ks) y s → Stands code now r at behind
          → From (cfg at ws s y) (λ (_ : Unit {0}) t z. cfg (at + length behind) ws t z) (λ _ t z. RoomsWritten k block bytes' rest f' xs t z) (Done tt s)) → Result (output_rooms plan line block f (argument_then (Output a name b q ss) xs))
      by false e again =
          let code_is : output_rooms plan line block f (argument_then (Output a name b q ss) xs) ≡ behind = ap (λ d. (if d then three else []) ++ behind) e in
          subst Result (sym code_is)
          (ends.and_then code now (λ (_ : Unit {0}) t z. cfg (pc + length behind) ws t z) (λ _ t z. RoomsWritten k block bytes rest f' xs t z) (again pc bytes m (λ i h. inside i (inr h)) sh (subst (Stands code now r pc) code_is has))
          (λ y w. ends.stays code now tt s y (record { left = w.left; long = w.long; rooms = (λ g. clash (sym e ∙ g), w.rooms); others = λ j n h l. w.others j n h.1 l; shown = w.shown })))
      by true e again =
          let code_is : output_rooms plan line block f (argument_then (Output a name b q ss) xs) ≡ three ++ behind = ap (λ d. (if d then three else []) ++ behind) e in
          let has' : Stands code now r pc (three ++ behind) = subst (Stands code now r pc) code_is has in
          let above = room_above f' xs in
          let kept = kept_local p base (base + length ks) f (omega (arith, few)) (omega (arith, above, low)) in
          let fit = inside n (inl refl) in
          subst Result (sym code_is)
          (ended (pc + 1 + 1 + 1 + length behind) (pc + length (three ++ behind)) pc ws s m (λ t y. RoomsWritten k block bytes rest f (argument_then (Output a name b q ss) xs) t y) (Done tt s) (omega arith)
          (ends.and_then code now (λ (_ : Unit {0}) t y. cfg (pc + 1 + 1 + 1) ws t y) (λ _ t y. Written k block bytes rest (of_parameter n) f t y) (room_run (of_parameter n) f pc k block bytes rest ws s m few (omega (arith, above, low)) sh fit (has'.0, (has'.1.0, (has'.1.1.0, tt))))
          (λ y v.
          let v_long = v.long in
          ends.and_then code now (λ (_ : Unit {0}) t z. cfg (pc + 1 + 1 + 1 + length behind) ws t z) (λ _ t z. RoomsWritten k block v.left rest f' xs t z) (again (pc + 1 + 1 + 1) v.left y (λ i h. let l = inside i (inr h) in omega (arith, l, v_long)) v.shown has'.1.1.1)
          (λ z w. ends.stays code now tt s z (record {
            left = w.left;
            long = w.long ∙ v.long;
            rooms = (λ g. record { z = pos (kept_number p base (here_at f)); is = kept.keeps; holds_it = record { fits = v.word_there.fits; stands = w.others (of_parameter n) 8 (other_output n xs once.0) (omega (arith, fit, v_long)) ∙ v.word_there.stands } }, w.rooms);
            others = λ j i h l. w.others j i h.1 (omega (arith, l, v_long)) ∙ v.others j i h.0 l;
            shown = w.shown;
          })))))

  -- ---- and where a large result comes to, below the block

  abbrev pub result_words : Option Below → ℕ → List Cell
  result_words None block = []
  result_words (Some b) block = does (op.Local b.from) line ∷ (does (op.Local (block + of_result)) line ∷ (does op.StoreRef line ∷ []))

  abbrev pub ResultKept : Option Below → List ℕ → Type 0
  ResultKept None bytes = Unit {0}
  ResultKept (Some b) bytes = Keeps (word.Address (here_at b.from)) bytes of_result

  abbrev pub ResultLow : Option Below → Type 0
  ResultLow None = Unit {0}
  ResultLow (Some b) = b.from < 4294967296

  pub record AllRooms (k : Open) (block : ℕ) (bytes : List ℕ) (rest : List Kept) (f : ℕ) (xs : Arguments Note) (res : Option Below) (s : State) (m : Memory) : Type 0 where
    pub left : List ℕ
    pub long : length left ≡ length bytes
    pub rooms : RoomsKept left f xs
    pub result : ResultKept res left
    pub others : (j n : ℕ) → OutsideOutputs xs j n → of_result + 8 ≤ j → j + n ≤ length bytes → slice_range left j (j + n) ≡ slice_range bytes j (j + n)
    pub shown : Shown p base is_there now (with_block p base k block left rest ∷ ks) m s

  rooms_still : (xs : Arguments Note) (f : ℕ) (bytes left : List ℕ) → ((i : ℕ) → IsIn (output_numbers xs) i → slice_range left (of_parameter i) (of_parameter i + 8) ≡ slice_range bytes (of_parameter i) (of_parameter i + 8)) → RoomsKept bytes f xs → RoomsKept left f xs
  rooms_still no_arguments f bytes left same h = tt
  rooms_still (argument_then (Input a name e) xs) f bytes left same h = rooms_still xs f bytes left same h
  rooms_still (argument_then (Positional e) xs) f bytes left same h = rooms_still xs f bytes left same h
  rooms_still (argument_then (Output a name b q ss) xs) f bytes left same h = (
    λ large. let k = h.0 large in record { z = k.z; is = k.is; holds_it = record { fits = k.holds_it.fits; stands = same (parameter_number a.target) (inl refl) ∙ k.holds_it.stands } },
    rooms_still xs (f + room_of (bytes_of p) (last_kind (root_note q).kind ss)) bytes left (λ i is. same i (inr is)) h.1,
  )

  pub all_rooms_run : (xs : Arguments Note) (f : ℕ) (res : Option Below) (pc : ℕ) (k : Open) (block : ℕ) (bytes : List ℕ) (rest : List Kept) (ws : List Word) (s : State) (m : Memory) → Once (output_numbers xs) → ((i : ℕ) → IsIn (output_numbers xs) i → of_parameter i + 8 ≤ length bytes) → base + length (k0 ∷ ks) ≤ 2147483647 → behind_outputs plan f xs < 4294967296 → ResultLow res → 24 ≤ length bytes
      → Shown p base is_there now (with_block p base k block bytes rest ∷ ks) m s → Stands code now r pc (output_rooms plan line block f xs ++ result_words res block)
      → From (cfg pc ws s m) (λ (_ : Unit {0}) t y. cfg (pc + length (output_rooms plan line block f xs ++ result_words res block)) ws t y) (λ _ t y. AllRooms k block bytes rest f xs res t y) (Done tt s)
  all_rooms_run xs f res pc k block bytes rest ws s m once inside few low res_low wide sh has =
      let co = output_rooms plan line block f xs in
      let cr = result_words res block in
      ended (pc + length co + length cr) (pc + length (co ++ cr)) pc ws s m (λ t y. AllRooms k block bytes rest f xs res t y) (Done tt s) (omega (arith, length-append co cr))
      (ends.and_then code now (λ (_ : Unit {0}) t y. cfg (pc + length co) ws t y) (λ _ t y. RoomsWritten k block bytes rest f xs t y) (rooms_run xs f pc k block bytes rest ws s m once inside few low sh (ends.front code now r pc co cr has))
      (λ y w. by res res_low y w (ends.back code now r pc co cr has)))
    where
      by : (o : Option Below) → ResultLow o → (y : Memory) (w : RoomsWritten k block bytes rest f xs s y) → Stands code now r (pc + length (output_rooms plan line block f xs)) (result_words o block)
          → From (cfg (pc + length (output_rooms plan line block f xs)) ws s y) (λ (_ : Unit {0}) t z. cfg (pc + length (output_rooms plan line block f xs) + length (result_words o block)) ws t z) (λ _ t z. AllRooms k block bytes rest f xs o t z) (Done tt s)
      by None l y w has' =
          let at = pc + length (output_rooms plan line block f xs) in
          ended at (at + 0) at ws s y (λ t z. AllRooms k block bytes rest f xs None t z) (Done tt s) (omega arith)
          (ends.stays code now tt s y (record { left = w.left; long = w.long; rooms = w.rooms; result = tt; others = λ j n h above l. w.others j n h l; shown = w.shown }))
      by (Some b) l y w has' =
          let at = pc + length (output_rooms plan line block f xs) in
          let kept = kept_local p base (base + length ks) b.from (omega (arith, few)) l in
          let w_long = w.long in
          ended (at + 1 + 1 + 1) (at + 3) at ws s y (λ t z. AllRooms k block bytes rest f xs (Some b) t z) (Done tt s) (omega arith)
          (ends.and_then code now (λ (_ : Unit {0}) t z. cfg (at + 1 + 1 + 1) ws t z) (λ _ t z. Written k block w.left rest of_result b.from t z) (room_run of_result b.from at k block w.left rest ws s y few l w.shown (omega (arith, wide, w_long)) has')
          (λ z v. ends.stays code now tt s z (record {
            left = v.left;
            long = v.long ∙ w.long;
            rooms = rooms_still xs f w.left v.left (λ i is. v.others (of_parameter i) 8 (inl (omega arith)) (let h = inside i is in omega (arith, h, w_long))) w.rooms;
            result = record { z = pos (kept_number p base (here_at b.from)); is = kept.keeps; holds_it = v.word_there };
            others = λ j n h above fit. v.others j n (inl above) (omega (arith, fit, w_long)) ∙ w.others j n h fit;
            shown = v.shown;
          })))

  -- ---- the rooms as they are asked for, their places counted from the beginning of the block

  abbrev pub room_first : Bool → Room → List Room → List Room
  room_first true r rooms = r ∷ rooms
  room_first false r rooms = rooms

  abbrev pub rooms_at : ℕ → Arguments Note → List Room
  rooms_at far no_arguments = []
  rooms_at far (argument_then (Output a name b q ss) xs) =
      room_first (is_large (last_kind (root_note q).kind ss)) (record { number = parameter_number a.target; far = far; kind = last_kind (root_note q).kind ss }) (rooms_at (far + room_of (bytes_of p) (last_kind (root_note q).kind ss)) xs)
  rooms_at far (argument_then x xs) = rooms_at far xs

  one_of : (b : Bool) (r : Room) (rooms : List Room) (s : Room) → IsRoom (room_first b r rooms) s → ((b ≡ true) × (r ≡ s)) ⊎ IsRoom rooms s
  one_of true r rooms s (inl e) = inl (refl, e)
  one_of true r rooms s (inr h) = inr h
  one_of false r rooms s h = inr h

  pub behind_moved : (block far : ℕ) (xs : Arguments Note) → behind_outputs plan (block + far) xs ≡ block + behind_outputs plan far xs
  behind_moved block far no_arguments = refl
  behind_moved block far (argument_then (Output a name b q ss) xs) =
      let n = room_of (bytes_of p) (last_kind (root_note q).kind ss) in
      let e : block + far + n ≡ block + (far + n) = omega arith in
      ap (λ j. behind_outputs plan j xs) e ∙ behind_moved block (far + n) xs
  behind_moved block far (argument_then (Input a name e) xs) = behind_moved block far xs
  behind_moved block far (argument_then (Positional e) xs) = behind_moved block far xs

  -- a large value has as much room as its shape has bytes
  room_size : (t : StType) (shape : Shape) → is_large t ≡ true → shape_of p t ≡ Some shape → room_of (bytes_of p) t ≡ store.size shape
  room_size t shape large e = ap (λ b. if b then bytes_of p t else 0) large ∙ ap size_in e

  -- what is known of a room
  pub record RoomKnown (x : Routine) (ps : List Parameter) (low high : ℕ) (numbers : List ℕ) (d : Room) : Type 0 where
    pub parameter : Parameter
    pub local : ℕ
    pub variable : Variable
    pub there : slice_get ps d.number ≡ Some parameter
    pub sorted : parameter.sort ≡ sort.Output
    pub to : parameter.to ≡ to_local local
    pub in_locals : slice_get x.locals local ≡ Some variable
    pub kind_is : variable.kind ≡ d.kind
    pub large : is_large d.kind ≡ true
    pub numbered : IsIn numbers d.number
    pub shape : Shape
    pub has_shape : shape_of p d.kind ≡ Some shape
    pub above : low ≤ d.far
    pub below : d.far + store.size shape ≤ high

  abbrev pub OutputsLocal : List Parameter → Type 0
  OutputsLocal ps = (i : ℕ) (q : Parameter) → slice_get ps i ≡ Some q → q.sort ≡ sort.Output → (n : ℕ) × (q.to ≡ to_local n)

  pub leaves_there : (x : Routine) (o : Option Parameter) (t : StType) → Leaves p x o t → (q : Parameter) × (o ≡ Some q) × Leaves p x (Some q) t
  leaves_there x None t h = absurd h
  leaves_there x (Some q) t h = (q, refl, h)

  pub rooms_known : (xs : Arguments Note) (x : Routine) (ps left : List Parameter) (low far high : ℕ) → RoutineIs p x → Each (ParameterIs p x) ps → OutputsLocal ps → ArgumentsAre p k0.scope x ps left xs → low ≤ far → behind_outputs plan far xs ≤ high → (d : Room) → IsRoom (rooms_at far xs) d → RoomKnown x ps low high (output_numbers xs) d
  rooms_known no_arguments x ps left low far high ok each locals h l fit d is = absurd is
  rooms_known (argument_then (Input a name e) xs) x ps left low far high ok each locals h l fit d is = rooms_known xs x ps left low far high ok each locals h.2 l fit d is
  rooms_known (argument_then (Positional e) xs) x ps left low far high ok each locals h l fit d is = rooms_known xs x ps (behind_next left) low far high ok each locals h.2 l fit d is
  rooms_known (argument_then (Output a name b q ss) xs) x ps left low far high ok each locals h l fit d is =
      ⊎_elim (λ first. here first.0 first.1) (λ k. more (rooms_known xs x ps left low (far + n) high ok each locals h.3 (omega (arith, l)) fit d k)) (one_of (is_large t) room_here (rooms_at (far + n) xs) d is)
    where
      t : StType
      t = last_kind (root_note q).kind ss

      n : ℕ
      n = room_of (bytes_of p) t

      room_here : Room
      room_here = record { number = parameter_number a.target; far = far; kind = t }

      more : RoomKnown x ps low high (output_numbers xs) d → RoomKnown x ps low high (parameter_number a.target ∷ output_numbers xs) d
      more k = record { parameter = k.parameter; local = k.local; variable = k.variable; there = k.there; sorted = k.sorted; to = k.to; in_locals = k.in_locals; kind_is = k.kind_is; large = k.large; numbered = inr k.numbered; shape = k.shape; has_shape = k.has_shape; above = k.above; below = k.below }

      here : is_large t ≡ true → room_here ≡ d → RoomKnown x ps low high (parameter_number a.target ∷ output_numbers xs) d
      here large same =
          let o = leaves_there x (parameter_named ps a) t h.2 in
          let param = typing.slice_each (ParameterIs p x) ps (parameter_number a.target) o.0 each o.1 in
          let to = locals (parameter_number a.target) o.0 o.1 o.2.2 in
          let variable_is : param.0 ≡ o.2.0 = let d : Some param.0 ≡ Some o.2.0 = sym param.1 ∙ o.2.1 in cc in
          let in_locals : slice_get x.locals to.0 ≡ Some o.2.0 = sym (ap (recipient_variable p x) to.1) ∙ o.2.1 in
          let kind_is : o.2.0.kind ≡ t = widens_large p o.2.0.kind t o.2.3 large in
          let no_place : is_in_out o.2.0.sort ≡ false = ap (λ (v : Variable). is_in_out v.sort) (sym variable_is) ∙ ap is_in_out (param.2 ∙ o.2.2) in
          let shaped = typing.local_kind p fine x to.0 o.2.0 ok in_locals no_place in
          let has_shape : shape_of p t ≡ Some shaped.0 = ap (shape_of p) (sym kind_is) ∙ shaped.1 in
          let size_is = room_size t shaped.0 large has_shape in
          let above = room_above (far + n) xs in
          subst (RoomKnown x ps low high (parameter_number a.target ∷ output_numbers xs)) same
          (record { parameter = o.0; local = to.0; variable = o.2.0; there = o.1; sorted = o.2.2; to = to.1; in_locals = in_locals; kind_is = kind_is; large = large; numbered = inl refl; shape = shaped.0; has_shape = has_shape; above = l; below = omega (arith, above, fit, size_is) })

  -- the words lead to them
  pub rooms_lead : (xs : Arguments Note) (bytes : List ℕ) (block far : ℕ) → RoomsKept bytes (block + far) xs → (d : Room) → IsRoom (rooms_at far xs) d → Keeps (word.Address (here_at (block + d.far))) bytes (of_parameter d.number)
  rooms_lead no_arguments bytes block far h d is = absurd is
  rooms_lead (argument_then (Input a name e) xs) bytes block far h d is = rooms_lead xs bytes block far h d is
  rooms_lead (argument_then (Positional e) xs) bytes block far h d is = rooms_lead xs bytes block far h d is
  rooms_lead (argument_then (Output a name b q ss) xs) bytes block far h d is =
      let t = last_kind (root_note q).kind ss in
      let n = room_of (bytes_of p) t in
      let e : block + far + n ≡ block + (far + n) = omega arith in
      ⊎_elim (λ first. subst (λ (d : Room). Keeps (word.Address (here_at (block + d.far))) bytes (of_parameter d.number)) first.1 (h.0 first.0)) (λ k. rooms_lead xs bytes block (far + n) (subst (λ j. RoomsKept bytes j xs) e h.1) d k)
      (one_of (is_large t) (record { number = parameter_number a.target; far = far; kind = t }) (rooms_at (far + n) xs) d is)

  -- those of others lie behind
  rooms_behind : (xs : Arguments Note) (far : ℕ) (d : Room) → IsRoom (rooms_at far xs) d → (far ≤ d.far) × IsIn (output_numbers xs) d.number
  rooms_behind no_arguments far d is = absurd is
  rooms_behind (argument_then (Input a name e) xs) far d is = rooms_behind xs far d is
  rooms_behind (argument_then (Positional e) xs) far d is = rooms_behind xs far d is
  rooms_behind (argument_then (Output a name b q ss) xs) far d is =
      let t = last_kind (root_note q).kind ss in
      let n = room_of (bytes_of p) t in
      let room_here : Room = record { number = parameter_number a.target; far = far; kind = t } in
      ⊎_elim (λ first. subst (λ (d : Room). (far ≤ d.far) × IsIn (parameter_number a.target ∷ output_numbers xs) d.number) first.1 (omega arith, inl refl)) (λ k. let h = rooms_behind xs (far + n) d k in let l = h.0 in (omega (arith, l), inr h.1))
      (one_of (is_large t) room_here (rooms_at (far + n) xs) d is)

  pub rooms_apart : (xs : Arguments Note) (far : ℕ) → Once (output_numbers xs) → (d s : Room) → IsRoom (rooms_at far xs) d → IsRoom (rooms_at far xs) s → (d ≡ s) ⊎ RoomsApart p base d s
  rooms_apart no_arguments far once d s i j = absurd i
  rooms_apart (argument_then (Input a name e) xs) far once d s i j = rooms_apart xs far once d s i j
  rooms_apart (argument_then (Positional e) xs) far once d s i j = rooms_apart xs far once d s i j
  rooms_apart (argument_then (Output a name b q ss) xs) far once d s i j =
      by (one_of (is_large t) room_here (rooms_at (far + n) xs) d i) (one_of (is_large t) room_here (rooms_at (far + n) xs) s j) (λ k l. rooms_apart xs (far + n) once.1 d s k l)
    where
      t : StType
      t = last_kind (root_note q).kind ss

      n : ℕ
      n = room_of (bytes_of p) t

      room_here : Room
      room_here = record { number = parameter_number a.target; far = far; kind = t }

      this_apart : (large : is_large t ≡ true) (s : Room) → IsRoom (rooms_at (far + n) xs) s → RoomsApart p base room_here s
      this_apart large s k =
          let h = rooms_behind xs (far + n) s k in
          let l = h.0 in
          record { numbers = λ e. absurd (once.0 (subst (IsIn (output_numbers xs)) (sym e) h.1)); bytes = λ c d e g. inl (let z = room_size t c large e in omega (arith, l, z)) }

      turned : (d s : Room) → RoomsApart p base d s → RoomsApart p base s d
      turned d s h = let d = h.numbers in record { numbers = λ e. d (sym e); bytes = λ c d e g. ⊎_elim (λ l. inr l) (λ l. inl l) (h.bytes d c g e) }

      by : ((is_large t ≡ true) × (room_here ≡ d)) ⊎ IsRoom (rooms_at (far + n) xs) d → ((is_large t ≡ true) × (room_here ≡ s)) ⊎ IsRoom (rooms_at (far + n) xs) s → (IsRoom (rooms_at (far + n) xs) d → IsRoom (rooms_at (far + n) xs) s → (d ≡ s) ⊎ RoomsApart p base d s) → (d ≡ s) ⊎ RoomsApart p base d s
      by (inl e) (inl g) more = inl (sym e.1 ∙ g.1)
      by (inl e) (inr k) more = inr (subst (λ y. RoomsApart p base y s) e.1 (this_apart e.0 s k))
      by (inr k) (inl g) more = inr (turned s d (subst (λ y. RoomsApart p base y d) g.1 (this_apart g.0 d k)))
      by (inr k) (inr l) more = more k l

  -- each large output has one
  pub rooms_found : (xs : Arguments Note) (x : Routine) (ps left : List Parameter) (far i n : ℕ) (q : Parameter) (v : Variable) → ArgumentsAre p k0.scope x ps left xs → IsIn (output_numbers xs) i → slice_get ps i ≡ Some q → q.to ≡ to_local n → slice_get x.locals n ≡ Some v → is_large v.kind ≡ true → (d : Room) × IsRoom (rooms_at far xs) d × (d.number ≡ i)
  rooms_found no_arguments x ps left far i n q v h is there to local large = absurd is
  rooms_found (argument_then (Input a name e) xs) x ps left far i n q v h is there to local large = rooms_found xs x ps left far i n q v h.2 is there to local large
  rooms_found (argument_then (Positional e) xs) x ps left far i n q v h is there to local large = rooms_found xs x ps (behind_next left) far i n q v h.2 is there to local large
  rooms_found (argument_then (Output a name b y ss) xs) x ps left far i n q v h is there to local large =
      ⊎_elim (λ e. here (is_large t) refl e) (λ k. later (is_large t) (rooms_found xs x ps left (far + room_of (bytes_of p) t) i n q v h.3 k there to local large)) is
    where
      t : StType
      t = last_kind (root_note y).kind ss

      room_here : Room
      room_here = record { number = parameter_number a.target; far = far; kind = t }

      rest : List Room
      rest = rooms_at (far + room_of (bytes_of p) t) xs

      clash : true ≡ false → ⊥
      clash e = cc

      later : (b : Bool) → (d : Room) × IsRoom rest d × (d.number ≡ i) → (d : Room) × IsRoom (room_first b room_here rest) d × (d.number ≡ i)
      later true k = (k.0, inr k.1, k.2)
      later false k = k

      here : (b : Bool) → is_large t ≡ b → parameter_number a.target ≡ i → (d : Room) × IsRoom (room_first b room_here rest) d × (d.number ≡ i)
      here true e same = (room_here, inl refl, same)
      here false e same =
          let o = leaves_there x (parameter_named ps a) t h.2 in
          let q_is : o.0 ≡ q = let d : Some o.0 ≡ Some q = sym (ap (slice_get ps) (sym same) ∙ o.1) ∙ there in cc in
          let v_is : o.2.0 ≡ v = let d : Some o.2.0 ≡ Some v = sym o.2.1 ∙ (ap (λ (z : Parameter). recipient_variable p x z.to) q_is ∙ (ap (recipient_variable p x) to ∙ local)) in cc in
          let small_v : is_large v.kind ≡ false = ap (λ (z : Variable). is_large z.kind) (sym v_is) ∙ widens_small p o.2.0.kind t o.2.3 e in
          absurd (clash (sym large ∙ small_v))
