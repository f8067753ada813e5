-- What is said of a call, from inside the instruction.
use Rattle.std.proofs.Common.{◌≡◌, ◌≤◌, ◌<◌, ℕ, ◌+◌, Bool, true, List, [], ◌∷◌, length, Option, Some, None}
use Rattle.std.specs.Prelude.{slice_get, IsTrue}
use Rattle.std.proofs.lemmas.Option.{slice_get_within}
use Rattle.st_types.specs.declared.st_type.StType.{StType}
use Rattle.st_types.specs.declared.st_type.StType.TheVariants as type
use Rattle.st_tree.specs.declared.path.Path.{Path}
use Rattle.st_values.specs.Program.{Routine, Program, conforms, lookup, body_of}
use Rattle.st_values.specs.Value.{Store}
use Rattle.st_meaning.specs.State.{in_store, Frame, State}
use Rattle.st_meaning.specs.Enter.{enter}
use Rattle.st_meaning.specs.st_frame.Promise.Programs.{ProgramIs}
use Rattle.st_meaning.specs.st_frame.Promise.Types.{IsNamed}
use Rattle.st_meaning.specs.st_frame.Promise.Calls.{HasInstance}
use Rattle.st_meaning.proofs.st_frame.Spots.{below, OwnIs, GivenAre}
use Rattle.st_meaning.proofs.st_frame.Obeys.{Alike}
use Rattle.st_meaning.specs.Call.{Given}
use Rattle.stack_code.specs.declared.memory.Space.TheVariants.{Locals}
use Rattle.stack_code.specs.declared.memory.Address.{Address}
use Rattle.stack_code.specs.declared.memory.Word.{Word}
use Rattle.stack_code.specs.declared.code.MachineCode.{MachineCode}
use Rattle.stack_code.specs.Steps.{Goes}
use Rattle.stack_code.specs.Machine.{Config, limit, enters, onward, method_of, target_of}
use Rattle.stack_code.specs.declared.code.RoutineCode.{RoutineCode}
use Rattle.stack_code.specs.declared.memory.Word.TheVariants as word
use Rattle.stack_code.specs.Machine as machine
use Rattle.code_rules.specs.Plan.{Tables}
use Rattle.code_rules.specs.Routines.{called_plan}
use Rattle.code_rules.specs.Places.{locals_end, result_place}
use Rattle.code_rules.specs.Bodies.{called_code}
use Rattle.code_rules.specs.Tops.{effects_top}
use Rattle.shown_memory.specs.Shown.{Kept, Open, scopes, layouts, Located, located, Shown}
use Rattle.shown_memory.specs.Passing.{BlockIs, Returned, with_block, Asks, RoomsAre}
use Rattle.value_runs.proofs.Ends.{Leads, Stands}
use Rattle.call_forms.specs.Tables.{place_of_name, signature_names}

module _ (p : Program) (fine : ProgramIs p) (is_there : ℕ → Bool) (W : ℕ → Type 0) (first : Store) (R : Routine → Type 0) (code : MachineCode) (now base : ℕ) (tables : Tables) where
  -- the code of a routine, which a call enters
  pub record CodeOf (x : Routine) (n : ℕ) : Type 0 where
    pub routine : RoutineCode
    pub there : slice_get code.routines n ≡ Some routine
    pub room : locals_end p 8 x.locals ≤ routine.locals
    pub short : routine.locals < 4294967296
    -- what its code keeps behind the locals has room
    pub behind : effects_top (called_plan p tables x) (locals_end p 8 x.locals) x.body ≤ routine.locals
    pub stands : Stands code now n 0 (called_code p (called_plan p tables x) x.line x 8)

  -- the instance of a call, as a path and as an address
  abbrev pub IsOwn : Option Path → Option Address → Type 0
  IsOwn None own = own ≡ None
  IsOwn (Some q) own = (l : Located) × (located p base [] (in_store q) ≡ Some l) × (own ≡ Some l.address)

  -- a routine of a class has an instance
  abbrev pub HasOwn : Option ℕ → Option Path → Type 0
  HasOwn None q = Unit {0}
  HasOwn (Some c) q = (y : Path) × (q ≡ Some y)

  -- where so many more calls may be open, a call of a routine does what the routine does
  pub record CallRuns (room : ℕ) : Type 0 where
    pub by : (k : Open) (ks : List Open) (x : Routine) (n : ℕ) (q : Option Path) (own : Option Address) (given : List Given) (block : ℕ) (bytes : List ℕ) (rest : List Kept) (mask line low : ℕ) (asks : Asks) (c : Config) (below : List Word) (s : State)
        → R x → length x.parameters < result_place → OwnIs p fine (λ r. is_there r ≡ true) W x.class q → GivenAre p fine (λ r. is_there r ≡ true) W (scopes (k ∷ ks)) x.class x.locals given → Alike p fine (λ r. is_there r ≡ true) W first first (scopes (k ∷ ks)) s s
        → Shown p base is_there now (with_block p base k block bytes rest ∷ ks) c.memory s → c.ticks ≡ s.ticks → room + (base + length ks) ≡ limit
        → CodeOf x n → IsOwn q own → HasOwn x.class q → BlockIs p base (layouts (k ∷ ks)) x (record { space = Locals; index = base + length ks; offset = block }) low x.parameters bytes mask given → RoomsAre p base x (record { space = Locals; index = base + length ks; offset = block }) bytes mask rest asks
        → Leads code now (enters code n own (word.Address (record { space = Locals; index = base + length ks; offset = block }) ∷ []) below line c)
        (λ (f : Frame) t m. record { here = onward c.here; words = below; around = c.around; memory = m; ticks = t.ticks })
        (λ f t m. Returned p base is_there now k ks block rest x.parameters (length bytes) asks mask f t m)
        (enter p room x q given line s)

  -- the interface has a method of this name
  abbrev pub HasSignature : ℕ → List ℕ → Type 0
  HasSignature i name = (s : ℕ) × (place_of_name p name (signature_names p i) ≡ Some s)

  -- a class or interface of the program
  abbrev pub IsTarget : StType → Type 0
  IsTarget (type.Instance d) = d < length p.classes
  IsTarget (type.Reference d) = d < length p.classes
  IsTarget (type.Interface i) = i < length p.interfaces
  IsTarget t = ⊥

  -- The tables name the routines that calls enter. An instance's class has all that its text, its bases and its interfaces ask; a class without one has no row.
  pub record TablesAre : Type 0 where
    pub functions : (k : ℕ) (x : Routine) → slice_get p.functions k ≡ Some x → CodeOf x (tables.function_routine k)
    pub methods : (c d : ℕ) (name : List ℕ) (x y : Routine) → HasInstance p c → IsTrue (conforms p c (type.Instance d)) → lookup p d name ≡ Some y → lookup p c name ≡ Some x
        → (n : ℕ) × (method_of code d (tables.method_slot d name) c ≡ Goes n) × CodeOf x n
    pub of_interfaces : (c i : ℕ) (name : List ℕ) (x : Routine) → HasInstance p c → IsTrue (conforms p c (type.Interface i)) → HasSignature i name → lookup p c name ≡ Some x
        → (n : ℕ) × (target_of code i (tables.method_number i name) c ≡ Goes n) × CodeOf x n
    pub upward : (d : ℕ) (name : List ℕ) (x : Routine) → lookup p d name ≡ Some x → CodeOf x (tables.method_routine d name)
    pub bodies : (c d : ℕ) (x : Routine) → HasInstance p c → IsTrue (conforms p c (type.Instance d)) → body_of p c ≡ Some x → (n : ℕ) × (method_of code d tables.body_slot c ≡ Goes n) × CodeOf x n
    pub bases : (d : ℕ) (x : Routine) → body_of p d ≡ Some x → CodeOf x (tables.body_routine d)
    -- a target of conversion is asked as the program says
    pub targets : (c : ℕ) (t : StType) → IsTarget t → machine.conforms code c (tables.conversion_target t) ≡ conforms p c t

  -- what `?=` asks the tables
  abbrev pub TargetsAre : Type 0
  TargetsAre = (c : ℕ) (t : StType) → IsNamed p t → machine.conforms code c (tables.conversion_target t) ≡ conforms p c t

  is_target : (t : StType) → IsNamed p t → IsTarget t
  is_target (type.Reference d) h = slice_get_within p.classes d h.0 h.1
  is_target (type.Interface i) h = slice_get_within p.interfaces i h.0 h.1
  is_target t h = absurd h

  pub targets_are : TablesAre → TargetsAre
  targets_are a c t h = a.targets c t (is_target t h)
