-- The tables of a program's code, and how its routines are numbered.
use Rattle.std.specs.Prelude.{◌≡◌, ◌≤◌, ◌<◌, ℕ, zero, suc, ◌+◌, ◌*◌, Bool, true, false, ◌||◌, if◌then◌else◌, List, [], ◌∷◌, ◌++◌, length, map, reverse, codes, Option, Some, None, slice_get}
use Rattle.plc_text.specs.Words.{same}
use Rattle.st_types.specs.declared.st_type.StType.{StType}
use Rattle.st_types.specs.declared.st_type.StType.TheVariants as type
use Rattle.st_rules.specs.Chains.{nearest}
use Rattle.st_values.specs.Program.{Parameter, Routine, Sort, a_program, Class, Signature, Interface, Region, Program, class_at, chain_of, conforms}
use Rattle.st_meaning.specs.Call.{class_of_kind}
use Rattle.st_meaning.specs.st_frame.Promise.Declarations.{scope_of}
use Rattle.stack_code.specs.declared.op.Kind.{Kind}
use Rattle.stack_code.specs.declared.op.Op.{Op}
use Rattle.stack_code.specs.declared.code.InterfaceTarget.{InterfaceTarget}
use Rattle.stack_code.specs.declared.code.Conformance.{Conformance}
use Rattle.stack_code.specs.declared.code.Body.{Body}
use Rattle.stack_code.specs.declared.code.MethodRoutine.{MethodRoutine}
use Rattle.stack_code.specs.declared.code.RoutineCode.{RoutineCode}
use Rattle.stack_code.specs.declared.code.MachineCode.{MachineCode}
use Rattle.stack_code.specs.declared.op.Kind.TheVariants as kind
use Rattle.code_cells.specs.declared.cell.Cell.{Cell}
use Rattle.code_cells.specs.Cell.{settled}
use Rattle.code_rules.specs.Plan.{Tables, plan_of}
use Rattle.code_rules.specs.Routines.{called_plan}
use Rattle.code_rules.specs.Places.{locals_end}
use Rattle.code_rules.specs.Bodies.{called_code, program_code, hook_code}
use Rattle.code_rules.specs.Tops.{effects_top}

-- ---- routines

-- how a routine is compiled: to be entered by calls, by a run, or as a hook
pub data Form : Type 0 where
  for_calls for_runs for_hooks : Routine → Form

unfoldable pub hook_names : List (List ℕ)
hook_names = codes "FB_INIT" ∷ (codes "FB_EXIT" ∷ (codes "FB_REINIT" ∷ []))

abbrev pub is_one_of : List ℕ → List (List ℕ) → Bool
is_one_of name [] = false
is_one_of name (n ∷ ns) = same n name || is_one_of name ns

abbrev pub is_hook : Routine → Bool
is_hook r = is_one_of r.name hook_names

abbrev pub is_program : Class → Bool
is_program k = by k.sort
  where
    by : Sort → Bool
    by a_program = true
    by s = false

abbrev pub those : {A : Type 0} → (A → Bool) → List A → List A
those test [] = []
those test (x ∷ xs) = if test x then x ∷ those test xs else those test xs

-- how many of the first n pass
abbrev pub so_many : {A : Type 0} → (A → Bool) → List A → ℕ → ℕ
so_many test [] n = 0
so_many test (x ∷ xs) zero = 0
so_many test (x ∷ xs) (suc n) = if test x then suc (so_many test xs n) else so_many test xs n

abbrev pub methods_of : List Class → List Routine
methods_of [] = []
methods_of (k ∷ ks) = k.methods ++ methods_of ks

-- the methods of the first c classes
abbrev pub methods_before : List Class → ℕ → ℕ
methods_before [] c = 0
methods_before (k ∷ ks) zero = 0
methods_before (k ∷ ks) (suc c) = length k.methods + methods_before ks c

abbrev pub bodies_of : List Class → List Routine
bodies_of ks = map (λ k. k.body) ks

module _ (p : Program) where
  -- functions, methods and bodies as calls enter them, the bodies of programs as runs do, and hooks
  abbrev pub forms : List Form
  forms =
      map for_calls p.functions ++ (map for_calls (methods_of p.classes) ++ (map for_calls (bodies_of p.classes)
      ++ (map for_runs (bodies_of (those is_program p.classes)) ++ map for_hooks (those is_hook (methods_of p.classes)))))

  abbrev pub methods_from : ℕ
  methods_from = length p.functions

  abbrev pub bodies_from : ℕ
  bodies_from = methods_from + length (methods_of p.classes)

  abbrev pub runs_from : ℕ
  runs_from = bodies_from + length p.classes

  abbrev pub hooks_from : ℕ
  hooks_from = runs_from + length (those is_program p.classes)

  -- the routines of a class's method, of a class's body, of a program's body for runs, and of a class's hook
  abbrev pub method_at : ℕ → ℕ → ℕ
  method_at c j = methods_from + (methods_before p.classes c + j)

  abbrev pub body_at : ℕ → ℕ
  body_at c = bodies_from + c

  abbrev pub run_at : ℕ → ℕ
  run_at c = runs_from + so_many is_program p.classes c

  abbrev pub hook_at : ℕ → ℕ → ℕ
  hook_at c j = hooks_from + so_many is_hook (methods_of p.classes) (methods_before p.classes c + j)

  -- ---- look-up by number

  abbrev pub next_number : Option ℕ → Option ℕ
  next_number None = None
  next_number (Some n) = Some (suc n)

  -- which method of a list has this name
  abbrev pub place_among : List Routine → List ℕ → Option ℕ
  place_among [] name = None
  place_among (r ∷ rs) name = if same r.name name then Some 0 else next_number (place_among rs name)

  abbrev pub at_method : ℕ → Option ℕ → Option ℕ
  at_method c None = None
  at_method c (Some j) = Some (method_at c j)

  abbrev pub placed_in : ℕ → Option Class → List ℕ → Option ℕ
  placed_in c None name = None
  placed_in c (Some k) name = at_method c (place_among k.methods name)

  -- the routine of the method that the class itself declares
  abbrev pub own_number : List ℕ → ℕ → Option ℕ
  own_number name c = placed_in c (class_at p c) name

  -- of the nearest one upward
  abbrev pub found_number : ℕ → List ℕ → Option ℕ
  found_number c name = nearest (own_number name) (chain_of (class_at p c))

  -- ---- slots

  abbrev pub names_declared : Option Class → List (List ℕ)
  names_declared None = []
  names_declared (Some k) = map (λ (r : Routine). r.name) k.methods

  abbrev pub names_along : List ℕ → List (List ℕ)
  names_along [] = []
  names_along (c ∷ cs) = names_declared (class_at p c) ++ names_along cs

  -- the names of a class's methods, those of its bases first, so that a base's slots are the first ones of each class below it
  abbrev pub slot_names : ℕ → List (List ℕ)
  slot_names c = names_along (reverse (chain_of (class_at p c)))

  abbrev pub place_of_name : List ℕ → List (List ℕ) → Option ℕ
  place_of_name name [] = None
  place_of_name name (n ∷ ns) = if same n name then Some 0 else next_number (place_of_name name ns)

  abbrev pub or_none : Option ℕ → ℕ
  or_none None = 0
  or_none (Some n) = n

  -- a class that has no instance has no slots
  abbrev pub class_slots : Bool → ℕ → List (Option ℕ)
  class_slots false c = []
  class_slots true c = Some (body_at c) ∷ map (found_number c) (slot_names c)

  abbrev pub slots_from : (ℕ → Bool) → ℕ → List Class → List (List (Option ℕ))
  slots_from lives c [] = []
  slots_from lives c (k ∷ ks) = class_slots (lives c) c ∷ slots_from lives (suc c) ks

  -- ---- interfaces

  abbrev pub signatures_of : Option Interface → List Signature
  signatures_of None = []
  signatures_of (Some i) = i.methods

  abbrev pub signature_names : ℕ → List (List ℕ)
  signature_names i = map (λ (m : Signature). m.name) (signatures_of (slice_get p.interfaces i))

  abbrev pub one_target : ℕ → ℕ → ℕ → Option ℕ → List InterfaceTarget
  one_target c i j None = []
  one_target c i j (Some n) = record { class = c; interface = i; method = j; routine = n } ∷ []

  abbrev pub method_targets : ℕ → ℕ → ℕ → List (List ℕ) → List InterfaceTarget
  method_targets c i j [] = []
  method_targets c i j (n ∷ ns) = one_target c i j (found_number c n) ++ method_targets c i (suc j) ns

  abbrev pub interface_targets : ℕ → List ℕ → List InterfaceTarget
  interface_targets c [] = []
  interface_targets c (i ∷ is) = method_targets c i 0 (signature_names i) ++ interface_targets c is

  abbrev pub targets_from : (ℕ → Bool) → ℕ → List Class → List InterfaceTarget
  targets_from lives c [] = []
  targets_from lives c (k ∷ ks) = (if lives c then interface_targets c k.interfaces else []) ++ targets_from lives (suc c) ks

  -- ---- conformity

  abbrev pub pairs : ℕ → ℕ → List ℕ → List Conformance
  pairs c above [] = []
  pairs c above (t ∷ ts) = record { class = c; target = above + t } ∷ pairs c above ts

  abbrev pub conforms_from : ℕ → List Class → List Conformance
  conforms_from c [] = []
  conforms_from c (k ∷ ks) = pairs c 0 k.chain ++ (pairs c (length p.classes) k.interfaces ++ conforms_from (suc c) ks)

  -- nothing conforms to a type that is neither a class's nor an interface's
  abbrev pub target_number : StType → ℕ
  target_number (type.Instance d) = d
  target_number (type.Reference d) = d
  target_number (type.Interface i) = length p.classes + i
  target_number t = length p.classes + length p.interfaces

  -- ---- bodies and methods

  abbrev pub bodies_at : ℕ → List Region → List Body
  bodies_at r [] = []
  bodies_at r (x ∷ xs) = (if x.program then record { region = r; routine = run_at (class_of_kind x.variable.kind) } ∷ [] else []) ++ bodies_at (suc r) xs

  -- the place of a program instance in the list of bodies
  abbrev pub entry_of : ℕ → ℕ
  entry_of r = so_many (λ (x : Region). x.program) p.regions r

  abbrev pub rows_of : ℕ → ℕ → List Routine → List MethodRoutine
  rows_of c j [] = []
  rows_of c j (r ∷ rs) = record { class = c; method = j; routine = if is_hook r then hook_at c j else method_at c j } ∷ rows_of c (suc j) rs

  abbrev pub rows_from : ℕ → List Class → List MethodRoutine
  rows_from c [] = []
  rows_from c (k ∷ ks) = rows_of c 0 k.methods ++ rows_from (suc c) ks

  -- ---- what code names

  abbrev pub tables_of : Tables
  tables_of = record {
    function_routine = λ k. k;
    method_slot = λ d name. suc (or_none (place_of_name name (slot_names d)));
    body_slot = 0;
    method_number = λ i name. or_none (place_of_name name (signature_names i));
    method_routine = λ d name. or_none (found_number d name);
    body_routine = λ c. body_at c;
    conversion_target = target_number;
  }

-- ---- the code of a program

abbrev pub ops_of : ℕ → List Cell → List Op
ops_of pc [] = []
ops_of pc (c ∷ cs) = (settled pc c).0 ∷ ops_of (pc + 1) cs

abbrev pub lines_of : ℕ → List Cell → List ℕ
lines_of pc [] = []
lines_of pc (c ∷ cs) = (settled pc c).1 ∷ lines_of (pc + 1) cs

-- where locals begin: behind the address of the block, at once, and behind the flags
abbrev pub start_of : Form → ℕ
start_of (for_calls x) = 8
start_of (for_runs x) = 0
start_of (for_hooks x) = 8 * length x.parameters

abbrev pub routine_in : Form → Routine
routine_in (for_calls x) = x
routine_in (for_runs x) = x
routine_in (for_hooks x) = x

abbrev pub form_code : Program → Tables → Form → List Cell
form_code p tables (for_calls x) = called_code p (called_plan p tables x) x.line x 8
form_code p tables (for_runs x) = program_code p (plan_of p tables (scope_of x) 0) x.line x 0
form_code p tables (for_hooks x) = hook_code p (plan_of p tables (scope_of x) (8 * length x.parameters)) x.line x (8 * length x.parameters)

abbrev pub numbers_for : List Parameter → List Kind
numbers_for [] = []
numbers_for (q ∷ qs) = kind.Num ∷ numbers_for qs

abbrev pub arguments_for : Form → List Kind
arguments_for (for_calls x) = kind.Addr ∷ []
arguments_for (for_runs x) = []
arguments_for (for_hooks x) = numbers_for x.parameters

-- a routine is the code of its form, whatever its lists of kinds
pub record FormIs (p : Program) (tables : Tables) (f : Form) (r : RoutineCode) : Type 0 where
  pub line : r.line ≡ (routine_in f).line
  pub args : r.args ≡ arguments_for f
  pub rets : r.rets ≡ []
  pub ops : r.ops ≡ ops_of 0 (form_code p tables f)
  pub lines : r.lines ≡ lines_of 0 (form_code p tables f)
  pub room : locals_end p (start_of f) (routine_in f).locals ≤ r.locals
  -- what its code keeps behind the locals has room
  pub behind : effects_top (plan_of p tables (scope_of (routine_in f)) (start_of f)) (locals_end p (start_of f) (routine_in f).locals) (routine_in f).body ≤ r.locals
  pub short : r.locals < 4294967296

-- `lives` tells which classes have instances
pub record CodeIs (p : Program) (lives : ℕ → Bool) (code : MachineCode) : Type 0 where
  pub routines : (n : ℕ) (f : Form) → slice_get (forms p) n ≡ Some f → (r : RoutineCode) × (slice_get code.routines n ≡ Some r) × FormIs p (tables_of p) f r
  pub slots : code.slots ≡ slots_from p lives 0 p.classes
  pub targets : code.targets ≡ targets_from p lives 0 p.classes
  pub conforms : code.conforms ≡ conforms_from p 0 p.classes
  pub bodies : code.bodies ≡ bodies_at p 0 p.regions
  pub methods : code.methods ≡ rows_from p 0 p.classes
