-- The hooks of the first load one after the other.
use Rattle.std.proofs.Common.{◌≡◌, ◌≤◌, ◌<◌, ℕ, ◌+◌, true, false, List, [], ◌∷◌, ◌++◌, reverse, length, drop, get_or, map, append-nil, Option, Some, None, Result, Err, refl, sym, ap, ◌∙◌, subst}
use Rattle.std.proofs.lemmas.List.{reverse-append}
use Rattle.std.specs.Prelude.{if◌then◌else◌, is_some}
use Rattle.st_rules.proofs.ListLaws.{drop-at, drop-end}
use Rattle.plc_text.specs.declared.fault.Fault.{Fault as CodeFault}
use Rattle.st_tree.specs.declared.path.Path.{Path}
use Rattle.st_tree.specs.declared.program.Program.{Program as CheckedProgram}
use Rattle.st_values.specs.Program.{Parameter, Routine, Program, own_method}
use Rattle.st_values.specs.Value.{Store}
use Rattle.st_meaning.specs.State.{Frame, State, Done, Fault}
use Rattle.st_meaning.specs.Call.{given_value}
use Rattle.st_meaning.specs.Enter.{most_calls}
use Rattle.st_meaning.specs.Operation.{truth}
use Rattle.st_meaning.specs.Cycle.{all_ticks}
use Rattle.st_values.specs.Initial.{initial_store}
use Rattle.st_values.specs.View.{program_of}
use Rattle.st_change.specs.Change.{first_inits, start}
use Rattle.st_change.specs.Instances.{Member, members_first, of_regions}
use Rattle.st_change.specs.Hook.{Hook, at_init, hook_name, init_flags, given_flags, Ran, ran, stopped, go_on, hooked, class_name, run_hook, run_hooks}
use Rattle.call_frames.specs.declared.slots.Given.{Given as CodeGiven}
use Rattle.call_frames.specs.Opening.{given_of}
use Rattle.routine_tables.specs.declared.parameters.Parameter.{Parameter as CodeParameter}
use Rattle.routine_tables.specs.Parameters.{parameters_of, recipient_of}
use Rattle.run_state.specs.declared.state.RunState.{RunState}
use Rattle.run_state.specs.declared.state.Stop.{Stop}
use Rattle.run_state.specs.declared.state.Stop.TheVariants as stop
use Rattle.run_state.specs.declared.state.Frame.{Frame as CodeFrame}
use Rattle.run_state.specs.State.{Shows, frame_of, state_of}
use Rattle.region_instances.specs.Instances.{RegionsUnfold}
use Rattle.reference_start.specs.declared.hooks.Halt.{Halt}
use Rattle.reference_start.specs.declared.hooks.Halt.TheVariants as halt
use Rattle.reference_start.specs.declared.hooks.Stopped.{Stopped}
use Rattle.reference_start.specs.declared.instances.Instance.{Instance}
use Rattle.reference_start.specs.Private.Hooks.{init_of, inits_along, inits_at, all_inits, hook_call, Stops, RanAs}
use Rattle.reference_start.specs.Private.Instances.{bare, instance_of, all_of, AreInstances}

-- ---- what a hook is given

pub no_flags : (qs : List Parameter) → given_flags qs [] ≡ []
no_flags [] = refl
no_flags (q ∷ qs) = refl

pub flags_given : (ps behind rest : List CodeParameter) (x y : CodeParameter) (none one two : List CodeGiven) → ps ≡ x ∷ behind → behind ≡ y ∷ rest → none ≡ []
    → map given_of one ≡ map given_of none ++ (given_value (recipient_of x.to) (truth true) ∷ []) → map given_of two ≡ map given_of one ++ (given_value (recipient_of y.to) (truth false) ∷ [])
    → map given_of two ≡ given_flags (parameters_of ps) (init_flags false)
flags_given ps behind rest x y none one two e1 e2 n d f =
    f ∙ ap (λ gs. gs ++ (given_value (recipient_of y.to) (truth false) ∷ [])) (d ∙ ap (λ gs. map given_of gs ++ (given_value (recipient_of x.to) (truth true) ∷ [])) n)
    ∙ ap (λ gs. given_value (recipient_of x.to) (truth true) ∷ given_value (recipient_of y.to) (truth false) ∷ gs) (sym (no_flags (parameters_of rest)))
    ∙ sym (ap (λ zs. given_flags (parameters_of zs) (init_flags false)) (e1 ∙ ap (λ zs. x ∷ zs) e2))

-- ---- runs of hooks

pub ran_so : (r : Result (Unit {0}) Halt) (o w : Ran) (m : RunState) → w ≡ o → RanAs r o m → RanAs r w m
ran_so r o w m e h = subst (λ (x : Ran). RanAs r x m) (sym e) h

same : (o : Ran) → go_on o ran ≡ o
same (ran s n) = refl
same (stopped class kind line) = refl

one_by_one : (o : Ran) (f g : Store → ℕ → Ran) → go_on (go_on o f) g ≡ go_on o (λ s n. go_on (f s n) g)
one_by_one (ran s n) f g = refl
one_by_one (stopped class kind line) f g = refl

as_well : (o : Ran) (f g : Store → ℕ → Ran) → ((s : Store) (n : ℕ) → f s n ≡ g s n) → go_on o f ≡ go_on o g
as_well (ran s n) f g h = h s n
as_well (stopped class kind line) f g h = refl

-- where a first part comes to its end, what is left goes on; where it stops, so does the whole
pub next : (o w : Ran) (k : Store → ℕ → Ran) (here : Ran) (s : Store) (n : ℕ) → here ≡ go_on o k → o ≡ ran s n → here ≡ w → k s n ≡ w
next o w k here s n h e p = sym (h ∙ ap (λ x. go_on x k) e) ∙ p

pub stops_all : (x : Halt) (o w : Ran) (k : Store → ℕ → Ran) (here : Ran) (m : RunState) → here ≡ go_on o k → here ≡ w → RanAs (Err x) o m → RanAs (Err x) w m
stops_all (halt.Stopped x) o w k here m h p e = sym p ∙ h ∙ ap (λ x. go_on x k) e
stops_all halt.NoMemory o w k here m h p e = tt

module _ (p : Program) where
  hooks_both : (hs others : List Hook) (s : Store) (n : ℕ) → run_hooks p (hs ++ others) s n ≡ go_on (run_hooks p hs s n) (run_hooks p others)
  hooks_both [] others s n = refl
  hooks_both (h ∷ hs) others s n =
      as_well (run_hook p h (own_method p (hook_name h.when) h.class) s n) (run_hooks p (hs ++ others)) (λ t m. go_on (run_hooks p hs t m) (run_hooks p others)) (λ t m. hooks_both hs others t m)
      ∙ sym (one_by_one (run_hook p h (own_method p (hook_name h.when) h.class) s n) (run_hooks p hs) (run_hooks p others))

  -- ---- one class

  abbrev if_declared : Path → ℕ → Option Routine → List Hook
  if_declared q c o = (if is_some o then init_of q c ∷ [] else []) ++ []

  pub own_runs : (q : Path) (c : ℕ) (r : Routine) (s : Store) (n : ℕ) → Some r ≡ own_method p (hook_name at_init) c → run_hooks p (inits_along p q (c ∷ [])) s n ≡ run_hook p (init_of q c) (Some r) s n
  own_runs q c r s n e =
      ap (λ o. run_hooks p (if_declared q c o) s n) (sym e)
      ∙ ap (λ o. go_on (run_hook p (init_of q c) o s n) ran) (sym e)
      ∙ same (run_hook p (init_of q c) (Some r) s n)

  pub own_skips : (q : Path) (c : ℕ) (s : Store) (n : ℕ) → None ≡ own_method p (hook_name at_init) c → run_hooks p (inits_along p q (c ∷ [])) s n ≡ ran s n
  own_skips q c s n e = ap (λ o. run_hooks p (if_declared q c o) s n) (sym e)

  -- ---- one call

  pub hook_ended : (q : Path) (c : ℕ) (r : Routine) (s : Store) (n line : ℕ) (a : State) (f : Frame) (b : State) → line ≡ r.line → a ≡ record { store = s; frames = []; ticks = n; now = 0 } → hook_call p most_calls r q line a ≡ Done f b → run_hook p (init_of q c) (Some r) s n ≡ ran b.store b.ticks
  hook_ended q c r s n line a f b l e h =
      ap (hooked (class_name p c)) (ap (λ k. hook_call p most_calls r q k (record { store = s; frames = []; ticks = n; now = 0 })) (sym l) ∙ ap (hook_call p most_calls r q line) (sym e) ∙ h)

  pub hook_stopped : (q : Path) (c : ℕ) (r : Routine) (s : Store) (n line : ℕ) (a : State) (x : Stop) (y : Halt) (m : RunState) → line ≡ r.line → a ≡ record { store = s; frames = []; ticks = n; now = 0 }
      → Shows {C = CodeFrame} frame_of (Err x) (hook_call p most_calls r q line a) (state_of m) → Stops (class_name p c) x y → RanAs (Err y) (run_hook p (init_of q c) (Some r) s n) m
  hook_stopped q c r s n line a (stop.Fault f) (halt.Stopped y) m l e h stops =
      ap (hooked (class_name p c)) (ap (λ k. hook_call p most_calls r q k (record { store = s; frames = []; ticks = n; now = 0 })) (sym l) ∙ ap (hook_call p most_calls r q line) (sym e) ∙ h)
      ∙ ap (λ g. stopped (class_name p c) g.kind g.line) (sym stops.1) ∙ ap (λ name. stopped name y.fault.kind y.fault.line) (sym stops.0)
  hook_stopped q c r s n line a (stop.Fault f) halt.NoMemory m l e h k = tt
  hook_stopped q c r s n line a stop.NoMemory (halt.Stopped y) m l e h k = absurd k
  hook_stopped q c r s n line a stop.NoMemory halt.NoMemory m l e h k = tt

  -- ---- the classes of an instance, the last first

  module _ (q : Path) (c : ℕ) (before : List ℕ) (s : Store) (n : ℕ) where
    pub along_first : run_hooks p (inits_along p q (c ∷ before)) s n ≡ go_on (run_hooks p (inits_along p q (c ∷ [])) s n) (run_hooks p (inits_along p q before))
    along_first =
        ap (λ hs. run_hooks p (hs ++ inits_along p q before) s n) (sym (append-nil (if is_some (own_method p (hook_name at_init) c) then init_of q c ∷ [] else [])))
        ∙ hooks_both (inits_along p q (c ∷ [])) (inits_along p q before) s n

  -- the last class of those that are left comes next
  pub chain_at : (q : Path) (left behind : List ℕ) (c : ℕ) (s : Store) (n : ℕ) → left ≡ behind ++ (c ∷ []) → run_hooks p (inits_along p q (reverse left)) s n ≡ go_on (run_hooks p (inits_along p q (c ∷ [])) s n) (run_hooks p (inits_along p q (reverse behind)))
  chain_at q left behind c s n e =
      ap (λ cs. run_hooks p (inits_along p q (reverse cs)) s n) e
      ∙ ap (λ cs. run_hooks p (inits_along p q cs) s n) (reverse-append behind (c ∷ []))
      ∙ along_first q c (reverse behind) s n

  -- ---- instances

  pub inits_are : (ms : List Member) → first_inits p ms ≡ all_inits p (map bare ms)
  inits_are [] = refl
  inits_are (m ∷ ms) = ap (λ hs. inits_at p (bare m) ++ hs) (inits_are ms)

  module _ (xs : List Instance) (i : ℕ) (x : Instance) (s : Store) (n : ℕ) where
    pub instances_at : i < length xs → x ≡ get_or xs i x → run_hooks p (all_inits p (all_of (drop i xs))) s n ≡ go_on (run_hooks p (inits_at p (instance_of x)) s n) (run_hooks p (all_inits p (all_of (drop (i + 1) xs))))
    instances_at l is =
        ap (λ ys. run_hooks p (all_inits p (all_of ys)) s n) (drop-at xs i x l is)
        ∙ hooks_both (inits_at p (instance_of x)) (all_inits p (all_of (drop (i + 1) xs))) s n

  pub instances_end : (xs : List Instance) (i : ℕ) (s : Store) (n : ℕ) (w : Ran) → length xs ≤ i → run_hooks p (all_inits p (all_of (drop i xs))) s n ≡ w → w ≡ ran s n
  instances_end xs i s n w l h = sym h ∙ ap (λ ys. run_hooks p (all_inits p (all_of ys)) s n) (drop-end xs i l)

-- ---- the whole

pub stops_as : (name : List ℕ) (x : Stop) (f : CodeFault) (class : List ℕ) → x ≡ stop.Fault f → class ≡ name → Stops name x (halt.Stopped (record { class = class; fault = f }))
stops_as name x f class e h = subst (λ (y : Stop). Stops name y (halt.Stopped (record { class = class; fault = f }))) (sym e) (h, refl)

pub start_by : (p z : CheckedProgram) (xs ys : List Instance) (s : Store) (w : Ran) → p ≡ z → (RegionsUnfold (program_of z) → AreInstances (program_of z) xs) → ys ≡ xs → s ≡ initial_store (program_of z)
    → run_hooks (program_of p) (all_inits (program_of p) (all_of ys)) s all_ticks ≡ w → RegionsUnfold (program_of p) → w ≡ start (program_of p)
start_by p z xs ys s w e are same_list is h u =
    let a : AreInstances (program_of p) xs = subst (λ (y : CheckedProgram). AreInstances (program_of y) xs) (sym e) (are (subst (λ (y : CheckedProgram). RegionsUnfold (program_of y)) e u)) in
    let st : s ≡ initial_store (program_of p) = is ∙ ap (λ (y : CheckedProgram). initial_store (program_of y)) (sym e) in
    let ms : List Member = of_regions (program_of p) (λ r. true) members_first 0 (program_of p).regions in
    sym h
    ∙ ap (λ zs. run_hooks (program_of p) (all_inits (program_of p) (all_of zs)) s all_ticks) same_list
    ∙ ap (λ ps. run_hooks (program_of p) (all_inits (program_of p) ps) s all_ticks) a.all
    ∙ ap (λ hs. run_hooks (program_of p) hs s all_ticks) (sym (inits_are (program_of p) ms))
    ∙ ap (λ t. run_hooks (program_of p) (first_inits (program_of p) ms) t all_ticks) st

pub stopped_with : (x : Halt) (y : Stopped) (o : Ran) (m : RunState) → x ≡ halt.Stopped y → RanAs (Err x) o m → o ≡ stopped y.class y.fault.kind y.fault.line
stopped_with x y o m e h = subst (λ (v : Halt). RanAs (Err v) o m) e h
