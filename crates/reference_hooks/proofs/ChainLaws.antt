-- Hooks one after the other.
use Rattle.std.proofs.Common.{◌≡◌, ℕ, Bool, true, false, List, [], ◌∷◌, ◌++◌, reverse, length, map, append_assoc, append-nil, Option, Some, None, Result, Err, refl, sym, ap, ◌∙◌, arith, subst}
use Rattle.std.proofs.lemmas.List.{reverse-append}
use Rattle.std.specs.Prelude.{if◌then◌else◌, is_some}
use Rattle.plc_text.specs.declared.fault.Fault.{Fault as CodeFault}
use Rattle.st_tree.specs.declared.path.Path.{Path}
use Rattle.st_values.specs.Program.{Parameter, Routine, Program, own_method}
use Rattle.st_values.specs.Value.{Store}
use Rattle.st_meaning.specs.State.{Frame, State, Done, Fault}
use Rattle.st_meaning.specs.Call.{given_value}
use Rattle.st_meaning.specs.Enter.{most_calls}
use Rattle.st_meaning.specs.Operation.{truth}
use Rattle.st_change.specs.Hook.{Hook, When, hook_name, hooks_along, first_only, given_flags, Ran, ran, stopped, go_on, hooked, class_name, run_hook, run_hooks}
use Rattle.call_frames.specs.declared.slots.Given.{Given as CodeGiven}
use Rattle.call_frames.specs.Opening.{given_of}
use Rattle.routine_tables.specs.declared.parameters.Parameter.{Parameter as CodeParameter}
use Rattle.routine_tables.specs.Parameters.{parameters_of, recipient_of}
use Rattle.run_state.specs.declared.state.RunState.{RunState}
use Rattle.run_state.specs.declared.state.Stop.{Stop}
use Rattle.run_state.specs.declared.state.Stop.TheVariants as stop
use Rattle.run_state.specs.declared.state.Frame.{Frame as CodeFrame}
use Rattle.run_state.specs.State.{Shows, frame_of, state_of}
use Rattle.reference_hooks.specs.declared.hooks.Halt.{Halt}
use Rattle.reference_hooks.specs.declared.hooks.Halt.TheVariants as halt
use Rattle.reference_hooks.specs.Hooks.{RanAs}
use Rattle.reference_hooks.specs.Private.Hooks.{hook_of, hook_call, Stops}

-- ---- what a hook is given

-- what was given, and what the inputs and flags that are left are given, is the whole
abbrev pub FlagsLeft : List CodeParameter → List Bool → List CodeGiven → List CodeParameter → List Bool → Type 0
FlagsLeft ps fs given inputs left = map given_of given ++ given_flags (parameters_of inputs) left ≡ given_flags (parameters_of ps) fs

pub none_left : {X : Type 0} (xs : List X) → length xs ≡ 0 → xs ≡ []
none_left [] e = refl
none_left (x ∷ xs) e = absurd (omega (arith, e))

no_flags : (qs : List Parameter) → given_flags qs [] ≡ []
no_flags [] = refl
no_flags (q ∷ qs) = refl

module _ (ps : List CodeParameter) (fs : List Bool) where
  pub flags_next : (inputs behind : List CodeParameter) (left others : List Bool) (x : CodeParameter) (b : Bool) (one two : List CodeGiven) → left ≡ b ∷ others → inputs ≡ x ∷ behind
      → map given_of two ≡ map given_of one ++ (given_value (recipient_of x.to) (truth b) ∷ []) → FlagsLeft ps fs one inputs left → FlagsLeft ps fs two behind others
  flags_next inputs behind left others x b one two e h d k =
      ap (λ gs. gs ++ given_flags (parameters_of behind) others) d
      ∙ append_assoc (map given_of one) (given_value (recipient_of x.to) (truth b) ∷ []) (given_flags (parameters_of behind) others)
      ∙ sym (ap (λ zs. map given_of one ++ given_flags (parameters_of zs) (b ∷ others)) h)
      ∙ sym (ap (λ bs. map given_of one ++ given_flags (parameters_of inputs) bs) e)
      ∙ k

  pub flags_end : (inputs : List CodeParameter) (left : List Bool) (given : List CodeGiven) → left ≡ [] → FlagsLeft ps fs given inputs left → map given_of given ≡ given_flags (parameters_of ps) fs
  flags_end inputs left given e k =
      sym (append-nil (map given_of given)) ∙ sym (ap (λ gs. map given_of given ++ gs) (no_flags (parameters_of inputs)))
      ∙ sym (ap (λ bs. map given_of given ++ given_flags (parameters_of inputs) bs) e) ∙ k

  pub inputs_end : (inputs : List CodeParameter) (left : List Bool) (given : List CodeGiven) → inputs ≡ [] → FlagsLeft ps fs given inputs left → map given_of given ≡ given_flags (parameters_of ps) fs
  inputs_end inputs left given e k =
      sym (append-nil (map given_of given)) ∙ sym (ap (λ zs. map given_of given ++ given_flags (parameters_of zs) left) e) ∙ k

-- ---- runs of hooks

pub ran_so : (r : Result (Unit {0}) Halt) (o w : Ran) (m : RunState) → w ≡ o → RanAs r o m → RanAs r w m
ran_so r o w m e h = subst (λ (x : Ran). RanAs r x m) (sym e) h

same : (o : Ran) → go_on o ran ≡ o
same (ran s n) = refl
same (stopped class kind line) = refl

one_by_one : (o : Ran) (f g : Store → ℕ → Ran) → go_on (go_on o f) g ≡ go_on o (λ s n. go_on (f s n) g)
one_by_one (ran s n) f g = refl
one_by_one (stopped class kind line) f g = refl

as_well : (o : Ran) (f g : Store → ℕ → Ran) → ((s : Store) (n : ℕ) → f s n ≡ g s n) → go_on o f ≡ go_on o g
as_well (ran s n) f g h = h s n
as_well (stopped class kind line) f g h = refl

-- where a first part comes to its end, what is left goes on; where it stops, so does the whole
pub next : (o w : Ran) (k : Store → ℕ → Ran) (here : Ran) (s : Store) (n : ℕ) → here ≡ go_on o k → o ≡ ran s n → here ≡ w → k s n ≡ w
next o w k here s n h e p = sym (h ∙ ap (λ x. go_on x k) e) ∙ p

pub stops_all : (x : Halt) (o w : Ran) (k : Store → ℕ → Ran) (here : Ran) (m : RunState) → here ≡ go_on o k → here ≡ w → RanAs (Err x) o m → RanAs (Err x) w m
stops_all (halt.Stopped x) o w k here m h p e = sym p ∙ h ∙ ap (λ x. go_on x k) e
stops_all halt.NoMemory o w k here m h p e = tt

module _ (p : Program) where
  -- those of a list, and then those of another
  pub hooks_both : (hs others : List Hook) (s : Store) (n : ℕ) → run_hooks p (hs ++ others) s n ≡ go_on (run_hooks p hs s n) (run_hooks p others)
  hooks_both [] others s n = refl
  hooks_both (h ∷ hs) others s n =
      as_well (run_hook p h (own_method p (hook_name h.when) h.class) s n) (run_hooks p (hs ++ others)) (λ t m. go_on (run_hooks p hs t m) (run_hooks p others)) (λ t m. hooks_both hs others t m)
      ∙ sym (one_by_one (run_hook p h (own_method p (hook_name h.when) h.class) s n) (run_hooks p hs) (run_hooks p others))

  module _ (w : When) (q : Path) (fs : List Bool) where
    -- ---- one class

    abbrev if_declared : ℕ → Option Routine → List Hook
    if_declared c o = (if is_some o then hook_of w q fs c ∷ [] else []) ++ []

    pub own_runs : (c : ℕ) (r : Routine) (s : Store) (n : ℕ) → Some r ≡ own_method p (hook_name w) c → run_hooks p (hooks_along p w q fs (c ∷ [])) s n ≡ run_hook p (hook_of w q fs c) (Some r) s n
    own_runs c r s n e =
        ap (λ o. run_hooks p (if_declared c o) s n) (sym e)
        ∙ ap (λ o. go_on (run_hook p (hook_of w q fs c) o s n) ran) (sym e)
        ∙ same (run_hook p (hook_of w q fs c) (Some r) s n)

    pub own_skips : (c : ℕ) (s : Store) (n : ℕ) → None ≡ own_method p (hook_name w) c → run_hooks p (hooks_along p w q fs (c ∷ [])) s n ≡ ran s n
    own_skips c s n e = ap (λ o. run_hooks p (if_declared c o) s n) (sym e)

    -- ---- one call

    module _ (c : ℕ) (r : Routine) (s : Store) (n line : ℕ) (a : State) (l : line ≡ r.line) (e : a ≡ record { store = s; frames = []; ticks = n; now = 0 }) where
      called : run_hook p (hook_of w q fs c) (Some r) s n ≡ hooked (class_name p c) (hook_call p most_calls r q fs line a)
      called = ap (hooked (class_name p c)) (ap (λ k. hook_call p most_calls r q fs k (record { store = s; frames = []; ticks = n; now = 0 })) (sym l) ∙ ap (hook_call p most_calls r q fs line) (sym e))

      pub hook_ended : (f : Frame) (b : State) → hook_call p most_calls r q fs line a ≡ Done f b → run_hook p (hook_of w q fs c) (Some r) s n ≡ ran b.store b.ticks
      hook_ended f b h = called ∙ ap (hooked (class_name p c)) h

      pub hook_stopped : (x : Stop) (y : Halt) (m : RunState) → Shows {C = CodeFrame} frame_of (Err x) (hook_call p most_calls r q fs line a) (state_of m) → Stops (class_name p c) x y → RanAs (Err y) (run_hook p (hook_of w q fs c) (Some r) s n) m
      hook_stopped (stop.Fault f) (halt.Stopped y) m h stops =
          called ∙ ap (hooked (class_name p c)) h
          ∙ ap (λ g. stopped (class_name p c) g.kind g.line) (sym stops.1) ∙ ap (λ name. stopped name y.fault.kind y.fault.line) (sym stops.0)
      hook_stopped (stop.Fault f) halt.NoMemory m h k = tt
      hook_stopped stop.NoMemory (halt.Stopped y) m h k = absurd k
      hook_stopped stop.NoMemory halt.NoMemory m h k = tt

    -- ---- the classes of an instance

    pub along_first : (c : ℕ) (others : List ℕ) (s : Store) (n : ℕ) → run_hooks p (hooks_along p w q fs (c ∷ others)) s n ≡ go_on (run_hooks p (hooks_along p w q fs (c ∷ [])) s n) (run_hooks p (hooks_along p w q fs others))
    along_first c others s n =
        ap (λ hs. run_hooks p (hs ++ hooks_along p w q fs others) s n) (sym (append-nil (if is_some (own_method p (hook_name w) c) then hook_of w q fs c ∷ [] else [])))
        ∙ hooks_both (hooks_along p w q fs (c ∷ [])) (hooks_along p w q fs others) s n

    -- the first of those that are left comes next
    pub first_next : (left behind : List ℕ) (c : ℕ) (s : Store) (n : ℕ) → left ≡ c ∷ behind → run_hooks p (hooks_along p w q fs left) s n ≡ go_on (run_hooks p (hooks_along p w q fs (c ∷ [])) s n) (run_hooks p (hooks_along p w q fs behind))
    first_next left behind c s n e = ap (λ cs. run_hooks p (hooks_along p w q fs cs) s n) e ∙ along_first c behind s n

    -- the last of them does
    pub last_next : (left behind : List ℕ) (c : ℕ) (s : Store) (n : ℕ) → left ≡ behind ++ (c ∷ []) → run_hooks p (hooks_along p w q fs (reverse left)) s n ≡ go_on (run_hooks p (hooks_along p w q fs (c ∷ [])) s n) (run_hooks p (hooks_along p w q fs (reverse behind)))
    last_next left behind c s n e =
        ap (λ cs. run_hooks p (hooks_along p w q fs (reverse cs)) s n) e
        ∙ ap (λ cs. run_hooks p (hooks_along p w q fs cs) s n) (reverse-append behind (c ∷ []))
        ∙ along_first c (reverse behind) s n

    -- ---- the nearest alone

    abbrev first_by : Option Routine → ℕ → List Hook → List Hook
    first_by o c hs = first_only ((if is_some o then hook_of w q fs c ∷ [] else []) ++ hs)

    -- a class that declares it is the nearest
    pub nearest_here : (left behind : List ℕ) (c : ℕ) (o : Option Routine) (s : Store) (n : ℕ) → left ≡ c ∷ behind → o ≡ own_method p (hook_name w) c → is_some o ≡ true → run_hooks p (first_only (hooks_along p w q fs left)) s n ≡ run_hooks p (hooks_along p w q fs (c ∷ [])) s n
    nearest_here left behind c None s n e h t = absurd cc
    nearest_here left behind c (Some r) s n e h t =
        ap (λ cs. run_hooks p (first_only (hooks_along p w q fs cs)) s n) e
        ∙ ap (λ o. run_hooks p (first_by o c (hooks_along p w q fs behind)) s n) (sym h)
        ∙ ap (λ o. run_hooks p (if_declared c o) s n) h

    -- one that does not is passed over
    pub nearest_later : (left behind : List ℕ) (c : ℕ) (o : Option Routine) (s : Store) (n : ℕ) → left ≡ c ∷ behind → o ≡ own_method p (hook_name w) c → is_some o ≡ false → run_hooks p (first_only (hooks_along p w q fs left)) s n ≡ run_hooks p (first_only (hooks_along p w q fs behind)) s n
    nearest_later left behind c (Some r) s n e h t = absurd cc
    nearest_later left behind c None s n e h t =
        ap (λ cs. run_hooks p (first_only (hooks_along p w q fs cs)) s n) e
        ∙ ap (λ o. run_hooks p (first_by o c (hooks_along p w q fs behind)) s n) (sym h)

-- ---- why hooks stop

pub stops_as : (name : List ℕ) (x : Stop) (f : CodeFault) (class : List ℕ) → x ≡ stop.Fault f → class ≡ name → Stops name x (halt.Stopped (record { class = class; fault = f }))
stops_as name x f class e h = subst (λ (y : Stop). Stops name y (halt.Stopped (record { class = class; fault = f }))) (sym e) (h, refl)
