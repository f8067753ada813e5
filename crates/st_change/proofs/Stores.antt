-- Stores stay good.
use Rattle.std.proofs.Common.{◌≡◌, ℕ, zero, suc, Bool, true, false, List, [], ◌∷◌, Option, Some, None, refl, sym, subst, arith}
use Rattle.plc_text.specs.declared.refusal.Refusal.{Refusal}
use Rattle.cycle_journal.specs.declared.entry.Answer.{Answer}
use Rattle.cycle_journal.specs.declared.play.Play.{Play}
use Rattle.st_values.specs.Program.{Parameter, Routine, Program}
use Rattle.st_values.specs.Value.{Store}
use Rattle.st_values.specs.Initial.{initial_store}
use Rattle.st_meaning.specs.State.{Frame, Outcome, Done, Fault}
use Rattle.st_meaning.specs.Operation.{truth}
use Rattle.st_meaning.specs.Call.{given_value}
use Rattle.st_meaning.specs.Enter.{most_calls}
use Rattle.st_meaning.specs.Cycle.{all_ticks}
use Rattle.st_meaning.specs.st_frame.FrameLaws.{FlagFits}
use Rattle.st_meaning.specs.st_frame.Good.{Good}
use Rattle.st_meaning.specs.st_frame.Promise.Declarations.{Each}
use Rattle.st_meaning.specs.st_frame.Promise.Programs.{ProgramIs}
use Rattle.st_meaning.proofs.st_frame.Frame.{frame_laws}
use Rattle.st_meaning.proofs.st_frame.Values.{initial_good}
use Rattle.st_change.specs.Hook.{Hook, Ran, ran, stopped, go_on, routine_of, given_flags, hook_run, class_name, hooked, run_hook, run_hooks}
use Rattle.st_change.specs.Change.{start, carry_store, leaving, coming, exits, inits, reinits, change}
use Rattle.st_change.specs.OneThread.{Controller, One, cycle_without_task, cycle_held, cycle_run, reset_without_task, reset_done, change_loaded, change_refused, change_stopped, change_without_memory}
use Rattle.st_change.specs.StoreLaws.{IsFlag, HooksAre, IsHook, Promises, IsGood, Timely, StoreLaws}
use Rattle.st_change.proofs.Settled.{carry_laws}
use Rattle.st_change.proofs.Hooks.{starts_are, exits_are, inits_are, reinits_are}

-- ---- what hooks do

module _ (p : Program) (fine : ProgramIs p) (right : HooksAre p) where
  flags_fit : (r : Routine) (qs : List Parameter) (flags : List Bool) → Each (IsFlag r) qs → Each (FlagFits r) (given_flags qs flags)
  flags_fit r [] flags h = tt
  flags_fit r (q ∷ qs) [] h = tt
  flags_fit r (q ∷ qs) (b ∷ bs) h =
      let a = h.0 in
      (subst (λ x. FlagFits r (given_value x (truth b))) (sym a.2) (a.1, a.3, a.4, a.5, (b, refl)), flags_fit r qs bs h.1)

  hook_good : (h : Hook) (r : Routine) (s : Store) (n : ℕ) (o : Outcome Frame) → IsHook p h → routine_of p h ≡ Some r → Good p s → (t : Store) (k : ℕ)
      → hook_run p h r r.line (record { store = s; frames = []; ticks = n; now = 0 }) ≡ o → hooked (class_name p h.class) o ≡ ran t k → Good p t
  hook_good h r s zero (Done f x) on e g t k i j = cc
  hook_good h r s (suc n) (Done f x) on e g t k i j =
      let a = right.by h.when h.class r e in
      let d : x.store ≡ t = cc in
      subst (Good p) d (frame_laws.calls p most_calls r h.class h.path (given_flags r.parameters h.flags) r.line 0 n s f x fine (omega arith) a.0 a.1 on.names (flags_fit r r.parameters h.flags a.2) g i)
  hook_good h r s n (Fault kind line) on e g t k i j = cc

  one_hook : (h : Hook) (o : Option Routine) (s : Store) (n : ℕ) → IsHook p h → routine_of p h ≡ o → Good p s → (t : Store) (k : ℕ) → run_hook p h o s n ≡ ran t k → Good p t
  one_hook h None s n on e g t k i = let d : s ≡ t = cc in subst (Good p) d g
  one_hook h (Some r) s n on e g t k i = hook_good h r s n _ on e g t k refl i

  pub hooks_good : (hs : List Hook) (s : Store) (n : ℕ) → Each (IsHook p) hs → Good p s → (t : Store) (k : ℕ) → run_hooks p hs s n ≡ ran t k → Good p t
  hooks_good [] s n on g t k i = let d : s ≡ t = cc in subst (Good p) d g
  hooks_good (h ∷ hs) s n on g t k i = by (λ x y good j. hooks_good hs x y on.1 good t k j) (run_hook p h (routine_of p h) s n) refl i
    where
      by : ((x : Store) (y : ℕ) → Good p x → run_hooks p hs x y ≡ ran t k → Good p t) → (r : Ran) → run_hook p h (routine_of p h) s n ≡ r → go_on r (run_hooks p hs) ≡ ran t k → Good p t
      by rest (ran x y) e j = rest x y (one_hook h (routine_of p h) s n on.0 refl g x y e) j
      by rest (stopped class kind line) e j = cc

  pub start_good : (s : Store) (n : ℕ) → start p ≡ ran s n → Good p s
  start_good s n e = hooks_good _ (initial_store p) all_ticks (starts_are p) (initial_good p fine) s n e

-- ---- a change

module _ (old new : Program) (fine : ProgramIs old) (fine' : ProgramIs new) (right : HooksAre old) (right' : HooksAre new) where
  go_ran : (r : Ran) (f : Store → ℕ → Ran) (t : Store) (k : ℕ) → go_on r f ≡ ran t k → (s : Store) × (n : ℕ) × (r ≡ ran s n) × (f s n ≡ ran t k)
  go_ran (ran s n) f t k e = (s, n, refl, e)
  go_ran (stopped class kind line) f t k e = cc

  pub change_good : (before s : Store) (n : ℕ) → Good old before → change old new before ≡ ran s n → Good new s
  change_good before s n g e =
      let a = go_ran (run_hooks old (exits old new (leaving old new)) before all_ticks) _ s n e in
      let g1 = hooks_good old fine right (exits old new (leaving old new)) before all_ticks (exits_are old new) g a.0 a.1 a.2 in
      let b = go_ran (run_hooks new (inits old new (coming old new)) (carry_store old new true a.0 (initial_store new)) a.1) _ s n a.3 in
      let g2 = carry_laws.store old new true a.0 (initial_store new) g1 (initial_good new fine') in
      let g3 = hooks_good new fine' right' (inits old new (coming old new)) _ a.1 (inits_are old new) g2 b.0 b.1 b.2 in
      hooks_good new fine' right' (reinits old new (coming old new)) _ b.1 (reinits_are old new) (carry_laws.store old new false a.0 b.0 g1 g3) s n b.3

-- ---- plays

pub plays_good : (Accepts : List ℕ → Program → Type 0) (Refuses : List ℕ → Refusal → Type 0) (sources : List (List ℕ)) → Promises Accepts → (c d : Controller) (p : Play) (a : Answer) → Timely p → One Accepts Refuses sources c p a d → IsGood c → IsGood d
plays_good Accepts Refuses sources ok c d p a t (cycle_without_task h) g = g
plays_good Accepts Refuses sources ok c d p a t (cycle_held u h k) g = g
plays_good Accepts Refuses sources ok c d p a t (cycle_run {name} {now} {input} u fs h k f) g =
    record { program = g.program; hooks = g.hooks; store = frame_laws.good c.program fs u now input c.store g.program f t g.store }
plays_good Accepts Refuses sources ok c d p a t (reset_without_task h) g = g
plays_good Accepts Refuses sources ok c d p a t (reset_done u h) g = record { program = g.program; hooks = g.hooks; store = g.store }
plays_good Accepts Refuses sources ok c d p a t (change_loaded text q s ticks h acc e) g =
    record {
      program = ok.program text q acc;
      hooks = ok.hooks text q acc;
      store = change_good c.program q g.program (ok.program text q acc) g.hooks (ok.hooks text q acc) c.store s ticks g.store e;
    }
plays_good Accepts Refuses sources ok c d p a t (change_refused text r h ref) g = g
plays_good Accepts Refuses sources ok c d p a t (change_stopped text q class kind line h acc e) g = g
plays_good Accepts Refuses sources ok c d p a t change_without_memory g = g

pub store_laws : StoreLaws
store_laws = record {
  start = λ p s n fine right e. start_good p fine right s n e;
  change = λ old new before s n fine fine' right right' g e. change_good old new fine fine' right right' before s n g e;
  starts = starts_are;
  exits = exits_are;
  inits = inits_are;
  reinits = reinits_are;
}
