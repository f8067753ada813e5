-- A routine is entered: the call is opened, the statements run, and the call ends.
use Rattle.std.proofs.Common.{◌≡◌, ℕ, zero, suc, ◌-◌, ◌<◌, List, Option, refl, sym, ap, ◌∙◌, arith}
use Rattle.st_values.specs.Program.{Routine, Program}
use Rattle.st_values.specs.Value.{Path}
use Rattle.st_meaning.specs.State.{State, Outcome, Done, Fault, Frame, go_on, push, pop}
use Rattle.st_meaning.specs.Call.{Given, set_variables}
use Rattle.st_meaning.specs.Call as calls
use Rattle.st_meaning.specs.Enter.{enter}
use Rattle.st_meaning.specs.Loop.{Flow}
use Rattle.st_meaning.specs.Statement.{effects}
use Rattle.call_frames.specs.Opening.{opened}

one_by_one : {A B C : Type 0} (o : Outcome A) (f : A → State → Outcome B) (g : B → State → Outcome C) → go_on (go_on o f) g ≡ go_on o (λ a s. go_on (f a s) g)
one_by_one (Done a s) f g = refl
one_by_one (Fault k l) f g = refl

module _ (p : Program) (r : Routine) (line : ℕ) where
  abbrev pub ends : Flow → State → Outcome Frame
  ends flow s = pop line s

  abbrev pub runs : ℕ → State → Outcome Frame
  runs n s = go_on (effects p (enter p n) r.body line s) ends

  pub entered_as : (room : ℕ) (own : Option Path) (given : List Given) (s0 s1 : State) → 0 < room → opened p r.locals own given line s0 ≡ Done tt s1 → enter p room r own given line s0 ≡ runs (room - 1) s1
  entered_as zero own given s0 s1 l h = absurd (omega arith)
  entered_as (suc n) own given s0 s1 l h =
      let m : n ≡ suc n - 1 = omega arith in
      sym (one_by_one (set_variables own given line s0) (λ z u. push (calls.frame_of p r own given) line u) (λ z v. runs n v))
      ∙ ap (λ o. go_on o (λ z v. runs n v)) h
      ∙ ap (λ k. runs k s1) m
