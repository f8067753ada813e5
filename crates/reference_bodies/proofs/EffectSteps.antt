-- Statements as the code goes.
use Rattle.std.proofs.Common.{◌≡◌, ℕ, List, Option, Some, None, Result, Ok, Err, refl, sym, ap, ◌∙◌, subst}
use Rattle.std.specs.Prelude.{if◌then◌else◌}
use Rattle.st_types.specs.declared.st_type.StType.{StType}
use Rattle.st_tree.specs.declared.expression.Root.{Root}
use Rattle.st_tree.specs.declared.path.Path.{Path}
use Rattle.st_tree.specs.declared.program.Note.{Note}
use Rattle.st_tree.specs.Expression.{Expression, Selectors}
use Rattle.st_tree.specs.Statement.{Attempt}
use Rattle.st_values.specs.Program.{Program, conforms}
use Rattle.st_values.specs.Value.{Value, reference}
use Rattle.st_meaning.specs.State.{Spot, State, Outcome, Done, Fault, in_store, go_on, spend, write}
use Rattle.st_meaning.specs.Call.{Enter}
use Rattle.st_meaning.specs.Expression.{place, value}
use Rattle.st_meaning.specs.Loop.{Flow, goes_on}
use Rattle.st_meaning.specs.Operation.{path_in}
use Rattle.st_meaning.specs.Statement as words
use Rattle.st_meaning.specs.Statement.{effect}
use Rattle.run_state.specs.declared.state.Stop.{Stop}
use Rattle.run_state.specs.declared.state.Stop.TheVariants as stop
use Rattle.run_state.specs.State.{Agrees, Shows}
use Rattle.call_steps.specs.Found.{class_there}
use Rattle.reference_bodies.specs.declared.flow.Flow.{Flow as CodeFlow}
use Rattle.reference_bodies.specs.Flow.{flow_of}
use Rattle.reference_bodies.specs.Private.Attempted.{attempted}
use Rattle.reference_bodies.proofs.LoopLaws.{one_by_one}

-- the same under another name
pub shown_so : {C A : Type 0} (view : C → A) (r : Result C Stop) (o w : Outcome A) (t : State) → w ≡ o → Shows view r o t → Shows view r w t
shown_so view r o w t e h = subst (λ x. Shows view r x t) (sym e) h

-- where a step stops that shows nothing, the whole does
pub unread : {C A B : Type 0} (view : C → B) (x : Stop) (o : Outcome A) (k : A → State → Outcome B) (w : Outcome B) (t : State) → w ≡ go_on o k → Agrees {A = A} (Err x) o t → Shows view (Err x) w t
unread view (stop.Fault f) o k w t h e = h ∙ ap (λ y. go_on y k) e
unread view stop.NoMemory o k w t h e = tt

pub attempted_is : (p : Program) (enter : Enter) (t : StType) (o : Option Path) (line : ℕ) (s : State) → words.attempted p enter t o line s ≡ attempted p t o line s
attempted_is p enter t None line s = refl
attempted_is p enter t (Some q) line s = sym (one_by_one (class_there p (in_store q) line s) (λ c u. Done (if conforms p c t then Some q else None) u) (λ x u. Done (reference x) u))

-- ---- ?=, step by step

module _ (p : Program) (enter : Enter) (ln line : ℕ) (a : Note) (r : Root Note) (ss : Selectors Note) (e : Expression Note) (s0 s1 s2 : State) (v : Value) where
  abbrev put_there : Value → Spot → State → Outcome Flow
  put_there w spot s = go_on (write spot w ln s) (λ z t. Done goes_on t)

  abbrev put_at_place : Value → State → Outcome Flow
  put_at_place w s = go_on (place p enter r ss ln s) (put_there w)

  abbrev then_attempt : Value → State → Outcome Flow
  then_attempt x s = go_on (words.attempted p enter a.kind (path_in x) ln s) put_at_place

  module _ (spent : spend ln s0 ≡ Done tt s1) (read : value p enter e ln s1 ≡ Done v s2) (w : Value) (kept : words.attempted p enter a.kind (path_in v) ln s2 ≡ Done w s2) where
    pub attempt_placed : effect p enter (Attempt ln a r ss e) line s0 ≡ put_at_place w s2
    attempt_placed =
        ap (λ o. go_on o (λ z t. go_on (value p enter e ln t) then_attempt)) spent
        ∙ ap (λ o. go_on o then_attempt) read
        ∙ ap (λ o. go_on o put_at_place) kept

    module _ (spot : Spot) (s3 : State) (there : place p enter r ss ln s2 ≡ Done spot s3) where
      pub attempt_put : effect p enter (Attempt ln a r ss e) line s0 ≡ put_there w spot s3
      attempt_put = attempt_placed ∙ ap (λ o. go_on o (put_there w)) there

      pub attempt_ended : (s4 : State) → write spot w ln s3 ≡ Done tt s4 → effect p enter (Attempt ln a r ss e) line s0 ≡ Done goes_on s4
      attempt_ended s4 h = attempt_put ∙ ap (λ o. go_on o (λ z t. Done goes_on t)) h
