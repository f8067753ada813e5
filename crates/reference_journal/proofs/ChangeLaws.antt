-- What a change of the running program came to.
use Rattle.std.proofs.Common.{◌≡◌, ℕ, ◌+◌, List, [], map, Option, Some, refl, sym, ◌∙◌, ap, subst}
use Rattle.std.specs.Prelude.{slice_get}
use Rattle.plc_text.specs.declared.denied.Denied.{Denied}
use Rattle.plc_text.specs.declared.denied.Denied.TheVariants as denied
use Rattle.plc_text.specs.declared.refusal.Refusal.{Refusal}
use Rattle.console_command.specs.Checker.{OnRefused}
use Rattle.plc_text.specs.declared.fault.FaultKind.{FaultKind}
use Rattle.cycle_journal.specs.declared.entry.Answer.TheVariants as answer
use Rattle.cycle_journal.specs.declared.play.Play.{Play}
use Rattle.cycle_journal.specs.declared.play.Play.TheVariants as play
use Rattle.st_tree.specs.declared.program.Program.{Program as CheckedProgram}
use Rattle.st_values.specs.Program.{Program}
use Rattle.st_values.specs.Value.{Store}
use Rattle.st_values.specs.View.{program_of}
use Rattle.st_change.specs.Hook.{Ran, ran, stopped}
use Rattle.st_change.specs.Change as words
use Rattle.st_change.specs.OneThread.{Controller, loaded, hook_refusal, One, change_loaded, change_refused, change_stopped, change_without_memory}
use Rattle.region_instances.specs.Instances.{RegionsUnfold}
use Rattle.reference_change.specs.Changed.{changed}
use Rattle.reference_change.specs.declared.changed.Changed.{Changed}
use Rattle.reference_change.specs.declared.changed.Changed.TheVariants as came
use Rattle.reference_hooks.specs.declared.hooks.Stopped.{Stopped}
use Rattle.reference_plays.specs.declared.controller.Controller.{Controller as CodeController}
use Rattle.value_trees.specs.Value.{members_of}
use Rattle.value_trees.specs.declared.value.Member.{Member}
use Rattle.reference_journal.specs.declared.next.Change.{Change}
use Rattle.reference_journal.specs.declared.next.Change.TheVariants as change
use Rattle.reference_journal.specs.declared.next.Version.{Version}
use Rattle.reference_journal.specs.declared.playing.Step.TheVariants as step
use Rattle.reference_journal.specs.Private.Changed.{ChangedTo, HasLoaded, HasStopped, IsLoadedAs}
use Rattle.reference_journal.specs.Private.Changing.{Changes, NextUnfolds}
use Rattle.reference_journal.specs.Private.Running.{IsChangeTo, StepOf}
use Rattle.reference_journal.specs.Private.Versions.{state_of}

-- ---- what a change to a program came to

module _ (c : Controller) (p : Program) (x : Changed) (h : changed x ≡ words.change c.program p c.store) where
  pub has_loaded : (store : List Member) (ticks : ℕ) (next : Version) → x ≡ came.Ran store ticks → program_of next.program ≡ p → IsLoadedAs c p (members_of store) (state_of next.program next.state) → HasLoaded c p next
  has_loaded store ticks next is program state = record {
    program = program;
    store = members_of store;
    ticks = ticks;
    came = sym (sym (ap changed is) ∙ h);
    state = state;
  }

  pub has_stopped : (s : Stopped) (r : Refusal) → x ≡ came.Stopped s → r ≡ hook_refusal s.class s.fault.kind s.fault.line → HasStopped c p r
  has_stopped s r is refusal = record { class = s.class; kind = s.fault.kind; line = s.fault.line; came = sym (sym (ap changed is) ∙ h); refusal = refusal }

-- ---- steps

module _ (Accepts : List ℕ → Program → Type 0) (Refuses : List ℕ → Refusal → Type 0) (sources : List (List ℕ)) (c : Controller) (name : List ℕ) (source : ℕ) (text : List ℕ) (there : slice_get sources source ≡ Some text) where
  by_change : (p : Program) → Accepts text p → (x : Change) → ChangedTo c p x → Changes Accepts Refuses sources c (play.Change name source) x
  by_change p accepted (change.Loaded next) h =
      let version : next.state.version ≡ c.version + 1 = ap (λ (k : Controller). k.version) h.state in
      subst (λ (n : ℕ). One Accepts Refuses sources c (play.Change name source) (answer.Loaded n) (state_of next.program next.state)) (sym version)
      (subst (λ (k : Controller). One Accepts Refuses sources c (play.Change name source) (answer.Loaded (c.version + 1)) k) (sym h.state) (change_loaded text p h.store h.ticks there accepted h.came))
  by_change p accepted (change.Refused r) h =
      subst (λ (q : Refusal). One Accepts Refuses sources c (play.Change name source) (answer.Refused q) c) (sym h.refusal) (change_stopped text p h.class h.kind h.line there accepted h.came)

  pub changes_to : (p : Program) (x : Change) → Accepts text p → ChangedTo c p x → Changes Accepts Refuses sources c (play.Change name source) x
  changes_to p x accepted h = by_change p accepted x h

  pub refused_by_text : (r : Refusal) → Refuses text r → Changes Accepts Refuses sources c (play.Change name source) (change.Refused r)
  refused_by_text r refused = change_refused text r there refused

pub refused_so : (d : Denied) (r : Refusal) (P : Refusal → Type 0) → d ≡ denied.Refused r → OnRefused d P → P r
refused_so d r P e h = subst (λ (x : Denied). OnRefused x P) e h

-- the types of what is loaded unfold
pub nexts_unfold : (c : Controller) (p : Program) (x : Change) → RegionsUnfold p → ChangedTo c p x → NextUnfolds x
nexts_unfold c p (change.Loaded next) u h = subst (λ (q : Program). RegionsUnfold q) (sym h.program) u
nexts_unfold c p (change.Refused r) u h = tt

-- ---- the step of a play

module _ (Accepts : List ℕ → Program → Type 0) (Refuses : List ℕ → Refusal → Type 0) (sources : List (List ℕ)) (c : Controller) (p : Play) (source : ℕ) (is : IsChangeTo p source) where
  pub without_memory : One Accepts Refuses sources c p answer.RefusedMemory c
  without_memory = subst (λ (q : Play). One Accepts Refuses sources c q answer.RefusedMemory c) (sym is.is) change_without_memory

  pub step_refused : (r : Refusal) (x : Change) → x ≡ change.Refused r → Changes Accepts Refuses sources c (play.Change is.name source) x → StepOf Accepts Refuses sources c p (step.Answered (answer.Refused r)) c
  step_refused r x e h =
      subst (λ (q : Play). One Accepts Refuses sources c q (answer.Refused r) c) (sym is.is) (subst (λ (y : Change). Changes Accepts Refuses sources c (play.Change is.name source) y) e h)

  pub step_loaded : (v : Version) (x : Change) → x ≡ change.Loaded v → Changes Accepts Refuses sources c (play.Change is.name source) x → StepOf Accepts Refuses sources c p (step.Loaded v) c
  step_loaded v x e h =
      subst (λ (q : Play). One Accepts Refuses sources c q (answer.Loaded v.state.version) (state_of v.program v.state)) (sym is.is)
      (subst (λ (y : Change). Changes Accepts Refuses sources c (play.Change is.name source) y) e h)
