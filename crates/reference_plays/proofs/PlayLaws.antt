-- What a play is answered, as the code goes.
use Rattle.std.proofs.Common.{◌≡◌, ℕ, true, false, List, Some, None, map, sym, ap, ◌∙◌, subst}
use Rattle.plc_text.specs.declared.refusal.Refusal.{Refusal}
use Rattle.cycle_journal.specs.declared.entry.Answer.{Answer}
use Rattle.cycle_journal.specs.declared.entry.CycleReply as reply
use Rattle.cycle_journal.specs.declared.entry.Answer.TheVariants as answer
use Rattle.cycle_journal.specs.declared.play.Play.TheVariants as play
use Rattle.st_values.specs.Program.{Program}
use Rattle.st_values.specs.Value.{Store}
use Rattle.st_values.specs.View.{program_of}
use Rattle.st_meaning.specs.Cycle.{cycle}
use Rattle.st_meaning.specs.st_frame.Footprint.{IsFootprint}
use Rattle.value_trees.specs.Value.{members_of}
use Rattle.reference_cycle.specs.Cycle.{ended}
use Rattle.reference_cycle.specs.declared.ended.Ended.{Ended}
use Rattle.st_change.specs.OneThread.{Controller, task_named, is_held, released, since, cycle_answer, after_cycle, held_after, One, cycle_without_task, cycle_held, cycle_run, reset_without_task, reset_done}
use Rattle.reference_plays.specs.Controller.{controller_of, gone_of}
use Rattle.reference_plays.specs.Private.Ran.{HasRun}
use Rattle.reference_plays.specs.declared.controller.Controller.{Controller as CodeController}
use Rattle.reference_plays.specs.declared.controller.Plan.{Plan}

module _ (Accepts : List ℕ → Program → Type 0) (Refuses : List ℕ → Refusal → Type 0) (sources : List (List ℕ)) (c : Controller) (name : List ℕ) where
  pub no_cycle : (now : ℕ) (input : List ℕ) (v : ℕ) → None ≡ task_named c.program name → v ≡ since c.gone name → One Accepts Refuses sources c (play.Cycle name now input) (answer.NoTask v) c
  no_cycle now input v none e = subst (λ (x : ℕ). One Accepts Refuses sources c (play.Cycle name now input) (answer.NoTask x) c) (sym e) (cycle_without_task (sym none))

  pub held_cycle : (now : ℕ) (input : List ℕ) (t : ℕ) → Some t ≡ task_named c.program name → true ≡ is_held c.held name → One Accepts Refuses sources c (play.Cycle name now input) answer.Held c
  held_cycle now input t some held = cycle_held t (sym some) (sym held)

  pub run_cycle : (now : ℕ) (input : List ℕ) (t : ℕ) (a : Answer) (next : Controller) → Some t ≡ task_named c.program name → false ≡ is_held c.held name → HasRun c t name now input a next
      → One Accepts Refuses sources c (play.Cycle name now input) a next
  run_cycle now input t a next some free ran =
      let there : One Accepts Refuses sources c (play.Cycle name now input) (cycle_answer (cycle c.program ran.regions t now input c.store).0) (after_cycle c name (cycle c.program ran.regions t now input c.store)) =
      cycle_run t ran.regions (sym some) (sym free) ran.footprint in
      let answered : One Accepts Refuses sources c (play.Cycle name now input) a (after_cycle c name (cycle c.program ran.regions t now input c.store)) =
      subst (λ (x : Answer). One Accepts Refuses sources c (play.Cycle name now input) x (after_cycle c name (cycle c.program ran.regions t now input c.store))) (sym ran.answer) there in
      subst (λ (x : Controller). One Accepts Refuses sources c (play.Cycle name now input) a x) (sym ran.left) answered

  pub no_reset : (v : ℕ) → None ≡ task_named c.program name → v ≡ since c.gone name → One Accepts Refuses sources c (play.Reset name) (answer.NoTask v) c
  no_reset v none e = subst (λ (x : ℕ). One Accepts Refuses sources c (play.Reset name) (answer.NoTask x) c) (sym e) (reset_without_task (sym none))

  pub reset_task : (t : ℕ) (next : Controller) → Some t ≡ task_named c.program name → next ≡ record c { held = released c.held name } → One Accepts Refuses sources c (play.Reset name) answer.Released next
  reset_task t next some e = subst (λ (x : Controller). One Accepts Refuses sources c (play.Reset name) answer.Released x) (sym e) (reset_done t (sym some))

-- a cycle of a task, as the code goes
module _ (plan : Plan) (old new : CodeController) (t n : ℕ) (name : List ℕ) (now : ℕ) (input regions given : List ℕ) (before : Store) (e : Ended) (a : Answer) where
  pub ran_by : IsFootprint (program_of plan.on.now.tables.now) t regions → n ≡ t → given ≡ regions → before ≡ members_of old.store → ended e ≡ cycle (program_of plan.on.now.tables.now) given n now input before → a ≡ cycle_answer e.reply
      → new.version ≡ old.version → members_of new.store ≡ members_of e.store → new.held.items ≡ held_after e.reply name old.held.items → new.gone.items ≡ old.gone.items → HasRun (controller_of plan old) t name now input a (controller_of plan new)
  ran_by footprint number same_regions store is answered version left held gone =
      let r : ended e ≡ cycle (program_of plan.on.now.tables.now) regions t now input (members_of old.store) =
      is ∙ ap (λ rs. cycle (program_of plan.on.now.tables.now) rs n now input before) same_regions
      ∙ ap (λ k. cycle (program_of plan.on.now.tables.now) regions k now input before) number
      ∙ ap (cycle (program_of plan.on.now.tables.now) regions t now input) store in
      let told : (reply.CycleReply × Store) → Controller = after_cycle (controller_of plan old) name in
      record {
        regions = regions;
        footprint = footprint;
        answer = answered ∙ ap (λ (x : reply.CycleReply × Store). cycle_answer x.0) r;
        left =
            ap (λ v. record (controller_of plan new) { version = v }) version
            ∙ ap (λ s. record (controller_of plan new) { version = old.version; store = s }) left
            ∙ ap (λ h. record (controller_of plan new) { version = old.version; store = members_of e.store; held = h }) held
            ∙ ap (λ gs. record (controller_of plan old) { store = members_of e.store; held = held_after e.reply name old.held.items; gone = map gone_of gs }) gone
            ∙ ap told r;
      }
