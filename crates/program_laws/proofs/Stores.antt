-- States that come of accepted programs are sound.
use Rattle.std.proofs.Common.{◌≡◌, ℕ, zero, suc, List, [], ◌∷◌, Some, subst}
use Rattle.std.specs.Prelude.{slice_get}
use Rattle.cycle_journal.specs.Play.{play_numbered}
use Rattle.cycle_journal.specs.declared.entry.Answer.{Answer}
use Rattle.cycle_journal.specs.declared.entry.Entry.{Entry}
use Rattle.cycle_journal.specs.declared.play.Play.{Play}
use Rattle.st_rules.proofs.Booleans.{none≢some, some-same}
use Rattle.st_values.specs.Program.{Program}
use Rattle.st_meaning.specs.st_frame.Promise.Declarations.{Each}
use Rattle.st_change.specs.OneThread.{Controller, One, cycle_without_task, cycle_held, cycle_run, reset_without_task, reset_done, change_loaded, change_refused, change_stopped, change_without_memory, Steps, OneThread}
use Rattle.st_change.specs.StoreLaws.{Timely}
use Rattle.st_change.proofs.Stores.{plays_good, start_good}
use Rattle.accepted_texts.specs.st_accepted.Judge.{Accepts, Refuses}
use Rattle.promise_laws.specs.KeepsPromise.{KeepsPromise}
use Rattle.promise_laws.proofs.Whole.{promise_laws}
use Rattle.program_laws.specs.Accepted.{IsAccepted, IsSound}

pub kept : (p : Program) → IsAccepted p → KeepsPromise p
kept p a = promise_laws.accepted a.text p a.accepted

module _ (sources : List (List ℕ)) where
  -- the program of the next state
  program_after : (c d : Controller) (p : Play) (a : Answer) → One Accepts Refuses sources c p a d → IsAccepted c.program → IsAccepted d.program
  program_after c d p a (cycle_without_task h) g = g
  program_after c d p a (cycle_held u h k) g = g
  program_after c d p a (cycle_run u fs h k f) g = g
  program_after c d p a (reset_without_task h) g = g
  program_after c d p a (reset_done u h) g = g
  program_after c d p a (change_loaded text q s ticks h acc e) g = record { text = text; accepted = acc }
  program_after c d p a (change_refused text r h ref) g = g
  program_after c d p a (change_stopped text q class kind line h acc e) g = g
  program_after c d p a change_without_memory g = g

  pub play_sound : (c d : Controller) (p : Play) (a : Answer) → Timely p → One Accepts Refuses sources c p a d → IsSound c → IsSound d
  play_sound c d p a t o g =
      let k = kept c.program g.program in
      record {
        program = program_after c d p a o g.program;
        store = (plays_good Accepts Refuses sources promise_laws.promises c d p a t o (record { program = k.program; hooks = k.hooks; store = g.store })).store;
      }

  timely_at : (plays : List Play) (n : ℕ) (p : Play) → Each Timely plays → play_numbered plays n ≡ Some p → Timely p
  timely_at plays zero p h e = absurd (none≢some e)
  timely_at plays (suc n) p h e = at plays n h e
    where
      at : (ps : List Play) (i : ℕ) → Each Timely ps → slice_get ps i ≡ Some p → Timely p
      at [] i k q = absurd (none≢some q)
      at (x ∷ ps) zero k q = subst Timely (some-same q) k.0
      at (x ∷ ps) (suc i) k q = at ps i k.1 q

  steps_sound : (plays : List Play) (es : List Entry) (c end : Controller) → Each Timely plays → Steps Accepts Refuses sources plays c es end → IsSound c → IsSound end
  steps_sound plays [] c end t h g = subst IsSound h g
  steps_sound plays (e ∷ es) c end t h g = steps_sound plays es h.1 end t h.5 (play_sound c h.1 h.0 e.answer (timely_at plays e.play h.0 t h.2) h.4 g)

  pub run_sound : (text : List ℕ) (plays : List Play) (es : List Entry) (o : OneThread Accepts Refuses sources text plays es) → Each Timely plays → IsSound o.end
  run_sound text plays es o t =
      let first : IsAccepted o.program = record { text = text; accepted = o.accepted } in
      let k = kept o.program first in
      steps_sound plays es _ o.end t o.steps (record { program = first; store = start_good o.program k.program k.hooks o.store o.ticks o.started })
