-- Histories over loaded versions are runs on one thread.
use Rattle.std.proofs.Common.{◌≡◌, ◌≤◌, ℕ, ◌+◌, List, [], length, refl, sym, ap, ◌∙◌}
use Rattle.std.specs.List.{filter}
use Rattle.plc_text.specs.declared.refusal.Refusal.{Refusal}
use Rattle.cycle_journal.specs.Interleaving.{Lane, Follow}
use Rattle.cycle_journal.specs.declared.entry.Entry.{Entry}
use Rattle.st_values.specs.Program.{Program}
use Rattle.st_change.specs.Laws.{Judges}
use Rattle.st_change.specs.OneThread.{Controller, is_held}
use Rattle.st_change.specs.StoreLaws.{Promises}
use Rattle.plant_rules.specs.History.{Past, stage_at, done, state_of, one_of, Legal}
use Rattle.plant_rules.specs.plant_history.Running.{HistoryLaws}
use Rattle.plant_rules.proofs.plant_history.AllLaws.{history_laws}
use Rattle.mem_layout.specs.loaded_meaning.Version.{Version, plain, IsRight, meaning}
use Rattle.mem_layout.proofs.loaded_meaning.Frames.{loaded_frames}
use Rattle.accepted_texts.specs.st_accepted.Judge.{Accepts, Refuses}
use Rattle.promise_laws.specs.KeepsPromise.{KeepsPromise}
use Rattle.promise_laws.proofs.Whole.{promise_laws}
use Rattle.serial_laws.specs.Disjoint.{AreTimely, NoneWanted, entry_in}
use Rattle.serial_laws.specs.Threads.{DisjointThread}
use Rattle.serial_laws.proofs.SerialThreads.{serial_threads}
use Rattle.thread_laws.specs.Controllers.{IsControllerOf}
use Rattle.thread_laws.specs.Threads.{LoadsFirst, ThreadLaws, SerialCores, HasFootprints, AcceptedThreads}
use Rattle.thread_laws.proofs.Steps.{images_spell, row, first_whole, one_thread}

module _ (Accepts : List ℕ → Program → Type 0) (Refuses : List ℕ → Refusal → Type 0) where
  laws : HistoryLaws (meaning Accepts Refuses)
  laws = history_laws (meaning Accepts Refuses) (loaded_frames Accepts Refuses)

  pub thread_laws : ThreadLaws Accepts Refuses
  thread_laws = record {
    spelled = λ v s right good. images_spell v right s good;
    whole = λ text v c first. first_whole Accepts Refuses [] text v c first;
    step = λ sources a b held gone x ans lists whole timely one. row Accepts Refuses sources a b held gone x ans lists whole timely one;
    run = λ sources text plays es v c b timely first runs. one_thread Accepts Refuses sources text plays es v c b timely first runs;
    history = λ text v first timely legal.
        one_thread Accepts Refuses v.script.sources text v.script.plays (state_of (meaning Accepts Refuses) v).entries v.first v.contents (one_of (state_of (meaning Accepts Refuses) v)) timely first (laws.runs v first.right legal);
    interleaves = λ text v first legal follow all. laws.interleaves v first.right legal follow all;
  }

  -- where phases are disjoint
  serial_core : Judges Accepts Refuses → Promises Accepts → (text : List ℕ) (v : Past Version) (fs : List Entry) → LoadsFirst Accepts Refuses text v.first v.contents → AreTimely v.script.plays → Legal (meaning Accepts Refuses) v
      → Follow 1 v.script.phases (length v.script.plays + 1) → ((p : ℕ) → 1 ≤ p → p ≤ length v.script.plays → stage_at (state_of (meaning Accepts Refuses) v).stages p ≡ done)
      → (k : DisjointThread v.script.plays Accepts Refuses v.script.sources text v.script.phases fs) → NoneWanted (state_of (meaning Accepts Refuses) v).entries → NoneWanted fs
      → IsControllerOf (one_of (state_of (meaning Accepts Refuses) v)) k.end × ((l : Lane) → filter (entry_in v.script.plays l) (state_of (meaning Accepts Refuses) v).entries ≡ filter (entry_in v.script.plays l) fs)
  serial_core judges promises text v fs first timely legal follow all k ne nf =
      let t = thread_laws.history text v first timely legal in
      let both = (serial_threads Accepts Refuses judges promises).serial v.script.sources text v.script.plays v.script.phases (state_of (meaning Accepts Refuses) v).entries fs timely t.thread (thread_laws.interleaves text v first legal follow all) k ne nf in
      let alike = both.0 in (
        record {
          held = alike.held;
          gone = t.end.gone;
          is = alike.is ∙ ap (λ (z : Controller). record z { held = alike.held }) t.end.is;
          lists = record {
            held-are = λ n. t.end.lists.held-are n ∙ (sym (ap (λ (z : Controller). is_held z.held n) t.end.is) ∙ alike.same n);
            since-are = t.end.lists.since-are;
          };
        },
        both.1,
      )

  pub serial_cores : Judges Accepts Refuses → Promises Accepts → SerialCores Accepts Refuses
  serial_cores judges promises = record { serial = serial_core judges promises }

-- a version of an accepted program with its footprints is right
right : (text : List ℕ) (v : Version) → Accepts text (plain v) → HasFootprints v → IsRight v
right text v a f =
    let kept : KeepsPromise (plain v) = promise_laws.accepted text (plain v) a in
    record { promise = kept.program; hooks = kept.hooks; sized = kept.sized; footprint = f.footprint; rising = f.rising; below = f.below; written = f.written; written_rising = f.written_rising }

pub accepted_threads : AcceptedThreads
accepted_threads = record {
  right = right;
  first = λ text v s n one accepted f e. record { number = one; accepted = accepted; right = right text v accepted f; store = s; ticks = n; started = e; images = refl };
  next = λ text v w c s n more accepted f e. record { number = more; accepted = accepted; right = right text w accepted f; ticks = n; store = s; changes = e; images = refl };
  serial_threads = λ judges. serial_threads Accepts Refuses judges promise_laws.promises;
  serial_cores = λ judges. serial_cores Accepts Refuses judges promise_laws.promises;
}
