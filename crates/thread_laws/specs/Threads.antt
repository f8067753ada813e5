-- Histories over loaded versions as runs on one thread.
use Rattle.std.specs.Prelude.{◌≡◌, ◌≤◌, ◌<◌, ℕ, ◌+◌, List, length}
use Rattle.std.specs.List.{filter}
use Rattle.plc_text.specs.declared.refusal.Refusal.{Refusal}
use Rattle.cycle_journal.specs.Interleaving.{Lane, Follow, Interleaves}
use Rattle.cycle_journal.specs.declared.entry.Answer.{Answer}
use Rattle.cycle_journal.specs.declared.entry.Entry.{Entry}
use Rattle.cycle_journal.specs.declared.play.Play.{Play}
use Rattle.st_values.specs.Program.{Program}
use Rattle.st_values.specs.Value.{Store}
use Rattle.st_meaning.specs.st_frame.Footprint.{Has, IsFootprint}
use Rattle.st_meaning.specs.st_frame.Good.{Good}
use Rattle.st_change.specs.Hook.{ran}
use Rattle.st_change.specs.Change.{start, change}
use Rattle.st_change.specs.OneThread.{One, OneThread}
use Rattle.st_change.specs.Laws.{Judges}
use Rattle.st_change.specs.StoreLaws.{Timely}
use Rattle.plant_rules.specs.Meaning.{Contents, Rising, Whole}
use Rattle.plant_rules.specs.One as version
use Rattle.plant_rules.specs.One.{OneState, begins}
use Rattle.plant_rules.specs.History.{Past, stage_at, done, state_of, one_of, Legal}
use Rattle.mem_layout.specs.loaded_meaning.Version.{Version, plain, reads_of, writes_of, store_of, images_of, FitAt, IsWritten, IsRight, meaning, LoadsNext}
use Rattle.accepted_texts.specs.st_accepted.Judge.{Accepts, Refuses}
use Rattle.serial_laws.specs.Disjoint.{AreTimely, NoneWanted, entry_in}
use Rattle.serial_laws.specs.Threads.{DisjointThread, SerialThreads}
use Rattle.thread_laws.specs.Controllers.{controller_of, ListsAre, IsControllerOf, IsWholeState}

-- What texts are accepted, as which program, and with what they are refused.
module _ (Accepts : List ℕ → Program → Type 0) (Refuses : List ℕ → Refusal → Type 0) where
  -- a first version of a text with its contents
  pub record LoadsFirst (text : List ℕ) (v : Version) (c : Contents) : Type 0 where
    pub number : v.number ≡ 1
    pub accepted : Accepts text (plain v)
    pub right : IsRight v
    pub store : Store
    pub ticks : ℕ
    pub started : start (plain v) ≡ ran store ticks
    pub images : c ≡ images_of (plain v) store

  module _ (sources : List (List ℕ)) where
    -- the same step of the meaning, from and to the controllers of the states
    pub record IsStep (a : OneState Version) (held : List (List ℕ)) (gone : List (List ℕ × ℕ)) (x : Play) (ans : Answer) (b : OneState Version) : Type 0 where
      pub held-after : List (List ℕ)
      pub gone-after : List (List ℕ × ℕ)
      pub one : One Accepts Refuses sources (controller_of a held gone) x ans (controller_of b held-after gone-after)
      pub lists : ListsAre b held-after gone-after
      pub whole : IsWholeState b

    -- a run on one thread of the text, which ends in this state
    pub record IsThread (text : List ℕ) (plays : List Play) (es : List Entry) (b : OneState Version) : Type 0 where
      pub thread : OneThread Accepts Refuses sources text plays es
      pub end : IsControllerOf b thread.end
      pub whole : IsWholeState b

  pub record ThreadLaws : Type 0 where
    -- a good store is spelled by its images
    pub spelled : (v : Version) (s : Store) → IsRight v → Good (plain v) s → store_of (plain v) (images_of (plain v) s) ≡ s
    -- all regions of a first version are there and fit
    pub whole : (text : List ℕ) (v : Version) (c : Contents) → LoadsFirst text v c → Whole (FitAt (plain v)) (length (plain v).regions) c
    pub step : (sources : List (List ℕ)) (a b : OneState Version) (held : List (List ℕ)) (gone : List (List ℕ × ℕ)) (x : Play) (ans : Answer) → ListsAre a held gone → IsWholeState a → Timely x
        → version.One (meaning Accepts Refuses) sources a x ans b → IsStep sources a held gone x ans b
    pub run : (sources : List (List ℕ)) (text : List ℕ) (plays : List Play) (es : List Entry) (v : Version) (c : Contents) (b : OneState Version) → AreTimely plays → LoadsFirst text v c
        → version.Runs (meaning Accepts Refuses) sources plays (begins v c) es b → IsThread sources text plays es b
    -- the journal of a core behind a first load
    pub history : (text : List ℕ) (v : Past Version) → LoadsFirst text v.first v.contents → AreTimely v.script.plays → Legal (meaning Accepts Refuses) v
        → IsThread v.script.sources text v.script.plays (state_of (meaning Accepts Refuses) v).entries (one_of (state_of (meaning Accepts Refuses) v))
    -- where all plays have their entries, these interleave the phases
    pub interleaves : (text : List ℕ) (v : Past Version) → LoadsFirst text v.first v.contents → Legal (meaning Accepts Refuses) v → Follow 1 v.script.phases (length v.script.plays + 1)
        → ((p : ℕ) → 1 ≤ p → p ≤ length v.script.plays → stage_at (state_of (meaning Accepts Refuses) v).stages p ≡ done) → Interleaves v.script.plays v.script.phases (state_of (meaning Accepts Refuses) v).entries

  -- Of a core behind a first load whose plays all have their entries, and a run on one thread whose phases are disjoint, neither with a change that
  -- found no memory: each list has the same entries in both, and the run ends in what the core has.
  pub record SerialCores : Type 0 where
    pub serial : (text : List ℕ) (v : Past Version) (fs : List Entry) → LoadsFirst text v.first v.contents → AreTimely v.script.plays → Legal (meaning Accepts Refuses) v → Follow 1 v.script.phases (length v.script.plays + 1)
        → ((p : ℕ) → 1 ≤ p → p ≤ length v.script.plays → stage_at (state_of (meaning Accepts Refuses) v).stages p ≡ done) → (k : DisjointThread v.script.plays Accepts Refuses v.script.sources text v.script.phases fs)
        → NoneWanted (state_of (meaning Accepts Refuses) v).entries → NoneWanted fs
        → IsControllerOf (one_of (state_of (meaning Accepts Refuses) v)) k.end × ((l : Lane) → filter (entry_in v.script.plays l) (state_of (meaning Accepts Refuses) v).entries ≡ filter (entry_in v.script.plays l) fs)

-- ---- accepted programs

-- the version's lists are the footprints of its tasks and what these write
pub record HasFootprints (v : Version) : Type 0 where
  pub footprint : (t : ℕ) → t < length (plain v).tasks → IsFootprint (plain v) t (reads_of v t)
  pub rising : (t : ℕ) → t < length (plain v).tasks → Rising (reads_of v t)
  pub below : (t : ℕ) → t < length (plain v).tasks → (r : ℕ) → Has (reads_of v t) r → r < length (plain v).regions
  pub written : (t : ℕ) → t < length (plain v).tasks → IsWritten (plain v) t (writes_of v t)
  pub written_rising : (t : ℕ) → t < length (plain v).tasks → Rising (writes_of v t)

pub record AcceptedThreads : Type 0 where
  -- a version of an accepted program is right, and what its first load or a change to it gives is as versions are asked
  pub right : (text : List ℕ) (v : Version) → Accepts text (plain v) → HasFootprints v → IsRight v
  pub first : (text : List ℕ) (v : Version) (s : Store) (n : ℕ) → v.number ≡ 1 → Accepts text (plain v) → HasFootprints v → start (plain v) ≡ ran s n → LoadsFirst Accepts Refuses text v (images_of (plain v) s)
  pub next : (text : List ℕ) (v w : Version) (c : Contents) (s : Store) (n : ℕ) → w.number ≡ v.number + 1 → Accepts text (plain w) → HasFootprints w → change (plain v) (plain w) (store_of (plain v) c) ≡ ran s n
      → LoadsNext Accepts Refuses v text c w (images_of (plain w) s)
  -- disjoint equals serial, where a text has one program or one refusal
  pub serial_threads : Judges Accepts Refuses → SerialThreads Accepts Refuses
  pub serial_cores : Judges Accepts Refuses → SerialCores Accepts Refuses
