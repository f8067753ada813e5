-- The history of a core as plain data, the state that it leads to, and which events may come next.
use Rattle.std.specs.Prelude.{◌≡◌, ℕ, zero, suc, ◌<◌, List, [], ◌∷◌, ◌++◌, length, Option, Some, None, Result, Ok, Err, Bool, true, false, slice_index_or, slice_get, slice_set, replicate, fold, ◌⊎◌, if◌then◌else◌, nat_lt}
use Rattle.plc_text.specs.declared.refusal.Refusal.{Refusal}
use Rattle.cycle_journal.specs.Interleaving.{Phase, Lane, lane_of, same_lane}
use Rattle.cycle_journal.specs.Play.{play_numbered}
use Rattle.cycle_journal.specs.declared.entry.Answer.{Answer}
use Rattle.cycle_journal.specs.declared.entry.Answer.TheVariants as answer
use Rattle.cycle_journal.specs.declared.entry.CycleReply.{CycleReply}
use Rattle.cycle_journal.specs.declared.entry.Entry.{Entry}
use Rattle.cycle_journal.specs.declared.play.Play.{Play}
use Rattle.cycle_journal.specs.declared.play.Play.TheVariants as play
use Rattle.plant_rules.specs.Meaning.{Contents, Meaning, Has, AgreeOn}
use Rattle.plant_rules.specs.One.{answer_of, held_after, held_without, since_by, OneState}

-- ---- histories

-- what happened: a claim with its task, version and the contents taken, a change with the contents taken and those that it left
pub data Happening (W : Type 0) : Type 0 where
  answered : Answer → Happening W
  begun : ℕ → W → Contents → Happening W
  finished : CycleReply → Happening W
  wanted : W → Happening W
  quieted : Contents → Happening W
  changed : W → Contents → Happening W
  resumed : Refusal → Happening W
  denied : Answer → Happening W
  reset : Answer → Happening W

pub record Step (W : Type 0) : Type 0 where
  pub who : ℕ
  pub play : ℕ
  pub what : Happening W

-- the plays, the texts of the sources, and the phases
pub record Script : Type 0 where
  pub plays : List Play
  pub sources : List (List ℕ)
  pub phases : List Phase

-- what contracts see of a core: the first version with its contents, the script and the history
pub record Past (W : Type 0) : Type 0 where
  pub first : W
  pub contents : Contents
  pub script : Script
  pub history : List (Step W)

-- ---- states

-- how far a play has come; open_by: the caller, the task and the contents taken
pub data Stage : Type 0 where
  idle : Stage
  open_by : ℕ → ℕ → Contents → Stage
  done : Stage

-- the change: the play and the caller, and the contents taken
pub data Turn : Type 0 where
  free : Turn
  wanted_by : ℕ → ℕ → Turn
  under_way : ℕ → ℕ → Contents → Turn

pub record State (W : Type 0) : Type 0 where
  pub version : W
  pub store : Contents
  pub held : List ℕ → Bool
  pub since : List ℕ → ℕ
  pub stages : List Stage
  pub turn : Turn
  pub entries : List Entry

abbrev pub one_of : {W : Type 0} → State W → OneState W
one_of s = record { version = s.version; store = s.store; held = s.held; since = s.since }

-- plays are numbered from 1
abbrev pub stage_at : List Stage → ℕ → Stage
stage_at gs zero = done
stage_at gs (suc p) = slice_index_or gs p done

abbrev pub with_stage : List Stage → ℕ → Stage → List Stage
with_stage gs zero g = gs
with_stage gs (suc p) g = slice_set gs p g

abbrev pub entry : ℕ → ℕ → Answer → Entry
entry v p a = record { version = v; play = p; answer = a }

abbrev pub now_of : Option Play → ℕ
now_of (Some (play.Cycle n now input)) = now
now_of _ = 0

abbrev pub input_of : Option Play → List ℕ
input_of (Some (play.Cycle n now input)) = input
input_of _ = []

abbrev pub task_of : Option Play → List ℕ
task_of (Some (play.Cycle n now input)) = n
task_of (Some (play.Reset n)) = n
task_of _ = []

abbrev pub is_cycle : Option Play → Bool
is_cycle (Some (play.Cycle n now input)) = true
is_cycle _ = false

abbrev pub is_change : Option Play → Bool
is_change (Some (play.Change n source)) = true
is_change _ = false

abbrev pub is_reset : Option Play → Bool
is_reset (Some (play.Reset n)) = true
is_reset _ = false

abbrev pub source_of : List (List ℕ) → Option Play → Option (List ℕ)
source_of sources (Some (play.Change n source)) = slice_get sources source
source_of sources _ = None

abbrev pub same_list : Option Play → Option Play → Bool
same_list (Some a) (Some b) = same_lane (lane_of a) (lane_of b)
same_list _ _ = false

-- the number of the phase that has the play
abbrev pub phase_of : List Phase → ℕ → ℕ
phase_of [] p = 0
phase_of (phase ∷ phases) p = if nat_lt p phase.1 then 0 else suc (phase_of phases p)

-- play q comes before play p
abbrev pub Before : Script → ℕ → ℕ → Type 0
Before script q p = (phase_of script.phases q < phase_of script.phases p)
    ⊎ ((phase_of script.phases q ≡ phase_of script.phases p) × (same_list (play_numbered script.plays q) (play_numbered script.plays p) ≡ true) × (q < p))

-- ---- steps

module _ {W : Type 0} (m : Meaning W) (script : Script) where
  abbrev pub at_play : ℕ → Option Play
  at_play p = play_numbered script.plays p

  abbrev pub cycle_left : State W → ℕ → ℕ → Contents
  cycle_left s p t = m.left_by s.version t (now_of (at_play p)) (input_of (at_play p)) s.store

  abbrev pub cycle_reply : State W → ℕ → ℕ → CycleReply
  cycle_reply s p t = m.reply_of s.version t (now_of (at_play p)) (input_of (at_play p)) s.store

  -- the play has its entry now
  abbrev pub noted : State W → ℕ → Answer → State W
  noted s p a = record s { stages = with_stage s.stages p done; entries = s.entries ++ entry (m.number s.version) p a ∷ [] }

  abbrev pub finish_of : Stage → State W → ℕ → CycleReply → State W
  finish_of (open_by w t c) s p r = record (noted s p (answer_of r)) { store = cycle_left s p t; held = held_after r (task_of (at_play p)) s.held }
  finish_of idle s p r = s
  finish_of done s p r = s

  abbrev pub loaded_by : State W → ℕ → W → Contents → State W
  loaded_by s p q d = record (noted s p (answer.Loaded (m.number q))) {
    version = q;
    store = d;
    held = λ n. false;
    since = λ n. since_by (m.named q n) (m.named s.version n) (m.number q) (s.since n);
    turn = free;
  }

  abbrev pub held_with : Answer → List ℕ → (List ℕ → Bool) → List ℕ → Bool
  held_with answer.Released n held x = held_without n held x
  held_with _ n held x = held x

  abbrev pub after : State W → ℕ → ℕ → Happening W → State W
  after s w p (answered a) = noted s p a
  after s w p (begun t v c) = record s { stages = with_stage s.stages p (open_by w t c) }
  after s w p (finished r) = finish_of (stage_at s.stages p) s p r
  after s w p (wanted v) = record s { turn = wanted_by p w }
  after s w p (quieted c) = record s { turn = under_way p w c }
  after s w p (changed q d) = loaded_by s p q d
  after s w p (resumed e) = record (noted s p (answer.Refused e)) { turn = free }
  after s w p (denied a) = record (noted s p a) { turn = free }
  after s w p (reset a) = record (noted s p a) { held = held_with a (task_of (at_play p)) s.held }

  abbrev pub then_step : State W → Step W → State W
  then_step s e = after s e.who e.play e.what

  -- play q comes before p, and has no entry
  pub record Waits (s : State W) (q p : ℕ) : Type 0 where
    pub before : Before script q p
    pub still : stage_at s.stages q ≡ done → ⊥

  -- the play has no entry and no open claim, and each play before it has its entry
  pub record IsNext (s : State W) (p : ℕ) : Type 0 where
    pub idle-is : stage_at s.stages p ≡ idle
    pub none-waits : (q : ℕ) → Waits s q p → ⊥

  -- a cycle of the task is open
  pub record IsOpen (s : State W) (t : ℕ) : Type 0 where
    pub play : ℕ
    pub who : ℕ
    pub contents : Contents
    pub is : stage_at s.stages play ≡ open_by who t contents

  -- an open claim has this region, to write it, or to write or to read it
  pub record Writing (s : State W) (r : ℕ) : Type 0 where
    pub task : ℕ
    pub by : IsOpen s task
    pub has : Has (m.writes s.version task) r

  pub record Claimed (s : State W) (r : ℕ) : Type 0 where
    pub task : ℕ
    pub by : IsOpen s task
    pub has : Has (m.reads s.version task) r

  -- the play is a cycle of this task of the loaded version
  pub record HasTask (s : State W) (p t : ℕ) : Type 0 where
    pub cycle : is_cycle (at_play p) ≡ true
    pub named : m.named s.version (task_of (at_play p)) ≡ Some t

  -- nothing is claimed that the task would write, and nothing that it would read is claimed for writing
  pub record Unclaimed (s : State W) (t : ℕ) : Type 0 where
    pub reads-free : (r : ℕ) → Has (m.reads s.version t) r → Writing s r → ⊥
    pub writes-free : (r : ℕ) → Has (m.writes s.version t) r → Claimed s r → ⊥

  -- a cycle of the task may begin for the play
  pub record MayBegin (s : State W) (p t : ℕ) : Type 0 where
    pub next : IsNext s p
    pub turn-free : s.turn ≡ free
    pub task : HasTask s p t
    pub not-held : s.held (task_of (at_play p)) ≡ false
    pub unclaimed : Unclaimed s t

  -- the loaded version has no such task, or it is held
  abbrev pub Unable : State W → ℕ → Answer → Type 0
  Unable s p a = ((m.named s.version (task_of (at_play p)) ≡ None) × (a ≡ answer.NoTask (s.since (task_of (at_play p)))))
      ⊎ ((t : ℕ) × (m.named s.version (task_of (at_play p)) ≡ Some t) × (s.held (task_of (at_play p)) ≡ true) × (a ≡ answer.Held))

  abbrev pub Resets : State W → ℕ → Answer → Type 0
  Resets s p a = ((m.named s.version (task_of (at_play p)) ≡ None) × (a ≡ answer.NoTask (s.since (task_of (at_play p)))))
      ⊎ ((t : ℕ) × (m.named s.version (task_of (at_play p)) ≡ Some t) × (a ≡ answer.Released))

  -- the text of the play's source is denied by the loaded version, or memory ran out
  abbrev pub Denies : State W → ℕ → Answer → Type 0
  Denies s p a = ((text : List ℕ) × (r : Refusal) × (source_of script.sources (at_play p) ≡ Some text) × m.denied s.version text r × (a ≡ answer.Refused r)) ⊎ (a ≡ answer.RefusedMemory)

  -- what the change of the play comes to on the store
  abbrev pub ComesTo : State W → ℕ → Result (W × Contents) Refusal → Type 0
  ComesTo s p result = (text : List ℕ) × (source_of script.sources (at_play p) ≡ Some text) × m.changed s.version text s.store result

  -- the event may come next
  abbrev pub Follows : State W → ℕ → ℕ → Happening W → Type 0
  Follows s w p (answered a) = IsNext s p × (s.turn ≡ free) × (is_cycle (at_play p) ≡ true) × Unable s p a
  Follows s w p (begun t v c) = MayBegin s p t × (v ≡ s.version) × AgreeOn (m.reads s.version t) c s.store
  Follows s w p (finished r) = (t : ℕ) × (c : Contents) × (stage_at s.stages p ≡ open_by w t c) × (r ≡ cycle_reply s p t)
  Follows s w p (wanted v) = IsNext s p × (s.turn ≡ free) × (is_change (at_play p) ≡ true) × (v ≡ s.version)
  Follows s w p (quieted c) = (s.turn ≡ wanted_by p w) × ((t : ℕ) → IsOpen s t → ⊥) × (c ≡ s.store)
  Follows s w p (changed q d) = (c : Contents) × (s.turn ≡ under_way p w c) × ComesTo s p (Ok (q, d))
  Follows s w p (resumed e) = (c : Contents) × (s.turn ≡ under_way p w c) × ComesTo s p (Err e)
  Follows s w p (denied a) = (s.turn ≡ wanted_by p w) × Denies s p a
  Follows s w p (reset a) = IsNext s p × (is_reset (at_play p) ≡ true) × Resets s p a

  abbrev pub LegalFrom : State W → List (Step W) → Type 0
  LegalFrom s [] = Unit {0}
  LegalFrom s (e ∷ es) = Follows s e.who e.play e.what × LegalFrom (then_step s e) es

abbrev pub opening : {W : Type 0} → Past W → State W
opening v = record {
  version = v.first;
  store = v.contents;
  held = λ n. false;
  since = λ n. 0;
  stages = replicate (length v.script.plays) idle;
  turn = free;
  entries = [];
}

-- the state that a history leads to, and that each of its events could come
abbrev pub state_of : {W : Type 0} → Meaning W → Past W → State W
state_of m v = fold (then_step m v.script) (opening v) v.history

abbrev pub Legal : {W : Type 0} → Meaning W → Past W → Type 0
Legal m v = LegalFrom m v.script (opening v) v.history

-- the entries so far, and the contents that One gives after them
abbrev pub journal_of : {W : Type 0} → Meaning W → Past W → List Entry
journal_of m v = (state_of m v).entries

abbrev pub contents_of : {W : Type 0} → Meaning W → Past W → Contents
contents_of m v = (state_of m v).store

abbrev pub script_of : List Play → List (List ℕ) → List Phase → Script
script_of plays sources phases = record { plays = plays; sources = sources; phases = phases }

abbrev pub past : {W : Type 0} → W → Contents → Script → List (Step W) → Past W
past first contents script history = record { first = first; contents = contents; script = script; history = history }

-- the same past with one more event
abbrev pub with_event : {W : Type 0} → Past W → ℕ → ℕ → Happening W → Past W
with_event v w p h = record v { history = v.history ++ record { who = w; play = p; what = h } ∷ [] }
