-- One play in the terms of versions: what it is answered, and the state behind it.
use Rattle.std.specs.Prelude.{◌≡◌, ℕ, Bool, true, false, not, ◌&&◌, ◌||◌, List, [], ◌∷◌, Option, Some, None, Ok, Err, slice_get}
use Rattle.plc_text.specs.Words.{same}
use Rattle.plc_text.specs.declared.refusal.Refusal.{Refusal}
use Rattle.cycle_journal.specs.Play.{play_numbered}
use Rattle.cycle_journal.specs.declared.entry.Answer.{Answer}
use Rattle.cycle_journal.specs.declared.entry.Answer.TheVariants as answer
use Rattle.cycle_journal.specs.declared.entry.CycleReply.{CycleReply}
use Rattle.cycle_journal.specs.declared.entry.CycleReply.TheVariants as reply
use Rattle.cycle_journal.specs.declared.entry.Entry.{Entry}
use Rattle.cycle_journal.specs.declared.play.Play.{Play}
use Rattle.cycle_journal.specs.declared.play.Play.TheVariants as play
use Rattle.plant_rules.specs.Meaning.{Contents, Meaning}

-- the version that is loaded, its contents, the tasks that are held, and the version whose loading removed a task last
pub record OneState (W : Type 0) : Type 0 where
  pub version : W
  pub store : Contents
  pub held : List ℕ → Bool
  pub since : List ℕ → ℕ

abbrev pub answer_of : CycleReply → Answer
answer_of (reply.Done ticks outputs) = answer.Done ticks outputs
answer_of (reply.Fault fault) = answer.Fault fault

-- after a fault the task is held
abbrev pub held_after : CycleReply → List ℕ → (List ℕ → Bool) → List ℕ → Bool
held_after (reply.Done ticks outputs) n held x = held x
held_after (reply.Fault fault) n held x = same n x || held x

abbrev pub held_without : List ℕ → (List ℕ → Bool) → List ℕ → Bool
held_without n held x = not (same n x) && held x

abbrev pub since_by : Option ℕ → Option ℕ → ℕ → ℕ → ℕ
since_by (Some t) was v k = 0
since_by None (Some t) v k = v
since_by None None v k = k

module _ {W : Type 0} (m : Meaning W) where
  abbrev pub has_run : OneState W → List ℕ → ℕ → ℕ → List ℕ → OneState W
  has_run a name t now input = record a { store = m.left_by a.version t now input a.store; held = held_after (m.reply_of a.version t now input a.store) name a.held }

  abbrev pub loads : OneState W → W → Contents → OneState W
  loads a q d = record { version = q; store = d; held = λ n. false; since = λ n. since_by (m.named q n) (m.named a.version n) (m.number q) (a.since n) }

  module _ (sources : List (List ℕ)) where
    pub data One (a : OneState W) : Play → Answer → OneState W → Type 0 where
      cycle_without_task : {name : List ℕ} {now : ℕ} {input : List ℕ} → m.named a.version name ≡ None → One a (play.Cycle name now input) (answer.NoTask (a.since name)) a
      cycle_held : {name : List ℕ} {now : ℕ} {input : List ℕ} (t : ℕ) → m.named a.version name ≡ Some t → a.held name ≡ true → One a (play.Cycle name now input) answer.Held a
      cycle_run : {name : List ℕ} {now : ℕ} {input : List ℕ} (t : ℕ) → m.named a.version name ≡ Some t → a.held name ≡ false
          → One a (play.Cycle name now input) (answer_of (m.reply_of a.version t now input a.store)) (has_run a name t now input)
      reset_without_task : {name : List ℕ} → m.named a.version name ≡ None → One a (play.Reset name) (answer.NoTask (a.since name)) a
      reset_done : {name : List ℕ} (t : ℕ) → m.named a.version name ≡ Some t → One a (play.Reset name) answer.Released (record a { held = held_without name a.held })
      change_loaded : {name : List ℕ} {source : ℕ} (text : List ℕ) (q : W) (d : Contents) → slice_get sources source ≡ Some text → m.changed a.version text a.store (Ok (q, d))
          → One a (play.Change name source) (answer.Loaded (m.number q)) (loads a q d)
      change_refused : {name : List ℕ} {source : ℕ} (text : List ℕ) (r : Refusal) → slice_get sources source ≡ Some text → m.changed a.version text a.store (Err r)
          → One a (play.Change name source) (answer.Refused r) a
      change_without_memory : {name : List ℕ} {source : ℕ} → One a (play.Change name source) answer.RefusedMemory a

    -- the entries, each with the version before its step
    abbrev pub Runs : List Play → OneState W → List Entry → OneState W → Type 0
    Runs plays a [] b = a ≡ b
    Runs plays a (e ∷ es) b = (x : Play) × (next : OneState W) × (play_numbered plays e.play ≡ Some x) × (e.version ≡ m.number a.version) × One a x e.answer next × Runs plays next es b

abbrev pub begins : {W : Type 0} → W → Contents → OneState W
begins first contents = record { version = first; store = contents; held = λ n. false; since = λ n. 0 }
