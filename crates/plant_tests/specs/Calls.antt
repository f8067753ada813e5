-- What holds of a table: a core with what its calls handed out.
use Rattle.std.specs.Prelude.{◌≡◌, ℕ, ◌+◌, ◌≤◌, List, length, Option, Some, None, slice_get, slice_index_or, true}
use Rattle.cycle_journal.specs.declared.play.Play.{Play}
use Rattle.cycle_journal.specs.Play.{play_numbered}
use Rattle.plant_rules.specs.Meaning.{Contents, Meaning, Whole}
use Rattle.plant_rules.specs.History.{Past, Script, State, state_of, wanted_by, under_way, at_play, source_of, is_cycle, is_change, is_reset}
use Rattle.plant_core.specs.declared.answers.Wish.{Wish}
use Rattle.plant_core.specs.Answers.{play_of}
use Rattle.plant_core.specs.Claim.{HasRun}
use Rattle.plant_tests.specs.declared.calls.Sort.{Sort}
use Rattle.plant_tests.specs.declared.calls.Sort.TheVariants as sort

-- the play is there and of the sort; a change loads the source of the place
abbrev pub SortAs : Sort → List Play → ℕ → Type 0
SortAs sort.Nothing plays p = Unit {0}
SortAs sort.Cycle plays p = (p ≤ length plays) × (is_cycle (play_numbered plays p) ≡ true)
SortAs (sort.Change n) plays p = (p ≤ length plays) × (is_change (play_numbered plays p) ≡ true) × ((sources : List (List ℕ)) → source_of sources (play_numbered plays p) ≡ slice_get sources n)
SortAs sort.Reset plays p = (p ≤ length plays) × (is_reset (play_numbered plays p) ≡ true)

-- a claim
pub record Taken (W : Type 0) : Type 0 where
  pub play : ℕ
  pub task : ℕ
  pub now : ℕ
  pub input : List ℕ
  pub of : W
  pub carrier : Contents

abbrev pub taken : {W : Type 0} → ℕ → ℕ → ℕ → List ℕ → W → Contents → Taken W
taken p t now input of carrier = record { play = p; task = t; now = now; input = input; of = of; carrier = carrier }

-- a change that was prepared
pub record Drafted (W : Type 0) : Type 0 where
  pub play : ℕ
  pub base : W
  pub text : List ℕ

abbrev pub drafted : {W : Type 0} → ℕ → W → List ℕ → Drafted W
drafted p base text = record { play = p; base = base; text = text }

-- a change under way
pub record Away (W : Type 0) : Type 0 where
  pub old : W
  pub base : W
  pub text : List ℕ
  pub regions : Contents

abbrev pub away : {W : Type 0} → W → W → List ℕ → Contents → Away W
away old base text regions = record { old = old; base = base; text = text; regions = regions }

module _ {W : Type 0} (m : Meaning W) where
  -- the claim of the play is open, and the core takes it back once it has run
  pub record IsHeld (script : Script) (s : State W) (p : ℕ) (c : Taken W) : Type 0 where
    pub play-is : c.play ≡ p
    pub run : HasRun m script s 0 p c.task c.now c.input c.of c.carrier (m.reply_of c.of c.task c.now c.input c.carrier) (m.left_by c.of c.task c.now c.input c.carrier)

  -- it is for the text of its play's source, and was prepared from the loaded version or an earlier one
  pub record IsDrafted (script : Script) (s : State W) (d : Drafted W) : Type 0 where
    pub text-is : source_of script.sources (at_play m script d.play) ≡ Some d.text
    pub low : m.number d.base ≤ m.number s.version
    pub same : m.number d.base ≡ m.number s.version → d.base ≡ s.version

  -- it has all regions of the loaded version, and is for the text of its play's source
  pub record IsAway (script : Script) (s : State W) (q : Away W) : Type 0 where
    pub under : s.turn ≡ under_way (play_of s.turn) 0 q.regions
    pub old-is : q.old ≡ s.version
    pub base-is : q.base ≡ q.old
    pub text-is : source_of script.sources (at_play m script (play_of s.turn)) ≡ Some q.text
    pub whole : Whole (m.fit q.old) (m.region_total q.old) q.regions

  -- each claim is open by its play's number, the wish is for the change that is wanted, and what was handed out for a change is what the core expects
  pub record IsTable {C D Q : Type 0} (v : Past W) (plays : List Play) (sources : List (List ℕ)) (claims : List (Option C)) (claim_of : C → Taken W) (ready : C → Type 0) (wish : Option Wish)
      (draft : Option D) (draft_of : D → Drafted W) (fresh : D → Type 0) (quiet : Option Q) (away_of : Q → Away W) (unused : Q → Type 0) : Type 0 where
    pub right : m.right v.first
    pub plays-are : plays ≡ v.script.plays
    pub sources-are : sources ≡ v.script.sources
    pub total : length claims ≡ length plays + 1
    pub claims-are : (p : ℕ) (c : C) → slice_index_or claims p None ≡ Some c → IsHeld v.script (state_of m v) p (claim_of c) × ready c
    pub wish-is : (w : Wish) → wish ≡ Some w → (state_of m v).turn ≡ wanted_by w.play 0
    pub draft-is : (d : D) → draft ≡ Some d → IsDrafted v.script (state_of m v) (draft_of d) × fresh d
    pub quiet-is : (q : Q) → quiet ≡ Some q → IsAway v.script (state_of m v) (away_of q) × unused q
