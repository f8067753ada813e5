-- What follows for every legal history.
use Rattle.std.specs.Prelude.{◌≡◌, ℕ, zero, suc, ◌<◌, ◌≤◌, ◌+◌, List, [], ◌∷◌, ◌++◌, length, map, Some}
use Rattle.cycle_journal.specs.Interleaving.{numbers_of, Follow, Interleaves}
use Rattle.cycle_journal.specs.declared.entry.CycleReply.{CycleReply}
use Rattle.cycle_journal.specs.declared.entry.Entry.{Entry}
use Rattle.cycle_journal.specs.declared.play.Play.{Play}
use Rattle.cycle_journal.specs.declared.play.Play.TheVariants as play
use Rattle.plant_rules.specs.Meaning.{Contents, Meaning, Has}
use Rattle.plant_rules.specs.One.{Runs, begins}
use Rattle.plant_rules.specs.History.{Script, Past, Step, Happening, finished, changed, Before, stage_at, open_by, done, Turn, free, wanted_by, under_way, state_of, one_of, Legal}

-- each play once, and each behind those before it
abbrev pub InTurn : Script → List ℕ → List ℕ → Type 0
InTurn script earlier [] = Unit {0}
InTurn script earlier (p ∷ ps) =
    (Has earlier p → ⊥) × ((q : ℕ) → 1 ≤ q → q ≤ length script.plays → Before script q p → Has earlier q) × (1 ≤ p) × (p ≤ length script.plays) × InTurn script (p ∷ earlier) ps

-- the same history, with these events behind
abbrev pub longer : {W : Type 0} → Past W → List (Step W) → Past W
longer v es = record v { history = v.history ++ es }

-- the change is this caller's, for this play
abbrev pub IsTurnOf : ℕ → ℕ → Turn → Type 0
IsTurnOf w p free = ⊥
IsTurnOf w p (wanted_by q x) = (q ≡ p) × (x ≡ w)
IsTurnOf w p (under_way q x c) = (q ≡ p) × (x ≡ w)

-- the caller does not finish the play
abbrev pub NoFinish : {W : Type 0} → ℕ → ℕ → List (Step W) → Type 0
NoFinish w p [] = Unit {0}
NoFinish w p (e ∷ es) = ((r : CycleReply) → e.who ≡ w → e.play ≡ p → e.what ≡ finished r → ⊥) × NoFinish w p es

-- the caller makes no event of the play
abbrev pub NoEvent : {W : Type 0} → ℕ → ℕ → List (Step W) → Type 0
NoEvent w p [] = Unit {0}
NoEvent w p (e ∷ es) = (e.who ≡ w → e.play ≡ p → ⊥) × NoEvent w p es

-- how many changes were carried out
abbrev pub loads_in : {W : Type 0} → Happening W → ℕ
loads_in (changed q d) = 1
loads_in _ = 0

abbrev pub changes_done : {W : Type 0} → List (Step W) → ℕ
changes_done [] = 0
changes_done (e ∷ es) = loads_in e.what + changes_done es

-- how many of the plays are changes
abbrev pub one_change : Play → ℕ
one_change (play.Change n source) = 1
one_change _ = 0

abbrev pub changes_of : List Play → ℕ
changes_of [] = 0
changes_of (x ∷ xs) = one_change x + changes_of xs

-- The journal is a run of One, and its entries keep the order of the phases and of their lists. What is open or wanted stays so until its own
-- caller goes on with it, and no change comes in between.
pub record HistoryLaws {W : Type 0} (m : Meaning W) : Type 0 where
  pub runs : (v : Past W) → m.right v.first → Legal m v → Runs m v.script.sources v.script.plays (begins v.first v.contents) (state_of m v).entries (one_of (state_of m v))
  pub order : (v : Past W) → m.right v.first → Legal m v → InTurn v.script [] (numbers_of (state_of m v).entries)
  -- a play is done exactly where it has its entry
  pub marks : (v : Past W) → m.right v.first → Legal m v → (p : ℕ) → 1 ≤ p → p ≤ length v.script.plays → stage_at (state_of m v).stages p ≡ done → Has (numbers_of (state_of m v).entries) p
  pub entered : (v : Past W) → m.right v.first → Legal m v → (p : ℕ) → Has (numbers_of (state_of m v).entries) p → stage_at (state_of m v).stages p ≡ done
  -- where each play has its entry, the entries are those of the phases, one phase after another
  pub interleaves : (v : Past W) → m.right v.first → Legal m v → Follow 1 v.script.phases (length v.script.plays + 1) → ((p : ℕ) → 1 ≤ p → p ≤ length v.script.plays → stage_at (state_of m v).stages p ≡ done)
      → Interleaves v.script.plays v.script.phases (state_of m v).entries
  -- the beginning of a legal history is one
  pub earlier : (v : Past W) (es : List (Step W)) → Legal m (longer v es) → Legal m v
  pub stays-done : (v : Past W) (es : List (Step W)) (p : ℕ) → Legal m (longer v es) → stage_at (state_of m v).stages p ≡ done → stage_at (state_of m (longer v es)).stages p ≡ done
  pub stays-open : (v : Past W) (es : List (Step W)) (w p t : ℕ) (c : Contents) → m.right v.first → Legal m (longer v es) → stage_at (state_of m v).stages p ≡ open_by w t c → NoFinish w p es
      → (stage_at (state_of m (longer v es)).stages p ≡ open_by w t c) × ((state_of m (longer v es)).version ≡ (state_of m v).version)
  pub stays-wanted : (v : Past W) (es : List (Step W)) (w p : ℕ) → Legal m (longer v es) → IsTurnOf w p (state_of m v).turn → NoEvent w p es
      → ((state_of m (longer v es)).turn ≡ (state_of m v).turn) × ((state_of m (longer v es)).version ≡ (state_of m v).version)
  -- what an open claim writes no other one has, and a change under way meets none
  pub apart : (v : Past W) → m.right v.first → Legal m v → (p w t : ℕ) (c : Contents) (q x u : ℕ) (d : Contents) → stage_at (state_of m v).stages p ≡ open_by w t c → stage_at (state_of m v).stages q ≡ open_by x u d
      → (q ≡ p → ⊥) → (r : ℕ) → Has (m.writes (state_of m v).version t) r → Has (m.reads (state_of m v).version u) r → ⊥
  pub alone : (v : Past W) → m.right v.first → Legal m v → (p w : ℕ) (c : Contents) → (state_of m v).turn ≡ under_way p w c → (q x u : ℕ) (d : Contents) → stage_at (state_of m v).stages q ≡ open_by x u d → ⊥
  -- the version's number counts the changes, of which each is a play; while one is wanted or under way there is room for its own
  pub numbered : (v : Past W) → m.right v.first → Legal m v → m.number (state_of m v).version ≡ m.number v.first + changes_done v.history
  pub few : (v : Past W) → m.right v.first → Legal m v → m.number (state_of m v).version ≤ m.number v.first + changes_of v.script.plays
  pub one-more : (v : Past W) (w p : ℕ) → m.right v.first → Legal m v → IsTurnOf w p (state_of m v).turn → m.number (state_of m v).version + 1 ≤ m.number v.first + changes_of v.script.plays
