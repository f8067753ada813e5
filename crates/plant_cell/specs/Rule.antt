-- The rule of the table, and what each step tells.
use Rattle.std.specs.Prelude.{◌≡◌, ℕ, ◌<◌, ◌≤◌, List, [], ◌∷◌, length, true, false, ◌==◌, Option, Some, None, MatchBool}
use mathlib.Core.Option.{some, none}
use lib.ListN.{get_elem?}
use Rattle.atomic_table.specs.Table.{State as Table, Me, Step as Move}
use Rattle.plant_rules.specs.Meaning.{Has, Once}
use Rattle.plant_rules.specs.History.{Past, Step}
use Rattle.plant_cell.specs.Known.{Known, Since, AllBelow, past_at, past_in, in_turn, counted, out_of_turn, looked, drawn}

module _ {W : Type 0} where
  -- what a pass knows is true of the history
  pub record Fits (start : Past W) (limit : ℕ) (log : List (Step W)) (made turn holder id : ℕ) (v : Known W) : Type 0 where
    pub start-is : (st : Past W) → v.start ≡ Some st → (st ≡ start) × (v.limit ≡ limit)
    pub numbers-made : (n : ℕ) → Has v.numbers n → n < made
    pub once : Once v.numbers
    pub since : Since v.numbers v.seen log
    pub least-is : v.least ≤ made
    pub in-turn : v.holds ≡ true → (id ≡ holder) × (v.found ≡ log)

  -- each number belongs to one pass
  abbrev pub Apart : List (Known W) → Type 0
  Apart views = (i j n : ℕ) (v w : Known W) → get_elem? views i ≡ some v → get_elem? views j ≡ some w → Has v.numbers n → Has w.numbers n → i ≡ j

  -- There is one history. The words are the turn, its length, and how many numbers are made. While nobody has the turn, the core is at home with
  -- this history; else the holder of the turn has the slot, and no other pass holds the turn. What the passes know is true, and each event carries a
  -- number that was made
  pub record Kept (start : Past W) (limit : ℕ) (s : Table (Option (Past W)) (Known W)) : Type 0 where
    pub log : List (Step W)
    pub turn : ℕ
    pub made : ℕ
    pub holder : ℕ
    pub words : s.words ≡ turn ∷ length log ∷ made ∷ []
    pub home : turn ≡ 0 → s.homes ≡ some (Some (past_at start log)) ∷ []
    pub away : (turn ≡ 0 → ⊥) → s.homes ≡ none ∷ []
    pub idle : turn ≡ 0 → (id : ℕ) (v : Known W) → get_elem? s.views id ≡ some v → v.holds ≡ false
    pub fits : (id : ℕ) (v : Known W) → get_elem? s.views id ≡ some v → Fits start limit log made turn holder id v
    pub apart : Apart s.views
    pub authors : AllBelow made log
    pub few : made ≤ limit

  -- the pass has the turn, and the slot with the core and its history
  pub record Took (v : Me (Option (Past W)) (Known W)) (w : Me (Option (Past W)) (Known W)) : Type 0 where
    pub log : List (Step W)
    pub since : Since v.0.numbers v.0.seen log
    pub now : w ≡ (in_turn v.0 log, (0, past_in v.0.start log) ∷ [])

  abbrev pub Takes : Move (Option (Past W)) → Me (Option (Past W)) (Known W) → ℕ → Me (Option (Past W)) (Known W) → Type 0
  Takes s v found w = MatchBool (found == 0) (Took v w) (w ≡ v)

  -- the history of the core in the slot
  abbrev pub log_in : List (ℕ × Option (Past W)) → List (Step W)
  log_in ((k, Some p) ∷ xs) = p.history
  log_in ((k, None) ∷ xs) = []
  log_in [] = []

  abbrev pub Counts : Move (Option (Past W)) → Me (Option (Past W)) (Known W) → ℕ → Me (Option (Past W)) (Known W) → Type 0
  Counts s v found w = w ≡ (counted v.0 (log_in v.1), v.1)

  abbrev pub Releases : Move (Option (Past W)) → Me (Option (Past W)) (Known W) → ℕ → Me (Option (Past W)) (Known W) → Type 0
  Releases s v found w = w ≡ (out_of_turn v.0, [])

  -- so many numbers are made: the pass's are among them, each once
  pub record Looked (v : Me (Option (Past W)) (Known W)) (found : ℕ) (w : Me (Option (Past W)) (Known W)) : Type 0 where
    pub now : w ≡ (looked v.0 found, v.1)
    pub least-is : v.0.least ≤ found
    pub few : (st : Past W) → v.0.start ≡ Some st → found ≤ v.0.limit
    pub once : Once v.0.numbers
    pub below : (n : ℕ) → Has v.0.numbers n → n < found

  abbrev pub Looks : Move (Option (Past W)) → Me (Option (Past W)) (Known W) → ℕ → Me (Option (Past W)) (Known W) → Type 0
  Looks s v found w = Looked v found w

  -- the number was made for this pass, or the count is another
  abbrev pub Draws : Move (Option (Past W)) → Me (Option (Past W)) (Known W) → ℕ → Me (Option (Past W)) (Known W) → Type 0
  Draws s v found w = MatchBool (found == s.first) (w ≡ (drawn v.0 found, v.1)) (Looked v found w)
