-- What a pass knows, and what each step makes of it.
use Rattle.std.specs.Prelude.{◌≡◌, ℕ, ◌+◌, ◌<◌, List, [], ◌∷◌, ◌++◌, length, filter, Bool, true, false, ◌==◌, ◌||◌, Option, Some, None, if◌then◌else◌, nat_lt}
use Rattle.plant_rules.specs.Meaning.{Has}
use Rattle.plant_rules.specs.History.{Past, Step}

-- the past that the plant began with, and how many numbers it may make. The numbers of the pass, what it has seen of the history,
-- and so many numbers were made at least. Whether it has the turn, and the history then. A spent pass has no start and no numbers
pub record Known (W : Type 0) : Type 0 where
  pub start : Option (Past W)
  pub limit : ℕ
  pub numbers : List ℕ
  pub seen : List (Step W)
  pub least : ℕ
  pub holds : Bool
  pub found : List (Step W)

abbrev pub is_among : List ℕ → ℕ → Bool
is_among [] n = false
is_among (x ∷ xs) n = (n == x) || is_among xs n

-- all but the last number, and the last
abbrev pub others_of : List ℕ → List ℕ
others_of [] = []
others_of (n ∷ []) = []
others_of (n ∷ m ∷ ns) = n ∷ others_of (m ∷ ns)

abbrev pub last_of : List ℕ → List ℕ
last_of [] = []
last_of (n ∷ []) = n ∷ []
last_of (n ∷ m ∷ ns) = last_of (m ∷ ns)

module _ {W : Type 0} where
  -- none of the events carries one of the numbers
  abbrev pub NoneOf : List ℕ → List (Step W) → Type 0
  NoneOf ns [] = Unit {0}
  NoneOf ns (e ∷ es) = (Has ns e.who → ⊥) × NoneOf ns es

  -- each event carries a number below n
  abbrev pub AllBelow : ℕ → List (Step W) → Type 0
  AllBelow n [] = Unit {0}
  AllBelow n (e ∷ es) = (e.who < n) × AllBelow n es

  -- each event carries the number
  abbrev pub AllBy : ℕ → List (Step W) → Type 0
  AllBy n [] = Unit {0}
  AllBy n (e ∷ es) = (e.who ≡ n) × AllBy n es

  -- the history goes on behind what was seen, with no event of these numbers
  pub record Since (ns : List ℕ) (seen log : List (Step W)) : Type 0 where
    pub more : List (Step W)
    pub is : log ≡ seen ++ more
    pub others : NoneOf ns more

  -- the events of these numbers
  abbrev pub by_numbers : List ℕ → List (Step W) → List (Step W)
  by_numbers ns log = filter (λ e. is_among ns e.who) log

  -- the pass's own events
  abbrev pub mine_of : Known W → List (Step W)
  mine_of v = by_numbers v.numbers v.seen

  -- the same core with this history
  abbrev pub past_at : Past W → List (Step W) → Past W
  past_at start log = record start { history = log }

  abbrev pub past_in : Option (Past W) → List (Step W) → Option (Past W)
  past_in (Some start) log = Some (past_at start log)
  past_in None log = None

  abbrev pub longer_of : List (Step W) → List (Step W) → List (Step W)
  longer_of a b = if nat_lt (length a) (length b) then b else a

  -- ---- the views

  abbrev pub newcomer : Past W → ℕ → Known W
  newcomer start limit = record { start = Some start; limit = limit; numbers = 0 ∷ []; seen = []; least = 1; holds = false; found = [] }

  abbrev pub in_turn : Known W → List (Step W) → Known W
  in_turn v log = record v { holds = true; found = log }

  abbrev pub counted : Known W → List (Step W) → Known W
  counted v log = record v { seen = log; holds = true; found = log }

  abbrev pub out_of_turn : Known W → Known W
  out_of_turn v = record v { holds = false; found = [] }

  -- so many numbers are made
  abbrev pub looked : Known W → ℕ → Known W
  looked v n = record v { least = n }

  -- the number n was made
  abbrev pub drawn : Known W → ℕ → Known W
  drawn v n = record v { numbers = v.numbers ++ n ∷ []; least = n + 1 }

  -- a pass hands on its last number
  abbrev pub left_with : Known W → Known W
  left_with v = record v { numbers = others_of v.numbers }

  abbrev pub handed_on : Known W → Known W
  handed_on v = record v { numbers = last_of v.numbers; holds = false; found = [] }

  -- two passes as one, and what is left of the second
  abbrev pub joined : Known W → Known W → Known W
  joined v w = record v { numbers = v.numbers ++ w.numbers; seen = longer_of v.seen w.seen }

  abbrev pub spent_pass : Known W
  spent_pass = record { start = None; limit = 0; numbers = []; seen = []; least = 0; holds = false; found = [] }

-- the number that the pass's events carry
abbrev pub first_of : List ℕ → ℕ
first_of [] = 0
first_of (n ∷ ns) = n
