-- Worths by their numbers in a table: a number tells one worth, and a worth has one number.
use Rattle.std.specs.Prelude.{◌≡◌, ℕ, zero, suc, List, [], ◌∷◌, ◌++◌, replicate, Option, Some, slice_get}
use Rattle.st_unit_rules.specs.Worth.{Worth, a_number, nothing_held, some_parts, Worths, no_worths, worth_then}
use Rattle.default_values.specs.declared.worth_numbers.node.Node.{Node}
use Rattle.default_values.specs.declared.worth_numbers.node.Node.TheVariants.{Number, Held, Parts, End, Run}
use Rattle.default_values.specs.declared.worth_numbers.numbers.Listed.{Listed}

-- the node with this number
abbrev pub IsAt : List Node → ℕ → Node → Type 0
IsAt nodes k n = slice_get nodes k ≡ Some n

-- what has a number keeps it
pub record Grows (old new : List Node) : Type 0 where
  pub stays : (k : ℕ) (n : Node) → IsAt old k n → IsAt new k n

-- ---- lists of parts, by the numbers of these

-- the list does not begin with this number
abbrev pub IsApart : ℕ → List ℕ → Type 0
IsApart x [] = Unit {0}
IsApart x (y ∷ ys) = x ≡ y → ⊥

-- equal parts that follow each other are one run
pub data IsListOf (nodes : List Node) : ℕ → List ℕ → Type 0 where
  ended : (k : ℕ) → IsAt nodes k End → IsListOf nodes k []
  run : (k c x rest : ℕ) (xs ys : List ℕ) → IsAt nodes k (Run (suc c) x rest) → IsListOf nodes rest xs → IsApart x xs → ys ≡ replicate (suc c) x ++ xs → IsListOf nodes k ys

-- ---- worths

pub record IsWhole (nodes : List Node) (k : ℕ) (Are : List ℕ → Type 0) : Type 0 where
  pub list : ℕ
  pub parts : List ℕ
  pub at : IsAt nodes k (Parts list)
  pub lists : IsListOf nodes list parts
  pub each : Are parts

abbrev mutual
  -- the worth with this number
  pub HasWorth : List Node → ℕ → Worth → Type 0
  HasWorth nodes k (a_number z) = IsAt nodes k (Number z)
  HasWorth nodes k nothing_held = IsAt nodes k Held
  HasWorth nodes k (some_parts ws) = IsWhole nodes k (λ xs. AreWorths nodes xs ws)

  pub AreWorths : List Node → List ℕ → Worths → Type 0
  AreWorths nodes [] no_worths = Unit {0}
  AreWorths nodes (x ∷ xs) (worth_then w ws) = HasWorth nodes x w × AreWorths nodes xs ws
  AreWorths nodes _ _ = ⊥

-- ---- a list that is put together from its end

-- so many times the same, before what does not begin with it
abbrev pub IsRun : ℕ → ℕ → List ℕ → Type 0
IsRun zero x xs = xs ≡ []
IsRun (suc c) x xs = IsApart x xs

pub record IsListed (nodes : List Node) (l : Listed) (parts : List ℕ) : Type 0 where
  pub behind : List ℕ
  pub lists : IsListOf nodes l.rest behind
  pub run : IsRun l.count l.first behind
  pub is : parts ≡ replicate l.count l.first ++ behind

-- the worths of a list
pub record HasParts (nodes : List Node) (l : Listed) (ws : Worths) : Type 0 where
  pub parts : List ℕ
  pub listed : IsListed nodes l parts
  pub each : AreWorths nodes parts ws

-- so many equal worths before others
abbrev pub worths_before : ℕ → Worth → Worths → Worths
worths_before zero w ws = ws
worths_before (suc n) w ws = worth_then w (worths_before n w ws)

-- ---- what calls do

pub record Gives (old new : List Node) (k : ℕ) (w : Worth) : Type 0 where
  pub grows : Grows old new
  pub worth : HasWorth new k w

pub record GivesEmpty (old new : List Node) (l : Listed) : Type 0 where
  pub grows : Grows old new
  pub worths : HasParts new l no_worths

pub record GivesLonger (old new : List Node) (count first : ℕ) (behind l : Listed) : Type 0 where
  pub grows : Grows old new
  pub worths : (w : Worth) (ws : Worths) → HasWorth old first w → HasParts old behind ws → HasParts new l (worths_before count w ws)

pub record GivesWhole (old new : List Node) (l : Listed) (k : ℕ) : Type 0 where
  pub grows : Grows old new
  pub worth : (ws : Worths) → HasParts old l ws → HasWorth new k (some_parts ws)
