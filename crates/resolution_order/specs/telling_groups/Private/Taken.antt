-- Groups that are taken one after the other, each once.
use Rattle.std.specs.Prelude.{◌≡◌, ℕ, ◌<◌, Bool, true, List, Some, slice_get}
use Rattle.resolution_order.specs.telling_groups.Groups.{Group}
use Rattle.resolution_order.specs.telling_groups.Arranged.{Among}

-- what is taken is of the groups, and what is marked is taken
pub record Taken (groups list : List Group) (marks : List Bool) : Type 0 where
  pub within : (g : Group) → Among g list → Among g groups
  pub marked : (p : ℕ) (g : Group) → slice_get marks p ≡ Some true → slice_get groups p ≡ Some g → Among g list

-- what was taken before is still there, and what stands at the place is there
pub record Takes (groups old new : List Group) (place : ℕ) : Type 0 where
  pub stays : (g : Group) → Among g old → Among g new
  pub there : (g : Group) → slice_get groups place ≡ Some g → Among g new

-- each of the first groups is taken
pub record TakenTo (groups list : List Group) (marks : List Bool) (n : ℕ) : Type 0 where
  pub taken : Taken groups list marks
  pub first : (p : ℕ) (g : Group) → p < n → slice_get groups p ≡ Some g → Among g list

-- the same groups
pub record SameGroups (groups list : List Group) : Type 0 where
  pub within : (g : Group) → Among g list → Among g groups
  pub all : (g : Group) → Among g groups → Among g list
