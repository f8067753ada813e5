-- All that can be told of a unit, in groups, in any order.
use Rattle.std.specs.Prelude.{◌≡◌, ℕ, List, Some, slice_get}
use Rattle.st_tree.specs.declared.unit.Decl.{Decl}
use Rattle.resolution_order.specs.telling_list.Jobs.{Job, jobs_in}
use Rattle.resolution_order.specs.telling_groups.Groups.{Group, jobs_of_group}

-- it is one of the items
pub record Among {X : Type 0} (x : X) (xs : List X) : Type 0 where
  pub place : ℕ
  pub at : slice_get xs place ≡ Some x

pub record Arranges (decls : List (Decl ℕ)) (gs : List Group) : Type 0 where
  -- what can be told by a group can be told of the unit
  pub within : (g : Group) (j : Job) → Among g gs → Among j (jobs_of_group g) → Among j (jobs_in decls)
  -- what can be told of the unit can be told by one of the groups
  pub all : (j : Job) → Among j (jobs_in decls) → (g : Group) × Among g gs × Among j (jobs_of_group g)
