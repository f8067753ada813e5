-- A list that grows by items that tell others, while a table of worths grows.
use Rattle.std.specs.Prelude.{List, ◌++◌}
use Rattle.default_values.specs.declared.worth_numbers.node.Node.{Node}
use Rattle.default_values.specs.worth_numbers.Numbers.{Grows}
use Rattle.default_values.specs.numbered_signatures.Alike.{AreAlike}

-- what was told in the old table is told in the new one, with more behind it, where so much is known of the old one
pub record Adds {X Y : Type 0} (tells : List Node → X → Y → Type 0) (Known : List Node → Type 0) (old new : List Node) (xs ys : List X) (more : List Y) : Type 0 where
  pub grows : Grows old new
  pub told : Known old → (ws : List Y) → AreAlike (tells old) xs ws → AreAlike (tells new) ys (ws ++ more)
