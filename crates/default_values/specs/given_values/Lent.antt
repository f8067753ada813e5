-- Values that are lent.
use Rattle.std.specs.Prelude.{ℕ, Option, option_map}
use Rattle.std.proofs.Common.{Bor}
use Rattle.st_tree.specs.declared.initial.Init.{Init}
use Rattle.st_tree.specs.Initial.{Initial, initial_of}

abbrev pub lent : Option (Bor (Init ℕ)) → Option (Initial ℕ)
lent o = option_map (λ b. initial_of b.now) o
