-- Signatures with numbers for what initial values are worth.
use Rattle.std.specs.Prelude.{ℕ, List}
use Rattle.st_rules.specs.declared.signature.Signatures.{Signatures}
use Rattle.st_unit_rules.specs.Worth.{Worth}
use Rattle.default_values.specs.declared.worth_numbers.node.Node.{Node}
use Rattle.default_values.specs.worth_numbers.Numbers.{HasWorth}
use Rattle.default_values.specs.numbered_signatures.Alike.{AreAllAlike}

-- numbers in the place of worths, and all else the same
abbrev pub Tells : List Node → Signatures ℕ → Signatures Worth → Type 0
Tells nodes numbered all = AreAllAlike (HasWorth nodes) numbered all
