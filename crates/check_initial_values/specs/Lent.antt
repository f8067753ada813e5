-- Types that are lent.
use Rattle.std.specs.Prelude.{Option, option_map}
use Rattle.std.proofs.Common.{Bor}
use Rattle.st_types.specs.declared.st_type.StType.{StType}

abbrev pub lent : Option (Bor StType) → Option StType
lent o = option_map (λ b. b.now) o
