-- The text that stands in the code is that of the standard blocks.
use Rattle.std.proofs.Common.{◌≡◌, refl}
use Rattle.st_prelude.specs.declared.text.TheConstants.{PRELUDE}
use Rattle.st_prelude.specs.Blocks.{standard_blocks}

pub is_spelled : PRELUDE.now ≡ standard_blocks
unfolding standard_blocks
is_spelled = refl
