use Rattle.std.proofs.Common.{List, ℕ, subst}
use Rattle.std.specs.Prelude.{IfOk}
use Rattle.st_prelude.specs.Prelude.{IsPrelude}
use Rattle.st_prelude.proofs.BlockLaws.{is_spelled}
use Rattle.st_prelude.proofs.prelude.prelude.Goals as goal

pub returns : goal.returns
returns c = subst (λ (t : List ℕ). IfOk c.prelude_of.result (λ unit. IsPrelude t unit)) is_spelled c.prelude_of.ensures
