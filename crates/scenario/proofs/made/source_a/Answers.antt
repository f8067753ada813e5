use Rattle.std.proofs.Common.{◌≡◌, List, ℕ, subst}
use Rattle.std.specs.Prelude.{IfOk}
use Rattle.scenario.proofs.MadeLaws.{source_a-pieces}
use Rattle.scenario.proofs.made.source_a.Goals as goal

pub returns : goal.returns
returns c = subst (λ (wanted : List ℕ). IfOk c.source.result (λ text. text ≡ wanted)) source_a-pieces c.source.ensures
