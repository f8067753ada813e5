use Rattle.std.proofs.Common.{◌≡◌, List, ℕ, subst}
use Rattle.std.specs.Prelude.{IfOk}
use Rattle.scenario.proofs.MadeLaws.{source_b-pieces}
use Rattle.scenario.proofs.made.source_b.Goals as goal

pub returns : goal.returns
returns c = subst (λ (wanted : List ℕ). IfOk c.source.result (λ text. text ≡ wanted)) source_b-pieces c.source.ensures
