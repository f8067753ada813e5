use Rattle.std.specs.Prelude.{false}
use Rattle.statement_laws.proofs.Bodies.{statements}
use Rattle.statement_laws.proofs.laws.body_laws.Goals as goal

pub returns : goal.returns
returns c = record { bodies = λ s p g ss a i f. statements s p g a false ss i f }
