-- All that declarations give as initial values is of its type.
use Rattle.initial_laws.specs.InitialLaws.{InitialLaws}
use Rattle.initial_laws.proofs.Knowing.{all_given}

pub initial_laws : InitialLaws
initial_laws = record { given = λ most decls p fine good checked. all_given most decls p fine good checked }
