use Rattle.st_rules.proofs.TypeLaws.{type_decided}
use Rattle.st_rules.proofs.SignatureLaws.{signature_decided}
use Rattle.st_rules.proofs.laws.signature_laws.Goals as goal

pub returns-clause-types : goal.returns-clause-types
returns-clause-types g c = type_decided

pub returns-clause-signatures : goal.returns-clause-signatures
returns-clause-signatures g c = λ same_value a b decided h k. signature_decided same_value decided a b h k
