use Rattle.declaration_laws.proofs.Whole.{declaration_laws}
use Rattle.declaration_laws.proofs.laws.declaration_laws.Goals as goal

pub returns : goal.returns
returns c = declaration_laws
