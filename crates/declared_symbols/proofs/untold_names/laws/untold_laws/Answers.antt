use Rattle.declared_symbols.proofs.untold_names.UntoldLaws.{untold_laws}
use Rattle.declared_symbols.proofs.untold_names.laws.untold_laws.Goals as goal

pub returns : goal.returns
returns c = untold_laws
