use Rattle.st_rules.specs.Interfaces.{conforms}
use Rattle.declared_symbols.proofs.class_chains.chains.comes_round.Goals as goal

pub returns : goal.returns
unfolding conforms
returns c = c.conforms.ensures
