use Rattle.shown_memory.proofs.Parts.{located_known, sized}
use Rattle.shown_memory.proofs.laws.size_laws.Goals as goal

pub returns : goal.returns
returns c = record { sizes = λ p base ls spot l e. let k = located_known p base ls spot l e in (k.of.0, k.of.1, sized p k.of.0 l.shape k.of.1 k.within) }
