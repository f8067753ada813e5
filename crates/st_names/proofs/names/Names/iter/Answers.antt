use Rattle.st_names.proofs.NameLaws.{distinct}
use Rattle.st_names.proofs.names.Names.iter.Goals as goal

pub returns-clause-distinct : goal.returns-clause-distinct
returns-clause-distinct g c = rw (← c.self.view_is) (distinct c.self.inside.pairs.entries c.iter.ensures.unique)
