use Rattle.default_values.proofs.worth_numbers.TableLaws.{distinct}
use Rattle.default_values.proofs.worth_numbers.WorthLaws.{same_number}
use Rattle.default_values.proofs.worth_numbers.numbers.WorthNumbers.worth_laws.Goals as goal

pub returns : goal.returns
returns c = rw (← c.self.view_is) (same_number c.self.inside.nodes.keys (distinct c.self.inside.nodes.keys c.len-nodes.ensures.unique))
