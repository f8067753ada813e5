use Rattle.change_images.proofs.TableFacts.{table_laws}
use Rattle.change_images.proofs.laws.table_laws.Goals as goal

pub returns : goal.returns
returns c = table_laws
