use Rattle.mem_layout.proofs.store_bytes.Store.{laws_of_store}
use Rattle.mem_layout.proofs.store_bytes.laws.store_laws.Goals as goal

pub returns : goal.returns
returns c = laws_of_store
