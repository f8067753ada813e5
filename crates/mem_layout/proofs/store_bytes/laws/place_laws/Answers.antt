use Rattle.mem_layout.proofs.store_bytes.Apart.{place_laws, kept_once}
use Rattle.mem_layout.proofs.store_bytes.laws.place_laws.Goals as goal

pub returns-clause-places : goal.returns-clause-places
returns-clause-places c = place_laws

pub returns-clause-kept_once : goal.returns-clause-kept_once
returns-clause-kept_once c = kept_once
