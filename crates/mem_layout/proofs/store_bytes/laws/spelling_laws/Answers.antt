use Rattle.mem_layout.proofs.store_bytes.Image.{spelling_laws}
use Rattle.mem_layout.proofs.store_bytes.Suits.{suits_laws}
use Rattle.mem_layout.proofs.store_bytes.laws.spelling_laws.Goals as goal

pub returns-clause-spelling : goal.returns-clause-spelling
returns-clause-spelling c = spelling_laws

pub returns-clause-suits : goal.returns-clause-suits
returns-clause-suits c = suits_laws
