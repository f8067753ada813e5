use Rattle.mem_image.proofs.PartLaws.{length-replaced, holds, leaves}
use Rattle.mem_image.proofs.laws.part_laws.Goals as goal

pub returns-clause-length : goal.returns-clause-length
returns-clause-length c = length-replaced

pub returns-clause-holds : goal.returns-clause-holds
returns-clause-holds c = holds

pub returns-clause-leaves : goal.returns-clause-leaves
returns-clause-leaves c = leaves
