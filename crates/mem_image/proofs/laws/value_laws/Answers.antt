use Rattle.mem_image.proofs.ValueLaws.{reads_back, leaves_values, reads_within, reads_zero, spells_once, copies_values}
use Rattle.mem_image.proofs.laws.value_laws.Goals as goal

pub returns-clause-reads_back : goal.returns-clause-reads_back
returns-clause-reads_back c = reads_back

pub returns-clause-leaves : goal.returns-clause-leaves
returns-clause-leaves c = leaves_values

pub returns-clause-within : goal.returns-clause-within
returns-clause-within c = reads_within

pub returns-clause-zero : goal.returns-clause-zero
returns-clause-zero c = reads_zero

pub returns-clause-spells : goal.returns-clause-spells
returns-clause-spells c = spells_once

pub returns-clause-copies : goal.returns-clause-copies
returns-clause-copies c = copies_values
