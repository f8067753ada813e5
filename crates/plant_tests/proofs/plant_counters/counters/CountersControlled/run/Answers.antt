use Rattle.plant_tests.specs.plant_counters.CountingLaws.{two_read, own_read}
use Rattle.plant_tests.proofs.plant_counters.counters.CountersControlled.run.Goals as goal

pub byte_at-requires : goal.byte_at-requires
byte_at-requires c = c.requires.fit 2 (two_read c.args.task)

pub byte_at-requires-2 : goal.byte_at-requires-2
byte_at-requires-2 c = c.requires.fit c.args.task (own_read c.args.task)

pub set_byte-requires : goal.set_byte-requires
set_byte-requires c = c.requires.fit c.args.task (own_read c.args.task)
