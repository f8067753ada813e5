use Rattle.plant_tests.proofs.plant_counters.Bytes.{put_byte}
use Rattle.plant_tests.proofs.plant_counters.counters.set_byte.Goals as goal

pub returns : goal.returns
returns c = rw (c.put.ensures, c.fill_from.ensures.after, c.take.ensures.empties) (put_byte _ _ _ c.in-Some.image c.requires.0 c.in-Some.ensures.image c.requires.1 c.requires.2)
