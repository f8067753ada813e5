use Rattle.footprints.proofs.MarkLaws.{inserted}
use Rattle.footprints.proofs.marks.put.Goals as goal

pub returns : goal.returns
returns c = inserted c.args.marks.now.keys c.insert.new.self.keys c.args.region c.in_ok-insert.ensures.keys
