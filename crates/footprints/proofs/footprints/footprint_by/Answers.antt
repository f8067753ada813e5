use Rattle.footprints.proofs.PartLaws.{is_footprint}
use Rattle.footprints.proofs.footprints.footprint_by.Goals as goal

pub returns-clause-exact : goal.returns-clause-exact
returns-clause-exact c = is_footprint c.args.t.now c.requires c.args.task c.in_ok-marks.marks.keys c.in_ok-list.list.items c.in_ok-marks.ensures c.in_ok-list.ensures.items
