use Rattle.st_rules.specs.Places.{name_not_found, name_out_of_access}
use Rattle.name_resolution.specs.Meant.{meant}
use Rattle.check_places.proofs.Joins.{joined}
use Rattle.check_places.proofs.roots.name_fault.Goals as goal

pub returns : goal.returns
returns c = joined _ _ _ (name_not_found c.args.s.now c.args.line c.args.called (meant c.args.m)) (name_out_of_access c.args.s.now c.args.line (meant c.args.m)) c.earlier.ensures (c.name_not_found.ensures c.args.s.now) c.name_out_of_access.ensures
