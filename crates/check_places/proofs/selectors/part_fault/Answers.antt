use Rattle.st_rules.specs.Places.{part_faults, part_not_found, part_out_of_access}
use Rattle.check_places.specs.Standing.{standing, parted}
use Rattle.check_places.proofs.Joins.{joined}
use Rattle.check_places.proofs.selectors.part_fault.Goals as goal

pub returns : goal.returns
unfolding part_faults
returns c = joined _ _ _ (part_not_found c.args.s.now c.args.line (standing c.args.b) (parted c.args.p)) (part_out_of_access c.args.s.now c.args.line (parted c.args.p)) c.earlier.ensures (c.part_not_found.ensures c.args.s.now) c.part_out_of_access.ensures
