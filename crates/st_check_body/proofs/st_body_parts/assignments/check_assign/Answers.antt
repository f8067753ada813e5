use Rattle.st_check_body.proofs.st_body_parts.AssignLaws.{assign_of, assign_arm}
use Rattle.st_check_body.proofs.st_body_parts.assignments.check_assign.Goals as goal

pub returns : goal.returns
returns c = λ in_loop.
    assign_arm _ _ _ _ _ c.as_slice.ensures _ c.in_ok-target.ensures _ _ c.placed-b.ensures c.in_ok-told.ensures _ c.in_ok-note.ensures _ in_loop _ _ _ c.asked_of.ensures c.in_ok-x.ensures c.earlier-found.ensures (assign_of _ _ _ _ _ _ c.into_place.ensures c.into_tree.ensures)
