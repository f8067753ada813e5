use Rattle.st_check_body.proofs.st_body_parts.AssignLaws.{attempt_of, attempt_arm}
use Rattle.st_check_body.proofs.st_body_parts.assignments.check_attempt.Goals as goal

pub returns : goal.returns
returns c = λ in_loop.
    attempt_arm _ _ _ _ _ c.as_slice.ensures _ c.in_ok-target.ensures _ _ c.placed-b.ensures c.in_ok-told.ensures _ c.in_ok-note.ensures _ in_loop _ _ _ _ _ _ _ _ _ c.root_line.ensures c.attempt_place_fault-of_place.ensures c.in_ok-x.ensures c.line_of.ensures c.is_null.ensures c.attempted_fault-of_value.ensures
    c.earlier-on_left.ensures c.earlier-on_both.ensures c.earlier-found.ensures (attempt_of _ _ _ _ _ _ c.into_place.ensures c.into_tree.ensures)
