use Rattle.st_check_body.proofs.st_body_parts.AssignLaws.{call_of, call_arm}
use Rattle.st_check_body.proofs.st_body_parts.assignments.check_call.Goals as goal

pub returns : goal.returns
returns c = λ in_loop.
    call_arm _ _ in_loop _ _ _ _ _ _ _ _ _ _ _ _ _ _ _ _ _ _ c.as_slice-selectors.ensures c.in_ok-call.ensures c.in_ok-x.ensures c.deref.ensures.value c.in_ok-xs.ensures c.root_line.ensures c.selectors_fault.ensures c.selectors_limit.ensures c.arguments_limit.ensures
    c.earlier-of_place.ensures c.earlier-limited.ensures c.earlier-of_callee.ensures c.earlier-of_arguments.ensures c.earlier-found.ensures c.note.ensures (call_of _ _ _ _ _ c.into_place.ensures)
