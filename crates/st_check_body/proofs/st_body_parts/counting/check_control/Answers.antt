use Rattle.st_check_body.proofs.st_body_parts.ControlLaws.{control_arm}
use Rattle.st_check_body.proofs.st_body_parts.counting.check_control.Goals as goal

pub returns : goal.returns
returns c = control_arm _ _ _ _ _ _ _ _ _ _ _ _ _ _ _ _ _ c.sought-m.ensures c.in_ok-own.ensures c.in_ok-wanted.ensures c.asked_of-asked.ensures c.in_ok-first.ensures c.in_ok-last.ensures c.in_ok-step.ensures c.in_ok-t.ensures
    c.earlier-to_first.ensures c.earlier-to_last.ensures c.earlier-found.ensures c.control_note-own_note.ensures c.into_tree.ensures c.into_tree-2.ensures c.into_step.ensures
