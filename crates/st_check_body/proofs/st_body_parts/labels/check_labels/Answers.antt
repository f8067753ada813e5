use Rattle.st_check_body.proofs.st_body_parts.ListLaws.{labels_begun, labels_next, labels_ended}
use Rattle.st_check_body.proofs.st_body_parts.labels.check_labels.Goals as goal

pub loop-label-init : goal.loop-label-init
loop-label-init c = labels_begun _ _ _ _ c.no_label-so_far.ensures

pub loop-label-preserved : goal.loop-label-preserved
loop-label-preserved c = labels_next _ _ _ _ _ _ _ _ _ c.loop-label-test.true c.label-item.is c.in_ok-so_far.ensures c.in_ok-one.ensures c.loop-label.invariant

pub returns : goal.returns
returns c = labels_ended _ _ _ _ _ _ c.loop-label-test.false c.loop-label.invariant
