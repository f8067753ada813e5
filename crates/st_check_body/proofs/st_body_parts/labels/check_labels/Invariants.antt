use Rattle.std.proofs.Common.{drop}
use Rattle.st_check_body.specs.st_body_parts.Private.Lists.{LabelsLeft}
use Rattle.st_check_body.proofs.st_body_parts.labels.check_labels.Given as goal

abbrev pub invariant-loop-label : goal.invariant-loop-label
invariant-loop-label l = LabelsLeft l.so_far l.s l.asked (drop l.label-index l.labels) l.labels
