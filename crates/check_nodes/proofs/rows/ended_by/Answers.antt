use Rattle.std.proofs.Common.{ap, ◌∙◌, refl}
use Rattle.st_rules.specs.Literals.{asked_of}
use Rattle.check_nodes.proofs.rows.ended_by.Goals as goal

pub returns : goal.returns
returns c = record { asked = c.asked_of.ensures ∙ ap asked_of c.in_ok-told.ensures; kept = refl }
