use Rattle.std.proofs.Common.{◌≡◌, nat_eq, ap, ◌∙◌}
use Rattle.st_rules.specs.Classes.{classes_in}
use Rattle.st_rules.specs.Faults.{least}
use Rattle.st_unit_rules.specs.Worth.{same_worth}
use Rattle.default_values.specs.worth_numbers.Numbers.{HasWorth}
use Rattle.default_values.proofs.numbered_signatures.FaultLaws.{class_faults_alike}
use Rattle.default_values.proofs.numbered_signatures.signatures.NumberedSignatures.class_fault.Goals as goal

pub returns : goal.returns
returns c = λ all told.
    c.broken.ensures
    ∙ ap least (class_faults_alike nat_eq same_worth (HasWorth c.args.self.now.worths) (λ a b v w h k. c.worth_laws.ensures v w a b h k) c.args.self.now.signatures all told (classes_in c.args.classes.now.decls) c.args.class)
