use Rattle.std.proofs.Common.{ap, ◌∙◌}
use Rattle.st_rules.specs.Faults.{least}
use Rattle.check_names.specs.name_rules.Spaces.{conversion_of}
use Rattle.check_names.proofs.name_rules.FaultLists.{faults_next, faults_ended, lent_are}
use Rattle.check_names.proofs.name_rules.spaces.conversions_fault.Goals as goal

pub loop-name-preserved : goal.loop-name-preserved
loop-name-preserved c =
    faults_next conversion_of c.args.names.now c.loop-name.found c.conversion_fault.result c.earlier-found.result c.loop-name.name-index c.name-item.result c.loop-name-test.true c.name-item.is c.conversion_fault.ensures c.earlier-found.ensures
    c.loop-name.invariant

pub returns : goal.returns
returns c = faults_ended conversion_of c.args.names.now c.loop-name.found c.loop-name.name-index c.loop-name-test.false c.loop-name.invariant ∙ ap least (lent_are c.args.names.now)
