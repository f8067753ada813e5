use Rattle.check_names.proofs.name_rules.FaultLists.{faults_next, faults_ended}
use Rattle.check_declared_variables.specs.variable_rules.Private.Externals.{name_faults}
use Rattle.check_declared_variables.proofs.variable_rules.externals.externals_fault.Goals as goal

pub loop-name-preserved : goal.loop-name-preserved
loop-name-preserved c =
    faults_next (name_faults c.args.names.now.names c.args.line c.args.kind.now) c.args.list.now c.loop-name.found c.name_fault.result c.earlier-found.result c.loop-name.name-index _
    c.loop-name-test.true c.name-item.is c.name_fault.ensures c.earlier-found.ensures c.loop-name.invariant

pub returns : goal.returns
returns c = faults_ended (name_faults c.args.names.now.names c.args.line c.args.kind.now) c.args.list.now c.loop-name.found c.loop-name.name-index c.loop-name-test.false c.loop-name.invariant
