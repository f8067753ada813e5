use Rattle.std.proofs.Common.{ap, ◌∙◌}
use Rattle.st_rules.specs.Faults.{least}
use Rattle.check_names.proofs.name_rules.FaultLists.{faults_next, faults_ended}
use Rattle.st_unit_rules.specs.NameRules.{method_named_as_variable}
use Rattle.check_names.specs.member_names.Private.Above.{names_above}
use Rattle.check_names.proofs.member_names.AboveLaws.{lent_are}
use Rattle.check_names.proofs.member_names.above.methods_fault.Goals as goal

pub loop-name-preserved : goal.loop-name-preserved
loop-name-preserved c =
    faults_next (λ n. method_named_as_variable (names_above c.args.names.now.variables.items c.args.above.now) n.now) c.args.list.now c.loop-name.found c.method_fault.result c.earlier-found.result c.loop-name.name-index c.name-item.result
    c.loop-name-test.true c.name-item.is c.method_fault.ensures c.earlier-found.ensures c.loop-name.invariant

pub returns : goal.returns
returns c =
    faults_ended (λ n. method_named_as_variable (names_above c.args.names.now.variables.items c.args.above.now) n.now) c.args.list.now c.loop-name.found c.loop-name.name-index c.loop-name-test.false c.loop-name.invariant
    ∙ ap least (lent_are (method_named_as_variable (names_above c.args.names.now.variables.items c.args.above.now)) c.args.list.now)
