use Rattle.std.proofs.Common.{refl}
use Rattle.st_rules.proofs.ListLaws.{left_next, left_end}
use Rattle.st_values.specs.View as view
use Rattle.program_tables.specs.st_initial.Variables.{variables_of}
use Rattle.program_tables.proofs.st_initial.variables.push_groups.Goals as goal

pub loop-group-preserved : goal.loop-group-preserved
loop-group-preserved c =
    left_next (view.groups_in) c.args.groups.now c.loop-group.group-index c.group-item.result (variables_of c.loop-group.out.items) _ (view.group_variables c.group-item.result c.group-item.result.names) _
    c.loop-group-test.true c.group-item.is refl c.in_ok-push_group.ensures c.loop-group.invariant

pub returns : goal.returns
returns c = left_end (view.groups_in) c.args.groups.now c.loop-group.group-index (variables_of c.loop-group.out.items) _ refl c.loop-group-test.false c.loop-group.invariant
