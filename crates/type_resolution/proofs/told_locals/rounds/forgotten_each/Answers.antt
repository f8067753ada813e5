use Rattle.st_rules.proofs.ListLaws.{mapped_next, mapped_end}
use Rattle.st_unit_rules.specs.declared_names.UnitNames.{forgotten}
use Rattle.type_resolution.proofs.told_locals.rounds.forgotten_each.Goals as goal

pub loop-variable-preserved : goal.loop-variable-preserved
loop-variable-preserved c = mapped_next (forgotten) c.args.variables.now c.loop-variable.variable-index c.variable-item.result c.loop-variable.list _ _ _ c.loop-variable-test.true c.variable-item.is c.in_ok-push.ensures.ok c.in_ok-one.ensures c.loop-variable.invariant

pub returns : goal.returns
returns c = mapped_end (forgotten) c.args.variables.now c.loop-variable.variable-index c.loop-variable.list _ c.loop-variable-test.false c.loop-variable.invariant
