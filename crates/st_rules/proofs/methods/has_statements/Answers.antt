use Rattle.st_rules.specs.ClassRules.{is_statement}
use Rattle.st_rules.proofs.ListLaws.{any-found, any-next, any-none}
use Rattle.st_rules.proofs.methods.has_statements.Goals as goal

pub returns-then-is_statement : goal.returns-then-is_statement
returns-then-is_statement g c = any-found is_statement c.args.body.now c.loop-stmt.stmt-index c.stmt-item.result c.is_statement.result c.loop-stmt-test.true c.stmt-item.is c.loop-stmt.invariant c.is_statement.ensures c.if-is_statement.true

pub loop-stmt-preserved : goal.loop-stmt-preserved
loop-stmt-preserved g c = any-next is_statement c.args.body.now c.loop-stmt.stmt-index c.stmt-item.result c.is_statement.result c.loop-stmt-test.true c.stmt-item.is c.loop-stmt.invariant c.is_statement.ensures c.if-is_statement.false

pub returns : goal.returns
returns g c = any-none is_statement c.args.body.now c.loop-stmt.stmt-index c.loop-stmt-test.false c.loop-stmt.invariant
