use Rattle.st_check_decl.specs.unit_check.Private.Configured.{configurations_of}
use Rattle.st_check_decl.proofs.unit_check.ConfiguredLaws.{listed_next, listed_ended}
use Rattle.st_check_decl.proofs.unit_check.configured.list_configurations.Goals as goal

pub loop-decl-preserved : goal.loop-decl-preserved
loop-decl-preserved c = listed_next c.args.decls.now c.loop-decl.decl-index c.decl-item.result (configurations_of c.loop-decl.list.items) _ c.loop-decl-test.true c.decl-item.is c.in_ok-add_configuration.ensures c.loop-decl.invariant

pub returns : goal.returns
returns c = listed_ended c.args.decls.now c.loop-decl.decl-index (configurations_of c.loop-decl.list.items) c.loop-decl-test.false c.loop-decl.invariant
