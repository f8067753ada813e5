use Rattle.check_signatures.specs.unit_signatures.Private.Parameters.{AreWeighed}
use Rattle.check_signatures.specs.unit_signatures.Private.Routines.{list_tells}
use Rattle.check_signatures.proofs.unit_signatures.AddLaws.{adds_begun}
use Rattle.check_signatures.proofs.unit_signatures.RoutineLaws.{interfaces_next, interfaces_ended}
use Rattle.check_signatures.proofs.unit_signatures.interfaces.interface_signatures.Goals as goal

pub loop-decl-init : goal.loop-decl-init
loop-decl-init c = adds_begun list_tells (AreWeighed c.args.weighed.now) _ _ c.new-list.ensures

pub loop-decl-preserved : goal.loop-decl-preserved
loop-decl-preserved c = interfaces_next c.args.weighed.now c.args.decls.now _ _ _ _ _ c.loop-decl.decl-index c.decl-item.result c.loop-decl-test.true c.decl-item.is c.loop-decl.invariant c.in_ok-add_declaration.ensures

pub returns : goal.returns
returns c = interfaces_ended c.args.weighed.now c.args.decls.now _ _ _ c.loop-decl.decl-index c.loop-decl-test.false c.loop-decl.invariant
