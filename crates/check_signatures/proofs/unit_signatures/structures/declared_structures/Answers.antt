use Rattle.check_signatures.proofs.unit_signatures.StructureLaws.{declarations_begun, declarations_next, declarations_ended}
use Rattle.check_signatures.proofs.unit_signatures.structures.declared_structures.Goals as goal

pub loop-decl-init : goal.loop-decl-init
loop-decl-init c = declarations_begun _ _ c.new-list.ensures.items

pub loop-decl-preserved : goal.loop-decl-preserved
loop-decl-preserved c = declarations_next _ c.args.decls.now c.loop-decl.decl-index c.decl-item.result _ _ _ c.loop-decl-test.true c.decl-item.is c.loop-decl.invariant c.in_ok-add_declaration.ensures

pub returns : goal.returns
returns c = declarations_ended _ c.args.decls.now c.loop-decl.decl-index _ c.loop-decl-test.false c.loop-decl.invariant
