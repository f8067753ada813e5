use Rattle.std.proofs.Common.{◌+◌, drop}
use Rattle.declared_symbols.proofs.unit_untold.ClassLaws.{classes_next, classes_ended}
use Rattle.declared_symbols.proofs.unit_untold.names.add_classes.Goals as goal

pub loop-decl-preserved : goal.loop-decl-preserved
loop-decl-preserved c =
    let decls = c.args.decls.now in
    let i = c.loop-decl.decl-index in
    classes_next decls decls i c.decl-item.result c.loop-decl.number _ c.loop-decl.list _ _ c.loop-decl-test.true c.decl-item.is (c.in_ok-number.ensures decls c.requires (drop (i + 1) decls)) c.loop-decl.invariant

pub returns : goal.returns
returns c = classes_ended c.args.decls.now c.args.decls.now c.loop-decl.decl-index c.loop-decl.number c.loop-decl.list _ c.loop-decl-test.false c.loop-decl.invariant
