use Rattle.symbol_table.specs.unit_names.Private.Known.{decls_of}
use Rattle.symbol_table.proofs.unit_names.ClassLaws.{is_class_at, classes_next, classes_ended}
use Rattle.symbol_table.proofs.unit_names.classes.declared_classes.Goals as goal

pub add_declaration-requires-clause-class : goal.add_declaration-requires-clause-class
add_declaration-requires-clause-class c =
    is_class_at c.args.known.now c.args.decls.now (decls_of c.args.known.now) c.loop-decl.list c.loop-decl.number c.loop-decl.decl-index c.decl-item.result c.requires.decls c.loop-decl-test.true c.decl-item.is c.loop-decl.invariant

pub loop-decl-preserved : goal.loop-decl-preserved
loop-decl-preserved c =
    classes_next c.args.known.now c.args.decls.now c.loop-decl.list _ c.loop-decl.number _ c.loop-decl.decl-index c.decl-item.result c.loop-decl-test.true c.decl-item.is c.in_ok-number.ensures c.loop-decl.invariant

pub returns : goal.returns
returns c = classes_ended c.args.known.now c.args.decls.now c.loop-decl.list c.loop-decl.number c.loop-decl.decl-index c.loop-decl-test.false c.loop-decl.invariant
