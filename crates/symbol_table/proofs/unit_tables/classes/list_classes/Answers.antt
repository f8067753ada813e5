use Rattle.std.proofs.Common.{refl}
use Rattle.st_rules.specs.Classes.{classes_in}
use Rattle.section_rules.specs.Variables.{classes_of}
use Rattle.symbol_table.proofs.unit_names.KnownLaws.{split_next, split_ended}
use Rattle.symbol_table.proofs.unit_tables.TableLaws.{classes_split}
use Rattle.symbol_table.proofs.unit_tables.classes.list_classes.Goals as goal

pub loop-decl-preserved : goal.loop-decl-preserved
loop-decl-preserved c =
    split_next classes_in classes_split c.args.decls.now c.loop-decl.decl-index c.decl-item.result (classes_of c.loop-decl.list.items) _ c.loop-decl-test.true c.decl-item.is c.in_ok-add_class.ensures c.loop-decl.invariant

pub returns : goal.returns
returns c = split_ended classes_in refl c.args.decls.now c.loop-decl.decl-index (classes_of c.loop-decl.list.items) c.loop-decl-test.false c.loop-decl.invariant
