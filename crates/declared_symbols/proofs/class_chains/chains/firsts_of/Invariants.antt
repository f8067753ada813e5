use Rattle.st_rules.specs.Classes.{classes_in}
use Rattle.declared_symbols.specs.class_chains.Private.Known.{AreKnown}
use Rattle.declared_symbols.proofs.class_chains.CellLaws.{FirstsTo}
use Rattle.declared_symbols.proofs.class_chains.chains.firsts_of.Given as goal

abbrev pub invariant-loop-class : goal.invariant-loop-class
invariant-loop-class l = record {
  known : AreKnown l.work.cells.items (classes_in l.classes.decls) l.work.firsts.items;
  found : FirstsTo (classes_in l.classes.decls) l.work.cells.items l.firsts.items l.class;
}
