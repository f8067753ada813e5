use Rattle.st_rules.specs.Classes.{classes_in}
use Rattle.declared_symbols.proofs.class_chains.CellLaws.{firsts_next}
use Rattle.declared_symbols.proofs.class_chains.chains.firsts_of.Goals as goal

pub loop-class-preserved : goal.loop-class-preserved
loop-class-preserved c = record {
  known = c.in_ok-first.ensures.work;
  found = firsts_next (classes_in c.args.classes.now.decls) c.loop-class.work.cells.items c.learn.new.work.cells.items c.loop-class.firsts.items c.push.new.self.items c.loop-class.class c.in_ok-first.first c.in_ok-first.ensures.grows
      c.in_ok-push.ensures.items c.in_ok-first.ensures.first c.loop-class.invariant.found;
}
