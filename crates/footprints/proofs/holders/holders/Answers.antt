use Rattle.std.proofs.Common.{List, ℕ, sym, subst}
use Rattle.st_values.specs.View.{program_of}
use Rattle.footprints.specs.Private.Holders.{AreAllHolders}
use Rattle.footprints.proofs.HolderLaws.{list_next, one_longer}
use Rattle.footprints.proofs.holders.holders.Goals as goal

pub loop-class-preserved : goal.loop-class-preserved
loop-class-preserved c = record {
  long = one_longer c.loop-class.lists.items c.push.new.self.items c.in_ok-list.list c.loop-class.class c.in_ok-push.ensures.items c.loop-class.invariant.long;
  each = λ u.
      subst (λ (lists : List (List ℕ)). AreAllHolders (program_of c.args.instances.now) c.args.regions lists) (sym c.in_ok-push.ensures.items)
      (list_next (program_of c.args.instances.now) c.args.regions c.loop-class.class c.loop-class.lists.items c.in_ok-list.list c.loop-class.invariant.long (c.loop-class.invariant.each u) (c.in_ok-list.ensures u));
}
