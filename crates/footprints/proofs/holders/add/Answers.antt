use Rattle.std.proofs.Common.{List, ℕ, sym, subst}
use Rattle.st_values.specs.View.{program_of}
use Rattle.footprints.specs.Private.Holders.{IsNextHolder}
use Rattle.footprints.proofs.HolderLaws.{holder_next}
use Rattle.footprints.proofs.holders.add.Goals as goal

pub returns-in_ok-push : goal.returns-in_ok-push
returns-in_ok-push c =
    subst (λ (new : List ℕ). IsNextHolder (program_of c.args.instances.now) c.args.region c.args.class c.args.list.now new) (sym c.in_ok-push.ensures.ok)
    (holder_next (program_of c.args.instances.now) c.args.region c.args.class c.args.list.now c.holds.result c.holds.ensures c.if-holds.true)
