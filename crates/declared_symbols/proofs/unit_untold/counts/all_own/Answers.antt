use Rattle.std.proofs.Common.{refl}
use Rattle.declared_symbols.proofs.untold_names.StepLaws.{split_next, split_ended}
use Rattle.declared_symbols.specs.unit_untold.Private.Counts.{own_in}
use Rattle.declared_symbols.proofs.unit_untold.CountLaws.{own_split}
use Rattle.declared_symbols.proofs.unit_untold.counts.all_own.Goals as goal

pub loop-decl-preserved : goal.loop-decl-preserved
loop-decl-preserved c =
    split_next own_in own_split c.args.decls.now c.loop-decl.decl-index c.decl-item.result c.loop-decl.list.items _ c.loop-decl-test.true c.decl-item.is c.in_ok-add_own.ensures c.loop-decl.invariant

pub returns : goal.returns
returns c = split_ended own_in refl c.args.decls.now c.loop-decl.decl-index c.loop-decl.list.items c.loop-decl-test.false c.loop-decl.invariant
