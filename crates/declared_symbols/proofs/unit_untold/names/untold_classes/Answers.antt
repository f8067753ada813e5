use Rattle.declared_symbols.proofs.unit_untold.SumLaws.{lent_sums}
use Rattle.declared_symbols.proofs.unit_untold.names.untold_classes.Goals as goal

pub add_classes-requires : goal.add_classes-requires
add_classes-requires c =
    lent_sums c.args.decls.now c.in_ok-own.own.items c.deref.result.now c.deref-3.result.now c.args.chains.now.cells.items c.deref-2.result.now c.in_ok-totals.totals.items c.deref-4.result.now
    c.args.chains.now.firsts.items c.deref-5.result.now c.deref.ensures.value c.deref-2.ensures.value c.deref-3.ensures.value c.deref-4.ensures.value c.deref-5.ensures.value c.in_ok-own.ensures c.in_ok-totals.ensures c.requires
