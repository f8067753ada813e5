use Rattle.std.proofs.Common.{List, map, length, sym, ap, ◌∙◌, subst}
use Rattle.declared_symbols.specs.declared.class_chains.cells.Cell.{Cell}
use Rattle.check_limits.specs.declared.type_sizes.size.Size.{Size}
use Rattle.check_limits.specs.type_sizes.Private.Rounds.{AreOwn, AreTotals, instance_from}
use Rattle.check_limits.proofs.type_sizes.RoundLaws.{instances_are}
use Rattle.check_limits.proofs.type_sizes.rounds.next_level.Goals as goal

pub returns : goal.returns
returns c = λ s a q h.
    let r = length c.args.levels.now in
    let own : AreOwn s r c.deref.result.now =
    subst (λ (zs : List Size). AreOwn s r zs) (sym c.deref.ensures.value) (c.in_ok-own.ensures s a (ap (λ n. n.classes) q ∙ sym c.as_slice-2.ensures)) in
    let totals : AreTotals s r c.args.chains.now.cells.items c.in_ok-totals.totals.items =
    subst (λ (cs : List Cell). AreTotals s r cs c.in_ok-totals.totals.items) c.deref-2.ensures.value (c.in_ok-totals.ensures s r own) in
    record {
      structures = (c.in_ok-structures.ensures s a (ap (λ n. n.parts) q ∙ sym c.as_slice.ensures)).each;
      instances = instances_are s r c.args.chains.now c.in_ok-totals.totals.items c.in_ok-instances.instances.items h totals
          (c.in_ok-instances.ensures ∙ ap (λ ts. map (instance_from ts) c.deref-4.result.now) c.deref-3.ensures.value ∙ ap (map (instance_from c.in_ok-totals.totals.items)) c.deref-4.ensures.value);
    }
