use Rattle.default_values.proofs.structure_worths.CountLaws.{all_weighed_as}
use Rattle.default_values.proofs.structure_worths.worths.structure_worths.Goals as goal

pub returns : goal.returns
returns g c =
    all_weighed_as c.args.table.now c.weigh_structures.new.table (g.S.ConstantValues.scope c.args.values.now) c.args.declared.items c.deref.result.now c.in_ok-parts.parts.items c.deref-2.result.now c.in_ok-counts.counts.structures.items
    c.in_ok-structures.structures.items c.as_mut_slice.result.now c.weigh_structures.new.structures c.in_ok-structures.structures.len c.in_ok-parts.ensures c.deref.ensures.value c.in_ok-counts.ensures c.deref-2.ensures.value c.in_ok-structures.ensures
    c.in_ok-weigh_structures.ensures c.as_mut_slice.ensures.value c.in_ok-structures.structures.ok.0
