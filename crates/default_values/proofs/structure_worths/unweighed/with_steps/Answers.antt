use Rattle.std.proofs.Common.{List, [], ◌∷◌, ◌++◌, sym, ◌∙◌, subst}
use Rattle.default_values.specs.declared.initial_worths.structures.Structure.{Structure}
use Rattle.default_values.specs.structure_worths.Private.Counted.{Counts}
use Rattle.default_values.proofs.structure_worths.CountLaws.{counts_next}
use Rattle.default_values.proofs.structure_worths.unweighed.with_steps.Goals as goal

pub loop-structure-preserved : goal.loop-structure-preserved
loop-structure-preserved c =
    subst (λ (zs : List Structure). Counts c.args.counts.now.structures.items (c.loop-structure.yielded ++ c.in-Some.structure ∷ []) zs) (sym c.in_ok-push.ensures.items)
    (counts_next c.args.counts.now.structures.items c.loop-structure.yielded c.loop-structure.list.items c.len.result c.in-Some.structure c.in_ok-one.one c.loop-structure.invariant (c.len.ensures ∙ c.loop-structure.list.ok.0) c.in_ok-one.ensures)
