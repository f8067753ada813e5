use Rattle.std.specs.Prelude.{false, ◌∷◌, []}
use Rattle.global_rules.specs.Private.Sections.{global_with}
use Rattle.global_rules.proofs.SectionLaws.{adds_begun, adds_next, adds_ended}
use Rattle.global_rules.proofs.sections.add_others.Goals as goal

pub loop-name-init : goal.loop-name-init
loop-name-init c = adds_begun c.args.tables.now.decls (λ n. global_with c.args.of.now.section.now c.args.of.now.item.now false n ∷ []) c.args.names.now c.args.faults.now.items c.args.regions.now

pub loop-name-preserved : goal.loop-name-preserved
loop-name-preserved c =
    adds_next c.args.tables.now.decls (λ n. global_with c.args.of.now.section.now c.args.of.now.item.now false n ∷ []) c.args.names.now _ _ _ _ _ _ c.name-item.result c.loop-name.name-index c.loop-name-test.true c.name-item.is c.in_ok-add_global.ensures
    c.loop-name.invariant

pub returns : goal.returns
returns c = adds_ended c.args.tables.now.decls (λ n. global_with c.args.of.now.section.now c.args.of.now.item.now false n ∷ []) c.args.names.now _ _ _ _ _ c.loop-name-test.false c.loop-name.invariant
