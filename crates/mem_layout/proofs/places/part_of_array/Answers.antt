use Rattle.std.proofs.Common.{None, Some, refl, sym, subst}
use Rattle.mem_layout.specs.store_bytes.Place.{part_place}
use Rattle.mem_layout.specs.Layout.{told}
use Rattle.mem_layout.specs.Private.Place.{LeadsAt}
use Rattle.mem_layout.proofs.PlaceLaws.{array_is, array_leads, array_missing}
use Rattle.mem_layout.proofs.places.part_of_array.Goals as goal

pub returns-in_err-offset-in-Element : goal.returns-in_err-offset-in-Element
returns-in_err-offset-in-Element c = λ p n sh f r h s.
    let a = array_is p n c.args.low.now c.args.high.now c.args.of.now sh h s in
    let m = c.in_ok-element-in-Element.ensures.sound p n a.element f a.unfolds in
    subst (λ o. LeadsAt p n (told o) (part_place sh c.args.step.now)) (sym c.from_residual-in_err-offset-in-Element.ensures)
    (subst (λ t. LeadsAt p n None (part_place sh t)) (sym c.in-Element.is)
    (array_missing p n c.args.low.now c.args.high.now c.args.of.now sh c.in-Element.index c.in_ok-element-in-Element.element a m c.in_err-offset-in-Element.ensures))

pub returns-in_ok-offset-in-Element : goal.returns-in_ok-offset-in-Element
returns-in_ok-offset-in-Element c = λ p n sh f r h s.
    let a = array_is p n c.args.low.now c.args.high.now c.args.of.now sh h s in
    let m = c.in_ok-element-in-Element.ensures.sound p n a.element f a.unfolds in
    subst (λ t. LeadsAt p n (Some (c.in_ok-offset-in-Element.offset, c.args.of.now)) (part_place sh t)) (sym c.in-Element.is)
    (array_leads p n c.args.low.now c.args.high.now c.args.of.now sh c.in-Element.index c.in_ok-element-in-Element.element c.in_ok-offset-in-Element.offset c.args.of.now a m c.in_ok-offset-in-Element.ensures refl)
