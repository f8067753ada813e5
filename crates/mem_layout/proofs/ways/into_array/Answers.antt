use Rattle.std.proofs.Common.{◌/◌, pos, refl, sym, subst}
use Rattle.std.specs.Prelude.{◌+ℤ◌}
use Rattle.mem_layout.specs.Private.Way.{EntersIf}
use Rattle.mem_layout.proofs.PlaceLaws.{array_is}
use Rattle.mem_layout.proofs.WayLaws.{array_past, array_enters}
use Rattle.mem_layout.proofs.ways.into_array.Goals as goal

pub returns-in_err-step : goal.returns-in_err-step
returns-in_err-step c = λ p n sh f r h s.
    let a = array_is p n c.args.low.now c.args.high.now c.args.of.now sh h s in
    let m = c.in_ok-element.ensures.sound p n a.element f a.unfolds in
    subst (EntersIf p n sh c.args.left) (sym c.from_residual-in_err-step.ensures)
    (array_past p n c.args.low.now c.args.high.now c.args.of.now sh c.in_ok-element.element c.args.left (c.args.low.now +ℤ pos (c.args.left / c.in_ok-element.element.size)) a m c.if-element-eq0.false refl c.in_err-step.ensures)

pub returns : goal.returns
returns c = λ p n sh f r h s.
    let a = array_is p n c.args.low.now c.args.high.now c.args.of.now sh h s in
    let m = c.in_ok-element.ensures.sound p n a.element f a.unfolds in
    let x = c.in_ok-step.ensures in
    array_enters p n c.args.low.now c.args.high.now c.args.of.now sh c.in_ok-element.element c.args.left x.index _ a m c.if-element-eq0.false x.at x.within x.is refl refl
