use Rattle.std.proofs.Common.{◌≡◌, sym, ap, ◌∙◌}
use Rattle.std.specs.Prelude.{if◌then◌else◌}
use Rattle.mem_layout.specs.Private.Table.{start}
use Rattle.mem_layout.proofs.EntryLaws.{wide_is, finished_fits}
use Rattle.mem_layout.proofs.entries.finished.Goals as goal
use Rattle.mem_layout.proofs.entries.finished.Goals.{then-class, else-class}

pub returns-in_err-size-clause-complete : goal.returns-in_err-size-clause-complete
returns-in_err-size-clause-complete c = λ fs l lt.
    let most = c.args.laid.greatest in
    let w : c.if-class.alignment ≡ (if c.args.class then 8 else most) = elim c.if-class.branch [ then-class w ↦ w.alignment-is ∙ ap (λ x. if x then 8 else most) (sym w.if-class.true) | else-class w ↦ w.alignment-is ∙ ap (λ x. if x then 8 else most) (sym w.if-class.false) ] in
    let x = finished_fits c.args.class fs c.args.laid c.if-class.alignment l (wide_is c.args.class (start c.args.class) fs c.args.laid c.if-class.alignment l w) lt in
    let bad = c.in_err-size.ensures.complete x.0 x.1 in
    absurd (cc)
