use Rattle.std.proofs.Common.{false, true, refl, ap, ◌∙◌}
use Rattle.st_values.specs.Shape.{shape_within}
use Rattle.mem_layout.specs.Private.Table.{IsMeasure}
use Rattle.mem_layout.proofs.SizeLaws.{elementary_measure, enumeration_measure, reference_measure, interface_measure, entry_measure, array_measure, entry_there, small_array}
use Rattle.mem_layout.proofs.IfLaws.{if_some}
use Rattle.mem_layout.proofs.sizes.+size_of.Goals as goal

pub returns-in-Elementary-clause-sound : goal.returns-in-Elementary-clause-sound
returns-in-Elementary-clause-sound t c = λ p n sh f h. elementary_measure p n _ c.in-Elementary.e sh _ c.in-Elementary.is c.bytes.ensures c.bytes-in-Elementary.ensures h

pub returns-in-Enumeration-clause-sound : goal.returns-in-Enumeration-clause-sound
returns-in-Enumeration-clause-sound t c = λ p n sh f h. enumeration_measure p n _ c.in-Enumeration.field-0 sh _ c.in-Enumeration.is refl refl h

pub returns-in-Reference-clause-sound : goal.returns-in-Reference-clause-sound
returns-in-Reference-clause-sound t c = λ p n sh f h. reference_measure p n _ c.in-Reference.field-0 sh _ c.in-Reference.is refl refl h

pub returns-in-Interface-clause-sound : goal.returns-in-Interface-clause-sound
returns-in-Interface-clause-sound t c = λ p n sh f h. interface_measure p n _ c.in-Interface.field-0 sh _ c.in-Interface.is refl refl h

pub returns-in-Structure-clause-sound : goal.returns-in-Structure-clause-sound
returns-in-Structure-clause-sound t c = λ p n sh f h.
    if_some c.measure_of.result _ (IsMeasure sh) (λ m x. entry_measure p c.args.tables.now false n _ c.in-Structure.k sh m c.in-Structure.is f x h) c.measure_of.ensures.sound

pub returns-in-Instance-clause-sound : goal.returns-in-Instance-clause-sound
returns-in-Instance-clause-sound t c = λ p n sh f h.
    if_some c.measure_of-in-Instance.result _ (IsMeasure sh) (λ m x. entry_measure p c.args.tables.now true n _ c.in-Instance.k sh m c.in-Instance.is f x h) c.measure_of-in-Instance.ensures.sound

pub returns-in_ok-size-in-Array-clause-sound : goal.returns-in_ok-size-in-Array-clause-sound
returns-in_ok-size-in-Array-clause-sound t c = λ p n sh f h.
    let x = c.in-Array in
    array_measure p n _ x.low x.high x.of sh c.in_ok-element-in-Array.element _ x.is
    (λ m e u. c.in_ok-element-in-Array.ensures.sound p m e f (ap (shape_within p m) c.get.ensures ∙ u))
    c.in_ok-size-in-Array.ensures.sound refl h

pub returns-in_err-element-in-Array-clause-complete : goal.returns-in_err-element-in-Array-clause-complete
returns-in_err-element-in-Array-clause-complete t c = λ p n sh f r h s.
    let x = c.in-Array in
    let a = small_array p c.args.tables.now n _ x.low x.high x.of sh x.is r h s in
    let bad = c.in_err-element-in-Array.ensures.complete p a.depth a.element f a.reach (ap (shape_within p a.depth) c.get.ensures ∙ a.unfolds) a.small in
    absurd (cc)

pub returns-in_err-size-in-Array-clause-complete : goal.returns-in_err-size-in-Array-clause-complete
returns-in_err-size-in-Array-clause-complete t c = λ p n sh f r h s.
    let x = c.in-Array in
    let a = small_array p c.args.tables.now n _ x.low x.high x.of sh x.is r h s in
    let long = c.in_ok-element-in-Array.ensures.sound p a.depth a.element f (ap (shape_within p a.depth) c.get.ensures ∙ a.unfolds) in
    let bad = c.in_err-size-in-Array.ensures.complete (rw (long.size-is) a.few) in
    absurd (cc)

pub returns-in-Structure-clause-complete : goal.returns-in-Structure-clause-complete
returns-in-Structure-clause-complete t c = λ p n sh f r h s.
    let e = entry_there p c.args.tables.now false n _ c.in-Structure.k sh c.in-Structure.is r h s in
    c.measure_of.ensures.complete e.0 e.1

pub returns-in-Instance-clause-complete : goal.returns-in-Instance-clause-complete
returns-in-Instance-clause-complete t c = λ p n sh f r h s.
    let e = entry_there p c.args.tables.now true n _ c.in-Instance.k sh c.in-Instance.is r h s in
    c.measure_of-in-Instance.ensures.complete e.0 e.1
