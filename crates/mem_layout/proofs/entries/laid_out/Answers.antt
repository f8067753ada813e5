use Rattle.std.proofs.Common.{◌+◌, refl, subst, drop}
use Rattle.std.specs.Prelude.{IfSome, IsSome}
use Rattle.st_values.specs.Shape.{no_fields, field_then}
use Rattle.program_tables.specs.st_initial.Variables.{variable_of, variables_of}
use Rattle.mem_layout.specs.store_bytes.Place.{gap, ending}
use Rattle.mem_layout.specs.store_bytes.PlaceLaws.{joined}
use Rattle.mem_layout.specs.Private.Table.{start, wide}
use Rattle.mem_layout.specs.Private.Entry.{IsLaid, Going}
use Rattle.mem_layout.proofs.EntryLaws.{variables_cut, variables_done, going_on, going_last, has_room}
use Rattle.mem_layout.proofs.entries.laid_out.Goals as goal

pub returns-in-None-clause-complete : goal.returns-in-None-clause-complete
returns-in-None-clause-complete c = λ p n fs f r u s lt.
    let vs = c.args.variables.now in
    let i = c.loop-variable.variable-index in
    let v = c.variable-item.result in
    let first = start c.args.class in
    let laid = c.loop-variable.laid in
    let g = subst (λ l. Going p n first fs l laid) (variables_cut vs i v c.loop-variable-test.true c.variable-item.is) (c.loop-variable.invariant p n fs f u) in
    let x = has_room p n first fs (variable_of v) (variables_of (drop (i + 1) vs)) laid (gap (wide c.args.class fs) (ending first fs)) g s lt in
    subst IsSome c.in-None.is (c.in_ok-next.ensures.complete p n x.shape first x.so-far f r x.unfolds x.small x.laid x.fits)

pub loop-variable-preserved : goal.loop-variable-preserved
loop-variable-preserved c = λ p n fs f u.
    let vs = c.args.variables.now in
    let i = c.loop-variable.variable-index in
    let v = c.variable-item.result in
    let first = start c.args.class in
    let laid = c.loop-variable.laid in
    let g = subst (λ l. Going p n first fs l laid) (variables_cut vs i v c.loop-variable-test.true c.variable-item.is) (c.loop-variable.invariant p n fs f u) in
    going_on p n first fs (variable_of v) (variables_of (drop (i + 1) vs)) laid c.in-Some.next g (λ sh gs e l.
    subst (λ o. IfSome o (λ m. IsLaid first (joined gs (field_then (variable_of v) sh no_fields)) m)) c.in-Some.is (c.in_ok-next.ensures.sound p n sh first gs (variable_of v) f e refl l))

pub returns-clause-sound : goal.returns-clause-sound
returns-clause-sound c = λ p n fs f u.
    c.finished.ensures.sound fs (going_last p n (start c.args.class) fs (variables_of (drop c.loop-variable.variable-index c.args.variables.now)) c.loop-variable.laid (variables_done c.args.variables.now c.loop-variable.variable-index c.loop-variable-test.false) (c.loop-variable.invariant p n fs f u))

pub returns-clause-complete : goal.returns-clause-complete
returns-clause-complete c = λ p n fs f r u s lt.
    c.finished.ensures.complete fs (going_last p n (start c.args.class) fs (variables_of (drop c.loop-variable.variable-index c.args.variables.now)) c.loop-variable.laid (variables_done c.args.variables.now c.loop-variable.variable-index c.loop-variable-test.false) (c.loop-variable.invariant p n fs f u)) lt
