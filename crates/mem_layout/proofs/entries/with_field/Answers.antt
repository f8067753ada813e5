use Rattle.std.proofs.Common.{sym, ◌∙◌}
use Rattle.mem_layout.proofs.EntryLaws.{room, laid_more}
use Rattle.mem_layout.proofs.entries.with_field.Goals as goal

pub returns-in_default-padded-clause-complete : goal.returns-in_default-padded-clause-complete
returns-in_default-padded-clause-complete c = λ p n sh off fs f r h s l lt.
    let x = room off fs c.args.laid sh c.in-Some.measure l (c.in-Some.ensures.sound p n sh f h) lt in
    c.in_default-padded.ensures.complete x.0 x.1

pub returns-clause-sound : goal.returns-clause-sound
returns-clause-sound c = λ p n sh off fs v f h k l.
    laid_more off fs c.args.laid _ v sh c.in-Some.measure (record { offset = c.in-Some-padded.offset; kind = c.in_ok-kind.kind }) l (c.in-Some.ensures.sound p n sh f h) c.in-Some-padded.ensures.sound (c.in_ok-kind.ensures ∙ sym k)
    c.in-Some-checked_add.ensures.1 c.in_ok-push.ensures.ok c.max-greatest.ensures
