use Rattle.std.proofs.Common.{ap, ◌∙◌}
use Rattle.std.specs.Prelude.{option_map}
use Rattle.change_names.specs.change_pairs.Places.{found_in}
use Rattle.change_names.specs.change_pairs.Private.Variables.{from_at, unless_by}
use Rattle.change_names.proofs.change_pairs.PairLaws.{none_old, some_old}
use Rattle.change_names.proofs.change_pairs.pairs.PairTable.old_name.Goals as goal

pub returns-in-Some : goal.returns-in-Some
returns-in-Some c =
    let i = c.self.inside in
    rw (← c.self.view_is) (some_old i.pairs.items i.names i.sources c.self.invariant c.args.name.now c.in-Some.place (option_map (λ t. t.now) c.unless_later.result) c.in-Some.ensures
    (c.unless_later.ensures ∙ ap (λ f. unless_by (found_in i.sources) f c.in-Some.place) (c.from_at.ensures ∙ ap (λ ps. from_at ps c.in-Some.place) c.deref.ensures.value)))

pub returns-in-None : goal.returns-in-None
returns-in-None c =
    let i = c.self.inside in
    rw (← c.self.view_is) (none_old i.pairs.items i.names i.sources c.self.invariant c.args.name.now c.in-None.ensures)
