use Rattle.std.proofs.Common.{ap, ◌∙◌}
use Rattle.std.specs.Prelude.{option_map}
use Rattle.change_names.specs.change_pairs.Private.Variables.{named_at}
use Rattle.change_names.proofs.change_pairs.PairLaws.{none_new, some_new}
use Rattle.change_names.proofs.change_pairs.pairs.PairTable.new_name.Goals as goal

pub returns-in-Some : goal.returns-in-Some
returns-in-Some c =
    let i = c.self.inside in
    rw (← c.self.view_is) (some_new i.pairs.items i.names i.sources c.self.invariant c.args.old.now c.in-Some.place (option_map (λ t. t.now) c.name_at.result) c.in-Some.ensures
    (c.name_at.ensures ∙ ap (λ ps. named_at ps c.in-Some.place) c.deref.ensures.value))

pub returns-in-None : goal.returns-in-None
returns-in-None c =
    let i = c.self.inside in
    rw (← c.self.view_is) (none_new i.pairs.items i.names i.sources c.self.invariant c.args.old.now c.in-None.ensures)
