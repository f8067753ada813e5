use Rattle.std.proofs.Common.{refl, sym, ap, ◌∙◌, option_map}
use Rattle.value_trees.specs.Value.{value_of}
use Rattle.value_trees.proofs.Parts.{element_exchanged, no_element, no_element_of_index, element_of_index, member_exchanged, no_member}
use Rattle.value_trees.proofs.exchange.+exchange.Goals as goal

pub exchange_element-returns-in-Some-get_mut : goal.exchange_element-returns-in-Some-get_mut
exchange_element-returns-in-Some-get_mut t c =
    element_exchanged c.exchange_at.result c.args.low.now c.args.index.now c.args.items.now c.in-Some.place c.args.rest.now (value_of c.args.new) c.in-Some-get_mut.inner.now c.exchange_at.new.v c.in-Some.ensures (sym c.in-Some-get_mut.ensures.item) c.exchange_at.ensures

pub exchange_element-returns-in-None-get_mut : goal.exchange_element-returns-in-None-get_mut
exchange_element-returns-in-None-get_mut t c =
    no_element c.args.low.now c.args.index.now c.args.items.now c.args.rest.now (value_of c.args.new)
    (element_of_index c.args.low.now c.args.index.now c.args.items.now _ c.in-Some.ensures ∙ ap (option_map value_of) (sym c.in-None-get_mut.ensures.item))

pub exchange_element-returns-in-None : goal.exchange_element-returns-in-None
exchange_element-returns-in-None t c =
    no_element c.args.low.now c.args.index.now c.args.items.now c.args.rest.now (value_of c.args.new) (no_element_of_index c.args.low.now c.args.index.now c.args.items.now c.len.result c.len.ensures c.in-None.ensures)

pub exchange_member-returns-in-Some : goal.exchange_member-returns-in-Some
exchange_member-returns-in-Some t c =
    member_exchanged c.exchange_at.result c.args.members.now c.args.k c.args.rest.now (value_of c.args.new) c.in-Some.member.now _ (sym c.in-Some.ensures.item) refl c.exchange_at.ensures

pub exchange_member-returns-in-None : goal.exchange_member-returns-in-None
exchange_member-returns-in-None t c = no_member c.args.members.now c.args.k c.args.rest.now (value_of c.args.new) (sym c.in-None.ensures.item)
