use Rattle.std.proofs.Common.{sym, ap, ◌∙◌, option_map}
use Rattle.value_trees.specs.Value.{value_of}
use Rattle.value_trees.proofs.Parts.{element_of_index, no_element_of_index, seen}
use Rattle.change_carry.proofs.parts.element_before.Goals as goal

pub returns-in-Some : goal.returns-in-Some
returns-in-Some c = sym (element_of_index c.args.before.now.low c.args.index.now c.args.before.now.values.now _ c.in-Some.ensures ∙ ap (option_map value_of) (sym c.get.ensures.value) ∙ seen c.get.result)

pub returns-in-None : goal.returns-in-None
returns-in-None c = sym (no_element_of_index c.args.before.now.low c.args.index.now c.args.before.now.values.now c.len.result c.len.ensures c.in-None.ensures)
