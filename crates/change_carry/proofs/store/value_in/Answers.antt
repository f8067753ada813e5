use Rattle.std.proofs.Common.{sym, ap, ◌∙◌, option_map}
use Rattle.value_trees.specs.declared.value.Member.{Member}
use Rattle.value_trees.specs.Value.{value_of}
use Rattle.value_trees.proofs.Parts.{members_get}
use Rattle.change_carry.proofs.store.value_in.Goals as goal

pub returns-in-Some : goal.returns-in-Some
returns-in-Some c = sym (members_get c.args.store.now c.args.region ∙ ap (option_map (λ (m : Member). value_of m.value)) (sym c.in-Some.ensures.value))

pub returns-in-None : goal.returns-in-None
returns-in-None c = sym (members_get c.args.store.now c.args.region ∙ ap (option_map (λ (m : Member). value_of m.value)) (sym c.in-None.ensures.value))
