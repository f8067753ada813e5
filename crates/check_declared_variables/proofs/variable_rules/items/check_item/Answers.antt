use Rattle.check_declared_variables.proofs.variable_rules.ItemLaws.{item_checks}
use Rattle.check_declared_variables.proofs.variable_rules.items.check_item.Goals as goal

pub returns : goal.returns
returns c =
    item_checks _ _ _ _ _ _ _ _ _ _ _ _ _ _ c.requires.names c.requires.classes c.in_ok-kind.ensures c.in_ok-given.ensures c.item_line.ensures c.own_fault-own.ensures c.external_if-external.ensures c.earlier.ensures c.in_ok-head.ensures c.item_of.ensures
