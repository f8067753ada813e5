-- What is found out about an item.
use Rattle.std.specs.Prelude.{◌≡◌, ℕ}
use Rattle.st_tree.specs.declared.declaration.Item.{Item}
use Rattle.st_tree.specs.declared.declaration.Section.{Section}
use Rattle.st_rules.specs.Faults.{least}
use Rattle.st_rules.specs.Scope.{Scope}
use Rattle.st_unit_rules.specs.VariableRules.{Home, item_faults}
use Rattle.st_unit_rules.specs.Checked.{TypedItem}
use Rattle.check_declared_variables.specs.declared.variable_rules.items.CheckedItem.{CheckedItem}

pub record ChecksItem (c : CheckedItem) (s : Scope) (h : Home) (section : Section ℕ) (item : Item ℕ) : Type 0 where
  pub least : c.least ≡ least (item_faults s h section item)
  pub tree : TypedItem s item c.item
