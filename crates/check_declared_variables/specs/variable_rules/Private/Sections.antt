-- Sections, one item or one section after the other.
use Rattle.std.specs.Prelude.{◌≡◌, ℕ, List, [], ◌∷◌, ◌++◌, flat_map, Option, None}
use Rattle.plc_text.specs.declared.code.Code.{Code}
use Rattle.st_tree.specs.declared.declaration.Item.{Item}
use Rattle.st_tree.specs.declared.declaration.Section.{Section}
use Rattle.st_tree.specs.declared.declaration.Modifier.{Modifier}
use Rattle.st_rules.specs.Faults.{least, earlier}
use Rattle.st_rules.specs.Scope.{Scope}
use Rattle.st_unit_rules.specs.VariableRules.{Home, item_faults}
use Rattle.st_unit_rules.specs.Checked.{Each, TypedItem}
use Rattle.check_declared_variables.specs.declared.variable_rules.items.CheckedItem.{CheckedItem}
use Rattle.check_declared_variables.specs.declared.variable_rules.sections.CheckedItems.{CheckedItems}
use Rattle.check_declared_variables.specs.declared.variable_rules.sections.CheckedSection.{CheckedSection}
use Rattle.check_declared_variables.specs.declared.variable_rules.sections.CheckedSections.{CheckedSections}

pub record NoItems (x : CheckedItems) : Type 0 where
  pub least : x.least ≡ None
  pub items : x.items ≡ []

pub record AddsItem (x before : CheckedItems) (one : CheckedItem) : Type 0 where
  pub least : x.least ≡ earlier before.least one.least
  pub items : x.items ≡ before.items ++ one.item ∷ []

-- items of a section
pub record ItemsFind (x : CheckedItems) (s : Scope) (h : Home) (section : Section ℕ) (all : List (Item ℕ)) : Type 0 where
  pub least : x.least ≡ least (flat_map (item_faults s h section) all)
  pub items : Each (TypedItem s) all x.items

-- with these words and items, whose words break this
pub record IsSection (c : CheckedSection) (section : Section ℕ) (words : List Modifier) (heading : Option (Code × ℕ)) (found : CheckedItems) : Type 0 where
  pub least : c.least ≡ earlier heading found.least
  pub line : c.section.line ≡ section.line
  pub sort : c.section.sort ≡ section.sort
  pub modifiers : c.section.modifiers ≡ words
  pub items : c.section.items ≡ found.items

pub record NoSections (x : CheckedSections) : Type 0 where
  pub least : x.least ≡ None
  pub sections : x.sections ≡ []

pub record AddsSection (x before : CheckedSections) (one : CheckedSection) : Type 0 where
  pub least : x.least ≡ earlier before.least one.least
  pub sections : x.sections ≡ before.sections ++ one.section ∷ []
