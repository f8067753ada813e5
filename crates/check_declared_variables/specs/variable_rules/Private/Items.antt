-- An item, from what was found out about its type and its initial value.
use Rattle.std.specs.Prelude.{◌≡◌, ℕ, if◌then◌else◌, [], Option}
use Rattle.plc_text.specs.declared.code.Code.{Code}
use Rattle.st_types.specs.declared.st_type.StType.{StType}
use Rattle.st_tree.specs.declared.declaration.Item.{Item}
use Rattle.st_tree.specs.declared.declaration.Section.{Section}
use Rattle.st_rules.specs.declared.names.DeclaredNames.{DeclaredNames}
use Rattle.st_rules.specs.Faults.{Faults, earlier}
use Rattle.st_rules.specs.Scope.{is_external}
use Rattle.st_unit_rules.specs.declared_names.Declarations.{item_line}
use Rattle.check_declared_variables.specs.declared.type_rules.types.CheckedType.{CheckedType}
use Rattle.check_declared_variables.specs.declared.variable_rules.given.CheckedGiven.{CheckedGiven}
use Rattle.check_declared_variables.specs.declared.variable_rules.items.CheckedItem.{CheckedItem}
use Rattle.check_declared_variables.specs.declared.variable_rules.items.Head.{Head}
use Rattle.check_declared_variables.specs.variable_rules.Private.Externals.{external_faults}

abbrev pub external_if : DeclaredNames → Section ℕ → Item ℕ → Option StType → Faults
external_if names section item t = if is_external section.sort then external_faults names (item_line item) t item.names else []

pub record IsHead (h : Head) (item : Item ℕ) : Type 0 where
  pub marks : h.marks ≡ item.marks
  pub names : h.names ≡ item.names
  pub address : h.address ≡ item.address

pub record IsItem (c : CheckedItem) (h : Head) (found : CheckedType) (rules : Option (Code × ℕ)) (given : CheckedGiven) : Type 0 where
  pub least : c.least ≡ earlier (earlier found.least rules) given.least
  pub marks : c.item.marks ≡ h.marks
  pub names : c.item.names ≡ h.names
  pub address : c.item.address ≡ h.address
  pub kind : c.item.kind ≡ found.tree
  pub initial : c.item.initial ≡ given.initial
