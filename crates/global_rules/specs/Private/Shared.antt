-- An item of globals from what was found out about its type and about the rest.
use Rattle.std.specs.Prelude.{◌≡◌, ℕ, List}
use Rattle.st_tree.specs.declared.declaration.Item.{Item}
use Rattle.st_tree.specs.declared.unit.Decl.{Decl}
use Rattle.st_rules.specs.Faults.{least, earlier}
use Rattle.st_unit_rules.specs.declared_names.WrittenTypes.{type_written}
use Rattle.st_unit_rules.specs.DeclarationRules.{unit, item_too_deep}
use Rattle.check_declared_variables.specs.declared.type_rules.types.CheckedType.{CheckedType}
use Rattle.check_declared_variables.specs.declared.variable_rules.items.CheckedItem.{CheckedItem}
use Rattle.global_rules.specs.declared.shared.SharedItem.{SharedItem}

pub record IsShared (c : SharedItem) (kind : CheckedType) (item : CheckedItem) (decls : List (Decl ℕ)) (written : Item ℕ) : Type 0 where
  pub kind-is : c.kind ≡ kind.kind
  pub least-is : kind.kind ≡ type_written (unit decls) written.kind → c.least ≡ earlier item.least (least (item_too_deep decls (unit decls) written))
