-- What the names of an item of globals share.
use Rattle.std.specs.Prelude.{◌≡◌, ℕ, List, ◌++◌}
use Rattle.st_tree.specs.declared.declaration.Item.{Item}
use Rattle.st_tree.specs.declared.declaration.Section.{Section}
use Rattle.st_tree.specs.declared.unit.Decl.{Decl}
use Rattle.st_rules.specs.Faults.{least}
use Rattle.st_unit_rules.specs.declared_names.WrittenTypes.{type_written}
use Rattle.st_unit_rules.specs.DeclarationRules.{unit, item_too_deep}
use Rattle.st_unit_rules.specs.VariableRules.{of_globals, item_faults}
use Rattle.global_rules.specs.declared.shared.SharedItem.{SharedItem}

pub record ChecksShared (c : SharedItem) (decls : List (Decl ℕ)) (section : Section ℕ) (item : Item ℕ) : Type 0 where
  pub kind : c.kind ≡ type_written (unit decls) item.kind
  pub least : c.least ≡ least (item_faults (unit decls) of_globals section item ++ item_too_deep decls (unit decls) item)
