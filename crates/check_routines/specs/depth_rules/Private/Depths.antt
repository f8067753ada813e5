-- Depths of the items of one section.
use Rattle.std.specs.Prelude.{ℕ, if◌then◌else◌, List, [], flat_map}
use Rattle.st_tree.specs.declared.declaration.Section.{Section}
use Rattle.st_tree.specs.declared.unit.Decl.{Decl}
use Rattle.st_rules.specs.Faults.{Faults}
use Rattle.st_rules.specs.Scope.{Scope, is_external}
use Rattle.st_unit_rules.specs.DeclarationRules.{item_too_deep}

abbrev pub section_too_deep : List (Decl ℕ) → Scope → Section ℕ → Faults
section_too_deep decls s x = if is_external x.sort then [] else flat_map (item_too_deep decls s) x.items
