-- A global of an item.
use Rattle.std.specs.Prelude.{ℕ, Bool}
use Rattle.st_tree.specs.declared.declaration.Item.{Item}
use Rattle.st_tree.specs.declared.declaration.Section.{Section}
use Rattle.st_tree.specs.declared.name.Name.{Name}
use Rattle.st_unit_rules.specs.declared_names.Declarations.{Global}
use Rattle.st_unit_rules.specs.declaration_list.Written.{written_in}

abbrev pub global_with : Section ℕ → Item ℕ → Bool → Name → Global
global_with s item first n = record { section = s; item = item; written = written_in s item n; first = first }
