-- The names that sections declare, one by one, and such a name as the code lends it.
use Rattle.std.specs.Prelude.{ℕ, Bool, true, false, List, [], ◌∷◌, flat_map}
use Rattle.st_tree.specs.declared.declaration.Item.{Item}
use Rattle.st_tree.specs.declared.declaration.Section.{Section}
use Rattle.st_tree.specs.declared.name.Name.{Name}
use Rattle.st_rules.specs.Modifiers.{written_access}
use Rattle.st_unit_rules.specs.declared_names.Variables.{Written, declares_constants, section_access, item_written}
use Rattle.st_unit_rules.specs.declared_names.Declarations.{Global}
use Rattle.st_unit_rules.specs.declared.declaration_list.written.WrittenName.{WrittenName}

-- what section and item say of a name
abbrev pub written_in : Section ℕ → Item ℕ → Name → Written
written_in s item n = record { sort = s.sort; constant = declares_constants s; access = section_access s.sort (written_access s.modifiers); name = n; item = item }

abbrev pub written_of : WrittenName → Written
written_of w = written_in w.section.now w.item.now w.name.now

-- a name with its section and its item, and whether it is the first of the item
abbrev pub global_of : WrittenName → Global
global_of w = record { section = w.section.now; item = w.item.now; written = written_of w; first = w.first }

abbrev pub names_from : Section ℕ → Item ℕ → Bool → List Written → List Global
names_from s item first [] = []
names_from s item first (w ∷ ws) = record { section = s; item = item; written = w; first = first } ∷ names_from s item false ws

abbrev pub names_in_item : Section ℕ → Item ℕ → List Global
names_in_item s item = names_from s item true (item_written s item)

abbrev pub names_in_section : Section ℕ → List Global
names_in_section s = flat_map (names_in_item s) s.items

abbrev pub names_in_sections : List (Section ℕ) → List Global
names_in_sections ss = flat_map names_in_section ss
