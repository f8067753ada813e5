-- The names that items declare.
use Rattle.std.specs.Prelude.{ℕ, List, flat_map}
use Rattle.st_tree.specs.declared.declaration.Item.{Item}
use Rattle.st_tree.specs.declared.declaration.Section.{Section}
use Rattle.st_tree.specs.declared.name.Name.{Name}

abbrev pub item_names : List (Item ℕ) → List Name
item_names items = flat_map (λ item. item.names) items

abbrev pub names_in_sections : List (Section ℕ) → List Name
names_in_sections ss = flat_map (λ s. item_names s.items) ss
