-- The groups of a unit in the order of its text.
use Rattle.std.specs.Prelude.{ℕ, suc, List, [], ◌∷◌, ◌++◌, ◌&&◌, if◌then◌else◌}
use Rattle.st_tree.specs.declared.declaration.Item.{Item}
use Rattle.st_tree.specs.declared.declaration.Section.{Section}
use Rattle.st_tree.specs.declared.unit.Decl.{Decl}
use Rattle.st_unit_rules.specs.declared_names.Variables.{sections_in}
use Rattle.st_unit_rules.specs.declared_names.Declarations.{Global, Declaration, an_entry, a_global, an_interface, a_class, declarations}
use Rattle.st_unit_rules.specs.declaration_list.Written.{names_in_sections}
use Rattle.resolution_order.specs.telling_list.Jobs.{Numbers, behind, first_numbers}
use Rattle.resolution_order.specs.telling_groups.Groups.{Group, one_entry, one_interface, one_class, globals_of, members_of}
use Rattle.resolution_order.specs.declared.telling_groups.groups.Next.{Next}

-- the first name of an item that declares constants stands for all of them
abbrev pub group_at : (ℕ → Section ℕ → Item ℕ → Group) → ℕ → Global → List Group
group_at group n g = if g.first && (g.written).constant then group n g.section g.item ∷ [] else []

abbrev pub groups_named : (ℕ → Section ℕ → Item ℕ → Group) → ℕ → List Global → List Group
groups_named group n [] = []
groups_named group n (g ∷ gs) = group_at group n g ++ groups_named group (suc n) gs

abbrev pub groups_of : Numbers → Declaration → List Group
groups_of n (an_entry t) = one_entry n.types n.entries t ∷ []
groups_of n (an_interface i) = one_interface n.types n.interfaces ∷ []
groups_of n (a_class d) = one_class n.types n.classes ∷ groups_named (members_of n.classes) 0 (names_in_sections (sections_in d.members))
groups_of n (a_global g) = group_at globals_of n.globals g
groups_of n _ = []

abbrev pub groups_from : Numbers → List Declaration → List Group
groups_from n [] = []
groups_from n (d ∷ ds) = groups_of n d ++ groups_from (behind n d) ds

unfoldable pub groups_in : List (Decl ℕ) → List Group
groups_in decls = groups_from first_numbers (declarations decls)

abbrev pub numbers_of : Next → Numbers
numbers_of n = record { types = n.types; entries = n.entries; interfaces = n.interfaces; classes = n.classes; globals = n.globals }
