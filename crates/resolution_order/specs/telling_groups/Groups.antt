-- What is told of a unit together: a type, or the constants that one item declares, which have one type and one value.
use Rattle.std.specs.Prelude.{ℕ, suc, List, [], ◌∷◌}
use Rattle.st_tree.specs.declared.declaration.Item.{Item}
use Rattle.st_tree.specs.declared.declaration.Section.{Section}
use Rattle.st_tree.specs.declared.declaration.TypeDecl.{TypeDecl}
use Rattle.st_unit_rules.specs.declared_names.Variables.{Written, item_written}
use Rattle.resolution_order.specs.telling_list.Jobs.{Job, of_entry, of_interface, of_class, of_global, of_member}
use Rattle.resolution_order.specs.declared.telling_groups.groups.Group.{Group as Held}
use Rattle.resolution_order.specs.declared.telling_groups.groups.Group.TheVariants as code

pub data Group : Type 0 where
  -- the number among types, and the number among its sort
  one_entry : ℕ → ℕ → TypeDecl ℕ → Group
  one_interface : ℕ → ℕ → Group
  one_class : ℕ → ℕ → Group
  -- the constants of an item, the first with this number among globals and functions
  globals_of : ℕ → Section ℕ → Item ℕ → Group
  -- the same in the class of this number, the first with this number among what the class declares
  members_of : ℕ → ℕ → Section ℕ → Item ℕ → Group

abbrev pub each_name : (ℕ → Written → Job) → ℕ → List Written → List Job
each_name job n [] = []
each_name job n (w ∷ ws) = job n w ∷ each_name job (suc n) ws

-- what can be told by it, one by one
abbrev pub jobs_of_group : Group → List Job
jobs_of_group (one_entry n e t) = of_entry n e t ∷ []
jobs_of_group (one_interface n i) = of_interface n i ∷ []
jobs_of_group (one_class n c) = of_class n c ∷ []
jobs_of_group (globals_of n s item) = each_name of_global n (item_written s item)
jobs_of_group (members_of c i s item) = each_name (of_member c) i (item_written s item)

-- as the code lends it
abbrev pub group_of : Held → Group
group_of (code.Entry n e t) = one_entry n e t.now
group_of (code.Interface n i d) = one_interface n i
group_of (code.Class n c d) = one_class n c
group_of (code.Globals n w) = globals_of n w.section.now w.item.now
group_of (code.Members c i w) = members_of c i w.section.now w.item.now
