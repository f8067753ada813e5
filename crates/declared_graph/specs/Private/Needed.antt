-- What declarations need to be told, part by part.
use Rattle.std.specs.Prelude.{ℕ, ◌&&◌, if◌then◌else◌, List, [], ◌++◌, option_map, Bool, Some}
use Rattle.st_tree.specs.declared.declaration.Item.{Item}
use Rattle.st_tree.specs.Initial.{initial_of}
use Rattle.st_unit_rules.specs.declared_names.Declarations.{Declaration, Global}
use Rattle.st_unit_rules.specs.Cycles.{needed_for, needed_by_type, needed_by_value, needed}
use Rattle.st_unit_rules.specs.declared.declaration_list.listed.Declared.{Declared}
use Rattle.st_unit_rules.specs.declaration_list.Listed.{declared_as}
use Rattle.declared_graph.specs.declared.names.Named.{Named}
use Rattle.declared_graph.specs.Private.Names.{named_as}
use Rattle.declared_graph.specs.Private.Shared.{is_first}

abbrev pub is_first_of : Declared → Bool
is_first_of d = is_first (declared_as d)

module _ (ds : List Declaration) where
  abbrev pub needed_for_lent : Named → List ℕ
  needed_for_lent n = needed_for ds (named_as n)

  abbrev pub needed_by_item : Item ℕ → List ℕ
  needed_by_item item = needed_by_type ds item.kind ++ needed_by_value ds (option_map initial_of item.initial)

  abbrev pub needed_by_global : Global → List ℕ
  needed_by_global g = if g.first && g.written.constant then needed_by_item g.item else []

  -- once for all names of an item
  abbrev pub needed_once : Declaration → List ℕ
  needed_once d = if is_first d then needed ds (Some d) else []

  abbrev pub needed_of : Declared → List ℕ
  needed_of d = needed_once (declared_as d)
