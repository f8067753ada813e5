-- Places of what declarations contain, part by part.
use Rattle.std.specs.Prelude.{ℕ, if◌then◌else◌, List, [], Some}
use Rattle.st_tree.specs.declared.declaration.FieldGroup.{FieldGroup}
use Rattle.st_unit_rules.specs.declared_names.Variables.{Written, is_kept_written}
use Rattle.st_unit_rules.specs.declared_names.Declarations.{Declaration}
use Rattle.st_unit_rules.specs.Cycles.{types_named, element_names, contained}
use Rattle.st_unit_rules.specs.declared.declaration_list.listed.Declared.{Declared}
use Rattle.st_unit_rules.specs.declared.declaration_list.written.WrittenName.{WrittenName}
use Rattle.st_unit_rules.specs.declaration_list.Listed.{declared_as}
use Rattle.st_unit_rules.specs.declaration_list.Written.{written_of}

module _ (ds : List Declaration) where
  abbrev pub group_places : FieldGroup ℕ → List ℕ
  group_places g = types_named ds (element_names g.kind.element)

  abbrev pub kept_places : Written → List ℕ
  kept_places w = if is_kept_written w then types_named ds (element_names w.item.kind.element) else []

  abbrev pub name_places : WrittenName → List ℕ
  name_places w = kept_places (written_of w)

  abbrev pub contained_of : Declared → List ℕ
  contained_of d = contained ds (Some (declared_as d))
