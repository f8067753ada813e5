-- Names that are no externals.
use Rattle.std.specs.Prelude.{Bool, not, List, map, filter}
use Rattle.st_tree.specs.declared.name.Name.{Name}
use Rattle.st_rules.specs.Scope.{is_external}
use Rattle.st_unit_rules.specs.declared_names.Variables.{Written}
use Rattle.st_unit_rules.specs.declaration_list.Written.{written_of}
use Rattle.st_unit_rules.specs.declared.declaration_list.written.WrittenName.{WrittenName}

abbrev pub is_own : Written → Bool
is_own w = not (is_external w.sort)

abbrev pub kept : List WrittenName → List Name
kept ws = map (λ w. w.name) (filter is_own (map written_of ws))
