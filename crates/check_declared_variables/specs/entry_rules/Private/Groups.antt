-- Fields of a structure.
use Rattle.std.specs.Prelude.{◌≡◌, ℕ, false, List, [], ◌∷◌, ◌++◌, flat_map, None, option_map}
use Rattle.st_tree.specs.declared.declaration.FieldGroup.{FieldGroup}
use Rattle.st_tree.specs.declared.name.Name.{Name}
use Rattle.st_tree.specs.Initial.{initial_of}
use Rattle.st_rules.specs.Faults.{Faults, least, earlier}
use Rattle.st_rules.specs.Scope.{Scope}
use Rattle.st_unit_rules.specs.declared_names.Declarations.{item_line_of}
use Rattle.st_unit_rules.specs.declared_names.WrittenTypes.{type_written, type_faults}
use Rattle.st_unit_rules.specs.Checked.{Each, TypedGroup}
use Rattle.st_unit_rules.specs.VariableRules.{instance_out_of_place, initial_if_given}
use Rattle.check_declared_variables.specs.declared.type_rules.types.CheckedType.{CheckedType}
use Rattle.check_declared_variables.specs.declared.variable_rules.given.CheckedGiven.{CheckedGiven}
use Rattle.check_declared_variables.specs.declared.entry_rules.groups.CheckedGroup.{CheckedGroup}
use Rattle.check_declared_variables.specs.declared.entry_rules.groups.CheckedGroups.{CheckedGroups}

abbrev pub group_in : Scope → FieldGroup ℕ → Faults
group_in s g =
    type_faults s g.kind
    ++ instance_out_of_place (item_line_of g.names) false (type_written s g.kind)
    ++ initial_if_given s (type_written s g.kind) (option_map initial_of g.initial)

-- fields of these names, which stand at this line
pub record IsGroup (c : CheckedGroup) (line : ℕ) (own : List Name) (found : CheckedType) (given : CheckedGiven) : Type 0 where
  pub least : c.least ≡ earlier (earlier found.least (least (instance_out_of_place line false found.kind))) given.least
  pub names : c.group.names ≡ own
  pub kind : c.group.kind ≡ found.tree
  pub initial : c.group.initial ≡ given.initial

pub record GroupChecks (c : CheckedGroup) (s : Scope) (g : FieldGroup ℕ) : Type 0 where
  pub least : c.least ≡ least (group_in s g)
  pub tree : TypedGroup s g c.group

pub record NoGroups (x : CheckedGroups) : Type 0 where
  pub least : x.least ≡ None
  pub groups : x.groups ≡ []

pub record AddsGroup (x before : CheckedGroups) (one : CheckedGroup) : Type 0 where
  pub least : x.least ≡ earlier before.least one.least
  pub groups : x.groups ≡ before.groups ++ one.group ∷ []

pub record GroupsFind (x : CheckedGroups) (s : Scope) (gs : List (FieldGroup ℕ)) : Type 0 where
  pub least : x.least ≡ least (flat_map (group_in s) gs)
  pub trees : Each (TypedGroup s) gs x.groups
