-- Names with their types and values, and what they declare, numbered one after the other.
use Rattle.std.specs.Prelude.{ℕ, suc, ℤ, Bool, true, false, not, ◌&&◌, ◌||◌, if◌then◌else◌, List, [], ◌∷◌, map, flat_map, Option, Some, None}
use Rattle.st_types.specs.declared.st_type.StType.{StType}
use Rattle.st_tree.specs.declared.declaration.Item.{Item}
use Rattle.st_tree.specs.declared.declaration.Section.{Section}
use Rattle.st_tree.specs.declared.name.Name.{Name}
use Rattle.st_tree.specs.declared.program.Target.{Target}
use Rattle.st_tree.specs.declared.program.Target.TheVariants as target
use Rattle.st_rules.specs.declared.names.DeclaredVariable.{DeclaredVariable}
use Rattle.st_rules.specs.declared.names.DeclaredGlobal.{DeclaredGlobal}
use Rattle.st_rules.specs.declared.names.DeclaredGlobal.TheVariants as global
use Rattle.st_rules.specs.Scope.{Scope, is_instance_sort, is_body_sort}
use Rattle.st_rules.specs.Signatures.{is_parameter_sort}
use Rattle.st_unit_rules.specs.declared_names.WrittenTypes.{type_written}
use Rattle.st_unit_rules.specs.declared_names.Variables.{Written, item_written, constant_target, constant_of, is_parameter_written}
use Rattle.st_unit_rules.specs.declaration_list.Written.{written_in, written_of}
use Rattle.declared_symbols.specs.untold_names.Untold.{untold_variable, number_behind}
use Rattle.type_resolution.specs.declared.declared_variables.names.ToldName.{ToldName as Held}

-- a name, its type where it is told, and the value of a constant where it is told
pub record ToldName : Type 0 where
  pub written : Written
  pub kind : Option StType
  pub value : Option ℤ

abbrev pub told_as : Held → ToldName
told_as t = record { written = written_of t.name; kind = t.kind; value = t.value }

abbrev pub value_in : Scope → Written → Option ℤ
value_in s w = if w.constant then constant_of s w else None

abbrev pub told_of : Scope → Written → ToldName
told_of s w = record { written = w; kind = type_written s w.item.kind; value = value_in s w }

abbrev pub name_told : Option StType → Option ℤ → Written → ToldName
name_told k v w = record { written = w; kind = k; value = v }

abbrev pub named : Section ℕ → Item ℕ → Option StType → Option ℤ → Name → ToldName
named s item k v n = name_told k v (written_in s item n)

abbrev pub names_of_item : Scope → Section ℕ → Item ℕ → List ToldName
names_of_item t s item = map (told_of t) (item_written s item)

abbrev pub names_of_section : Scope → Section ℕ → List ToldName
names_of_section t s = flat_map (names_of_item t s) s.items

-- ---- what it declares

abbrev pub variable_of : Target → ToldName → DeclaredVariable
variable_of meant t = record (untold_variable meant t.written) { kind = t.kind }

-- a constant means its value, else the name what is given
abbrev pub meant_by : ToldName → Target → Target
meant_by t other = if (t.written).constant then constant_target t.value else other

-- each means what stands in its place, where it is no constant
abbrev pub told_like : List DeclaredVariable → List ToldName → List DeclaredVariable
told_like (u ∷ us) (t ∷ ts) = variable_of (meant_by t u.target) t ∷ told_like us ts
told_like _ _ = []

-- a local of a routine that is no parameter
abbrev pub is_other_written : Written → Bool
is_other_written w = (is_instance_sort w.sort || is_body_sort w.sort) && not (is_parameter_sort w.sort) && not w.constant

abbrev pub local_target : ℕ → ℕ → Written → Target
local_target p q w = if is_parameter_written w then target.Local p else if is_other_written w then target.Local q else target.Nothing

-- of a routine: the next parameter has number p, the next of the others number q
abbrev pub locals_told : ℕ → ℕ → List ToldName → List DeclaredVariable
locals_told p q [] = []
locals_told p q (t ∷ ts) =
    variable_of (meant_by t (local_target p q t.written)) t ∷ locals_told (number_behind (is_parameter_written t.written) p) (number_behind (is_other_written t.written) q) ts

-- globals: the next region has number r
abbrev pub globals_told : ℕ → List ToldName → List DeclaredGlobal
globals_told r [] = []
globals_told r (t ∷ ts) = global.Variable (variable_of (meant_by t (target.Region r)) t) ∷ globals_told (number_behind (not (t.written).constant) r) ts

abbrev pub regions_behind : ℕ → List ToldName → ℕ
regions_behind r [] = r
regions_behind r (t ∷ ts) = regions_behind (number_behind (not (t.written).constant) r) ts
