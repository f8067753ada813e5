-- Within how many steps of containment a type has a worth, whatever is given. A type has none where a type in it cannot be told, where it
-- contains itself or an instance, and where it has more steps than there may be.
use Rattle.std.specs.Prelude.{◌≡◌, ℕ, zero, suc, ◌≤◌, nat_le, ℤ, ◌-ℤ◌, Bool, true, false, ◌&&◌, ◌||◌, List, [], ◌∷◌, map, flat_map, Option, Some, None, slice_get, get_or}
use Rattle.st_types.specs.declared.st_type.StType.{StType, out-StType}
use Rattle.st_types.specs.declared.st_type.StType.TheVariants as type
use Rattle.st_types.specs.declared.st_type.StType.TheOpen.{StType-F}
use Rattle.st_tree.specs.declared.declaration.FieldGroup.{FieldGroup}
use Rattle.st_tree.specs.declared.declaration.TypeDecl.{TypeDecl}
use Rattle.st_rules.specs.declared.names.TypeParts.{TypeParts}
use Rattle.st_rules.specs.Scope.{Scope, field_list}
use Rattle.st_unit_rules.specs.declared_names.WrittenTypes.{type_written}
use Rattle.st_unit_rules.specs.Worth.{count_to, groups_of}

abbrev pub is_zero : ℕ → Bool
is_zero zero = true
is_zero (suc n) = false

abbrev pub passes_told : (StType → Bool) → Option StType → Bool
passes_told test None = false
passes_told test (Some t) = test t

abbrev pub pass_all_told : (StType → Bool) → List (Option StType) → Bool
pass_all_told test [] = true
pass_all_told test (t ∷ ts) = passes_told test t && pass_all_told test ts

abbrev pub kinds_in : Option TypeParts → List (Option StType)
kinds_in None = []
kinds_in (Some p) = map (λ f. f.kind) (field_list p)

-- what is not there has no fields
abbrev pub count_at : List ℕ → ℕ → ℕ
count_at structures n = get_or structures n 1

module _ (unit : Scope) (entries : List (TypeDecl ℕ)) where
  abbrev pub group_kinds : FieldGroup ℕ → List (Option StType)
  group_kinds g = map (λ n. type_written unit g.kind) g.names

  -- the types of the fields of a structure
  abbrev pub field_kinds : ℕ → List (Option StType)
  field_kinds n = flat_map group_kinds (groups_of (slice_get entries n))

  abbrev pub has_level : (StType → Bool) → StType-F StType → Bool
  has_level test (StType-F.Elementary e) = true
  has_level test (StType-F.Enumeration n) = true
  has_level test (StType-F.Reference c) = true
  has_level test (StType-F.Interface k) = true
  has_level test (StType-F.Array low high of) = is_zero (count_to (high -ℤ low)) || test of
  has_level test (StType-F.Structure n) = pass_all_told test (field_kinds n)
  has_level test (StType-F.Instance c) = false

  -- a type whose worth takes no more steps
  abbrev pub takes_steps : ℕ → StType → Bool
  takes_steps zero t = false
  takes_steps (suc n) t = has_level (takes_steps n) (out-StType t)

  -- ---- steps by number

  -- what takes more than 66 steps has the number 67
  pub record IsCount (steps : ℕ) (t : StType) : Type 0 where
    pub is : (n : ℕ) → n ≤ 66 → takes_steps n t ≡ nat_le steps n

  -- the types of fields as a unit's names have them
  pub record AreFields (parts : List TypeParts) : Type 0 where
    pub kinds : (n : ℕ) → kinds_in (slice_get parts n) ≡ field_kinds n

  pub record AreCounts (structures : List ℕ) : Type 0 where
    pub each : (n : ℕ) → IsCount (count_at structures n) (type.Structure n)
