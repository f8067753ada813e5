-- What a size tells of types, and sizes level by level.
use Rattle.std.specs.Prelude.{◌≡◌, ℕ, suc, ◌<◌, ◌≤◌, nat_lt, List, map, filter, length, Option, Some, None, slice_get}
use Rattle.std.specs.List.{list_any}
use Rattle.st_types.specs.declared.st_type.StType.{StType}
use Rattle.st_types.specs.declared.st_type.StType.TheVariants as type
use Rattle.st_rules.specs.Scope.{Scope, is_of_instance, variables_of}
use Rattle.st_unit_rules.specs.Limits.{has_depth, kinds_told, sum_of, values_within}
use Rattle.declared_symbols.specs.class_chains.Cells.{AreChains}
use Rattle.declared_symbols.specs.declared.class_chains.chains.ClassChains.{ClassChains}
use Rattle.check_limits.specs.declared.type_sizes.size.Size.{Size}
use Rattle.check_limits.specs.declared.type_sizes.levels.Level.{Level}
use Rattle.check_limits.specs.type_sizes.Size.{capped, nothing, structure, instance}

abbrev pub values_in : Scope → ℕ → List StType → ℕ
values_in s r ts = sum_of s (map (values_within s r) ts)

-- within so many steps, of things of these types together
pub record Tells (s : Scope) (r : ℕ) (size : Size) (ts : List StType) : Type 0 where
  pub values-are : size.values ≡ capped (values_in s r ts)
  pub steps-are : (n : ℕ) → n < r → n ≤ 66 → list_any (has_depth s n) ts ≡ nat_lt n size.steps

-- of one type
pub record IsSize (s : Scope) (r : ℕ) (size : Size) (t : StType) : Type 0 where
  pub values-are : size.values ≡ capped (values_within s r t)
  pub steps-are : (n : ℕ) → n < r → n ≤ 66 → has_depth s n t ≡ nat_lt n size.steps

abbrev pub size_in : Option Size → Size → Size
size_in None other = other
size_in (Some size) other = size

abbrev pub size_or : List Size → ℕ → Size → Size
size_or sizes k other = size_in (slice_get sizes k) other

abbrev pub structure_at : Level → ℕ → Size
structure_at level k = size_or level.structures.items k (structure nothing)

abbrev pub instance_at : Level → ℕ → Size
instance_at level c = size_or level.instances.items c (instance nothing)

abbrev pub structure_in : Option Level → ℕ → Size
structure_in None k = nothing
structure_in (Some level) k = structure_at level k

abbrev pub instance_in : Option Level → ℕ → Size
instance_in None c = nothing
instance_in (Some level) c = instance_at level c

abbrev pub structure_there : List Level → ℕ → ℕ → Size
structure_there levels i k = structure_in (slice_get levels i) k

abbrev pub instance_there : List Level → ℕ → ℕ → Size
instance_there levels i c = instance_in (slice_get levels i) c

-- within so many steps, of all structures and classes
pub record IsLevel (s : Scope) (r : ℕ) (level : Level) : Type 0 where
  pub structures : (k : ℕ) → IsSize s r (structure_at level k) (type.Structure k)
  pub instances : (c : ℕ) → IsSize s r (instance_at level c) (type.Instance c)

-- the first level is within one step
pub record AreLevels (s : Scope) (levels : List Level) : Type 0 where
  pub each : (i : ℕ) (level : Level) → slice_get levels i ≡ Some level → IsLevel s (suc i) level

-- the chains of all classes that the scope sees
pub record AreChainsOf (s : Scope) (chains : ClassChains) : Type 0 where
  pub are : AreChains chains.cells.items s.classes chains.firsts.items
  pub classes : length s.classes ≤ length chains.firsts.items
  pub declared : length s.names.classes ≤ length chains.firsts.items

-- what a class adds to an instance
abbrev pub own_kinds : Scope → ℕ → List StType
own_kinds s b = kinds_told s (map (λ v. v.kind) (filter is_of_instance (variables_of s b)))
