-- E16: the limits of what a unit declares: counts, depths and values.
use Rattle.std.specs.Prelude.{ℕ, zero, suc, ◌+◌, ◌*◌, max, nat_eq, nat_lt, nat_le, ◌-ℤ◌, Bool, true, false, not, ◌&&◌, ◌||◌, if◌then◌else◌, List, [], ◌∷◌, ◌++◌, map, flat_map, filter, length, Option, Some, None}
use Rattle.std.specs.List.{list_any}
use Rattle.std.specs.Option.{option_to_list}
use Rattle.plc_text.specs.declared.code.Code.TheVariants.{E16}
use Rattle.st_types.specs.declared.st_type.StType.{StType, out-StType}
use Rattle.st_types.specs.declared.st_type.StType.TheOpen.{StType-F}
use Rattle.st_tree.specs.declared.declaration.ClassDecl.{ClassDecl}
use Rattle.st_tree.specs.declared.declaration.InterfaceDecl.{InterfaceDecl}
use Rattle.st_tree.specs.declared.declaration.SectionSort.{SectionSort}
use Rattle.st_tree.specs.declared.declaration.SectionSort.TheVariants as sort
use Rattle.st_tree.specs.declared.type_spec.TypeSpec.{TypeSpec}
use Rattle.st_rules.specs.declared.names.DeclaredVariable.{DeclaredVariable}
use Rattle.st_rules.specs.Classes.{base_of, chain}
use Rattle.st_rules.specs.Interfaces.{extended}
use Rattle.st_rules.specs.Faults.{Faults, when}
use Rattle.st_rules.specs.Scope.{Scope, is_of_instance, parts_of, field_list, variables_of}
use Rattle.st_unit_rules.specs.declared_names.WrittenTypes.{array_depth, type_written}
use Rattle.st_unit_rules.specs.declared_names.Declarations.{Declaration}
use Rattle.st_unit_rules.specs.Worth.{count_to}
use Rattle.st_unit_rules.specs.Cycles.{element_names, types_named, leads_to_cycle, lies_on_cycle}

-- ---- counts over the unit: the declaration that passes a limit is bad

abbrev pub passes_count : ℕ → ℕ → ℕ → Faults
passes_count line limit before = when (nat_eq before limit) E16 line

abbrev pub too_many_declarations : ℕ → ℕ → Faults
too_many_declarations line before = passes_count line 4_096 before

abbrev pub too_many_classes : ℕ → ℕ → Faults
too_many_classes line before = passes_count line 1_024 before

abbrev pub too_many_regions : ℕ → ℕ → Faults
too_many_regions line before = passes_count line 1_024 before

abbrev pub too_many_tasks : ℕ → ℕ → Faults
too_many_tasks line before = passes_count line 16 before

-- the region with which the values of all come above the limit
abbrev pub too_many_values : ℕ → ℕ → ℕ → Faults
too_many_values line before own = when (nat_le before 131_072 && nat_lt 131_072 (before + own)) E16 line

-- ---- counts within a declaration

abbrev pub too_many_methods : ℕ → ℕ → Faults
too_many_methods line n = when (nat_lt 256 n) E16 line

abbrev pub too_many_parameters : ℕ → ℕ → Faults
too_many_parameters line n = when (nat_lt 32 n) E16 line

abbrev pub too_many_locals : ℕ → ℕ → Faults
too_many_locals line values = when (nat_lt 1_024 values) E16 line

-- ---- steps: of containment, from a class to its base, from an interface to one that it extends

-- a way has at most so many
abbrev pub most_steps : ℕ
most_steps = 64

-- a way of so many steps that meets no cycle
abbrev pub has_way : (ℕ → List ℕ) → ℕ → ℕ → ℕ → Bool
has_way ahead count zero i = true
has_way ahead count (suc n) i = list_any (λ k. not (lies_on_cycle ahead count k) && has_way ahead count n k) (ahead i)

-- more steps lead up than may
abbrev pub too_many_above : ℕ → (ℕ → List ℕ) → ℕ → ℕ → Faults
too_many_above line ahead count i = when (has_way ahead count (suc most_steps) i) E16 line

abbrev pub bases_of : List (ClassDecl ℕ) → ℕ → List ℕ
bases_of classes c = option_to_list (base_of classes c)

abbrev pub too_many_bases : ℕ → List (ClassDecl ℕ) → ℕ → Faults
too_many_bases line classes c = too_many_above line (bases_of classes) (length classes) c

abbrev pub too_many_interfaces_above : ℕ → List (InterfaceDecl ℕ) → ℕ → Faults
too_many_interfaces_above line interfaces i = too_many_above line (extended interfaces) (length interfaces) i

-- ---- types by what they contain

-- arrays of arrays, more than may be
abbrev pub has_many_dimensions : Option StType → Bool
has_many_dimensions None = false
has_many_dimensions (Some t) = nat_lt most_steps (array_depth t)

module _ (s : Scope) where
  abbrev pub kinds_told : List (Option StType) → List StType
  kinds_told [] = []
  kinds_told (None ∷ ts) = kinds_told ts
  kinds_told (Some t ∷ ts) = t ∷ kinds_told ts

  abbrev pub field_kinds : ℕ → List StType
  field_kinds n = kinds_told (map (λ f. f.kind) (field_list (parts_of s n)))

  -- variables of an instance, those of its bases among them
  abbrev pub variable_kinds : ℕ → List StType
  variable_kinds c = kinds_told (map (λ v. v.kind) (filter is_of_instance (flat_map (variables_of s) (chain s.classes c))))

  -- the types of what a type contains directly
  abbrev pub contents : StType-F StType → List StType
  contents (StType-F.Array low high of) = of ∷ []
  contents (StType-F.Structure n) = field_kinds n
  contents (StType-F.Instance c) = variable_kinds c
  contents _ = []

  abbrev pub is_composite : StType-F StType → Bool
  is_composite (StType-F.Array low high of) = true
  is_composite (StType-F.Structure n) = true
  is_composite (StType-F.Instance c) = true
  is_composite _ = false

  -- a step of containment leads from an array, a structure or an instance to one directly in it
  abbrev pub has_depth : ℕ → StType → Bool
  has_depth zero t = is_composite (out-StType t)
  has_depth (suc n) t = is_composite (out-StType t) && list_any (has_depth n) (contents (out-StType t))

  abbrev pub has_depth_told : ℕ → Option StType → Bool
  has_depth_told n None = false
  has_depth_told n (Some t) = has_depth n t

  -- a type of more steps than may be
  abbrev pub is_too_deep : StType → Bool
  is_too_deep t = has_depth (suc most_steps) t

  module _ (ds : List Declaration) where
    -- what contains itself, or leads to what does, has no depth
    abbrev pub is_endless : TypeSpec ℕ → Bool
    is_endless t = list_any (leads_to_cycle ds) (types_named ds (element_names t.element))

    -- the written type of an entry of TYPE: more than so many steps of containment
    abbrev pub too_deep : ℕ → ℕ → TypeSpec ℕ → Faults
    too_deep n line t = when (has_depth_told (suc n) (type_written s t) && not (is_endless t)) E16 line

    -- that of a variable, a parameter or a result: more dimensions neither
    abbrev pub variable_too_deep : ℕ → ℕ → TypeSpec ℕ → Faults
    variable_too_deep n line t = when ((has_many_dimensions (type_written s t) || has_depth_told (suc n) (type_written s t)) && not (is_endless t)) E16 line

  -- ---- counted values

  abbrev pub sum_of : List ℕ → ℕ
  sum_of [] = 0
  sum_of (n ∷ ns) = n + sum_of ns

  -- elementary values, enumerations, references and interface values, and each instance as one more; a structure is its fields, and one
  -- value where it has none
  abbrev pub level_values : (StType → ℕ) → StType-F StType → ℕ
  level_values f (StType-F.Array low high of) = count_to (high -ℤ low) * f of
  level_values f (StType-F.Structure n) = max 1 (sum_of (map f (field_kinds n)))
  level_values f (StType-F.Instance c) = suc (sum_of (map f (variable_kinds c)))
  level_values f t = 1

  -- in the first levels of a type, so many
  abbrev pub values_within : ℕ → StType → ℕ
  values_within zero t = 0
  values_within (suc n) t = level_values (values_within n) (out-StType t)

  -- Nothing is counted of a type that cannot be told, nor of one that is too deep or has too many dimensions: it contains itself, or leads
  -- to what does, or breaks a limit by itself.
  unfoldable pub values_of : Option StType → ℕ
  values_of None = 0
  values_of (Some t) = if has_many_dimensions (Some t) || is_too_deep t then 0 else values_within (suc (suc most_steps)) t

  abbrev pub is_in_out : SectionSort → Bool
  is_in_out sort.InOut = true
  is_in_out _ = false

  -- an in-out is one value
  abbrev pub variable_values : DeclaredVariable → ℕ
  variable_values v = if is_in_out v.sort then 1 else values_of v.kind

  abbrev pub all_values : List DeclaredVariable → ℕ
  all_values vs = sum_of (map variable_values vs)
