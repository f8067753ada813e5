-- Parameters with numbers for what their initial values are worth.
use Rattle.std.specs.Prelude.{ℕ, Bool, true, false, not, ◌&&◌, if◌then◌else◌, List, [], map, flat_map, Option, Some, None, option_map}
use Rattle.st_types.specs.declared.st_type.StType.{StType}
use Rattle.st_tree.specs.declared.declaration.Item.{Item}
use Rattle.st_tree.specs.declared.declaration.Section.{Section}
use Rattle.st_tree.specs.declared.declaration.SectionSort.{SectionSort}
use Rattle.st_tree.specs.declared.declaration.SectionSort.TheVariants as sort
use Rattle.st_tree.specs.declared.initial.Init.{Init}
use Rattle.st_tree.specs.declared.name.Name.{Name}
use Rattle.st_tree.specs.declared.type_spec.TypeSpec.{TypeSpec}
use Rattle.st_tree.specs.Initial.{initial_of}
use Rattle.st_rules.specs.declared.signature.Parameter.{Parameter}
use Rattle.st_rules.specs.declared.signature.ResultType.{ResultType}
use Rattle.st_rules.specs.declared.signature.ResultType.TheVariants.{Nothing, Written}
use Rattle.st_rules.specs.Modifiers.{is_constant}
use Rattle.st_rules.specs.Scope.{Scope}
use Rattle.st_rules.specs.Signatures as signatures
use Rattle.st_unit_rules.specs.declared_names.Declarations.{entries_in}
use Rattle.st_unit_rules.specs.declared_names.WrittenTypes.{type_written}
use Rattle.st_unit_rules.specs.DeclarationRules.{unit}
use Rattle.st_unit_rules.specs.Worth.{Worth, typed_worth, worth_within, worth_of}
use Rattle.default_values.specs.declared.worth_numbers.node.Node.{Node}
use Rattle.default_values.specs.worth_numbers.Numbers.{Grows, HasWorth}
use Rattle.default_values.specs.initial_worths.Structures.{IsTold, AreStructures}
use Rattle.default_values.specs.numbered_signatures.Alike.{IsAlikeParameter}
use Rattle.check_signatures.specs.declared.unit_signatures.weighed.Weighed.{Weighed}

-- the structures are weighed, in a table with these nodes
abbrev pub AreWeighed : Weighed → List Node → Type 0
AreWeighed w nodes = AreStructures nodes (unit w.tables.now.decls) (entries_in w.tables.now.decls) 66 w.structures.now

abbrev pub parameter_tells : List Node → Parameter ℕ → Parameter Worth → Type 0
parameter_tells nodes p q = IsAlikeParameter (HasWorth nodes) p q

abbrev pub numbered : SectionSort → Option StType → Option ℕ → Name → Parameter ℕ
numbered sort kind initial n = record { sort = sort; name = n.text; kind = kind; initial = initial }

-- ---- initial values

-- what an initial value is worth where a value of the type stands, if the type is told
abbrev pub worth_in : Weighed → Scope → Option StType → Option (Init ℕ) → Option Worth
worth_in w s kind i = typed_worth (unit w.tables.now.decls) (entries_in w.tables.now.decls) (worth_within (unit w.tables.now.decls) (entries_in w.tables.now.decls) 66) s kind (option_map initial_of i)

abbrev pub is_in_out : SectionSort → Bool
is_in_out sort.InOut = true
is_in_out _ = false

-- an in-out has no initial value
abbrev pub initial_in : Weighed → Scope → SectionSort → Option StType → Option (Init ℕ) → Option Worth
initial_in w s sort.InOut kind i = None
initial_in w s _ kind i = worth_in w s kind i

pub record FindsWorth (w : Weighed) (old new : List Node) (s : Scope) (kind : Option StType) (i : Option (Init ℕ)) (r : Option ℕ) : Type 0 where
  pub grows : Grows old new
  pub told : AreWeighed w old → IsTold new r (worth_in w s kind i)

pub record FindsInitial (w : Weighed) (old new : List Node) (s : Scope) (sort : SectionSort) (kind : Option StType) (i : Option (Init ℕ)) (r : Option ℕ) : Type 0 where
  pub grows : Grows old new
  pub told : AreWeighed w old → IsTold new r (initial_in w s sort kind i)

-- ---- parameters as the rules of the unit have them

abbrev pub value_in : Weighed → Scope → TypeSpec ℕ → Option (Init ℕ) → Option Worth
value_in w s t i = worth_of (unit w.tables.now.decls) (entries_in w.tables.now.decls) s t (option_map initial_of i)

abbrev pub item_parameters : Weighed → Scope → SectionSort → Item ℕ → List (Parameter Worth)
item_parameters w s sort i = map (signatures.parameter (type_written s) (value_in w s) sort i) i.names

abbrev pub has_parameters : Section ℕ → Bool
has_parameters x = signatures.is_parameter_sort x.sort && not (is_constant x.modifiers)

abbrev pub section_parameters : Weighed → Scope → Section ℕ → List (Parameter Worth)
section_parameters w s x = signatures.section_parameters (type_written s) (value_in w s) x

abbrev pub result_in : Scope → Option (TypeSpec ℕ) → ResultType
result_in s None = Nothing
result_in s (Some t) = Written (type_written s t)
