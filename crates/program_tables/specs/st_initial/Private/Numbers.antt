-- The numbers with which a variable begins, by its type, to a depth.
use Rattle.std.specs.Prelude.{ℕ, zero, suc, ℤ, pos, ◌+ℤ◌, List, [], ◌∷◌, ◌++◌, take, Option, option_map, slice_get}
use Rattle.st_types.specs.declared.st_type.StType.{StType, out-StType}
use Rattle.st_types.specs.declared.st_type.StType.TheOpen.{StType-F}
use Rattle.st_tree.specs.declared.initial.Init.{Init}
use Rattle.st_tree.specs.declared.path.Step.TheVariants as step
use Rattle.st_tree.specs.declared.program.Note.{Note}
use Rattle.st_tree.specs.Initial.{Initial, FieldInits, initial_of}
use Rattle.st_rules.specs.Chains.{◌or_else◌}
use Rattle.st_values.specs.Initial.{number_given, list_given, fields_given, given_for}
use Rattle.st_values.specs.Program.{Variable, Program, class_variables}
use Rattle.st_values.specs.Shape.{extent}
use Rattle.st_values.specs.Value.{Path}
use Rattle.program_tables.specs.st_initial.RegionNumbers.{further}
use Rattle.program_tables.specs.st_initial.Variables.{fields_at}

-- what gives the numbers of a place of a type
abbrev pub Numbers : Type 0
Numbers = Path → StType → Option (Initial Note) → List (Path × ℤ)

-- of variables, from this number on
abbrev pub variable_numbers : Numbers → Path → ℕ → List Variable → FieldInits Note → List (Path × ℤ)
variable_numbers f q k [] gs = []
variable_numbers f q k (v ∷ vs) gs = f (further q (step.Field k)) v.kind (given_for v.name gs or_else v.initial) ++ variable_numbers f q (suc k) vs gs

-- of so many elements from number k on
abbrev pub element_numbers : Numbers → Path → ℤ → StType → List (Initial Note) → ℕ → ℕ → List (Path × ℤ)
element_numbers f q low t is k zero = []
element_numbers f q low t is k (suc m) = f (further q (step.Element (low +ℤ pos k))) t (slice_get is k) ++ element_numbers f q low t is (suc k) m

abbrev pub level_numbers : Program → Numbers → Path → StType-F StType → Option (Initial Note) → List (Path × ℤ)
level_numbers p f q (StType-F.Elementary e) i = (q, number_given i) ∷ []
level_numbers p f q (StType-F.Enumeration n) i = (q, number_given i) ∷ []
level_numbers p f q (StType-F.Reference c) i = []
level_numbers p f q (StType-F.Interface k) i = []
level_numbers p f q (StType-F.Array low high of) i = element_numbers f q low of (take (extent low high) (list_given i)) 0 (extent low high)
level_numbers p f q (StType-F.Structure n) i = variable_numbers f q 0 (fields_at p n) (fields_given i)
level_numbers p f q (StType-F.Instance c) i = variable_numbers f q 0 (class_variables p c) (fields_given i)

-- of what holds no parts
abbrev pub simple_numbers : Path → StType-F StType → Option (Initial Note) → List (Path × ℤ)
simple_numbers q (StType-F.Elementary e) i = (q, number_given i) ∷ []
simple_numbers q (StType-F.Enumeration n) i = (q, number_given i) ∷ []
simple_numbers q o i = []

abbrev pub type_numbers : Program → ℕ → Numbers
type_numbers p zero q t i = simple_numbers q (out-StType t) i
type_numbers p (suc n) q t i = level_numbers p (type_numbers p n) q (out-StType t) i

abbrev pub given_of : Option (Init Note) → Option (Initial Note)
given_of i = option_map initial_of i
