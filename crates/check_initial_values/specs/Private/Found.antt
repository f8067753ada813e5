-- What is found out about the parts of an initial value.
use Rattle.std.specs.Prelude.{◌≡◌, ℕ, List, [], ◌++◌, Option}
use Rattle.st_types.specs.declared.st_type.StType.{StType}
use Rattle.st_tree.specs.declared.initial.FieldInit.{FieldInit}
use Rattle.st_tree.specs.declared.program.Note.{Note}
use Rattle.st_tree.specs.Expression.{Expression}
use Rattle.st_tree.specs.Initial.{Initial, Value, Part, One, Repeated, Parts, FieldInits, initial_of, part_of, field_of, parts_of, fields_of}
use Rattle.st_tree.specs.Number.{number_of}
use Rattle.st_rules.specs.Faults.{Faults, least}
use Rattle.st_rules.specs.Expressions.{note}
use Rattle.st_rules.specs.Literals.{asked_of, past_64_bits}
use Rattle.st_rules.specs.Scope.{Scope}
use Rattle.st_unit_rules.specs.declared_names.Constants.{constant_faults}
use Rattle.st_unit_rules.specs.Initials.{count_parts, list_of_no_array, more_values_than_elements, initial_faults, part_faults, given_faults, given_by, given_type, given_target, typed_initial, typed_parts, typed_fields, typed_constant}
use Rattle.check_initial_values.specs.declared.found.CheckedInitial.{CheckedInitial}
use Rattle.check_initial_values.specs.declared.found.CheckedPart.{CheckedPart}
use Rattle.check_initial_values.specs.declared.found.CheckedParts.{CheckedParts}
use Rattle.check_initial_values.specs.declared.found.CheckedField.{CheckedField}
use Rattle.check_initial_values.specs.declared.found.CheckedFields.{CheckedFields}

pub record ValueChecks (c : CheckedInitial) (s : Scope) (t : Option StType) (e : Expression ℕ) : Type 0 where
  pub least : c.least ≡ least (constant_faults s (asked_of t) e)
  pub tree : initial_of c.tree ≡ Value (typed_constant s (asked_of t) e)

-- what a list in brackets breaks by itself
abbrev pub array_faults : ℕ → Option StType → Parts ℕ → Faults
array_faults line t ps = list_of_no_array line t ++ more_values_than_elements line t (count_parts ps)

-- one part by itself
abbrev pub faults_of_part : Scope → Option StType → Part ℕ → Faults
faults_of_part s t (One i) = initial_faults s t i
faults_of_part s t (Repeated l digits i) = past_64_bits l (number_of digits) ++ initial_faults s t i

abbrev pub typed_part : Scope → Option StType → Part ℕ → Part Note
typed_part s t (One i) = One (typed_initial s t i)
typed_part s t (Repeated l digits i) = Repeated l digits (typed_initial s t i)

pub record PartChecks (x : CheckedPart) (s : Scope) (t : Option StType) (p : Part ℕ) : Type 0 where
  pub least : x.least ≡ least (faults_of_part s t p)
  pub part : part_of x.part ≡ typed_part s t p

pub record PartsFind (x : CheckedParts) (s : Scope) (t : Option StType) (ps : Parts ℕ) : Type 0 where
  pub least : x.least ≡ least (part_faults s t ps)
  pub parts : parts_of x.parts ≡ typed_parts s t ps

-- one value, without what its name breaks
pub record FieldChecks (x : CheckedField) (s : Scope) (t : Option StType) (f : FieldInit ℕ) : Type 0 where
  pub least : x.least ≡ least (initial_faults s (given_type (given_by s t f.name)) (initial_of f.value))
  pub field : let g = given_by s t f.name in field_of x.field ≡ ((note f.note (given_type g) (given_target g)), f.name, (typed_initial s (given_type g) (initial_of f.value)))

pub record FieldsFind (x : CheckedFields) (s : Scope) (t : Option StType) (fs : FieldInits ℕ) : Type 0 where
  pub least : x.least ≡ least (given_faults s t [] fs)
  pub fields : fields_of x.fields ≡ typed_fields s t fs
