-- Nodes of initial values, from what was found out about the nodes below them.
use Rattle.std.specs.Prelude.{◌≡◌, ℕ, List, [], ◌∷◌, ◌++◌, map, Option, None}
use Rattle.plc_text.specs.declared.code.Code.{Code}
use Rattle.st_tree.specs.Initial.{Initial, Array, Fields, Part, One, Repeated, initial_of, part_of, field_of, parts_of, fields_of}
use Rattle.st_tree.specs.Number.{number_of}
use Rattle.st_rules.specs.Faults.{least, earlier}
use Rattle.st_rules.specs.Literals.{past_64_bits}
use Rattle.check_initial_values.specs.declared.fields.NotedName.{NotedName}
use Rattle.check_initial_values.specs.declared.found.CheckedInitial.{CheckedInitial}
use Rattle.check_initial_values.specs.declared.found.CheckedPart.{CheckedPart}
use Rattle.check_initial_values.specs.declared.found.CheckedParts.{CheckedParts}
use Rattle.check_initial_values.specs.declared.found.CheckedField.{CheckedField}
use Rattle.check_initial_values.specs.declared.found.CheckedFields.{CheckedFields}

pub record IsArray (c : CheckedInitial) (line : ℕ) (own : Option (Code × ℕ)) (found : CheckedParts) : Type 0 where
  pub least : c.least ≡ earlier own found.least
  pub tree : initial_of c.tree ≡ Array line (parts_of found.parts)

pub record IsFields (c : CheckedInitial) (line : ℕ) (own : Option (Code × ℕ)) (found : CheckedFields) : Type 0 where
  pub least : c.least ≡ earlier own found.least
  pub tree : initial_of c.tree ≡ Fields line (fields_of found.fields)

pub record IsOne (c : CheckedPart) (found : CheckedInitial) : Type 0 where
  pub least : c.least ≡ found.least
  pub part : part_of c.part ≡ One (initial_of found.tree)

pub record IsRepeated (c : CheckedPart) (line : ℕ) (digits : List ℕ) (found : CheckedInitial) : Type 0 where
  pub least : c.least ≡ earlier (least (past_64_bits line (number_of digits))) found.least
  pub part : part_of c.part ≡ Repeated line digits (initial_of found.tree)

pub record NoParts (x : CheckedParts) : Type 0 where
  pub least : x.least ≡ None
  pub parts : map part_of x.parts ≡ []

pub record AddsPart (x before : CheckedParts) (one : CheckedPart) : Type 0 where
  pub least : x.least ≡ earlier before.least one.least
  pub parts : map part_of x.parts ≡ map part_of before.parts ++ part_of one.part ∷ []

pub record NoFields (x : CheckedFields) : Type 0 where
  pub least : x.least ≡ None
  pub fields : map field_of x.fields ≡ []

-- the name of the one breaks this
pub record AddsField (x before : CheckedFields) (name : Option (Code × ℕ)) (one : CheckedField) : Type 0 where
  pub least : x.least ≡ earlier before.least (earlier name one.least)
  pub fields : map field_of x.fields ≡ map field_of before.fields ++ field_of one.field ∷ []

-- a value for a name
pub record IsField (c : CheckedField) (n : NotedName) (found : CheckedInitial) : Type 0 where
  pub least : c.least ≡ found.least
  pub field : field_of c.field ≡ (n.note, n.name, (initial_of found.tree))
