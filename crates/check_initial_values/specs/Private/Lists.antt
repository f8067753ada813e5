-- Lists that are still to come: what was done so far, and what the rest gives, is the whole.
use Rattle.std.specs.Prelude.{◌≡◌, ℕ, List, [], ◌∷◌, map, take, drop, Option}
use Rattle.st_types.specs.declared.st_type.StType.{StType}
use Rattle.st_tree.specs.declared.initial.FieldInit.{FieldInit}
use Rattle.st_tree.specs.declared.program.Note.{Note}
use Rattle.st_tree.specs.Initial.{Initial, Part, Parts, part_then, FieldInits, field_then, part_of, field_of, fields_of}
use Rattle.st_rules.specs.Faults.{least, earlier}
use Rattle.st_rules.specs.Scope.{Scope}
use Rattle.st_unit_rules.specs.Initials.{part_faults, given_faults, typed_parts, typed_fields}
use Rattle.check_names.specs.name_spaces.Held.{Holds}
use Rattle.check_initial_values.specs.declared.found.CheckedParts.{CheckedParts}
use Rattle.check_initial_values.specs.declared.found.CheckedFields.{CheckedFields}

abbrev pub parts_onto : List (Part Note) → Parts Note → Parts Note
parts_onto [] rest = rest
parts_onto (p ∷ ps) rest = part_then p (parts_onto ps rest)

pub record PartsLeft (x : CheckedParts) (s : Scope) (t : Option StType) (rest all : Parts ℕ) : Type 0 where
  pub broken : earlier x.least (least (part_faults s t rest)) ≡ least (part_faults s t all)
  pub tree : parts_onto (map part_of x.parts) (typed_parts s t rest) ≡ typed_parts s t all

abbrev pub fields_onto : List (Note × List ℕ × Initial Note) → FieldInits Note → FieldInits Note
fields_onto [] rest = rest
fields_onto (f ∷ fs) rest = field_then f.0 f.1 f.2 (fields_onto fs rest)

abbrev pub names_given : List (FieldInit ℕ) → List (List ℕ)
names_given fs = map (λ f. f.name) fs

-- so many of the values were looked at, and their names are held
pub record FieldsTo (x : CheckedFields) (held : List (List ℕ)) (s : Scope) (t : Option StType) (fs : List (FieldInit ℕ)) (i : ℕ) : Type 0 where
  pub holds : Holds held (names_given (take i fs))
  pub broken : earlier x.least (least (given_faults s t (names_given (take i fs)) (fields_of (drop i fs)))) ≡ least (given_faults s t [] (fields_of fs))
  pub tree : fields_onto (map field_of x.fields) (typed_fields s t (fields_of (drop i fs))) ≡ typed_fields s t (fields_of fs)
