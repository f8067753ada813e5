-- The code's variables as the meaning's.
use Rattle.std.specs.Prelude.{ℕ, List, [], map, Option, Some, None, option_map, option_and_then, slice_get}
use Rattle.st_tree.specs.Initial.{initial_of}
use Rattle.program_tables.specs.declared.st_initial.variables.Variable as code
use Rattle.st_values.specs.Program.{Variable, Program}
use Rattle.st_values.specs.Shape.{fields_of}

abbrev pub variable_of : code.Variable → Variable
variable_of v = record {
  name = v.name.now;
  sort = v.sort;
  kind = v.kind.now;
  initial = option_map (λ i. initial_of i.now) v.initial;
  marks = record { no_copy = v.no_copy; init_on_change = v.init_on_change; renamed_from = option_map (λ n. n.now) v.renamed_from };
  address = option_map (λ a. a.now) v.address;
}

abbrev pub variables_of : List code.Variable → List Variable
variables_of vs = map variable_of vs

-- the fields of a structure, none where the number is that of another type
abbrev pub or_none : Option (List Variable) → List Variable
or_none None = []
or_none (Some vs) = vs

abbrev pub fields_at : Program → ℕ → List Variable
fields_at p n = or_none (option_and_then (λ t. fields_of t.body) (slice_get p.types n))
