-- What calls name, by tables.
use Rattle.std.specs.Prelude.{ℕ, ◌+◌, List, [], Option, Some, None, length, slice_get}
use Rattle.std.specs.Map.{lookup}
use Rattle.std.specs.Str.{bytes_eq}
use Rattle.st_types.specs.declared.st_type.StType.{StType}
use Rattle.st_types.specs.declared.st_type.StType.TheVariants as type
use Rattle.st_values.specs.Program.{Parameter}
use Rattle.st_meaning.specs.st_frame.Use.{Called, the_function, a_method_of, a_method_from, a_body_of, the_body_from}
use Rattle.routine_tables.specs.declared.parameters.Parameter as code
use Rattle.routine_tables.specs.Parameters.{parameters_of}
use Rattle.code_rules.specs.Plan.{Tables}
use Rattle.codegen_tables.specs.declared.calls.CallEntry.{CallEntry}
use Rattle.codegen_tables.specs.declared.calls.CallTables.{CallTables}

-- what a name means among others
abbrev pub entry_named : List (List ℕ × CallEntry) → List ℕ → Option CallEntry
entry_named entries name = lookup (bytes_eq name) entries

abbrev pub entries_named : Option (List (List ℕ × CallEntry)) → List ℕ → Option CallEntry
entries_named None name = None
entries_named (Some entries) name = entry_named entries name

abbrev pub routine_in : Option CallEntry → ℕ
routine_in None = 0
routine_in (Some e) = e.routine

abbrev pub slot_in : Option CallEntry → ℕ
slot_in None = 0
slot_in (Some e) = e.slot

abbrev pub list_at : Option (List code.Parameter) → List Parameter
list_at None = []
list_at (Some qs) = parameters_of qs

abbrev pub list_in : CallTables → Option CallEntry → List Parameter
list_in t None = []
list_in t (Some e) = list_at (slice_get t.parameters e.parameters)

abbrev pub method_entry : CallTables → ℕ → List ℕ → Option CallEntry
method_entry t c name = entries_named (slice_get t.methods c) name

abbrev pub signature_entry : CallTables → ℕ → List ℕ → Option CallEntry
signature_entry t i name = entries_named (slice_get t.signatures i) name

-- of a method that is called on a type
abbrev pub method_on : CallTables → StType → List ℕ → Option CallEntry
method_on t (type.Instance c) name = method_entry t c name
method_on t (type.Interface i) name = signature_entry t i name
method_on t _ name = None

abbrev pub body_on : CallTables → StType → Option CallEntry
body_on t (type.Instance c) = slice_get t.bodies c
body_on t _ = None

abbrev pub called_entry : CallTables → Option Called → Option CallEntry
called_entry t None = None
called_entry t (Some (the_function n)) = slice_get t.functions n
called_entry t (Some (a_method_of k name)) = method_on t k name
called_entry t (Some (a_method_from d name)) = method_entry t d name
called_entry t (Some (a_body_of k)) = body_on t k
called_entry t (Some (the_body_from d)) = slice_get t.bodies d

-- as a target of conversion
abbrev pub target_by : CallTables → StType → ℕ
target_by t (type.Instance d) = d
target_by t (type.Reference d) = d
target_by t (type.Interface i) = length t.methods + i
target_by t _ = length t.methods + length t.signatures

abbrev pub tables_by : CallTables → Tables
tables_by t = record {
  function_routine = λ k. routine_in (slice_get t.functions k);
  method_slot = λ c name. slot_in (method_entry t c name);
  body_slot = 0;
  method_number = λ i name. slot_in (signature_entry t i name);
  method_routine = λ d name. routine_in (method_entry t d name);
  body_routine = λ c. routine_in (slice_get t.bodies c);
  conversion_target = target_by t;
}
