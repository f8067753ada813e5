-- The methods of interfaces by name.
use Rattle.std.specs.Prelude.{ℕ, zero, suc, nat_eq, Bool, if◌then◌else◌, List, [], ◌∷◌, ◌++◌, map, flat_map, Option, Some, None, option_and_then, unwrap_or}
use Rattle.std.specs.List.{list_any}
use Rattle.std.specs.Cmp.Lexicographic.{pointwise}
use Rattle.std.specs.HashMap.{HashMap, get}
use Rattle.std.specs.declared.hash.FoldHasher.{FoldHasher}
use Rattle.std.specs.declared.hash.BuildHasherDefault.{BuildHasherDefault}
use Rattle.plc_text.specs.Words.{same}
use Rattle.st_tree.specs.declared.declaration.InterfaceDecl.{InterfaceDecl}
use Rattle.st_tree.specs.declared.declaration.Prototype.{Prototype}
use Rattle.st_tree.specs.declared.program.Note.{Note}
use Rattle.st_rules.specs.Chains.{◌or_else◌}
use Rattle.st_rules.specs.Interfaces.{extended, first_with}
use Rattle.st_values.specs.Program.{Parameter}
use Rattle.st_values.specs.View.{signature_of}
use Rattle.program_tables.specs.Interfaces.{is_extended}
use Rattle.routine_tables.specs.Parameters.{parameters_of}
use Rattle.routine_tables.specs.declared.signature_tables.declarers.Declared.{Declared}

abbrev pub Table : Type 0
Table = HashMap (List ℕ) (List Declared) (BuildHasherDefault FoldHasher)

abbrev pub declared_in : Table → List ℕ → List Declared
declared_in table name = unwrap_or (get (pointwise nat_eq) table name) []

-- a method's interface, and what it may be given
abbrev pub Signed : Type 0
Signed = ℕ × List Parameter

abbrev pub signed_one : Declared → Signed
signed_one d = (d.interface, parameters_of d.parameters)

abbrev pub signed : List Declared → List Signed
signed ds = map signed_one ds

abbrev pub signed_in : Table → List ℕ → List Signed
signed_in table name = signed (declared_in table name)

-- a method of an interface, where it has the name
abbrev pub one_named : List ℕ → ℕ → Prototype Note → List Signed
one_named name i m = if same m.name.text name then (i, (signature_of m).parameters) ∷ [] else []

abbrev pub all_named : List ℕ → ℕ → List (Prototype Note) → List Signed
all_named name i ms = flat_map (one_named name i) ms

-- the methods of a name, in the order of the text, where the first interface has number i
abbrev pub named_from : List ℕ → ℕ → List (InterfaceDecl Note) → List Signed
named_from name i [] = []
named_from name i (d ∷ ds) = all_named name i d.methods ++ named_from name (suc i) ds

-- the first of an interface that passes
abbrev pub first_of : (ℕ → Bool) → List Signed → Option (List Parameter)
first_of test [] = None
first_of test (m ∷ ms) = if test m.0 then Some m.1 else first_of test ms

-- whether an interface is that of one of the methods, or extends it
abbrev pub has_one : List (InterfaceDecl Note) → List Signed → ℕ → Bool
has_one interfaces ms i = list_any (λ m. is_extended interfaces i m.0) ms

-- what the method may be given that is meant, past at most so many interfaces
abbrev pub given_within : List (InterfaceDecl Note) → List Signed → ℕ → ℕ → Option (List Parameter)
given_within interfaces ms zero i = None
given_within interfaces ms (suc n) i = first_of (λ j. nat_eq j i) ms or_else option_and_then (given_within interfaces ms n) (first_with (has_one interfaces ms) (extended interfaces i))
