-- The methods of interfaces by name.
use Rattle.std.specs.Prelude.{ℕ, zero, suc, nat_eq, Bool, if◌then◌else◌, List, [], ◌∷◌, length, Option, Some, None, option_and_then, unwrap_or}
use Rattle.std.specs.List.{list_any}
use Rattle.std.specs.Cmp.Lexicographic.{pointwise}
use Rattle.std.specs.HashMap.{HashMap, get}
use Rattle.std.specs.declared.hash.FoldHasher.{FoldHasher}
use Rattle.std.specs.declared.hash.BuildHasherDefault.{BuildHasherDefault}
use Rattle.plc_text.specs.Words.{same}
use Rattle.st_tree.specs.declared.declaration.InterfaceDecl.{InterfaceDecl}
use Rattle.st_tree.specs.declared.unit.Unit.{Unit}
use Rattle.st_rules.specs.declared.ids.PrototypeId.{PrototypeId}
use Rattle.st_rules.specs.Numbered.{each_numbered}
use Rattle.st_rules.specs.Chains.{◌or_else◌}
use Rattle.st_rules.specs.Interfaces.{interfaces_in, extended, extends, prototype_id, first_with}

abbrev pub Table : Type 0
Table = HashMap (List ℕ) (List PrototypeId) (BuildHasherDefault FoldHasher)

abbrev pub ids_in : Table → List ℕ → List PrototypeId
ids_in table name = unwrap_or (get (pointwise nat_eq) table name) []

-- the method of that number, where it has the name
abbrev pub id_if : List ℕ → ℕ → ℕ → List ℕ → List PrototypeId
id_if name i m n = if same n name then prototype_id i m ∷ [] else []

abbrev pub ids_of : List ℕ → ℕ → List (List ℕ) → List PrototypeId
ids_of name i names = each_numbered (id_if name i) 0 names

-- the methods of a name, in the order of the text
abbrev pub ids_named : List (List (List ℕ)) → List ℕ → List PrototypeId
ids_named prototypes name = each_numbered (ids_of name) 0 prototypes

-- the first of an interface that passes
abbrev pub first_of : (ℕ → Bool) → List PrototypeId → Option PrototypeId
first_of test [] = None
first_of test (id ∷ ids) = if test id.interface then Some id else first_of test ids

-- whether an interface is that of one of the methods, or extends it
abbrev pub has_one : List (InterfaceDecl ℕ) → List PrototypeId → ℕ → Bool
has_one interfaces ids i = list_any (λ id. extends interfaces i id.interface) ids

-- the method that is meant, past at most so many interfaces
abbrev pub method_within : List (InterfaceDecl ℕ) → List PrototypeId → ℕ → ℕ → Option PrototypeId
method_within interfaces ids zero i = None
method_within interfaces ids (suc n) i = first_of (λ j. nat_eq j i) ids or_else option_and_then (method_within interfaces ids n) (first_with (has_one interfaces ids) (extended interfaces i))

abbrev pub method_named : Unit → Table → ℕ → List ℕ → Option PrototypeId
method_named unit table i name = method_within (interfaces_in unit.decls) (ids_in table name) (length (interfaces_in unit.decls)) i
