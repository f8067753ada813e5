-- What declarations name, by tables of names.
use Rattle.std.specs.Prelude.{ℕ, List, Option, option_and_then, filter_map}
use Rattle.st_tree.specs.declared.declaration.ClassDecl.{ClassDecl}
use Rattle.st_tree.specs.declared.declaration.InterfaceDecl.{InterfaceDecl}
use Rattle.st_tree.specs.declared.name.Used.{Used}
use Rattle.st_tree.specs.declared.program.Note.{Note}
use Rattle.program_tables.specs.Private.Places.{Table, found_in}

abbrev pub base_by : Table → ClassDecl Note → Option ℕ
base_by places d = option_and_then (λ b. found_in places b.text) d.base

abbrev pub named_by : Table → List (Used Note) → List ℕ
named_by places names = filter_map (λ used. found_in places used.text) names

abbrev pub implemented_by : Table → ClassDecl Note → List ℕ
implemented_by places d = named_by places d.interfaces

abbrev pub extended_by : Table → InterfaceDecl Note → List ℕ
extended_by places d = named_by places d.bases
