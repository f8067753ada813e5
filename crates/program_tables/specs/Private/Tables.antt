-- All that tables keep of a program.
use Rattle.std.specs.Prelude.{◌≡◌, ℕ, true, List, Option, map, length, option_and_then}
use Rattle.st_tree.specs.declared.program.Note.{Note}
use Rattle.st_tree.specs.declared.program.Program.{Program}
use Rattle.st_tree.specs.declared.declaration.ClassDecl.{ClassDecl}
use Rattle.st_tree.specs.declared.declaration.InterfaceDecl.{InterfaceDecl}
use Rattle.st_rules.specs.Classes.{class_named}
use Rattle.st_rules.specs.Interfaces.{interfaces_named}
use Rattle.graph_reach.specs.Reach.{AreReached}
use Rattle.program_tables.specs.declared.parts.Tables.{Tables}
use Rattle.program_tables.specs.Private.Places.{class_name, program_name, IsTableOf, AreMemberTables}
use Rattle.program_tables.specs.Private.Found.{count}

-- the base of each class
abbrev pub bases_in : List (ClassDecl Note) → List (ClassDecl Note) → List (Option ℕ)
bases_in all classes = map (λ d. option_and_then (λ b. class_named all b.text) d.base) classes

-- the interfaces that each class implements itself
abbrev pub implemented_in : List (InterfaceDecl Note) → List (ClassDecl Note) → List (List ℕ)
implemented_in interfaces classes = map (λ d. interfaces_named interfaces d.interfaces) classes

-- the interfaces behind EXTENDS of each interface
abbrev pub extended_in : List (InterfaceDecl Note) → List (InterfaceDecl Note) → List (List ℕ)
extended_in all interfaces = map (λ d. interfaces_named all d.bases) interfaces

pub record AreTables (p : Program) (t : Tables) : Type 0 where
  pub functions : t.functions ≡ length p.functions
  pub classes : t.classes ≡ count p
  pub interfaces : t.interfaces ≡ length p.interfaces
  pub class_places : IsTableOf class_name (λ d. true) 0 t.class_places p.classes
  pub program_places : IsTableOf program_name (λ d. true) (length p.classes) t.program_places p.programs
  pub bases : t.bases.items ≡ bases_in p.classes p.classes
  pub methods : AreMemberTables t.methods.items p.classes
  pub implemented : t.implemented.items ≡ implemented_in p.interfaces p.classes
  pub extended : t.extended.items ≡ extended_in p.interfaces p.interfaces
  pub reach : AreReached (extended_in p.interfaces p.interfaces) (length p.interfaces) t.reach.items
