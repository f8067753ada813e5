-- Declarations that were passed, what stands before the next one then, and what that one breaks.
use Rattle.std.specs.Prelude.{◌≡◌, ◌⊎◌, ℕ, List, [], ◌∷◌, ◌++◌, map, length, Option}
use Rattle.plc_text.specs.declared.code.Code.{Code}
use Rattle.st_tree.specs.declared.declaration.ClassDecl.{ClassDecl}
use Rattle.st_tree.specs.declared.declaration.FunctionDecl.{FunctionDecl}
use Rattle.st_tree.specs.declared.declaration.InterfaceDecl.{InterfaceDecl}
use Rattle.st_tree.specs.declared.declaration.ProgramDecl.{ProgramDecl}
use Rattle.st_tree.specs.declared.declaration.TypeDecl.{TypeDecl}
use Rattle.st_tree.specs.declared.name.Name.{Name}
use Rattle.st_tree.specs.declared.unit.Decl.{Decl}
use Rattle.st_tree.specs.declared.unit.Decl.TheVariants as declaration
use Rattle.st_rules.specs.Faults.{Faults, least}
use Rattle.st_unit_rules.specs.declared_names.Declarations.{Declaration, Global, Placed, Region, a_class, a_configuration, a_function, a_global, a_program, an_entry, an_interface, declarations_of, instances_of, is_first_configuration, name_of, regions_of}
use Rattle.st_unit_rules.specs.DeclarationRules.{declaration_faults}

-- the declarations so far, the names and the regions that they make, and those of each sort
pub record At : Type 0 where
  pub earlier : List Declaration
  pub names : List (List ℕ)
  pub regions : List Region
  pub types : List (TypeDecl ℕ)
  pub classes : List (ClassDecl ℕ)
  pub interfaces : List (InterfaceDecl ℕ)
  pub functions : List (FunctionDecl ℕ)
  pub programs : List (ProgramDecl ℕ)

abbrev pub no_declarations : At
no_declarations = record { earlier = []; names = []; regions = []; types = []; classes = []; interfaces = []; functions = []; programs = [] }

-- ---- one declaration more

abbrev pub with_declaration : At → Declaration → At
with_declaration a d = record a { earlier = a.earlier ++ d ∷ []; names = a.names ++ (name_of d).text ∷ []; regions = a.regions ++ regions_of d }

abbrev pub with_any : At → Declaration → At
with_any a (an_entry t) = record (with_declaration a (an_entry t)) { types = a.types ++ t ∷ [] }
with_any a (a_global g) = with_declaration a (a_global g)
with_any a (an_interface d) = record (with_declaration a (an_interface d)) { interfaces = a.interfaces ++ d ∷ [] }
with_any a (a_class d) = record (with_declaration a (a_class d)) { classes = a.classes ++ d ∷ [] }
with_any a (a_function f) = record (with_declaration a (a_function f)) { functions = a.functions ++ f ∷ [] }
with_any a (a_program p) = record (with_declaration a (a_program p)) { programs = a.programs ++ p ∷ [] }
with_any a (a_configuration c) = with_declaration a (a_configuration c)

abbrev pub with_each : At → List Declaration → At
with_each a [] = a
with_each a (d ∷ ds) = with_each (with_any a d) ds

-- the names of program instances, which are no declarations
abbrev pub instance_names : Decl ℕ → List Name
instance_names (declaration.Configuration c) = map (λ x. x.name) c.instances
instance_names _ = []

-- behind a configuration its instances are among the names and the regions
abbrev pub closed : At → At → Decl ℕ → At
closed a b d = record b { names = b.names ++ map (λ n. n.text) (instance_names d); regions = b.regions ++ instances_of (is_first_configuration a.earlier) d }

abbrev pub after_decl : At → Decl ℕ → At
after_decl a d = closed a (with_each a (declarations_of d)) d

abbrev pub after_all : At → List (Decl ℕ) → At
after_all a [] = a
after_all a (d ∷ ds) = after_all (after_decl a d) ds

-- ---- what declarations break

abbrev pub placed_at : At → Declaration → Placed
placed_at a d = record { declaration = d; earlier = a.earlier; before = a.names; regions = a.regions }

module _ (decls : List (Decl ℕ)) where
  abbrev pub faults_here : At → Declaration → Faults
  faults_here a d = declaration_faults decls (length a.earlier) (placed_at a d)

  -- none of them is bad
  abbrev pub AllGood : At → List Declaration → Type 0
  AllGood a [] = Unit {0}
  AllGood a (d ∷ ds) = (faults_here a d ≡ []) × AllGood (with_any a d) ds

  abbrev pub AllDeclsGood : At → List (Decl ℕ) → Type 0
  AllDeclsGood a [] = Unit {0}
  AllDeclsGood a (d ∷ ds) = AllGood a (declarations_of d) × AllDeclsGood (after_decl a d) ds

  -- of the first bad one it is said what it breaks
  module _ (Says : Name → Option (Code × ℕ) → Type 0) where
    abbrev pub OneBad : At → List Declaration → Type 0
    OneBad a [] = ⊥
    OneBad a (d ∷ ds) = Says (name_of d) (least (faults_here a d)) ⊎ ((faults_here a d ≡ []) × OneBad (with_any a d) ds)

    abbrev pub OneDeclBad : At → List (Decl ℕ) → Type 0
    OneDeclBad a [] = ⊥
    OneDeclBad a (d ∷ ds) = OneBad a (declarations_of d) ⊎ (AllGood a (declarations_of d) × OneDeclBad (after_decl a d) ds)
