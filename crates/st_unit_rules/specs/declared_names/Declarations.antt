-- The declarations of a unit, one by one in the order of the text: each entry of TYPE, each global, and each other declaration
-- (IEC 61131-3:2013, 6.1.2, 6.8).
use Rattle.std.specs.Prelude.{ℕ, Bool, true, false, not, if◌then◌else◌, List, [], ◌∷◌, ◌++◌, map, flat_map, filter, length, Option, Some, None}
use Rattle.std.specs.List.{list_any}
use Rattle.st_tree.specs.declared.configuration.Configuration.{Configuration}
use Rattle.st_tree.specs.declared.configuration.InstanceSpec.{InstanceSpec}
use Rattle.st_tree.specs.declared.configuration.Resource.{Resource}
use Rattle.st_tree.specs.declared.declaration.ClassDecl.{ClassDecl}
use Rattle.st_tree.specs.declared.declaration.FunctionDecl.{FunctionDecl}
use Rattle.st_tree.specs.declared.declaration.InterfaceDecl.{InterfaceDecl}
use Rattle.st_tree.specs.declared.declaration.ProgramDecl.{ProgramDecl}
use Rattle.st_tree.specs.declared.declaration.Item.{Item}
use Rattle.st_tree.specs.declared.declaration.Section.{Section}
use Rattle.st_tree.specs.declared.declaration.TypeDecl.{TypeDecl}
use Rattle.st_tree.specs.declared.name.Name.{Name}
use Rattle.st_tree.specs.declared.unit.Decl.{Decl}
use Rattle.st_tree.specs.declared.unit.Decl.TheVariants as declaration
use Rattle.st_unit_rules.specs.declared_names.Variables.{Written, item_written, sections_written}

-- a global, and whether it is the first of its item
pub record Global : Type 0 where
  pub section : Section ℕ
  pub item : Item ℕ
  pub written : Written
  pub first : Bool

pub data Declaration : Type 0 where
  an_entry : TypeDecl ℕ → Declaration
  a_global : Global → Declaration
  an_interface : InterfaceDecl ℕ → Declaration
  a_class : ClassDecl ℕ → Declaration
  a_function : FunctionDecl ℕ → Declaration
  a_program : ProgramDecl ℕ → Declaration
  a_configuration : Configuration ℕ → Declaration

-- ---- the list

abbrev pub globals_of_item : Section ℕ → Item ℕ → Bool → List Written → List Declaration
globals_of_item s item first [] = []
globals_of_item s item first (w ∷ ws) = a_global (record { section = s; item = item; written = w; first = first }) ∷ globals_of_item s item false ws

abbrev pub globals_of_section : Section ℕ → List Declaration
globals_of_section s = flat_map (λ item. globals_of_item s item true (item_written s item)) s.items

abbrev pub resource_globals : Option (Resource ℕ) → List (Section ℕ)
resource_globals None = []
resource_globals (Some r) = r.globals

-- the sections of globals of a configuration, those of its resource behind its own
abbrev pub configuration_globals : Configuration ℕ → List (Section ℕ)
configuration_globals c = c.globals ++ resource_globals c.resource

-- a configuration is a declaration at its keyword, with its tasks and instances; its globals are declarations behind it
abbrev pub declarations_of : Decl ℕ → List Declaration
declarations_of (declaration.Types l ts) = map an_entry ts
declarations_of (declaration.Globals s) = globals_of_section s
declarations_of (declaration.Interface i) = an_interface i ∷ []
declarations_of (declaration.Class c) = a_class c ∷ []
declarations_of (declaration.Function f) = a_function f ∷ []
declarations_of (declaration.Program p) = a_program p ∷ []
declarations_of (declaration.Configuration c) = a_configuration c ∷ flat_map globals_of_section (configuration_globals c)

unfoldable pub declarations : List (Decl ℕ) → List Declaration
declarations ds = flat_map declarations_of ds

-- ---- the declarations of one sort

abbrev pub entries_in : {A : Type 0} → List (Decl A) → List (TypeDecl A)
entries_in [] = []
entries_in (declaration.Types l ts ∷ ds) = ts ++ entries_in ds
entries_in (_ ∷ ds) = entries_in ds

abbrev pub functions_in : {A : Type 0} → List (Decl A) → List (FunctionDecl A)
functions_in [] = []
functions_in (declaration.Function f ∷ ds) = f ∷ functions_in ds
functions_in (_ ∷ ds) = functions_in ds

abbrev pub programs_in : {A : Type 0} → List (Decl A) → List (ProgramDecl A)
programs_in [] = []
programs_in (declaration.Program p ∷ ds) = p ∷ programs_in ds
programs_in (_ ∷ ds) = programs_in ds

abbrev pub configurations_in : {A : Type 0} → List (Decl A) → List (Configuration A)
configurations_in [] = []
configurations_in (declaration.Configuration c ∷ ds) = c ∷ configurations_in ds
configurations_in (_ ∷ ds) = configurations_in ds

-- the globals of a declaration, constants among them
abbrev pub globals_declared : Decl ℕ → List Written
globals_declared (declaration.Globals s) = sections_written (s ∷ [])
globals_declared (declaration.Configuration c) = sections_written (configuration_globals c)
globals_declared _ = []

-- ---- the name and the line of a declaration

abbrev pub name_of : Declaration → Name
name_of (an_entry t) = t.name
name_of (a_global g) = g.written.name
name_of (an_interface i) = i.name
name_of (a_class c) = c.name
name_of (a_function f) = f.name
name_of (a_program p) = p.name
name_of (a_configuration c) = c.name

abbrev pub item_line_of : List Name → ℕ
item_line_of [] = 0
item_line_of (n ∷ ns) = n.line

-- the line of an item is that of its first name
abbrev pub item_line : Item ℕ → ℕ
item_line item = item_line_of item.names

-- the line of a heading: an entry of TYPE stands at its name, a global at its item
abbrev pub heading_line : Declaration → ℕ
heading_line (an_entry t) = t.name.line
heading_line (a_global g) = item_line g.item
heading_line (an_interface i) = i.line
heading_line (a_class c) = c.line
heading_line (a_function f) = f.line
heading_line (a_program p) = p.line
heading_line (a_configuration c) = c.line

-- the names that a declaration puts into the name space of all: program instances join it
abbrev pub names_put : Decl ℕ → List Name
names_put (declaration.Types l ts) = map (λ t. t.name) ts
names_put (declaration.Globals s) = map (λ w. w.name) (sections_written (s ∷ []))
names_put (declaration.Interface i) = i.name ∷ []
names_put (declaration.Class c) = c.name ∷ []
names_put (declaration.Function f) = f.name ∷ []
names_put (declaration.Program p) = p.name ∷ []
names_put (declaration.Configuration c) = c.name ∷ (map (λ w. w.name) (sections_written (configuration_globals c)) ++ map (λ x. x.name) c.instances)

-- ---- regions: globals that are no constants, and program instances, in the order of the text

pub data Region : Type 0 where
  of_global : Written → Region
  of_instance : InstanceSpec → Region

abbrev pub region_of_global : Written → List Region
region_of_global w = if w.constant then [] else of_global w ∷ []

abbrev pub regions_of : Declaration → List Region
regions_of (a_global g) = region_of_global g.written
regions_of _ = []

-- the instances of a second configuration make no regions
abbrev pub instances_of : Bool → Decl ℕ → List Region
instances_of true (declaration.Configuration c) = map of_instance c.instances
instances_of _ d = []

abbrev pub is_configuration : Declaration → Bool
is_configuration (a_configuration c) = true
is_configuration _ = false

abbrev pub is_first_configuration : List Declaration → Bool
is_first_configuration earlier = not (list_any is_configuration earlier)

-- ---- where a declaration stands

-- a declaration, the declarations before it, the names that the name space of all has before it, and the regions before it
pub record Placed : Type 0 where
  pub declaration : Declaration
  pub earlier : List Declaration
  pub before : List (List ℕ)
  pub regions : List Region

abbrev pub place_each : List Declaration → List (List ℕ) → List Region → List Declaration → List Placed
place_each earlier before regions [] = []
place_each earlier before regions (d ∷ ds) =
    record { declaration = d; earlier = earlier; before = before; regions = regions }
    ∷ place_each (earlier ++ d ∷ []) (before ++ (name_of d).text ∷ []) (regions ++ regions_of d) ds

-- behind a configuration its instances are among the names and the regions
abbrev pub placed_from : List Declaration → List (List ℕ) → List Region → List (Decl ℕ) → List Placed
placed_from earlier before regions [] = []
placed_from earlier before regions (d ∷ ds) =
    place_each earlier before regions (declarations_of d)
    ++ placed_from (earlier ++ declarations_of d) (before ++ map (λ n. n.text) (names_put d))
    (regions ++ (flat_map regions_of (declarations_of d) ++ instances_of (is_first_configuration earlier) d)) ds

unfoldable pub placed : List (Decl ℕ) → List Placed
placed ds = placed_from [] [] [] ds

abbrev pub is_class : Declaration → Bool
is_class (a_class c) = true
is_class _ = false

abbrev pub is_interface : Declaration → Bool
is_interface (an_interface i) = true
is_interface _ = false

abbrev pub is_entry : Declaration → Bool
is_entry (an_entry t) = true
is_entry _ = false

-- the number of a declaration among those of its sort
abbrev pub number_among : (Declaration → Bool) → Placed → ℕ
number_among test x = length (filter test x.earlier)
