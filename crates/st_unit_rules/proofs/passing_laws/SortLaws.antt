-- The declarations of each sort among those that were passed.
use Rattle.std.proofs.Common.{◌≡◌, ℕ, List, [], ◌∷◌, ◌++◌, refl, sym, ap, ◌∙◌, append-nil}
use Rattle.std.specs.Prelude.{Bool, true, false, map, flat_map}
use Rattle.std.proofs.lemmas.List.{append_assoc}
use Rattle.st_tree.specs.declared.declaration.ClassDecl.{ClassDecl}
use Rattle.st_tree.specs.declared.declaration.FunctionDecl.{FunctionDecl}
use Rattle.st_tree.specs.declared.declaration.InterfaceDecl.{InterfaceDecl}
use Rattle.st_tree.specs.declared.declaration.Item.{Item}
use Rattle.st_tree.specs.declared.declaration.ProgramDecl.{ProgramDecl}
use Rattle.st_tree.specs.declared.declaration.Section.{Section}
use Rattle.st_tree.specs.declared.declaration.TypeDecl.{TypeDecl}
use Rattle.st_tree.specs.declared.unit.Decl.{Decl}
use Rattle.st_tree.specs.declared.unit.Decl.TheVariants as declaration
use Rattle.st_rules.specs.Classes.{classes_in}
use Rattle.st_rules.specs.Interfaces.{interfaces_in}
use Rattle.st_unit_rules.specs.declared_names.Declarations.{Declaration, Global, a_class, a_configuration, a_function, a_global, a_program, an_entry, an_interface, configuration_globals, declarations_of, entries_in, functions_in, globals_of_item, globals_of_section, programs_in, instances_of, is_first_configuration, regions_of}
use Rattle.st_unit_rules.specs.declared_names.Variables.{Written, item_written}
use Rattle.st_unit_rules.specs.Checked.{regions_from, unit_regions}
use Rattle.st_unit_rules.specs.passing_laws.Passing.{At, after_all, after_decl, no_declarations, with_any, with_each}
use Rattle.st_unit_rules.proofs.passing_laws.FieldLaws.{earlier_after, regions_after}

-- what is picked of each declaration, and stands in a list of those that were passed
module _ {X : Type 0} (pick : Declaration → List X) (field : At → List X) (in_decls : List (Decl ℕ) → List X) (adds : (a : At) (d : Declaration) → field (with_any a d) ≡ field a ++ pick d)
    (closes : (a : At) (d : Decl ℕ) → field (after_decl a d) ≡ field (with_each a (declarations_of d))) (none : in_decls [] ≡ []) (splits : (d : Decl ℕ) (ds : List (Decl ℕ)) → in_decls (d ∷ ds) ≡ flat_map pick (declarations_of d) ++ in_decls ds) where
  picked_each : (a : At) (ds : List Declaration) → field (with_each a ds) ≡ field a ++ flat_map pick ds
  picked_each a [] = sym (append-nil (field a))
  picked_each a (d ∷ ds) = picked_each (with_any a d) ds ∙ ap (λ xs. xs ++ flat_map pick ds) (adds a d) ∙ append_assoc (field a) (pick d) (flat_map pick ds)

  picked_all : (a : At) (ds : List (Decl ℕ)) → field (after_all a ds) ≡ field a ++ in_decls ds
  picked_all a [] = sym (append-nil (field a)) ∙ ap (λ xs. field a ++ xs) (sym none)
  picked_all a (d ∷ ds) =
      picked_all (after_decl a d) ds
      ∙ ap (λ xs. xs ++ in_decls ds) (closes a d ∙ picked_each a (declarations_of d))
      ∙ append_assoc (field a) (flat_map pick (declarations_of d)) (in_decls ds)
      ∙ ap (λ xs. field a ++ xs) (sym (splits d ds))

-- globals are picked for nothing
module _ {X : Type 0} (pick : Declaration → List X) (passes : (g : Global) → pick (a_global g) ≡ []) where
  no_item : (s : Section ℕ) (item : Item ℕ) (first : Bool) (ws : List Written) → flat_map pick (globals_of_item s item first ws) ≡ []
  no_item s item first [] = refl
  no_item s item first (w ∷ ws) = ap (λ xs. xs ++ flat_map pick (globals_of_item s item false ws)) (passes _) ∙ no_item s item false ws

  flat_append : (ds es : List Declaration) → flat_map pick (ds ++ es) ≡ flat_map pick ds ++ flat_map pick es
  flat_append [] es = refl
  flat_append (d ∷ ds) es = ap (λ xs. pick d ++ xs) (flat_append ds es) ∙ sym (append_assoc (pick d) (flat_map pick ds) (flat_map pick es))

  no_items : (s : Section ℕ) (items : List (Item ℕ)) → flat_map pick (flat_map (λ item. globals_of_item s item true (item_written s item)) items) ≡ []
  no_items s [] = refl
  no_items s (i ∷ is) =
      flat_append (globals_of_item s i true (item_written s i)) (flat_map (λ item. globals_of_item s item true (item_written s item)) is)
      ∙ ap (λ xs. xs ++ flat_map pick (flat_map (λ item. globals_of_item s item true (item_written s item)) is)) (no_item s i true (item_written s i))
      ∙ no_items s is

  no_sections : (ss : List (Section ℕ)) → flat_map pick (flat_map globals_of_section ss) ≡ []
  no_sections [] = refl
  no_sections (s ∷ ss) =
      flat_append (globals_of_section s) (flat_map globals_of_section ss) ∙ ap (λ xs. xs ++ flat_map pick (flat_map globals_of_section ss)) (no_items s s.items) ∙ no_sections ss

-- entries are picked for nothing
no_entries : {X : Type 0} (pick : Declaration → List X) → ((t : TypeDecl ℕ) → pick (an_entry t) ≡ []) → (ts : List (TypeDecl ℕ)) → flat_map pick (map an_entry ts) ≡ []
no_entries pick none [] = refl
no_entries pick none (t ∷ ts) = ap (λ xs. xs ++ flat_map pick (map an_entry ts)) (none t) ∙ no_entries pick none ts

-- ---- entries of TYPE

entry_of : Declaration → List (TypeDecl ℕ)
entry_of (an_entry t) = t ∷ []
entry_of _ = []

all_entries : (ts : List (TypeDecl ℕ)) → flat_map entry_of (map an_entry ts) ≡ ts
unfolding entry_of
all_entries [] = refl
all_entries (t ∷ ts) = ap (λ xs. t ∷ xs) (all_entries ts)

entry_adds : (a : At) (d : Declaration) → (with_any a d).types ≡ a.types ++ entry_of d
unfolding entry_of
entry_adds a (an_entry t) = refl
entry_adds a (a_global g) = sym (append-nil a.types)
entry_adds a (an_interface i) = sym (append-nil a.types)
entry_adds a (a_class c) = sym (append-nil a.types)
entry_adds a (a_function f) = sym (append-nil a.types)
entry_adds a (a_program p) = sym (append-nil a.types)
entry_adds a (a_configuration c) = sym (append-nil a.types)

entry_splits : (d : Decl ℕ) (ds : List (Decl ℕ)) → entries_in (d ∷ ds) ≡ flat_map entry_of (declarations_of d) ++ entries_in ds
unfolding entry_of
entry_splits (declaration.Types l ts) ds = ap (λ xs. xs ++ entries_in ds) (sym (all_entries ts))
entry_splits (declaration.Globals s) ds = ap (λ xs. xs ++ entries_in ds) (sym (no_items entry_of (λ g. refl) s s.items))
entry_splits (declaration.Interface i) ds = refl
entry_splits (declaration.Class c) ds = refl
entry_splits (declaration.Function f) ds = refl
entry_splits (declaration.Program p) ds = refl
entry_splits (declaration.Configuration c) ds = ap (λ xs. xs ++ entries_in ds) (sym (no_sections entry_of (λ g. refl) (configuration_globals c)))

pub all_types : (decls : List (Decl ℕ)) → (after_all no_declarations decls).types ≡ entries_in decls
all_types decls = picked_all entry_of (λ a. a.types) entries_in entry_adds (λ a d. refl) refl entry_splits no_declarations decls

-- ---- classes

class_of : Declaration → List (ClassDecl ℕ)
class_of (a_class c) = c ∷ []
class_of _ = []

class_adds : (a : At) (d : Declaration) → (with_any a d).classes ≡ a.classes ++ class_of d
unfolding class_of
class_adds a (a_class c) = refl
class_adds a (an_entry t) = sym (append-nil a.classes)
class_adds a (a_global g) = sym (append-nil a.classes)
class_adds a (an_interface i) = sym (append-nil a.classes)
class_adds a (a_function f) = sym (append-nil a.classes)
class_adds a (a_program p) = sym (append-nil a.classes)
class_adds a (a_configuration c) = sym (append-nil a.classes)

class_splits : (d : Decl ℕ) (ds : List (Decl ℕ)) → classes_in (d ∷ ds) ≡ flat_map class_of (declarations_of d) ++ classes_in ds
unfolding class_of
class_splits (declaration.Types l ts) ds = ap (λ xs. xs ++ classes_in ds) (sym (no_entries class_of (λ t. refl) ts))
class_splits (declaration.Globals s) ds = ap (λ xs. xs ++ classes_in ds) (sym (no_items class_of (λ g. refl) s s.items))
class_splits (declaration.Interface i) ds = refl
class_splits (declaration.Class c) ds = refl
class_splits (declaration.Function f) ds = refl
class_splits (declaration.Program p) ds = refl
class_splits (declaration.Configuration c) ds = ap (λ xs. xs ++ classes_in ds) (sym (no_sections class_of (λ g. refl) (configuration_globals c)))

pub all_classes : (decls : List (Decl ℕ)) → (after_all no_declarations decls).classes ≡ classes_in decls
all_classes decls = picked_all class_of (λ a. a.classes) classes_in class_adds (λ a d. refl) refl class_splits no_declarations decls

-- ---- interfaces

interface_of : Declaration → List (InterfaceDecl ℕ)
interface_of (an_interface i) = i ∷ []
interface_of _ = []

interface_adds : (a : At) (d : Declaration) → (with_any a d).interfaces ≡ a.interfaces ++ interface_of d
unfolding interface_of
interface_adds a (an_interface i) = refl
interface_adds a (an_entry t) = sym (append-nil a.interfaces)
interface_adds a (a_global g) = sym (append-nil a.interfaces)
interface_adds a (a_class c) = sym (append-nil a.interfaces)
interface_adds a (a_function f) = sym (append-nil a.interfaces)
interface_adds a (a_program p) = sym (append-nil a.interfaces)
interface_adds a (a_configuration c) = sym (append-nil a.interfaces)

interface_splits : (d : Decl ℕ) (ds : List (Decl ℕ)) → interfaces_in (d ∷ ds) ≡ flat_map interface_of (declarations_of d) ++ interfaces_in ds
unfolding interface_of
interface_splits (declaration.Types l ts) ds = ap (λ xs. xs ++ interfaces_in ds) (sym (no_entries interface_of (λ t. refl) ts))
interface_splits (declaration.Globals s) ds = ap (λ xs. xs ++ interfaces_in ds) (sym (no_items interface_of (λ g. refl) s s.items))
interface_splits (declaration.Interface i) ds = refl
interface_splits (declaration.Class c) ds = refl
interface_splits (declaration.Function f) ds = refl
interface_splits (declaration.Program p) ds = refl
interface_splits (declaration.Configuration c) ds = ap (λ xs. xs ++ interfaces_in ds) (sym (no_sections interface_of (λ g. refl) (configuration_globals c)))

pub all_interfaces : (decls : List (Decl ℕ)) → (after_all no_declarations decls).interfaces ≡ interfaces_in decls
all_interfaces decls = picked_all interface_of (λ a. a.interfaces) interfaces_in interface_adds (λ a d. refl) refl interface_splits no_declarations decls

-- ---- functions

function_of : Declaration → List (FunctionDecl ℕ)
function_of (a_function f) = f ∷ []
function_of _ = []

function_adds : (a : At) (d : Declaration) → (with_any a d).functions ≡ a.functions ++ function_of d
unfolding function_of
function_adds a (a_function f) = refl
function_adds a (an_entry t) = sym (append-nil a.functions)
function_adds a (a_global g) = sym (append-nil a.functions)
function_adds a (a_class c) = sym (append-nil a.functions)
function_adds a (an_interface i) = sym (append-nil a.functions)
function_adds a (a_program p) = sym (append-nil a.functions)
function_adds a (a_configuration c) = sym (append-nil a.functions)

function_splits : (d : Decl ℕ) (ds : List (Decl ℕ)) → functions_in (d ∷ ds) ≡ flat_map function_of (declarations_of d) ++ functions_in ds
unfolding function_of
function_splits (declaration.Types l ts) ds = ap (λ xs. xs ++ functions_in ds) (sym (no_entries function_of (λ t. refl) ts))
function_splits (declaration.Globals s) ds = ap (λ xs. xs ++ functions_in ds) (sym (no_items function_of (λ g. refl) s s.items))
function_splits (declaration.Interface i) ds = refl
function_splits (declaration.Class c) ds = refl
function_splits (declaration.Function f) ds = refl
function_splits (declaration.Program p) ds = refl
function_splits (declaration.Configuration c) ds = ap (λ xs. xs ++ functions_in ds) (sym (no_sections function_of (λ g. refl) (configuration_globals c)))

pub all_functions : (decls : List (Decl ℕ)) → (after_all no_declarations decls).functions ≡ functions_in decls
all_functions decls = picked_all function_of (λ a. a.functions) functions_in function_adds (λ a d. refl) refl function_splits no_declarations decls

-- ---- programs

program_of : Declaration → List (ProgramDecl ℕ)
program_of (a_program p) = p ∷ []
program_of _ = []

program_adds : (a : At) (d : Declaration) → (with_any a d).programs ≡ a.programs ++ program_of d
unfolding program_of
program_adds a (a_program p) = refl
program_adds a (an_entry t) = sym (append-nil a.programs)
program_adds a (a_global g) = sym (append-nil a.programs)
program_adds a (a_class c) = sym (append-nil a.programs)
program_adds a (an_interface i) = sym (append-nil a.programs)
program_adds a (a_function f) = sym (append-nil a.programs)
program_adds a (a_configuration c) = sym (append-nil a.programs)

program_splits : (d : Decl ℕ) (ds : List (Decl ℕ)) → programs_in (d ∷ ds) ≡ flat_map program_of (declarations_of d) ++ programs_in ds
unfolding program_of
program_splits (declaration.Types l ts) ds = ap (λ xs. xs ++ programs_in ds) (sym (no_entries program_of (λ t. refl) ts))
program_splits (declaration.Globals s) ds = ap (λ xs. xs ++ programs_in ds) (sym (no_items program_of (λ g. refl) s s.items))
program_splits (declaration.Interface i) ds = refl
program_splits (declaration.Class c) ds = refl
program_splits (declaration.Function f) ds = refl
program_splits (declaration.Program p) ds = refl
program_splits (declaration.Configuration c) ds = ap (λ xs. xs ++ programs_in ds) (sym (no_sections program_of (λ g. refl) (configuration_globals c)))

pub all_programs : (decls : List (Decl ℕ)) → (after_all no_declarations decls).programs ≡ programs_in decls
all_programs decls = picked_all program_of (λ a. a.programs) programs_in program_adds (λ a d. refl) refl program_splits no_declarations decls

-- ---- regions

module _ (decls : List (Decl ℕ)) where
  regions_go : (a : At) (ds : List (Decl ℕ)) (e : List Declaration) → e ≡ a.earlier → (after_all a ds).regions ≡ a.regions ++ regions_from decls e ds
  regions_go a [] e h = sym (append-nil a.regions)
  regions_go a (d ∷ ds) e h =
      regions_go (after_decl a d) ds (e ++ declarations_of d) (ap (λ es. es ++ declarations_of d) h ∙ sym (earlier_after a d))
      ∙ ap (λ rs. rs ++ regions_from decls (e ++ declarations_of d) ds) (regions_after a d ∙ ap (λ es. a.regions ++ (flat_map regions_of (declarations_of d) ++ instances_of (is_first_configuration es) d)) (sym h))
      ∙ append_assoc a.regions (flat_map regions_of (declarations_of d) ++ instances_of (is_first_configuration e) d) (regions_from decls (e ++ declarations_of d) ds)
      ∙ ap (λ rs. a.regions ++ rs) (append_assoc (flat_map regions_of (declarations_of d)) (instances_of (is_first_configuration e) d) (regions_from decls (e ++ declarations_of d) ds))

  pub all_regions : (after_all no_declarations decls).regions ≡ unit_regions decls
  all_regions = regions_go no_declarations decls [] refl
