-- Where the functions, the interfaces and the classes of a unit stand among its declarations, and that they are formed.
use Rattle.std.proofs.Common.{◌≡◌, ℕ, false, List, [], ◌∷◌, map, Some, refl, sym, subst}
use Rattle.std.specs.Prelude.{flat_map, slice_get}
use Rattle.st_tree.specs.declared.declaration.ClassDecl.{ClassDecl}
use Rattle.st_tree.specs.declared.declaration.FunctionDecl.{FunctionDecl}
use Rattle.st_tree.specs.declared.declaration.InterfaceDecl.{InterfaceDecl}
use Rattle.st_tree.specs.declared.declaration.Item.{Item}
use Rattle.st_tree.specs.declared.declaration.Member.{Member}
use Rattle.st_tree.specs.declared.declaration.Member.TheVariants as member
use Rattle.st_tree.specs.declared.declaration.Method.{Method}
use Rattle.st_tree.specs.declared.declaration.ProgramDecl.{ProgramDecl}
use Rattle.st_tree.specs.declared.declaration.Prototype.{Prototype}
use Rattle.st_tree.specs.declared.declaration.Section.{Section}
use Rattle.st_tree.specs.declared.unit.Decl.{Decl}
use Rattle.st_tree.specs.declared.unit.Decl.TheVariants as declaration
use Rattle.st_tree.specs.Declarations.{is_global}
use Rattle.st_rules.specs.Classes.{classes_in, methods_in}
use Rattle.st_rules.specs.Interfaces.{interfaces_in}
use Rattle.st_unit_rules.specs.declared_names.Declarations.{Declaration, an_entry, a_global, an_interface, a_class, a_function, a_program, a_configuration, Placed, placed, declarations, declarations_of, globals_of_section, configuration_globals, functions_in, programs_in}
use Rattle.st_unit_rules.specs.declared_names.Variables.{Written, item_written, section_written, sections_written, sections_in}
use Rattle.resolution_order.specs.told_laws.ToldLaws.{Every}
use Rattle.accepted_texts.specs.formed_units.Formed as formed
use Rattle.accepted_texts.specs.formed_units.Formed.{FormedVars, FormedMethod, FormedPrototype, FormedMember, FormedClass, IsFormed}
use Rattle.accepted_texts.proofs.formed_texts.Units.{over, FormedPart, all_parts}
use Rattle.accepted_texts.proofs.unfolding_laws.CycleLaws.{all_placed}
use Rattle.accepted_texts.proofs.unfolding_laws.ListLaws.{every_back, every_at, every_from, every_map, every_mapped, every_joined, every_one}
use Rattle.accepted_texts.proofs.unfolding_laws.RegionLaws.{OfProgram, all_programs}
use Rattle.accepted_texts.proofs.told_units.Whole.{ClassPlaced, classes-placed, numbered-at}

-- ---- sections of variables are no VAR_GLOBAL

abbrev pub IsInside : Written → Type 0
IsInside w = is_global w.sort ≡ false

section_inside : (x : Section ℕ) → FormedVars x → Every IsInside (section_written x)
section_inside x h = every_joined IsInside (item_written x) x.items (every_one (λ (item : Item ℕ). Every IsInside (item_written x item)) (λ item. every_mapped IsInside _ item.names (every_one _ (λ n. h.local) item.names)) x.items)

pub sections_inside : (ss : List (Section ℕ)) → formed.Every FormedVars ss → Every IsInside (sections_written ss)
sections_inside ss h = every_joined IsInside section_written ss (over FormedVars (λ x. Every IsInside (section_written x)) section_inside ss h)

pub members_inside : (ms : List (Member ℕ)) → formed.Every FormedMember ms → formed.Every FormedVars (sections_in ms)
members_inside [] h = tt
members_inside (member.Section x ∷ ms) h = (h.0, members_inside ms h.1)
members_inside (member.Method m ∷ ms) h = members_inside ms h.1

pub methods_are_formed : (ms : List (Member ℕ)) → formed.Every FormedMember ms → Every FormedMethod (methods_in ms)
methods_are_formed [] h = tt
methods_are_formed (member.Method m ∷ ms) h = (h.0, methods_are_formed ms h.1)
methods_are_formed (member.Section x ∷ ms) h = methods_are_formed ms h.1

-- ---- what holds of each declaration

module _ (D : Declaration → Type 0) where
  functions_from : (ds : List (Decl ℕ)) → Every D (flat_map declarations_of ds) → Every (λ (f : FunctionDecl ℕ). D (a_function f)) (functions_in ds)
  functions_from [] h = tt
  functions_from (declaration.Function f ∷ ds) h = (h.0, functions_from ds h.1)
  functions_from (declaration.Types l ts ∷ ds) h = functions_from ds (every_back D (map an_entry ts) (flat_map declarations_of ds) h)
  functions_from (declaration.Globals x ∷ ds) h = functions_from ds (every_back D (globals_of_section x) (flat_map declarations_of ds) h)
  functions_from (declaration.Interface d ∷ ds) h = functions_from ds h.1
  functions_from (declaration.Class d ∷ ds) h = functions_from ds h.1
  functions_from (declaration.Program d ∷ ds) h = functions_from ds h.1
  functions_from (declaration.Configuration c ∷ ds) h = functions_from ds (every_back D (flat_map globals_of_section (configuration_globals c)) (flat_map declarations_of ds) h.1)

  interfaces_from : (ds : List (Decl ℕ)) → Every D (flat_map declarations_of ds) → Every (λ (d : InterfaceDecl ℕ). D (an_interface d)) (interfaces_in ds)
  interfaces_from [] h = tt
  interfaces_from (declaration.Interface d ∷ ds) h = (h.0, interfaces_from ds h.1)
  interfaces_from (declaration.Types l ts ∷ ds) h = interfaces_from ds (every_back D (map an_entry ts) (flat_map declarations_of ds) h)
  interfaces_from (declaration.Globals x ∷ ds) h = interfaces_from ds (every_back D (globals_of_section x) (flat_map declarations_of ds) h)
  interfaces_from (declaration.Function f ∷ ds) h = interfaces_from ds h.1
  interfaces_from (declaration.Class d ∷ ds) h = interfaces_from ds h.1
  interfaces_from (declaration.Program d ∷ ds) h = interfaces_from ds h.1
  interfaces_from (declaration.Configuration c ∷ ds) h = interfaces_from ds (every_back D (flat_map globals_of_section (configuration_globals c)) (flat_map declarations_of ds) h.1)

-- ---- in a unit that is formed

module _ (most : ℕ) (decls : List (Decl ℕ)) (well : IsFormed most decls) where
  -- the declaration stands there, and is formed
  pub record StandsFormed (d : Declaration) : Type 0 where
    pub place : ℕ
    pub item : Placed
    pub there : slice_get (placed decls) place ≡ Some item
    pub is : item.declaration ≡ d
    pub formed : FormedPart most d

  formed_placed : Every (λ (x : Placed). FormedPart most x.declaration) (placed decls)
  formed_placed = every_map (FormedPart most) (λ (x : Placed). x.declaration) (placed decls) (subst (Every (FormedPart most)) (sym (all_placed decls)) (all_parts most decls well))

  stands_placed : Every (λ (x : Placed). StandsFormed x.declaration) (placed decls)
  stands_placed = every_from (λ (x : Placed). StandsFormed x.declaration) (placed decls) (λ i x e. record { place = i; item = x; there = e; is = refl; formed = every_at (λ (y : Placed). FormedPart most y.declaration) (placed decls) i x formed_placed e })

  all_stand : Every StandsFormed (declarations decls)
  all_stand = subst (Every StandsFormed) (all_placed decls) (every_mapped StandsFormed (λ (x : Placed). x.declaration) (placed decls) stands_placed)

  pub function_stands : (k : ℕ) (f : FunctionDecl ℕ) → slice_get (functions_in decls) k ≡ Some f → StandsFormed (a_function f)
  unfolding declarations
  function_stands k f e = every_at (λ (g : FunctionDecl ℕ). StandsFormed (a_function g)) (functions_in decls) k f (functions_from StandsFormed decls all_stand) e

  pub interface_stands : (k : ℕ) (d : InterfaceDecl ℕ) → slice_get (interfaces_in decls) k ≡ Some d → StandsFormed (an_interface d)
  unfolding declarations
  interface_stands k d e = every_at (λ (g : InterfaceDecl ℕ). StandsFormed (an_interface g)) (interfaces_in decls) k d (interfaces_from StandsFormed decls all_stand) e

  of_program : (d : Declaration) → StandsFormed d → OfProgram (λ (x : ProgramDecl ℕ). StandsFormed (a_program x)) d
  of_program (a_program d) h = h
  of_program (an_entry t) h = tt
  of_program (a_global g) h = tt
  of_program (an_interface d) h = tt
  of_program (a_class d) h = tt
  of_program (a_function d) h = tt
  of_program (a_configuration c) h = tt

  each_of_program : (ds : List Declaration) → Every StandsFormed ds → Every (OfProgram (λ (x : ProgramDecl ℕ). StandsFormed (a_program x))) ds
  each_of_program [] h = tt
  each_of_program (d ∷ ds) h = (of_program d h.0, each_of_program ds h.1)

  pub program_stands : (k : ℕ) (d : ProgramDecl ℕ) → slice_get (programs_in decls) k ≡ Some d → StandsFormed (a_program d)
  program_stands k d e =
      every_at (λ (g : ProgramDecl ℕ). StandsFormed (a_program g)) (programs_in decls) k d (all_programs decls (λ (x : ProgramDecl ℕ). StandsFormed (a_program x)) (each_of_program (declarations decls) all_stand)) e

  pub class_formed : (c : ℕ) (d : ClassDecl ℕ) → slice_get (classes_in decls) c ≡ Some d → FormedClass d
  unfolding placed
  class_formed c d e =
      let r = numbered-at (ClassPlaced (λ (x : Placed). FormedPart most x.declaration)) 0 (classes_in decls) c d (classes-placed (λ (x : Placed). FormedPart most x.declaration) [] [] [] decls formed_placed) e in
      subst (FormedPart most) r.is r.has

  pub method_formed : (c : ℕ) (d : ClassDecl ℕ) (k : ℕ) (m : Method ℕ) → slice_get (classes_in decls) c ≡ Some d → slice_get (methods_in d.members) k ≡ Some m → FormedMethod m
  method_formed c d k m e f = every_at FormedMethod (methods_in d.members) k m (methods_are_formed d.members (class_formed c d e).members) f

  pub prototype_formed : (i : ℕ) (d : InterfaceDecl ℕ) (k : ℕ) (m : Prototype ℕ) → slice_get (interfaces_in decls) i ≡ Some d → slice_get d.methods k ≡ Some m → FormedPrototype m
  prototype_formed i d k m e f = every_at FormedPrototype d.methods k m (over FormedPrototype FormedPrototype (λ y j. j) d.methods (interface_stands i d e).formed.methods) f
