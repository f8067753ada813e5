-- Where each entry of TYPE, function, program and interface of a unit stands, and what its rules say.
use Rattle.std.proofs.Common.{◌≡◌, ℕ, Bool, true, false, List, [], ◌∷◌, ◌++◌, map, Option, Some, None, refl, sym, ap, ◌∙◌}
use Rattle.std.specs.Prelude.{flat_map, option_map, slice_get}
use Rattle.std.proofs.lemmas.Option.{slice_get-map}
use Rattle.st_tree.specs.declared.configuration.Resource.{Resource}
use Rattle.st_tree.specs.declared.declaration.ClassDecl.{ClassDecl}
use Rattle.st_tree.specs.declared.declaration.FieldGroup.{FieldGroup}
use Rattle.st_tree.specs.declared.declaration.FunctionDecl.{FunctionDecl}
use Rattle.st_tree.specs.declared.declaration.InterfaceDecl.{InterfaceDecl}
use Rattle.st_tree.specs.declared.declaration.Item.{Item}
use Rattle.st_tree.specs.declared.declaration.ProgramDecl.{ProgramDecl}
use Rattle.st_tree.specs.declared.declaration.Section.{Section}
use Rattle.st_tree.specs.declared.declaration.TypeBody.TheVariants as body
use Rattle.st_tree.specs.declared.declaration.TypeDecl.{TypeDecl}
use Rattle.st_tree.specs.declared.unit.Decl.{Decl}
use Rattle.st_tree.specs.declared.unit.Decl.TheVariants as declaration
use Rattle.st_tree.specs.Declarations.{is_global}
use Rattle.st_rules.specs.Classes.{classes_in}
use Rattle.st_rules.specs.Interfaces.{interfaces_in}
use Rattle.st_rules.proofs.Booleans.{none≢some, some-same}
use Rattle.st_unit_rules.specs.declared_names.Declarations.{Declaration, an_entry, a_global, an_interface, a_class, a_function, a_program, Placed, declarations_of, declarations, placed, globals_of_item, globals_of_section, resource_globals, configuration_globals, entries_in, functions_in, programs_in}
use Rattle.st_unit_rules.specs.declared_names.Variables.{Written, item_written}
use Rattle.st_unit_rules.specs.DeclarationRules.{group_faults, sort_faults, type_body_faults}
use Rattle.st_unit_rules.specs.NameRules.{space_faults, part_names}
use Rattle.st_unit_rules.specs.UnitRefusal.{BreaksNothing}
use Rattle.resolution_order.specs.told_laws.ToldLaws.{Every}
use Rattle.accepted_texts.specs.formed_units.Formed as formed
use Rattle.accepted_texts.specs.formed_units.Formed.{FormedGlobals, FormedDecl, IsFormed}
use Rattle.accepted_texts.proofs.formed_texts.Units.{over}
use Rattle.accepted_texts.proofs.unfolding_laws.CycleLaws.{none_in, none_of_each, none_there, all_placed}
use Rattle.accepted_texts.proofs.unfolding_laws.ListLaws.{every_append, every_at, every_back, every_front, every_from, every_map, every_mapped, every_joined, every_means, every_one}

-- what holds of each declaration holds of those of each sort
pub record OfSorts (P : Declaration → Type 0) (ds : List (Decl ℕ)) : Type 0 where
  pub entries : Every (λ (t : TypeDecl ℕ). P (an_entry t)) (entries_in ds)
  pub functions : Every (λ (f : FunctionDecl ℕ). P (a_function f)) (functions_in ds)
  pub programs : Every (λ (d : ProgramDecl ℕ). P (a_program d)) (programs_in ds)
  pub interfaces : Every (λ (d : InterfaceDecl ℕ). P (an_interface d)) (interfaces_in ds)
  pub classes : Every (λ (d : ClassDecl ℕ). P (a_class d)) (classes_in ds)

module _ (P : Declaration → Type 0) where
  pub sorts_from : (ds : List (Decl ℕ)) → Every P (flat_map declarations_of ds) → OfSorts P ds
  sorts_from [] h = record { entries = tt; functions = tt; programs = tt; interfaces = tt; classes = tt }
  sorts_from (declaration.Types l ts ∷ ds) h =
      let r = sorts_from ds (every_back P (map an_entry ts) (flat_map declarations_of ds) h) in
      record {
        entries = every_append (λ (t : TypeDecl ℕ). P (an_entry t)) ts (entries_in ds) (every_map P an_entry ts (every_front P (map an_entry ts) (flat_map declarations_of ds) h)) r.entries;
        functions = r.functions;
        programs = r.programs;
        interfaces = r.interfaces;
        classes = r.classes;
      }
  sorts_from (declaration.Globals s ∷ ds) h =
      let r = sorts_from ds (every_back P (globals_of_section s) (flat_map declarations_of ds) h) in
      record { entries = r.entries; functions = r.functions; programs = r.programs; interfaces = r.interfaces; classes = r.classes }
  sorts_from (declaration.Interface d ∷ ds) h = let r = sorts_from ds h.1 in record { entries = r.entries; functions = r.functions; programs = r.programs; interfaces = (h.0, r.interfaces); classes = r.classes }
  sorts_from (declaration.Class d ∷ ds) h = let r = sorts_from ds h.1 in record { entries = r.entries; functions = r.functions; programs = r.programs; interfaces = r.interfaces; classes = (h.0, r.classes) }
  sorts_from (declaration.Function d ∷ ds) h = let r = sorts_from ds h.1 in record { entries = r.entries; functions = (h.0, r.functions); programs = r.programs; interfaces = r.interfaces; classes = r.classes }
  sorts_from (declaration.Program d ∷ ds) h = let r = sorts_from ds h.1 in record { entries = r.entries; functions = r.functions; programs = (h.0, r.programs); interfaces = r.interfaces; classes = r.classes }
  sorts_from (declaration.Configuration c ∷ ds) h =
      let r = sorts_from ds (every_back P (flat_map globals_of_section (configuration_globals c)) (flat_map declarations_of ds) h.1) in
      record { entries = r.entries; functions = r.functions; programs = r.programs; interfaces = r.interfaces; classes = r.classes }

  pub of_sorts : (decls : List (Decl ℕ)) → Every P (declarations decls) → OfSorts P decls
  unfolding declarations
  of_sorts decls h = sorts_from decls h

module _ (decls : List (Decl ℕ)) where
  -- a declaration with its place among all
  pub record PlacedAt (d : Declaration) : Type 0 where
    pub place : ℕ
    pub item : Placed
    pub there : slice_get (placed decls) place ≡ Some item
    pub is : item.declaration ≡ d

  placed_at : (i : ℕ) (d : Declaration) → slice_get (declarations decls) i ≡ Some d → PlacedAt d
  placed_at i d e = by (slice_get (placed decls) i) refl (sym (slice_get-map (λ (x : Placed). x.declaration) (placed decls) i) ∙ (ap (λ xs. slice_get xs i) (all_placed decls) ∙ e))
    where
      by : (o : Option Placed) → slice_get (placed decls) i ≡ o → option_map (λ (x : Placed). x.declaration) o ≡ Some d → PlacedAt d
      by None q h = absurd (none≢some h)
      by (Some x) q h = record { place = i; item = x; there = q; is = some-same h }

  pub all_at : Every PlacedAt (declarations decls)
  all_at = every_from PlacedAt (declarations decls) placed_at

  module _ (good : BreaksNothing decls) where
    pub rules_at : (d : Declaration) (h : PlacedAt d) → sort_faults decls h.place h.item d ≡ []
    rules_at d h = sym (ap (sort_faults decls h.place h.item) h.is) ∙ (none_there decls good h.place h.item h.there).1

    -- an entry of TYPE
    pub record EntryFine (t : TypeDecl ℕ) : Type 0 where
      pub names : space_faults (part_names t.body) ≡ []
      pub body : type_body_faults decls t.name.text t.body ≡ []

    entry_fine : (t : TypeDecl ℕ) → PlacedAt (an_entry t) → EntryFine t
    entry_fine t h =
        let a = none_in (space_faults (part_names t.body) ++ type_body_faults decls t.name.text t.body) _ (rules_at (an_entry t) h) in
        let b = none_in (space_faults (part_names t.body)) (type_body_faults decls t.name.text t.body) a.0 in
        record { names = b.0; body = b.1 }

    pub entries_fine : Every EntryFine (entries_in decls)
    entries_fine = every_means (λ (t : TypeDecl ℕ). PlacedAt (an_entry t)) EntryFine entry_fine (entries_in decls) (of_sorts PlacedAt decls all_at).entries

    -- the fields of a structure break no rule
    pub structure_rules : (n : ℕ) (t : TypeDecl ℕ) (gs : List (FieldGroup ℕ)) → slice_get (entries_in decls) n ≡ Some t → t.body ≡ body.Structure gs → Every (λ g. group_faults decls g ≡ []) gs
    structure_rules n t gs e q =
        let f = every_at EntryFine (entries_in decls) n t entries_fine e in
        none_of_each (group_faults decls) gs (sym (ap (type_body_faults decls t.name.text) q) ∙ f.body)

-- ---- globals of a formed unit stand in sections of globals

abbrev pub IsGlobalSort : Declaration → Type 0
IsGlobalSort (a_global g) = is_global g.section.sort ≡ true
IsGlobalSort _ = Unit {0}

one_global : (s : Section ℕ) → is_global s.sort ≡ true → (item : Item ℕ) (first : Bool) (ws : List Written) → Every IsGlobalSort (globals_of_item s item first ws)
one_global s h item first [] = tt
one_global s h item first (w ∷ ws) = (h, one_global s h item false ws)

section_global : (s : Section ℕ) → FormedGlobals s → Every IsGlobalSort (globals_of_section s)
section_global s h =
    every_joined IsGlobalSort (λ (item : Item ℕ). globals_of_item s item true (item_written s item)) s.items
    (every_one (λ (item : Item ℕ). Every IsGlobalSort (globals_of_item s item true (item_written s item))) (λ item. one_global s h.global item true (item_written s item)) s.items)

sections_global : (ss : List (Section ℕ)) → Every FormedGlobals ss → Every IsGlobalSort (flat_map globals_of_section ss)
sections_global ss h = every_joined IsGlobalSort globals_of_section ss (every_means FormedGlobals (λ s. Every IsGlobalSort (globals_of_section s)) section_global ss h)

resource_global : (o : Option (Resource ℕ)) → formed.IfThere (λ (r : Resource ℕ). formed.Every FormedGlobals r.globals) o → Every FormedGlobals (resource_globals o)
resource_global None h = tt
resource_global (Some r) h = over FormedGlobals FormedGlobals (λ s k. k) r.globals h

decl_global : (most : ℕ) (d : Decl ℕ) → FormedDecl most d → Every IsGlobalSort (declarations_of d)
decl_global most (declaration.Types l ts) h = every_mapped IsGlobalSort an_entry ts (every_one (λ (t : TypeDecl ℕ). IsGlobalSort (an_entry t)) (λ t. tt) ts)
decl_global most (declaration.Globals s) h = section_global s h
decl_global most (declaration.Interface d) h = (tt, tt)
decl_global most (declaration.Class d) h = (tt, tt)
decl_global most (declaration.Function d) h = (tt, tt)
decl_global most (declaration.Program d) h = (tt, tt)
decl_global most (declaration.Configuration c) h =
    (tt, sections_global (configuration_globals c) (every_append FormedGlobals c.globals (resource_globals c.resource) (over FormedGlobals FormedGlobals (λ s k. k) c.globals h.globals) (resource_global c.resource h.resource)))

pub globals_are : (most : ℕ) (decls : List (Decl ℕ)) → IsFormed most decls → Every IsGlobalSort (declarations decls)
unfolding declarations
globals_are most decls h = every_joined IsGlobalSort declarations_of decls (over (FormedDecl most) (λ d. Every IsGlobalSort (declarations_of d)) (decl_global most) decls h)
