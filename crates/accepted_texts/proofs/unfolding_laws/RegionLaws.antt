-- What the rules say of the first global of an item, of the instances of a configuration and of a program holds of each region and of each
-- program.
use Rattle.std.proofs.Common.{◌≡◌, ℕ, Bool, true, false, List, [], ◌∷◌, ◌++◌, map, refl, subst}
use Rattle.std.specs.Prelude.{if◌then◌else◌, flat_map}
use Rattle.st_tree.specs.declared.configuration.Configuration.{Configuration}
use Rattle.st_tree.specs.declared.configuration.InstanceSpec.{InstanceSpec}
use Rattle.st_tree.specs.declared.declaration.Item.{Item}
use Rattle.st_tree.specs.declared.declaration.ProgramDecl.{ProgramDecl}
use Rattle.st_tree.specs.declared.declaration.Section.{Section}
use Rattle.st_tree.specs.declared.declaration.SectionSort.{SectionSort}
use Rattle.st_tree.specs.declared.declaration.TypeDecl.{TypeDecl}
use Rattle.st_tree.specs.declared.unit.Decl.{Decl}
use Rattle.st_tree.specs.declared.unit.Decl.TheVariants as declaration
use Rattle.st_unit_rules.specs.declared_names.Declarations.{Global, Declaration, an_entry, a_global, a_program, a_configuration, Placed, Region, of_global, of_instance, declarations, declarations_of, globals_of_item, globals_of_section, configuration_globals, region_of_global, regions_of, instances_of, is_first_configuration, placed, programs_in}
use Rattle.st_unit_rules.specs.declared_names.Variables.{Written, item_written, declares_constants}
use Rattle.st_unit_rules.specs.Checked.{regions_from, unit_regions}
use Rattle.st_unit_rules.specs.DeclarationRules.{global_faults, configuration_faults, program_faults, sort_faults}
use Rattle.st_unit_rules.specs.UnitRefusal.{BreaksNothing}
use Rattle.resolution_order.specs.told_laws.ToldLaws.{Every}
use Rattle.accepted_texts.proofs.unfolding_laws.ListLaws.{every_append, every_front, every_back, every_one, every_from, every_means, every_mapped, every_flat, every_joined}
use Rattle.accepted_texts.proofs.unfolding_laws.CycleLaws.{all_placed, none_there}

-- a region of a global by its section's sort, whether it is constant, and its item; any other by its instance
abbrev pub OfRegion : (SectionSort → Bool → Item ℕ → Type 0) → (InstanceSpec → Type 0) → Region → Type 0
OfRegion P Q (of_global w) = P w.sort w.constant w.item
OfRegion P Q (of_instance x) = Q x

-- of declarations the first global of an item, and the instances of a configuration
abbrev pub OfGlobal : (SectionSort → Bool → Item ℕ → Type 0) → (InstanceSpec → Type 0) → Declaration → Type 0
OfGlobal P Q (a_global g) = g.first ≡ true → P g.section.sort (declares_constants g.section) g.item
OfGlobal P Q (a_configuration c) = Every Q c.instances
OfGlobal P Q _ = Unit {0}

abbrev pub OfProgram : (ProgramDecl ℕ → Type 0) → Declaration → Type 0
OfProgram P (a_program d) = P d
OfProgram P _ = Unit {0}

module _ (decls : List (Decl ℕ)) where
  each_declaration : (D : Declaration → Type 0) → ((i : ℕ) (x : Placed) (d : Declaration) → sort_faults decls i x d ≡ [] → D d) → BreaksNothing decls → Every D (declarations decls)
  each_declaration D says good =
      subst (Every D) (all_placed decls)
      (every_mapped D (λ (x : Placed). x.declaration) (placed decls)
      (every_from (λ (x : Placed). D x.declaration) (placed decls) (λ i x e. says i x x.declaration (none_there decls good i x e).1)))

  -- ---- programs

  module _ (P : ProgramDecl ℕ → Type 0) where
    programs_from : (ds : List (Decl ℕ)) → Every (OfProgram P) (flat_map declarations_of ds) → Every P (programs_in ds)
    programs_from [] h = tt
    programs_from (declaration.Program d ∷ ds) h = (h.0, programs_from ds h.1)
    programs_from (declaration.Types l ts ∷ ds) h = programs_from ds (every_back (OfProgram P) (map an_entry ts) (flat_map declarations_of ds) h)
    programs_from (declaration.Globals s ∷ ds) h = programs_from ds (every_back (OfProgram P) (globals_of_section s) (flat_map declarations_of ds) h)
    programs_from (declaration.Interface d ∷ ds) h = programs_from ds h.1
    programs_from (declaration.Class d ∷ ds) h = programs_from ds h.1
    programs_from (declaration.Function d ∷ ds) h = programs_from ds h.1
    programs_from (declaration.Configuration c ∷ ds) h = programs_from ds (every_back (OfProgram P) (flat_map globals_of_section (configuration_globals c)) (flat_map declarations_of ds) h.1)

    pub all_programs : Every (OfProgram P) (declarations decls) → Every P (programs_in decls)
    unfolding declarations
    all_programs h = programs_from decls h

    module _ (of_program : (d : ProgramDecl ℕ) → program_faults decls d ≡ [] → P d) where
      program_sort : (i : ℕ) (x : Placed) (d : Declaration) → sort_faults decls i x d ≡ [] → OfProgram P d
      program_sort i x (a_program d) h = of_program d h
      program_sort i x _ h = tt

      pub each_program : BreaksNothing decls → Every P (programs_in decls)
      each_program good = all_programs (each_declaration (OfProgram P) program_sort good)

  -- ---- regions

  module _ (P : SectionSort → Bool → Item ℕ → Type 0) (Q : InstanceSpec → Type 0) where
    abbrev OfRegions : Declaration → Type 0
    OfRegions d = Every (OfRegion P Q) (regions_of d)

    abbrev OfWritten : Written → Type 0
    OfWritten w = P w.sort w.constant w.item

    of_one : (w : Written) → OfWritten w → Every (OfRegion P Q) (region_of_global w)
    of_one w h = by w.constant
      where
        by : (b : Bool) → Every (OfRegion P Q) (if b then [] else of_global w ∷ [])
        by true = tt
        by false = (h, tt)

    of_each : (s : Section ℕ) (item : Item ℕ) (first : Bool) (ws : List Written) → Every OfWritten ws → Every OfRegions (globals_of_item s item first ws)
    of_each s item first [] h = tt
    of_each s item first (w ∷ ws) h = (of_one w h.0, of_each s item false ws h.1)

    -- what the first of an item says holds of all
    by_first : (s : Section ℕ) (item : Item ℕ) (ws : List Written) → (P s.sort (declares_constants s) item → Every OfWritten ws) → Every (OfGlobal P Q) (globals_of_item s item true ws) → Every OfRegions (globals_of_item s item true ws)
    by_first s item [] f h = tt
    by_first s item (w ∷ ws) f h = of_each s item true (w ∷ ws) (f (h.0 refl))

    of_section : (s : Section ℕ) → Every (OfGlobal P Q) (globals_of_section s) → Every OfRegions (globals_of_section s)
    of_section s h =
        let globals = λ (item : Item ℕ). globals_of_item s item true (item_written s item) in
        every_joined OfRegions globals s.items
        (every_means (λ item. Every (OfGlobal P Q) (globals item)) (λ item. Every OfRegions (globals item))
        (λ item k. by_first s item (item_written s item) (λ q. every_mapped OfWritten _ item.names (every_one _ (λ n. q) item.names)) k) s.items
        (every_flat (OfGlobal P Q) globals s.items h))

    of_decl : (d : Decl ℕ) → Every (OfGlobal P Q) (declarations_of d) → Every OfRegions (declarations_of d)
    of_decl (declaration.Types l ts) h = every_mapped OfRegions an_entry ts (every_one (λ (t : TypeDecl ℕ). OfRegions (an_entry t)) (λ t. tt) ts)
    of_decl (declaration.Globals s) h = of_section s h
    of_decl (declaration.Interface d) h = (tt, tt)
    of_decl (declaration.Class d) h = (tt, tt)
    of_decl (declaration.Function d) h = (tt, tt)
    of_decl (declaration.Program d) h = (tt, tt)
    of_decl (declaration.Configuration c) h = (
      tt,
      every_joined OfRegions globals_of_section (configuration_globals c)
          (every_means (λ s. Every (OfGlobal P Q) (globals_of_section s)) (λ s. Every OfRegions (globals_of_section s)) of_section (configuration_globals c)
          (every_flat (OfGlobal P Q) globals_of_section (configuration_globals c) h.1)),
    )

    of_instances : (b : Bool) (d : Decl ℕ) → Every (OfGlobal P Q) (declarations_of d) → Every (OfRegion P Q) (instances_of b d)
    of_instances true (declaration.Configuration c) h = every_mapped (OfRegion P Q) of_instance c.instances h.0
    of_instances b d h = tt

    regions_from_all : (earlier : List Declaration) (ds : List (Decl ℕ)) → Every (OfGlobal P Q) (flat_map declarations_of ds) → Every (OfRegion P Q) (regions_from decls earlier ds)
    regions_from_all earlier [] h = tt
    regions_from_all earlier (d ∷ ds) h =
        let own = every_front (OfGlobal P Q) (declarations_of d) (flat_map declarations_of ds) h in
        every_append (OfRegion P Q) (flat_map regions_of (declarations_of d)) (instances_of (is_first_configuration earlier) d ++ regions_from decls (earlier ++ declarations_of d) ds)
        (every_joined (OfRegion P Q) regions_of (declarations_of d) (of_decl d own))
        (every_append (OfRegion P Q) (instances_of (is_first_configuration earlier) d) (regions_from decls (earlier ++ declarations_of d) ds) (of_instances (is_first_configuration earlier) d own)
        (regions_from_all (earlier ++ declarations_of d) ds (every_back (OfGlobal P Q) (declarations_of d) (flat_map declarations_of ds) h)))

    pub all_regions : Every (OfGlobal P Q) (declarations decls) → Every (OfRegion P Q) (unit_regions decls)
    unfolding declarations
    all_regions h = regions_from_all [] decls h

    module _ (of_first : (before : List Region) (g : Global) → global_faults decls before g ≡ [] → g.first ≡ true → P g.section.sort (declares_constants g.section) g.item)
        (of_configuration : (x : Placed) (c : Configuration ℕ) → configuration_faults decls x c ≡ [] → Every Q c.instances) where
      region_sort : (i : ℕ) (x : Placed) (d : Declaration) → sort_faults decls i x d ≡ [] → OfGlobal P Q d
      region_sort i x (a_global g) h = of_first x.regions g h
      region_sort i x (a_configuration c) h = of_configuration x c h
      region_sort i x _ h = tt

      pub each_region : BreaksNothing decls → Every (OfRegion P Q) (unit_regions decls)
      each_region good = all_regions (each_declaration (OfGlobal P Q) region_sort good)
