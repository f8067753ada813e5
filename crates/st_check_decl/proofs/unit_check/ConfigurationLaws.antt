-- A configuration, with its globals and its instances.
use Rattle.std.proofs.Common.{◌≡◌, inl, inr, ℕ, Bool, true, false, List, [], ◌∷◌, ◌++◌, Option, map, length, refl, sym, ap, ◌∙◌, subst, append-nil, append_assoc}
use Rattle.std.specs.Prelude.{flat_map, filter}
use Rattle.plc_text.specs.declared.code.Code.{Code}
use Rattle.st_tree.specs.declared.configuration.Configuration.{Configuration}
use Rattle.st_tree.specs.declared.configuration.InstanceSpec.{InstanceSpec}
use Rattle.st_tree.specs.declared.declaration.Section.{Section}
use Rattle.st_tree.specs.declared.name.Name.{Name}
use Rattle.st_tree.specs.declared.program.RegionDecl.{RegionDecl}
use Rattle.st_tree.specs.declared.unit.Decl.{Decl}
use Rattle.st_tree.specs.declared.unit.Decl.TheVariants as declaration
use Rattle.st_tree.specs.declared.unit.Unit.{Unit as ProgramText}
use Rattle.st_rules.specs.Faults.{least}
use Rattle.st_unit_rules.specs.declared_names.Declarations.{Declaration, Global, Placed, Region, a_configuration, a_global, configuration_globals, declarations_of, globals_of_section, instances_of, is_configuration, is_first_configuration, of_instance, region_of_global, regions_of, resource_globals}
use Rattle.st_unit_rules.specs.declared_names.Variables.{Written, sections_written}
use Rattle.check_names.specs.declarations_before.Before.{StandsBefore}
use Rattle.st_unit_rules.specs.declared.declaration_list.written.WrittenName.{WrittenName}
use Rattle.st_unit_rules.specs.declaration_list.Written.{global_of, names_in_section, names_in_sections}
use Rattle.st_unit_rules.proofs.declaration_list.GlobalLaws.{globals_are, written_are}
use Rattle.st_check_decl.specs.declared.checked_declarations.so_far.Bad.{Bad}
use Rattle.st_check_decl.specs.declared.checked_declarations.so_far.Bad.TheVariants as bad
use Rattle.st_check_decl.specs.declared.checked_declarations.so_far.CheckedSoFar.{CheckedSoFar}
use Rattle.st_check_decl.specs.declared.checked_declarations.trees.Trees.{Trees}
use Rattle.st_check_decl.specs.checked_declarations.SoFar.{Breaks, Passed}
use Rattle.check_configurations.specs.configuration_rules.Configurations.{StandsAt}
use Rattle.global_rules.specs.declared.globals.CheckedRegions.{CheckedRegions}
use Rattle.global_rules.specs.Globals.{HasRegions}
use Rattle.global_rules.specs.Sections.{Adds, AreFaults, GlobalsTo, regions_made}
use Rattle.global_rules.proofs.SectionLaws.{adds_both}
use Rattle.check_regions.specs.region_rules.Taken as taken
use Rattle.st_unit_rules.specs.passing_laws.Passing.{At, AllGood, OneBad, after_decl, faults_here, placed_at, with_any, with_each}
use Rattle.st_unit_rules.specs.passing_laws.PassingLaws.{SaysOf}
use Rattle.st_unit_rules.proofs.passing_laws.FieldLaws.{regions_after}
use Rattle.st_unit_rules.specs.Checked.{Each, EachFrom, TypedClass, TypedEntry, TypedFunction, TypedInterface, TypedProgram, TypedRegion}
use Rattle.st_unit_rules.specs.DeclarationRules.{configuration_faults, instance_regions}
use Rattle.st_unit_rules.specs.NameRules.{texts}
use Rattle.st_check_decl.specs.declared.unit_check.progress.Progress.{Progress}
use Rattle.st_check_decl.specs.unit_check.Private.Configurations.{Breaking, ConfiguredFail, ConfiguredPass, Configures}
use Rattle.st_check_decl.specs.unit_check.Private.Progress.{DeclFails, DeclPasses, GlobalsFail, GlobalsPass, Reached}
use Rattle.st_check_decl.specs.unit_check.Private.Refused.{IfRule}
use Rattle.st_check_decl.proofs.unit_check.DeclLaws.{checked_globals, made_regions}

abbrev Fault : Type 0
Fault = Option (Code × ℕ)

abbrev own_globals : Configuration ℕ → List Global
own_globals c = names_in_sections (configuration_globals c)

-- ---- the names of the globals, and their regions

names_append : (ss ts : List (Section ℕ)) → names_in_sections (ss ++ ts) ≡ names_in_sections ss ++ names_in_sections ts
names_append [] ts = refl
names_append (s ∷ ss) ts = ap (λ gs. names_in_section s ++ gs) (names_append ss ts) ∙ sym (append_assoc (names_in_section s) (names_in_sections ss) (names_in_sections ts))

pub names_joined : (ws us vs more : List WrittenName) (gs hs : List Global) → map global_of ws ≡ gs → map global_of us ≡ hs → more ≡ us → map global_of vs ≡ map global_of ws ++ map global_of more → map global_of vs ≡ gs ++ hs
names_joined ws us vs more gs hs e f l h = h ∙ (λ i. e i ++ (ap (map global_of) l ∙ f) i)

pub all_names : (c : Configuration ℕ) (ss ts : List (Section ℕ)) (gs : List Global) → ss ≡ c.globals → ts ≡ resource_globals c.resource → gs ≡ names_in_sections ss ++ names_in_sections ts → gs ≡ own_globals c
all_names c ss ts gs e f q = q ∙ sym (names_append ss ts) ∙ (λ i. names_in_sections (e i ++ f i))

pub all_added : (decls : List (Decl ℕ)) (c : Configuration ℕ) (ss ts : List (Section ℕ)) (fs gs hs : List Fault) (r q p : CheckedRegions) → ss ≡ c.globals → ts ≡ resource_globals c.resource → Adds decls fs r gs q (names_in_sections ss) → Adds decls gs q hs p (names_in_sections ts)
    → Adds decls fs r hs p (own_globals c)
all_added decls c ss ts fs gs hs r q p e f h k =
    subst (λ (xs : List Global). Adds decls fs r hs p xs) (sym (names_append ss ts) ∙ (λ i. names_in_sections (e i ++ f i))) (adds_both decls fs gs hs r q p (names_in_sections ss) (names_in_sections ts) h k)

made_written : (gs : List Global) → regions_made gs ≡ flat_map region_of_global (map (λ g. g.written) gs)
made_written [] = refl
made_written (g ∷ gs) = ap (λ rs. region_of_global g.written ++ rs) (made_written gs)

own_regions : (c : Configuration ℕ) → regions_made (own_globals c) ≡ flat_map region_of_global (sections_written (configuration_globals c))
own_regions c = made_written (own_globals c) ∙ ap (flat_map region_of_global) (written_are (configuration_globals c))

declared_globals : (c : Configuration ℕ) (gs : List Global) → gs ≡ own_globals c → map a_global gs ≡ flat_map globals_of_section (configuration_globals c)
declared_globals c gs e = ap (map a_global) e ∙ globals_are (configuration_globals c)

each_append : {A B : Type 0} (R : A → B → Type 0) (xs us : List A) (ys vs : List B) → Each R xs ys → Each R us vs → Each R (xs ++ us) (ys ++ vs)
each_append R [] us [] vs h k = k
each_append R (x ∷ xs) us (y ∷ ys) vs h k = (h.0, each_append R xs us ys vs h.1 k)
each_append R [] us (y ∷ ys) vs h k = absurd h
each_append R (x ∷ xs) us [] vs h k = absurd h

-- ---- what it breaks itself, behind its globals

module _ (decls : List (Decl ℕ)) (c : Configuration ℕ) (x : CheckedSoFar) (r q : CheckedRegions) where
  stands : (a : At) → Passed x decls a → HasRegions r decls (a.regions ++ regions_made (own_globals c)) → StandsAt (placed_at a (a_configuration c)) decls c x.before.names r.taken x.before.configurations
  stands a p h = record {
    names-are = p.before.names;
    count-is = sym p.before.configurations;
    regions-are = subst (λ rs. taken.Holds r.taken decls (a.regions ++ rs)) (own_regions c) h.taken-is;
  }

  pub configures : (f : Fault) (made : List RegionDecl)
      → ((y : Placed) → StandsAt y decls c x.before.names r.taken x.before.configurations → f ≡ least (configuration_faults decls y c))
      → ((y : Placed) → StandsAt y decls c x.before.names r.taken x.before.configurations
      → taken.Holds q.taken decls ((y.regions ++ flat_map region_of_global (sections_written (configuration_globals c))) ++ instance_regions decls (is_first_configuration y.earlier) c))
      → ((y : Placed) → StandsAt y decls c x.before.names r.taken x.before.configurations → Each (TypedRegion decls) (instance_regions decls (is_first_configuration y.earlier) c) made) → q.regions ≡ r.regions ++ made
      → Configures f x r q decls c
  configures f made told holds typed e = record {
    fault = λ a p h. told (placed_at a (a_configuration c)) (stands a p h);
    regions-are = λ a p h. record {
      taken-is = subst (λ rs. taken.Holds q.taken decls ((a.regions ++ rs) ++ instance_regions decls (is_first_configuration a.earlier) c)) (sym (own_regions c)) (holds (placed_at a (a_configuration c)) (stands a p h));
      trees =
          subst (λ (ys : List RegionDecl). Each (TypedRegion decls) ((a.regions ++ regions_made (own_globals c)) ++ instance_regions decls (is_first_configuration a.earlier) c) ys) (sym e)
          (each_append (TypedRegion decls) (a.regions ++ regions_made (own_globals c)) (instance_regions decls (is_first_configuration a.earlier) c) r.regions made h.trees (typed (placed_at a (a_configuration c)) (stands a p h)));
    };
  }

-- ---- it is passed with its globals and its instances

module _ (decls : List (Decl ℕ)) (c : Configuration ℕ) (f : Fault) (fs : List Fault) where
  -- the globals stand behind the configuration, which makes no region
  behind : (a : At) → Breaking f fs decls a c → (gs : List Global) → gs ≡ own_globals c → AreFaults decls (with_any a (a_configuration c)).regions gs fs
  behind a h gs e = subst (λ rs. AreFaults decls rs gs fs) (sym (append-nil a.regions)) (subst (λ (hs : List Global). AreFaults decls a.regions hs fs) (sym e) h.globals)

  names_passed : (y z : CheckedSoFar) (b : At) (ns : List (List ℕ)) (rs : List Region) → Passed y decls b → z.trees ≡ y.trees → StandsBefore z.before b.earlier (b.names ++ ns) → Passed z decls (record b { names = b.names ++ ns; regions = rs })
  names_passed y z b ns rs h e s = record {
    before = s;
    class_count = h.class_count;
    types = subst (λ (t : Trees). Each (TypedEntry decls) b.types t.types) (sym e) h.types;
    classes = subst (λ (t : Trees). EachFrom (TypedClass decls) 0 b.classes t.classes) (sym e) h.classes;
    interfaces = subst (λ (t : Trees). Each (TypedInterface decls) b.interfaces t.interfaces) (sym e) h.interfaces;
    functions = subst (λ (t : Trees). Each (TypedFunction decls) b.functions t.functions) (sym e) h.functions;
    programs = subst (λ (t : Trees). Each (TypedProgram decls) b.programs t.programs) (sym e) h.programs;
  }

  module _ (x y : CheckedSoFar) (goes : (a : At) → Passed x decls a → f ≡ least (configuration_faults decls (placed_at a (a_configuration c)) c) → (faults_here decls a (a_configuration c) ≡ []) × Passed y decls (with_any a (a_configuration c))) (gs : List Global) (named : gs ≡ own_globals c) where
    pub configured_passes : (z w : CheckedSoFar) (names : List Name) → GlobalsPass y z decls fs gs → names ≡ map (λ (i : InstanceSpec). i.name) c.instances
        → ((es : List Declaration) (ns : List (List ℕ)) → StandsBefore z.before es ns → StandsBefore w.before es (ns ++ texts names)) → w.trees ≡ z.trees → ConfiguredPass x w decls f fs c
    configured_passes z w names g e more kept = record {
      good = λ a p h.
          let first = goes a p h.own in
          (first.0, subst (λ (ds : List Declaration). AllGood decls (with_any a (a_configuration c)) ds) (declared_globals c gs named) (g.good (with_any a (a_configuration c)) first.1 (behind a h gs named)));
      passed = λ a p h.
          let first = goes a p h.own in
          let b : At = with_each a (declarations_of (declaration.Configuration c)) in
          let whole : Passed z decls b = subst (λ (ds : List Declaration). Passed z decls (with_each (with_any a (a_configuration c)) ds)) (declared_globals c gs named) (g.passed (with_any a (a_configuration c)) first.1 (behind a h gs named)) in
          names_passed z w b (map (λ (n : Name). n.text) (map (λ (i : InstanceSpec). i.name) c.instances)) (after_decl a (declaration.Configuration c)).regions whole kept
          (subst (λ (ns : List Name). StandsBefore w.before b.earlier (b.names ++ texts ns)) e (more b.earlier b.names whole.before));
    }

    pub configured_globals_fail : (b : Bad) → GlobalsFail b y decls fs gs → ConfiguredFail b x decls f fs c
    configured_globals_fail bad.NoMemory g = record { one = λ a p h. tt }
    configured_globals_fail (bad.Rule declaration code line) g = record {
      one = λ a p h.
          let first = goes a p h.own in
          inr (first.0, subst (λ (ds : List Declaration). OneBad decls (SaysOf code declaration line) (with_any a (a_configuration c)) ds) (declared_globals c gs named) (g.one (with_any a (a_configuration c)) first.1 (behind a h gs named)));
    }

  pub configured_fails : (x : CheckedSoFar) (b : Bad) → ((a : At) → Passed x decls a → f ≡ least (configuration_faults decls (placed_at a (a_configuration c)) c) → Breaks b decls a (a_configuration c)) → ConfiguredFail b x decls f fs c
  configured_fails x bad.NoMemory h = record { one = λ a p k. tt }
  configured_fails x (bad.Rule declaration code line) h = record { one = λ a p k. inl (h a p k.own) }

  pub configured_no_memory : (x : CheckedSoFar) (b : Bad) → b ≡ bad.NoMemory → ConfiguredFail b x decls f fs c
  configured_no_memory x bad.NoMemory e = record { one = λ a p h. tt }
  configured_no_memory x (bad.Rule declaration code line) e = absurd (cc)

-- ---- the same by what is lent

pub configured_pass_of : (g t : ProgramText) (c : Configuration ℕ) (f : Fault) (fs : List Fault) (x y : CheckedSoFar) → g ≡ t → ConfiguredPass x y g.decls f fs c → ConfiguredPass x y t.decls f fs c
configured_pass_of g t c f fs x y e h = subst (λ (u : ProgramText). ConfiguredPass x y u.decls f fs c) e h

pub configured_fail_of : (g t : ProgramText) (c : Configuration ℕ) (f : Fault) (fs : List Fault) (x : CheckedSoFar) (b : Bad) → g ≡ t → ConfiguredFail b x g.decls f fs c → ConfiguredFail b x t.decls f fs c
configured_fail_of g t c f fs x b e h = subst (λ (u : ProgramText). ConfiguredFail b x u.decls f fs c) e h

pub configured_pass_as : (decls : List (Decl ℕ)) (c : Configuration ℕ) (f : Fault) (fs gs : List Fault) (x y : CheckedSoFar) → gs ≡ fs → ConfiguredPass x y decls f gs c → ConfiguredPass x y decls f fs c
configured_pass_as decls c f fs gs x y e h = subst (λ (hs : List Fault). ConfiguredPass x y decls f hs c) e h

pub configured_fail_as : (decls : List (Decl ℕ)) (c : Configuration ℕ) (f : Fault) (fs gs : List Fault) (x : CheckedSoFar) (b : Bad) → gs ≡ fs → ConfiguredFail b x decls f gs c → ConfiguredFail b x decls f fs c
configured_fail_as decls c f fs gs x b e h = subst (λ (hs : List Fault). ConfiguredFail b x decls f hs c) e h

-- ---- the whole declaration of the text

module _ (decls : List (Decl ℕ)) (p : Progress) (c : Configuration ℕ) (f : Fault) (fs : List Fault) (r q : CheckedRegions) (added : Adds decls [] p.regions fs r (own_globals c)) (found : Configures f p.declarations r q decls c) where
  went : (a : At) → Reached p decls a → GlobalsTo fs r decls a.regions (own_globals c)
  went a w = checked_globals decls p.regions r a fs (own_globals c) w.regions-are added

  breaking : (a : At) → Reached p decls a → Breaking f fs decls a c
  breaking a w = let g = went a w in record { own = found.fault a w.passed g.regions-are; globals = g.faults-are }

  instances_same : (first : Bool) → instances_of first (declaration.Configuration c) ≡ instance_regions decls first c
  instances_same true = refl
  instances_same false = refl

  all_regions : (a : At) → (after_decl a (declaration.Configuration c)).regions ≡ (a.regions ++ regions_made (own_globals c)) ++ instance_regions decls (is_first_configuration a.earlier) c
  all_regions a =
      regions_after a (declaration.Configuration c)
      ∙ ap (λ rs. a.regions ++ (rs ++ instances_of (is_first_configuration a.earlier) (declaration.Configuration c))) (ap (flat_map regions_of) (sym (globals_are (configuration_globals c))) ∙ made_regions (own_globals c))
      ∙ ap (λ rs. a.regions ++ (regions_made (own_globals c) ++ rs)) (instances_same (is_first_configuration a.earlier)) ∙ sym (append_assoc a.regions (regions_made (own_globals c)) (instance_regions decls (is_first_configuration a.earlier) c))

  pub configuration_passes : (y : CheckedSoFar) → ConfiguredPass p.declarations y decls f fs c → (z : Progress) → z ≡ record { declarations = y; regions = q } → DeclPasses p z decls (declaration.Configuration c)
  configuration_passes y h z e = subst (λ (v : Progress). DeclPasses p v decls (declaration.Configuration c)) (sym e) (record {
    good = λ a w. h.good a w.passed (breaking a w);
    reached = λ a w. record {
      passed = h.passed a w.passed (breaking a w);
      regions-are = subst (λ rs. HasRegions q decls rs) (sym (all_regions a)) (found.regions-are a w.passed (went a w).regions-are);
    };
  })

  pub configuration_fails : (b : Bad) → ConfiguredFail b p.declarations decls f fs c → DeclFails b p decls (declaration.Configuration c)
  configuration_fails bad.NoMemory h = record { one = λ a w. tt }
  configuration_fails (bad.Rule declaration code line) h = record { one = λ a w. h.one a w.passed (breaking a w) }

pub text_no_memory : (decls : List (Decl ℕ)) (p : Progress) (d : Decl ℕ) (b : Bad) → b ≡ bad.NoMemory → DeclFails b p decls d
text_no_memory decls p d bad.NoMemory e = record { one = λ a w. tt }
text_no_memory decls p d (bad.Rule declaration code line) e = absurd (cc)
