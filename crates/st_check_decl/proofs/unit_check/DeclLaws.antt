-- A declaration of the text, from what it declares.
use Rattle.std.proofs.Common.{◌≡◌, ◌⊎◌, inl, inr, ℕ, Bool, true, false, List, [], ◌∷◌, ◌++◌, Option, refl, sym, ap, ◌∙◌, subst, append-nil}
use Rattle.std.specs.Prelude.{map, flat_map}
use Rattle.std.proofs.lemmas.List.{append_assoc}
use Rattle.plc_text.specs.declared.code.Code.{Code}
use Rattle.st_tree.specs.declared.configuration.Configuration.{Configuration}
use Rattle.st_tree.specs.declared.declaration.ClassDecl.{ClassDecl}
use Rattle.st_tree.specs.declared.declaration.FunctionDecl.{FunctionDecl}
use Rattle.st_tree.specs.declared.declaration.InterfaceDecl.{InterfaceDecl}
use Rattle.st_tree.specs.declared.declaration.ProgramDecl.{ProgramDecl}
use Rattle.st_tree.specs.declared.declaration.Section.{Section}
use Rattle.st_tree.specs.declared.declaration.TypeDecl.{TypeDecl}
use Rattle.st_tree.specs.declared.name.Name.{Name}
use Rattle.st_tree.specs.declared.unit.Decl.{Decl}
use Rattle.st_tree.specs.declared.unit.Decl.TheVariants as declaration
use Rattle.st_unit_rules.specs.declared_names.Declarations.{Declaration, Global, Region, a_class, a_function, a_global, a_program, an_entry, an_interface, declarations_of, globals_of_section, instances_of, is_first_configuration, region_of_global, regions_of}
use Rattle.check_names.specs.declarations_before.Before.{StandsBefore}
use Rattle.st_unit_rules.specs.declaration_list.Written.{names_in_section, names_in_sections}
use Rattle.st_unit_rules.proofs.declaration_list.GlobalLaws.{globals_are}
use Rattle.st_check_decl.specs.declared.checked_declarations.so_far.Bad.{Bad}
use Rattle.st_check_decl.specs.declared.checked_declarations.so_far.Bad.TheVariants as bad
use Rattle.st_check_decl.specs.declared.checked_declarations.so_far.CheckedSoFar.{CheckedSoFar}
use Rattle.st_check_decl.specs.checked_declarations.SoFar.{Breaks, Passed}
use Rattle.global_rules.specs.declared.globals.CheckedRegions.{CheckedRegions}
use Rattle.global_rules.specs.Globals.{HasRegions}
use Rattle.global_rules.specs.Sections.{Adds, AreFaults, GlobalsTo, regions_made}
use Rattle.st_unit_rules.specs.passing_laws.Passing.{At, AllGood, OneBad, after_decl, closed, faults_here, instance_names, with_any, with_each}
use Rattle.st_unit_rules.specs.passing_laws.PassingLaws.{SaysOf}
use Rattle.st_unit_rules.proofs.passing_laws.FieldLaws.{names_each, regions_after}
use Rattle.st_check_decl.specs.declared.unit_check.progress.Progress.{Progress}
use Rattle.st_check_decl.specs.unit_check.Private.Progress.{AllFail, AllPass, DeclFails, DeclPasses, GlobalsFail, GlobalsPass, Reached}
use Rattle.st_check_decl.proofs.unit_check.ThroughLaws.{one_fails, one_passes}

-- ---- what has no instances

pub passed_closed : (y : CheckedSoFar) (decls : List (Decl ℕ)) (b c : At) → c.earlier ≡ b.earlier → c.names ≡ b.names → c.types ≡ b.types → c.classes ≡ b.classes → c.interfaces ≡ b.interfaces → c.functions ≡ b.functions → c.programs ≡ b.programs → Passed y decls b
    → Passed y decls c
passed_closed y decls b c e n t k i f p h =
    subst (λ (a : At). Passed y decls a) (λ j. record { earlier = sym e j; names = sym n j; regions = c.regions; types = sym t j; classes = sym k j; interfaces = sym i j; functions = sym f j; programs = sym p j }) (record {
      before = h.before;
      class_count = h.class_count;
      types = h.types;
      classes = h.classes;
      interfaces = h.interfaces;
      functions = h.functions;
      programs = h.programs;
    })

module _ (decls : List (Decl ℕ)) (p q : Progress) (d : Decl ℕ) (names : instance_names d ≡ []) where
  closes : (y : CheckedSoFar) (a b : At) → Passed y decls b → Passed y decls (closed a b d)
  closes y a b h = passed_closed y decls b (closed a b d) refl (ap (λ (ns : List Name). b.names ++ map (λ n. n.text) ns) names ∙ append-nil b.names) refl refl refl refl refl h

  -- declarations without regions
  pub plain_passes : (ds : List Declaration) → declarations_of d ≡ ds → flat_map regions_of ds ≡ [] → ((first : Bool) → instances_of first d ≡ []) → q.regions ≡ p.regions → AllPass p.declarations q.declarations decls ds → DeclPasses p q decls d
  plain_passes ds e none never kept h = record {
    good = λ a r. subst (λ (xs : List Declaration). AllGood decls a xs) (sym e) (h.good a r.passed);
    reached = λ a r. record {
      passed = closes q.declarations a (with_each a (declarations_of d)) (subst (λ (xs : List Declaration). Passed q.declarations decls (with_each a xs)) (sym e) (h.passed a r.passed));
      regions-are =
          let same : (after_decl a d).regions ≡ a.regions =
          regions_after a d ∙ ap (λ xs. a.regions ++ (flat_map regions_of xs ++ instances_of (is_first_configuration a.earlier) d)) e ∙ ap (λ rs. a.regions ++ (rs ++ instances_of (is_first_configuration a.earlier) d)) none
          ∙ ap (λ rs. a.regions ++ rs) (never (is_first_configuration a.earlier)) ∙ append-nil a.regions in
          subst (λ (rs : List Region). HasRegions q.regions decls rs) (sym same) (subst (λ (x : CheckedRegions). HasRegions x decls a.regions) (sym kept) r.regions-are);
    };
  }

pub plain_fails : (decls : List (Decl ℕ)) (b : Bad) (p : Progress) (d : Decl ℕ) → AllFail b p.declarations decls (declarations_of d) → DeclFails b p decls d
plain_fails decls b p d h = record { one = λ a r. h.one a r.passed }

no_entry_regions : (ts : List (TypeDecl ℕ)) → flat_map regions_of (map an_entry ts) ≡ []
no_entry_regions [] = refl
no_entry_regions (t ∷ ts) = no_entry_regions ts

-- ---- each sort of declaration, as the text has it

never_entry : (l : ℕ) (ts : List (TypeDecl ℕ)) (first : Bool) → instances_of first (declaration.Types l ts) ≡ []
never_entry l ts true = refl
never_entry l ts false = refl

never_interface : (d : InterfaceDecl ℕ) (first : Bool) → instances_of first (declaration.Interface d) ≡ []
never_interface d true = refl
never_interface d false = refl

never_class : (d : ClassDecl ℕ) (first : Bool) → instances_of first (declaration.Class d) ≡ []
never_class d true = refl
never_class d false = refl

never_function : (d : FunctionDecl ℕ) (first : Bool) → instances_of first (declaration.Function d) ≡ []
never_function d true = refl
never_function d false = refl

never_program : (d : ProgramDecl ℕ) (first : Bool) → instances_of first (declaration.Program d) ≡ []
never_program d true = refl
never_program d false = refl

module _ (decls : List (Decl ℕ)) (p q : Progress) (x : Decl ℕ) where
  abbrev Goes : Declaration → Type 0
  Goes d = (a : At) → Passed p.declarations decls a → (faults_here decls a d ≡ []) × Passed q.declarations decls (with_any a d)

  pub entries_pass : (l : ℕ) (ts : List (TypeDecl ℕ)) (us : List (TypeDecl ℕ)) → x ≡ declaration.Types l ts → us ≡ ts → q.regions ≡ p.regions → AllPass p.declarations q.declarations decls (map an_entry us) → DeclPasses p q decls x
  entries_pass l ts us e lent k h =
      subst (λ (y : Decl ℕ). DeclPasses p q decls y) (sym e)
      (plain_passes decls p q (declaration.Types l ts) refl (map an_entry ts) refl (no_entry_regions ts) (never_entry l ts) k (subst (λ (vs : List (TypeDecl ℕ)). AllPass p.declarations q.declarations decls (map an_entry vs)) lent h))

  pub interface_passes : (d : InterfaceDecl ℕ) → x ≡ declaration.Interface d → q.regions ≡ p.regions → Goes (an_interface d) → DeclPasses p q decls x
  interface_passes d e k h =
      subst (λ (y : Decl ℕ). DeclPasses p q decls y) (sym e) (plain_passes decls p q (declaration.Interface d) refl (an_interface d ∷ []) refl refl (never_interface d) k (one_passes decls p.declarations q.declarations (an_interface d) h))

  pub class_passes : (d : ClassDecl ℕ) → x ≡ declaration.Class d → q.regions ≡ p.regions → Goes (a_class d) → DeclPasses p q decls x
  class_passes d e k h = subst (λ (y : Decl ℕ). DeclPasses p q decls y) (sym e) (plain_passes decls p q (declaration.Class d) refl (a_class d ∷ []) refl refl (never_class d) k (one_passes decls p.declarations q.declarations (a_class d) h))

  pub function_passes : (d : FunctionDecl ℕ) → x ≡ declaration.Function d → q.regions ≡ p.regions → Goes (a_function d) → DeclPasses p q decls x
  function_passes d e k h =
      subst (λ (y : Decl ℕ). DeclPasses p q decls y) (sym e) (plain_passes decls p q (declaration.Function d) refl (a_function d ∷ []) refl refl (never_function d) k (one_passes decls p.declarations q.declarations (a_function d) h))

  pub program_passes : (d : ProgramDecl ℕ) → x ≡ declaration.Program d → q.regions ≡ p.regions → Goes (a_program d) → DeclPasses p q decls x
  program_passes d e k h = subst (λ (y : Decl ℕ). DeclPasses p q decls y) (sym e) (plain_passes decls p q (declaration.Program d) refl (a_program d ∷ []) refl refl (never_program d) k (one_passes decls p.declarations q.declarations (a_program d) h))

  pub text_passes : (y : Decl ℕ) → x ≡ y → DeclPasses p q decls y → DeclPasses p q decls x
  text_passes y e h = subst (λ (z : Decl ℕ). DeclPasses p q decls z) (sym e) h

module _ (decls : List (Decl ℕ)) (b : Bad) (p : Progress) (x : Decl ℕ) where
  abbrev Breaking : Declaration → Type 0
  Breaking d = (a : At) → Passed p.declarations decls a → Breaks b decls a d

  pub entries_fail : (l : ℕ) (ts us : List (TypeDecl ℕ)) → x ≡ declaration.Types l ts → us ≡ ts → AllFail b p.declarations decls (map an_entry us) → DeclFails b p decls x
  entries_fail l ts us e lent h =
      subst (λ (y : Decl ℕ). DeclFails b p decls y) (sym e) (plain_fails decls b p (declaration.Types l ts) (subst (λ (vs : List (TypeDecl ℕ)). AllFail b p.declarations decls (map an_entry vs)) lent h))

  one_of_text : (y : Decl ℕ) (d : Declaration) → x ≡ y → declarations_of y ≡ d ∷ [] → Breaking d → DeclFails b p decls x
  one_of_text y d e q h = subst (λ (z : Decl ℕ). DeclFails b p decls z) (sym e) (plain_fails decls b p y (subst (λ (ds : List Declaration). AllFail b p.declarations decls ds) (sym q) (one_fails decls b p.declarations d h)))

  pub interface_fails : (d : InterfaceDecl ℕ) → x ≡ declaration.Interface d → Breaking (an_interface d) → DeclFails b p decls x
  interface_fails d e h = one_of_text (declaration.Interface d) (an_interface d) e refl h

  pub class_fails : (d : ClassDecl ℕ) → x ≡ declaration.Class d → Breaking (a_class d) → DeclFails b p decls x
  class_fails d e h = one_of_text (declaration.Class d) (a_class d) e refl h

  pub function_fails : (d : FunctionDecl ℕ) → x ≡ declaration.Function d → Breaking (a_function d) → DeclFails b p decls x
  function_fails d e h = one_of_text (declaration.Function d) (a_function d) e refl h

  pub program_fails : (d : ProgramDecl ℕ) → x ≡ declaration.Program d → Breaking (a_program d) → DeclFails b p decls x
  program_fails d e h = one_of_text (declaration.Program d) (a_program d) e refl h

  pub text_fails : (y : Decl ℕ) → x ≡ y → DeclFails b p decls y → DeclFails b p decls x
  text_fails y e h = subst (λ (z : Decl ℕ). DeclFails b p decls z) (sym e) h

-- ---- globals of the unit

pub adds_first : (decls : List (Decl ℕ)) (fs gs : List (Option (Code × ℕ))) (r q : CheckedRegions) (xs : List Global) → fs ≡ [] → Adds decls fs r gs q xs → Adds decls [] r gs q xs
adds_first decls fs gs r q xs e h = subst (λ (hs : List (Option (Code × ℕ))). Adds decls hs r gs q xs) e h

pub adds_of : (decls : List (Decl ℕ)) (fs gs : List (Option (Code × ℕ))) (r q : CheckedRegions) (ss ts : List (Section ℕ)) → fs ≡ [] → ss ≡ ts → Adds decls fs r gs q (names_in_sections ss) → Adds decls [] r gs q (names_in_sections ts)
adds_of decls fs gs r q ss ts f e h = subst (λ (xs : List (Section ℕ)). Adds decls [] r gs q (names_in_sections xs)) e (adds_first decls fs gs r q (names_in_sections ss) f h)

pub made_regions : (gs : List Global) → flat_map regions_of (map a_global gs) ≡ regions_made gs
made_regions [] = refl
made_regions (g ∷ gs) = ap (λ rs. region_of_global g.written ++ rs) (made_regions gs)

-- checked behind the regions that there are
pub checked_globals : (decls : List (Decl ℕ)) (r q : CheckedRegions) (a : At) (fs : List (Option (Code × ℕ))) (gs : List Global) → HasRegions r decls a.regions → Adds decls [] r fs q gs → GlobalsTo fs q decls a.regions gs
checked_globals decls r q a fs gs h k = k.adds a.regions [] (record { faults-are = tt; regions-are = subst (λ (rs : List Region). HasRegions r decls rs) (sym (append-nil a.regions)) h })

module _ (decls : List (Decl ℕ)) (p q : Progress) (s : Section ℕ) (fs : List (Option (Code × ℕ))) (gs : List Global) (named : gs ≡ names_in_sections (s ∷ [])) where
  declared : map a_global gs ≡ globals_of_section s
  declared = ap (map a_global) named ∙ globals_are (s ∷ []) ∙ append-nil (globals_of_section s)

  faults_of_names : (a : At) → AreFaults decls a.regions (names_in_sections (s ∷ [])) fs → AreFaults decls a.regions gs fs
  faults_of_names a h = subst (λ (xs : List Global). AreFaults decls a.regions xs fs) (sym named) h

  pub section_passes : Adds decls [] p.regions fs q.regions (names_in_sections (s ∷ [])) → GlobalsPass p.declarations q.declarations decls fs gs → DeclPasses p q decls (declaration.Globals s)
  section_passes k h = record {
    good = λ a r.
        let g : GlobalsTo fs q.regions decls a.regions (names_in_sections (s ∷ [])) = checked_globals decls p.regions q.regions a fs (names_in_sections (s ∷ [])) r.regions-are k in
        subst (λ (ds : List Declaration). AllGood decls a ds) declared (h.good a r.passed (faults_of_names a g.faults-are));
    reached = λ a r.
        let g : GlobalsTo fs q.regions decls a.regions (names_in_sections (s ∷ [])) = checked_globals decls p.regions q.regions a fs (names_in_sections (s ∷ [])) r.regions-are k in
        record {
          passed = closes decls p q (declaration.Globals s) refl q.declarations a (with_each a (globals_of_section s))
              (subst (λ (ds : List Declaration). Passed q.declarations decls (with_each a ds)) declared (h.passed a r.passed (faults_of_names a g.faults-are)));
          regions-are =
              let same : (after_decl a (declaration.Globals s)).regions ≡ a.regions ++ regions_made (names_in_sections (s ∷ [])) =
              regions_after a (declaration.Globals s)
              ∙ ap (λ rs. a.regions ++ rs) (never_there (flat_map regions_of (globals_of_section s)) (is_first_configuration a.earlier) ∙ ap (flat_map regions_of) (sym declared) ∙ made_regions gs ∙ ap regions_made named) in
              subst (λ (rs : List Region). HasRegions q.regions decls rs) (sym same) g.regions-are;
        };
  }
    where
      never_there : (rs : List Region) (first : Bool) → rs ++ instances_of first (declaration.Globals s) ≡ rs
      never_there rs true = append-nil rs
      never_there rs false = append-nil rs

  pub section_fails : (b : Bad) (r : CheckedRegions) → Adds decls [] p.regions fs r (names_in_sections (s ∷ [])) → GlobalsFail b p.declarations decls fs gs → DeclFails b p decls (declaration.Globals s)
  section_fails bad.NoMemory r k h = record { one = λ a w. tt }
  section_fails (bad.Rule declaration code line) r k h = record {
    one = λ a w.
        let g : GlobalsTo fs r decls a.regions (names_in_sections (s ∷ [])) = checked_globals decls p.regions r a fs (names_in_sections (s ∷ [])) w.regions-are k in
        subst (λ (ds : List Declaration). OneBad decls (SaysOf code declaration line) a ds) declared (h.one a w.passed (faults_of_names a g.faults-are));
  }
