-- The checked program of a unit whose declarations were all passed.
use Rattle.std.proofs.Common.{◌≡◌, ℕ, true, List, [], ◌∷◌, ◌++◌, map, refl, sym, ap, ◌∙◌, subst}
use Rattle.std.specs.Prelude.{codes, length}
use Rattle.std.specs.List.{list_all}
use Rattle.plc_text.specs.declared.code.Code.{Code}
use Rattle.plc_text.specs.declared.code.Code.TheVariants.{E15}
use Rattle.st_tree.specs.declared.configuration.Configuration.{Configuration}
use Rattle.st_tree.specs.declared.configuration.TaskSpec.{TaskSpec}
use Rattle.st_tree.specs.declared.declaration.ClassDecl.{ClassDecl}
use Rattle.st_tree.specs.declared.declaration.FunctionDecl.{FunctionDecl}
use Rattle.st_tree.specs.declared.declaration.InterfaceDecl.{InterfaceDecl}
use Rattle.st_tree.specs.declared.declaration.ProgramDecl.{ProgramDecl}
use Rattle.st_tree.specs.declared.declaration.TypeDecl.{TypeDecl}
use Rattle.st_tree.specs.declared.program.Note.{Note}
use Rattle.st_tree.specs.declared.program.Program.{Program}
use Rattle.st_tree.specs.declared.program.RegionDecl.{RegionDecl}
use Rattle.st_tree.specs.declared.program.TaskDecl.{TaskDecl}
use Rattle.st_tree.specs.declared.unit.Decl.{Decl}
use Rattle.st_tree.specs.declared.unit.Decl.TheVariants as declaration
use Rattle.st_rules.specs.Classes.{classes_in}
use Rattle.st_rules.specs.Faults.{Faults}
use Rattle.st_rules.specs.Interfaces.{interfaces_in}
use Rattle.st_unit_rules.specs.declared_names.Declarations.{Declaration, Region, a_configuration, configurations_in, entries_in, functions_in, is_first_configuration, programs_in}
use Rattle.check_names.specs.declarations_before.Before.{common_faults}
use Rattle.check_configurations.specs.checked_tasks.Tasks.{values_fit}
use Rattle.check_configurations.proofs.checked_tasks.SettingLaws.{configured_tasks_fit}
use Rattle.st_unit_rules.specs.passing_laws.Passing.{At, AllDeclsGood, after_decl, faults_here, no_declarations, placed_at}
use Rattle.st_unit_rules.specs.passing_laws.PassingLaws.{all_of}
use Rattle.st_unit_rules.proofs.passing_laws.AllLaws.{laws}
use Rattle.st_unit_rules.specs.Checked.{Each, EachFrom, IsChecked, TypedClass, TypedEntry, TypedFunction, TypedInterface, TypedProgram, TypedRegion, TypedTask, tasks_of, unit_regions}
use Rattle.st_unit_rules.specs.ConfigurationRules.{second_configuration, tasks_and_instances}
use Rattle.st_unit_rules.specs.DeclarationRules.{configuration_faults, declaration_faults}
use Rattle.st_unit_rules.specs.NameRules.{configuration_name_faults}
use Rattle.st_unit_rules.specs.RefusalLaws.{IsGood}
use Rattle.st_unit_rules.specs.UnitRefusal.{BreaksNothing, UnitRefusal, no_configuration}
use Rattle.plc_text.specs.declared.denied.Denied.{Denied}
use Rattle.plc_text.specs.declared.denied.Denied.TheVariants as denied
use Rattle.plc_text.specs.declared.refusal.Refusal.{Refusal}
use Rattle.st_check_decl.specs.declared.unit_check.progress.Progress.{Progress}
use Rattle.st_check_decl.specs.unit_check.Checking.{OnRefused}
use Rattle.st_check_decl.specs.unit_check.Private.Configured.{IsFirst}
use Rattle.st_check_decl.specs.unit_check.Private.Program.{IsMadeOf}
use Rattle.st_check_decl.specs.unit_check.Private.Progress.{Reached}
use Rattle.st_check_decl.specs.unit_check.Private.Refused.{IsRefusal}

-- ---- the settings of tasks fit, where the configuration breaks no rule

right_none : (xs ys : Faults) → xs ++ ys ≡ [] → ys ≡ []
right_none [] ys e = e
right_none (x ∷ xs) ys e = absurd (cc)

left_none : (xs ys : Faults) → xs ++ ys ≡ [] → xs ≡ []
left_none [] ys e = refl
left_none (x ∷ xs) ys e = absurd (cc)

module _ (decls : List (Decl ℕ)) where
  configured_good : (a : At) (c : Configuration ℕ) → faults_here decls a (a_configuration c) ≡ [] → configuration_faults decls (placed_at a (a_configuration c)) c ≡ []
  unfolding declaration_faults
  configured_good a c e = right_none (common_faults decls a.earlier a.names (a_configuration c)) (configuration_faults decls (placed_at a (a_configuration c)) c) e

  tasks_good : (a : At) (c : Configuration ℕ) → configuration_faults decls (placed_at a (a_configuration c)) c ≡ [] → tasks_and_instances (map (λ p. p.name.text) (programs_in decls)) c ≡ []
  tasks_good a c e =
      right_none (configuration_name_faults a.names c ++ second_configuration c.line _) (tasks_and_instances (map (λ p. p.name.text) (programs_in decls)) c)
      (left_none ((configuration_name_faults a.names c ++ second_configuration c.line _) ++ tasks_and_instances (map (λ p. p.name.text) (programs_in decls)) c) _ e)

  fits : (a : At) (c : Configuration ℕ) → faults_here decls a (a_configuration c) ≡ [] → list_all (values_fit decls) c.tasks ≡ true
  fits a c e = configured_tasks_fit decls (map (λ p. p.name.text) (programs_in decls)) c (tasks_good a c (configured_good a c e))

  first_fits : (a : At) (ds : List (Decl ℕ)) (c : Configuration ℕ) → AllDeclsGood decls a ds → IsFirst c (configurations_in ds) → list_all (values_fit decls) c.tasks ≡ true
  first_fits a [] c h f = absurd f
  first_fits a (declaration.Configuration d ∷ ds) c h f = subst (λ (x : Configuration ℕ). list_all (values_fit decls) x.tasks ≡ true) f (fits a d h.0.0)
  first_fits a (declaration.Types l ts ∷ ds) c h f = first_fits (after_decl a (declaration.Types l ts)) ds c h.1 f
  first_fits a (declaration.Globals s ∷ ds) c h f = first_fits (after_decl a (declaration.Globals s)) ds c h.1 f
  first_fits a (declaration.Interface d ∷ ds) c h f = first_fits (after_decl a (declaration.Interface d)) ds c h.1 f
  first_fits a (declaration.Class d ∷ ds) c h f = first_fits (after_decl a (declaration.Class d)) ds c h.1 f
  first_fits a (declaration.Function d ∷ ds) c h f = first_fits (after_decl a (declaration.Function d)) ds c h.1 f
  first_fits a (declaration.Program d ∷ ds) c h f = first_fits (after_decl a (declaration.Program d)) ds c h.1 f

pub tasks_fit : (decls : List (Decl ℕ)) (c : Configuration ℕ) (ts : List TaskSpec) → AllDeclsGood decls no_declarations decls → IsFirst c (configurations_in decls) → ts ≡ c.tasks → list_all (values_fit decls) ts ≡ true
tasks_fit decls c ts h f e = ap (list_all (values_fit decls)) e ∙ first_fits decls no_declarations decls c h f

-- ---- the unit is good

is_there : (c : Configuration ℕ) (cs : List (Configuration ℕ)) → IsFirst c cs → cs ≡ [] → ⊥
is_there c [] f e = f
is_there c (d ∷ ds) f e = absurd (cc)

pub unit_good : (decls : List (Decl ℕ)) (c : Configuration ℕ) → AllDeclsGood decls no_declarations decls → IsFirst c (configurations_in decls) → IsGood decls
unit_good decls c h f = record { nothing = laws.good decls h; configured = is_there c (configurations_in decls) f }

first_tasks : (decls : List (Decl ℕ)) (c : Configuration ℕ) (cs : List (Configuration ℕ)) → IsFirst c cs → c.tasks ≡ tasks_of decls cs
first_tasks decls c [] f = absurd f
first_tasks decls c (d ∷ ds) f = ap (λ (x : Configuration ℕ). x.tasks) (sym f)

pub checked : (decls : List (Decl ℕ)) (x : Progress) (c : Configuration ℕ) (ws : List TaskSpec) (ts : List TaskDecl) (made : Program) → Reached x decls (all_of decls) → IsFirst c (configurations_in decls) → ws ≡ c.tasks → Each (TypedTask decls) ws ts → IsMadeOf made x ts → IsChecked decls made
checked decls x c ws ts made r f lent t m = record {
  types = subst (λ (ys : List (TypeDecl Note)). Each (TypedEntry decls) (entries_in decls) ys) (sym m.types-are) (subst (λ (xs : List (TypeDecl ℕ)). Each (TypedEntry decls) xs x.declarations.trees.types) (laws.types decls) r.passed.types);
  classes = subst (λ (ys : List (ClassDecl Note)). EachFrom (TypedClass decls) 0 (classes_in decls) ys) (sym m.classes-are) (subst (λ (xs : List (ClassDecl ℕ)). EachFrom (TypedClass decls) 0 xs x.declarations.trees.classes) (laws.classes decls) r.passed.classes);
  interfaces =
      subst (λ (ys : List (InterfaceDecl Note)). Each (TypedInterface decls) (interfaces_in decls) ys) (sym m.interfaces-are) (subst (λ (xs : List (InterfaceDecl ℕ)). Each (TypedInterface decls) xs x.declarations.trees.interfaces) (laws.interfaces decls) r.passed.interfaces);
  functions = subst (λ (ys : List (FunctionDecl Note)). Each (TypedFunction decls) (functions_in decls) ys) (sym m.functions-are) (subst (λ (xs : List (FunctionDecl ℕ)). Each (TypedFunction decls) xs x.declarations.trees.functions) (laws.functions decls) r.passed.functions);
  programs = subst (λ (ys : List (ProgramDecl Note)). Each (TypedProgram decls) (programs_in decls) ys) (sym m.programs-are) (subst (λ (xs : List (ProgramDecl ℕ)). Each (TypedProgram decls) xs x.declarations.trees.programs) (laws.programs decls) r.passed.programs);
  regions = subst (λ (ys : List RegionDecl). Each (TypedRegion decls) (unit_regions decls) ys) (sym m.regions-are) (subst (λ (xs : List Region). Each (TypedRegion decls) xs x.regions.regions) (laws.regions decls) r.regions-are.trees);
  tasks = subst (λ (ys : List TaskDecl). Each (TypedTask decls) (tasks_of decls (configurations_in decls)) ys) (sym m.tasks-are) (subst (λ (xs : List TaskSpec). Each (TypedTask decls) xs ts) (lent ∙ first_tasks decls c (configurations_in decls) f) t);
}

-- ---- there is no configuration

pub none_configured : (decls : List (Decl ℕ)) (e : Denied) → AllDeclsGood decls no_declarations decls → configurations_in decls ≡ [] → OnRefused e (λ r. IsRefusal r E15 (codes "-") 1) → OnRefused e (λ r. UnitRefusal decls r.code r.declaration r.line)
none_configured decls denied.NoMemory h n k = tt
none_configured decls (denied.Refused r) h n k =
    subst (λ (l : ℕ). UnitRefusal decls r.code r.declaration l) (sym k.line-is)
    (subst (λ (d : List ℕ). UnitRefusal decls r.code d 1) (sym k.declaration-is) (subst (λ (c : Code). UnitRefusal decls c (codes "-") 1) (sym k.code-is) (no_configuration (laws.good decls h) n)))
