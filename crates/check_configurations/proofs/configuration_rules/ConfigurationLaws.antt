-- A configuration as a whole.
use Rattle.std.proofs.Common.{◌≡◌, ℕ, suc, Bool, true, false, List, [], ◌∷◌, ◌++◌, Option, length, map, refl, sym, ap, ◌∙◌, subst, arith}
use Rattle.std.specs.Prelude.{flat_map, filter, nat_eq, nat_lt, not, ◌||◌, if◌then◌else◌}
use Rattle.std.specs.List.{list_any}
use Rattle.std.proofs.lemmas.Grind.{common_steps}
use Rattle.plc_text.specs.declared.code.Code.{Code}
use Rattle.plc_text.specs.declared.code.Code.TheVariants.{E15}
use Rattle.st_tree.specs.declared.configuration.Configuration.{Configuration}
use Rattle.st_tree.specs.declared.configuration.InstanceSpec.{InstanceSpec}
use Rattle.st_tree.specs.declared.declaration.ProgramDecl.{ProgramDecl}
use Rattle.st_tree.specs.declared.name.Name.{Name}
use Rattle.st_tree.specs.declared.unit.Decl.{Decl}
use Rattle.st_rules.specs.Faults.{earlier, least, when}
use Rattle.st_unit_rules.specs.declared_names.Declarations.{Declaration, Placed, configuration_globals, is_configuration, is_first_configuration, number_among, programs_in, region_of_global}
use Rattle.st_unit_rules.specs.declared_names.Variables.{sections_written}
use Rattle.st_unit_rules.specs.Checked.{Each, TypedRegion}
use Rattle.st_unit_rules.specs.ConfigurationRules.{second_configuration, tasks_and_instances}
use Rattle.st_unit_rules.specs.DeclarationRules.{configuration_faults, instance_regions, regions_faults}
use Rattle.st_unit_rules.specs.NameRules.{configuration_name_faults, texts}
use Rattle.check_configurations.proofs.config_rules.ConfigLaws.{pair_told}
use Rattle.check_names.specs.name_spaces.Held as names
use Rattle.check_configurations.specs.declared.program_instances.programs.UnitPrograms.{UnitPrograms}
use Rattle.check_configurations.specs.program_instances.Programs.{HasPrograms}
use Rattle.check_regions.specs.declared.region_rules.taken.TakenRegions.{TakenRegions}
use Rattle.check_regions.specs.region_rules.Taken.{Holds}
use Rattle.check_configurations.specs.declared.configuration_rules.instances.CheckedInstances.{CheckedInstances}
use Rattle.check_configurations.specs.configuration_rules.Configurations.{StandsAt}
use Rattle.check_configurations.specs.configuration_rules.Private.Instances.{Checks, regions_if}

not_zero : (n : ℕ) → nat_eq (suc n) 0 ≡ false
not_zero n = grind (arith, common_steps)

one_more : (b : Bool) (d : Declaration) (ds : List Declaration) → is_first_configuration ds ≡ nat_eq (length (filter is_configuration ds)) 0 →
    not (b || list_any is_configuration ds) ≡ nat_eq (length (if b then d ∷ filter is_configuration ds else filter is_configuration ds)) 0
one_more true d ds h = sym (not_zero (length (filter is_configuration ds)))
one_more false d ds h = h

-- the first one has none before it
first_is : (ds : List Declaration) → is_first_configuration ds ≡ nat_eq (length (filter is_configuration ds)) 0
first_is [] = refl
first_is (d ∷ ds) = one_more (is_configuration d) d ds (first_is ds)

regions_are : (decls : List (Decl ℕ)) (b : Bool) (c : Configuration ℕ) → regions_if b c.instances ≡ instance_regions decls b c
regions_are decls true c = refl
regions_are decls false c = refl

texts_are : {X : Type 0} (name_of : X → Name) (xs : List X) → texts (map name_of xs) ≡ map (λ x. (name_of x).text) xs
texts_are name_of [] = refl
texts_are name_of (x ∷ xs) = ap (λ ns. (name_of x).text ∷ ns) (texts_are name_of xs)

module _ (x : Placed) (decls : List (Decl ℕ)) (c : Configuration ℕ) (held : List (List ℕ)) (taken taken' : TakenRegions) (programs : UnitPrograms) (first : Bool) (count : ℕ) (instances : List InstanceSpec) (found : CheckedInstances)
    (first-is : first ≡ nat_eq count 0) (instances-are : instances ≡ c.instances) (has : HasPrograms programs decls) (at : StandsAt x decls c held taken count) (checks : Checks decls programs taken taken' first instances found) where
  its_regions : regions_if first instances ≡ instance_regions decls (is_first_configuration x.earlier) c
  its_regions =
      ap (regions_if first) instances-are ∙ ap (λ b. regions_if b c.instances) (first-is ∙ ap (λ n. nat_eq n 0) (sym at.count-is) ∙ sym (first_is x.earlier))
      ∙ regions_are decls (is_first_configuration x.earlier) c

  pub regions_made : Each (TypedRegion decls) (instance_regions decls (is_first_configuration x.earlier) c) found.regions
  regions_made = subst (λ rs. Each (TypedRegion decls) rs found.regions) its_regions (checks.regions has)

  pub regions_taken : Holds taken' decls (x.regions ++ flat_map region_of_global (sections_written (configuration_globals c)) ++ instance_regions decls (is_first_configuration x.earlier) c)
  regions_taken =
      subst (λ rs. Holds taken' decls (x.regions ++ flat_map region_of_global (sections_written (configuration_globals c)) ++ rs)) its_regions
      (checks.takes (x.regions ++ flat_map region_of_global (sections_written (configuration_globals c))) has at.regions-are)

  pub faults_told : (r own pair name second inner : Option (Code × ℕ)) (listed : List Name) → r ≡ earlier own found.least → own ≡ earlier pair inner → pair ≡ earlier name second →
      ((ns : List (List ℕ)) → names.Holds held ns → name ≡ least (configuration_name_faults ns c)) →
      second ≡ least (when (nat_lt 0 count) E15 c.line) →
      inner ≡ least (tasks_and_instances (texts listed) c) →
      listed ≡ map (λ (p : ProgramDecl ℕ). p.name) (programs_in decls) →
      r ≡ least (configuration_faults decls x c)
  faults_told r own pair name second inner listed e f g h k m n =
      pair_told r own found.least
      (configuration_name_faults x.before c ++ second_configuration c.line (number_among is_configuration x) ++ tasks_and_instances (map (λ (p : ProgramDecl ℕ). p.name.text) (programs_in decls)) c)
      (regions_faults decls (x.regions ++ flat_map region_of_global (sections_written (configuration_globals c))) (instance_regions decls (is_first_configuration x.earlier) c)) e
      (pair_told own pair inner (configuration_name_faults x.before c ++ second_configuration c.line (number_among is_configuration x)) (tasks_and_instances (map (λ (p : ProgramDecl ℕ). p.name.text) (programs_in decls)) c) f
      (pair_told pair name second (configuration_name_faults x.before c) (second_configuration c.line (number_among is_configuration x)) g (h x.before at.names-are) (k ∙ ap (λ q. least (when (nat_lt 0 q) E15 c.line)) (sym at.count-is)))
      (m ∙ ap (λ ns. least (tasks_and_instances ns c)) (ap texts n ∙ texts_are (λ (p : ProgramDecl ℕ). p.name) (programs_in decls))))
      (checks.fault (x.regions ++ flat_map region_of_global (sections_written (configuration_globals c))) has at.regions-are
      ∙ ap (λ rs. least (regions_faults decls (x.regions ++ flat_map region_of_global (sections_written (configuration_globals c))) rs)) its_regions)
