-- The program of each instance of a configuration is there.
use Rattle.std.proofs.Common.{◌≡◌, ℕ, suc, Bool, true, false, List, [], ◌∷◌, ◌++◌, map, Some, refl, sym, ap, ◌∙◌, inl, inr}
use Rattle.std.specs.Prelude.{if◌then◌else◌, not, flat_map, option_map, slice_get}
use Rattle.std.specs.List.{list_any}
use Rattle.std.proofs.lemmas.Slice.Eq.{bytes_eq-Decides}
use Rattle.plc_text.specs.Words.{same}
use Rattle.plc_text.specs.declared.code.Code.TheVariants.{E05}
use Rattle.st_tree.specs.declared.configuration.Configuration.{Configuration}
use Rattle.st_tree.specs.declared.configuration.InstanceSpec.{InstanceSpec}
use Rattle.st_tree.specs.declared.configuration.TaskSpec.{TaskSpec}
use Rattle.st_tree.specs.declared.declaration.ProgramDecl.{ProgramDecl}
use Rattle.st_tree.specs.declared.name.Name.{Name}
use Rattle.st_tree.specs.declared.unit.Decl.{Decl}
use Rattle.st_rules.specs.Named.{first_place}
use Rattle.st_rules.specs.Scope.{first_named}
use Rattle.st_rules.proofs.Booleans.{false≢true, either}
use Rattle.st_unit_rules.specs.declared_names.Declarations.{Placed, region_of_global, configuration_globals, is_first_configuration, programs_in}
use Rattle.st_unit_rules.specs.declared_names.Variables.{sections_written}
use Rattle.st_unit_rules.specs.ConfigurationRules.{tasks_and_instances, instance_faults, not_among}
use Rattle.st_unit_rules.specs.DeclarationRules.{configuration_faults, regions_faults, instance_regions}
use Rattle.st_unit_rules.specs.NameRules.{is_named}
use Rattle.st_values.proofs.ShapeLaws.{mapped_some}
use Rattle.resolution_order.specs.told_laws.ToldLaws.{Every}
use Rattle.accepted_texts.proofs.unfolding_laws.CycleLaws.{none_in, none_of_each, not_when}
use Rattle.accepted_texts.proofs.unfolding_laws.ListLaws.{every_means}
use Rattle.accepted_texts.proofs.sized_units.Regions.{not_false}

pub found_named : {X : Type 0} (name_of : X → List ℕ) (name : List ℕ) (xs : List X) (k : ℕ) → first_place name (map name_of xs) ≡ Some k → (x : X) × (slice_get xs k ≡ Some x) × (first_named name_of name xs ≡ Some x)
found_named name_of name [] k e = cc
found_named {X = X} name_of name (x ∷ xs) k e = by (found_named name_of name xs) (same (name_of x) name) k e
  where
    by : ((j : ℕ) → first_place name (map name_of xs) ≡ Some j → (y : X) × (slice_get xs j ≡ Some y) × (first_named name_of name xs ≡ Some y)) → (b : Bool) → (k : ℕ)
        → (if b then Some 0 else option_map suc (first_place name (map name_of xs))) ≡ Some k → (y : X) × (slice_get (x ∷ xs) k ≡ Some y) × ((if b then Some x else first_named name_of name xs) ≡ Some y)
    by f true k q = let z : 0 ≡ k = cc in (x, ap (slice_get (x ∷ xs)) (sym z), refl)
    by f false k q =
        let m = mapped_some suc (first_place name (map name_of xs)) k q in
        let r = f m.0 m.1 in
        (r.0, ap (slice_get (x ∷ xs)) (sym m.2) ∙ r.1, r.2)

pub same_turned : (a b : List ℕ) → same a b ≡ true → same b a ≡ true
same_turned a b h = (bytes_eq-Decides b a).1 (sym ((bytes_eq-Decides a b).0 h))

-- the name stands among these
abbrev HasPlace : List ℕ → List (List ℕ) → Type 0
HasPlace name names = (k : ℕ) × (first_place name names ≡ Some k)

place_named : (name : List ℕ) (names : List (List ℕ)) → list_any (same name) names ≡ true → HasPlace name names
place_named name [] h = absurd (false≢true h)
place_named name (n ∷ names) h = elim (either (same name n) (list_any (same name) names) h) [
  | inl p ↦ (0, ap (λ b. if b then Some 0 else option_map suc (first_place name names)) (same_turned name n p))
  | inr p ↦ behind (same n name) (place_named name names p)
]
  where
    behind : (b : Bool) → HasPlace name names → (k : ℕ) × ((if b then Some 0 else option_map suc (first_place name names)) ≡ Some k)
    behind true r = (0, refl)
    behind false r = (suc r.0, ap (option_map suc) r.1)

name_found : (names : List (List ℕ)) (n : Name) → not_among names n ≡ [] → HasPlace n.text names
name_found names n h = place_named n.text names (not_false (is_named n.text names) (not_when (not (is_named n.text names)) E05 n.line h))

module _ (decls : List (Decl ℕ)) where
  abbrev pub names_of_programs : List (List ℕ)
  names_of_programs = map (λ (p : ProgramDecl ℕ). p.name.text) (programs_in decls)

  abbrev pub IsFound : InstanceSpec → Type 0
  IsFound x = (k : ℕ) × (first_place x.program.text names_of_programs ≡ Some k)

  pub instances_found : (x : Placed) (c : Configuration ℕ) → configuration_faults decls x c ≡ [] → Every IsFound c.instances
  unfolding tasks_and_instances
  instances_found x c h =
      let tasks = map (λ (t : TaskSpec). t.name.text) c.tasks in
      let a = none_in _ (regions_faults decls (x.regions ++ flat_map region_of_global (sections_written (configuration_globals c))) (instance_regions decls (is_first_configuration x.earlier) c)) h in
      let b = none_in _ (tasks_and_instances names_of_programs c) a.0 in
      let t = none_in _ (flat_map (instance_faults tasks names_of_programs) c.instances) b.1 in
      every_means (λ (y : InstanceSpec). instance_faults tasks names_of_programs y ≡ []) IsFound
      (λ y e. name_found names_of_programs y.program (none_in (not_among tasks y.task) (not_among names_of_programs y.program) e).1) c.instances
      (none_of_each (instance_faults tasks names_of_programs) c.instances t.1)
