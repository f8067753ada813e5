-- Instances that are checked one after the other.
use Rattle.std.specs.Prelude.{◌≡◌, ℕ, Bool, true, false, List, [], ◌∷◌, ◌++◌, map}
use Rattle.st_tree.specs.declared.configuration.InstanceSpec.{InstanceSpec}
use Rattle.st_tree.specs.declared.unit.Decl.{Decl}
use Rattle.st_rules.specs.Faults.{earlier, least}
use Rattle.st_unit_rules.specs.declared_names.Declarations.{Region, of_instance}
use Rattle.st_unit_rules.specs.Checked.{Each, TypedRegion}
use Rattle.st_unit_rules.specs.DeclarationRules.{region_faults, regions_faults}
use Rattle.check_configurations.specs.declared.program_instances.programs.UnitPrograms.{UnitPrograms}
use Rattle.check_configurations.specs.program_instances.Programs.{HasPrograms}
use Rattle.check_regions.specs.declared.region_rules.taken.TakenRegions.{TakenRegions}
use Rattle.check_regions.specs.region_rules.Taken.{Holds}
use Rattle.check_configurations.specs.declared.configuration_rules.instances.CheckedInstances.{CheckedInstances}

-- one instance more, behind any regions and any instances
pub record Adds (decls : List (Decl ℕ)) (programs : UnitPrograms) (taken taken' : TakenRegions) (old new : CheckedInstances) (x : InstanceSpec) : Type 0 where
  pub fault : (before : List Region) → HasPrograms programs decls → Holds taken decls before → new.least ≡ earlier old.least (least (region_faults decls before x.line (of_instance x)))
  pub takes : (before : List Region) → HasPrograms programs decls → Holds taken decls before → Holds taken' decls (before ++ of_instance x ∷ [])
  pub regions : (xs : List Region) → HasPrograms programs decls → Each (TypedRegion decls) xs old.regions → Each (TypedRegion decls) (xs ++ of_instance x ∷ []) new.regions

-- the regions of instances, if they are those of the first configuration
abbrev pub regions_if : Bool → List InstanceSpec → List Region
regions_if true xs = map of_instance xs
regions_if false xs = []

pub record Checks (decls : List (Decl ℕ)) (programs : UnitPrograms) (taken taken' : TakenRegions) (first : Bool) (xs : List InstanceSpec) (found : CheckedInstances) : Type 0 where
  pub fault : (before : List Region) → HasPrograms programs decls → Holds taken decls before → found.least ≡ least (regions_faults decls before (regions_if first xs))
  pub takes : (before : List Region) → HasPrograms programs decls → Holds taken decls before → Holds taken' decls (before ++ regions_if first xs)
  pub regions : HasPrograms programs decls → Each (TypedRegion decls) (regions_if first xs) found.regions
