-- What stands before a configuration and its instances.
use Rattle.std.specs.Prelude.{◌≡◌, ℕ, List, ◌++◌, flat_map}
use Rattle.st_tree.specs.declared.configuration.Configuration.{Configuration}
use Rattle.st_tree.specs.declared.unit.Decl.{Decl}
use Rattle.st_unit_rules.specs.declared_names.Declarations.{Placed, configuration_globals, is_configuration, number_among, region_of_global}
use Rattle.st_unit_rules.specs.declared_names.Variables.{sections_written}
use Rattle.check_names.specs.name_spaces.Held as names
use Rattle.check_regions.specs.declared.region_rules.taken.TakenRegions.{TakenRegions}
use Rattle.check_regions.specs.region_rules.Taken as regions

-- these names are held before it, there are so many configurations before it, and the regions before it and of its globals are taken
pub record StandsAt (x : Placed) (decls : List (Decl ℕ)) (c : Configuration ℕ) (held : List (List ℕ)) (taken : TakenRegions) (count : ℕ) : Type 0 where
  pub names-are : names.Holds held x.before
  pub count-is : number_among is_configuration x ≡ count
  pub regions-are : regions.Holds taken decls (x.regions ++ flat_map region_of_global (sections_written (configuration_globals c)))
