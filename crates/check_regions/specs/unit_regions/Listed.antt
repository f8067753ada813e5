-- A region, as the code lends it.
use Rattle.st_unit_rules.specs.declared_names.Declarations.{Region, of_global, of_instance}
use Rattle.st_unit_rules.specs.declaration_list.Written.{written_of}
use Rattle.check_regions.specs.declared.unit_regions.listed.UnitRegion.{UnitRegion}
use Rattle.check_regions.specs.declared.unit_regions.listed.UnitRegion.TheVariants as code

abbrev pub region_as : UnitRegion → Region
region_as (code.Global w) = of_global (written_of w)
region_as (code.Instance x) = of_instance x.now
