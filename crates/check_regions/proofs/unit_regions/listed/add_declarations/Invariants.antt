use Rattle.std.proofs.Common.{◌≡◌, ◌++◌, map, drop}
use Rattle.std.specs.Prelude.{flat_map}
use Rattle.st_unit_rules.specs.declared_names.Declarations.{regions_of}
use Rattle.st_unit_rules.specs.declaration_list.Listed.{declared_as}
use Rattle.check_regions.specs.unit_regions.Listed.{region_as}
use Rattle.check_regions.proofs.unit_regions.listed.add_declarations.Given as goal

abbrev pub invariant-loop-one : goal.invariant-loop-one
invariant-loop-one l = map region_as l.list.items ++ flat_map regions_of (map declared_as (drop l.one-index l.declared)) ≡ map region_as l.initial.list.items ++ flat_map regions_of (map declared_as l.declared)
