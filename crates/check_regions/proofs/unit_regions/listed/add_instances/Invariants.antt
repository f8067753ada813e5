use Rattle.std.proofs.Common.{◌≡◌, ◌++◌, map, drop}
use Rattle.st_unit_rules.specs.declared_names.Declarations.{of_instance}
use Rattle.check_regions.specs.unit_regions.Listed.{region_as}
use Rattle.check_regions.proofs.unit_regions.listed.add_instances.Given as goal

abbrev pub invariant-loop-instance : goal.invariant-loop-instance
invariant-loop-instance l = map region_as l.list.items ++ map of_instance (drop l.instance-index l.instances) ≡ map region_as l.initial.list.items ++ map of_instance l.instances
