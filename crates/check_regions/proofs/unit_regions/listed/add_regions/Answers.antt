use Rattle.std.proofs.Common.{◌∙◌, ◌++◌, map, ap}
use Rattle.std.specs.Prelude.{flat_map}
use Rattle.st_unit_rules.specs.declared_names.Declarations.{regions_of}
use Rattle.st_unit_rules.specs.declaration_list.Listed.{declared_as}
use Rattle.check_regions.specs.unit_regions.Listed.{region_as}
use Rattle.check_regions.proofs.unit_regions.ListedLaws.{joined}
use Rattle.check_regions.proofs.unit_regions.listed.add_regions.Goals as goal

pub returns : goal.returns
returns c = joined _ _ _ _ _ c.in_ok-add_configured.ensures (c.in_ok-add_declarations.ensures ∙ ap (λ ds. map region_as c.args.list.now.items ++ flat_map regions_of ds) (ap (map declared_as) c.deref.ensures.value ∙ c.in_ok-declared.ensures))
