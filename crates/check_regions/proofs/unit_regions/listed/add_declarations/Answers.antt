use Rattle.std.proofs.Common.{map, refl}
use Rattle.std.specs.Prelude.{flat_map}
use Rattle.st_rules.proofs.ListLaws.{left_next, left_end}
use Rattle.st_unit_rules.specs.declared_names.Declarations.{regions_of}
use Rattle.st_unit_rules.specs.declaration_list.Listed.{declared_as}
use Rattle.check_regions.specs.unit_regions.Listed.{region_as}
use Rattle.check_regions.proofs.unit_regions.listed.add_declarations.Goals as goal

pub loop-one-preserved : goal.loop-one-preserved
loop-one-preserved c =
    left_next (λ ds. flat_map regions_of (map declared_as ds)) c.args.declared.now c.loop-one.one-index c.one-item.result (map region_as c.loop-one.list.items) _ (regions_of (declared_as c.one-item.result)) _
    c.loop-one-test.true c.one-item.is refl c.in_ok-add_declaration.ensures c.loop-one.invariant

pub returns : goal.returns
returns c = left_end (λ ds. flat_map regions_of (map declared_as ds)) c.args.declared.now c.loop-one.one-index (map region_as c.loop-one.list.items) _ refl c.loop-one-test.false c.loop-one.invariant
