use Rattle.std.proofs.Common.{refl}
use Rattle.global_rules.proofs.RegionLaws.{constant_region, variable_region}
use Rattle.global_rules.proofs.globals.region_if.Goals as goal

pub returns-then-is_constant : goal.returns-then-is_constant
returns-then-is_constant c = constant_region _ _ _ _ _ c.is_constant.ensures c.if-is_constant.true refl

pub returns-in_ok-region : goal.returns-in_ok-region
returns-in_ok-region c = variable_region _ _ _ _ _ _ c.is_constant.ensures c.if-is_constant.false refl c.in_ok-region.ensures
