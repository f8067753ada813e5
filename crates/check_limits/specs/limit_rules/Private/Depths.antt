-- Types that are told and have more steps or dimensions than they may have.
use Rattle.std.specs.Prelude.{suc, Bool, ◌||◌, Option}
use Rattle.st_types.specs.declared.st_type.StType.{StType}
use Rattle.st_rules.specs.Scope.{Scope}
use Rattle.st_unit_rules.specs.Limits.{most_steps, has_depth_told, has_many_dimensions}
use Rattle.check_limits.specs.declared.limit_rules.depths.Within.{Within}
use Rattle.check_limits.specs.declared.limit_rules.depths.Within.TheVariants as within

abbrev pub has_more : Within → Scope → Option StType → Bool
has_more within.Entry s t = has_depth_told s (suc most_steps) t
has_more within.Variable s t = has_many_dimensions t || has_depth_told s (suc most_steps) t
has_more within.Program s t = has_depth_told s most_steps t
