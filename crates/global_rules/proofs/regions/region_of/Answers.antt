use Rattle.std.proofs.Common.{refl, ◌∙◌}
use Rattle.global_rules.proofs.regions.region_of.Goals as goal

pub returns : goal.returns
returns c = record {
  name = c.in_ok-text.ensures ∙ c.as_str.ensures;
  program = refl;
  kind = c.in_ok-told.ensures;
  marks = c.in_ok-marks.ensures;
  initial = c.in_ok-given.ensures.initial;
  address = c.in_ok-address.ensures;
}
