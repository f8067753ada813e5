-- What a constant expression comes to, as code holds it.
use Rattle.st_unit_rules.specs.declared_names.Constants.{Outcome, comes_to, divides_by_zero, cannot_be_told}
use Rattle.constant_folding.specs.declared.constant_values.outcome.Outcome.{Outcome as Held}
use Rattle.constant_folding.specs.declared.constant_values.outcome.Outcome.TheVariants as held

abbrev pub outcome : Held → Outcome
outcome (held.Number z) = comes_to z
outcome (held.DividesByZero line) = divides_by_zero line
outcome held.Untold = cannot_be_told
