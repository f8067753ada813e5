use Rattle.std.proofs.Common.{sym, ap, ◌∙◌}
use Rattle.st_unit_rules.specs.Worth.{number_worth}
use Rattle.default_values.specs.given_values.Lent.{lent}
use Rattle.default_values.proofs.initial_worths.walk.number_given.Goals as goal

pub returns-in_ok-value-in-Some : goal.returns-in_ok-value-in-Some
returns-in_ok-value-in-Some g c = λ u e. c.in_ok-value-in-Some.ensures u e ∙ ap (λ o. number_worth u e (g.S.ConstantValues.scope c.args.s.now) c.args.kind.now o) (sym (ap lent c.in-Some.is))
