use Rattle.std.proofs.Common.{ℕ, List, ◌++◌, subst}
use Rattle.check_names.specs.name_spaces.Held.{Holds}
use Rattle.check_names.proofs.name_rules.ConfigurationLaws.{held_ended, text_lent, texts_lent}
use Rattle.check_names.proofs.name_rules.configurations.hold_names.Goals as goal

pub returns : goal.returns
returns c = λ before h.
    subst (λ (ts : List (List ℕ)). Holds c.loop-name.held (before ++ ts)) (texts_lent c.args.names.now)
    (held_ended text_lent c.args.held.now c.args.names.now c.loop-name.held c.loop-name.name-index c.loop-name-test.false c.loop-name.invariant before h)
