use Rattle.std.proofs.Common.{List, ℕ, Option, subst}
use Rattle.footprints.specs.reached_routines.Private.Asked.{AsksOne}
use Rattle.footprints.proofs.reached_routines.AskLaws.{asks_one}
use Rattle.footprints.proofs.reached_routines.asked.ask.Goals as goal

pub returns-clause-one : goal.returns-clause-one
returns-clause-one c =
    subst (λ (k : Option (List ℕ)). AsksOne (c.args.family, k) c.args.asked.now c.insert.new.self) c.in_ok-copy.ensures
    (asks_one (c.args.family, c.in_ok-copy.copy) c.args.asked.now c.insert.new.self (c.in_ok-fresh.ensures.updates.0))
