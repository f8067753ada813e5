use Rattle.std.proofs.Common.{rules, ◌≡◌, ℕ, List, length, sym, subst}
use Rattle.default_values.specs.worth_steps.Private.Rounds.{IsRound}
use Rattle.default_values.proofs.worth_steps.RoundLaws.{next_round}
use Rattle.default_values.proofs.worth_steps.rounds.round.Goals as goal

pub returns-clause-round : goal.returns-clause-round
returns-clause-round c = λ unit entries most fields r.
    let all : c.loop-number.number ≡ length c.args.parts.now = search rules in
    let long = c.loop-number.invariant.0 in
    let done = c.loop-number.invariant.1 unit entries most fields r in
    next_round unit entries c.loop-number.structures c.args.parts.now c.args.steps c.requires.some long fields
    (subst (λ (i : ℕ). IsRound unit entries c.loop-number.structures c.args.steps i) all done)
