use Rattle.std.proofs.Common.{◌≡◌, ℕ, ◌+◌, ◌*◌, List, [], ◌∷◌, ◌++◌, refl, ap, ◌∙◌, arith}
use Rattle.cycle_journal.specs.Interleaving.{Phase}
use Rattle.scenario.specs.Reading.{phases_from}
use Rattle.scenario.proofs.MadeLaws.{counts_of, phases-one_more, phases-behind}
use Rattle.scenario.proofs.made.phases.Goals as goal

pub loop-round-preserved : goal.loop-round-preserved
loop-round-preserved c =
    let first = 33 * c.loop-round.round + 1 in
    c.in_ok-push-2.ensures.ok ∙ ap (λ (phases : List Phase). phases ++ (first + 32, first + 33) ∷ []) c.in_ok-push.ensures.ok
    ∙ ap (λ (phases : List Phase). (phases ++ (first, first + 32) ∷ []) ++ (first + 32, first + 33) ∷ []) c.loop-round.invariant
    ∙ phases-one_more c.loop-round.round first refl

pub returns : goal.returns
returns c =
    let behind = 33 * c.args.rounds + 1 in
    let all : c.loop-round.round ≡ c.args.rounds = omega arith in
    c.in_ok-push-3.ensures.ok
    ∙ ap (λ (phases : List Phase). phases ++ (behind, behind) ∷ []) (c.loop-round.invariant ∙ ap (λ (n : ℕ). phases_from 1 (counts_of n)) all)
    ∙ phases-behind c.args.rounds behind refl
