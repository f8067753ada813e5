use Rattle.std.proofs.Common.{◌≡◌, ◌∙◌, ℕ, ap, refl, length, arith}
use Rattle.std.specs.List.{range_with_len}
use Rattle.core_plays.proofs.RestLaws.{rests_first, same_itself}
use Rattle.core_plays.proofs.plays.play_in_order.Goals as goal

pub loop-play-init : goal.loop-play-init
loop-play-init g c = (same_itself c.args.core.now, rests_first g.P.Controlled.meaning c.args.core.now c.requires.blank, refl)

pub returns-clause-order : goal.returns-clause-order
returns-clause-order g c =
    let all : c.loop-play.done ≡ length c.args.plays.now = omega (arith, c.loop-play.invariant.2, c.loop-play-test.false, c.loop-play.auto.play-index-end) in
    c.loop-play.invariant.1.numbers ∙ ap (λ (n : ℕ). range_with_len 1 n) all
