use Rattle.std.proofs.Common.{rules, ◌≡◌, ◌+◌, ◌*◌, ◌-◌, ◌≤◌, suc, length, arith, sym, ap, subst, ◌∙◌}
use Rattle.std.proofs.lemmas.Grind.{common_steps}
use Rattle.image_moves.specs.Moves.{moved, moved_by, repeated, IsWithin, AreWithin}
use Rattle.image_moves.specs.MoveViews.{move_of, moves_of}
use Rattle.image_moves.proofs.MoverLaws.{turn_done, turn_within, moves_wider, repeat_within, repeat_levels, levels, levels_of}
use Rattle.image_moves.proofs.mover.+mover.Goals as goal

pub apply_move-apply_repeated-requires : goal.apply_move-apply_repeated-requires
apply_move-apply_repeated-requires g t c κs within =
    let x = c.in-Repeat in
    let w = repeat_within c.args.one.now x.turns x.moves _ _ x.is c.requires.within in
    let deep : levels (move_of c.args.one.now) ≡ suc (levels_of (moves_of c.as_slice.result.now)) = repeat_levels c.args.one.now x.turns x.moves x.is ∙ ap (λ ms. suc (levels_of (moves_of ms))) (sym c.as_slice.ensures) in
    (omega (arith, c.decreases, deep), (within, (omega (arith, w.0, c.requires.source), (omega (arith, w.1, c.requires.target), subst (λ ms. AreWithin (moves_of ms) x.turns.far x.turns.further) (sym c.as_slice.ensures) w.2))))

pub apply_repeated-apply_moves-requires : goal.apply_repeated-apply_moves-requires
apply_repeated-apply_moves-requires g t c κs within =
    let u = c.args.turns.now in
    let source = turn_within u.count c.loop-turn.turn (c.args.from + u.from) u.far _ c.loop-turn-test.true c.requires.source in
    let room : c.args.to + u.to + u.count * u.further ≤ length c.loop-turn.image = subst (λ n. c.args.to + u.to + u.count * u.further ≤ n) (sym c.loop-turn.invariant.long) c.requires.target in
    let target = turn_within u.count c.loop-turn.turn (c.args.to + u.to) u.further _ c.loop-turn-test.true room in
    (omega (arith, c.decreases), (within, (omega (arith, source), (omega (arith, target), moves_wider (moves_of c.args.moves.now) u.far u.further _ _ (omega (arith, source)) (omega (arith, target)) c.requires.within))))

pub apply_repeated-loop-turn-preserved : goal.apply_repeated-loop-turn-preserved
apply_repeated-loop-turn-preserved g t c =
    turn_done (g.R.Relocates.by c.args.relocation.now) c.args.source.now (moves_of c.args.moves.now) c.args.turns.now.count c.loop-turn.turn _ _ _ _ _ _ _ c.loop-turn-test.true c.loop-turn.invariant c.apply_moves.ensures.after c.apply_moves.ensures.len
