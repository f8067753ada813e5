use Rattle.std.proofs.Common.{rules, ◌≡◌, refl, subst}
use Rattle.std.specs.Prelude.{Some, slice_get}
use Rattle.stack_code.specs.valid_code.Private.Calls.{Shares}
use Rattle.stack_code.proofs.valid_code.SplitLaws.{when_ok, call_of_nobody, call_of_like, like_of_call, no_mixed}
use Rattle.stack_code.proofs.valid_code.calls.is_call_of.Goals as goal

pub returns-in-Nobody : goal.returns-in-Nobody
returns-in-Nobody c =
    λ ks s. (λ t. call_of_nobody c.args.code.now c.args.routine.now c.args.at _ _ c.args.below.now c.args.args.now refl refl ks (subst (Shares c.args.code.now ks) c.in-Nobody.is s), λ l. refl)

pub returns-in-Mixed : goal.returns-in-Mixed
returns-in-Mixed c =
    λ ks s. (λ t. absurd (cc), λ l. absurd (no_mixed c.args.code.now c.args.routine.now c.args.at _ _ c.args.below.now c.args.args.now refl refl ks (subst (Shares c.args.code.now ks) c.in-Mixed.is s) l))

pub returns-in-Some : goal.returns-in-Some
returns-in-Some c =
    let code = c.args.code.now in
    let callee : slice_get code.routines c.in-Like.k ≡ Some c.in-Some.callee.now = search rules in
    when_ok c.enters.result c.enters.ensures (λ b e ks s.
    let like = subst (Shares code ks) c.in-Like.is s in (
      λ t. call_of_like code c.args.routine.now c.args.at _ _ c.args.below.now c.args.args.now refl refl ks c.in-Like.k c.in-Some.callee.now callee like (e.0 t),
      λ l. e.1 (like_of_call code c.args.routine.now c.args.at _ _ c.args.below.now c.args.args.now refl refl ks c.in-Like.k c.in-Some.callee.now callee like l),
    ))
