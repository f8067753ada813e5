use Rattle.std.proofs.Common.{rules, ◌≡◌, subst, sym}
use Rattle.std.specs.Prelude.{Some, None, slice_get}
use Rattle.stack_code.specs.valid_code.Private.Calls.{Shares}
use Rattle.stack_code.proofs.valid_code.CallLaws.{shares_absent, shares_first, shares_like, shares_unlike, shares_mixed}
use Rattle.stack_code.proofs.valid_code.calls.with_routine.Goals as goal

pub returns-in_default : goal.returns-in_default
returns-in_default c =
    let none : slice_get c.args.code.now.routines c.args.k ≡ None = search rules in
    λ ks s. shares_absent c.args.code.now ks c.args.k none c.args.common s

pub returns-in-Nobody : goal.returns-in-Nobody
returns-in-Nobody c =
    let is : slice_get c.args.code.now.routines c.args.k ≡ Some c.in-Some.routine.now = search rules in
    λ ks s. shares_first c.args.code.now ks c.args.k c.in-Some.routine.now is (subst (Shares c.args.code.now ks) c.in-Nobody.is s)

pub returns-then-has_same_signature : goal.returns-then-has_same_signature
returns-then-has_same_signature c =
    let is : slice_get c.args.code.now.routines c.args.k ≡ Some c.in-Some.routine.now = search rules in
    let other : slice_get c.args.code.now.routines c.in-Like.j ≡ Some c.in-Some-get.other.now = search rules in
    λ ks s. shares_like c.args.code.now ks c.args.k c.in-Some.routine.now is c.in-Like.j c.in-Some-get.other.now other (c.has_same_signature.ensures.0 c.if-has_same_signature.true) (subst (Shares c.args.code.now ks) c.in-Like.is s)

pub returns-else-has_same_signature : goal.returns-else-has_same_signature
returns-else-has_same_signature c =
    let is : slice_get c.args.code.now.routines c.args.k ≡ Some c.in-Some.routine.now = search rules in
    let other : slice_get c.args.code.now.routines c.in-Like.j ≡ Some c.in-Some-get.other.now = search rules in
    λ ks s. shares_unlike c.args.code.now ks c.args.k c.in-Some.routine.now is c.in-Like.j c.in-Some-get.other.now other (λ same. absurd (let t = c.has_same_signature.ensures.1 same in cc)) (subst (Shares c.args.code.now ks) c.in-Like.is s)

pub returns-in-Mixed : goal.returns-in-Mixed
returns-in-Mixed c =
    λ ks s. subst (Shares c.args.code.now _) (sym c.in-Mixed.is) (shares_mixed c.args.code.now ks c.args.k (subst (Shares c.args.code.now ks) c.in-Mixed.is s))
