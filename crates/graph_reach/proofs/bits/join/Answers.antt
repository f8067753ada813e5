use Rattle.std.proofs.Common.{◌≡◌, ℕ, length, arith, subst}
use Rattle.graph_reach.proofs.BitLaws.{Joined, joined_all}
use Rattle.graph_reach.proofs.bits.join.Goals as goal

pub returns-clause-joins : goal.returns-clause-joins
returns-clause-joins c =
    let all : c.loop-i.i ≡ length c.args.from.now = omega arith in
    joined_all c.args.row.now c.args.from.now c.loop-i.row (subst (λ (n : ℕ). Joined c.args.row.now c.args.from.now c.loop-i.row n) all c.loop-i.invariant.joined)
