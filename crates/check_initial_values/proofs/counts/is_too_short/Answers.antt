use Rattle.std.proofs.Common.{rules, ◌≡◌, to_z, of_z}
use Rattle.std.specs.Int.{w128}
use Rattle.check_initial_values.proofs.CountLaws.{past, same_bounds}
use Rattle.check_initial_values.proofs.counts.is_too_short.Goals as goal

pub returns-in-None : goal.returns-in-None
returns-in-None c = λ n h.
    let low : to_z w128 (of_z w128 c.args.low) ≡ c.args.low = search rules in
    let high : to_z w128 (of_z w128 c.args.high) ≡ c.args.high = search rules in
    same_bounds c.is_below_all.result c.args.low _ c.args.high _ n low high (c.is_below_all.ensures n (past c.args.count n _ c.in-None.is h))
