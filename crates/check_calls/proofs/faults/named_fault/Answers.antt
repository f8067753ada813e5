use Rattle.std.proofs.Common.{List, ap, subst}
use Rattle.st_rules.specs.Calls as calls
use Rattle.st_rules.proofs.ListLaws.{drop-at}
use Rattle.check_calls.specs.Heads.{head, heads_told}
use Rattle.check_calls.specs.Parameters.{parameters_of}
use Rattle.check_calls.proofs.MatchingLaws.{SeenSoFar, one_more}
use Rattle.check_calls.proofs.faults.named_fault.Goals as goal

pub loop-h-preserved : goal.loop-h-preserved
loop-h-preserved c =
    let so_far = subst (λ (hs : List calls.Head). SeenSoFar (parameters_of c.args.parameters.now) c.loop-h.seen c.loop-h.found hs (heads_told c.args.heads.now))
    (ap heads_told (drop-at c.args.heads.now c.loop-h.h-index c.h-item.result c.loop-h-test.true c.h-item.is)) c.loop-h.invariant in
    one_more (parameters_of c.args.parameters.now) c.loop-h.seen c.one_argument.new.seen c.loop-h.found _ c.earlier-found.result (head c.h-item.result) _ (heads_told c.args.heads.now) so_far (c.in_ok-fault.ensures so_far.names so_far.are_seen) c.earlier-found.ensures
