use Rattle.std.proofs.Common.{◌≡◌, false, arith, ◌∙◌, ap}
use Rattle.std.proofs.lemmas.Grind.{common_steps}
use Rattle.graph_cycles.specs.Graph.{marked}
use Rattle.graph_cycles.proofs.SearchLaws.{decided_by}
use Rattle.graph_cycles.proofs.search.returns.Goals as goal

pub returns : goal.returns
returns c =
    let f : c.round.result ≡ false = grind (arith, common_steps) in
    decided_by c.args.edges.now c.args.root c.rounds.marks.items c.round.new.marks.items c.marked.result (c.round.ensures.stays f) (c.round.ensures.closed f) c.rounds.invariant.sound (c.marked.ensures ∙ ap (λ m. marked m c.args.root) c.deref.ensures.value)
