use Rattle.std.proofs.Common.{◌≡◌, true, sym, ap, ◌∙◌}
use Rattle.graph_cycles.specs.Graph.{marked}
use Rattle.graph_cycles.proofs.BehindLaws.{end_set}
use Rattle.graph_cycles.proofs.behind.extend.Goals as goal

pub returns-then-marked-2-clause-sound : goal.returns-then-marked-2-clause-sound
returns-then-marked-2-clause-sound c = λ es goals e s.
    let t : marked c.args.marks.now.items c.args.edge.to ≡ true = ap (λ m. marked m c.args.edge.to) (sym c.deref-2.ensures.value) ∙ sym c.marked-2.ensures ∙ c.if-marked-2.true in
    end_set es goals c.args.marks.now.items c.args.edge.from c.args.edge.to c.requires e t s
