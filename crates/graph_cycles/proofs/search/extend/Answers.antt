use Rattle.std.proofs.Common.{◌≡◌, true, nat_eq, sym, ap, ◌∙◌}
use Rattle.std.specs.Prelude.{◌||◌}
use Rattle.graph_cycles.specs.Graph.{marked}
use Rattle.graph_cycles.proofs.SearchLaws.{sound_set}
use Rattle.graph_cycles.proofs.search.extend.Goals as goal

pub returns-then-leaves-clause-sound : goal.returns-then-leaves-clause-sound
returns-then-leaves-clause-sound c = λ es e s.
    let t : (nat_eq c.args.edge.from c.args.root || marked c.args.marks.now.items c.args.edge.from) ≡ true = ap (λ m. nat_eq c.args.edge.from c.args.root || marked m c.args.edge.from) (sym c.deref-2.ensures.value) ∙ sym c.leaves.ensures ∙ c.if-leaves.true in
    sound_set es c.args.root c.args.marks.now.items c.args.edge.from c.args.edge.to c.requires e t s
