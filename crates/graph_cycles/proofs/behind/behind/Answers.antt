use Rattle.std.proofs.Common.{◌≡◌, ◌∙◌, false, arith}
use Rattle.std.proofs.lemmas.Grind.{common_steps}
use Rattle.graph_cycles.proofs.BehindLaws.{decided, first_sound}
use Rattle.graph_cycles.proofs.behind.behind.Goals as goal

pub rounds-init : goal.rounds-init
rounds-init c = record { long = c.ordered.ensures.long; sound = c.ordered.ensures.sound c.args.goals.items (first_sound c.args.edges.now c.args.goals.items); grows = c.ordered.ensures.grows }

pub returns : goal.returns
returns c =
    let f : c.round.result ≡ false = grind (arith, common_steps) in
    let ends = decided c.args.edges.now c.args.goals.items c.rounds.marks.items c.round.new.marks.items (c.round.ensures.stays f) (c.round.ensures.closed f) c.rounds.invariant.sound c.rounds.invariant.grows in
    record { long = c.round.ensures.long ∙ c.rounds.invariant.long; ends = ends }
