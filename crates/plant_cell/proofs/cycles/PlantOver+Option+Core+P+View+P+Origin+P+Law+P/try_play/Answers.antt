use Rattle.std.proofs.Common.{ap, sym, ◌∙◌}
use Rattle.std.specs.Arc.{arc_value}
use Rattle.plant_cell.specs.Known.{first_of}
use Rattle.plant_cell.proofs.CycleLaws.{grown_by, entries_kept, seen_after, tried_adds, tried_open, tried_turn}
use Rattle.plant_cell.proofs.cycles.PlantOver+Option+Core+P+View+P+Origin+P+Law+P.try_play.Goals as goal

pub leave-requires-clause-grown : goal.leave-requires-clause-grown
leave-requires-clause-grown g c =
    grown_by _ c.enter-turn.result.core _ _ _ _ c.enter-turn.ensures.found.is (ap (λ z. z.found) c.enter-turn.ensures.known) (c.number-who.ensures ∙ ap first_of (sym c.enter-turn.ensures.numbers)) c.begin_in-tried.ensures.grown

pub returns-clause-adds : goal.returns-clause-adds
returns-clause-adds g c =
    let at = seen_after c.args.self.now.table.shared.key.0.value c.enter-turn.result.core c.begin_in-tried.new.core _ c.leave.new.pass.seat.me.0.seen c.enter-turn.ensures.found.is c.begin_in-tried.ensures.grown (ap (λ z. z.seen) c.leave.ensures.known) in
    tried_adds c.args.self.now.table.shared.key.0.value c.enter-turn.result.core c.begin_in-tried.new.core _ _ _ c.begin_in-tried.result _ _ _ _ c.enter-turn.ensures.found at c.number-who.ensures c.begin_in-tried.ensures.adds

pub returns-clause-open : goal.returns-clause-open
returns-clause-open g c =
    let at = seen_after c.args.self.now.table.shared.key.0.value c.enter-turn.result.core c.begin_in-tried.new.core _ c.leave.new.pass.seat.me.0.seen c.enter-turn.ensures.found.is c.begin_in-tried.ensures.grown (ap (λ z. z.seen) c.leave.ensures.known) in
    tried_open g.P.Controlled.meaning g.met.P.Controlled.frames c.args.self.now.table.shared.key.0.value c.enter-turn.result.core c.begin_in-tried.new.core c.args.pass.now.numbers.items c.args.pass.now.seat.me.0.seen c.leave.new.pass.seat.me.0.seen c.begin_in-tried.result _ _ (λ x. x.task) (λ x. arc_value x.kit.shared) (λ x. x.kit.carrier)
    c.requires.rest.pass.right c.enter-turn.ensures.found.is at c.begin_in-tried.ensures.adds c.is_lawful.ensures.legal c.enter-turn.ensures.open

pub returns-clause-change : goal.returns-clause-change
returns-clause-change g c =
    let at = seen_after c.args.self.now.table.shared.key.0.value c.enter-turn.result.core c.begin_in-tried.new.core _ c.leave.new.pass.seat.me.0.seen c.enter-turn.ensures.found.is c.begin_in-tried.ensures.grown (ap (λ z. z.seen) c.leave.ensures.known) in
    tried_turn g.P.Controlled.meaning c.args.self.now.table.shared.key.0.value c.enter-turn.result.core c.begin_in-tried.new.core c.args.pass.now.numbers.items c.args.pass.now.seat.me.0.seen c.leave.new.pass.seat.me.0.seen c.begin_in-tried.result _ _ (λ x. x.task) (λ x. arc_value x.kit.shared) (λ x. x.kit.carrier)
    at c.begin_in-tried.ensures.adds c.enter-turn.ensures.change

pub returns-clause-kept : goal.returns-clause-kept
returns-clause-kept g c =
    entries_kept g.P.Controlled.meaning g.met.P.Controlled.frames c.args.self.now.table.shared.key.0.value c.enter-turn.result.core c.begin_in-tried.new.core _ c.args.pass.now.seat.me.0.seen c.leave.new.pass.seat.me.0.seen
    c.enter-turn.ensures.found.is c.begin_in-tried.ensures.grown (ap (λ z. z.seen) c.leave.ensures.known) c.enter-turn.ensures.done c.is_lawful.ensures.legal
