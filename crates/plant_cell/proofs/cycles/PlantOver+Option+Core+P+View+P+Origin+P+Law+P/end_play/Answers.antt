use Rattle.std.proofs.Common.{ap, sym, ◌∙◌}
use Rattle.plant_rules.specs.History.{state_of, stage_at}
use Rattle.plant_cell.specs.Known.{first_of}
use Rattle.plant_cell.proofs.PassLaws.{own_first}
use Rattle.plant_cell.proofs.CycleLaws.{grown_by, grows_one, entries_kept, run_still, seen_after, finished_done, end_adds, end_open, end_turn}
use Rattle.plant_cell.proofs.cycles.PlantOver+Option+Core+P+View+P+Origin+P+Law+P.end_play.Goals as goal

pub finish-requires-clause-ran : goal.finish-requires-clause-ran
finish-requires-clause-ran g c =
    run_still g.P.Controlled.meaning c.args.self.now.table.shared.key.0.value c.enter-turn.result.core c.args.pass.now.numbers.items c.args.pass.now.seat.me.0.seen (first_of c.args.pass.now.numbers.items) _ _ _ _ _ _ _ _ _
    (own_first c.args.pass.now.numbers.items c.requires.rest.pass.some-number) c.enter-turn.ensures.found.is c.enter-turn.ensures.open c.number-who.ensures c.requires.ran

pub leave-requires-clause-grown : goal.leave-requires-clause-grown
leave-requires-clause-grown g c =
    grown_by _ c.enter-turn.result.core _ _ _ _ c.enter-turn.ensures.found.is (ap (λ z. z.found) c.enter-turn.ensures.known) (c.number-who.ensures ∙ ap first_of (sym c.enter-turn.ensures.numbers)) (grows_one _ _ _ _ _ c.finish.ensures.event)

pub returns-clause-adds : goal.returns-clause-adds
returns-clause-adds g c =
    let at = seen_after c.args.self.now.table.shared.key.0.value c.enter-turn.result.core c.finish.new.self _ c.leave.new.pass.seat.me.0.seen c.enter-turn.ensures.found.is (grows_one _ _ _ _ _ c.finish.ensures.event) (ap (λ z. z.seen) c.leave.ensures.known) in
    end_adds c.args.self.now.table.shared.key.0.value c.enter-turn.result.core c.finish.new.self _ _ _ _ _ _ _ c.enter-turn.ensures.found at c.number-who.ensures c.finish.ensures.event

pub returns-clause-open : goal.returns-clause-open
returns-clause-open g c =
    let at = seen_after c.args.self.now.table.shared.key.0.value c.enter-turn.result.core c.finish.new.self _ c.leave.new.pass.seat.me.0.seen c.enter-turn.ensures.found.is (grows_one _ _ _ _ _ c.finish.ensures.event) (ap (λ z. z.seen) c.leave.ensures.known) in
    end_open g.P.Controlled.meaning g.met.P.Controlled.frames c.args.self.now.table.shared.key.0.value c.enter-turn.result.core c.finish.new.self c.args.pass.now.numbers.items c.args.pass.now.seat.me.0.seen c.leave.new.pass.seat.me.0.seen _ _ _ c.requires.rest.pass.right c.enter-turn.ensures.found.is at c.finish.ensures.event c.is_lawful.ensures.legal c.enter-turn.ensures.open

pub returns-clause-change : goal.returns-clause-change
returns-clause-change g c =
    let at = seen_after c.args.self.now.table.shared.key.0.value c.enter-turn.result.core c.finish.new.self _ c.leave.new.pass.seat.me.0.seen c.enter-turn.ensures.found.is (grows_one _ _ _ _ _ c.finish.ensures.event) (ap (λ z. z.seen) c.leave.ensures.known) in
    end_turn g.P.Controlled.meaning c.args.self.now.table.shared.key.0.value c.enter-turn.result.core c.finish.new.self c.args.pass.now.numbers.items c.args.pass.now.seat.me.0.seen c.leave.new.pass.seat.me.0.seen _ _ _ at c.finish.ensures.event c.enter-turn.ensures.change

pub returns-clause-kept : goal.returns-clause-kept
returns-clause-kept g c =
    entries_kept g.P.Controlled.meaning g.met.P.Controlled.frames c.args.self.now.table.shared.key.0.value c.enter-turn.result.core c.finish.new.self _ c.args.pass.now.seat.me.0.seen c.leave.new.pass.seat.me.0.seen
    c.enter-turn.ensures.found.is (grows_one _ _ _ _ _ c.finish.ensures.event) (ap (λ z. z.seen) c.leave.ensures.known) c.enter-turn.ensures.done c.is_lawful.ensures.legal

pub returns-clause-entry : goal.returns-clause-entry
returns-clause-entry g c =
    let run = run_still g.P.Controlled.meaning c.args.self.now.table.shared.key.0.value c.enter-turn.result.core c.args.pass.now.numbers.items c.args.pass.now.seat.me.0.seen (first_of c.args.pass.now.numbers.items) _ _ _ _ _ _ _ _ _
    (own_first c.args.pass.now.numbers.items c.requires.rest.pass.some-number) c.enter-turn.ensures.found.is c.enter-turn.ensures.open c.number-who.ensures c.requires.ran in
    ap (λ z. stage_at (state_of g.P.Controlled.meaning z).stages c.args.ran.play)
    (seen_after c.args.self.now.table.shared.key.0.value c.enter-turn.result.core c.finish.new.self _ c.leave.new.pass.seat.me.0.seen c.enter-turn.ensures.found.is (grows_one _ _ _ _ _ c.finish.ensures.event) (ap (λ z. z.seen) c.leave.ensures.known))
    ∙ finished_done g.P.Controlled.meaning _ _ _ _ _ _ _ _ _ _ _ c.finish.ensures.event run
