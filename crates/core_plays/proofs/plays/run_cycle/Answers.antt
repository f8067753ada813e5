use Rattle.std.proofs.Common.{ap, ◌∙◌, ◌+◌}
use Rattle.std.specs.Arc.{arc_value}
use Rattle.plant_rules.specs.History.{begun, answered}
use Rattle.core_plays.proofs.RestLaws.{one_up, opened, has_run, at_next, not_early, after_answer, after_cycle, finished_at}
use Rattle.core_plays.proofs.plays.run_cycle.Goals as goal

pub finish-requires-clause-ran : goal.finish-requires-clause-ran
finish-requires-clause-ran g c =
    let r = c.run.ensures in
    let x = c.in-Claim.claim in
    has_run g.P.Controlled.meaning c.begin.new.self 0 x.play x.task x.now x.input.items (arc_value x.kit.shared) x.kit.carrier _ _ _ _ _ _ _ _ (opened g.P.Controlled.meaning c.args.core.now c.begin.new.self 0 (c.args.done + 1) x.task x.play x.now x.input.items (arc_value x.kit.shared) x.kit.carrier c.in-Claim.ensures.0 c.in-Claim.ensures.1) r.same.0 r.same.1 r.same.2 (ap (λ a. a.items) r.same.3) r.same.4 r.taken r.reply r.left

pub unreachable-requires-in-Early : goal.unreachable-requires-in-Early
unreachable-requires-in-Early g c = not_early g.P.Controlled.meaning _ _ _ _ c.requires.rest _ c.requires.there c.in-Early.ensures.1

pub returns-in-Claim-clause-rest : goal.returns-in-Claim-clause-rest
returns-in-Claim-clause-rest g c =
    let m = g.P.Controlled.meaning in
    let x = c.in-Claim.claim in
    let k = c.args.done in
    after_cycle m c.args.core.now c.begin.new.self c.finish.new.self 0 k x.task (arc_value x.kit.shared) x.kit.carrier c.run.result.reply
    (at_next m c.args.core.now c.begin.new.self 0 k (begun x.task (arc_value x.kit.shared) x.kit.carrier) c.in-Claim.ensures.0)
    (finished_at m c.begin.new.self c.finish.new.self 0 _ c.run.result.play c.run.result.reply (c.run.ensures.same.0 ∙ (c.in-Claim.ensures.1.play-is ∙ one_up k)) c.finish.ensures.event)
    c.requires.there c.requires.rest

pub returns-in-Answered-clause-rest : goal.returns-in-Answered-clause-rest
returns-in-Answered-clause-rest g c =
    after_answer g.P.Controlled.meaning c.args.core.now c.begin.new.self 0 c.args.done c.in-Answered.ensures.0
    (at_next g.P.Controlled.meaning c.args.core.now c.begin.new.self 0 c.args.done (answered c.in-Answered.ensures.0) c.in-Answered.ensures.2) c.requires.there c.requires.rest
