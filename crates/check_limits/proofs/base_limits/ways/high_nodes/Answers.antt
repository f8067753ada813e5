use Rattle.std.proofs.Common.{◌≡◌, ◌∙◌, ap, arith, length}
use Rattle.std.specs.List.{list_any}
use Rattle.std.proofs.lemmas.Grind.{common_steps}
use Rattle.check_limits.specs.base_limits.Private.Ways.{goes_on, leads_on}
use Rattle.check_limits.proofs.base_limits.WayLaws.{ways_next, ways_ended}
use Rattle.check_limits.proofs.base_limits.ways.high_nodes.Goals as goal

pub loop-step-preserved : goal.loop-step-preserved
loop-step-preserved c =
    ways_next c.args.count c.args.edges.now c.requires c.loop-step._step c.loop-step.marks.items c.in_ok-cycles.cycles.items c.in_ok-marks-2.marks.items c.in_ok-cycles.ensures.cycles
    (c.in_ok-marks-2.ensures.long ∙ ap (λ marks. length marks) c.deref.ensures.value)
    (λ i. c.in_ok-marks-2.ensures.next i
    ∙ ap (λ marks. list_any (leads_on (goes_on marks c.deref-in-loop-step.result.now) i) c.args.edges.now) c.deref.ensures.value
    ∙ ap (λ cycles. list_any (leads_on (goes_on c.loop-step.marks.items cycles) i) c.args.edges.now) c.deref-in-loop-step.ensures.value)
    c.loop-step.invariant

pub returns : goal.returns
returns c =
    let all : c.loop-step._step ≡ 65 = grind (arith, common_steps) in
    ways_ended c.args.count c.args.edges.now c.requires c.loop-step._step c.loop-step.marks.items all c.loop-step.invariant
