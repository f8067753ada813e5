use Rattle.std.proofs.Common.{List, ℕ, subst, sym, ap, ◌∙◌, arith}
use Rattle.std.specs.Prelude.{option_map}
use Rattle.scenario.specs.Scenario.{contents_of}
use Rattle.scenario.specs.Reading.{scenario_lines}
use Rattle.scenario.specs.Private.Reader.{step}
use Rattle.scenario.proofs.ScenarioLaws.{HasRead, counts, reads_one, bad_line, bad_end, whole}
use Rattle.scenario.proofs.reading.read_scenario.Goals as goal

pub overflow_add-number : goal.overflow_add-number
overflow_add-number c =
    let few = counts c.args.bytes.now c.loop-line.reader c.loop-line.lines c.loop-line.number c.requires c.loop-line.invariant in
    omega arith

pub returns-in_default-from_utf8-clause-bad : goal.returns-in_default-from_utf8-clause-bad
returns-in_default-from_utf8-clause-bad c =
    let lines = scenario_lines c.args.bytes.now in
    let read = subst (λ (left : List (List ℕ)). HasRead lines c.loop-line.reader left c.loop-line.number) c.in-Some.ensures c.loop-line.invariant in
    bad_line lines c.loop-line.reader c.in-Some.line.now c.next_line.new.self c.loop-line.number read
    (λ utf8. absurd (c.in_default-from_utf8.ensures.cases.0 utf8))

pub returns-then-not-branch-clause-bad : goal.returns-then-not-branch-clause-bad
returns-then-not-branch-clause-bad c =
    let lines = scenario_lines c.args.bytes.now in
    let read = subst (λ (left : List (List ℕ)). HasRead lines c.loop-line.reader left c.loop-line.number) c.in-Some.ensures c.loop-line.invariant in
    let stuck = rw c.if-not-branch.true at c.in_ok-take.ensures in
    bad_line lines c.loop-line.reader c.in-Some.line.now c.next_line.new.self c.loop-line.number read
    (λ utf8. ap (step c.loop-line.reader) (sym c.in-Ok.ensures.cases.0) ∙ stuck)

pub loop-line-preserved : goal.loop-line-preserved
loop-line-preserved c =
    let lines = scenario_lines c.args.bytes.now in
    let read = subst (λ (left : List (List ℕ)). HasRead lines c.loop-line.reader left c.loop-line.number) c.in-Some.ensures c.loop-line.invariant in
    let taken = rw c.if-not-branch.false at c.in_ok-take.ensures in
    reads_one lines c.loop-line.reader c.take.new.self c.in-Some.line.now c.next_line.new.self c.loop-line.number read c.in-Ok.ensures.cases.1
    (ap (step c.loop-line.reader) (sym c.in-Ok.ensures.cases.0) ∙ taken)

pub overflow_add-result : goal.overflow_add-result
overflow_add-result c =
    let few = counts c.args.bytes.now c.loop-line.reader c.loop-line.lines c.loop-line.number c.requires c.loop-line.invariant in
    omega arith

pub returns-in-Some-2-clause-ok : goal.returns-in-Some-2-clause-ok
returns-in-Some-2-clause-ok c =
    let lines = scenario_lines c.args.bytes.now in
    let read = subst (λ (left : List (List ℕ)). HasRead lines c.loop-line.reader left c.loop-line.number) c.in_default.ensures.0 c.loop-line.invariant in
    whole lines c.loop-line.reader c.loop-line.number (contents_of c.in-Some-2.scenario) read (sym c.in_ok-scenario.ensures ∙ ap (option_map contents_of) c.in-Some-2.is)

pub returns-in-None-clause-bad : goal.returns-in-None-clause-bad
returns-in-None-clause-bad c =
    let lines = scenario_lines c.args.bytes.now in
    let read = subst (λ (left : List (List ℕ)). HasRead lines c.loop-line.reader left c.loop-line.number) c.in_default.ensures.0 c.loop-line.invariant in
    bad_end lines c.loop-line.reader c.loop-line.number read (sym c.in_ok-scenario.ensures ∙ ap (option_map contents_of) c.in-None.is)
