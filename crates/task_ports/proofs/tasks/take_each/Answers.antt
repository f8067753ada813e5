use Rattle.std.proofs.Common.{◌≤◌, length, arith}
use Rattle.st_values.specs.View.{program_of}
use Rattle.task_ports.proofs.TakeLaws.{taking_next, taking_ended}
use Rattle.task_ports.proofs.tasks.take_each.Goals as goal

pub loop-x-preserved : goal.loop-x-preserved
loop-x-preserved c =
    let a = c.args in
    taking_next (program_of a.layout.now) a.footprint.now a.located.now c.loop-x.x-index c.x-item.result c.loop-x.inputs.items c.loop-x.outputs.items _ _ c.loop-x.end c.in_ok-one.one _ c.loop-x-test.true c.x-item.is c.loop-x.invariant
    c.in_ok-take_input.ensures c.in_ok-take_output.ensures c.in_ok-one.ensures c.max-end.ensures

pub returns : goal.returns
returns c =
    let a = c.args in
    let past : length a.located.now ≤ c.loop-x.x-index = (let t = c.loop-x-test.false in omega arith) in
    λ h. taking_ended (program_of a.layout.now) a.footprint.now a.located.now c.loop-x.x-index c.loop-x.inputs.items c.loop-x.outputs.items c.loop-x.end past c.loop-x.invariant h
