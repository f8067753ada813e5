use Rattle.std.proofs.Common.{◌∙◌}
use Rattle.undo_image.specs.Undoable.{bytes_in, committed_in}
use Rattle.task_ports.proofs.SumLaws.{summing_begun, summing_ends, summing_space}
use Rattle.task_ports.proofs.outputs.collect.Goals as goal

pub ports-init : goal.ports-init
ports-init c = let a = c.args in summing_begun (bytes_in a.regions.now) (committed_in a.regions.now) a.outputs.now a.end c.requires.fits c.requires.ends

pub returns : goal.returns
returns c =
    let a = c.args in
    c.from_slice.ensures ∙ summing_ends (bytes_in a.regions.now) (committed_in a.regions.now) a.outputs.now c.ports.left.now a.end c.ports.bytes c.ports.invariant c.in_default.ensures.cases c.requires.few

pub add_shown-requires-clause-space : goal.add_shown-requires-clause-space
add_shown-requires-clause-space c =
    let a = c.args in
    summing_space (bytes_in a.regions.now) (committed_in a.regions.now) a.outputs.now c.ports.left.now c.in-Some.behind.now a.end c.ports.bytes c.in-Some.x.now c.ports.invariant c.in-Some.ensures.cases.0 c.requires.bytes
