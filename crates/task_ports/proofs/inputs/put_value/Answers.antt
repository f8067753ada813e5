use Rattle.std.proofs.Common.{ap, ◌∙◌, Some}
use Rattle.std.specs.Option.{option_copied_mut}
use Rattle.std.specs.Int.{w128}
use Rattle.std.proofs.lemmas.Int.{to_z-of_z}
use Rattle.mem_image.specs.Image.{written}
use Rattle.undo_image.proofs.TableLaws.{committed_set}
use Rattle.task_ports.proofs.PortLaws.{value_put}
use Rattle.task_ports.proofs.inputs.put_value.Goals as goal

pub returns-clause-bytes : goal.returns-clause-bytes
returns-clause-bytes c =
    let a = c.args in
    let is = c.at_mut.ensures.value ∙ ap (λ r. Some (option_copied_mut r)) c.in-Some.is in
    value_put a.regions.now a.region a.offset a.e a.v c.in-Some.image.now c.write.new.self is (ap (λ u. u.bytes) c.write.ensures ∙ ap (written a.e c.in-Some.image.now.bytes a.offset) (to_z-of_z w128 a.v c.ranges.v))

pub returns-clause-committed : goal.returns-clause-committed
returns-clause-committed c =
    let a = c.args in
    let is = c.at_mut.ensures.value ∙ ap (λ r. Some (option_copied_mut r)) c.in-Some.is in
    committed_set a.regions.now a.region c.write.new.self c.in-Some.image.now is (ap (λ u. u.committed) c.write.ensures)
