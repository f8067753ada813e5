use Rattle.std.proofs.Common.{◌≡◌, sym, subst, ◌∙◌, to_z, of_z, rules}
use Rattle.std.specs.Int.{w128}
use Rattle.st_types.specs.Range.{Fits}
use Rattle.task_ports.proofs.PortLaws.{input_fits}
use Rattle.task_ports.proofs.inputs.latch_one.Goals as goal

pub put_value-requires-clause-fits : goal.put_value-requires-clause-fits
put_value-requires-clause-fits c =
    let x = c.args.x.now in
    let e : to_z w128 (of_z w128 c.value_of-v.result) ≡ c.value_of-v.result = search rules in
    subst (Fits x.elem) (sym (e ∙ c.value_of-v.ensures)) (input_fits c.args.input.now x)
