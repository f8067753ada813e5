use Rattle.std.proofs.Common.{◌≡◌, ap, ◌∙◌, sym, get_or, length, arith}
use Rattle.std.specs.Prelude.{slice_get, slice_set, Some, []}
use Rattle.std.specs.Int.{w128}
use Rattle.std.proofs.lemmas.Int.{to_z-of_z}
use Rattle.mem_image.specs.Image.{written}
use Rattle.std.specs.Option.{option_map}
use Rattle.stack_code.specs.Memory.{Memory}
use Rattle.stack_code.specs.Steps.{Goes}
use Rattle.machine_memory.proofs.MemoryLaws.{local_written}
use Rattle.machine_memory.proofs.memory.write.Goals as goal

pub returns-else-a-bytes-2-clause-value : goal.returns-else-a-bytes-2-clause-value
returns-else-a-bytes-2-clause-value c =
    let m : Memory = record { regions = c.args.regions.now; locals = c.args.locals.now.locals } in
    let some : Some c.in-Some-len_at.len ≡ option_map length (slice_get m.locals c.args.a.index) = cc (c.in-Some-len_at.is, c.len_at.ensures) in
    local_written c.args.e m c.args.a c.args.v c.in-Some-len_at.len c.in-Locals.is some (omega (arith, c.bytes-in-Locals.ensures))
    ∙ ap (λ ls. Goes (record m { locals = ls })) (ap (λ x. slice_set m.locals c.args.a.index (written c.args.e (get_or m.locals c.args.a.index []) c.args.a.offset x)) (sym (to_z-of_z w128 c.args.v c.ranges.v)) ∙ ap (λ v. v.locals) (sym c.write-in-Locals.ensures))
