use Rattle.std.proofs.Common.{◌≡◌, ◌∙◌, length, arith, rules, to_z, of_z}
use Rattle.std.specs.Prelude.{slice_get, Some}
use Rattle.std.specs.Option.{option_map}
use Rattle.std.specs.Int.{w128}
use Rattle.stack_code.specs.Memory.{Memory}
use Rattle.machine_memory.proofs.MemoryLaws.{local_read, fits_read}
use Rattle.machine_memory.proofs.memory.read.Goals as goal

pub returns-else-a-bytes-clause-fits : goal.returns-else-a-bytes-clause-fits
returns-else-a-bytes-clause-fits c =
    fits_read c.args.e _ c.args.a.offset _ ((let e : to_z w128 (of_z w128 c.read.result) ≡ c.read.result = search rules in e) ∙ c.read.ensures)

pub returns-else-a-bytes-2-clause-fits : goal.returns-else-a-bytes-2-clause-fits
returns-else-a-bytes-2-clause-fits c =
    fits_read c.args.e _ c.args.a.offset _ ((let e : to_z w128 (of_z w128 c.read-in-Locals.result) ≡ c.read-in-Locals.result = search rules in e) ∙ c.read-in-Locals.ensures)

pub returns-else-a-bytes-2-clause-value : goal.returns-else-a-bytes-2-clause-value
returns-else-a-bytes-2-clause-value c =
    let m : Memory = record { regions = c.args.regions.now; locals = c.args.locals.now.locals } in
    let some : Some c.in-Some-len_at.len ≡ option_map length (slice_get m.locals c.args.a.index) = cc (c.in-Some-len_at.is, c.len_at.ensures) in
    local_read c.args.e m c.args.a c.in-Some-len_at.len _ c.in-Locals.is some (omega (arith, c.bytes-in-Locals.ensures))
    ((let e : to_z w128 (of_z w128 c.read-in-Locals.result) ≡ c.read-in-Locals.result = search rules in e) ∙ c.read-in-Locals.ensures)
