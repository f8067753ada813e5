use Rattle.std.proofs.Common.{◌≡◌, Some, length, refl, sym}
use Rattle.std.specs.Prelude.{slice_get}
use Rattle.std.specs.Map.{keys_of}
use Rattle.std.proofs.lemmas.Option.{slice_get_read}
use Rattle.class_tables.proofs.BrokenLaws.{class_joined}
use Rattle.class_tables.proofs.broken.class_fault.Goals as goal

pub returns : goal.returns
returns g c =
    let at = c.in-Some.ensures.lookup in
    let e : Some c.in-Some.row.now ≡ slice_get c.args.rows.now c.args.class = sym (slice_get_read c.args.rows.now (length c.args.rows.now) c.args.class c.in-Some.row.now refl at.3.0 at.1) in
    class_joined g.V.PartialEq.eq (keys_of c.args.names.now) c.args.rows.now c.args.settled.now c.args.signatures.now c.args.class c.in-Some.row.now c.is_on_cycle.result c.has_final_base.result c.has_block_base.result
    c.base_fault-of_base.result c.methods_fault.result c.earlier.result e c.is_on_cycle.ensures c.has_final_base.ensures c.has_block_base.ensures c.base_fault-of_base.ensures c.methods_fault.ensures c.earlier.ensures
