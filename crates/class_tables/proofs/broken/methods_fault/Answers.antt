use Rattle.std.proofs.Common.{false}
use Rattle.std.specs.Map.{keys_of}
use Rattle.st_rules.specs.declared.modifiers.Access.TheVariants.{Public}
use Rattle.class_tables.specs.Private.Broken as broken
use Rattle.class_tables.proofs.BrokenLaws.{numbered_more}
use Rattle.class_tables.proofs.broken.methods_fault.Goals as goal

pub loop-place-preserved : goal.loop-place-preserved
loop-place-preserved g c =
    numbered_more (broken.method_faults g.V.PartialEq.eq (keys_of c.args.names.now) c.args.rows.now c.args.settled.now c.args.signatures.now c.args.class c.args.row.now.is_abstract) c.args.row.now.methods c.as_slice-method-items.result.now
    c.loop-place.place c.loop-place.found
    (record { line = 0; name = 0; access = Public; is_abstract = false; is_final = false; is_override = false; is_hook = false; has_statements = false }) c.with_method-found.result _
    c.as_slice-method-items.ensures c.loop-place-test.true c.with_method-found.ensures c.loop-place.invariant
