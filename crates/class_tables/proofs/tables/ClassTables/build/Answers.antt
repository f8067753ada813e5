use Rattle.class_tables.proofs.tables.ClassTables.build.Goals as goal

pub invariant_of-result : goal.invariant_of-result
invariant_of-result c = rw (c.of.ensures, ← c.as_slice.ensures) c.in_ok-parts.ensures
