use Rattle.std.proofs.Common.{sym, ap, ◌∙◌}
use Rattle.st_rules.specs.Classes.{classes_in}
use Rattle.symbol_table.proofs.unit_tables.tables.UnitTables.build.Goals as goal

pub invariant_of-result : goal.invariant_of-result
invariant_of-result c = record {
  classes-are = c.in_ok-classes.ensures ∙ ap classes_in c.as_slice.ensures;
  interfaces-are = c.in_ok-interfaces.ensures;
  names-are = c.in_ok-names-2.ensures.names ∙ c.in_ok-names.ensures;
  names-know = c.in_ok-names-2.ensures.knows;
  sizes-are = λ s a b. c.in_ok-sizes.ensures s a (b ∙ sym c.in_ok-names.ensures);
  graph-is = c.in_ok-graph.ensures;
}
