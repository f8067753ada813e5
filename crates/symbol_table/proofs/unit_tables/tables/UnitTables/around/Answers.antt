use Rattle.std.proofs.Common.{sym, ◌∙◌, subst}
use Rattle.st_tree.specs.declared.unit.Unit.{Unit}
use Rattle.st_rules.specs.Classes.{classes_in}
use Rattle.name_resolution.specs.Tables.{Knows}
use Rattle.symbol_table.proofs.unit_tables.tables.UnitTables.around.Goals as goal

pub returns-clause-around : goal.returns-clause-around
returns-clause-around c = record {
  knows = subst (λ (u : Unit). Knows c.self.inside.names (classes_in u.decls)) (sym (c.classes.ensures ∙ c.self.invariant.interfaces-are)) c.self.invariant.names-know;
  same = sym c.classes.ensures;
}
