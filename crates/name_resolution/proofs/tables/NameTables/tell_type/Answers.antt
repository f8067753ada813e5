use Rattle.std.proofs.Common.{sym, subst, List}
use Rattle.st_rules.specs.declared.names.DeclaredType.{DeclaredType}
use Rattle.name_resolution.specs.Private.Tables.{AreNameTables}
use Rattle.name_resolution.proofs.TellLaws.{type_tables}
use Rattle.name_resolution.proofs.tables.NameTables.tell_type.Goals as goal

pub invariant_of-self : goal.invariant_of-self
invariant_of-self c =
    subst (λ (xs : List DeclaredType). AreNameTables (record c.self.inside.names { types = xs }) c.self.inside.types c.self.inside.globals c.self.inside.variables c.self.inside.first c.self.inside.last c.self.inside.values.items c.self.inside.fields.items c.self.inside.all.items c.self.inside.inherited.items c.self.inside.of_instance.items) (sym c.tell_entry.ensures)
    (type_tables c.self.inside.names c.self.inside.types c.self.inside.globals c.self.inside.variables c.self.inside.first c.self.inside.last c.self.inside.values.items c.self.inside.fields.items c.self.inside.all.items c.self.inside.inherited.items c.self.inside.of_instance.items c.self.invariant c.args.place c.args.kind)
