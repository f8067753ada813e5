use Rattle.std.proofs.Common.{◌∙◌, sym, ap}
use Rattle.st_rules.specs.Classes.{classes_in}
use Rattle.st_rules.specs.Interfaces.{interfaces_in}
use Rattle.class_tables.specs.Private.Found as found
use Rattle.class_tables.proofs.BridgeLaws.{interfaces_long}
use Rattle.class_tables.proofs.TableLaws.{conforms_instance, conforms_reference, conforms_interface}
use Rattle.class_tables.proofs.tables.ClassTables.conforms.Goals as goal

pub conforms_to-requires : goal.conforms_to-requires
conforms_to-requires c =
    let i = c.self.inside in
    c.self.invariant.interface_names.count ∙ sym (interfaces_long (classes_in i.of.value.decls) (interfaces_in i.of.value.decls) i.rows c.self.invariant.are_rows)

pub returns-in-Instance : goal.returns-in-Instance
returns-in-Instance c =
    let i = c.self.inside in
    rw (← c.self.view_is) (conforms_instance (classes_in i.of.value.decls) (interfaces_in i.of.value.decls) i.names i.rows i.settled i.reach.items c.self.invariant c.args.class c.in-Instance.other c.args.target.now c.has_above.result c.in-Instance.is c.has_above.ensures)

pub returns-in-Reference : goal.returns-in-Reference
returns-in-Reference c =
    let i = c.self.inside in
    rw (← c.self.view_is) (conforms_reference (classes_in i.of.value.decls) (interfaces_in i.of.value.decls) i.names i.rows i.settled i.reach.items c.self.invariant c.args.class c.in-Reference.other c.args.target.now c.has_above-in-Reference.result c.in-Reference.is c.has_above-in-Reference.ensures)

pub returns-in-Interface : goal.returns-in-Interface
returns-in-Interface c =
    let i = c.self.inside in
    rw (← c.self.view_is) (conforms_interface (classes_in i.of.value.decls) (interfaces_in i.of.value.decls) i.names i.rows i.settled i.reach.items c.self.invariant c.args.class c.in-Interface.interface c.args.target.now c.conforms_to.result c.in-Interface.is
    (c.conforms_to.ensures ∙ ap (λ rs. found.conforms_to i.rows rs c.args.class c.in-Interface.interface) c.deref.ensures.value))
