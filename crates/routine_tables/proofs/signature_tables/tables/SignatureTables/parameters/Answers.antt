use Rattle.routine_tables.proofs.signature_tables.DeclarerLaws.{found_is, none_is}
use Rattle.routine_tables.proofs.signature_tables.tables.SignatureTables.parameters.Goals as goal

pub returns-in-Some : goal.returns-in-Some
returns-in-Some c = found_is c.args.tables.now c.args.self.now c.requires c.args.interface c.args.name.now _ c.methods_named-methods.ensures _ c.in-Some.ensures

pub returns-in-None : goal.returns-in-None
returns-in-None c = none_is c.args.tables.now c.args.self.now c.requires c.args.interface c.args.name.now _ c.methods_named-methods.ensures c.in-None.ensures
