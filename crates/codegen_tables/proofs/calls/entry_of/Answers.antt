use Rattle.codegen_tables.proofs.NamedLaws.{named, unnamed}
use Rattle.codegen_tables.proofs.calls.entry_of.Goals as goal

pub returns-in-Some : goal.returns-in-Some
returns-in-Some c = named c.args.names.now c.in-Some.n c.args.name.now c.at.result.now c.in-Some.ensures.distinct c.in-Some.ensures.place c.at.ensures

pub returns-in-None : goal.returns-in-None
returns-in-None c = unnamed c.args.names.now c.args.name.now c.in-None.ensures.place
