use Rattle.check_configurations.proofs.program_instances.ProgramLaws.{named_at, named_none}
use Rattle.check_configurations.proofs.program_instances.programs.UnitPrograms.program_named.Goals as goal

pub returns-in-Some : goal.returns-in-Some
returns-in-Some c = λ decls h. named_at c.args.self.now decls c.args.name.now h c.in-Some.place c.program_at.result c.in-Some.ensures c.program_at.ensures

pub returns-in-None : goal.returns-in-None
returns-in-None c = λ decls h. named_none c.args.self.now decls c.args.name.now h c.in-None.ensures
