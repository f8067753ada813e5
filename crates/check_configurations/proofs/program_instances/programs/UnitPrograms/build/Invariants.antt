use Rattle.std.proofs.Common.{take}
use Rattle.st_unit_rules.specs.declared_names.Declarations.{programs_in}
use Rattle.check_configurations.specs.program_instances.Programs.{Has}
use Rattle.check_configurations.proofs.program_instances.programs.UnitPrograms.build.Given as goal

abbrev pub invariant-loop-decl : goal.invariant-loop-decl
invariant-loop-decl l = Has l.programs l.tables.decls (programs_in (take l.decl-index l.decls))
