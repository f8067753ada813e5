use Rattle.std.proofs.Common.{◌≡◌, ◌++◌, drop}
use Rattle.st_unit_rules.specs.declared_names.Declarations.{configurations_in}
use Rattle.st_check_decl.specs.unit_check.Private.Configured.{configurations_of}
use Rattle.st_check_decl.proofs.unit_check.configured.list_configurations.Given as goal

abbrev pub invariant-loop-decl : goal.invariant-loop-decl
invariant-loop-decl l = configurations_of l.list.items ++ configurations_in (drop l.decl-index l.decls) ≡ configurations_in l.decls
