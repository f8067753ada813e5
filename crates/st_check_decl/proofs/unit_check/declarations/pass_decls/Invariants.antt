use Rattle.std.proofs.Common.{drop}
use Rattle.st_check_decl.proofs.unit_check.DeclsLaws.{DeclsWent}
use Rattle.st_check_decl.proofs.unit_check.declarations.pass_decls.Given as goal

abbrev pub invariant-loop-decl : goal.invariant-loop-decl
invariant-loop-decl l = DeclsWent l.side.tables.now.decls l.initial.p l.p l.decls (drop l.decl-index l.decls)
