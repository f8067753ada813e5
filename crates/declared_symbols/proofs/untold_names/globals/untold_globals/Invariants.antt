use Rattle.std.proofs.Common.{◌≡◌, ◌++◌, drop}
use Rattle.declared_symbols.specs.untold_names.Untold.{untold_globals}
use Rattle.declared_symbols.proofs.untold_names.globals.untold_globals.Given as goal

-- what was declared, and what the rest declares, is all
abbrev pub invariant-loop-decl : goal.invariant-loop-decl
invariant-loop-decl l = (l.list ++ untold_globals l.next.region l.next.function (drop l.decl-index l.decls)) ≡ untold_globals 0 0 l.decls
