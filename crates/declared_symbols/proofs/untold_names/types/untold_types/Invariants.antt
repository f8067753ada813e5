use Rattle.std.proofs.Common.{◌≡◌, ◌++◌, drop}
use Rattle.declared_symbols.specs.untold_names.Untold.{untold_types}
use Rattle.declared_symbols.proofs.untold_names.types.untold_types.Given as goal

-- what was declared, and what the rest declares, is all
abbrev pub invariant-loop-decl : goal.invariant-loop-decl
invariant-loop-decl l = l.list ++ untold_types (drop l.decl-index l.decls) ≡ untold_types l.decls
