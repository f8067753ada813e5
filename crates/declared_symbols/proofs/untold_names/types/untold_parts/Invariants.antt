use Rattle.std.proofs.Common.{◌≡◌, ◌++◌, map, drop}
use Rattle.st_unit_rules.specs.declared_names.Declarations.{entries_in}
use Rattle.declared_symbols.specs.untold_names.Untold.{untold_parts}
use Rattle.declared_symbols.proofs.untold_names.types.untold_parts.Given as goal

-- what was found, and what the rest has, is all
abbrev pub invariant-loop-decl : goal.invariant-loop-decl
invariant-loop-decl l = l.list ++ map (λ t. untold_parts t.body) (entries_in (drop l.decl-index l.decls)) ≡ map (λ t. untold_parts t.body) (entries_in l.decls)
