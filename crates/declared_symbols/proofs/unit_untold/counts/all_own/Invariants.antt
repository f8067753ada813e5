use Rattle.std.proofs.Common.{◌≡◌, ◌++◌, drop}
use Rattle.declared_symbols.specs.unit_untold.Private.Counts.{own_in}
use Rattle.declared_symbols.proofs.unit_untold.counts.all_own.Given as goal

-- what was counted, and what the rest counts, is all
abbrev pub invariant-loop-decl : goal.invariant-loop-decl
invariant-loop-decl l = l.list.items ++ own_in (drop l.decl-index l.decls) ≡ own_in l.decls
