use Rattle.std.proofs.Common.{◌≡◌, ◌++◌, map, drop}
use Rattle.st_rules.specs.Classes.{methods_in}
use Rattle.declared_symbols.specs.untold_names.Untold.{untold_method}
use Rattle.declared_symbols.proofs.untold_names.routines.untold_methods.Given as goal

-- what was declared, and what the rest declares, is all
abbrev pub invariant-loop-member : goal.invariant-loop-member
invariant-loop-member l = l.list ++ map untold_method (methods_in (drop l.member-index l.members)) ≡ map untold_method (methods_in l.members)
