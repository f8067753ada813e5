use Rattle.std.proofs.Common.{◌≡◌, ◌++◌, drop}
use Rattle.st_rules.specs.Classes.{classes_in}
use Rattle.declared_symbols.specs.untold_names.Untold.{untold_classes}
use Rattle.declared_symbols.specs.unit_untold.Private.Counts.{classes_from}
use Rattle.declared_symbols.proofs.unit_untold.names.add_classes.Given as goal

-- what was declared, and what the rest declares, is all
abbrev pub invariant-loop-decl : goal.invariant-loop-decl
invariant-loop-decl l = l.list ++ classes_from l.decls l.number (classes_in (drop l.decl-index l.decls)) ≡ untold_classes l.decls
