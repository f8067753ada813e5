use Rattle.std.proofs.Common.{◌≡◌, ◌≤◌, ◌+◌, length, drop}
use Rattle.st_rules.specs.Classes.{classes_in}
use Rattle.declared_symbols.proofs.class_chains.chains.count_classes.Given as goal

abbrev pub invariant-loop-decl : goal.invariant-loop-decl
invariant-loop-decl l = record {
  whole : l.count + length (classes_in (drop l.decl-index l.decls)) ≡ length (classes_in l.decls);
  few : l.count ≤ l.decl-index;
}
