use Rattle.std.proofs.Common.{◌≡◌, map, take}
use Rattle.st_unit_rules.specs.declared_names.UnitNames.{prototype_declared}
use Rattle.symbol_table.specs.unit_names.Private.Known.{decls_of, names_of}
use Rattle.symbol_table.proofs.unit_names.routines.prototypes.Given as goal

abbrev pub invariant-loop-method : goal.invariant-loop-method
invariant-loop-method l = l.list ≡ map (prototype_declared (decls_of l.known) (names_of l.known)) (take l.method-index l.methods)
