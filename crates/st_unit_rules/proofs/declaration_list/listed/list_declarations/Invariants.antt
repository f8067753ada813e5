use Rattle.std.proofs.Common.{◌≡◌, ◌++◌, map, drop}
use Rattle.std.specs.Prelude.{flat_map}
use Rattle.st_unit_rules.specs.declared_names.Declarations.{declarations_of}
use Rattle.st_unit_rules.specs.declaration_list.Listed.{declared_as}
use Rattle.st_unit_rules.proofs.declaration_list.listed.list_declarations.Given as goal

abbrev pub invariant-loop-decl : goal.invariant-loop-decl
invariant-loop-decl l = map declared_as l.list.items ++ flat_map declarations_of (drop l.decl-index l.decls) ≡ flat_map declarations_of l.decls
