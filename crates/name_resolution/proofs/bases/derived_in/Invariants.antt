use Rattle.std.proofs.Common.{◌≡◌, ◌++◌, drop, map}
use Rattle.st_rules.specs.Classes.{classes_in}
use Rattle.name_resolution.specs.Private.Bases.{is_derived}
use Rattle.name_resolution.proofs.bases.derived_in.Given as goal

-- what is found, with what is left, is what all give
abbrev pub invariant-loop-decl : goal.invariant-loop-decl
invariant-loop-decl l = l.derived.items ++ map is_derived (classes_in (drop l.decl-index l.decls)) ≡ map is_derived (classes_in l.decls)
