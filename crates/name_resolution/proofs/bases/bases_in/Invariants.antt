use Rattle.std.proofs.Common.{◌≡◌, ◌++◌, drop}
use Rattle.st_rules.specs.Classes.{classes_in}
use Rattle.name_resolution.specs.Private.Bases.{bases_by}
use Rattle.name_resolution.proofs.bases.bases_in.Given as goal

-- what is found, with what is left, is what all give
abbrev pub invariant-loop-decl : goal.invariant-loop-decl
invariant-loop-decl l = l.bases.items ++ bases_by (classes_in l.classes.decls) (classes_in (drop l.decl-index l.decls)) ≡ bases_by (classes_in l.classes.decls) (classes_in l.decls)
