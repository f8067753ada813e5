use Rattle.std.proofs.Common.{◌≡◌, ◌++◌, drop, map}
use Rattle.type_resolution.specs.declared_variables.Private.Told.{told_as, locals_told}
use Rattle.type_resolution.proofs.declared_variables.locals.add_numbered.Given as goal

-- what was declared, and what the rest declares, is all
abbrev pub invariant-loop-name : goal.invariant-loop-name
invariant-loop-name l =
    (l.list ++ locals_told l.next.parameter l.next.other (map told_as (drop l.name-index l.names))) ≡ l.fn.list ++ locals_told l.fn.first.parameter l.fn.first.other (map told_as l.names)
