-- Initial values that are lent.
use Rattle.std.specs.Borrow.{Bor}
use Rattle.std.specs.Prelude.{List, map}
use Rattle.st_tree.specs.declared.initial.Init.{Init}
use Rattle.st_tree.specs.declared.program.Note.{Note}
use Rattle.st_tree.specs.Initial.{Initial, initial_of}

-- the values to which references lead
abbrev pub inits_of : List (Bor (Init Note)) → List (Initial Note)
inits_of is = map (λ i. initial_of i.now) is
