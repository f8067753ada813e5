-- What the parts of a list give.
use Rattle.std.specs.Prelude.{List, [], ◌∷◌, replicate}
use Rattle.st_tree.specs.declared.program.Note.{Note}
use Rattle.st_tree.specs.Initial.{Initial, Part, One, Repeated}
use Rattle.st_tree.specs.Number.{number_of}

abbrev pub part_gives : Part Note → List (Initial Note)
part_gives (One i) = i ∷ []
part_gives (Repeated line count i) = replicate (number_of count) i
