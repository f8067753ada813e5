-- Names, as the code lends them.
use Rattle.std.specs.Prelude.{List, map}
use Rattle.std.proofs.Common.{Bor}
use Rattle.st_tree.specs.declared.name.Name.{Name}

abbrev pub names_of : List (Bor Name) → List Name
names_of ns = map (λ n. n.now) ns
