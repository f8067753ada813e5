-- The innermost call.
use Rattle.std.specs.Prelude.{List, [], ◌∷◌, Option, Some, None}
use Rattle.st_meaning.specs.State.{Frame}

abbrev pub top_of : List Frame → Option Frame
top_of [] = None
top_of (f ∷ fs) = Some f
