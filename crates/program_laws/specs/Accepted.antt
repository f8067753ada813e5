-- Programs that are accepted, and states that come of them.
use Rattle.std.specs.Prelude.{ℕ, List}
use Rattle.st_values.specs.Program.{Program}
use Rattle.st_meaning.specs.st_frame.Good.{Good}
use Rattle.st_change.specs.OneThread.{Controller}
use Rattle.accepted_texts.specs.st_accepted.Judge.{Accepts}

-- some text is accepted as the program
pub record IsAccepted (p : Program) : Type 0 where
  pub text : List ℕ
  pub accepted : Accepts text p

-- the program is accepted, and the store is one that it may have
pub record IsSound (c : Controller) : Type 0 where
  pub program : IsAccepted c.program
  pub store : Good c.program c.store
