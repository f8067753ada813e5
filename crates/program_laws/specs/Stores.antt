-- The stores of accepted programs are good: at the beginning, behind a first load, a change and each play.
use Rattle.std.specs.Prelude.{◌≡◌, ℕ, List}
use Rattle.cycle_journal.specs.declared.entry.Answer.{Answer}
use Rattle.cycle_journal.specs.declared.entry.Entry.{Entry}
use Rattle.cycle_journal.specs.declared.play.Play.{Play}
use Rattle.st_values.specs.Program.{Program}
use Rattle.st_values.specs.Value.{Store}
use Rattle.st_values.specs.Initial.{initial_store}
use Rattle.st_meaning.specs.st_frame.Good.{Good}
use Rattle.st_meaning.specs.st_frame.Promise.Declarations.{Each}
use Rattle.st_change.specs.Hook.{Hook, ran, run_hooks}
use Rattle.st_change.specs.Change as change
use Rattle.st_change.specs.OneThread.{Controller, One, OneThread}
use Rattle.st_change.specs.StoreLaws.{IsHook, Timely}
use Rattle.accepted_texts.specs.st_accepted.Judge.{Accepts, Refuses}
use Rattle.program_laws.specs.Accepted.{IsAccepted, IsSound}

pub record AcceptedStores : Type 0 where
  pub initial : (p : Program) → IsAccepted p → Good p (initial_store p)
  -- hooks leave a good store good
  pub hooks : (p : Program) (hs : List Hook) (s t : Store) (n m : ℕ) → IsAccepted p → Each (IsHook p) hs → Good p s → run_hooks p hs s n ≡ ran t m → Good p t
  pub start : (p : Program) (s : Store) (n : ℕ) → IsAccepted p → change.start p ≡ ran s n → Good p s
  pub change : (old new : Program) (before s : Store) (n : ℕ) → IsAccepted old → IsAccepted new → Good old before → change.change old new before ≡ ran s n → Good new s
  -- a play leaves a sound state sound, and a run on one thread ends in one
  pub play : (sources : List (List ℕ)) (c d : Controller) (p : Play) (a : Answer) → Timely p → One Accepts Refuses sources c p a d → IsSound c → IsSound d
  pub run : (sources : List (List ℕ)) (text : List ℕ) (plays : List Play) (entries : List Entry) (o : OneThread Accepts Refuses sources text plays entries) → Each Timely plays → IsSound o.end
