-- What a first load and the plays behind it come to.
use Rattle.std.specs.Prelude.{ℕ, List}
use Rattle.plc_text.specs.declared.refusal.Refusal.{Refusal}
use Rattle.cycle_journal.specs.declared.play.Play.{Play}
use Rattle.cycle_journal.specs.Interleaving.{InOrder}
use Rattle.st_values.specs.Program.{Program}
use Rattle.st_change.specs.OneThread.{OneThread}
use Rattle.reference_journal.specs.Loading.{HookRefuses}
use Rattle.reference_journal.specs.declared.played.Played.{Played}
use Rattle.reference_journal.specs.declared.played.Played.TheVariants as played

-- What texts are accepted, as which program, and with what they are refused; the texts of the sources.
module _ (Accepts : List ℕ → Program → Type 0) (Refuses : List ℕ → Refusal → Type 0) (sources : List (List ℕ)) where
  -- the entries of a run on one thread of the text, in the order of the plays; or the refusal by a hook of the first load
  abbrev pub IsPlayed : List ℕ → Program → List Play → Played → Type 0
  IsPlayed text p plays (played.Entries entries) = OneThread Accepts Refuses sources text plays entries × InOrder plays entries
  IsPlayed text p plays (played.Refused r) = HookRefuses p r
