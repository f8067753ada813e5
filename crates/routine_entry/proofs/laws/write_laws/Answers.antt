use Rattle.routine_entry.proofs.Writes.{sets_commute, sets_then_push}
use Rattle.routine_entry.proofs.laws.write_laws.Goals as goal

pub returns : goal.returns
returns c = record {
  commute = λ own j k a b xs line s h. sets_commute own j k a b xs line s h;
  behind_frame = λ own given f line s. sets_then_push own given f line s;
}
