use Rattle.call_forms.proofs.LongerRuns.{same_arguments, same_outputs}
use Rattle.call_forms.proofs.laws.longer_laws.Goals as goal

pub returns : goal.returns
returns c = record {
  gives = λ rest p enter g x xs ps left h. same_arguments rest p enter g x xs ps left h;
  takes = λ rest p enter g x xs ps left own f h. same_outputs rest p enter g x xs ps left own f h;
}
