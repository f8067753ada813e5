use Rattle.st_change.proofs.Answers.{one_answer}
use Rattle.st_change.proofs.one_thread.one_answer.Goals as goal

pub returns : goal.returns
returns g c sources = one_answer g.J.Judge.accepts g.J.Judge.refuses sources g.J.Judge.judges
