use Rattle.st_change.proofs.Stores.{plays_good}
use Rattle.st_change.proofs.one_thread.plays_keep.Goals as goal

pub returns : goal.returns
returns g c ok sources = plays_good g.J.Judge.accepts g.J.Judge.refuses sources ok
