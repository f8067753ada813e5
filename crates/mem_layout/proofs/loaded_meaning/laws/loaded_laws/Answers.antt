use Rattle.mem_layout.proofs.loaded_meaning.Frames.{loaded_frames}
use Rattle.mem_layout.proofs.loaded_meaning.laws.loaded_laws.Goals as goal

pub returns : goal.returns
returns g c = loaded_frames g.J.Judge.accepts g.J.Judge.refuses
