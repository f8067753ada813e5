use Rattle.st_meaning.proofs.st_frame.Frame.{frame_laws}
use Rattle.st_meaning.proofs.st_frame.laws.frame_laws.Goals as goal

pub returns : goal.returns
returns c = frame_laws
